-- The types that buffers have, and their parts.
use Rattle.std.proofs.Common.{◌≡◌, ℕ, zero, suc, ◌<◌, ◌≤◌, ◌⊎◌, inl, inr, Bool, true, false, ◌&&◌, nat_eq, List, [], ◌∷◌, length, drop, slice_get, slice_index, IsTrue, Option, Some, None, refl, sym, ap, subst, ◌∙◌, arith}
use Rattle.std.specs.List.{list_any}
use Rattle.std.proofs.lemmas.Bool.{eqb-true, eq-eqb}
use Rattle.std.proofs.Math.Logic.{⊎_elim}
use Rattle.spirv_words.specs.declared.opcodes.Op.{Op}
use Rattle.spirv_words.specs.declared.opcodes.Op.TheVariants.{TypeArray, TypeRuntimeArray, TypeStruct, TypePointer, Variable}
use Rattle.spirv_words.specs.declared.images.Instruction.{Instruction}
use Rattle.spirv_words.specs.declared.images.Image.{Image}
use Rattle.spirv_words.specs.Layouts as layouts
use Rattle.spirv_words.specs.Machine.{if_some, result_of, place_of}
use Rattle.image_lookup.specs.declared.sorts.Sort.{Sort}
use Rattle.image_lookup.specs.declared.sorts.Sort.TheVariants.{PointerType}
use Rattle.image_lookup.specs.Sorts.{sort_of}
use Rattle.image_lookup.specs.Lookups.{sort, operands, operand}
use Rattle.image_places.specs.declared.roles.Role.TheVariants.{Use}
use Rattle.image_places.specs.Roles.{text_end, role_of}
use Rattle.image_places.specs.Places.{function_of, block_of}
use Rattle.image_rules.specs.Ids.{role_in}
use Rattle.image_declarations.specs.Types.{no_facts, type_facts}
use Rattle.image_declarations.specs.Reach.{pointed_by, is_buffer_class, buffer_of, wrapper_of, parts_behind, parts_of, is_id, adds, reached, wraps}
use Rattle.image_declarations.specs.Reach as reaches
use Rattle.image_declarations.specs.Holdings.{is_reached, is_wrapper}
use Rattle.image_operands.specs.Marks.{is_variable_sort, is_variable}
use Rattle.call_graph.proofs.Walks.{second-true}
use Rattle.call_graph.proofs.Visits.{or-cases, or-left, or-right}
use Rattle.spirv_check.specs.Valid.{Valid}
use Rattle.image_facts.proofs.Rules.{right-layout, defined-once, used-defined, some-same}
use Rattle.image_facts.proofs.Made.{made, same-instruction}
use Rattle.image_facts.proofs.Sorts.{sort-is, operands-are}
use Rattle.image_facts.proofs.Fixpoint.{struct-role, after-place}
use Rattle.image_facts.proofs.Facts.{facts-before}
use Rattle.image_facts.proofs.Shapes.{declares, IsDeclared, layout, declared-pointer}

-- ---- what adds a type

pub record AddedBy (code is : List Instruction) (id : ℕ) : Type 0 where
  pub place : ℕ
  pub instruction : Instruction
  pub stands : slice_get is place ≡ Some instruction
  pub added : adds code instruction (reached code (drop (suc place) is)) id ≡ true

reached-by : (code is : List Instruction) (id : ℕ) → reached code is id ≡ true → AddedBy code is id
reached-by code [] id h = cc
reached-by code (i ∷ is) id h = either (or-cases (adds code i (reached code is) id) (reached code is id) h) (λ r. reached-by code is id r)
  where
    either : (adds code i (reached code is) id ≡ true) ⊎ (reached code is id ≡ true) → (reached code is id ≡ true → AddedBy code is id) → AddedBy code (i ∷ is) id
    either (inl a) go = record { place = 0; instruction = i; stands = refl; added = a }
    either (inr r) go = let b = go r in record { place = suc b.place; instruction = b.instruction; stands = b.stands; added = b.added }

reached-on : (code is : List Instruction) (id j m : ℕ) (i : Instruction) → slice_get is j ≡ Some i
    → adds code i (reached code (drop (suc j) is)) id ≡ true → m ≤ j → reached code (drop m is) id ≡ true
reached-on code [] id j m i h a l = cc
reached-on code (x ∷ is) id zero zero i h a l =
    let same : x ≡ i = cc in
    or-left (adds code x (reached code is) id) (reached code is id) (ap (λ (y : Instruction). adds code y (reached code is) id) same ∙ a)
reached-on code (x ∷ is) id zero (suc m) i h a l = absurd (omega arith)
reached-on code (x ∷ is) id (suc j) zero i h a l =
    or-right (adds code x (reached code is) id) (reached code is id) (reached-on code is id j 0 i h a (omega arith))
reached-on code (x ∷ is) id (suc j) (suc m) i h a l = reached-on code is id j m i h a (omega arith)

-- the instruction is the variable of a buffer of this type
pub record IsOfBuffer (code : List Instruction) (i : Instruction) (id : ℕ) : Type 0 where
  pub op : i.op ≡ Variable
  pub class : is_buffer_class (slice_index i.operands 2) ≡ true
  pub pointer : sort code (slice_index i.operands 0) ≡ PointerType
  pub pointee : operand code (slice_index i.operands 0) 2 ≡ id

-- or it declares a type that a buffer has, and this is one of its parts
pub record IsPartOf (code : List Instruction) (i : Instruction) (id : ℕ) : Type 0 where
  pub part : list_any (nat_eq id) (parts_of i) ≡ true

pointed-to : (s : Sort) (to u : ℕ) → pointed_by s to ≡ Some u → (s ≡ PointerType) × (to ≡ u)
pointed-to PointerType to u e = (refl, some-same e)
pointed-to s to u e = cc

variable-to : (op : Op) (c : Bool) (o : Option ℕ) (u : ℕ) → reaches.is_variable op c o ≡ Some u → (op ≡ Variable) × (c ≡ true) × (o ≡ Some u)
variable-to Variable true o u e = (refl, refl, e)
variable-to Variable false o u e = cc
variable-to op c o u e = cc

pub added-kind : (code : List Instruction) (i : Instruction) (f : ℕ → Bool) (id : ℕ) → adds code i f id ≡ true → IsOfBuffer code i id ⊎ IsPartOf code i id
added-kind code i f id h = either (buffer_of code i) refl h
  where
    either : (o : Option ℕ) → buffer_of code i ≡ o
        → if_some o (f (slice_index i.operands 0) && list_any (nat_eq id) (parts_of i)) (λ t. nat_eq t id) ≡ true → IsOfBuffer code i id ⊎ IsPartOf code i id
    either None e h = inr (record { part = second-true (f (slice_index i.operands 0)) (list_any (nat_eq id) (parts_of i)) h })
    either (Some u) e h =
        let a = variable-to i.op (is_buffer_class (slice_index i.operands 2)) (reaches.pointed code (slice_index i.operands 0)) u e in
        let b = pointed-to (sort code (slice_index i.operands 0)) (operand code (slice_index i.operands 0) 2) u a.2 in
        inl (record { op = a.0; class = a.1; pointer = b.0; pointee = b.1 ∙ eqb-true u id h })

pub any-place : (id : ℕ) (ts : List ℕ) → list_any (nat_eq id) ts ≡ true → (j : ℕ) × (j < length ts) × (slice_index ts j ≡ id)
any-place id [] h = cc
any-place id (t ∷ ts) h = either (or-cases (nat_eq id t) (list_any (nat_eq id) ts) h) (λ r. any-place id ts r)
  where
    either : (nat_eq id t ≡ true) ⊎ (list_any (nat_eq id) ts ≡ true) → (list_any (nat_eq id) ts ≡ true → (j : ℕ) × (j < length ts) × (slice_index ts j ≡ id))
        → (j : ℕ) × (j < length (t ∷ ts)) × (slice_index (t ∷ ts) j ≡ id)
    either (inl e) go = (0, omega arith, sym (eqb-true id t e))
    either (inr r) go = let p = go r in (suc p.0, omega (arith, p.1), p.2)

pub any-of : (id : ℕ) (ts : List ℕ) (j : ℕ) → j < length ts → slice_index ts j ≡ id → list_any (nat_eq id) ts ≡ true
any-of id [] j l e = absurd (omega arith)
any-of id (t ∷ ts) zero l e = or-left (nat_eq id t) (list_any (nat_eq id) ts) (eq-eqb id t (sym e))
any-of id (t ∷ ts) (suc j) l e = or-right (nat_eq id t) (list_any (nat_eq id) ts) (any-of id ts j (omega arith) e)

cc-from : {A : Type 0} → false ≡ true → A
cc-from e = cc

-- a part is an operand that is used
record IsUsed (i : Instruction) (id : ℕ) : Type 0 where
  pub at : ℕ
  pub within : at < length i.operands
  pub used : role_in i at ≡ Use
  pub is : slice_index i.operands at ≡ id

used-by : (op : Op) (os : List ℕ) (id : ℕ) → list_any (nat_eq id) (parts_behind (sort_of op) (drop 1 os)) ≡ true → IsUsed (declares op os) id
used-by TypeArray (r ∷ t ∷ os) id h =
    ⊎_elim (λ e. record { at = 1; within = omega arith; used = refl; is = sym (eqb-true id t e) }) (λ e. cc-from e) (or-cases (nat_eq id t) false h)
used-by TypeArray (r ∷ []) id h = cc
used-by TypeArray [] id h = cc
used-by TypeRuntimeArray (r ∷ t ∷ os) id h =
    ⊎_elim (λ e. record { at = 1; within = omega arith; used = refl; is = sym (eqb-true id t e) }) (λ e. cc-from e) (or-cases (nat_eq id t) false h)
used-by TypeRuntimeArray (r ∷ []) id h = cc
used-by TypeRuntimeArray [] id h = cc
used-by TypeStruct (r ∷ ts) id h =
    let p = any-place id ts h in record { at = suc p.0; within = omega (arith, p.1); used = struct-role p.0; is = p.2 }
used-by TypeStruct [] id h = cc
used-by op os id h = cc

pointer-long : (os : List ℕ) → IsTrue (layouts.fits TypePointer os) → 2 < length os
pointer-long (r ∷ c ∷ t ∷ []) l = omega arith
pointer-long os l = cc

variable-form : (os : List ℕ) → IsTrue (layouts.fits Variable os) → (x : ℕ) × (result_of Variable os ≡ Some x) × (0 < length os)
variable-form (t ∷ r ∷ c ∷ []) l = (r, refl, omega arith)
variable-form os l = cc

-- ---- what wraps

record WrappedBy (code is : List Instruction) (id : ℕ) : Type 0 where
  pub place : ℕ
  pub instruction : Instruction
  pub stands : slice_get is place ≡ Some instruction
  pub wraps : wrapper_of code instruction ≡ Some id

is-id : (o : Option ℕ) (id : ℕ) → is_id o id ≡ true → o ≡ Some id
is-id None id h = cc
is-id (Some t) id h = ap Some (eqb-true t id h)

wrapped-by : (code is : List Instruction) (id : ℕ) → wraps code is id ≡ true → WrappedBy code is id
wrapped-by code [] id h = cc
wrapped-by code (i ∷ is) id h = either (or-cases (is_id (wrapper_of code i) id) (wraps code is id) h) (λ r. wrapped-by code is id r)
  where
    either : (is_id (wrapper_of code i) id ≡ true) ⊎ (wraps code is id ≡ true) → (wraps code is id ≡ true → WrappedBy code is id) → WrappedBy code (i ∷ is) id
    either (inl a) go = record { place = 0; instruction = i; stands = refl; wraps = is-id (wrapper_of code i) id a }
    either (inr r) go = let b = go r in record { place = suc b.place; instruction = b.instruction; stands = b.stands; wraps = b.wraps }

wrapper-means : (code : List Instruction) (id : ℕ) → is_wrapper code id ≡ true → wraps code code id ≡ true
unfolding is_wrapper
wrapper-means code id h = h

reached-means : (code : List Instruction) (id : ℕ) → is_reached code id ≡ true → reached code code id ≡ true
unfolding is_reached
reached-means code id h = h

means-reached : (code : List Instruction) (id : ℕ) → reached code code id ≡ true → is_reached code id ≡ true
unfolding is_reached
means-reached code id h = h

pub reached-adder : (code : List Instruction) (id : ℕ) → is_reached code id ≡ true → AddedBy code code id
reached-adder code id h = reached-by code code id (reached-means code id h)

-- ---- valid images

module _ (image : Image) (v : Valid image) where
  -- the id of a variable's instruction
  pub variable-id : (k : ℕ) (i : Instruction) → slice_get image.instructions k ≡ Some i → i.op ≡ Variable
      → (x : ℕ) × (is_variable image.instructions x ≡ true) × (operands image.instructions x ≡ i.operands)
  variable-id k i h o =
      let l : IsTrue (layouts.fits Variable i.operands) = ap (λ (q : Op). layouts.fits q i.operands) (sym o) ∙ right-layout image v k i h in
      let f = variable-form i.operands l in
      let res : result_of i.op i.operands ≡ Some f.0 = ap (λ (q : Op). result_of q i.operands) o ∙ f.1 in
      let m = made image.instructions f.0 k (defined-once image v k i f.0 h res) in
      let same : m.instruction ≡ i = same-instruction m.stands h in (
        f.0,
        ap is_variable_sort (sort-is image.instructions f.0 m.instruction m.defines ∙ ap (λ (y : Instruction). sort_of y.op) same ∙ ap sort_of o),
        operands-are image.instructions f.0 m.instruction m.defines ∙ ap (λ (y : Instruction). y.operands) same,
      )

  -- what adds a type with facts stands behind it
  added-behind : (id k j : ℕ) (i : Instruction) → place_of image.instructions id 0 ≡ Some k → (type_facts image.instructions id ≡ no_facts → ⊥)
      → slice_get image.instructions j ≡ Some i → IsOfBuffer image.instructions i id ⊎ IsPartOf image.instructions i id → k < j
  added-behind id k j i there some at (inl b) =
      let code = image.instructions in
      let t = slice_index i.operands 0 in
      let d = declared-pointer image v t b.pointer in
      let some-pointee : type_facts code (operand code t 2) ≡ no_facts → ⊥ = λ z. some (ap (type_facts code) (sym b.pointee) ∙ z) in
      let p = facts-before image v d.place (declares TypePointer (operands code t)) 2 d.stands
      (pointer-long (operands code t) (layout image v t TypePointer d)) refl some-pointee in
      let l : IsTrue (layouts.fits Variable i.operands) = ap (λ (q : Op). layouts.fits q i.operands) (sym b.op) ∙ right-layout image v j i at in
      let u = used-defined image v j i 0 at (variable-form i.operands l).2 (subst (λ (q : Op). role_of q (text_end q i.operands) 0 ≡ Use) (sym b.op) refl) in
      let same : u.place ≡ d.place = some-same (sym u.there ∙ d.there) in
      let stands : slice_get code u.place ≡ Some (declares TypePointer (operands code t)) = ap (slice_get code) same ∙ d.stands in
      let after = after-place code u.place j (function_of code (suc j)) (block_of code (suc j)) (declares TypePointer (operands code t)) stands refl u.holds in
      let place : k ≡ p.0 = some-same (sym there ∙ (ap (λ (x : ℕ). place_of code x 0) (sym b.pointee) ∙ p.1)) in
      omega (arith, p.2, after, same, place)
  added-behind id k j i there some at (inr b) =
      let code = image.instructions in
      let u = used-by i.op i.operands id b.part in
      let p = facts-before image v j i u.at at u.within u.used (λ z. some (ap (type_facts code) (sym u.is) ∙ z)) in
      let place : k ≡ p.0 = some-same (sym there ∙ (ap (λ (x : ℕ). place_of code x 0) (sym u.is) ∙ p.1)) in
      omega (arith, p.2, place)

  reached-behind : (id k : ℕ) → place_of image.instructions id 0 ≡ Some k → (type_facts image.instructions id ≡ no_facts → ⊥)
      → is_reached image.instructions id ≡ true → reached image.instructions (drop (suc k) image.instructions) id ≡ true
  reached-behind id k there some h =
      let code = image.instructions in
      let b = reached-by code code id (reached-means code id h) in
      let l = added-behind id k b.place b.instruction there some b.stands (added-kind code b.instruction (reached code (drop (suc b.place) code)) id b.added) in
      reached-on code code id b.place (suc k) b.instruction b.stands b.added l

  -- the parts of a type that a buffer has
  pub part-reached : (t e : ℕ) (op : Op) (d : IsDeclared image.instructions t op) → (type_facts image.instructions t ≡ no_facts → ⊥)
      → slice_index (operands image.instructions t) 0 ≡ t → buffer_of image.instructions (declares op (operands image.instructions t)) ≡ None
      → is_reached image.instructions t ≡ true → list_any (nat_eq e) (parts_of (declares op (operands image.instructions t))) ≡ true
      → is_reached image.instructions e ≡ true
  part-reached t e op d some first none h part =
      let code = image.instructions in
      let i = declares op (operands code t) in
      let f = reached code (drop (suc d.place) code) in
      let r : f t ≡ true = reached-behind t d.place d.there some h in
      let a : adds code i f e ≡ true =
      ap (λ (o : Option ℕ). if_some o (f (slice_index (operands code t) 0) && list_any (nat_eq e) (parts_of i)) (λ t. nat_eq t e)) none
      ∙ ap (λ (x : ℕ). f x && list_any (nat_eq e) (parts_of i)) first
      ∙ ap (λ (b : Bool). b && list_any (nat_eq e) (parts_of i)) r ∙ part in
      means-reached code e (reached-on code code e d.place 0 i d.stands a (omega arith))

  -- the type of a buffer
  pub buffer-reached : (k t : ℕ) (i : Instruction) → slice_get image.instructions k ≡ Some i → buffer_of image.instructions i ≡ Some t
      → is_reached image.instructions t ≡ true
  buffer-reached k t i h b =
      let code = image.instructions in
      let f = reached code (drop (suc k) code) in
      let a : adds code i f t ≡ true =
      ap (λ (o : Option ℕ). if_some o (f (slice_index i.operands 0) && list_any (nat_eq t) (parts_of i)) (λ u. nat_eq u t)) b ∙ eq-eqb t t refl in
      means-reached code t (reached-on code code t k 0 i h a (omega arith))

  -- a wrapper is what the variable of a storage buffer points to
  pub wrapper-variable : (t : ℕ) → is_wrapper image.instructions t ≡ true
      → (x : ℕ) × (is_variable image.instructions x ≡ true) × (operand image.instructions x 2 ≡ 12) × (operand image.instructions (operand image.instructions x 0) 2 ≡ t)
  wrapper-variable t h =
      let code = image.instructions in
      let w = wrapped-by code code t (wrapper-means code t h) in
      let i = w.instruction in
      let a = variable-to i.op (nat_eq (slice_index i.operands 2) 12) (reaches.pointed code (slice_index i.operands 0)) t w.wraps in
      let b = pointed-to (sort code (slice_index i.operands 0)) (operand code (slice_index i.operands 0) 2) t a.2 in
      let x = variable-id w.place i w.stands a.0 in (
        x.0,
        x.1,
        ap (λ (os : List ℕ). slice_index os 2) x.2 ∙ eqb-true (slice_index i.operands 2) 12 a.1,
        ap (λ (os : List ℕ). operand code (slice_index os 0) 2) x.2 ∙ b.1,
      )
