-- The facts of a type are those that its declaration says, with the facts of its parts.
use Rattle.std.proofs.Common.{◌≡◌, ℕ, zero, suc, ◌+◌, ◌*◌, ◌<◌, max, Bool, true, false, cond, ◌&&◌, ◌||◌, nat_eq, List, [], ◌∷◌, length, take, drop, slice_get, slice_index, IsTrue, Option, Some, None, refl, sym, ap, subst, ◌∙◌, arith}
use Rattle.std.specs.List.{list_any, list_all}
use Rattle.std.proofs.lemmas.Bool.{eq-eqb, eqb-true}
use Rattle.spirv_words.specs.declared.opcodes.Op.{Op}
use Rattle.spirv_words.specs.declared.opcodes.Op.TheVariants.{TypeBool, TypeInt, TypeVector, TypeArray, TypeRuntimeArray, TypeStruct}
use Rattle.spirv_words.specs.declared.images.Instruction.{Instruction}
use Rattle.spirv_words.specs.declared.images.Image.{Image}
use Rattle.spirv_words.specs.Layouts as layouts
use Rattle.spirv_words.specs.Machine.{if_some, result_of, place_of, definition_of}
use Rattle.image_lookup.specs.declared.sorts.Sort.{Sort}
use Rattle.image_lookup.specs.declared.sorts.Sort.TheVariants.{StructType}
use Rattle.image_lookup.specs.Sorts.{sort_of}
use Rattle.image_lookup.specs.Lookups.{sort, operands}
use Rattle.image_places.specs.declared.roles.Role.TheVariants.{Use}
use Rattle.image_places.specs.Roles.{text_end, role_of}
use Rattle.image_places.specs.Places.{function_of, block_of}
use Rattle.image_rules.specs.declared.table.Scope.TheVariants.{After}
use Rattle.image_rules.specs.Ids.{scope_of, role_in}
use Rattle.image_declarations.specs.declared.types.TypeFacts.{TypeFacts}
use Rattle.image_declarations.specs.Decorations.{stride_of, offset_of}
use Rattle.image_declarations.specs.Types.{length_of, end_of, span, fields_extent, no_facts, facts_by, facts_of, with_facts, known_after, type_facts}
use Rattle.spirv_check.specs.Valid.{Valid}
use Rattle.image_facts.proofs.Rules.{not-true, IsDefined, right-layout, defined-once, used-defined, some-same}
use Rattle.image_facts.proofs.Made.{IsMade, made, same-instruction, place-of, drop-at, behind-at}
use Rattle.image_facts.proofs.Sorts.{no-sort, sort-is, operands-are}
use Rattle.image_facts.proofs.Fixpoint.{struct-role, after-place}

-- ---- what has facts

abbrev has_facts : Op → Bool
has_facts TypeBool = true
has_facts TypeInt = true
has_facts TypeVector = true
has_facts TypeArray = true
has_facts TypeRuntimeArray = true
has_facts TypeStruct = true
has_facts op = false

facts-scope : (op : Op) (k f b : ℕ) → has_facts op ≡ true → scope_of op k f b ≡ After k
facts-scope TypeBool k f b e = refl
facts-scope TypeInt k f b e = refl
facts-scope TypeVector k f b e = refl
facts-scope TypeArray k f b e = refl
facts-scope TypeRuntimeArray k f b e = refl
facts-scope TypeStruct k f b e = refl
facts-scope op k f b e = cc

no-facts : (code : List Instruction) (known : ℕ → TypeFacts) (op : Op) (os : List ℕ) → has_facts op ≡ false → facts_by code known (sort_of op) os ≡ None
no-facts code known TypeBool os e = cc
no-facts code known TypeInt os e = cc
no-facts code known TypeVector os e = cc
no-facts code known TypeArray os e = cc
no-facts code known TypeRuntimeArray os e = cc
no-facts code known TypeStruct os e = cc
no-facts code known op os e = refl

first-result : (op : Op) (os : List ℕ) → has_facts op ≡ true → IsTrue (layouts.fits op os) → result_of op os ≡ Some (slice_index os 0)
first-result TypeBool (r ∷ os) e l = refl
first-result TypeBool [] e l = cc
first-result TypeInt (r ∷ os) e l = refl
first-result TypeInt [] e l = cc
first-result TypeVector (r ∷ os) e l = refl
first-result TypeVector [] e l = cc
first-result TypeArray (r ∷ os) e l = refl
first-result TypeArray [] e l = cc
first-result TypeRuntimeArray (r ∷ os) e l = refl
first-result TypeRuntimeArray [] e l = cc
first-result TypeStruct (r ∷ os) e l = refl
first-result TypeStruct [] e l = cc
first-result op os e l = cc

facts-there : (code : List Instruction) (known : ℕ → TypeFacts) (op : Op) (os : List ℕ) → has_facts op ≡ true → facts_by code known (sort_of op) os ≡ None → ⊥
facts-there code known TypeBool os e n = cc
facts-there code known TypeInt os e n = cc
facts-there code known TypeVector os e n = cc
facts-there code known TypeArray os e n = cc
facts-there code known TypeRuntimeArray os e n = cc
facts-there code known TypeStruct os e n = cc
facts-there code known op os e n = cc

-- ---- ids without facts

abbrev NeverFacts : List Instruction → List Instruction → ℕ → Type 0
NeverFacts code is t = (j : ℕ) (i : Instruction) → slice_get is j ≡ Some i → slice_index i.operands 0 ≡ t → has_facts i.op ≡ false

with-other : (code : List Instruction) (i : Instruction) (known : ℕ → TypeFacts) (t : ℕ) → (slice_index i.operands 0 ≡ t → has_facts i.op ≡ false)
    → with_facts code i known t ≡ known t
with-other code i known t n = either (nat_eq (slice_index i.operands 0) t) refl
  where
    keeps : (o : Option TypeFacts) → if_some o (known t) (λ f. cond false f (known t)) ≡ known t
    keeps None = refl
    keeps (Some f) = refl

    either : (b : Bool) → nat_eq (slice_index i.operands 0) t ≡ b → with_facts code i known t ≡ known t
    either true e =
        let same : slice_index i.operands 0 ≡ t = eqb-true (slice_index i.operands 0) t e in
        ap (λ (o : Option TypeFacts). if_some o (known t) (λ f. cond (nat_eq (slice_index i.operands 0) t) f (known t))) (no-facts code known i.op i.operands (n same))
    either false e =
        ap (λ (b : Bool). if_some (facts_of code known i) (known t) (λ f. cond b f (known t))) e ∙ keeps (facts_of code known i)

stays-known : (code is : List Instruction) (known : ℕ → TypeFacts) (t : ℕ) → NeverFacts code is t → known_after code is known t ≡ known t
stays-known code [] known t n = refl
stays-known code (i ∷ is) known t n =
    stays-known code is (with_facts code i known) t (λ j x. n (suc j) x) ∙ with-other code i known t (n 0 i refl)

known-front : (code is : List Instruction) (k : ℕ) (known : ℕ → TypeFacts)
    → known_after code is known ≡ known_after code (drop k is) (known_after code (take k is) known)
known-front code [] zero known = refl
known-front code [] (suc k) known = refl
known-front code (i ∷ is) zero known = refl
known-front code (i ∷ is) (suc k) known = known-front code is k (with_facts code i known)

-- ---- what facts are read

module _ (code : List Instruction) (known final : ℕ → TypeFacts) where
  all-same : (ts : List ℕ) → ((j : ℕ) → j < length ts → known (slice_index ts j) ≡ final (slice_index ts j))
      → list_all (λ t. (known t).is_data) ts ≡ list_all (λ t. (final t).is_data) ts
  all-same [] e = refl
  all-same (t ∷ ts) e =
      ap (λ (f : TypeFacts). f.is_data && list_all (λ t. (known t).is_data) ts) (e 0 (omega arith))
      ∙ ap (λ (b : Bool). (final t).is_data && b) (all-same ts (λ j l. e (suc j) (omega arith)))

  any-same : (ts : List ℕ) → ((j : ℕ) → j < length ts → known (slice_index ts j) ≡ final (slice_index ts j))
      → list_any (λ t. (known t).unbounded) ts ≡ list_any (λ t. (final t).unbounded) ts
  any-same [] e = refl
  any-same (t ∷ ts) e =
      ap (λ (f : TypeFacts). f.unbounded || list_any (λ t. (known t).unbounded) ts) (e 0 (omega arith))
      ∙ ap (λ (b : Bool). (final t).unbounded || b) (any-same ts (λ j l. e (suc j) (omega arith)))

  extent-same : (id n : ℕ) (ts : List ℕ) → ((j : ℕ) → j < length ts → known (slice_index ts j) ≡ final (slice_index ts j))
      → fields_extent code known id n ts ≡ fields_extent code final id n ts
  extent-same id n [] e = refl
  extent-same id n (t ∷ ts) e =
      ap (λ (f : TypeFacts). max (end_of (offset_of code id n) f.extent) (fields_extent code known id (n + 1) ts)) (e 0 (omega arith))
      ∙ ap (max (end_of (offset_of code id n) (final t).extent)) (extent-same id (n + 1) ts (λ j l. e (suc j) (omega arith)))

  abbrev as-facts : Bool → Bool → ℕ → Option TypeFacts
  as-facts d u e = Some (record { is_data = d; unbounded = u; extent = e })

  struct-same : (r : ℕ) (ts : List ℕ) → ((j : ℕ) → j < length ts → known (slice_index ts j) ≡ final (slice_index ts j))
      → facts_by code known StructType (r ∷ ts) ≡ facts_by code final StructType (r ∷ ts)
  struct-same r ts e =
      ap (λ (d : Bool). as-facts d (list_any (λ t. (known t).unbounded) ts) (fields_extent code known r 0 ts)) (all-same ts e)
      ∙ ap (λ (u : Bool). as-facts (list_all (λ t. (final t).is_data) ts) u (fields_extent code known r 0 ts)) (any-same ts e)
      ∙ ap (as-facts (list_all (λ t. (final t).is_data) ts) (list_any (λ t. (final t).unbounded) ts)) (extent-same r 0 ts e)

  facts-same : (op : Op) (os : List ℕ) → IsTrue (layouts.fits op os)
      → ((j : ℕ) → j < length os → role_of op (text_end op os) j ≡ Use → known (slice_index os j) ≡ final (slice_index os j))
      → facts_by code known (sort_of op) os ≡ facts_by code final (sort_of op) os
  facts-same TypeVector (r ∷ t ∷ n ∷ []) l e =
      ap (λ (f : TypeFacts). as-facts f.is_data false (4 * n)) (e 1 (omega arith) refl)
  facts-same TypeVector os l e = cc
  facts-same TypeArray (r ∷ t ∷ n ∷ []) l e =
      ap (λ (f : TypeFacts). as-facts f.is_data f.unbounded (span (length_of code n) (stride_of code r) f.extent)) (e 1 (omega arith) refl)
  facts-same TypeArray os l e = cc
  facts-same TypeStruct (r ∷ ts) l e = struct-same r ts (λ j m. e (suc j) (omega arith) (struct-role j))
  facts-same TypeStruct [] l e = cc
  facts-same op os l e = refl

-- ---- valid images

abbrev prior : List Instruction → ℕ → ℕ → TypeFacts
prior code k = known_after code (take k code) (λ id. no_facts)

abbrev pub facts_or : TypeFacts → Option TypeFacts → TypeFacts
facts_or known None = known
facts_or known (Some f) = f

-- the facts of a type by its declaration
abbrev pub told : List Instruction → Instruction → TypeFacts
told code i = facts_or no_facts (facts_of code (type_facts code) i)

module _ (image : Image) (v : Valid image) where
  once : (k q p t : ℕ) (y : Instruction) → place_of image.instructions t 0 ≡ Some p → slice_get (drop k image.instructions) q ≡ Some y
      → slice_index y.operands 0 ≡ t → has_facts y.op ≡ true → k + q ≡ p
  once k q p t y there at res has =
      let e : slice_get image.instructions (k + q) ≡ Some y = sym (behind-at image.instructions k q) ∙ at in
      let d = defined-once image v (k + q) y t e (first-result y.op y.operands has (right-layout image v (k + q) y e) ∙ ap Some res) in
      cc

  used-facts : (k : ℕ) (i : Instruction) (j : ℕ) → slice_get image.instructions k ≡ Some i → j < length i.operands → role_in i j ≡ Use
      → prior image.instructions k (slice_index i.operands j) ≡ type_facts image.instructions (slice_index i.operands j)
  unfolding type_facts
  used-facts k i j h l e =
      let t = slice_index i.operands j in
      let d = used-defined image v k i j h l e in
      let m = made image.instructions t d.place d.there in
      sym (ap (λ (f : ℕ → TypeFacts). f t) (known-front image.instructions image.instructions k (λ id. no_facts))
      ∙ stays-known image.instructions (drop k image.instructions) (prior image.instructions k) t
      (λ q y at res. not-true (has_facts y.op) (λ has. either d m q y at res has (has_facts m.instruction.op) refl)))
    where
      either : (d : IsDefined image.instructions k (slice_index i.operands j)) (m : IsMade image.instructions (slice_index i.operands j) d.place)
          (q : ℕ) (y : Instruction) → slice_get (drop k image.instructions) q ≡ Some y → slice_index y.operands 0 ≡ slice_index i.operands j
          → has_facts y.op ≡ true → (b : Bool) → has_facts m.instruction.op ≡ b → ⊥
      either d m q y at res has true e =
          let p : d.place < k = after-place image.instructions d.place k (function_of image.instructions (suc k)) (block_of image.instructions (suc k)) m.instruction m.stands (facts-scope m.instruction.op d.place _ _ e) d.holds in
          omega (arith, p, once k q d.place (slice_index i.operands j) y d.there at res has)
      either d m q y at res has false e =
          let o = once k q d.place (slice_index i.operands j) y d.there at res has in
          let a : slice_get image.instructions d.place ≡ Some y = ap (slice_get image.instructions) (sym o) ∙ (sym (behind-at image.instructions k q) ∙ at) in
          let same : m.instruction ≡ y = same-instruction m.stands a in
          let f : has_facts y.op ≡ false = subst (λ (z : Instruction). has_facts z.op ≡ false) same e in
          cc

  -- where a type with facts is declared
  declared-facts : (k : ℕ) (i : Instruction) (t : ℕ) → slice_get image.instructions k ≡ Some i → place_of image.instructions t 0 ≡ Some k
      → slice_index i.operands 0 ≡ t → (f : TypeFacts) → facts_of image.instructions (type_facts image.instructions) i ≡ Some f
      → type_facts image.instructions t ≡ f
  unfolding type_facts
  declared-facts k i t h there is f e =
      let known = prior image.instructions k in
      let same : facts_of image.instructions known i ≡ Some f =
      facts-same image.instructions known (type_facts image.instructions) i.op i.operands (right-layout image v k i h) (λ j l u. used-facts k i j h l u) ∙ e in
      ap (λ (g : ℕ → TypeFacts). g t) (known-front image.instructions image.instructions k (λ id. no_facts))
      ∙ ap (λ (l : List Instruction). known_after image.instructions l known t) (drop-at image.instructions k i h)
      ∙ stays-known image.instructions (drop (suc k) image.instructions) (with_facts image.instructions i known) t
      (λ q y at res. not-true (has_facts y.op) (λ has. omega (arith, once (suc k) q k t y there at res has)))
      ∙ ap (λ (o : Option TypeFacts). if_some o (known t) (λ f. cond (nat_eq (slice_index i.operands 0) t) f (known t))) same
      ∙ ap (λ (b : Bool). cond b f (known t)) (eq-eqb (slice_index i.operands 0) t is)

  -- where what is declared has none
  declared-none : (k : ℕ) (i : Instruction) (t : ℕ) → slice_get image.instructions k ≡ Some i → place_of image.instructions t 0 ≡ Some k
      → has_facts i.op ≡ false → type_facts image.instructions t ≡ no_facts
  unfolding type_facts
  declared-none k i t h there n =
      stays-known image.instructions image.instructions (λ id. no_facts) t
      (λ q y at res. not-true (has_facts y.op) (λ has. clash q y at res has))
    where
      clash : (q : ℕ) (y : Instruction) → slice_get image.instructions q ≡ Some y → slice_index y.operands 0 ≡ t → has_facts y.op ≡ true → ⊥
      clash q y at res has =
          let d = defined-once image v q y t at (first-result y.op y.operands has (right-layout image v q y at) ∙ ap Some res) in
          let p : q ≡ k = cc in
          let a : slice_get image.instructions k ≡ Some y = ap (slice_get image.instructions) (sym p) ∙ at in
          let same : i ≡ y = same-instruction h a in
          let f : has_facts y.op ≡ false = subst (λ (z : Instruction). has_facts z.op ≡ false) same n in
          cc

  -- an id that is not defined has none
  pub undefined-facts : (t : ℕ) → definition_of image.instructions t ≡ None → type_facts image.instructions t ≡ no_facts
  unfolding type_facts
  undefined-facts t none =
      stays-known image.instructions image.instructions (λ id. no_facts) t
      (λ q y at res. not-true (has_facts y.op) (λ has. clash q y at res has))
    where
      clash : (q : ℕ) (y : Instruction) → slice_get image.instructions q ≡ Some y → slice_index y.operands 0 ≡ t → has_facts y.op ≡ true → ⊥
      clash q y at res has =
          let d = defined-once image v q y t at (first-result y.op y.operands has (right-layout image v q y at) ∙ ap Some res) in
          let m = made image.instructions t q d in
          let e = m.defines in
          cc

  told-facts : (k : ℕ) (t : ℕ) (x : Instruction) (b : Bool) → slice_get image.instructions k ≡ Some x → place_of image.instructions t 0 ≡ Some k
      → result_of x.op x.operands ≡ Some t → has_facts x.op ≡ b → type_facts image.instructions t ≡ told image.instructions x
  told-facts k t x true h there res e =
      by-option (facts_of image.instructions (type_facts image.instructions) x) refl (facts-there image.instructions (type_facts image.instructions) x.op x.operands e)
    where
      by-option : (o : Option TypeFacts) → facts_of image.instructions (type_facts image.instructions) x ≡ o → (o ≡ None → ⊥)
          → type_facts image.instructions t ≡ facts_or no_facts o
      by-option None g n = absurd (n refl)
      by-option (Some f) g n =
          declared-facts k x t h there (some-same (sym (first-result x.op x.operands e (right-layout image v k x h)) ∙ res)) f g
  told-facts k t x false h there res e =
      declared-none k x t h there e
      ∙ ap (facts_or no_facts) (sym (no-facts image.instructions (type_facts image.instructions) x.op x.operands e))

  -- the facts of an id that is defined are those of its declaration
  pub facts-are : (t : ℕ) (x : Instruction) → definition_of image.instructions t ≡ Some x → type_facts image.instructions t ≡ told image.instructions x
  facts-are t x d =
      let p = place-of image.instructions t x d in
      told-facts p.place t x (has_facts x.op) p.stands p.there p.result refl

  -- a part with facts is declared before what it is a part of
  pub facts-before : (k : ℕ) (i : Instruction) (j : ℕ) → slice_get image.instructions k ≡ Some i → j < length i.operands → role_in i j ≡ Use
      → (type_facts image.instructions (slice_index i.operands j) ≡ no_facts → ⊥)
      → (p : ℕ) × (place_of image.instructions (slice_index i.operands j) 0 ≡ Some p) × (p < k)
  facts-before k i j h l e some =
      let d = used-defined image v k i j h l e in
      let m = made image.instructions (slice_index i.operands j) d.place d.there in
      (d.place, d.there, either d m (has_facts m.instruction.op) refl)
    where
      either : (d : IsDefined image.instructions k (slice_index i.operands j)) (m : IsMade image.instructions (slice_index i.operands j) d.place)
          (b : Bool) → has_facts m.instruction.op ≡ b → d.place < k
      either d m true e =
          after-place image.instructions d.place k (function_of image.instructions (suc k)) (block_of image.instructions (suc k)) m.instruction m.stands (facts-scope m.instruction.op d.place _ _ e) d.holds
      either d m false e = absurd (some (declared-none d.place m.instruction (slice_index i.operands j) m.stands d.there e))

  pub facts-placed : (t : ℕ) → (type_facts image.instructions t ≡ no_facts → ⊥) → (p : ℕ) × (place_of image.instructions t 0 ≡ Some p)
  facts-placed t some = either (definition_of image.instructions t) refl
    where
      either : (o : Option Instruction) → definition_of image.instructions t ≡ o → (p : ℕ) × (place_of image.instructions t 0 ≡ Some p)
      either None e = absurd (some (undefined-facts t e))
      either (Some x) e = let p = place-of image.instructions t x e in (p.place, p.there)

  -- by its sort and operands
  pub facts-by-sort : (t : ℕ) → type_facts image.instructions t
      ≡ facts_or no_facts (facts_by image.instructions (type_facts image.instructions) (sort image.instructions t) (operands image.instructions t))
  facts-by-sort t = either (definition_of image.instructions t) refl
    where
      either : (o : Option Instruction) → definition_of image.instructions t ≡ o → type_facts image.instructions t
          ≡ facts_or no_facts (facts_by image.instructions (type_facts image.instructions) (sort image.instructions t) (operands image.instructions t))
      either None e =
          undefined-facts t e
          ∙ ap (λ (s : Sort). facts_or no_facts (facts_by image.instructions (type_facts image.instructions) s (operands image.instructions t))) (sym (no-sort image.instructions t e))
      either (Some x) e =
          facts-are t x e
          ∙ ap (λ (s : Sort). facts_or no_facts (facts_by image.instructions (type_facts image.instructions) s x.operands)) (sym (sort-is image.instructions t x e))
          ∙ ap (λ (os : List ℕ). facts_or no_facts (facts_by image.instructions (type_facts image.instructions) (sort image.instructions t) os)) (sym (operands-are image.instructions t x e))
