-- What a declaration makes of its id is what the id stands for when all declarations are read.
use Rattle.std.proofs.Common.{◌≡◌, ℕ, zero, suc, ◌+◌, ◌<◌, Bool, true, false, cond, ◌&&◌, nat_le, List, [], ◌∷◌, length, take, drop, slice_get, slice_index, Option, Some, None, refl, sym, ap, subst, ◌∙◌, arith}
use Rattle.std.proofs.lemmas.Bool.{eq-eqb, ne_eqb, ltb-true, le-ltb}
use Rattle.spirv_words.specs.declared.opcodes.Op.{Op}
use Rattle.spirv_words.specs.declared.opcodes.Op.TheVariants.{TypeVoid, TypeBool, TypeInt, TypeVector, TypeArray, TypeRuntimeArray, TypeStruct, TypePointer, ConstantTrue, ConstantFalse, Constant, ConstantNull, Variable}
use Rattle.spirv_words.specs.declared.images.Instruction.{Instruction}
use Rattle.spirv_words.specs.declared.images.Image.{Image}
use Rattle.spirv_words.specs.Machine.{Shape, Shapes, Repeated, Unbounded, Fields, NoField, Field, PointerTo, Operand, at, if_some, offset, or_zero, decoration, result_of, place_of, Globals, Meaning, IsType, IsValue, Unknown, add, fields, on_shape, number_at, global_variable, null, meaning_of, is_function, declared}
use Rattle.spirv_words.specs.Runs.{undeclared}
use Rattle.image_lookup.specs.declared.sorts.Sort.{Sort}
use Rattle.image_lookup.specs.declared.sorts.Sort.TheVariants.{Number}
use Rattle.image_lookup.specs.Lookups.{sort, operand}
use Rattle.image_operands.specs.Operators.{is_int}
use Rattle.image_types.specs.Parts.{if_number, is_length, runtime_array_fits, array_fits}
use Rattle.image_types.specs.Rules.{rule_of}
use Rattle.image_types.specs.Checking.{context_at, meets}
use Rattle.call_graph.proofs.Walks.{second-true}
use Rattle.image_places.specs.declared.roles.Role.TheVariants.{Use, Literal}
use Rattle.image_places.specs.Roles.{text_end, role_of}
use Rattle.image_places.specs.Places.{function_of, block_of}
use Rattle.image_rules.specs.declared.table.Scope.{Scope}
use Rattle.image_rules.specs.declared.table.Scope.TheVariants.{After}
use Rattle.image_rules.specs.Ids.{scope_of, scope_at, holds, definition_at, role_in}
use Rattle.spirv_check.specs.Valid.{Valid}
use Rattle.image_facts.specs.Operands.{globals_of}
use Rattle.image_facts.proofs.Rules.{IsDefined, right-rule, defined-once, used-defined}
use Rattle.image_facts.proofs.Outside.{op-there, NoFunction, before-functions}
use Rattle.image_facts.proofs.Made.{IsMade, made, same-instruction, drop-at, behind-at}
use Rattle.image_facts.proofs.Sorts.{sort-is, op-number}

-- ---- ids that no instruction makes

abbrev NeverType : List Instruction → List Instruction → ℕ → Type 0
NeverType code is t = (j : ℕ) (i : Instruction) (g : Globals) (s : Shape) → slice_get is j ≡ Some i → result_of i.op i.operands ≡ Some t
    → meaning_of code g i.op i.operands ≡ IsType s → ⊥

abbrev NotMade : List Instruction → ℕ → Type 0
NotMade is t = (j : ℕ) (i : Instruction) → slice_get is j ≡ Some i → result_of i.op i.operands ≡ Some t → ⊥

other-entry : {A : Type 0} (m : ℕ → Option A) (r : ℕ) (a : A) (t : ℕ) → (r ≡ t → ⊥) → at m r a t ≡ m t
other-entry m r a t n = ap (λ (b : Bool). cond b (Some a) (m t)) (ne_eqb t r (λ e. n (sym e)))

add-shapes : (o : Option ℕ) (m : Meaning) (g : Globals) (t : ℕ) → ((s : Shape) → o ≡ Some t → m ≡ IsType s → ⊥) → (add o m g).shapes t ≡ g.shapes t
add-shapes None m g t n = refl
add-shapes (Some r) (IsType s) g t n = other-entry g.shapes r s t (λ e. n s (ap Some e) refl)
add-shapes (Some r) (IsValue o) g t n = refl
add-shapes (Some r) Unknown g t n = refl

add-ids : (o : Option ℕ) (m : Meaning) (g : Globals) (t : ℕ) → (o ≡ Some t → ⊥) → (add o m g).ids t ≡ g.ids t
add-ids None m g t n = refl
add-ids (Some r) (IsType s) g t n = refl
add-ids (Some r) (IsValue o) g t n = other-entry g.ids r o t (λ e. n (ap Some e))
add-ids (Some r) Unknown g t n = refl

abbrev more : List Instruction → Instruction → Globals → Globals
more code i g = add (result_of i.op i.operands) (meaning_of code g i.op i.operands) g

stays-shapes : (code is : List Instruction) (g : Globals) (t : ℕ) → NeverType code is t → (declared code is g).shapes t ≡ g.shapes t
stays-shapes code [] g t n = refl
stays-shapes code (i ∷ is) g t n =
    elim (is_function i.op) as (λ b. (cond b g (declared code is (more code i g))).shapes t ≡ g.shapes t) [
      | true ↦ refl
      | false ↦ stays-shapes code is (more code i g) t (λ j x h s. n (suc j) x h s)
          ∙ add-shapes (result_of i.op i.operands) (meaning_of code g i.op i.operands) g t (λ s. n 0 i g s refl)
    ]

stays-ids : (code is : List Instruction) (g : Globals) (t : ℕ) → NotMade is t → (declared code is g).ids t ≡ g.ids t
stays-ids code [] g t n = refl
stays-ids code (i ∷ is) g t n =
    elim (is_function i.op) as (λ b. (cond b g (declared code is (more code i g))).ids t ≡ g.ids t) [
      | true ↦ refl
      | false ↦ stays-ids code is (more code i g) t (λ j x. n (suc j) x)
          ∙ add-ids (result_of i.op i.operands) (meaning_of code g i.op i.operands) g t (n 0 i refl)
    ]

-- ---- the first so many declarations

declared-front : (code is : List Instruction) (k : ℕ) (g : Globals) → NoFunction is k
    → declared code is g ≡ declared code (drop k is) (declared code (take k is) g)
declared-front code [] zero g n = refl
declared-front code [] (suc k) g n = refl
declared-front code (i ∷ is) zero g n = refl
declared-front code (i ∷ is) (suc k) g n =
    let e : is_function i.op ≡ false = n 0 i (omega arith) refl in
    ap (λ (b : Bool). cond b g (declared code is (more code i g))) e
    ∙ declared-front code is k (more code i g) (λ j x l. n (suc j) x (omega arith))
    ∙ ap (λ (b : Bool). declared code (drop k is) (cond b g (declared code (take k is) (more code i g)))) (sym e)

declared-next : (code is : List Instruction) (k : ℕ) (i : Instruction) (g : Globals) → slice_get is k ≡ Some i → is_function i.op ≡ false
    → declared code (drop k is) g ≡ declared code (drop (suc k) is) (more code i g)
declared-next code is k i g h e =
    ap (λ (l : List Instruction). declared code l g) (drop-at is k i h)
    ∙ ap (λ (b : Bool). cond b g (declared code (drop (suc k) is) (more code i g))) e

-- ---- what makes types

abbrev is_typing : Op → Bool
is_typing TypeVoid = true
is_typing TypeBool = true
is_typing TypeInt = true
is_typing TypeVector = true
is_typing TypeArray = true
is_typing TypeRuntimeArray = true
is_typing TypeStruct = true
is_typing TypePointer = true
is_typing op = false

typed-scope : (op : Op) (k f b : ℕ) → is_typing op ≡ true → scope_of op k f b ≡ After k
typed-scope TypeVoid k f b e = refl
typed-scope TypeBool k f b e = refl
typed-scope TypeInt k f b e = refl
typed-scope TypeVector k f b e = refl
typed-scope TypeArray k f b e = refl
typed-scope TypeRuntimeArray k f b e = refl
typed-scope TypeStruct k f b e = refl
typed-scope TypePointer k f b e = refl
typed-scope op k f b e = cc

null-never : (o : Option Shape) (s : Shape) → null o ≡ IsType s → ⊥
null-never None s e = cc
null-never (Some z) s e = cc

variable-never : (code : List Instruction) (r class : ℕ) (o : Option Shape) (s : Shape) → global_variable code r class o ≡ IsType s → ⊥
variable-never code r zero None s e = cc
variable-never code r zero (Some z) s e = cc
variable-never code r (suc zero) o s e = cc
variable-never code r (suc (suc n)) None s e = cc
variable-never code r (suc (suc n)) (Some z) s e = cc

never-type : (code : List Instruction) (g : Globals) (op : Op) (os : List ℕ) (s : Shape) → is_typing op ≡ false → meaning_of code g op os ≡ IsType s → ⊥
never-type code g TypeVoid os s f e = cc
never-type code g TypeBool os s f e = cc
never-type code g TypeInt os s f e = cc
never-type code g TypeVector os s f e = cc
never-type code g TypeArray os s f e = cc
never-type code g TypeRuntimeArray os s f e = cc
never-type code g TypeStruct os s f e = cc
never-type code g TypePointer os s f e = cc
never-type code g ConstantTrue (t ∷ r ∷ []) s f e = cc
never-type code g ConstantFalse (t ∷ r ∷ []) s f e = cc
never-type code g Constant (t ∷ r ∷ w ∷ []) s f e = cc
never-type code g ConstantNull (t ∷ r ∷ []) s f e = null-never (g.shapes t) s e
never-type code g Variable (t ∷ r ∷ class ∷ []) s f e = variable-never code r class (g.shapes t) s e
never-type code g op os s f e = cc

-- ---- what a declaration reads

fields-same : (code : List Instruction) (g h : Globals) (r k : ℕ) (ts : List ℕ)
    → ((j : ℕ) → j < length ts → g.shapes (slice_index ts j) ≡ h.shapes (slice_index ts j)) → fields code g r k ts ≡ fields code h r k ts
fields-same code g h r k [] e = refl
fields-same code g h r k (t ∷ ts) e =
    ap (λ (o : Option Shape). if_some o NoField (λ s. Field (or_zero (offset code r k)) s (fields code g r (k + 1) ts))) (e 0 (omega arith))
    ∙ ap (λ (fs : Shapes). if_some (h.shapes t) NoField (λ s. Field (or_zero (offset code r k)) s fs))
    (fields-same code g h r (k + 1) ts (λ j l. e (suc j) (omega arith)))

not-text : (a : Bool) → cond (a && false) Literal Use ≡ Use
not-text true = refl
not-text false = refl

pub struct-role : (j : ℕ) → role_of TypeStruct 0 (suc j) ≡ Use
struct-role j =
    ap (λ (b : Bool). cond (nat_le 2 (suc j) && b) Literal Use) (le-ltb (suc j) 0 (omega arith)) ∙ not-text (nat_le 2 (suc j))

meaning-same : (code : List Instruction) (g h : Globals) (op : Op) (os : List ℕ)
    → ((j : ℕ) → j < length os → role_of op (text_end op os) j ≡ Use → g.shapes (slice_index os j) ≡ h.shapes (slice_index os j))
    → (op ≡ TypeArray → 2 < length os → g.ids (slice_index os 2) ≡ h.ids (slice_index os 2)) → meaning_of code g op os ≡ meaning_of code h op os
meaning-same code g h TypeVector (r ∷ t ∷ n ∷ []) e a = ap (λ (o : Option Shape). on_shape o (λ s. Repeated n 4 s)) (e 1 (omega arith) refl)
meaning-same code g h TypeArray (r ∷ t ∷ l ∷ []) e a =
    ap (λ (o : Option Operand). if_some (number_at o) Unknown (λ n. on_shape (g.shapes t) (λ s. Repeated n (or_zero (decoration code r 6)) s))) (a refl (omega arith))
    ∙ ap (λ (o : Option Shape). if_some (number_at (h.ids l)) Unknown (λ n. on_shape o (λ s. Repeated n (or_zero (decoration code r 6)) s))) (e 1 (omega arith) refl)
meaning-same code g h TypeRuntimeArray (r ∷ t ∷ []) e a =
    ap (λ (o : Option Shape). on_shape o (λ s. Unbounded (or_zero (decoration code r 6)) s)) (e 1 (omega arith) refl)
meaning-same code g h TypeStruct (r ∷ ts) e a =
    ap (λ (fs : Shapes). IsType (Fields fs)) (fields-same code g h r 0 ts (λ j l. e (suc j) (omega arith) (struct-role j)))
meaning-same code g h TypePointer (r ∷ class ∷ t ∷ []) e a = ap (λ (o : Option Shape). on_shape o (λ s. PointerTo s)) (e 2 (omega arith) refl)
meaning-same code g h ConstantNull (t ∷ r ∷ []) e a = ap null (e 0 (omega arith) refl)
meaning-same code g h Variable (t ∷ r ∷ class ∷ []) e a = ap (global_variable code r class) (e 0 (omega arith) refl)
meaning-same code g h op os e a = refl

-- ---- valid images

-- what a list of declarations has read before the one with this number
abbrev prior : List Instruction → ℕ → Globals
prior code k = declared code (take k code) undeclared

pub after-place : (code : List Instruction) (p k f b : ℕ) (x : Instruction) → slice_get code p ≡ Some x
    → scope_of x.op p (function_of code (suc p)) (block_of code (suc p)) ≡ After p → holds (definition_at code p).scope k f b ≡ true → p < k
after-place code p k f b x h e hold =
    let scope : (definition_at code p).scope ≡ After p =
    ap (λ (o : Option Op). scope_at o p (function_of code (suc p)) (block_of code (suc p))) (op-there code p x h) ∙ e in
    ltb-true p k (subst (λ (s : Scope). holds s k f b ≡ true) scope hold)

array-role : (op : Op) (os : List ℕ) → op ≡ TypeArray → role_of op (text_end op os) 2 ≡ Use
array-role op os e = subst (λ (o : Op). role_of o (text_end o os) 2 ≡ Use) (sym e) refl

number-after : (op : Op) (p f b : ℕ) → op ≡ Constant → scope_of op p f b ≡ After p
number-after op p f b e = subst (λ (o : Op). scope_of o p f b ≡ After p) (sym e) refl

length-sort : (s : Sort) (b : Bool) → if_number s b ≡ true → s ≡ Number
length-sort Number b e = refl
length-sort s b e = cc

pub array-length : (code : List Instruction) (i : Instruction) → array_fits code i ≡ true → sort code (slice_index i.operands 2) ≡ Number
unfolding array_fits
array-length code i h =
    length-sort (sort code (slice_index i.operands 2)) (is_int code (operand code (slice_index i.operands 2) 0))
    (second-true (runtime_array_fits code i) (is_length code (slice_index i.operands 2)) h)

module _ (image : Image) (v : Valid image) where
  -- an instruction behind defines no id that is defined before
  once : (k q p t : ℕ) (y : Instruction) → place_of image.instructions t 0 ≡ Some p → slice_get (drop k image.instructions) q ≡ Some y
      → result_of y.op y.operands ≡ Some t → k + q ≡ p
  once k q p t y there at res =
      let e : slice_get image.instructions (k + q) ≡ Some y = sym (behind-at image.instructions k q) ∙ at in
      let d = defined-once image v (k + q) y t e res in
      cc

  used-shapes : (k : ℕ) (i : Instruction) (j : ℕ) → slice_get image.instructions k ≡ Some i → j < length i.operands → role_in i j ≡ Use
      → NoFunction image.instructions k
      → (prior image.instructions k).shapes (slice_index i.operands j) ≡ (globals_of image.instructions).shapes (slice_index i.operands j)
  used-shapes k i j h l e n =
      let t = slice_index i.operands j in
      let d = used-defined image v k i j h l e in
      let m = made image.instructions t d.place d.there in
      sym (ap (λ (g : Globals). g.shapes t) (declared-front image.instructions image.instructions k undeclared n)
      ∙ stays-shapes image.instructions (drop k image.instructions) (prior image.instructions k) t
      (λ q y g s at res mean. either d m q y g s at res mean (is_typing m.instruction.op) refl))
    where
      either : (d : IsDefined image.instructions k (slice_index i.operands j)) (m : IsMade image.instructions (slice_index i.operands j) d.place)
          (q : ℕ) (y : Instruction) (g : Globals) (s : Shape) → slice_get (drop k image.instructions) q ≡ Some y
          → result_of y.op y.operands ≡ Some (slice_index i.operands j) → meaning_of image.instructions g y.op y.operands ≡ IsType s
          → (b : Bool) → is_typing m.instruction.op ≡ b → ⊥
      either d m q y g s at res mean true e =
          let p : d.place < k = after-place image.instructions d.place k (function_of image.instructions (suc k)) (block_of image.instructions (suc k)) m.instruction m.stands (typed-scope m.instruction.op d.place _ _ e) d.holds in
          omega (arith, p, once k q d.place (slice_index i.operands j) y d.there at res)
      either d m q y g s at res mean false e =
          let o = once k q d.place (slice_index i.operands j) y d.there at res in
          let a : slice_get image.instructions d.place ≡ Some y = ap (slice_get image.instructions) (sym o) ∙ (sym (behind-at image.instructions k q) ∙ at) in
          let same : m.instruction ≡ y = same-instruction m.stands a in
          never-type image.instructions g y.op y.operands s (subst (λ (z : Instruction). is_typing z.op ≡ false) same e) mean

  used-ids : (k : ℕ) (i : Instruction) (j : ℕ) → slice_get image.instructions k ≡ Some i → j < length i.operands → role_in i j ≡ Use
      → NoFunction image.instructions k → sort image.instructions (slice_index i.operands j) ≡ Number
      → (prior image.instructions k).ids (slice_index i.operands j) ≡ (globals_of image.instructions).ids (slice_index i.operands j)
  used-ids k i j h l e n s =
      let t = slice_index i.operands j in
      let d = used-defined image v k i j h l e in
      let m = made image.instructions t d.place d.there in
      let o : m.instruction.op ≡ Constant = op-number m.instruction.op (sym (sort-is image.instructions t m.instruction m.defines) ∙ s) in
      let p : d.place < k = after-place image.instructions d.place k (function_of image.instructions (suc k)) (block_of image.instructions (suc k)) m.instruction m.stands (number-after m.instruction.op d.place _ _ o) d.holds in
      sym (ap (λ (g : Globals). g.ids t) (declared-front image.instructions image.instructions k undeclared n)
      ∙ stays-ids image.instructions (drop k image.instructions) (prior image.instructions k) t
      (λ q y at res. omega (arith, p, once k q d.place t y d.there at res)))

  array-sort : (k : ℕ) (i : Instruction) → slice_get image.instructions k ≡ Some i → i.op ≡ TypeArray
      → sort image.instructions (slice_index i.operands 2) ≡ Number
  array-sort k i h e =
      array-length image.instructions i
      (subst (λ (o : Op). meets (rule_of o) image.instructions (context_at image.instructions k) k i (drop (suc k) image.instructions) ≡ true) e (right-rule image v k i h))

  -- what is declared before an instruction is all that it reads
  meaning-final : (k : ℕ) (i : Instruction) → slice_get image.instructions k ≡ Some i → NoFunction image.instructions k
      → meaning_of image.instructions (prior image.instructions k) i.op i.operands ≡ meaning_of image.instructions (globals_of image.instructions) i.op i.operands
  meaning-final k i h n =
      meaning-same image.instructions (prior image.instructions k) (globals_of image.instructions) i.op i.operands
      (λ j l u. used-shapes k i j h l u n)
      (λ e l. used-ids k i 2 h l (array-role i.op i.operands e) n (array-sort k i h e))

  whole : (k : ℕ) (i : Instruction) → slice_get image.instructions k ≡ Some i → NoFunction image.instructions k → is_function i.op ≡ false
      → globals_of image.instructions ≡ declared image.instructions (drop (suc k) image.instructions) (more image.instructions i (prior image.instructions k))
  whole k i h n f =
      declared-front image.instructions image.instructions k undeclared n ∙ declared-next image.instructions image.instructions k i (prior image.instructions k) h f

  pub stands-for-type : (k : ℕ) (i : Instruction) (r : ℕ) (s : Shape) → slice_get image.instructions k ≡ Some i → function_of image.instructions k ≡ 0
      → is_function i.op ≡ false → result_of i.op i.operands ≡ Some r
      → meaning_of image.instructions (globals_of image.instructions) i.op i.operands ≡ IsType s → (globals_of image.instructions).shapes r ≡ Some s
  stands-for-type k i r s h z f res mean =
      let n = before-functions image v k i h z f in
      let g = prior image.instructions k in
      let there = defined-once image v k i r h res in
      ap (λ (g : Globals). g.shapes r) (whole k i h n f)
      ∙ stays-shapes image.instructions (drop (suc k) image.instructions) (more image.instructions i g) r
      (λ q y g s at re me. omega (arith, once (suc k) q k r y there at re))
      ∙ ap (λ (o : Option ℕ). (add o (meaning_of image.instructions g i.op i.operands) g).shapes r) res
      ∙ ap (λ (m : Meaning). (add (Some r) m g).shapes r) (meaning-final k i h n ∙ mean)
      ∙ ap (λ (b : Bool). cond b (Some s) (g.shapes r)) (eq-eqb r r refl)

  pub stands-for-value : (k : ℕ) (i : Instruction) (r : ℕ) (o : Operand) → slice_get image.instructions k ≡ Some i → function_of image.instructions k ≡ 0
      → is_function i.op ≡ false → result_of i.op i.operands ≡ Some r
      → meaning_of image.instructions (globals_of image.instructions) i.op i.operands ≡ IsValue o → (globals_of image.instructions).ids r ≡ Some o
  stands-for-value k i r o h z f res mean =
      let n = before-functions image v k i h z f in
      let g = prior image.instructions k in
      let there = defined-once image v k i r h res in
      ap (λ (g : Globals). g.ids r) (whole k i h n f)
      ∙ stays-ids image.instructions (drop (suc k) image.instructions) (more image.instructions i g) r
      (λ q y at re. omega (arith, once (suc k) q k r y there at re))
      ∙ ap (λ (o : Option ℕ). (add o (meaning_of image.instructions g i.op i.operands) g).ids r) res
      ∙ ap (λ (m : Meaning). (add (Some r) m g).ids r) (meaning-final k i h n ∙ mean)
      ∙ ap (λ (b : Bool). cond b (Some o) (g.ids r)) (eq-eqb r r refl)
