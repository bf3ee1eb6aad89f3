-- What values stand for that are defined outside of functions, and what variables hold.
use Rattle.std.proofs.Common.{◌≡◌, ◌≢◌, ℕ, ◌<◌, ◌⊎◌, inl, inr, Bool, true, false, cond, ◌&&◌, ◌||◌, not, nat_eq, List, [], ◌∷◌, length, slice_get, slice_index, IsTrue, Option, Some, None, refl, sym, ap, subst, ◌∙◌, arith}
use Rattle.std.proofs.Math.Logic.{⊎_elim}
use Rattle.std.specs.Option.{option_map}
use Rattle.std.proofs.lemmas.Bool.{eqb-true, eq-eqb, ne_eqb}
use Rattle.std.proofs.lemmas.Option.{slice_get_within}
use Rattle.behavior.specs.Values.{Truth, Word}
use Rattle.spirv_words.specs.declared.opcodes.Op.{Op}
use Rattle.spirv_words.specs.declared.opcodes.Op.TheVariants.{Name, MemoryModel, EntryPoint, ExecutionMode, Capability, FunctionEnd, Store, Decorate, MemberDecorate, LoopMerge, SelectionMerge, Label, Branch, BranchConditional, Return, ReturnValue, Unreachable, TypeVoid, TypeBool, TypeInt, TypeVector, TypeArray, TypeRuntimeArray, TypeStruct, TypePointer, TypeFunction, ConstantTrue, ConstantFalse, ConstantNull, Variable}
use Rattle.spirv_words.specs.declared.images.Instruction.{Instruction}
use Rattle.spirv_words.specs.declared.images.Image.{Image}
use Rattle.spirv_words.specs.Layouts as layouts
use Rattle.spirv_words.specs.Layouts.{is_storage_class}
use Rattle.spirv_words.specs.Machine.{Shape, Local, Plain, Globals, IsValue, if_some, pointed, null, global_variable, meaning_of, Standing, Second, standing, result_at, type_at, result_of, type_of, place_of, definition_of, zero_of, is_signed}
use Rattle.spirv_words.specs.Runs.{shape_of, signed, initial}
use Rattle.flat_values.specs.Flat.{IsData}
use Rattle.image_lookup.specs.declared.sorts.Sort.{Sort}
use Rattle.image_lookup.specs.declared.sorts.Sort.TheVariants.{PointerType, Holder, Nothing}
use Rattle.image_lookup.specs.Sorts.{sort_of, is_value_sort}
use Rattle.image_lookup.specs.Lookups.{sort, operands, operand, is_value}
use Rattle.image_places.specs.Places.{function_of}
use Rattle.image_declarations.specs.Holdings.{is_data}
use Rattle.image_operands.specs.Memory.{is_pointer_sort, is_pointer, global_fits}
use Rattle.image_operands.specs.Marks.{is_variable_sort, is_variable}
use Rattle.image_types.specs.declared.functions.Context.{Context}
use Rattle.image_types.specs.Functions.{variable_fits}
use Rattle.image_types.specs.Checking.{context_at}
use Rattle.call_graph.proofs.Walks.{first-true, second-true}
use Rattle.call_graph.proofs.Visits.{or-cases}
use Rattle.spirv_check.specs.Valid.{Valid}
use Rattle.image_facts.specs.Operands.{globals_of, shape, type_id, is_local, root_shape}
use Rattle.image_facts.proofs.Rules.{right-rule, defined-once, some-same}
use Rattle.image_facts.proofs.Made.{made, place-of, same-instruction}
use Rattle.image_facts.proofs.Sorts.{sort-is, operands-are, IsSorted, sorted, op-holder}
use Rattle.image_facts.proofs.Shapes.{declares, shape-pointer, same-form}
use Rattle.image_facts.proofs.Data.{data-shape}
use Rattle.image_facts.proofs.Contexts.{inside-is}

-- ---- the type of a value

value-standing : (op : Op) → is_value_sort (sort_of op) ≡ true → standing op ≡ Second
value-standing Name e = cc
value-standing MemoryModel e = cc
value-standing EntryPoint e = cc
value-standing ExecutionMode e = cc
value-standing Capability e = cc
value-standing FunctionEnd e = cc
value-standing Store e = cc
value-standing Decorate e = cc
value-standing MemberDecorate e = cc
value-standing LoopMerge e = cc
value-standing SelectionMerge e = cc
value-standing Label e = cc
value-standing Branch e = cc
value-standing BranchConditional e = cc
value-standing Return e = cc
value-standing ReturnValue e = cc
value-standing Unreachable e = cc
value-standing TypeVoid e = cc
value-standing TypeBool e = cc
value-standing TypeInt e = cc
value-standing TypeVector e = cc
value-standing TypeArray e = cc
value-standing TypeRuntimeArray e = cc
value-standing TypeStruct e = cc
value-standing TypePointer e = cc
value-standing TypeFunction e = cc
value-standing op e = refl

second-type : (os : List ℕ) (x : ℕ) → result_at Second os ≡ Some x → type_at Second os ≡ Some (slice_index os 0)
second-type [] x e = cc
second-type (t ∷ []) x e = cc
second-type (t ∷ r ∷ os) x e = refl

pub value-type : (op : Op) (os : List ℕ) (x : ℕ) → is_value_sort (sort_of op) ≡ true → result_of op os ≡ Some x → type_of op os ≡ Some (slice_index os 0)
value-type op os x e h =
    let s = value-standing op e in
    ap (λ (z : Standing). type_at z os) s ∙ second-type os x (ap (λ (z : Standing). result_at z os) (sym s) ∙ h)

value-sorted : (code : List Instruction) (x : ℕ) → is_value code x ≡ true → IsSorted code x (sort code x)
value-sorted code x h = sorted code x (sort code x) refl (λ e. never (sort code x) e h)
  where
    never : (s : Sort) → Nothing ≡ s → is_value_sort s ≡ true → ⊥
    never s e h = let f : is_value_sort s ≡ false = ap is_value_sort (sym e) in cc

-- what an id of a value's type is, to the machine
pub value-shape : (code : List Instruction) (g : Globals) (x : ℕ) → is_value code x ≡ true
    → (y : Instruction) × (definition_of code x ≡ Some y) × (shape_of g y ≡ g.shapes (type_id code x))
value-shape code g x h =
    let z = value-sorted code x h in
    let y = z.instruction in
    let p = place-of code x y z.defines in
    let v : is_value_sort (sort_of y.op) ≡ true = ap is_value_sort z.of_sort ∙ h in (
      y,
      z.defines,
      ap (λ (o : Option ℕ). if_some o None (λ t. g.shapes t)) (value-type y.op y.operands x v p.result)
          ∙ ap (λ (os : List ℕ). g.shapes (slice_index os 0)) (sym (operands-are code x y z.defines)),
    )

pub signed-is : (code : List Instruction) (x : ℕ) → is_value code x ≡ true → signed code (globals_of code) x ≡ is_signed (shape code (type_id code x))
signed-is code x h =
    let y = value-shape code (globals_of code) x h in
    ap (λ (o : Option Instruction). if_some o false (λ i. is_signed (shape_of (globals_of code) i))) y.1 ∙ ap is_signed y.2

-- ---- what layouts say

pub true-means : (code : List Instruction) (g : Globals) (os : List ℕ) → IsTrue (layouts.fits ConstantTrue os) → meaning_of code g ConstantTrue os ≡ IsValue (Plain (Truth true))
true-means code g (t ∷ r ∷ []) l = refl
true-means code g os l = cc

pub false-means : (code : List Instruction) (g : Globals) (os : List ℕ) → IsTrue (layouts.fits ConstantFalse os) → meaning_of code g ConstantFalse os ≡ IsValue (Plain (Truth false))
false-means code g (t ∷ r ∷ []) l = refl
false-means code g os l = cc

pub null-means : (code : List Instruction) (g : Globals) (os : List ℕ) → IsTrue (layouts.fits ConstantNull os) → meaning_of code g ConstantNull os ≡ null (g.shapes (slice_index os 0))
null-means code g (t ∷ r ∷ []) l = refl
null-means code g os l = cc

pub variable-means : (code : List Instruction) (g : Globals) (os : List ℕ) (x : ℕ) → IsTrue (layouts.fits Variable os) → result_of Variable os ≡ Some x
    → (meaning_of code g Variable os ≡ global_variable code x (slice_index os 2) (g.shapes (slice_index os 0))) × IsTrue (is_storage_class (slice_index os 2))
variable-means code g (t ∷ r ∷ class ∷ []) x l e =
    let same : r ≡ x = cc in
    (ap (λ (n : ℕ). global_variable code n class (g.shapes t)) same, l)
variable-means code g os x l e = cc

-- ---- variables

-- a variable, and where it stands
pub record IsHolder (code : List Instruction) (x : ℕ) : Type 0 where
  pub place : ℕ
  pub there : place_of code x 0 ≡ Some place
  pub stands : slice_get code place ≡ Some (declares Variable (operands code x))
  pub result : result_of Variable (operands code x) ≡ Some x

holder-sort : (s : Sort) → is_variable_sort s ≡ true → s ≡ Holder
holder-sort Holder e = refl
holder-sort s e = cc

pub holder : (code : List Instruction) (x : ℕ) → is_variable code x ≡ true → IsHolder code x
holder code x h =
    let s = holder-sort (sort code x) h in
    let z = sorted code x Holder s (λ e. cc) in
    let p = place-of code x z.instruction z.defines in
    let o = op-holder z.instruction.op z.of_sort in
    let os = operands-are code x z.instruction z.defines in
    record {
      place = p.place;
      there = p.there;
      stands = p.stands ∙ ap Some (same-form z.instruction Variable (operands code x) o os);
      result = ap (result_of Variable) os ∙ (ap (λ (q : Op). result_of q z.instruction.operands) (sym o) ∙ p.result);
    }

-- what the rule on variables says
pub record IsRight (code : List Instruction) (inside : Bool) (x : ℕ) : Type 0 where
  pub pointer : is_pointer code (type_id code x) ≡ true
  pub class : operand code (type_id code x) 1 ≡ operand code x 2
  pub holds : cond inside (nat_eq (operand code x 2) 7 && is_data code (operand code (type_id code x) 2)) (global_fits code (operand code x 2) (operand code (type_id code x) 2) (operand code x 1)) ≡ true

variable-rule : (code : List Instruction) (c : Context) (os : List ℕ) → variable_fits code c (declares Variable os) ≡ true
    → (is_pointer code (slice_index os 0) ≡ true) × (operand code (slice_index os 0) 1 ≡ slice_index os 2)
    × (cond c.inside (nat_eq (slice_index os 2) 7 && is_data code (operand code (slice_index os 0) 2)) (global_fits code (slice_index os 2) (operand code (slice_index os 0) 2) (slice_index os 1)) ≡ true)
unfolding variable_fits
variable-rule code c os h =
    let a = first-true _ _ h in
    (first-true _ _ a, eqb-true (operand code (slice_index os 0) 1) (slice_index os 2) (second-true _ _ a), second-true _ _ h)

pointer-sort : (s : Sort) → is_pointer_sort s ≡ true → s ≡ PointerType
pointer-sort PointerType e = refl
pointer-sort s e = cc

pub pointer-is : (code : List Instruction) (t : ℕ) → is_pointer code t ≡ true → sort code t ≡ PointerType
pointer-is code t h = pointer-sort (sort code t) h

-- ---- valid images

pub storage-cases : (l : ℕ) → IsTrue (is_storage_class l) → (l ≡ 1) ⊎ ((l ≡ 2) ⊎ ((l ≡ 7) ⊎ (l ≡ 12)))
storage-cases l h =
    ⊎_elim
    (λ a. ⊎_elim (λ b. ⊎_elim (λ c. inl (eqb-true l 1 c)) (λ c. inr (inl (eqb-true l 2 c))) (or-cases (nat_eq l 1) (nat_eq l 2) b)) (λ b. inr (inr (inl (eqb-true l 7 b)))) (or-cases (nat_eq l 1 || nat_eq l 2) (nat_eq l 7) a))
    (λ a. inr (inr (inr (eqb-true l 12 a))))
    (or-cases (nat_eq l 1 || nat_eq l 2 || nat_eq l 7) (nat_eq l 12) h)

never-function : (code : List Instruction) (of x : ℕ) → global_fits code 7 of x ≡ true → ⊥
unfolding global_fits
never-function code of x e = cc

pub cond-true : (b c d : Bool) → cond b c d ≡ true → b ≡ true → c ≡ true
cond-true true c d h e = h
cond-true false c d h e = cc

module _ (image : Image) (v : Valid image) where
  pub right-variable : (x : ℕ) (h : IsHolder image.instructions x) → IsRight image.instructions (not (nat_eq (function_of image.instructions h.place) 0)) x
  right-variable x h =
      let os = operands image.instructions x in
      let i = declares Variable os in
      let r = variable-rule image.instructions (context_at image.instructions h.place) os (right-rule image v h.place i h.stands) in
      let l : h.place < length image.instructions = slice_get_within image.instructions h.place i h.stands in
      let inside : (context_at image.instructions h.place).inside ≡ not (nat_eq (function_of image.instructions h.place) 0) =
      inside-is image.instructions h.place (omega arith) in
      record {
        pointer = r.0;
        class = r.1;
        holds = ap (λ (b : Bool). cond b (nat_eq (operand image.instructions x 2) 7 && is_data image.instructions (operand image.instructions (type_id image.instructions x) 2)) (global_fits image.instructions (operand image.instructions x 2) (operand image.instructions (type_id image.instructions x) 2) (operand image.instructions x 1))) (sym inside) ∙ r.2;
      }

  -- a variable outside of functions
  pub record IsOutside (x : ℕ) : Type 0 where
    pub holder : IsHolder image.instructions x
    pub outside : function_of image.instructions holder.place ≡ 0

  pub right-outside : (x : ℕ) (h : IsOutside x)
      → global_fits image.instructions (operand image.instructions x 2) (operand image.instructions (type_id image.instructions x) 2) (operand image.instructions x 1) ≡ true
  right-outside x h =
      let r = right-variable x h.holder in
      ap (λ (n : ℕ). cond (not (nat_eq n 0)) (nat_eq (operand image.instructions x 2) 7 && is_data image.instructions (operand image.instructions (type_id image.instructions x) 2)) (global_fits image.instructions (operand image.instructions x 2) (operand image.instructions (type_id image.instructions x) 2) (operand image.instructions x 1))) (sym h.outside)
      ∙ r.holds

  -- outside of functions no variable has class Function, and inside of them all have
  pub outside-class : (x : ℕ) (h : IsOutside x) → operand image.instructions x 2 ≡ 7 → ⊥
  outside-class x h e =
      let f : global_fits image.instructions 7 (operand image.instructions (type_id image.instructions x) 2) (operand image.instructions x 1) ≡ true =
      subst (λ (c : ℕ). global_fits image.instructions c (operand image.instructions (type_id image.instructions x) 2) (operand image.instructions x 1) ≡ true) e (right-outside x h) in
      never-function image.instructions (operand image.instructions (type_id image.instructions x) 2) (operand image.instructions x 1) f

  pub inside-class : (x : ℕ) (h : IsHolder image.instructions x) → function_of image.instructions h.place ≢ 0
      → (operand image.instructions x 2 ≡ 7) × (is_data image.instructions (operand image.instructions (type_id image.instructions x) 2) ≡ true)
  inside-class x h n =
      let r = right-variable x h in
      let d = ap (λ (b : Bool). cond (not b) (nat_eq (operand image.instructions x 2) 7 && is_data image.instructions (operand image.instructions (type_id image.instructions x) 2)) (global_fits image.instructions (operand image.instructions x 2) (operand image.instructions (type_id image.instructions x) 2) (operand image.instructions x 1))) (sym (ne_eqb (function_of image.instructions h.place) 0 n))
      ∙ r.holds in (
        eqb-true (operand image.instructions x 2) 7 (first-true (nat_eq (operand image.instructions x 2) 7) (is_data image.instructions (operand image.instructions (type_id image.instructions x) 2)) d),
        second-true (nat_eq (operand image.instructions x 2) 7) (is_data image.instructions (operand image.instructions (type_id image.instructions x) 2)) d,
      )

  -- ---- variables of functions

  local-parts : (x : ℕ) → is_local image.instructions x ≡ true → (is_variable image.instructions x ≡ true) × (operand image.instructions x 2 ≡ 7)
  local-parts x h = (
    first-true (is_variable image.instructions x) (nat_eq (operand image.instructions x 2) 7) h,
    eqb-true (operand image.instructions x 2) 7 (second-true (is_variable image.instructions x) (nat_eq (operand image.instructions x 2) 7) h),
  )

  pub local-place : (x : ℕ) → is_local image.instructions x ≡ true
      → (p : ℕ) × (place_of image.instructions x 0 ≡ Some p) × (function_of image.instructions p ≢ 0)
  local-place x h =
      let p = local-parts x h in
      let d = holder image.instructions x p.0 in
      (d.place, d.there, λ z. outside-class x (record { holder = d; outside = z }) p.1)

  -- a variable of a function holds data, and begins as its zero
  pub record IsLocal (x : ℕ) : Type 0 where
    pub pointer : sort image.instructions (type_id image.instructions x) ≡ PointerType
    pub class : operand image.instructions (type_id image.instructions x) 1 ≡ 7
    pub has_values : is_data image.instructions (operand image.instructions (type_id image.instructions x) 2) ≡ true
    pub form : Shape
    pub is : shape image.instructions (operand image.instructions (type_id image.instructions x) 2) ≡ Some form
    pub holds : (level : ℕ) → root_shape image.instructions (Local level x) ≡ Some form
    pub plain : IsData form
    pub begins : initial image.instructions (globals_of image.instructions) x ≡ zero_of form

  pub variable-value : (x : ℕ) → is_variable image.instructions x ≡ true → is_value image.instructions x ≡ true
  variable-value x h = ap is_value_sort (holder-sort (sort image.instructions x) h)

  pub local-shape : (x : ℕ) → is_local image.instructions x ≡ true → IsLocal x
  local-shape x h =
      let p = local-parts x h in
      let d = holder image.instructions x p.0 in
      let inside : function_of image.instructions d.place ≢ 0 = λ z. outside-class x (record { holder = d; outside = z }) p.1 in
      let r = right-variable x d in
      let c = inside-class x d inside in
      let s = data-shape image v (operand image.instructions (type_id image.instructions x) 2) c.1 in
      let t = pointer-is image.instructions (type_id image.instructions x) r.pointer in
      let pointers = shape-pointer image v (type_id image.instructions x) s.form t s.is in
      let y = value-shape image.instructions (globals_of image.instructions) x (variable-value x p.0) in
      record {
        pointer = t;
        class = r.class ∙ c.0;
        has_values = c.1;
        form = s.form;
        is = s.is;
        holds = λ level. ap (option_map pointed) pointers;
        plain = s.plain;
        begins = ap (λ (o : Option Instruction). if_some o (Word 0) (λ i. if_some (shape_of (globals_of image.instructions) i) (Word 0) (λ s. zero_of (pointed s)))) y.1
            ∙ ap (λ (o : Option Shape). if_some o (Word 0) (λ s. zero_of (pointed s))) (y.2 ∙ pointers);
      }

  pub local-variable : (k : ℕ) (i : Instruction) (x : ℕ) → slice_get image.instructions k ≡ Some i → i.op ≡ Variable → result_of i.op i.operands ≡ Some x
      → function_of image.instructions k ≢ 0 → is_local image.instructions x ≡ true
  local-variable k i x h o res n =
      let there = defined-once image v k i x h res in
      let m = made image.instructions x k there in
      let same : m.instruction ≡ i = same-instruction m.stands h in
      let s : sort image.instructions x ≡ Holder =
      sort-is image.instructions x m.instruction m.defines ∙ ap (λ (y : Instruction). sort_of y.op) same ∙ ap sort_of o in
      let var : is_variable image.instructions x ≡ true = ap is_variable_sort s in
      let d = holder image.instructions x var in
      let place : d.place ≡ k = some-same (sym d.there ∙ there) in
      let c = inside-class x d (λ z. n (ap (function_of image.instructions) (sym place) ∙ z)) in
      ap (λ (b : Bool). b && nat_eq (operand image.instructions x 2) 7) var ∙ eq-eqb (operand image.instructions x 2) 7 c.0
