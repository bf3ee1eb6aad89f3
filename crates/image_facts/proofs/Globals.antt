-- What values stand for that are defined outside of functions.
use Rattle.std.proofs.Common.{◌≡◌, ◌≢◌, ℕ, ◌⊎◌, inl, inr, Bool, true, false, cond, ◌&&◌, not, nat_eq, List, [], ◌∷◌, length, slice_index, Option, Some, refl, sym, ap, subst, ◌∙◌}
use Rattle.std.proofs.lemmas.Bool.{eqb-true, eqb-false, eq-eqb, ne_eqb}
use Rattle.std.proofs.Math.Logic.{⊎_elim}
use Rattle.behavior.specs.Values.{Truth, Word}
use Rattle.spirv_words.specs.declared.opcodes.Op.{Op}
use Rattle.spirv_words.specs.declared.opcodes.Op.TheVariants.{ConstantTrue, ConstantFalse, Constant, ConstantNull, Variable}
use Rattle.spirv_words.specs.declared.images.Instruction.{Instruction}
use Rattle.spirv_words.specs.declared.images.Image.{Image}
use Rattle.spirv_words.specs.Machine.{Shape, Truths, Words, Repeated, Fields, PointerTo, Input, Operand, Plain, Path, InBuffer, IsValue, if_some, or_zero, decoration, null, global_variable, meaning_of, is_function, result_of, place_of, zero_of}
use Rattle.flat_values.specs.Flat.{IsData}
use Rattle.image_lookup.specs.declared.sorts.Sort.{Sort}
use Rattle.image_lookup.specs.declared.sorts.Sort.TheVariants.{VectorType, StructType, PointerType, Number, Null}
use Rattle.image_lookup.specs.Sorts.{sort_of, is_value_sort}
use Rattle.image_lookup.specs.Lookups.{sort, operands, operand}
use Rattle.image_places.specs.Places.{function_of}
use Rattle.image_rules.specs.Order.{section}
use Rattle.image_declarations.specs.declared.decorations.Mark.{Mark}
use Rattle.image_declarations.specs.Decorations.{mark, offset_of}
use Rattle.image_declarations.specs.Reach.{pointed_by, is_buffer_class}
use Rattle.image_declarations.specs.Holdings.{is_data, is_unbounded}
use Rattle.image_operands.specs.Operators.{is_bool, is_int, is_uint}
use Rattle.image_operands.specs.Memory.{is_pointer_sort, is_struct_sort, is_struct, is_runtime_array, has_mark, is_wrapping, global_fits, number_of, constant_number}
use Rattle.image_operands.specs.Marks.{is_variable_sort, is_variable, is_buffer, is_input, if_triple, is_triple, built_in_fits, mark_fits}
use Rattle.image_types.specs.Functions.{is_void_sort, is_void}
use Rattle.call_graph.proofs.Walks.{first-true, second-true}
use Rattle.call_graph.proofs.Visits.{or-cases}
use Rattle.image_scopes.specs.Scopes.{IsGlobal}
use Rattle.spirv_check.specs.Valid.{Valid}
use Rattle.image_facts.specs.Operands.{globals_of, shape, type_id, built_in_shape, is_built_in, Suits}
use Rattle.image_facts.proofs.Likes.{zero-like}
use Rattle.image_facts.proofs.Rules.{right-layout, right-rule}
use Rattle.image_facts.proofs.Outside.{outside-follows, some-section}
use Rattle.image_facts.proofs.Made.{IsMade, made}
use Rattle.image_facts.proofs.Sorts.{sort-is, operands-are, sorted, op-null}
use Rattle.image_facts.proofs.Marks.{literal_in, mark-is, decorates, mark-found, mark-there}
use Rattle.image_facts.proofs.Shapes.{declares, IsDeclared, declaration, layout, valued, bool-sort, int-sort, shape-bool, shape-int, vector-of, shape-pointer, constant-word, constant-means}
use Rattle.image_facts.proofs.Data.{data-shape, shape-struct, bool-data, int-data, data-not-void}
use Rattle.image_facts.proofs.Values.{true-means, false-means, null-means, variable-means, IsHolder, holder, pointer-is, storage-cases, cond-true, IsOutside, right-variable, right-outside, outside-class, inside-class, variable-value}

-- ---- opcodes

abbrev defines_value : Op → Bool
defines_value op = is_value_sort (sort_of op) && not (nat_eq (section op) 0)

global-op : (op : Op) → defines_value op ≡ true
    → (op ≡ ConstantTrue) ⊎ ((op ≡ ConstantFalse) ⊎ ((op ≡ Constant) ⊎ ((op ≡ ConstantNull) ⊎ (op ≡ Variable))))
global-op ConstantTrue e = inl refl
global-op ConstantFalse e = inr (inl refl)
global-op Constant e = inr (inr (inl refl))
global-op ConstantNull e = inr (inr (inr (inl refl)))
global-op Variable e = inr (inr (inr (inr refl)))
global-op op e = cc

both : (a b : Bool) → a ≡ true → b ≡ true → (a && b) ≡ true
both true b e f = f
both false b e f = cc

-- ---- what stands for an id

pub record IsStanding (code : List Instruction) (x : ℕ) : Type 0 where
  pub operand : Operand
  pub is : (globals_of code).ids x ≡ Some operand
  pub suits : Suits code operand (type_id code x)
  pub not_void : is_void code (type_id code x) ≡ false

-- what a buffer's variable stands for
pub record IsBufferStanding (code : List Instruction) (x : ℕ) : Type 0 where
  pub pointer : sort code (type_id code x) ≡ PointerType
  pub class : operand code (type_id code x) 1 ≡ operand code x 2
  pub struct : sort code (operand code (type_id code x) 2) ≡ StructType
  pub form : Shape
  pub pointee : shape code (operand code (type_id code x) 2) ≡ Some form
  pub is : (globals_of code).ids x ≡ Some (InBuffer (or_zero (decoration code x 34)) (or_zero (decoration code x 33)) 0 form)

struct-sort-by : (s : Sort) → is_struct_sort s ≡ true → s ≡ StructType
struct-sort-by StructType e = refl
struct-sort-by s e = cc

pub struct-sort : (code : List Instruction) (t : ℕ) → is_struct code t ≡ true → sort code t ≡ StructType
struct-sort code t e = struct-sort-by (sort code t) e

void-not : (s t : Sort) → s ≡ t → is_void_sort t ≡ false → is_void_sort s ≡ false
void-not s t e f = ap is_void_sort e ∙ f

pub uniform-fits : (code : List Instruction) (of x : ℕ) → global_fits code 2 of x ≡ true
    → (has_mark code x 34 ≡ true) × (has_mark code x 33 ≡ true) × (is_struct code of ≡ true) × (not (is_unbounded code of) ≡ true)
unfolding global_fits
uniform-fits code of x h =
    let a = first-true (has_mark code x 34 && has_mark code x 33 && is_struct code of) (not (is_unbounded code of)) h in
    let b = first-true (has_mark code x 34 && has_mark code x 33) (is_struct code of) a in (
      first-true (has_mark code x 34) (has_mark code x 33) b,
      second-true (has_mark code x 34) (has_mark code x 33) b,
      second-true (has_mark code x 34 && has_mark code x 33) (is_struct code of) a,
      second-true (has_mark code x 34 && has_mark code x 33 && is_struct code of) (not (is_unbounded code of)) h,
    )

pub storage-fits : (code : List Instruction) (of x : ℕ) → global_fits code 12 of x ≡ true
    → (has_mark code x 34 ≡ true) × (has_mark code x 33 ≡ true) × (is_wrapping code of ≡ true)
unfolding global_fits
storage-fits code of x h =
    let a = first-true (has_mark code x 34 && has_mark code x 33) (is_wrapping code of) h in (
      first-true (has_mark code x 34) (has_mark code x 33) a,
      second-true (has_mark code x 34) (has_mark code x 33) a,
      second-true (has_mark code x 34 && has_mark code x 33) (is_wrapping code of) h,
    )

input-fits : (code : List Instruction) (of x : ℕ) → global_fits code 1 of x ≡ true → has_mark code x 11 ≡ true
unfolding global_fits
input-fits code of x h = h

pub wrapping-parts : (code : List Instruction) (t : ℕ) → is_wrapping code t ≡ true
    → (is_struct code t ≡ true) × (length (operands code t) ≡ 2) × (is_runtime_array code (operand code t 1) ≡ true) × (offset_of code t 0 ≡ 0)
unfolding is_wrapping
wrapping-parts code t h =
    let a = first-true (is_struct code t && nat_eq (length (operands code t)) 2 && is_runtime_array code (operand code t 1)) (nat_eq (offset_of code t 0) 0) h in
    let b = first-true (is_struct code t && nat_eq (length (operands code t)) 2) (is_runtime_array code (operand code t 1)) a in (
      first-true (is_struct code t) (nat_eq (length (operands code t)) 2) b,
      eqb-true (length (operands code t)) 2 (second-true (is_struct code t) (nat_eq (length (operands code t)) 2) b),
      second-true (is_struct code t && nat_eq (length (operands code t)) 2) (is_runtime_array code (operand code t 1)) a,
      eqb-true (offset_of code t 0) 0 (second-true (is_struct code t && nat_eq (length (operands code t)) 2 && is_runtime_array code (operand code t 1)) (nat_eq (offset_of code t 0) 0) h),
    )

-- ---- built-in values

second-operand : (os : List ℕ) (x : ℕ) → result_of Variable os ≡ Some x → slice_index os 1 ≡ x
second-operand [] x e = cc
second-operand (t ∷ []) x e = cc
second-operand (t ∷ r ∷ os) x e = cc

built-in-data : (b : Bool) → IsData (cond b (Words false) (Repeated 3 4 (Words false)))
built-in-data true = tt
built-in-data false = tt

input-mark : (code : List Instruction) (place x literal : ℕ) → mark_fits code place (decorates x 11 literal) ≡ true → is_input code x ≡ true
    → built_in_fits code x literal ≡ true
unfolding mark_fits
input-mark code place x literal h e =
    second-true _ _ (cond-true (is_input code x) _ _ h e)

built-in-type : (code : List Instruction) (x literal : ℕ) → built_in_fits code x literal ≡ true → sort code (type_id code x) ≡ PointerType
    → cond (nat_eq literal 29) (is_uint code (operand code (type_id code x) 2)) (is_triple code (operand code (type_id code x) 2)) ≡ true
unfolding built_in_fits
built-in-type code x literal h e =
    ap (λ (s : Sort). if_some (pointed_by s (operand code (type_id code x) 2)) false (λ of. cond (nat_eq literal 29) (is_uint code of) (is_triple code of))) (sym e) ∙ h

triple-sort : (s : Sort) (b : Bool) → if_triple s b ≡ true → (s ≡ VectorType) × (b ≡ true)
triple-sort VectorType b e = (refl, e)
triple-sort s b e = cc

-- ---- valid images

module _ (image : Image) (v : Valid image) where
  pub uint-shape : (t : ℕ) → is_uint image.instructions t ≡ true → shape image.instructions t ≡ Some (Words false)
  uint-shape t h =
      let i = first-true (is_int image.instructions t) (nat_eq (operand image.instructions t 2) 0) h in
      let z : operand image.instructions t 2 ≡ 0 = eqb-true (operand image.instructions t 2) 0 (second-true (is_int image.instructions t) (nat_eq (operand image.instructions t 2) 0) h) in
      shape-int image v t (int-sort image.instructions t i) ∙ ap (λ (n : ℕ). Some (Words (nat_eq n 1))) z

  triple-shape : (t : ℕ) → is_triple image.instructions t ≡ true → shape image.instructions t ≡ Some (Repeated 3 4 (Words false))
  triple-shape t h =
      let p = triple-sort (sort image.instructions t) (nat_eq (operand image.instructions t 2) 3 && is_uint image.instructions (operand image.instructions t 1)) h in
      let n : operand image.instructions t 2 ≡ 3 = eqb-true (operand image.instructions t 2) 3 (first-true (nat_eq (operand image.instructions t 2) 3) (is_uint image.instructions (operand image.instructions t 1)) p.1) in
      let u = uint-shape (operand image.instructions t 1) (second-true (nat_eq (operand image.instructions t 2) 3) (is_uint image.instructions (operand image.instructions t 1)) p.1) in
      vector-of image v t (Words false) p.0 u ∙ ap (λ (n : ℕ). Some (Repeated n 4 (Words false))) n

  built-in-shape : (of literal : ℕ) (b : Bool) → cond b (is_uint image.instructions of) (is_triple image.instructions of) ≡ true
      → shape image.instructions of ≡ Some (cond b (Words false) (Repeated 3 4 (Words false)))
  built-in-shape of literal true h = uint-shape of h
  built-in-shape of literal false h = triple-shape of h

  declared-value : (x p : ℕ) (op : Op) (m : IsMade image.instructions x p) → m.instruction.op ≡ op → place_of image.instructions x 0 ≡ Some p
      → function_of image.instructions p ≡ 0 → is_function op ≡ false → IsDeclared image.instructions x op
  declared-value x p op m o there z f =
      let os = operands-are image.instructions x m.instruction m.defines in
      let same : m.instruction ≡ declares op (operands image.instructions x) =
      ap (λ (q : Op). declares q m.instruction.operands) o ∙ ap (declares op) (sym os) in
      record {
        place = p;
        there = there;
        stands = m.stands ∙ ap Some same;
        result = ap (λ (y : Instruction). result_of y.op y.operands) (sym same) ∙ m.result;
        outside = z;
        plain = f;
      }

  truth-stands : (x : ℕ) (op : Op) (b : Bool) (d : IsDeclared image.instructions x op) → is_bool image.instructions (type_id image.instructions x) ≡ true
      → meaning_of image.instructions (globals_of image.instructions) op (operands image.instructions x) ≡ IsValue (Plain (Truth b)) → IsStanding image.instructions x
  truth-stands x op b d h m =
      let s = bool-sort image.instructions (type_id image.instructions x) h in
      record {
        operand = Plain (Truth b);
        is = valued image v x op (Plain (Truth b)) d m;
        suits = record { has_values = bool-data image v (type_id image.instructions x) s; form = Truths; is = shape-bool image v (type_id image.instructions x) s; like = tt };
        not_void = ap is_void_sort s;
      }

  word-stands : (x : ℕ) (d : IsDeclared image.instructions x Constant) → IsStanding image.instructions x
  word-stands x d =
      let t = type_id image.instructions x in
      let h : is_int image.instructions t ≡ true = right-rule image v d.place (declares Constant (operands image.instructions x)) d.stands in
      let s = int-sort image.instructions t h in
      record {
        operand = Plain (Word (operand image.instructions x 2));
        is = valued image v x Constant (Plain (Word (operand image.instructions x 2))) d (constant-means image.instructions (globals_of image.instructions) (operands image.instructions x) (layout image v x Constant d));
        suits = record { has_values = int-data image v t s; form = Words (nat_eq (operand image.instructions t 2) 1); is = shape-int image v t s; like = tt };
        not_void = ap is_void_sort s;
      }

  -- a null is the zero of its type
  pub null-stands : (x : ℕ) (d : IsDeclared image.instructions x ConstantNull) → IsStanding image.instructions x
  null-stands x d =
      let t = type_id image.instructions x in
      let h : is_data image.instructions t ≡ true = right-rule image v d.place (declares ConstantNull (operands image.instructions x)) d.stands in
      let s = data-shape image v t h in
      record {
        operand = Plain (zero_of s.form);
        is = valued image v x ConstantNull (Plain (zero_of s.form)) d
            (null-means image.instructions (globals_of image.instructions) (operands image.instructions x) (layout image v x ConstantNull d) ∙ ap null s.is);
        suits = record { has_values = h; form = s.form; is = s.is; like = zero-like s.form s.plain };
        not_void = data-not-void image v t h;
      }

  -- ---- variables

  variable-declared : (x : ℕ) (h : IsOutside image v x) → IsDeclared image.instructions x Variable
  variable-declared x h = record {
    place = h.holder.place;
    there = h.holder.there;
    stands = h.holder.stands;
    result = h.holder.result;
    outside = h.outside;
    plain = refl;
  }

  pub variable-class : (x class : ℕ) (h : IsOutside image v x) → operand image.instructions x 2 ≡ class
      → global_fits image.instructions class (operand image.instructions (type_id image.instructions x) 2) x ≡ true
  variable-class x class h e =
      let one : operand image.instructions x 1 ≡ x = second-operand (operands image.instructions x) x h.holder.result in
      subst (λ (c : ℕ). global_fits image.instructions c (operand image.instructions (type_id image.instructions x) 2) x ≡ true) e
      (subst (λ (y : ℕ). global_fits image.instructions (operand image.instructions x 2) (operand image.instructions (type_id image.instructions x) 2) y ≡ true) one (right-outside image v x h))

  input-stands : (x : ℕ) (h : IsOutside image v x) → is_variable image.instructions x ≡ true → operand image.instructions x 2 ≡ 1 → IsStanding image.instructions x
  input-stands x h var e =
      let code = image.instructions in
      let t = type_id code x in
      let d = variable-declared x h in
      let r = right-variable image v x h.holder in
      let m = mark-there (mark code 0 x 11) (input-fits code (operand code t 2) x (variable-class x 1 h e)) in
      let b = m.0.literal in
      let at = mark-found code 0 x 11 m.0 m.1 in
      let built_in : is_built_in b ≡ true = right-layout image v at.steps (decorates x 11 b) at.stands in
      let input : is_input code x ≡ true = both (is_variable code x) (nat_eq (operand code x 2) 1) var (eq-eqb (operand code x 2) 1 e) in
      let fits = input-mark code at.steps x b (right-rule image v at.steps (decorates x 11 b) at.stands) input in
      let p = pointer-is code t r.pointer in
      let of : shape code (operand code t 2) ≡ Some (built_in_shape b) = built-in-shape (operand code t 2) b (nat_eq b 29) (built-in-type code x b fits p) in
      let literal : or_zero (decoration code x 11) ≡ b = ap or_zero (mark-is code 0 x 11) ∙ ap (λ (o : Option Mark). or_zero (literal_in o)) m.1 in
      let class : operand code t 1 ≡ 1 = r.class ∙ e in
      let means : meaning_of code (globals_of code) Variable (operands code x) ≡ IsValue (Path (Input b) []) =
      (variable-means code (globals_of code) (operands code x) x (layout image v x Variable d) h.holder.result).0
      ∙ (ap (λ (c : ℕ). global_variable code x c (shape code t)) e ∙ ap (λ (n : ℕ). IsValue (Path (Input n) [])) literal) in
      record {
        operand = Path (Input b) [];
        is = valued image v x Variable (Path (Input b) []) d means;
        suits = record {
          leads = r.pointer;
          class = (class, built_in);
          whole = built_in_shape b;
          holds = refl;
          plain = built-in-data (nat_eq b 29);
          place = 0;
          part = built_in_shape b;
          found = refl;
          is = of;
        };
        not_void = ap is_void_sort p;
      }

  buffer-by : (x : ℕ) (h : IsOutside image v x) (class : ℕ) → operand image.instructions x 2 ≡ class → is_struct image.instructions (operand image.instructions (type_id image.instructions x) 2) ≡ true
      → ((s : Shape) → global_variable image.instructions x class (Some (PointerTo s)) ≡ IsValue (InBuffer (or_zero (decoration image.instructions x 34)) (or_zero (decoration image.instructions x 33)) 0 s))
      → IsBufferStanding image.instructions x
  buffer-by x h class e struct means =
      let code = image.instructions in
      let t = type_id code x in
      let d = variable-declared x h in
      let r = right-variable image v x h.holder in
      let p = pointer-is code t r.pointer in
      let z = struct-sort code (operand code t 2) struct in
      let f = shape-struct image v (operand code t 2) z in
      let s = Fields f.fields in
      let pointers = shape-pointer image v t s p f.whole in
      record {
        pointer = p;
        class = r.class;
        struct = z;
        form = s;
        pointee = f.whole;
        is = valued image v x Variable (InBuffer (or_zero (decoration code x 34)) (or_zero (decoration code x 33)) 0 s) d
            ((variable-means code (globals_of code) (operands code x) x (layout image v x Variable d) h.holder.result).0
            ∙ (ap (λ (c : ℕ). global_variable code x c (shape code t)) e ∙ (ap (global_variable code x class) pointers ∙ means s)));
      }

  uniform-stands : (x : ℕ) (h : IsOutside image v x) → operand image.instructions x 2 ≡ 2 → IsBufferStanding image.instructions x
  uniform-stands x h e =
      buffer-by x h 2 e (uniform-fits image.instructions (operand image.instructions (type_id image.instructions x) 2) x (variable-class x 2 h e)).2 (λ s. refl)

  storage-stands : (x : ℕ) (h : IsOutside image v x) → operand image.instructions x 2 ≡ 12 → IsBufferStanding image.instructions x
  storage-stands x h e =
      buffer-by x h 12 e
      (wrapping-parts image.instructions (operand image.instructions (type_id image.instructions x) 2)
      (storage-fits image.instructions (operand image.instructions (type_id image.instructions x) 2) x (variable-class x 12 h e)).2).0
      (λ s. refl)

  in-buffer : (x class : ℕ) → is_variable image.instructions x ≡ true → operand image.instructions x 2 ≡ class → is_buffer_class class ≡ true
      → IsBufferStanding image.instructions x → IsStanding image.instructions x
  in-buffer x class var e c b =
      let code = image.instructions in
      let of_class : is_buffer_class (operand code x 2) ≡ true = ap is_buffer_class e ∙ c in
      record {
        operand = InBuffer (or_zero (decoration code x 34)) (or_zero (decoration code x 33)) 0 b.form;
        is = b.is;
        suits = record {
          leads = ap is_pointer_sort b.pointer;
          class = ap is_buffer_class b.class ∙ of_class;
          is = b.pointee;
          variable = x;
          buffer = both (is_variable code x) (is_buffer_class (operand code x 2)) var of_class;
          its_set = refl;
          its_binding = refl;
        };
        not_void = ap is_void_sort b.pointer;
      }

  variable-stands : (x : ℕ) (h : IsOutside image v x) → is_variable image.instructions x ≡ true → IsStanding image.instructions x
  variable-stands x h var =
      let d = variable-declared x h in
      ⊎_elim
      (λ e. input-stands x h var e)
      (λ q. ⊎_elim
      (λ e. in-buffer x 2 var e refl (uniform-stands x h e))
      (λ q. ⊎_elim
      (λ e. absurd (outside-class image v x h e))
      (λ e. in-buffer x 12 var e refl (storage-stands x h e)) q) q)
      (storage-cases (operand image.instructions x 2) (variable-means image.instructions (globals_of image.instructions) (operands image.instructions x) x (layout image v x Variable d) h.holder.result).1)

  -- ---- all values outside of functions

  pub global-standing : (x : ℕ) → IsGlobal image.instructions x → IsStanding image.instructions x
  global-standing x h =
      let code = image.instructions in
      let m = made code x h.place h.there in
      let op = m.instruction.op in
      let some : section op ≢ 0 = some-section _ _ (outside-follows image v h.place m.instruction m.stands h.outside) in
      let value : is_value_sort (sort_of op) ≡ true = ap is_value_sort (sym (sort-is code x m.instruction m.defines)) ∙ h.value in
      let a : defines_value op ≡ true = both (is_value_sort (sort_of op)) (not (nat_eq (section op) 0)) value (ap not (ne_eqb (section op) 0 some)) in
      ⊎_elim
      (λ o. let d = declared-value x h.place ConstantTrue m o h.there h.outside refl in
      truth-stands x ConstantTrue true d (right-rule image v d.place (declares ConstantTrue (operands code x)) d.stands)
      (true-means code (globals_of code) (operands code x) (layout image v x ConstantTrue d)))
      (λ q. ⊎_elim
      (λ o. let d = declared-value x h.place ConstantFalse m o h.there h.outside refl in
      truth-stands x ConstantFalse false d (right-rule image v d.place (declares ConstantFalse (operands code x)) d.stands)
      (false-means code (globals_of code) (operands code x) (layout image v x ConstantFalse d)))
      (λ q. ⊎_elim
      (λ o. word-stands x (declared-value x h.place Constant m o h.there h.outside refl))
      (λ q. ⊎_elim
      (λ o. null-stands x (declared-value x h.place ConstantNull m o h.there h.outside refl))
      (λ o. let d = declared-value x h.place Variable m o h.there h.outside refl in
      variable-stands x (record {
        holder = record { place = d.place; there = d.there; stands = d.stands; result = d.result };
        outside = d.outside;
      }) (ap is_variable_sort (sort-is code x m.instruction m.defines ∙ ap sort_of o)))
      q) q) q) (global-op op a)

  pub global-stands : (x : ℕ) → IsGlobal image.instructions x
      → (o : Operand) × ((globals_of image.instructions).ids x ≡ Some o) × Suits image.instructions o (type_id image.instructions x)
  global-stands x h = let s = global-standing x h in (s.operand, s.is, s.suits)

  pub global-not-void : (x : ℕ) → IsGlobal image.instructions x → is_void image.instructions (type_id image.instructions x) ≡ false
  global-not-void x h = (global-standing x h).not_void

  -- ---- constants

  -- a number that indexes stands for itself
  pub constant-stands : (x n : ℕ) → is_int image.instructions (type_id image.instructions x) ≡ true → constant_number image.instructions x ≡ Some n
      → (globals_of image.instructions).ids x ≡ Some (Plain (Word n))
  constant-stands x n int h = by-sort (sort image.instructions x) refl h
    where
      by-sort : (s : Sort) → sort image.instructions x ≡ s → number_of s (operand image.instructions x 2) ≡ Some n
          → (globals_of image.instructions).ids x ≡ Some (Plain (Word n))
      by-sort Number e h =
          let same : operand image.instructions x 2 ≡ n = cc in
          constant-word image v x e ∙ ap (λ (w : ℕ). Some (Plain (Word w))) same
      by-sort Null e h =
          let same : 0 ≡ n = cc in
          let d = declaration image v x Null ConstantNull (sorted image.instructions x Null e (λ e. cc)) op-null (λ b. refl) refl in
          let t = type_id image.instructions x in
          let form = shape-int image v t (int-sort image.instructions t int) in
          valued image v x ConstantNull (Plain (Word n)) d
          (null-means image.instructions (globals_of image.instructions) (operands image.instructions x) (layout image v x ConstantNull d)
          ∙ (ap null form ∙ ap (λ (w : ℕ). IsValue (Plain (Word w))) same))
      by-sort s e h = cc

  -- ---- buffers

  pub buffer-parts : (x : ℕ) → is_buffer image.instructions x ≡ true
      → (is_variable image.instructions x ≡ true) × (is_buffer_class (operand image.instructions x 2) ≡ true)
  buffer-parts x h = (
    first-true (is_variable image.instructions x) (is_buffer_class (operand image.instructions x 2)) h,
    second-true (is_variable image.instructions x) (is_buffer_class (operand image.instructions x 2)) h,
  )

  pub buffer-outside : (x : ℕ) → is_buffer image.instructions x ≡ true → IsOutside image v x
  buffer-outside x h =
      let p = buffer-parts x h in
      let d = holder image.instructions x p.0 in
      record { holder = d; outside = either d p.1 (nat_eq (function_of image.instructions d.place) 0) refl }
    where
      either : (d : IsHolder image.instructions x) → is_buffer_class (operand image.instructions x 2) ≡ true → (b : Bool)
          → nat_eq (function_of image.instructions d.place) 0 ≡ b → function_of image.instructions d.place ≡ 0
      either d c true e = eqb-true (function_of image.instructions d.place) 0 e
      either d c false e =
          let i = inside-class image v x d (eqb-false (function_of image.instructions d.place) 0 e) in
          let n : is_buffer_class (operand image.instructions x 2) ≡ false = ap is_buffer_class i.0 in
          cc

  pub buffer-global : (x : ℕ) → is_buffer image.instructions x ≡ true → IsGlobal image.instructions x
  buffer-global x h =
      let o = buffer-outside x h in
      record {
        value = variable-value image v x (buffer-parts x h).0;
        place = o.holder.place;
        there = o.holder.there;
        outside = o.outside;
      }

  pub buffer-stands : (x : ℕ) → is_buffer image.instructions x ≡ true → IsBufferStanding image.instructions x
  buffer-stands x h =
      let o = buffer-outside x h in
      ⊎_elim
      (λ e. uniform-stands x o (eqb-true (operand image.instructions x 2) 2 e))
      (λ e. storage-stands x o (eqb-true (operand image.instructions x 2) 12 e))
      (or-cases (nat_eq (operand image.instructions x 2) 2) (nat_eq (operand image.instructions x 2) 12) (buffer-parts x h).1)

  -- the two marks of a buffer
  pub buffer-marks : (x : ℕ) → is_buffer image.instructions x ≡ true
      → (has_mark image.instructions x 34 ≡ true) × (has_mark image.instructions x 33 ≡ true)
  buffer-marks x h =
      let o = buffer-outside x h in
      let of = operand image.instructions (type_id image.instructions x) 2 in
      ⊎_elim
      (λ e. let f = uniform-fits image.instructions of x (variable-class x 2 o (eqb-true (operand image.instructions x 2) 2 e)) in (f.0, f.1))
      (λ e. let f = storage-fits image.instructions of x (variable-class x 12 o (eqb-true (operand image.instructions x 2) 12 e)) in (f.0, f.1))
      (or-cases (nat_eq (operand image.instructions x 2) 2) (nat_eq (operand image.instructions x 2) 12) (buffer-parts x h).1)
