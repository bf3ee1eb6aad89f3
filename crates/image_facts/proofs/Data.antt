-- Types that values have, and types that buffers have, have shapes.
use Rattle.std.proofs.Common.{◌≡◌, ℕ, zero, suc, ◌+◌, ◌<◌, ◌≤◌, ◌⊎◌, inl, inr, Bool, true, false, ◌&&◌, nat_eq, nat_le, List, [], ◌∷◌, length, drop, slice_get, slice_index, IsTrue, Option, Some, None, refl, sym, ap, subst, ◌∙◌, add-one, arith}
use Rattle.std.specs.List.{list_all}
use Rattle.std.proofs.lemmas.Bool.{leb-true}
use Rattle.std.proofs.lemmas.Option.{slice_get_within, get_or_from_slice_get}
use Rattle.spirv_words.specs.declared.opcodes.Op.TheVariants.{TypeVector, TypeArray, TypeRuntimeArray, TypeStruct}
use Rattle.spirv_words.specs.declared.images.Instruction.{Instruction}
use Rattle.spirv_words.specs.declared.images.Image.{Image}
use Rattle.spirv_words.specs.Layouts as layouts
use Rattle.spirv_words.specs.Machine.{Shape, Shapes, Truths, Words, Repeated, Fields, NoField, Field, if_some, or_zero, offset, fields, place_of}
use Rattle.spirv_words.specs.Step.{field_at}
use Rattle.flat_values.specs.Flat.{AreData}
use Rattle.image_lookup.specs.declared.sorts.Sort.{Sort}
use Rattle.image_lookup.specs.declared.sorts.Sort.TheVariants.{VoidType, BoolType, IntType, VectorType, ArrayType, RuntimeArrayType, StructType}
use Rattle.image_lookup.specs.Lookups.{sort, operands, operand}
use Rattle.image_declarations.specs.declared.types.TypeFacts.{TypeFacts}
use Rattle.image_declarations.specs.Decorations.{stride_of, offset_of}
use Rattle.image_declarations.specs.Types.{length_of, no_facts, facts_by, type_facts}
use Rattle.image_declarations.specs.Holdings.{is_data, is_unbounded, is_wrapper}
use Rattle.image_operands.specs.Operators.{is_bool, is_int}
use Rattle.image_operands.specs.Memory.{member_at}
use Rattle.image_types.specs.Functions.{is_void_sort, is_void}
use Rattle.image_types.specs.Parts.{has_stride, may_be_member, runtime_array_fits, struct_fits}
use Rattle.call_graph.proofs.Walks.{first-true, second-true}
use Rattle.call_graph.proofs.Visits.{or-cases}
use Rattle.spirv_check.specs.Valid.{Valid}
use Rattle.image_facts.specs.Operands.{globals_of, shape}
use Rattle.image_facts.specs.Shaped.{IsRepeated, IsUnbounded, AreFields, IsFields, HasData}
use Rattle.image_facts.proofs.Rules.{not-true, right-rule, some-same}
use Rattle.image_facts.proofs.Marks.{offset-is}
use Rattle.image_facts.proofs.Fixpoint.{struct-role}
use Rattle.image_facts.proofs.Facts.{facts_or, facts-before, facts-placed, facts-by-sort}
use Rattle.image_facts.proofs.Shapes.{declares, IsDeclared, layout, declared-vector, vector-parts, bool-sort, int-sort, declared-array, declared-runtime, declared-struct, shape-bool, shape-int, vector-of, array-of, runtime-of, shape-fields, array-rule, array-parts, vector-components}

pub record HasShape (code : List Instruction) (t : ℕ) : Type 0 where
  pub form : Shape
  pub is : shape code t ≡ Some form

pub all-at : (p : ℕ → Bool) (ts : List ℕ) → list_all p ts ≡ true → (j : ℕ) → j < length ts → p (slice_index ts j) ≡ true
all-at p [] e j l = absurd (omega arith)
all-at p (t ∷ ts) e zero l = first-true (p t) (list_all p ts) e
all-at p (t ∷ ts) e (suc j) l = all-at p ts (second-true (p t) (list_all p ts) e) j (omega arith)

-- ---- the members of a struct

abbrev made-fields : List Instruction → ℕ → ℕ → List ℕ → Shapes
made-fields code t k ts = fields code (globals_of code) t k ts

fields-next : (code : List Instruction) (t k m : ℕ) (ms : List ℕ) (s : Shape) → shape code m ≡ Some s
    → made-fields code t k (m ∷ ms) ≡ Field (offset_of code t k) s (made-fields code t (k + 1) ms)
fields-next code t k m ms s e =
    ap (λ (o : Option Shape). if_some o NoField (λ s. Field (or_zero (offset code t k)) s (made-fields code t (k + 1) ms))) e
    ∙ ap (λ (n : ℕ). Field n s (made-fields code t (k + 1) ms)) (offset-is code 0 t k)

fields-are : (code : List Instruction) (t k : ℕ) (ts : List ℕ) → ((j : ℕ) → j < length ts → HasShape code (slice_index ts j))
    → AreFields code t k ts (made-fields code t k ts)
fields-are code t k [] h = tt
fields-are code t k (m ∷ ms) h =
    let s = h 0 (omega arith) in
    subst (AreFields code t k (m ∷ ms)) (sym (fields-next code t k m ms s.form s.is))
    (refl, s.is, fields-are code t (k + 1) ms (λ j l. h (suc j) (omega arith)))

fields-data : (code : List Instruction) (t k : ℕ) (ts : List ℕ) → ((j : ℕ) → j < length ts → HasData code (slice_index ts j))
    → AreData (made-fields code t k ts)
fields-data code t k [] h = tt
fields-data code t k (m ∷ ms) h =
    let s = h 0 (omega arith) in
    subst AreData (sym (fields-next code t k m ms s.form s.is)) (s.plain, fields-data code t (k + 1) ms (λ j l. h (suc j) (omega arith)))

pub member-in : (code : List Instruction) (t k : ℕ) (ts : List ℕ) (fs : Shapes) → AreFields code t k ts fs → (n m : ℕ) → slice_get ts n ≡ Some m
    → (s : Shape) × (field_at fs n ≡ Some (offset_of code t (k + n), s)) × (shape code m ≡ Some s)
member-in code t k [] NoField h n m e = cc
member-in code t k (x ∷ ts) (Field o s rest) h zero m e =
    let same : x ≡ m = cc in
    let at : k ≡ k + 0 = omega arith in
    let o_is : o ≡ offset_of code t (k + 0) = h.0 ∙ ap (offset_of code t) at in
    (s, ap (λ (q : ℕ). Some (q, s)) o_is, ap (shape code) (sym same) ∙ h.1)
member-in code t k (x ∷ ts) (Field o s rest) h (suc n) m e =
    let r = member-in code t (k + 1) ts rest h.2 n m e in
    let at : (k + 1) + n ≡ k + suc n = omega arith in
    (r.0, r.1 ∙ ap (λ (q : ℕ). Some (offset_of code t q, r.0)) at, r.2)
member-in code t k [] (Field o s rest) h n m e = absurd h
member-in code t k (x ∷ ts) NoField h n m e = absurd h

pub no-member-in : (code : List Instruction) (t k : ℕ) (ts : List ℕ) (fs : Shapes) → AreFields code t k ts fs → (n : ℕ) → slice_get ts n ≡ None
    → field_at fs n ≡ None
no-member-in code t k [] NoField h n e = refl
no-member-in code t k (x ∷ ts) (Field o s rest) h zero e = cc
no-member-in code t k (x ∷ ts) (Field o s rest) h (suc n) e = no-member-in code t (k + 1) ts rest h.2 n e
no-member-in code t k [] (Field o s rest) h n e = absurd h
no-member-in code t k (x ∷ ts) NoField h n e = absurd h

pub member-behind : (os : List ℕ) (n : ℕ) → slice_get (drop 1 os) n ≡ slice_get os (n + 1)
member-behind [] n = refl
member-behind (r ∷ os) n = ap (slice_get (r ∷ os)) (sym (add-one n))

pub struct-member : (code : List Instruction) (t n m : ℕ) (f : IsFields code t) → member_at code t n ≡ Some m
    → (s : Shape) × (field_at f.fields n ≡ Some (offset_of code t n, s)) × (shape code m ≡ Some s)
struct-member code t n m f e =
    let r = member-in code t 0 (drop 1 (operands code t)) f.fields f.members n m (member-behind (operands code t) n ∙ e) in
    let at : 0 + n ≡ n = omega arith in
    (r.0, r.1 ∙ ap (λ (q : ℕ). Some (offset_of code t q, r.0)) at, r.2)

pub struct-no-member : (code : List Instruction) (t n : ℕ) (f : IsFields code t) → member_at code t n ≡ None → field_at f.fields n ≡ None
struct-no-member code t n f e = no-member-in code t 0 (drop 1 (operands code t)) f.fields f.members n (member-behind (operands code t) n ∙ e)

-- ---- rules and layouts

pub array-long : (os : List ℕ) → IsTrue (layouts.fits TypeArray os) → 1 < length os
array-long (r ∷ t ∷ n ∷ []) l = omega arith
array-long os l = cc

pub runtime-long : (os : List ℕ) → IsTrue (layouts.fits TypeRuntimeArray os) → 1 < length os
runtime-long (r ∷ t ∷ []) l = omega arith
runtime-long os l = cc

pub runtime-data : (code : List Instruction) (i : Instruction) → runtime_array_fits code i ≡ true → is_data code (slice_index i.operands 1) ≡ true
unfolding runtime_array_fits
runtime-data code i h = first-true (is_data code (slice_index i.operands 1)) (has_stride code (slice_index i.operands 0)) h

lanes-by : (os : List ℕ) → IsTrue (layouts.fits TypeVector os) → (2 ≤ slice_index os 2) × (slice_index os 2 ≤ 4)
lanes-by (r ∷ t ∷ n ∷ []) l = (leb-true 2 n (first-true (nat_le 2 n) (nat_le n 4) l), leb-true n 4 (second-true (nat_le 2 n) (nat_le n 4) l))
lanes-by os l = cc

pub struct-members : (code : List Instruction) (i : Instruction) → struct_fits code i ≡ true
    → list_all (λ t. may_be_member code (is_wrapper code (slice_index i.operands 0)) t) (drop 1 i.operands) ≡ true
unfolding struct_fits
struct-members code i h = first-true _ _ h

pub may-be : (code : List Instruction) (wraps : Bool) (t : ℕ) → may_be_member code wraps t ≡ true → (is_data code t ≡ true) ⊎ (is_unbounded code t ≡ true)
may-be code wraps t h = either (or-cases (is_data code t) (wraps && is_unbounded code t) h)
  where
    either : (is_data code t ≡ true) ⊎ ((wraps && is_unbounded code t) ≡ true) → (is_data code t ≡ true) ⊎ (is_unbounded code t ≡ true)
    either (inl a) = inl a
    either (inr b) = inr (second-true wraps (is_unbounded code t) b)

member-long : (os : List ℕ) (j : ℕ) → j < length (drop 1 os) → suc j < length os
member-long [] j l = absurd (omega arith)
member-long (r ∷ os) j l = omega arith

pub member-operand : (os : List ℕ) (j : ℕ) → slice_index (drop 1 os) j ≡ slice_index os (suc j)
member-operand [] j = refl
member-operand (r ∷ os) j = refl

pub data-some : (f : TypeFacts) → f.is_data ≡ true → f ≡ no_facts → ⊥
data-some f d e = let n : f.is_data ≡ false = ap (λ (f : TypeFacts). f.is_data) e in cc

pub unbounded-some : (f : TypeFacts) → f.unbounded ≡ true → f ≡ no_facts → ⊥
unbounded-some f d e = let n : f.unbounded ≡ false = ap (λ (f : TypeFacts). f.unbounded) e in cc

-- ---- valid images

module _ (image : Image) (v : Valid image) where
  -- what an array's element, or a struct's member, that has facts is declared before
  pub array-before : (t k : ℕ) (d : IsDeclared image.instructions t TypeArray) → place_of image.instructions t 0 ≡ Some k
      → is_data image.instructions (operand image.instructions t 1) ≡ true
      → (p : ℕ) × (place_of image.instructions (operand image.instructions t 1) 0 ≡ Some p) × (p < k)
  array-before t k d there h =
      let same : d.place ≡ k = some-same (sym d.there ∙ there) in
      let r = facts-before image v d.place (declares TypeArray (operands image.instructions t)) 1 d.stands
      (array-long (operands image.instructions t) (layout image v t TypeArray d)) refl (data-some (type_facts image.instructions (operand image.instructions t 1)) h) in
      (r.0, r.1, omega (arith, r.2, same))

  pub member-before : (t k : ℕ) (d : IsDeclared image.instructions t TypeStruct) → place_of image.instructions t 0 ≡ Some k
      → (j : ℕ) → j < length (drop 1 (operands image.instructions t))
      → (type_facts image.instructions (slice_index (drop 1 (operands image.instructions t)) j) ≡ no_facts → ⊥)
      → (p : ℕ) × (place_of image.instructions (slice_index (drop 1 (operands image.instructions t)) j) 0 ≡ Some p) × (p < k)
  member-before t k d there j l h =
      let same : d.place ≡ k = some-same (sym d.there ∙ there) in
      let e = member-operand (operands image.instructions t) j in
      let r = facts-before image v d.place (declares TypeStruct (operands image.instructions t)) (suc j) d.stands
      (member-long (operands image.instructions t) j l) (struct-role j) (λ z. h (ap (type_facts image.instructions) e ∙ z)) in
      (r.0, ap (λ (x : ℕ). place_of image.instructions x 0) e ∙ r.1, omega (arith, r.2, same))

  -- ---- data

  abbrev DataBelow : ℕ → Type 0
  DataBelow n = (t p : ℕ) → place_of image.instructions t 0 ≡ Some p → p < n → is_data image.instructions t ≡ true → HasData image.instructions t

  data-by : (n t p : ℕ) → DataBelow n → place_of image.instructions t 0 ≡ Some p → p < suc n → (s : Sort) → sort image.instructions t ≡ s
      → (facts_or no_facts (facts_by image.instructions (type_facts image.instructions) s (operands image.instructions t))).is_data ≡ true
      → HasData image.instructions t
  data-by n t p below there l BoolType e h = record { form = Truths; is = shape-bool image v t e; plain = tt }
  data-by n t p below there l IntType e h =
      record { form = Words (nat_eq (operand image.instructions t 2) 1); is = shape-int image v t e; plain = tt }
  data-by n t p below there l VectorType e h =
      let c = vector-components image v t e in
      record { form = Repeated (operand image.instructions t 2) 4 c.of; is = vector-of image v t c.of e c.element; plain = c.plain }
  data-by n t p below there l ArrayType e h =
      let d = declared-array image v t e in
      let q = array-before t p d there h in
      let c = below (operand image.instructions t 1) q.0 q.1 (omega (arith, q.2)) h in
      record {
        form = Repeated (length_of image.instructions (operand image.instructions t 2)) (stride_of image.instructions t) c.form;
        is = array-of image v t c.form e c.is;
        plain = c.plain;
      }
  data-by n t p below there l StructType e h =
      let d = declared-struct image v t e in
      let ts = drop 1 (operands image.instructions t) in
      record {
        form = Fields (made-fields image.instructions t 0 ts);
        is = shape-fields image v t e;
        plain = fields-data image.instructions t 0 ts (λ j m.
            let a = all-at (λ t. (type_facts image.instructions t).is_data) ts h j m in
            let q = member-before t p d there j m (data-some (type_facts image.instructions (slice_index ts j)) a) in
            below (slice_index ts j) q.0 q.1 (omega (arith, q.2)) a);
      }
  data-by n t p below there l s e h = cc

  data-below : (n : ℕ) → DataBelow n
  data-below zero t p there l h = absurd (omega arith)
  data-below (suc n) t p there l h =
      data-by n t p (data-below n) there l (sort image.instructions t) refl (sym (ap (λ (f : TypeFacts). f.is_data) (facts-by-sort image v t)) ∙ h)

  pub data-shape : (t : ℕ) → is_data image.instructions t ≡ true → HasData image.instructions t
  data-shape t h =
      let p = facts-placed image v t (data-some (type_facts image.instructions t) h) in
      data-below (suc p.0) t p.0 p.1 (omega arith) h

  -- ---- arrays

  pub array-data : (t : ℕ) → sort image.instructions t ≡ ArrayType → is_data image.instructions (operand image.instructions t 1) ≡ true
  array-data t e =
      let i = declares TypeArray (operands image.instructions t) in
      runtime-data image.instructions i (array-parts image.instructions i (array-rule image v t e)).0

  pub shape-array : (t : ℕ) → sort image.instructions t ≡ ArrayType
      → IsRepeated image.instructions t (length_of image.instructions (operand image.instructions t 2)) (stride_of image.instructions t)
  shape-array t e =
      let c = data-shape (operand image.instructions t 1) (array-data t e) in
      record { of = c.form; element = c.is; whole = array-of image v t c.form e c.is }

  pub runtime-array-data : (t : ℕ) → sort image.instructions t ≡ RuntimeArrayType → is_data image.instructions (operand image.instructions t 1) ≡ true
  runtime-array-data t e =
      let d = declared-runtime image v t e in
      let i = declares TypeRuntimeArray (operands image.instructions t) in
      runtime-data image.instructions i (right-rule image v d.place i d.stands)

  pub shape-runtime : (t : ℕ) → sort image.instructions t ≡ RuntimeArrayType → IsUnbounded image.instructions t
  shape-runtime t e =
      let c = data-shape (operand image.instructions t 1) (runtime-array-data t e) in
      record { of = c.form; element = c.is; whole = runtime-of image v t c.form e c.is }

  -- ---- structs

  pub member-kinds : (t : ℕ) → sort image.instructions t ≡ StructType → (j : ℕ) → j < length (drop 1 (operands image.instructions t))
      → (is_data image.instructions (slice_index (drop 1 (operands image.instructions t)) j) ≡ true)
      ⊎ (is_unbounded image.instructions (slice_index (drop 1 (operands image.instructions t)) j) ≡ true)
  member-kinds t e j l =
      let d = declared-struct image v t e in
      let i = declares TypeStruct (operands image.instructions t) in
      may-be image.instructions (is_wrapper image.instructions (slice_index (operands image.instructions t) 0)) (slice_index (drop 1 (operands image.instructions t)) j)
      (all-at (λ t. may_be_member image.instructions (is_wrapper image.instructions (slice_index i.operands 0)) t) (drop 1 i.operands)
      (struct-members image.instructions i (right-rule image v d.place i d.stands)) j l)

  pub unbounded-shape : (t : ℕ) → is_unbounded image.instructions t ≡ true → HasShape image.instructions t
  unbounded-shape t h =
      by-sort (sort image.instructions t) refl (sym (ap (λ (f : TypeFacts). f.unbounded) (facts-by-sort image v t)) ∙ h)
    where
      by-sort : (s : Sort) → sort image.instructions t ≡ s
          → (facts_or no_facts (facts_by image.instructions (type_facts image.instructions) s (operands image.instructions t))).unbounded ≡ true
          → HasShape image.instructions t
      by-sort ArrayType e h = let a = shape-array t e in record { form = _; is = a.whole }
      by-sort RuntimeArrayType e h = let a = shape-runtime t e in record { form = _; is = a.whole }
      by-sort StructType e h = record { form = _; is = shape-fields image v t e }
      by-sort s e h = cc

  pub shape-struct : (t : ℕ) → sort image.instructions t ≡ StructType → IsFields image.instructions t
  shape-struct t e = record {
    fields = made-fields image.instructions t 0 (drop 1 (operands image.instructions t));
    whole = shape-fields image v t e;
    members = fields-are image.instructions t 0 (drop 1 (operands image.instructions t)) (λ j l.
        either (slice_index (drop 1 (operands image.instructions t)) j) (member-kinds t e j l));
  }
    where
      either : (m : ℕ) → (is_data image.instructions m ≡ true) ⊎ (is_unbounded image.instructions m ≡ true) → HasShape image.instructions m
      either m (inl d) = let s = data-shape m d in record { form = s.form; is = s.is }
      either m (inr u) = unbounded-shape m u

  -- ---- which types values have

  data-by-sort : (t : ℕ) (s : Sort) → sort image.instructions t ≡ s
      → is_data image.instructions t ≡ (facts_or no_facts (facts_by image.instructions (type_facts image.instructions) s (operands image.instructions t))).is_data
  data-by-sort t s e =
      ap (λ (f : TypeFacts). f.is_data) (facts-by-sort image v t)
      ∙ ap (λ (s : Sort). (facts_or no_facts (facts_by image.instructions (type_facts image.instructions) s (operands image.instructions t))).is_data) e

  pub bool-data : (t : ℕ) → sort image.instructions t ≡ BoolType → is_data image.instructions t ≡ true
  bool-data t e = data-by-sort t BoolType e

  pub int-data : (t : ℕ) → sort image.instructions t ≡ IntType → is_data image.instructions t ≡ true
  int-data t e = data-by-sort t IntType e

  pub component-data : (t : ℕ) → sort image.instructions t ≡ VectorType → is_data image.instructions (operand image.instructions t 1) ≡ true
  component-data t e =
      let d = declared-vector image v t e in
      let i = declares TypeVector (operands image.instructions t) in
      either (vector-parts image.instructions i (right-rule image v d.place i d.stands))
    where
      either : (is_bool image.instructions (operand image.instructions t 1) ≡ true) ⊎ (is_int image.instructions (operand image.instructions t 1) ≡ true)
          → is_data image.instructions (operand image.instructions t 1) ≡ true
      either (inl b) = bool-data (operand image.instructions t 1) (bool-sort image.instructions (operand image.instructions t 1) b)
      either (inr b) = int-data (operand image.instructions t 1) (int-sort image.instructions (operand image.instructions t 1) b)

  pub vector-data : (t : ℕ) → sort image.instructions t ≡ VectorType → is_data image.instructions t ≡ true
  vector-data t e = data-by-sort t VectorType e ∙ component-data t e

  pub array-is-data : (t : ℕ) → sort image.instructions t ≡ ArrayType → is_data image.instructions t ≡ true
  array-is-data t e = data-by-sort t ArrayType e ∙ array-data t e

  pub runtime-unbounded : (t : ℕ) → sort image.instructions t ≡ RuntimeArrayType → is_unbounded image.instructions t ≡ true
  runtime-unbounded t e =
      ap (λ (f : TypeFacts). f.unbounded) (facts-by-sort image v t)
      ∙ ap (λ (s : Sort). (facts_or no_facts (facts_by image.instructions (type_facts image.instructions) s (operands image.instructions t))).unbounded) e

  pub data-member : (t n m : ℕ) → sort image.instructions t ≡ StructType → is_data image.instructions t ≡ true → member_at image.instructions t n ≡ Some m
      → is_data image.instructions m ≡ true
  data-member t n m e h at =
      let ts = drop 1 (operands image.instructions t) in
      let there : slice_get ts n ≡ Some m = member-behind (operands image.instructions t) n ∙ at in
      let l : n < length ts = slice_get_within ts n m there in
      let is : slice_index ts n ≡ m = get_or_from_slice_get ts n m 0 there in
      ap (is_data image.instructions) (sym is)
      ∙ all-at (λ t. (type_facts image.instructions t).is_data) ts (sym (data-by-sort t StructType e) ∙ h) n l

  pub vector-lanes : (t : ℕ) → sort image.instructions t ≡ VectorType → (2 ≤ operand image.instructions t 2) × (operand image.instructions t 2 ≤ 4)
  vector-lanes t e =
      let d = declared-vector image v t e in lanes-by (operands image.instructions t) (layout image v t TypeVector d)

  pub data-not-void : (t : ℕ) → is_data image.instructions t ≡ true → is_void image.instructions t ≡ false
  data-not-void t h = not-true (is_void image.instructions t) (λ w. void-data (sort image.instructions t) refl w)
    where
      void-data : (s : Sort) → sort image.instructions t ≡ s → is_void_sort s ≡ true → ⊥
      void-data VoidType e w = let n = data-by-sort t VoidType e in cc
      void-data s e w = cc
