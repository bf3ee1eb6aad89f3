-- The types of buffers: where their parts stand.
use Rattle.std.proofs.Common.{◌≡◌, ℕ, zero, suc, ◌+◌, ◌%◌, ◌<◌, ◌≤◌, ◌⊎◌, inl, inr, Bool, true, false, cond, ◌&&◌, ◌||◌, not, nat_eq, nat_le, nat_lt, List, [], ◌∷◌, length, take, drop, slice_get, slice_index, Option, Some, None, refl, sym, ap, subst, ◌∙◌, arith}
use Rattle.std.specs.Prelude.{is_some}
use Rattle.std.specs.List.{list_any}
use Rattle.std.proofs.lemmas.Bool.{eqb-true, eqb-false, leb-true, lt-ltb, cases_lt}
use Rattle.std.proofs.Math.Logic.{⊎_elim}
use Rattle.spirv_words.specs.declared.opcodes.Op.{Op}
use Rattle.spirv_words.specs.declared.opcodes.Op.TheVariants.{TypeArray, TypeRuntimeArray, TypeStruct, Variable}
use Rattle.spirv_words.specs.declared.images.Instruction.{Instruction}
use Rattle.spirv_words.specs.declared.images.Image.{Image}
use Rattle.spirv_words.specs.Machine.{Shape, Shapes, Unbounded, Fields, NoField, Field}
use Rattle.flat_values.specs.Flat.{IsData}
use Rattle.image_lookup.specs.declared.sorts.Sort.{Sort}
use Rattle.image_lookup.specs.declared.sorts.Sort.TheVariants.{BoolType, IntType, VectorType, ArrayType, RuntimeArrayType, StructType}
use Rattle.image_lookup.specs.Sorts.{sort_of}
use Rattle.image_lookup.specs.Lookups.{sort, operands, operand}
use Rattle.image_declarations.specs.declared.decorations.Mark.{Mark}
use Rattle.image_declarations.specs.Decorations.{mark, member_mark, literal_of, stride_of, offset_of}
use Rattle.image_declarations.specs.Reach.{is_buffer_class, pointed_by, parts_behind, reached}
use Rattle.image_declarations.specs.Reach as reaching
use Rattle.image_declarations.specs.Types.{no_facts, type_facts}
use Rattle.image_declarations.specs.Holdings.{is_data, is_unbounded, extent, is_reached, is_wrapper}
use Rattle.image_operands.specs.Memory.{is_runtime_array_sort, is_wrapping}
use Rattle.image_operands.specs.Marks.{if_array, if_struct, is_strided, has_offsets, is_buffer, stride_fits, mark_fits, member_mark_fits}
use Rattle.image_types.specs.Parts.{has_stride, have_offsets, may_be_member, runtime_array_fits, struct_fits}
use Rattle.call_graph.proofs.Walks.{first-true, second-true}
use Rattle.call_graph.proofs.Visits.{or-cases}
use Rattle.spirv_check.specs.Valid.{Valid}
use Rattle.image_facts.specs.Operands.{shape, type_id}
use Rattle.image_facts.specs.Alike.{is_endless, IsStride, IsSpaced, AreSpaced}
use Rattle.image_facts.specs.Shaped.{AreFields}
use Rattle.image_facts.proofs.Rules.{right-rule}
use Rattle.image_facts.proofs.Marks.{decorates, mark-found, offsets, offset-found, mark-there}
use Rattle.image_facts.proofs.Shapes.{declares, layout, declared-array, declared-runtime, declared-struct, shape-bool, shape-int, array-rule, array-parts, array-result, runtime-result, struct-result, vector-components, vector-of}
use Rattle.image_facts.proofs.Data.{may-be, all-at, data-shape, array-data, runtime-array-data, shape-array, shape-runtime, shape-struct, data-some, unbounded-some, array-is-data, array-long, runtime-long, runtime-unbounded, runtime-data, struct-members}
use Rattle.image_facts.proofs.Values.{cond-true}
use Rattle.image_facts.proofs.Globals.{storage-fits, wrapping-parts, buffer-parts, buffer-outside, buffer-stands, variable-class}
use Rattle.image_facts.proofs.Reaching.{IsKind, by-cases, kind-some, struct-kind, same-shape, data-ends, reach-extent}
use Rattle.image_facts.proofs.Reached.{any-place, any-of, added-kind, reached-adder, variable-id, part-reached, buffer-reached, wrapper-variable}

-- ---- rules

when-not : (a b : Bool) → (not a || b) ≡ true → a ≡ true → b ≡ true
when-not true b h e = h
when-not false b h e = cc

runtime-stride : (code : List Instruction) (i : Instruction) → runtime_array_fits code i ≡ true → has_stride code (slice_index i.operands 0) ≡ true
unfolding runtime_array_fits
runtime-stride code i h = second-true (is_data code (slice_index i.operands 1)) (has_stride code (slice_index i.operands 0)) h

struct-offsets : (code : List Instruction) (i : Instruction) → struct_fits code i ≡ true
    → (not (has_offsets code (slice_index i.operands 0)) || have_offsets code (slice_index i.operands 0) (length (drop 1 i.operands))) ≡ true
unfolding struct_fits
struct-offsets code i h = second-true _ _ h

stride-mark : (code : List Instruction) (place t literal : ℕ) → mark_fits code place (decorates t 6 literal) ≡ true → is_strided code t ≡ true
    → stride_fits code t literal ≡ true
unfolding mark_fits
stride-mark code place t literal h e = second-true _ _ (cond-true (is_strided code t) _ _ h e)

not-of : (b : Bool) → not b ≡ true → b ≡ false
not-of true h = cc
not-of false h = refl

stride-parts : (code : List Instruction) (t stride : ℕ) → stride_fits code t stride ≡ true
    → (stride % 4 ≡ 0) × (nat_eq stride 0 ≡ false) × (extent code (operand code t 1) ≤ stride)
unfolding stride_fits
stride-parts code t stride h =
    let a = first-true (nat_eq (stride % 4) 0 && not (nat_eq stride 0)) (nat_le (extent code (operand code t 1)) stride) h in (
      eqb-true (stride % 4) 0 (first-true (nat_eq (stride % 4) 0) (not (nat_eq stride 0)) a),
      not-of (nat_eq stride 0) (second-true (nat_eq (stride % 4) 0) (not (nat_eq stride 0)) a),
      leb-true (extent code (operand code t 1)) stride (second-true (nat_eq (stride % 4) 0 && not (nat_eq stride 0)) (nat_le (extent code (operand code t 1)) stride) h),
    )

offset-mark : (code : List Instruction) (place t n kind literal : ℕ) → member_mark_fits code place (offsets t n kind literal) ≡ true
    → (has_offsets code t && nat_lt (n + 1) (length (operands code t))) ≡ true → literal % 4 ≡ 0
unfolding member_mark_fits
offset-mark code place t n kind literal h e =
    eqb-true (literal % 4) 0 (second-true _ _ (cond-true (has_offsets code t && nat_lt (n + 1) (length (operands code t))) _ _ h e))

offset-there : (code : List Instruction) (t count n : ℕ) → have_offsets code t count ≡ true → n < count → is_some (member_mark code 0 t n) ≡ true
offset-there code t zero n h l = absurd (omega arith)
offset-there code t (suc c) n h l =
    ⊎_elim
    (λ a. offset-there code t c n (first-true (have_offsets code t c) (is_some (member_mark code 0 t c)) h) a)
    (λ b. let same : c ≡ n = omega arith in
    ap (λ (k : ℕ). is_some (member_mark code 0 t k)) (sym same) ∙ second-true (have_offsets code t c) (is_some (member_mark code 0 t c)) h)
    (cases_lt n c)

member-within : (os : List ℕ) (j : ℕ) → j < length (drop 1 os) → j + 1 < length os
member-within [] j l = absurd (omega arith)
member-within (r ∷ os) j l = omega arith

runtime-sort : (s : Sort) → is_runtime_array_sort s ≡ true → s ≡ RuntimeArrayType
runtime-sort RuntimeArrayType e = refl
runtime-sort s e = cc

may-wrap : (code : List Instruction) (w : Bool) (m : ℕ) → may_be_member code w m ≡ true → (is_data code m ≡ true) ⊎ (w ≡ true)
may-wrap code w m h =
    ⊎_elim (λ a. inl a) (λ b. inr (first-true w (is_unbounded code m) b)) (or-cases (is_data code m) (w && is_unbounded code m) h)

array-first : (os : List ℕ) (e : ℕ) → 1 < length os → slice_index os 1 ≡ e → list_any (nat_eq e) (take 1 (drop 1 os)) ≡ true
array-first [] e l s = absurd (omega arith)
array-first (r ∷ []) e l s = absurd (omega arith)
array-first (r ∷ t ∷ os) e l s = any-of e (t ∷ []) 0 (omega arith) s

positive : (n : ℕ) → nat_eq n 0 ≡ false → 0 < n
positive zero e = absurd (eqb-false 0 0 e refl)
positive (suc n) e = omega arith

one-field : (code : List Instruction) (t : ℕ) (os : List ℕ) (fs : Shapes) (s : Shape) → AreFields code t 0 (drop 1 os) fs → length os ≡ 2
    → shape code (slice_index os 1) ≡ Some s → offset_of code t 0 ≡ 0 → fs ≡ Field 0 s NoField
one-field code t (r ∷ m ∷ []) (Field o z NoField) s h l e first =
    let same : z ≡ s = same-shape h.1 e in
    ap (λ (n : ℕ). Field n z NoField) (h.0 ∙ first) ∙ ap (λ (z : Shape). Field 0 z NoField) same
one-field code t (r ∷ m ∷ []) (Field o z (Field p y rest)) s h l e first = absurd h.2
one-field code t (r ∷ m ∷ []) NoField s h l e first = absurd h
one-field code t [] fs s h l e first = absurd (omega arith)
one-field code t (r ∷ []) fs s h l e first = absurd (omega arith)
one-field code t (r ∷ m ∷ n ∷ os) fs s h l e first = absurd (omega arith)

first-part : (os : List ℕ) (t : ℕ) → list_any (nat_eq t) (take 1 (drop 1 os)) ≡ true → t ≡ slice_index os 1
first-part [] t h = cc
first-part (r ∷ []) t h = cc
first-part (r ∷ e ∷ os) t h = ⊎_elim (λ a. eqb-true t e a) (λ b. cc) (or-cases (nat_eq t e) false h)

-- ---- structs

-- what is known of a member with a number
record IsMember (code : List Instruction) (t n m : ℕ) : Type 0 where
  pub whole_words : offset_of code t n % 4 ≡ 0
  pub spaced : (s : Shape) → shape code m ≡ Some s → IsSpaced s
  pub first : (s : Shape) → shape code m ≡ Some s → is_endless s ≡ true → offset_of code t n ≡ 0

are-spaced : (code : List Instruction) (t k : ℕ) (ts : List ℕ) (fs : Shapes) → AreFields code t k ts fs
    → ((j : ℕ) → j < length ts → IsMember code t (k + j) (slice_index ts j)) → AreSpaced fs
are-spaced code t k [] NoField h m = tt
are-spaced code t k (x ∷ ts) (Field o s rest) h m =
    let here : k + 0 ≡ k = omega arith in
    let one : IsMember code t k x = subst (λ (n : ℕ). IsMember code t n x) here (m 0 (omega arith)) in (
      ap (λ (n : ℕ). n % 4) h.0 ∙ one.whole_words,
      one.spaced s h.1,
      λ e. h.0 ∙ one.first s h.1 e,
      are-spaced code t (k + 1) ts rest h.2 (λ j l.
          let next : k + suc j ≡ (k + 1) + j = omega arith in
          subst (λ (n : ℕ). IsMember code t n (slice_index ts j)) next (m (suc j) (omega arith))),
    )
are-spaced code t k [] (Field o s rest) h m = absurd h
are-spaced code t k (x ∷ ts) NoField h m = absurd h

-- ---- valid images

module _ (image : Image) (v : Valid image) where
  -- the stride of an array that a buffer has
  stride-right : (t : ℕ) (of : Shape) → is_strided image.instructions t ≡ true → has_stride image.instructions t ≡ true
      → is_data image.instructions (operand image.instructions t 1) ≡ true → shape image.instructions (operand image.instructions t 1) ≡ Some of
      → IsStride (stride_of image.instructions t) of
  stride-right t of strided has plain is =
      let code = image.instructions in
      let m = mark-there (mark code 0 t 6) (when-not (is_strided code t) (is_some (mark code 0 t 6)) has strided) in
      let at = mark-found code 0 t 6 m.0 m.1 in
      let fits = stride-mark code at.steps t m.0.literal (right-rule image v at.steps (decorates t 6 m.0.literal) at.stands) strided in
      let literal : stride_of code t ≡ m.0.literal = ap literal_of m.1 in
      let p = stride-parts code t m.0.literal fits in
      let far = reach-extent image v (operand code t 1) of (inl plain) is in
      record {
        whole_words = ap (λ (n : ℕ). n % 4) literal ∙ p.0;
        some = omega (arith, literal, positive m.0.literal p.1);
        far = omega (arith, literal, far, p.2);
      }

  abbrev Spaces : ℕ → Type 0
  Spaces t = is_reached image.instructions t ≡ true → (s : Shape) → shape image.instructions t ≡ Some s → IsSpaced s

  bool-spaced : (t : ℕ) → sort image.instructions t ≡ BoolType → Spaces t
  bool-spaced t e r s h = subst IsSpaced (same-shape (shape-bool image v t e) h) tt

  int-spaced : (t : ℕ) → sort image.instructions t ≡ IntType → Spaces t
  int-spaced t e r s h = subst IsSpaced (same-shape (shape-int image v t e) h) tt

  vector-spaced : (t : ℕ) → sort image.instructions t ≡ VectorType → Spaces t
  vector-spaced t e r s h =
      let c = vector-components image v t e in
      let z = c.size in
      subst IsSpaced (same-shape (vector-of image v t c.of e c.element) h)
      (record { whole_words = refl; some = omega arith; far = omega arith }, c.spaced, data-ends c.of c.plain)

  ends : (t : ℕ) (s : Shape) → is_data image.instructions t ≡ true → shape image.instructions t ≡ Some s → is_endless s ≡ false
  ends t s d h =
      let c = data-shape image v t d in
      data-ends s (subst IsData (same-shape c.is h) c.plain)

  array-spaced : (t : ℕ) → sort image.instructions t ≡ ArrayType → Spaces (operand image.instructions t 1) → Spaces t
  array-spaced t e inner r s h =
      let code = image.instructions in
      let c = shape-array image v t e in
      let d = declared-array image v t e in
      let i = declares TypeArray (operands code t) in
      let first = array-result (operands code t) t d.result in
      let plain = array-data image v t e in
      let has : has_stride code t ≡ true = ap (has_stride code) (sym first) ∙ runtime-stride code i (array-parts code i (array-rule image v t e)).0 in
      let strided : is_strided code t ≡ true = ap (λ (z : Sort). if_array z (is_reached code t)) e ∙ r in
      let some : type_facts code t ≡ no_facts → ⊥ = data-some (type_facts code t) (array-is-data image v t e) in
      let part : is_reached code (operand code t 1) ≡ true =
      part-reached image v t (operand code t 1) TypeArray d some first refl r
      (array-first (operands code t) (operand code t 1) (array-long (operands code t) (layout image v t TypeArray d)) refl) in
      subst IsSpaced (same-shape c.whole h) (stride-right t c.of strided has plain c.element, inner part c.of c.element, ends (operand code t 1) c.of plain c.element)

  runtime-spaced : (t : ℕ) → sort image.instructions t ≡ RuntimeArrayType → Spaces (operand image.instructions t 1) → Spaces t
  runtime-spaced t e inner r s h =
      let code = image.instructions in
      let c = shape-runtime image v t e in
      let d = declared-runtime image v t e in
      let i = declares TypeRuntimeArray (operands code t) in
      let first = runtime-result (operands code t) t d.result in
      let plain = runtime-array-data image v t e in
      let has : has_stride code t ≡ true = ap (has_stride code) (sym first) ∙ runtime-stride code i (right-rule image v d.place i d.stands) in
      let strided : is_strided code t ≡ true = ap (λ (z : Sort). if_array z (is_reached code t)) e ∙ r in
      let some : type_facts code t ≡ no_facts → ⊥ = unbounded-some (type_facts code t) (runtime-unbounded image v t e) in
      let part : is_reached code (operand code t 1) ≡ true =
      part-reached image v t (operand code t 1) TypeRuntimeArray d some first refl r
      (array-first (operands code t) (operand code t 1) (runtime-long (operands code t) (layout image v t TypeRuntimeArray d)) refl) in
      subst IsSpaced (same-shape c.whole h) (stride-right t c.of strided has plain c.element, inner part c.of c.element, ends (operand code t 1) c.of plain c.element)

  -- ---- structs

  -- a struct that a variable of a storage buffer points to
  wrapper-parts : (t : ℕ) → is_wrapper image.instructions t ≡ true → is_wrapping image.instructions t ≡ true
  wrapper-parts t h =
      let code = image.instructions in
      let x = wrapper-variable image v t h in
      let b : is_buffer code x.0 ≡ true = ap (λ (z : Bool). z && is_buffer_class (operand code x.0 2)) x.1 ∙ ap is_buffer_class x.2 in
      let f = storage-fits code (operand code (type_id code x.0) 2) x.0 (variable-class image v x.0 12 (buffer-outside image v x.0 b) x.2) in
      ap (is_wrapping code) (sym x.3) ∙ f.2

  member-first : (t : ℕ) → sort image.instructions t ≡ StructType → (j : ℕ) → j < length (drop 1 (operands image.instructions t))
      → (s : Shape) → shape image.instructions (slice_index (drop 1 (operands image.instructions t)) j) ≡ Some s → is_endless s ≡ true
      → offset_of image.instructions t j ≡ 0
  member-first t e j l s h endless =
      let code = image.instructions in
      let d = declared-struct image v t e in
      let i = declares TypeStruct (operands code t) in
      let first = struct-result (operands code t) t d.result in
      let m = slice_index (drop 1 (operands code t)) j in
      let may = all-at (λ t. may_be_member code (is_wrapper code (slice_index i.operands 0)) t) (drop 1 i.operands)
      (struct-members code i (right-rule image v d.place i d.stands)) j l in
      ⊎_elim
      (λ a. let n = ends m s a h in cc)
      (λ w. let p = wrapping-parts code t (wrapper-parts t (ap (is_wrapper code) (sym first) ∙ w)) in
      let two = member-within (operands code t) j l in
      let zero-th : j ≡ 0 = omega (arith, two, p.1) in
      ap (offset_of code t) zero-th ∙ p.3)
      (may-wrap code (is_wrapper code (slice_index i.operands 0)) m may)

  member-whole : (t : ℕ) → sort image.instructions t ≡ StructType → is_reached image.instructions t ≡ true
      → (j : ℕ) → j < length (drop 1 (operands image.instructions t)) → offset_of image.instructions t j % 4 ≡ 0
  member-whole t e r j l =
      let code = image.instructions in
      let d = declared-struct image v t e in
      let i = declares TypeStruct (operands code t) in
      let first = struct-result (operands code t) t d.result in
      let has : has_offsets code t ≡ true = ap (λ (z : Sort). if_struct z (is_reached code t)) e ∙ r in
      let all : have_offsets code t (length (drop 1 (operands code t))) ≡ true =
      ap (λ (x : ℕ). have_offsets code x (length (drop 1 (operands code t)))) (sym first)
      ∙ when-not (has_offsets code (slice_index (operands code t) 0)) (have_offsets code (slice_index (operands code t) 0) (length (drop 1 (operands code t))))
      (struct-offsets code i (right-rule image v d.place i d.stands)) (ap (has_offsets code) first ∙ has) in
      let m = mark-there (member_mark code 0 t j) (offset-there code t (length (drop 1 (operands code t))) j all l) in
      let at = offset-found code 0 t j m.0 m.1 in
      let test : (has_offsets code t && nat_lt (j + 1) (length (operands code t))) ≡ true =
      ap (λ (z : Bool). z && nat_lt (j + 1) (length (operands code t))) has ∙ lt-ltb (j + 1) (length (operands code t)) (member-within (operands code t) j l) in
      let z = offset-mark code at.steps t j at.kind m.0.literal (right-rule image v at.steps (offsets t j at.kind m.0.literal) at.stands) test in
      ap (λ (o : Option Mark). literal_of o % 4) m.1 ∙ z

  struct-spaced : (t : ℕ) → sort image.instructions t ≡ StructType
      → ((j : ℕ) → j < length (drop 1 (operands image.instructions t)) → Spaces (slice_index (drop 1 (operands image.instructions t)) j)) → Spaces t
  struct-spaced t e inner r s h =
      let code = image.instructions in
      let ts = drop 1 (operands code t) in
      let f = shape-struct image v t e in
      let d = declared-struct image v t e in
      let first = struct-result (operands code t) t d.result in
      let some : type_facts code t ≡ no_facts → ⊥ = kind-some (type_facts code t) (struct-kind image v t e) in
      subst IsSpaced (same-shape f.whole h) (are-spaced code t 0 ts f.fields f.members (λ j l.
      let n : j ≡ 0 + j = omega arith in
      subst (λ (n : ℕ). IsMember code t n (slice_index ts j)) n (record {
        whole_words = member-whole t e r j l;
        spaced = inner j l (part-reached image v t (slice_index ts j) TypeStruct d some first refl r (any-of (slice_index ts j) ts j l refl));
        first = member-first t e j l;
      })))

  -- the parts of a type that a buffer has stand at whole words, and none reaches into the next
  pub reached-spaced : (t : ℕ) (s : Shape) → IsKind image.instructions t → is_reached image.instructions t ≡ true → shape image.instructions t ≡ Some s → IsSpaced s
  reached-spaced t s k r h =
      by-cases image v Spaces (record {
        bool = bool-spaced;
        int = int-spaced;
        vector = vector-spaced;
        array = array-spaced;
        runtime = runtime-spaced;
        struct = struct-spaced;
      }) t k r s h

  -- ---- the variables of buffers

  pub buffer-type-reached : (x : ℕ) → is_buffer image.instructions x ≡ true → is_reached image.instructions (operand image.instructions (type_id image.instructions x) 2) ≡ true
  buffer-type-reached x h =
      let code = image.instructions in
      let o = buffer-outside image v x h in
      let b = buffer-stands image v x h in
      let p = buffer-parts image v x h in
      buffer-reached image v o.holder.place (operand code (type_id code x) 2) (declares Variable (operands code x)) o.holder.stands
      (ap (λ (c : Bool). cond c (reaching.pointed code (type_id code x)) None) p.1 ∙ ap (λ (z : Sort). pointed_by z (operand code (type_id code x) 2)) b.pointer)

  pub buffer-spaced : (x : ℕ) (s : Shape) → is_buffer image.instructions x ≡ true → shape image.instructions (operand image.instructions (type_id image.instructions x) 2) ≡ Some s
      → IsSpaced s
  buffer-spaced x s h e =
      let t = operand image.instructions (type_id image.instructions x) 2 in
      let b = buffer-stands image v x h in
      reached-spaced t s (struct-kind image v t b.struct) (buffer-type-reached x h) e

  -- a storage buffer is an array without length at its start
  pub storage-wraps : (x : ℕ) → is_buffer image.instructions x ≡ true → operand image.instructions x 2 ≡ 12
      → (stride : ℕ) × (of : Shape) × (shape image.instructions (operand image.instructions (type_id image.instructions x) 2) ≡ Some (Fields (Field 0 (Unbounded stride of) NoField)))
  storage-wraps x h e =
      let code = image.instructions in
      let t = operand code (type_id code x) 2 in
      let b = buffer-stands image v x h in
      let f = storage-fits code t x (variable-class image v x 12 (buffer-outside image v x h) e) in
      let p = wrapping-parts code t f.2 in
      let m = operand code t 1 in
      let c = shape-runtime image v m (runtime-sort (sort code m) p.2) in
      let fs = shape-struct image v t b.struct in
      (stride_of code m, c.of, fs.whole ∙ ap (λ (fs : Shapes). Some (Fields fs)) (one-field code t (operands code t) fs.fields (Unbounded (stride_of code m) c.of) fs.members p.1 c.whole p.3))

  -- ---- the types that buffers have

  part-kind : (k t : ℕ) (op : Op) (os : List ℕ) → slice_get image.instructions k ≡ Some (declares op os)
      → list_any (nat_eq t) (parts_behind (sort_of op) (drop 1 os)) ≡ true → IsKind image.instructions t
  part-kind k t TypeArray os h part =
      let code = image.instructions in
      let i = declares TypeArray os in
      let plain = runtime-data code i (array-parts code i (right-rule image v k i h)).0 in
      inl (ap (is_data code) (first-part os t part) ∙ plain)
  part-kind k t TypeRuntimeArray os h part =
      inl (ap (is_data image.instructions) (first-part os t part) ∙ runtime-data image.instructions (declares TypeRuntimeArray os) (right-rule image v k (declares TypeRuntimeArray os) h))
  part-kind k t TypeStruct os h part =
      let code = image.instructions in
      let p = any-place t (drop 1 os) part in
      let may = all-at (λ t. may_be_member code (is_wrapper code (slice_index os 0)) t) (drop 1 os) (struct-members code (declares TypeStruct os) (right-rule image v k (declares TypeStruct os) h)) p.0 p.1 in
      subst (IsKind code) p.2 (may-be code (is_wrapper code (slice_index os 0)) (slice_index (drop 1 os) p.0) may)
  part-kind k t op os h part = cc

  -- they are data, or hold an array without length
  pub reached-kind : (t : ℕ) → is_reached image.instructions t ≡ true → IsKind image.instructions t
  reached-kind t r =
      let code = image.instructions in
      let a = reached-adder code t r in
      ⊎_elim
      (λ b. let x = variable-id image v a.place a.instruction a.stands b.op in
      let buffer : is_buffer code x.0 ≡ true =
      ap (λ (z : Bool). z && is_buffer_class (operand code x.0 2)) x.1 ∙ (ap (λ (os : List ℕ). is_buffer_class (slice_index os 2)) x.2 ∙ b.class) in
      let s = buffer-stands image v x.0 buffer in
      let pointee : operand code (type_id code x.0) 2 ≡ t = ap (λ (os : List ℕ). operand code (slice_index os 0) 2) x.2 ∙ b.pointee in
      subst (IsKind code) pointee (struct-kind image v (operand code (type_id code x.0) 2) s.struct))
      (λ b. part-kind a.place t a.instruction.op a.instruction.operands a.stands b.part)
      (added-kind code a.instruction (reached code (drop (suc a.place) code)) t a.added)
