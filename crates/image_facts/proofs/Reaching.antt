-- Types that values and buffers have, by what they are made of.
use Rattle.std.proofs.Common.{◌≡◌, ℕ, zero, suc, ◌+◌, ◌-◌, ◌*◌, ◌<◌, ◌≤◌, max, ◌⊎◌, inl, inr, Bool, true, false, cond, ◌&&◌, ◌||◌, List, [], ◌∷◌, length, drop, slice_index, Option, Some, refl, sym, ap, subst, ◌∙◌, arith}
use Rattle.std.specs.List.{list_any, list_all}
use Rattle.std.proofs.lemmas.Bool.{ne_eqb}
use Rattle.call_graph.proofs.Visits.{or-right}
use Rattle.spirv_words.specs.declared.opcodes.Op.TheVariants.{TypeRuntimeArray}
use Rattle.spirv_words.specs.declared.images.Instruction.{Instruction}
use Rattle.spirv_words.specs.declared.images.Image.{Image}
use Rattle.spirv_words.specs.Machine.{Shape, Shapes, Truths, Words, Repeated, Fields, NoField, Field, place_of}
use Rattle.flat_values.specs.Flat.{IsData, AreData}
use Rattle.image_lookup.specs.declared.sorts.Sort.{Sort}
use Rattle.image_lookup.specs.declared.sorts.Sort.TheVariants.{BoolType, IntType, VectorType, ArrayType, RuntimeArrayType, StructType}
use Rattle.image_lookup.specs.Lookups.{sort, operands, operand}
use Rattle.image_declarations.specs.declared.types.TypeFacts.{TypeFacts}
use Rattle.image_declarations.specs.Decorations.{stride_of, offset_of}
use Rattle.image_declarations.specs.Types.{length_of, end_of, span, fields_extent, no_facts, facts_by, type_facts}
use Rattle.image_declarations.specs.Holdings.{is_data, is_unbounded, extent}
use Rattle.spirv_check.specs.Valid.{Valid}
use Rattle.image_facts.specs.Operands.{shape}
use Rattle.image_facts.specs.Alike.{reach, reaches, is_endless, are_endless}
use Rattle.image_facts.specs.Shaped.{AreFields}
use Rattle.image_facts.proofs.Facts.{facts_or, facts-before, facts-placed, facts-by-sort}
use Rattle.image_facts.proofs.Shapes.{declares, IsDeclared, layout, declared-array, declared-runtime, declared-struct, shape-bool, shape-int, array-result, struct-result, vector-components, vector-of}
use Rattle.image_facts.proofs.Data.{array-before, member-before, runtime-long, data-some, unbounded-some, array-data, runtime-array-data, member-kinds, shape-array, shape-runtime, shape-struct, vector-lanes}
use Rattle.image_facts.proofs.Rules.{some-same}

abbrev pub IsKind : List Instruction → ℕ → Type 0
IsKind code t = (is_data code t ≡ true) ⊎ (is_unbounded code t ≡ true)

-- what holds of all these types, by the sort of a type
pub record Cases (code : List Instruction) (P : ℕ → Type 0) : Type 0 where
  pub bool : (t : ℕ) → sort code t ≡ BoolType → P t
  pub int : (t : ℕ) → sort code t ≡ IntType → P t
  pub vector : (t : ℕ) → sort code t ≡ VectorType → P t
  pub array : (t : ℕ) → sort code t ≡ ArrayType → P (operand code t 1) → P t
  pub runtime : (t : ℕ) → sort code t ≡ RuntimeArrayType → P (operand code t 1) → P t
  pub struct : (t : ℕ) → sort code t ≡ StructType → ((j : ℕ) → j < length (drop 1 (operands code t)) → P (slice_index (drop 1 (operands code t)) j)) → P t

pub kind-some : (f : TypeFacts) → (f.is_data ≡ true) ⊎ (f.unbounded ≡ true) → f ≡ no_facts → ⊥
kind-some f (inl h) = data-some f h
kind-some f (inr h) = unbounded-some f h

moved : (f g : TypeFacts) → f ≡ g → (f.is_data ≡ true) ⊎ (f.unbounded ≡ true) → (g.is_data ≡ true) ⊎ (g.unbounded ≡ true)
moved f g e h = subst (λ (f : TypeFacts). (f.is_data ≡ true) ⊎ (f.unbounded ≡ true)) e h

all-or-any : (p q : ℕ → Bool) (ts : List ℕ) → ((j : ℕ) → j < length ts → (p (slice_index ts j) ≡ true) ⊎ (q (slice_index ts j) ≡ true))
    → (list_all p ts ≡ true) ⊎ (list_any q ts ≡ true)
all-or-any p q [] h = inl refl
all-or-any p q (t ∷ ts) h = either (h 0 (omega arith)) (all-or-any p q ts (λ j l. h (suc j) (omega arith)))
  where
    either : (p t ≡ true) ⊎ (q t ≡ true) → (list_all p ts ≡ true) ⊎ (list_any q ts ≡ true) → ((p t && list_all p ts) ≡ true) ⊎ ((q t || list_any q ts) ≡ true)
    either (inr b) r = inr (ap (λ (x : Bool). x || list_any q ts) b)
    either (inl a) (inl r) = inl (ap (λ (x : Bool). x && list_all p ts) a ∙ r)
    either (inl a) (inr r) = inr (or-right (q t) (list_any q ts) r)

vector-span : (n : ℕ) → 2 ≤ n → span n 4 4 ≡ 4 * n
vector-span n h =
    let e : (n - 1) * 4 + 4 ≡ 4 * n = omega arith in
    ap (λ (b : Bool). cond b 0 ((n - 1) * 4 + 4)) (ne_eqb n 0 (λ z. omega arith)) ∙ e

pub same-shape : {s t : Shape} {o : Option Shape} → o ≡ Some s → o ≡ Some t → s ≡ t
same-shape e f = cc

-- data has an end
mutual
  pub data-ends : (s : Shape) → IsData s → is_endless s ≡ false
  data-ends Truths h = refl
  data-ends (Words signed) h = refl
  data-ends (Repeated n stride of) h = data-ends of h
  data-ends (Fields fs) h = fields-end fs h
  data-ends s h = absurd h

  fields-end : (fs : Shapes) → AreData fs → are_endless fs ≡ false
  fields-end NoField h = refl
  fields-end (Field offset of rest) h = ap (λ (b : Bool). b || are_endless rest) (data-ends of h.0) ∙ fields-end rest h.1

module _ (image : Image) (v : Valid image) where
  runtime-before : (t k : ℕ) (d : IsDeclared image.instructions t TypeRuntimeArray) → place_of image.instructions t 0 ≡ Some k
      → is_data image.instructions (operand image.instructions t 1) ≡ true
      → (p : ℕ) × (place_of image.instructions (operand image.instructions t 1) 0 ≡ Some p) × (p < k)
  runtime-before t k d there h =
      let same : d.place ≡ k = some-same (sym d.there ∙ there) in
      let r = facts-before image v d.place (declares TypeRuntimeArray (operands image.instructions t)) 1 d.stands
      (runtime-long (operands image.instructions t) (layout image v t TypeRuntimeArray d)) refl (data-some (type_facts image.instructions (operand image.instructions t 1)) h) in
      (r.0, r.1, omega (arith, r.2, same))

  abbrev Below : (P : ℕ → Type 0) → ℕ → Type 0
  Below P n = (t p : ℕ) → place_of image.instructions t 0 ≡ Some p → p < n → IsKind image.instructions t → P t

  by-sort : (P : ℕ → Type 0) (c : Cases image.instructions P) (n t p : ℕ) → Below P n → place_of image.instructions t 0 ≡ Some p → p < suc n
      → (s : Sort) → sort image.instructions t ≡ s
      → ((facts_or no_facts (facts_by image.instructions (type_facts image.instructions) s (operands image.instructions t))).is_data ≡ true)
      ⊎ ((facts_or no_facts (facts_by image.instructions (type_facts image.instructions) s (operands image.instructions t))).unbounded ≡ true)
      → P t
  by-sort P c n t p below there l BoolType e h = c.bool t e
  by-sort P c n t p below there l IntType e h = c.int t e
  by-sort P c n t p below there l VectorType e h = c.vector t e
  by-sort P c n t p below there l ArrayType e h =
      let d = declared-array image v t e in
      let a = array-data image v t e in
      let q = array-before image v t p d there a in
      c.array t e (below (operand image.instructions t 1) q.0 q.1 (omega (arith, q.2)) (inl a))
  by-sort P c n t p below there l RuntimeArrayType e h =
      let d = declared-runtime image v t e in
      let a = runtime-array-data image v t e in
      let q = runtime-before t p d there a in
      c.runtime t e (below (operand image.instructions t 1) q.0 q.1 (omega (arith, q.2)) (inl a))
  by-sort P c n t p below there l StructType e h =
      let d = declared-struct image v t e in
      c.struct t e (λ j m.
      let k = member-kinds image v t e j m in
      let x = slice_index (drop 1 (operands image.instructions t)) j in
      let q = member-before image v t p d there j m (kind-some (type_facts image.instructions x) k) in
      below x q.0 q.1 (omega (arith, q.2)) k)
  by-sort P c n t p below there l s e (inl h) = cc
  by-sort P c n t p below there l s e (inr h) = cc

  below : (P : ℕ → Type 0) (c : Cases image.instructions P) (n : ℕ) → Below P n
  below P c zero t p there l h = absurd (omega arith)
  below P c (suc n) t p there l h =
      by-sort P c n t p (below P c n) there l (sort image.instructions t) refl
      (moved (type_facts image.instructions t) (facts_or no_facts (facts_by image.instructions (type_facts image.instructions) (sort image.instructions t) (operands image.instructions t))) (facts-by-sort image v t) h)

  -- what holds by cases holds of all types that values and buffers have
  pub by-cases : (P : ℕ → Type 0) → Cases image.instructions P → (t : ℕ) → IsKind image.instructions t → P t
  by-cases P c t h =
      let p = facts-placed image v t (kind-some (type_facts image.instructions t) h) in
      below P c (suc p.0) t p.0 p.1 (omega arith) h

  pub struct-kind : (t : ℕ) → sort image.instructions t ≡ StructType → IsKind image.instructions t
  struct-kind t e =
      moved (facts_or no_facts (facts_by image.instructions (type_facts image.instructions) StructType (operands image.instructions t))) (type_facts image.instructions t)
      (sym (facts-by-sort image v t ∙ ap (λ (s : Sort). facts_or no_facts (facts_by image.instructions (type_facts image.instructions) s (operands image.instructions t))) e))
      (all-or-any (is_data image.instructions) (is_unbounded image.instructions) (drop 1 (operands image.instructions t)) (λ j l. member-kinds image v t e j l))

  -- ---- how far a shape goes

  abbrev Reaches : ℕ → Type 0
  Reaches t = (s : Shape) → shape image.instructions t ≡ Some s → reach s ≡ extent image.instructions t

  extent-by : (t : ℕ) (s : Sort) → sort image.instructions t ≡ s
      → (facts_or no_facts (facts_by image.instructions (type_facts image.instructions) s (operands image.instructions t))).extent ≡ extent image.instructions t
  extent-by t s e =
      sym (ap (λ (f : TypeFacts). f.extent) (facts-by-sort image v t)
      ∙ ap (λ (s : Sort). (facts_or no_facts (facts_by image.instructions (type_facts image.instructions) s (operands image.instructions t))).extent) e)

  reaches-are : (t k : ℕ) (ts : List ℕ) (fs : Shapes) → AreFields image.instructions t k ts fs
      → ((j : ℕ) → j < length ts → Reaches (slice_index ts j))
      → reaches fs ≡ fields_extent image.instructions (type_facts image.instructions) t k ts
  reaches-are t k [] NoField h r = refl
  reaches-are t k (m ∷ ms) (Field o s rest) h r =
      ap (λ (n : ℕ). max (end_of n (reach s)) (reaches rest)) h.0
      ∙ ap (λ (n : ℕ). max (end_of (offset_of image.instructions t k) n) (reaches rest)) (r 0 (omega arith) s h.1)
      ∙ ap (max (end_of (offset_of image.instructions t k) (extent image.instructions m))) (reaches-are t (k + 1) ms rest h.2 (λ j l. r (suc j) (omega arith)))
  reaches-are t k [] (Field o s rest) h r = absurd h
  reaches-are t k (m ∷ ms) NoField h r = absurd h

  bool-reaches : (t : ℕ) → sort image.instructions t ≡ BoolType → Reaches t
  bool-reaches t e s h = ap reach (same-shape h (shape-bool image v t e)) ∙ extent-by t BoolType e

  int-reaches : (t : ℕ) → sort image.instructions t ≡ IntType → Reaches t
  int-reaches t e s h = ap reach (same-shape h (shape-int image v t e)) ∙ extent-by t IntType e

  vector-reaches : (t : ℕ) → sort image.instructions t ≡ VectorType → Reaches t
  vector-reaches t e s h =
      let c = vector-components image v t e in
      let n = operand image.instructions t 2 in
      ap reach (same-shape h (vector-of image v t c.of e c.element))
      ∙ ap (span n 4) c.size ∙ vector-span n (vector-lanes image v t e).0 ∙ extent-by t VectorType e

  array-reaches : (t : ℕ) → sort image.instructions t ≡ ArrayType → Reaches (operand image.instructions t 1) → Reaches t
  array-reaches t e r s h =
      let c = shape-array image v t e in
      let d = declared-array image v t e in
      let n = length_of image.instructions (operand image.instructions t 2) in
      let first = array-result (operands image.instructions t) t d.result in
      ap reach (same-shape h c.whole)
      ∙ ap (span n (stride_of image.instructions t)) (r c.of c.element)
      ∙ ap (λ (x : ℕ). span n (stride_of image.instructions x) (extent image.instructions (operand image.instructions t 1))) (sym first)
      ∙ extent-by t ArrayType e

  runtime-reaches : (t : ℕ) → sort image.instructions t ≡ RuntimeArrayType → Reaches (operand image.instructions t 1) → Reaches t
  runtime-reaches t e r s h =
      let c = shape-runtime image v t e in ap reach (same-shape h c.whole) ∙ extent-by t RuntimeArrayType e

  struct-reaches : (t : ℕ) → sort image.instructions t ≡ StructType
      → ((j : ℕ) → j < length (drop 1 (operands image.instructions t)) → Reaches (slice_index (drop 1 (operands image.instructions t)) j)) → Reaches t
  struct-reaches t e r s h =
      let f = shape-struct image v t e in
      let d = declared-struct image v t e in
      let first = struct-result (operands image.instructions t) t d.result in
      ap reach (same-shape h f.whole)
      ∙ reaches-are t 0 (drop 1 (operands image.instructions t)) f.fields f.members r
      ∙ ap (λ (x : ℕ). fields_extent image.instructions (type_facts image.instructions) x 0 (drop 1 (operands image.instructions t))) (sym first)
      ∙ extent-by t StructType e

  -- the end of the last scalar of a shape is what the rules take it to be
  pub reach-extent : (t : ℕ) (s : Shape) → IsKind image.instructions t → shape image.instructions t ≡ Some s → reach s ≡ extent image.instructions t
  reach-extent t s k =
      by-cases Reaches (record {
        bool = bool-reaches;
        int = int-reaches;
        vector = vector-reaches;
        array = array-reaches;
        runtime = runtime-reaches;
        struct = struct-reaches;
      }) t k s
