-- Where the paths of extracts and chains lead in the shapes of types.
use Rattle.std.proofs.Common.{◌≡◌, ℕ, zero, suc, ◌+◌, ◌*◌, Bool, true, false, cond, nat_lt, List, [], ◌∷◌, drop, Option, Some, None, slice_get, refl, sym, ap, subst, ◌∙◌, add-one}
use Rattle.spirv_words.specs.declared.images.Instruction.{Instruction}
use Rattle.spirv_words.specs.Machine.{Shape, Shapes, Repeated, Unbounded, Fields, NoField, Field, Operand, if_some}
use Rattle.spirv_words.specs.Step.{Spot, Byte, Beyond, Nowhere, field_at, strides, spot}
use Rattle.flat_values.specs.Flat.{width, IsData, AreData}
use Rattle.flat_values.specs.Pieces.{Piece, At, OutOfRange, NoPart, member, piece_of, then_piece, piece}
use Rattle.image_lookup.specs.declared.sorts.Sort.{Sort}
use Rattle.image_lookup.specs.declared.sorts.Sort.TheVariants.{VectorType, ArrayType, RuntimeArrayType, StructType}
use Rattle.image_lookup.specs.Lookups.{sort, operands, operand}
use Rattle.image_declarations.specs.Types.{length_of}
use Rattle.image_declarations.specs.Holdings.{is_data}
use Rattle.image_declarations.specs.Decorations.{stride_of}
use Rattle.image_operands.specs.Memory.{is_index, constant_number, member_at, part_by, part_at, chain_end}
use Rattle.image_operands.specs.Composites.{literal_part_by, literal_part_at, extract_end}
use Rattle.image_facts.specs.Operands.{shape}
use Rattle.image_facts.specs.Shaped.{AreFields, IsFields}
use Rattle.typed_runs.proofs.Facts.{Facts}

-- ---- small parts

some_is : {A : Type 0} {a b : A} → Some a ≡ Some b → a ≡ b
some_is e = cc

-- a choice that is there was made
chosen : {A : Type 0} (b : Bool) (o : Option A) (a : A) → cond b o None ≡ Some a → (b ≡ true) × (o ≡ Some a)
chosen true o a e = (refl, e)
chosen false o a e = cc

found : {A B : Type 0} (o : Option A) (go : A → Option B) (b : B) → if_some o None go ≡ Some b → (a : A) × (o ≡ Some a) × (go a ≡ Some b)
found (Some a) go b e = (a, refl, e)
found None go b e = cc

behind_first : (os : List ℕ) (n m : ℕ) → slice_get os (n + 1) ≡ Some m → slice_get (drop 1 os) n ≡ Some m
behind_first os n m e = behind os (ap (slice_get os) (sym (add-one n)) ∙ e)
  where
    behind : (os : List ℕ) → slice_get os (suc n) ≡ Some m → slice_get (drop 1 os) n ≡ Some m
    behind [] h = h
    behind (x ∷ xs) h = h

-- ---- members

pub record IsMember (code : List Instruction) (fs : Shapes) (n m from : ℕ) : Type 0 where
  pub place : ℕ
  pub offset : ℕ
  pub of : Shape
  pub stands : member fs n from ≡ At place of
  pub field : field_at fs n ≡ Some (offset, of)
  pub is : shape code m ≡ Some of

members : (code : List Instruction) (t k : ℕ) (ts : List ℕ) (fs : Shapes) (n m from : ℕ) → AreFields code t k ts fs → slice_get ts n ≡ Some m
    → IsMember code fs n m from
members code t k (u ∷ ts) (Field offset of rest) zero m from f e =
    record { place = from; offset = offset; of = of; stands = refl; field = refl; is = ap (shape code) (sym (some_is e)) ∙ f.1 }
members code t k (u ∷ ts) (Field offset of rest) (suc n) m from f e =
    let r = members code t (k + 1) ts rest n m (from + width of) f.2 e in
    record { place = r.place; offset = r.offset; of = r.of; stands = r.stands; field = r.field; is = r.is }
members code t k [] NoField n m from f e = cc
members code t k (u ∷ ts) NoField n m from f e = absurd f
members code t k [] (Field offset of rest) n m from f e = absurd f

pub member_is : (code : List Instruction) (t n m from : ℕ) (f : IsFields code t) → member_at code t n ≡ Some m → IsMember code f.fields n m from
member_is code t n m from f e = members code t 0 (drop 1 (operands code t)) f.fields n m from f.members (behind_first (operands code t) n m e)

-- ---- extracts

-- the part of a shape with this number is of the shape of a type
pub record IsPart (code : List Instruction) (form : Shape) (n from t : ℕ) : Type 0 where
  pub place : ℕ
  pub of : Shape
  pub stands : piece_of form n from ≡ At place of
  pub is : shape code t ≡ Some of

pub record Extracts (code : List Instruction) (form : Shape) (path : List ℕ) (from t : ℕ) : Type 0 where
  pub place : ℕ
  pub of : Shape
  pub stands : piece form path from ≡ At place of
  pub is : shape code t ≡ Some of
  pub values : is_data code t ≡ true

module _ (code : List Instruction) (facts : Facts code) where
  element : (form : Shape) (count stride : ℕ) (of : Shape) (n from t u : ℕ) → Some form ≡ Some (Repeated count stride of) → shape code t ≡ Some of
      → t ≡ u → nat_lt n count ≡ true → IsPart code form n from u
  element form count stride of n from t u e s k l = record {
    place = from + n * width of;
    of = of;
    stands = ap (λ x. piece_of x n from) (some_is e) ∙ ap (λ b. cond b (At (from + n * width of) of) OutOfRange) l;
    is = ap (shape code) (sym k) ∙ s;
  }

  literal_part : (t n u from : ℕ) (form : Shape) (s : Sort) → sort code t ≡ s → shape code t ≡ Some form → is_data code t ≡ true
      → literal_part_by code s t n ≡ Some u → IsPart code form n from u × (is_data code u ≡ true)
  literal_part t n u from form VectorType k e d h =
      let c = chosen (nat_lt n (operand code t 2)) (Some (operand code t 1)) u h in
      let r = facts.shape_vector t k in (
        element form (operand code t 2) 4 r.of n from (operand code t 1) u (sym e ∙ r.whole) r.element (some_is c.1) c.0,
        ap (is_data code) (sym (some_is c.1)) ∙ facts.vector_element t k d,
      )
  literal_part t n u from form ArrayType k e d h =
      let c = chosen (nat_lt n (length_of code (operand code t 2))) (Some (operand code t 1)) u h in
      let r = facts.shape_array t k in (
        element form (length_of code (operand code t 2)) (stride_of code t) r.of n from (operand code t 1) u (sym e ∙ r.whole) r.element (some_is c.1) c.0,
        ap (is_data code) (sym (some_is c.1)) ∙ facts.array_element t k d,
      )
  literal_part t n u from form StructType k e d h =
      let f = facts.shape_struct t k in
      let r = member_is code t n u from f h in (
        record { place = r.place; of = r.of; stands = ap (λ x. piece_of x n from) (some_is (sym e ∙ f.whole)) ∙ r.stands; is = r.is },
        facts.struct_member t n u k d h,
      )
  literal_part t n u from form s k e d h = cc

  pub extracts : (path : List ℕ) (t u from : ℕ) (form : Shape) → shape code t ≡ Some form → is_data code t ≡ true → extract_end code t path ≡ Some u
      → Extracts code form path from u
  unfolding literal_part_at
  extracts [] t u from form e d h = record {
    place = from;
    of = form;
    stands = refl;
    is = ap (shape code) (sym (some_is h)) ∙ e;
    values = ap (is_data code) (sym (some_is h)) ∙ d;
  }
  extracts (n ∷ path) t u from form e d h =
      let f = found (literal_part_at code t n) (λ part. extract_end code part path) u h in
      let p = literal_part t n f.0 from form (sort code t) refl e d f.1 in
      let r = extracts path f.0 u p.0.place p.0.of p.0.is p.1 f.2 in
      record {
        place = r.place;
        of = r.of;
        stands = ap (λ x. then_piece x (λ place of. piece of path place)) p.0.stands ∙ r.stands;
        is = r.is;
        values = r.values;
      }

-- ---- chains

-- each index stands for a word, and one that has a constant number for that number
abbrev pub AreWords : List Instruction → (ℕ → Option Operand) → List ℕ → List ℕ → Type 0
AreWords code ids [] [] = Unit {0}
AreWords code ids (i ∷ is) (w ∷ ws) =
    (is_index code i ≡ true → (n : ℕ) → constant_number code i ≡ Some n → w ≡ n) × AreWords code ids is ws
AreWords code ids is ws = ⊥

-- a path leads to the shape of a type, or out of a range
abbrev pub IsLed : List Instruction → Piece → ℕ → Type 0
IsLed code (At place of) t = shape code t ≡ Some of
IsLed code OutOfRange t = Unit {0}
IsLed code NoPart t = ⊥

abbrev pub IsLedTo : List Instruction → Spot → ℕ → Type 0
IsLedTo code (Byte n of) t = shape code t ≡ Some of
IsLedTo code Beyond t = Unit {0}
IsLedTo code Nowhere t = ⊥

member_data : (fs : Shapes) (of : Shape) (n from place : ℕ) → AreData fs → member fs n from ≡ At place of → IsData of
member_data (Field offset s rest) of zero from place d e = let h : s ≡ of = cc in subst IsData h d.0
member_data (Field offset s rest) of (suc n) from place d e = member_data rest of n (from + width s) place d.1 e
member_data NoField of n from place d e = cc

-- a part of data is data
piece_data : (s of : Shape) (i from place : ℕ) → IsData s → piece_of s i from ≡ At place of → IsData of
piece_data (Repeated n stride s) of i from place d e = go (nat_lt i n) e
  where
    go : (b : Bool) → cond b (At (from + i * width s) s) OutOfRange ≡ At place of → IsData of
    go true e = let h : s ≡ of = cc in subst IsData h d
    go false e = cc
piece_data (Fields fs) of i from place d e = member_data fs of i from place d e
piece_data s of i from place d e = cc

then_data : (q : Piece) (path : List ℕ) (of : Shape) (place : ℕ) → then_piece q (λ p s. piece s path p) ≡ At place of
    → ((p : ℕ) (s : Shape) → q ≡ At p s → piece s path p ≡ At place of → IsData of) → IsData of
then_data (At p s) path of place e k = k p s refl e
then_data OutOfRange path of place e k = cc
then_data NoPart path of place e k = cc

pub path_data : (s of : Shape) (path : List ℕ) (from place : ℕ) → IsData s → piece s path from ≡ At place of → IsData of
path_data s of [] from place d e = let h : s ≡ of = cc in subst IsData h d
path_data s of (i ∷ path) from place d e =
    then_data (piece_of s i from) path of place e (λ p t h k. path_data t of path p place (piece_data s t i from p d h) k)

module _ (code : List Instruction) (facts : Facts code) (ids : ℕ → Option Operand) where
  within_to : (b : Bool) (x y : Spot) (t : ℕ) → IsLedTo code x t → IsLedTo code y t → IsLedTo code (cond b x y) t
  within_to true x y t h k = h
  within_to false x y t h k = k

  -- an element of which the index may be out of range
  item : (form of : Shape) (count stride w from t : ℕ) (ws : List ℕ) → Some form ≡ Some (Repeated count stride of) → IsData form
      → ((place : ℕ) → IsData of → IsLed code (piece of ws place) t) → IsLed code (piece form (w ∷ ws) from) t
  item form of count stride w from t ws e d k =
      subst (λ x. IsLed code (piece x (w ∷ ws) from) t) (sym (some_is e))
      (either (nat_lt w count) (subst IsData (some_is e) d))
    where
      either : (b : Bool) → IsData (Repeated count stride of)
          → IsLed code (then_piece (cond b (At (from + w * width of) of) OutOfRange) (λ place of. piece of ws place)) t
      either true d = k (from + w * width of) d
      either false d = tt

  item_in_buffer : (words : ℕ) (form of : Shape) (count stride w from t : ℕ) (ws : List ℕ) → Some form ≡ Some (Repeated count stride of)
      → ((place : ℕ) → IsLedTo code (spot words of ws place) t) → IsLedTo code (spot words form (w ∷ ws) from) t
  item_in_buffer words form of count stride w from t ws e k =
      subst (λ x. IsLedTo code (spot words x (w ∷ ws) from) t) (sym (some_is e))
      (within_to (nat_lt w count) (spot words of ws (from + w * stride)) Beyond t (k (from + w * stride)) tt)

  unbounded_item : (words : ℕ) (form of : Shape) (stride w from t : ℕ) (ws : List ℕ) → Some form ≡ Some (Unbounded stride of)
      → ((place : ℕ) → IsLedTo code (spot words of ws place) t) → IsLedTo code (spot words form (w ∷ ws) from) t
  unbounded_item words form of stride w from t ws e k =
      subst (λ x. IsLedTo code (spot words x (w ∷ ws) from) t) (sym (some_is e))
      (within_to (nat_lt w (strides words stride)) (spot words of ws (from + w * stride)) Beyond t (k (from + w * stride)) tt)

  -- one index, where an element or a member leads on
  step : (t i w p u from : ℕ) (form : Shape) (ws : List ℕ) (s : Sort) → sort code t ≡ s → shape code t ≡ Some form → IsData form
      → part_by code s t (constant_number code i) ≡ Some p → ((n : ℕ) → constant_number code i ≡ Some n → w ≡ n)
      → ((place : ℕ) (of : Shape) → shape code p ≡ Some of → IsData of → IsLed code (piece of ws place) u) → IsLed code (piece form (w ∷ ws) from) u
  step t i w p u from form ws VectorType k e d h c go =
      let r = facts.shape_vector t k in
      item form r.of (operand code t 2) 4 w from u ws (sym e ∙ r.whole) d (λ place g. go place r.of (ap (shape code) (sym (some_is h)) ∙ r.element) g)
  step t i w p u from form ws ArrayType k e d h c go =
      let r = facts.shape_array t k in
      item form r.of (length_of code (operand code t 2)) (stride_of code t) w from u ws (sym e ∙ r.whole) d
      (λ place g. go place r.of (ap (shape code) (sym (some_is h)) ∙ r.element) g)
  step t i w p u from form ws RuntimeArrayType k e d h c go =
      let r = facts.shape_runtime t k in
      absurd (subst IsData (some_is (sym e ∙ r.whole)) d)
  step t i w p u from form ws StructType k e d h c go =
      let f = facts.shape_struct t k in
      let n = found (constant_number code i) (λ n. member_at code t n) p h in
      let m = member_is code t w p from f (ap (member_at code t) (c n.0 n.1) ∙ n.2) in
      let g : form ≡ Fields f.fields = some_is (sym e ∙ f.whole) in
      let x : piece_of form w from ≡ At m.place m.of = ap (λ y. piece_of y w from) g ∙ m.stands in
      subst (λ y. IsLed code (then_piece y (λ place of. piece of ws place)) u) (sym x)
      (go m.place m.of m.is (member_data f.fields m.of w from m.place (subst IsData g d) m.stands))
  step t i w p u from form ws s k e d h c go = cc

  pub led : (is ws : List ℕ) (t u from : ℕ) (form : Shape) → AreWords code ids is ws → chain_end code t is ≡ Some u → shape code t ≡ Some form
      → IsData form → IsLed code (piece form ws from) u
  unfolding part_at
  led [] [] t u from form a h e d = ap (shape code) (sym (some_is h)) ∙ e
  led (i ∷ is) (w ∷ ws) t u from form a h e d =
      let f = found (part_at code t i) (λ part. chain_end code part is) u h in
      let c = chosen (is_index code i) (part_by code (sort code t) t (constant_number code i)) f.0 f.1 in
      step t i w f.0 u from form ws (sort code t) refl e d c.1 (a.0 c.0) (λ place of g x. led is ws f.0 u place of a.1 f.2 g x)
  led [] (w ∷ ws) t u from form a h e d = absurd a
  led (i ∷ is) [] t u from form a h e d = absurd a

  -- the same in a buffer
  step_in_buffer : (words t i w p u from : ℕ) (form : Shape) (ws : List ℕ) (s : Sort) → sort code t ≡ s → shape code t ≡ Some form
      → part_by code s t (constant_number code i) ≡ Some p → ((n : ℕ) → constant_number code i ≡ Some n → w ≡ n)
      → ((place : ℕ) (of : Shape) → shape code p ≡ Some of → IsLedTo code (spot words of ws place) u) → IsLedTo code (spot words form (w ∷ ws) from) u
  step_in_buffer words t i w p u from form ws VectorType k e h c go =
      let r = facts.shape_vector t k in
      item_in_buffer words form r.of (operand code t 2) 4 w from u ws (sym e ∙ r.whole)
      (λ place. go place r.of (ap (shape code) (sym (some_is h)) ∙ r.element))
  step_in_buffer words t i w p u from form ws ArrayType k e h c go =
      let r = facts.shape_array t k in
      item_in_buffer words form r.of (length_of code (operand code t 2)) (stride_of code t) w from u ws (sym e ∙ r.whole)
      (λ place. go place r.of (ap (shape code) (sym (some_is h)) ∙ r.element))
  step_in_buffer words t i w p u from form ws RuntimeArrayType k e h c go =
      let r = facts.shape_runtime t k in
      unbounded_item words form r.of (stride_of code t) w from u ws (sym e ∙ r.whole)
      (λ place. go place r.of (ap (shape code) (sym (some_is h)) ∙ r.element))
  step_in_buffer words t i w p u from form ws StructType k e h c go =
      let f = facts.shape_struct t k in
      let n = found (constant_number code i) (λ n. member_at code t n) p h in
      let m = member_is code t w p from f (ap (member_at code t) (c n.0 n.1) ∙ n.2) in
      subst (λ x. IsLedTo code (spot words x (w ∷ ws) from) u) (sym (some_is (sym e ∙ f.whole)))
      (subst (λ x. IsLedTo code (if_some x Nowhere (λ y. spot words y.1 ws (from + y.0))) u) (sym m.field) (go (from + m.offset) m.of m.is))
  step_in_buffer words t i w p u from form ws s k e h c go = cc

  pub led_in_buffer : (words : ℕ) (is ws : List ℕ) (t u from : ℕ) (form : Shape) → AreWords code ids is ws → chain_end code t is ≡ Some u
      → shape code t ≡ Some form → IsLedTo code (spot words form ws from) u
  unfolding part_at
  led_in_buffer words [] [] t u from form a h e = ap (shape code) (sym (some_is h)) ∙ e
  led_in_buffer words (i ∷ is) (w ∷ ws) t u from form a h e =
      let f = found (part_at code t i) (λ part. chain_end code part is) u h in
      let c = chosen (is_index code i) (part_by code (sort code t) t (constant_number code i)) f.0 f.1 in
      step_in_buffer words t i w f.0 u from form ws (sort code t) refl e c.1 (a.0 c.0) (λ place of g. led_in_buffer words is ws f.0 u place of a.1 f.2 g)
  led_in_buffer words [] (w ∷ ws) t u from form a h e = absurd a
  led_in_buffer words (i ∷ is) [] t u from form a h e = absurd a

  -- what stands on the way of a chain are indices
  pub are_indices : (is : List ℕ) (t u : ℕ) → chain_end code t is ≡ Some u → (j i : ℕ) → slice_get is j ≡ Some i → is_index code i ≡ true
  unfolding part_at
  are_indices (i ∷ is) t u h zero x e =
      let f = found (part_at code t i) (λ part. chain_end code part is) u h in
      let c = chosen (is_index code i) (part_by code (sort code t) t (constant_number code i)) f.0 f.1 in
      ap (is_index code) (sym (some_is e)) ∙ c.0
  are_indices (i ∷ is) t u h (suc j) x e =
      let f = found (part_at code t i) (λ part. chain_end code part is) u h in
      are_indices is f.0 u f.2 j x e
  are_indices [] t u h j x e = cc
