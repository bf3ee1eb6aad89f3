-- The words of what is outside of functions, written one value after another.
use Rattle.std.proofs.Common.{◌≡◌, ℕ, ◌+◌, ◌<◌, ◌≤◌, ◌⊎◌, inl, inr, Bool, true, false, ◌&&◌, cond, List, [], ◌∷◌, length, map, replicate, slice_get, Option, Some, None, refl, sym, ap, ◌∙◌, subst, arith}
use Rattle.std.specs.Prelude.{nat_eq}
use Rattle.std.proofs.lemmas.Bool.{eq-eqb, eqb-true}
use Rattle.std.proofs.lemmas.Option.{slice_get_within}
use Rattle.std.proofs.lemmas.List.{length-replicate}
use Rattle.behavior.specs.Values.{Truth, Word}
use Rattle.spirv_words.specs.declared.opcodes.Op.{Op}
use Rattle.spirv_words.specs.declared.opcodes.Op.TheVariants.{ConstantTrue, ConstantFalse, Constant, ConstantNull, Variable}
use Rattle.spirv_words.specs.declared.images.Instruction.{Instruction}
use Rattle.spirv_words.specs.declared.images.Image.{Image}
use Rattle.spirv_words.specs.Machine.{Shape, Input, Operand, Plain, Path, InBuffer, result_of, place_of, zero_of, or_zero, decoration, if_some, null, global_variable}
use Rattle.flat_values.specs.Flat.{width}
use Rattle.flat_values.specs.Ranges.{Stands}
use Rattle.flat_values.proofs.Zeros.{zero_words}
use Rattle.flat_values.proofs.Standing.{length-written, written_there, written_apart}
use Rattle.image_lookup.specs.Sorts.{sort_of, is_value_sort}
use Rattle.image_lookup.specs.Lookups.{is_value}
use Rattle.image_places.specs.Places.{function_of}
use Rattle.image_declarations.specs.Holdings.{is_data}
use Rattle.image_operands.specs.Marks.{is_buffer}
use Rattle.image_scopes.proofs.Values.{defined_at, sort_is, value_sort}
use Rattle.image_facts.specs.Operands.{globals_of, shape}
use Rattle.image_facts.proofs.Rules.{defined-once}
use Rattle.image_facts.proofs.Fixpoint.{stands-for-value}
use Rattle.image_facts.proofs.Data.{data-shape}
use Rattle.image_facts.proofs.Globals.{buffer-stands}
use Rattle.spirv_check.specs.Valid.{Valid}
use Rattle.run_rooms.specs.Rooms.{Rooms, AreRooms, AreApart, Cell, Slot, slot_size}
use Rattle.run_plans.specs.declared.base.Bound.{Bound}
use Rattle.run_plans.specs.Plans.{words_of, number_in, set_of, binding_of, IsSteady}
use Rattle.run_plans.specs.Ground.{pair_of}
use Rattle.run_rooms.specs.Valid.{IsOfValid}
use Rattle.run_plans.specs.Values.{number_of, value_words, IsWritten, IsWrittenIf}
use Rattle.run_plans.proofs.Placed.{some_same}
use Rattle.run_plans.proofs.Acting.{below_or_last}

-- the words of an operand that an id stands for
pub record HasWords (code : List Instruction) (L : Rooms) (x : ℕ) (ws : List ℕ) : Type 0 where
  pub operand : Operand
  pub is : (globals_of code).ids x ≡ Some operand
  pub words : ws ≡ words_of code L operand

no_bool : false ≡ true → ⊥
no_bool e = cc

none_some : {A : Type 0} (a : A) → None ≡ Some a → ⊥
none_some a e = cc

module _ (image : Image) (v : Valid image) (L : Rooms) (bounds : List Bound) (same : L.buffers ≡ map pair_of bounds) where
  module _ (k : ℕ) (outside : function_of image.instructions k ≡ 0) (x : ℕ) (ws : List ℕ) where
    null_words : (t r : ℕ) (b : Bool) → is_data image.instructions t ≡ b
        → slice_get image.instructions k ≡ Some (record { op = ConstantNull; operands = t ∷ r ∷ [] }) → Some r ≡ Some x
        → cond b (Some (replicate (if_some (shape image.instructions t) 0 width) 0)) None ≡ Some ws
        → HasWords image.instructions L x ws
    null_words t r false d at res e = absurd (none_some ws e)
    null_words t r true d at res e =
        let s = data-shape image v t d in record {
          operand = Plain (zero_of s.form);
          is = stands-for-value image v k (record { op = ConstantNull; operands = t ∷ r ∷ [] }) x (Plain (zero_of s.form)) at outside refl res (ap null s.is);
          words = sym (some_same e) ∙ ap (λ (o : Option Shape). replicate (if_some o 0 width) 0) s.is ∙ sym (zero_words s.form s.plain);
        }

    buffer_words : (r : ℕ) (b : Bool) → is_buffer image.instructions r ≡ b → Some r ≡ Some x
        → cond b (Some (number_of bounds (set_of image.instructions r) (binding_of image.instructions r) ∷ 0 ∷ [])) None ≡ Some ws
        → HasWords image.instructions L x ws
    buffer_words r false d res e = absurd (none_some ws e)
    buffer_words r true d res e =
        let s = buffer-stands image v r d in
        subst (λ (x : ℕ). HasWords image.instructions L x ws) (some_same res)
        (record {
          operand = InBuffer (set_of image.instructions r) (binding_of image.instructions r) 0 s.form;
          is = s.is;
          words = sym (some_same e)
              ∙ ap (λ (ps : List (ℕ × ℕ)). number_in ps (set_of image.instructions r, binding_of image.instructions r) ∷ 0 ∷ []) (sym same);
        })

    input_words : (t r class : ℕ) (b : Bool) → nat_eq class 1 ≡ b
        → slice_get image.instructions k ≡ Some (record { op = Variable; operands = t ∷ r ∷ class ∷ [] }) → Some r ≡ Some x
        → cond b (Some (L.input (or_zero (decoration image.instructions r 11)) ∷ []))
        (cond (is_buffer image.instructions r) (Some (number_of bounds (set_of image.instructions r) (binding_of image.instructions r) ∷ 0 ∷ [])) None) ≡ Some ws
        → HasWords image.instructions L x ws
    input_words t r class false d at res e = buffer_words r (is_buffer image.instructions r) refl res e
    input_words t r class true d at res e =
        record {
          operand = Path (Input (or_zero (decoration image.instructions r 11))) [];
          is = stands-for-value image v k (record { op = Variable; operands = t ∷ r ∷ class ∷ [] }) x
              (Path (Input (or_zero (decoration image.instructions r 11))) []) at outside refl res
              (ap (λ c. global_variable image.instructions r c ((globals_of image.instructions).shapes t)) (eqb-true class 1 d));
          words = sym (some_same e);
        }

    pub value_stands : (op : Op) (os : List ℕ) → slice_get image.instructions k ≡ Some (record { op = op; operands = os })
        → result_of op os ≡ Some x → value_words image.instructions L bounds op os ≡ Some ws → HasWords image.instructions L x ws
    value_stands ConstantTrue (t ∷ r ∷ []) at res e = record {
      operand = Plain (Truth true);
      is = stands-for-value image v k (record { op = ConstantTrue; operands = t ∷ r ∷ [] }) x (Plain (Truth true)) at outside refl res refl;
      words = sym (some_same e);
    }
    value_stands ConstantFalse (t ∷ r ∷ []) at res e = record {
      operand = Plain (Truth false);
      is = stands-for-value image v k (record { op = ConstantFalse; operands = t ∷ r ∷ [] }) x (Plain (Truth false)) at outside refl res refl;
      words = sym (some_same e);
    }
    value_stands Constant (t ∷ r ∷ w ∷ []) at res e = record {
      operand = Plain (Word w);
      is = stands-for-value image v k (record { op = Constant; operands = t ∷ r ∷ w ∷ [] }) x (Plain (Word w)) at outside refl res refl;
      words = sym (some_same e);
    }
    value_stands ConstantNull (t ∷ r ∷ []) at res e = null_words t r (is_data image.instructions t) refl at res e
    value_stands Variable (t ∷ r ∷ class ∷ []) at res e = input_words t r class (nat_eq class 1) refl at res e
    value_stands op os at res e = absurd (none_some ws e)

-- ---- one value after another

-- what the words hold of the values of the first so many instructions
pub record AreWritten (code : List Instruction) (L : Rooms) (n : ℕ) (ws : List ℕ) : Type 0 where
  pub all : length ws ≡ L.total
  pub size : (x p : ℕ) (o : Operand) → is_value code x ≡ true → place_of code x 0 ≡ Some p → p < n → function_of code p ≡ 0
      → (globals_of code).ids x ≡ Some o → length (words_of code L o) ≤ slot_size code x
  pub stands : (x p : ℕ) (o : Operand) → is_value code x ≡ true → place_of code x 0 ≡ Some p → p < n → function_of code p ≡ 0
      → (globals_of code).ids x ≡ Some o → Stands (words_of code L o) (L.slot x) ws

pub none_written : (code : List Instruction) (L : Rooms) (ws : List ℕ) (total : ℕ) → total ≡ L.total → ws ≡ replicate total 0 → AreWritten code L 0 ws
none_written code L ws total t e = record {
  all = ap (λ (ws : List ℕ). length ws) e ∙ length-replicate total 0 ∙ t;
  size = λ x p o a b lt. absurd (never p lt);
  stands = λ x p o a b lt. absurd (never p lt);
}
  where
    never : (p : ℕ) → p < 0 → ⊥
    never p lt = omega arith

pub all_written : (code : List Instruction) (L : Rooms) (n : ℕ) (ws : List ℕ) → AreWritten code L n ws → length code ≤ n → IsSteady code L ws
all_written code L n ws w le = record {
  all = w.all;
  stands = λ x o g e.
      let d = defined_at code x g.place g.there in
      w.stands x g.place o g.value g.there (within g.place (slice_get_within code g.place d.instruction d.stands) le) g.outside e;
}
  where
    within : (p : ℕ) → p < length code → length code ≤ n → p < n
    within p a b = omega arith

abbrev cell_id : Cell → ℕ
cell_id (Slot x) = x
cell_id c = 0

module _ (image : Image) (v : Valid image) (L : Rooms) (rooms : AreRooms image.instructions L) (bounds : List Bound)
    (same : L.buffers ≡ map pair_of bounds) (n : ℕ) (i : Instruction) (at : slice_get image.instructions n ≡ Some i) (before now : List ℕ)
    (w : AreWritten image.instructions L n before) where
  -- no value was written
  stays : now ≡ before → ((nat_eq (function_of image.instructions n) 0 && is_value_sort (sort_of i.op)) ≡ false) → AreWritten image.instructions L (n + 1) now
  stays e none = subst (λ (ws : List ℕ). AreWritten image.instructions L (n + 1) ws) (sym e) (record {
    all = w.all;
    size = λ x p o value there lt out is. earlier x p value there out (below_or_last p n lt)
        (λ below. w.size x p o value there below out is);
    stands = λ x p o value there lt out is. earlier x p value there out (below_or_last p n lt)
        (λ below. w.stands x p o value there below out is);
  })
    where
      never : (x p : ℕ) → is_value image.instructions x ≡ true → place_of image.instructions x 0 ≡ Some p → function_of image.instructions p ≡ 0 → p ≡ n → ⊥
      never x p value there out e =
          let here : slice_get image.instructions p ≡ Some i = ap (slice_get image.instructions) e ∙ at in
          let sorted = value_sort image.instructions x p i there here value in
          let zero : function_of image.instructions n ≡ 0 = ap (function_of image.instructions) (sym e) ∙ out in
          no_bool (sym none ∙ ap (λ r. r && is_value_sort (sort_of i.op)) (eq-eqb (function_of image.instructions n) 0 zero) ∙ sorted)

      earlier : {A : Type 0} (x p : ℕ) → is_value image.instructions x ≡ true → place_of image.instructions x 0 ≡ Some p → function_of image.instructions p ≡ 0
          → (p < n) ⊎ (p ≡ n) → (p < n → A) → A
      earlier x p value there out (inl below) go = go below
      earlier x p value there out (inr last) go = absurd (never x p value there out last)

  -- a value was written
  module _ (outside : function_of image.instructions n ≡ 0) (value : is_value_sort (sort_of i.op) ≡ true) (h : IsWritten image.instructions L bounds i before now) where
    place : place_of image.instructions h.id 0 ≡ Some n
    place = defined-once image v n i h.id at h.gives

    is_a_value : is_value image.instructions h.id ≡ true
    is_a_value = ap is_value_sort (sort_is image.instructions h.id n i place at) ∙ value

    has : HasWords image.instructions L h.id h.words
    has = value_stands image v L bounds same n outside h.id h.words i.op i.operands at h.gives h.are

    this : (x p : ℕ) → place_of image.instructions x 0 ≡ Some p → p ≡ n → x ≡ h.id
    this x p there e =
        let d = defined_at image.instructions x p there in
        let here : i ≡ d.instruction = some_same (sym at ∙ ap (slice_get image.instructions) (sym e) ∙ d.stands) in
        some_same (sym d.result ∙ ap (λ (i : Instruction). result_of i.op i.operands) (sym here) ∙ h.gives)

    its_words : (x : ℕ) (o : Operand) → x ≡ h.id → (globals_of image.instructions).ids x ≡ Some o → words_of image.instructions L o ≡ h.words
    its_words x o e is =
        let one : o ≡ has.operand = some_same (sym is ∙ ap (λ x. (globals_of image.instructions).ids x) e ∙ has.is) in
        ap (words_of image.instructions L) one ∙ sym has.words

    apart : (x p : ℕ) → is_value image.instructions x ≡ true → place_of image.instructions x 0 ≡ Some p → p < n → function_of image.instructions p ≡ 0
        → AreApart (L.slot x) (slot_size image.instructions x) (L.slot h.id) (slot_size image.instructions h.id)
    apart x p a there below out =
        rooms.apart (Slot x) (Slot h.id) a is_a_value
        (λ e. (let q : p ≡ n = some_same (sym there ∙ ap (λ x. place_of image.instructions x 0) (ap cell_id e) ∙ place) in
        less p below q))
        (ap (λ (o : Option ℕ). if_some o 0 (λ p. function_of image.instructions p)) there ∙ out
        ∙ sym (ap (λ (o : Option ℕ). if_some o 0 (λ p. function_of image.instructions p)) place ∙ outside))
      where
        less : (p : ℕ) → p < n → p ≡ n → ⊥
        less p a b = omega arith

    nearer : (a b m k c d : ℕ) → k ≤ m → c ≡ d → AreApart a m b d → (a + k ≤ b) ⊎ (b + c ≤ a)
    nearer a b m k c d le e (inl p) = inl (omega arith)
    nearer a b m k c d le e (inr p) = inr (omega arith)

    size_here : (x p : ℕ) (o : Operand) → is_value image.instructions x ≡ true → place_of image.instructions x 0 ≡ Some p → (p < n) ⊎ (p ≡ n)
        → function_of image.instructions p ≡ 0 → (globals_of image.instructions).ids x ≡ Some o → length (words_of image.instructions L o) ≤ slot_size image.instructions x
    size_here x p o a there (inl below) out is = w.size x p o a there below out is
    size_here x p o a there (inr last) out is =
        let e = this x p there last in
        subst (λ (y : ℕ). length (words_of image.instructions L o) ≤ slot_size image.instructions y) (sym e)
        (exact (length (words_of image.instructions L o)) (slot_size image.instructions h.id) (ap (λ (ws : List ℕ). length ws) (its_words x o e is) ∙ h.as_many))
      where
        exact : (m n : ℕ) → m ≡ n → m ≤ n
        exact m n e = omega arith

    stands_here : (x p : ℕ) (o : Operand) → is_value image.instructions x ≡ true → place_of image.instructions x 0 ≡ Some p → (p < n) ⊎ (p ≡ n)
        → function_of image.instructions p ≡ 0 → (globals_of image.instructions).ids x ≡ Some o → Stands (words_of image.instructions L o) (L.slot x) now
    stands_here x p o a there (inl below) out is =
        subst (λ (ws : List ℕ). Stands (words_of image.instructions L o) (L.slot x) ws) (sym h.is)
        (written_apart before h.words (words_of image.instructions L o) (L.slot h.id) (L.slot x) h.inside (w.stands x p o a there below out is)
        (nearer (L.slot x) (L.slot h.id) (slot_size image.instructions x) (length (words_of image.instructions L o)) (length h.words) (slot_size image.instructions h.id)
        (w.size x p o a there below out is) h.as_many (apart x p a there below out)))
    stands_here x p o a there (inr last) out is =
        let e = this x p there last in
        subst (λ (y : ℕ). Stands (words_of image.instructions L o) (L.slot y) now) (sym e)
        (subst (λ (xs : List ℕ). Stands xs (L.slot h.id) now) (sym (its_words x o e is))
        (subst (λ (ws : List ℕ). Stands h.words (L.slot h.id) ws) (sym h.is) (written_there before h.words (L.slot h.id) h.inside)))

    goes : AreWritten image.instructions L (n + 1) now
    goes = record {
      all = ap (λ (ws : List ℕ). length ws) h.is ∙ length-written before h.words (L.slot h.id) h.inside ∙ w.all;
      size = λ x p o a there lt out is. size_here x p o a there (below_or_last p n lt) out is;
      stands = λ x p o a there lt out is. stands_here x p o a there (below_or_last p n lt) out is;
    }

  both_hold : (r s : Bool) → (r && s) ≡ true → (r ≡ true) × (s ≡ true)
  both_hold true s e = (refl, e)
  both_hold false s e = absurd (no_bool e)

  by_test : (b : Bool) → (nat_eq (function_of image.instructions n) 0 && is_value_sort (sort_of i.op)) ≡ b
      → IsWrittenIf b image.instructions L bounds i before now → AreWritten image.instructions L (n + 1) now
  by_test true e h =
      let t = both_hold (nat_eq (function_of image.instructions n) 0) (is_value_sort (sort_of i.op)) e in
      goes (eqb-true (function_of image.instructions n) 0 t.0) t.1 h
  by_test false e h = stays h e

  pub written_next : (function : ℕ) → function ≡ function_of image.instructions n
      → IsWrittenIf (nat_eq function 0 && is_value_sort (sort_of i.op)) image.instructions L bounds i before now → AreWritten image.instructions L (n + 1) now
  written_next function f h =
      by_test (nat_eq (function_of image.instructions n) 0 && is_value_sort (sort_of i.op)) refl
      (subst (λ (k : ℕ). IsWrittenIf (nat_eq k 0 && is_value_sort (sort_of i.op)) image.instructions L bounds i before now) f h)

pub written_more : (code : List Instruction) (v : IsOfValid code) (L : Rooms) (rooms : AreRooms code L) (bounds : List Bound) → L.buffers ≡ map pair_of bounds
    → (n : ℕ) (i : Instruction) → slice_get code n ≡ Some i → (before now : List ℕ) → AreWritten code L n before → (function : ℕ) → function ≡ function_of code n
    → IsWrittenIf (nat_eq function 0 && is_value_sort (sort_of i.op)) code L bounds i before now → AreWritten code L (n + 1) now
written_more code v L rooms bounds same n i at before now w function f h =
    subst (λ (c : List Instruction). AreRooms c L → slice_get c n ≡ Some i → AreWritten c L n before → function ≡ function_of c n
    → IsWrittenIf (nat_eq function 0 && is_value_sort (sort_of i.op)) c L bounds i before now → AreWritten c L (n + 1) now) v.same
    (λ rooms at w f h. written_next v.image v.valid L rooms bounds same n i at before now w function f h) rooms at w f h
