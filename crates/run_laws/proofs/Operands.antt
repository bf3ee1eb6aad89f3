-- Values among the words where an instruction uses them.
use Rattle.std.proofs.Common.{◌≡◌, ℕ, ◌+◌, ◌<◌, ◌≤◌, Bool, true, false, List, [], ◌∷◌, length, Option, Some, None, refl, sym, ap, subst, ◌∙◌, arith}
use Rattle.behavior.specs.Values.{Value, Truth, Word, Way, Found, Outside, Wrong}
use Rattle.behavior.specs.Meanings.{Ids}
use Rattle.spirv_words.specs.declared.opcodes.Op.{Op}
use Rattle.spirv_words.specs.declared.images.Instruction.{Instruction}
use Rattle.spirv_words.specs.Machine.{Shape, Truths, Words, Operand, Plain}
use Rattle.spirv_words.specs.Step.{State, Turn, with_plain, with_word, with_truth, with_some}
use Rattle.flat_values.specs.Flat.{flat, IsOf}
use Rattle.flat_values.specs.Ranges.{Stands}
use Rattle.run_actions.specs.Steps.{FlatTurn}
use Rattle.image_lookup.specs.Lookups.{sort, operand, is_value}
use Rattle.image_declarations.specs.Holdings.{is_data}
use Rattle.image_operands.specs.Operators.{is_bool, is_int}
use Rattle.image_types.specs.Functions.{is_void}
use Rattle.image_scopes.specs.Scopes.{IsSeen}
use Rattle.image_facts.specs.Alike.{IsLike}
use Rattle.image_facts.specs.Operands.{shape, type_id}
use Rattle.image_facts.proofs.Likes.{like-of}
use Rattle.typed_runs.proofs.Types.{of_bool, of_int}
use Rattle.typed_runs.proofs.Operands.{Uses, IsLikely, likely}
use Rattle.run_rooms.specs.Rooms.{Rooms, size_of, slot_size}
use Rattle.run_laws.specs.Together.{Follows}
use Rattle.run_laws.proofs.Counting.{like_count, data_size}
use Rattle.run_laws.proofs.Bounds.{words_there}
use Rattle.run_laws.proofs.Writing.{Setup}
use Rattle.run_laws.proofs.Acting.{Ready, at_of, seen_of, laid_of}

-- ---- turns

module _ (code : List Instruction) (L : Rooms) (ids : Ids) (lengths : ℕ → ℕ → ℕ) (place : ℕ) (ws : List ℕ) where
  pub follows_plain : (o : Option Operand) (v : Value) (go : Value → Turn) (f : FlatTurn) → o ≡ Some (Plain v)
      → Follows code L ids lengths place ws (go v) f → Follows code L ids lengths place ws (with_plain o go) f
  follows_plain o v go f e h = subst (λ (y : Option Operand). Follows code L ids lengths place ws (with_plain y go) f) (sym e) h

  pub follows_word : (o : Option Operand) (w : ℕ) (go : ℕ → Turn) (f : FlatTurn) → o ≡ Some (Plain (Word w))
      → Follows code L ids lengths place ws (go w) f → Follows code L ids lengths place ws (with_word o go) f
  follows_word o w go f e h = subst (λ (y : Option Operand). Follows code L ids lengths place ws (with_word y go) f) (sym e) h

  pub follows_truth : (o : Option Operand) (b : Bool) (go : Bool → Turn) (f : FlatTurn) → o ≡ Some (Plain (Truth b))
      → Follows code L ids lengths place ws (go b) f → Follows code L ids lengths place ws (with_truth o go) f
  follows_truth o b go f e h = subst (λ (y : Option Operand). Follows code L ids lengths place ws (with_truth y go) f) (sym e) h

  pub follows_some : {A : Type 0} (o : Option A) (a : A) (go : A → Turn) (f : FlatTurn) → o ≡ Some a
      → Follows code L ids lengths place ws (go a) f → Follows code L ids lengths place ws (with_some o go) f
  follows_some {A} o a go f e h = subst (λ (y : Option A). Follows code L ids lengths place ws (with_some y go) f) (sym e) h

  pub follows_flat : (turn : Turn) (f g : FlatTurn) → f ≡ g → Follows code L ids lengths place ws turn g → Follows code L ids lengths place ws turn f
  follows_flat turn f g e h = subst (λ (y : FlatTurn). Follows code L ids lengths place ws turn y) (sym e) h

-- ---- values

-- an operand is a value like a shape, and its words stand where they are looked for
pub record IsThere (code : List Instruction) (L : Rooms) (s : State) (ws : List ℕ) (x t : ℕ) (form : Shape) : Type 0 where
  pub value : Value
  pub is : s.ids x ≡ Some (Plain value)
  pub like : IsLike value form
  pub of : IsOf value form
  pub stands : Stands (flat value) (L.slot x) ws
  pub count : length (flat value) ≡ size_of code t
  pub size : slot_size code x ≡ size_of code t
  pub seen : IsSeen code s.place x

module _ (code : List Instruction) (L : Rooms) (ids : Ids) (lengths : ℕ → ℕ → ℕ) (counts : List ℕ) (m : Setup code L lengths counts) where
  pub value_there : (s : State) (ws : List ℕ) (op : Op) (os : List ℕ) (j x t : ℕ) (form : Shape) → Ready code L ids lengths s ws op os
      → Uses op os j x → is_value code x ≡ true → type_id code x ≡ t → is_data code t ≡ true → shape code t ≡ Some form
      → IsThere code L s ws x t form
  value_there s ws op os j x t form a u v e d f =
      let p = likely code m.known.facts s op os j x t form (at_of code L ids lengths counts m s ws op os a) u v e d f in
      let n : is_void code (type_id code x) ≡ false = ap (is_void code) e ∙ m.known.facts.not_void t d in
      let l = laid_of code L ids lengths counts m s ws op os j x (Plain p.value) a u v n p.is in
      record {
        value = p.value;
        is = p.is;
        like = p.like;
        of = like-of p.value form p.like (words_there (flat p.value) ws (L.slot x) l.1 a.are_words);
        stands = l.1;
        count = like_count p.value form p.like ∙ sym (data_size code t form m.known d f);
        size = ap (size_of code) e;
        seen = seen_of code L ids lengths counts m s ws op os j x a u v;
      }

  -- a word
  pub record IsWordThere (s : State) (ws : List ℕ) (x t : ℕ) : Type 0 where
    pub word : ℕ
    pub is : s.ids x ≡ Some (Plain (Word word))
    pub stands : Stands (word ∷ []) (L.slot x) ws
    pub size : slot_size code x ≡ 1
    pub seen : IsSeen code s.place x

  word_by : (s : State) (ws : List ℕ) (x t : ℕ) (b : Bool) (v : Value) → s.ids x ≡ Some (Plain v) → IsLike v (Words b) → Stands (flat v) (L.slot x) ws
      → slot_size code x ≡ 1 → IsSeen code s.place x → IsWordThere s ws x t
  word_by s ws x t b (Word w) e h st n seen = record { word = w; is = e; stands = st; size = n; seen = seen }
  word_by s ws x t b (Truth y) e h st n seen = absurd h
  word_by s ws x t b v e h st n seen = absurd h

  pub word_there : (s : State) (ws : List ℕ) (op : Op) (os : List ℕ) (j x t : ℕ) → Ready code L ids lengths s ws op os
      → Uses op os j x → is_value code x ≡ true → type_id code x ≡ t → is_int code t ≡ true → IsWordThere s ws x t
  word_there s ws op os j x t a u v e i =
      let k = of_int (sort code t) i in
      let d = m.known.facts.int_data t k in
      let f = m.known.facts.shape_int t k in
      let p = value_there s ws op os j x t _ a u v e d f in
      word_by s ws x t _ p.value p.is p.like p.stands (p.size ∙ data_size code t _ m.known d f) p.seen

  pub record IsTruthThere (s : State) (ws : List ℕ) (x t : ℕ) : Type 0 where
    pub truth : Bool
    pub is : s.ids x ≡ Some (Plain (Truth truth))
    pub stands : Stands (flat (Truth truth)) (L.slot x) ws
    pub size : slot_size code x ≡ 1
    pub seen : IsSeen code s.place x

  truth_by : (s : State) (ws : List ℕ) (x t : ℕ) (v : Value) → s.ids x ≡ Some (Plain v) → IsLike v Truths → Stands (flat v) (L.slot x) ws
      → slot_size code x ≡ 1 → IsSeen code s.place x → IsTruthThere s ws x t
  truth_by s ws x t (Truth b) e h st n seen = record { truth = b; is = e; stands = st; size = n; seen = seen }
  truth_by s ws x t (Word y) e h st n seen = absurd h
  truth_by s ws x t v e h st n seen = absurd h

  pub truth_there : (s : State) (ws : List ℕ) (op : Op) (os : List ℕ) (j x t : ℕ) → Ready code L ids lengths s ws op os
      → Uses op os j x → is_value code x ≡ true → type_id code x ≡ t → is_bool code t ≡ true → IsTruthThere s ws x t
  truth_there s ws op os j x t a u v e i =
      let k = of_bool (sort code t) i in
      let d = m.known.facts.bool_data t k in
      let f = m.known.facts.shape_bool t k in
      let p = value_there s ws op os j x t Truths a u v e d f in
      truth_by s ws x t p.value p.is p.like p.stands (p.size ∙ data_size code t Truths m.known d f) p.seen
