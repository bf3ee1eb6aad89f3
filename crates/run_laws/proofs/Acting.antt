-- A state and its words at an instruction: its operands stand where they are looked for, and the words of its result are written.
use Rattle.std.proofs.Common.{◌≡◌, ◌≢◌, ℕ, zero, suc, ◌+◌, ◌<◌, ◌≤◌, ◌⊎◌, inl, inr, Bool, true, false, ◌||◌, List, [], ◌∷◌, length, Option, Some, None, slice_index, refl, sym, ap, subst, ◌∙◌, add-one, arith}
use Rattle.std.specs.Prelude.{slice_get, nat_le}
use Rattle.std.specs.List.{AllByRecursion}
use Rattle.std.proofs.lemmas.Bool.{le-leb, or_left, or_right}
use Rattle.behavior.specs.Values.{Value}
use Rattle.behavior.specs.Meanings.{Ids}
use Rattle.spirv_words.specs.declared.opcodes.Op.{Op}
use Rattle.spirv_words.specs.declared.images.Instruction.{Instruction}
use Rattle.spirv_words.specs.Machine.{Operand, place_of, result_of, result_at, standing, Second}
use Rattle.spirv_words.specs.Step.{State, Frame as Call, gives, next}
use Rattle.flat_values.specs.Ranges.{Stands, written}
use Rattle.flat_values.proofs.Standing.{written_there}
use Rattle.run_actions.specs.Ranges.{is_apart}
use Rattle.image_lookup.specs.Sorts.{sort_of, is_value_sort}
use Rattle.image_lookup.specs.Lookups.{is_value}
use Rattle.image_places.specs.Places.{function_of}
use Rattle.image_rules.specs.Blocks.{is_ending}
use Rattle.image_types.specs.Functions.{is_void}
use Rattle.image_scopes.specs.Scopes.{IsRun, IsSeen}
use Rattle.image_facts.specs.Operands.{type_id, Suits}
use Rattle.typed_runs.specs.States.{IsTyped}
use Rattle.typed_runs.proofs.Going.{At, gives_typed, made_operands, made_sort, value_of}
use Rattle.typed_runs.proofs.Operands.{Uses}
use Rattle.run_rooms.specs.Rooms.{Rooms, Slot, AreApart, size_of, slot_size, home_of}
use Rattle.run_plans.specs.Plans.{words_of}
use Rattle.run_laws.specs.Laid.{LeadsNear}
use Rattle.run_laws.specs.Together.{IsWord, Together}
use Rattle.run_laws.proofs.Known.{Known}
use Rattle.run_laws.proofs.Homes.{AreBehind, cells_apart, running_used}
use Rattle.run_laws.proofs.Same.{home_at, seen_used}
use Rattle.run_laws.proofs.Counting.{words_count}
use Rattle.run_laws.proofs.Writing.{Setup, Holds, Typed, in_function, behind_from, cell_inside, slot_written, slot_is_not, holds_next, holds_moves}

-- an instruction whose result is a value
pub record IsResult (op : Op) : Type 0 where
  pub goes_on : is_ending op ≡ false
  pub second : standing op ≡ Second
  pub valued : is_value_sort (sort_of op) ≡ true

module _ (code : List Instruction) (L : Rooms) (ids : Ids) (lengths : ℕ → ℕ → ℕ) where
  pub holds_of : (s : State) (place : ℕ) (ws : List ℕ) → Together code L ids lengths s place ws
      → Holds code L ids lengths s.place s.ids s.below s.memory ws
  holds_of s place ws t = record { steady = t.steady; given = t.given; laid = t.laid; kept = t.kept; stored = t.stored }

  pub typed_of : (s : State) → IsTyped code s → Typed code s.place s.ids s.below s.memory
  typed_of s t = record { run = t.run; names = t.named; held = t.held; frames = t.frames }

  pub together_from : (s : State) (place : ℕ) (ws : List ℕ) → place ≡ s.place → IsTyped code s
      → Holds code L ids lengths s.place s.ids s.below s.memory ws → Together code L ids lengths s place ws
  together_from s place ws e t h =
      record { same = e; typed = t; steady = h.steady; given = h.given; laid = h.laid; kept = h.kept; stored = h.stored }

-- a state and its words, at an instruction
pub record Ready (code : List Instruction) (L : Rooms) (ids : Ids) (lengths : ℕ → ℕ → ℕ) (s : State) (ws : List ℕ) (op : Op) (os : List ℕ) : Type 0 where
  pub together : Together code L ids lengths s s.place ws
  pub stands : slice_get code s.place ≡ Some (record { op = op; operands = os })
  pub are_words : AllByRecursion IsWord ws

apart_ranges : (from to count : ℕ) → AreApart from count to count → is_apart from to count ≡ true
apart_ranges from to count (inl h) = or_right (nat_le to from) (nat_le (from + count) to) (le-leb (from + count) to h)
apart_ranges from to count (inr h) = or_left (nat_le to from) (nat_le (from + count) to) (le-leb to from (omega arith))

module _ (code : List Instruction) (L : Rooms) (ids : Ids) (lengths : ℕ → ℕ → ℕ) (counts : List ℕ) (m : Setup code L lengths counts) where
  pub at_of : (s : State) (ws : List ℕ) (op : Op) (os : List ℕ) → Ready code L ids lengths s ws op os → At code s op os
  at_of s ws op os a = record { typed = a.together.typed; stands = a.stands }

  pub behind_of : (s : State) (ws : List ℕ) (op : Op) (os : List ℕ) → Ready code L ids lengths s ws op os → AreBehind code L s.place s.below
  behind_of s ws op os a =
      behind_from code L lengths s.place s.below ws m.known (in_function code s.place m.known a.together.typed.run) a.together.typed.frames a.together.kept

  -- ---- operands

  pub seen_of : (s : State) (ws : List ℕ) (op : Op) (os : List ℕ) (j x : ℕ) → Ready code L ids lengths s ws op os → Uses op os j x
      → is_value code x ≡ true → IsSeen code s.place x
  seen_of s ws op os j x a u v = m.known.facts.used s.place (record { op = op; operands = os }) a.together.typed.run a.stands j x u.stands u.role v

  pub laid_of : (s : State) (ws : List ℕ) (op : Op) (os : List ℕ) (j x : ℕ) (o : Operand) → Ready code L ids lengths s ws op os → Uses op os j x
      → is_value code x ≡ true → is_void code (type_id code x) ≡ false → s.ids x ≡ Some o
      → LeadsNear code lengths s.place s.below o × Stands (words_of code L o) (L.slot x) ws
  laid_of s ws op os j x o a u v n e = a.together.laid x o (seen_of s ws op os j x a u v) n e

  -- ---- results

  pub there_of : (s : State) (ws : List ℕ) (op : Op) (t r : ℕ) (os : List ℕ) → Ready code L ids lengths s ws op (t ∷ r ∷ os) → IsResult op
      → place_of code r 0 ≡ Some s.place
  there_of s ws op t r os a i =
      m.known.facts.here s.place (record { op = op; operands = t ∷ r ∷ os }) a.stands r (ap (λ x. result_at x (t ∷ r ∷ os)) i.second)

  value_of_result : (s : State) (ws : List ℕ) (op : Op) (t r : ℕ) (os : List ℕ) → Ready code L ids lengths s ws op (t ∷ r ∷ os) → IsResult op
      → is_value code r ≡ true
  value_of_result s ws op t r os a i =
      ap is_value_sort (made_sort code s.place r (record { op = op; operands = t ∷ r ∷ os }) a.stands (there_of s ws op t r os a i)) ∙ i.valued

  pub type_of_result : (s : State) (ws : List ℕ) (op : Op) (t r : ℕ) (os : List ℕ) → Ready code L ids lengths s ws op (t ∷ r ∷ os) → IsResult op
      → type_id code r ≡ t
  type_of_result s ws op t r os a i =
      ap (λ l. slice_index l 0) (made_operands code s.place r (record { op = op; operands = t ∷ r ∷ os }) a.stands (there_of s ws op t r os a i))

  unseen_result : (s : State) (ws : List ℕ) (op : Op) (t r : ℕ) (os : List ℕ) → Ready code L ids lengths s ws op (t ∷ r ∷ os) → IsResult op
      → IsSeen code s.place r → ⊥
  unseen_result s ws op t r os a i =
      m.known.result_is_new s.place (record { op = op; operands = t ∷ r ∷ os }) a.stands r (ap (λ x. result_at x (t ∷ r ∷ os)) i.second)

  -- the words of the result are among all words
  pub result_inside : (s : State) (ws : List ℕ) (op : Op) (t r : ℕ) (os : List ℕ) → Ready code L ids lengths s ws op (t ∷ r ∷ os) → IsResult op
      → L.slot r + size_of code t ≤ length ws
  result_inside s ws op t r os a i =
      let there = there_of s ws op t r os a i in
      let inside = cell_inside code L s.place s.below (Slot r) m.rooms (behind_of s ws op (t ∷ r ∷ os) a) (value_of_result s ws op t r os a i) (home_at code r s.place there) in
      omega (arith, inside, ap (size_of code) (type_of_result s ws op t r os a i), a.together.steady.all)

  -- those of an operand are apart from them
  pub operand_apart : (s : State) (ws : List ℕ) (op : Op) (t r : ℕ) (os : List ℕ) (x : ℕ) → Ready code L ids lengths s ws op (t ∷ r ∷ os)
      → IsResult op → IsSeen code s.place x → AreApart (L.slot x) (slot_size code x) (L.slot r) (size_of code t)
  operand_apart s ws op t r os x a i seen =
      let there = there_of s ws op t r os a i in
      let unseen = unseen_result s ws op t r os a i in
      subst (λ (n : ℕ). AreApart (L.slot x) (slot_size code x) (L.slot r) n) (ap (size_of code) (type_of_result s ws op t r os a i))
      (cells_apart code L s.place s.below (Slot x) (Slot r) m.rooms (behind_of s ws op (t ∷ r ∷ os) a) seen.value (value_of_result s ws op t r os a i)
      (seen_used code s.place x s.below m.known a.together.typed.run seen)
      (running_used code s.place s.below (home_of code r) (home_at code r s.place there))
      (slot_is_not (λ z. unseen (subst (λ (y : ℕ). IsSeen code s.place y) z seen))))

  -- no word of an operand of as many words is overwritten before it is read
  pub operand_is_apart : (s : State) (ws : List ℕ) (op : Op) (t r : ℕ) (os : List ℕ) (x : ℕ) → Ready code L ids lengths s ws op (t ∷ r ∷ os)
      → IsResult op → IsSeen code s.place x → slot_size code x ≡ size_of code t → is_apart (L.slot x) (L.slot r) (size_of code t) ≡ true
  operand_is_apart s ws op t r os x a i seen e =
      apart_ranges (L.slot x) (L.slot r) (size_of code t)
      (subst (λ (n : ℕ). AreApart (L.slot x) n (L.slot r) (size_of code t)) e (operand_apart s ws op t r os x a i seen))

  -- the function stays at the next place
  pub same_function : (s : State) (ws : List ℕ) (op : Op) (os : List ℕ) → Ready code L ids lengths s ws op os
      → function_of code s.place ≡ function_of code (s.place + 1)
  same_function s ws op os a = m.known.facts.in_function s.place a.together.typed.run ∙ ap (function_of code) (sym (add-one s.place))

  pub next_seen : (s : State) (ws : List ℕ) (op : Op) (os : List ℕ) → Ready code L ids lengths s ws op os → is_ending op ≡ false
      → (x : ℕ) → IsSeen code (s.place + 1) x → IsSeen code s.place x ⊎ ((result_of op os ≡ Some x) × (place_of code x 0 ≡ Some s.place))
  next_seen s ws op os a e =
      let next = m.known.facts.next s.place (record { op = op; operands = os }) a.together.typed.run a.stands e in
      subst (λ (q : ℕ). (x : ℕ) → IsSeen code q x → IsSeen code s.place x ⊎ ((result_of op os ≡ Some x) × (place_of code x 0 ≡ Some s.place)))
      (sym (add-one s.place)) next.seen

  -- once the words of the result are written, they hold the state with it
  pub result_typed : (s : State) (ws : List ℕ) (op : Op) (t r : ℕ) (os : List ℕ) (o : Operand) (place : ℕ) → Ready code L ids lengths s ws op (t ∷ r ∷ os)
      → IsResult op → IsTyped code (gives s r o) → length (words_of code L o) ≡ size_of code t → LeadsNear code lengths s.place s.below o
      → place ≡ s.place + 1 → Together code L ids lengths (gives s r o) place (written ws (L.slot r) (words_of code L o))
  result_typed s ws op t r os o place a i typed n near e =
      let there = there_of s ws op t r os a i in
      let unseen = unseen_result s ws op t r os a i in
      let count : length (words_of code L o) ≡ slot_size code r = n ∙ ap (size_of code) (sym (type_of_result s ws op t r os a i)) in
      let hold = slot_written code L ids lengths counts m s.place r s.ids s.below s.memory ws (words_of code L o)
      (typed_of code L ids lengths s a.together.typed) (value_of_result s ws op t r os a i) there unseen count
      (holds_of code L ids lengths s s.place ws a.together) in
      let inside : L.slot r + length (words_of code L o) ≤ length ws = omega (arith, result_inside s ws op t r os a i, n) in
      together_from code L ids lengths (gives s r o) place (written ws (L.slot r) (words_of code L o)) e typed
      (holds_next code L ids lengths s.place (s.place + 1) r (record { op = op; operands = t ∷ r ∷ os }) s.ids s.below s.memory o
      (written ws (L.slot r) (words_of code L o)) (same_function s ws op (t ∷ r ∷ os) a) (next_seen s ws op (t ∷ r ∷ os) a i.goes_on)
      (ap (λ x. result_at x (t ∷ r ∷ os)) i.second) unseen near
      (written_there ws (words_of code L o) (L.slot r) inside) hold)

  pub result_together : (s : State) (ws : List ℕ) (op : Op) (t r : ℕ) (os : List ℕ) (o : Operand) (place : ℕ) → Ready code L ids lengths s ws op (t ∷ r ∷ os)
      → IsResult op → Suits code o t → LeadsNear code lengths s.place s.below o → place ≡ s.place + 1
      → Together code L ids lengths (gives s r o) place (written ws (L.slot r) (words_of code L o))
  result_together s ws op t r os o place a i suits near e =
      result_typed s ws op t r os o place a i
      (gives_typed code m.known.facts s op os t r o (at_of s ws op (t ∷ r ∷ os) a) i.goes_on i.second suits)
      (words_count code L o t m.known suits) near e

  -- ---- no result

  -- the same words hold a state at the next place, of the same variables and ids
  pub goes_together : (s : State) (ws : List ℕ) (op : Op) (os : List ℕ) (place : ℕ) → Ready code L ids lengths s ws op os → is_ending op ≡ false
      → ((x : ℕ) → result_of op os ≡ Some x → is_value code x ≡ true → ⊥) → IsTyped code (next s) → place ≡ s.place + 1
      → Together code L ids lengths (next s) place ws
  goes_together s ws op os place a e none typed p =
      together_from code L ids lengths (next s) place ws p typed
      (holds_moves code L ids lengths s.place (s.place + 1) s.ids s.below s.memory ws (same_function s ws op os a)
      (λ x v q. before x q.value (next_seen s ws op os a e x q)) (holds_of code L ids lengths s s.place ws a.together))
    where
      before : (x : ℕ) → is_value code x ≡ true → IsSeen code s.place x ⊎ ((result_of op os ≡ Some x) × (place_of code x 0 ≡ Some s.place)) → IsSeen code s.place x
      before x v (inl q) = q
      before x v (inr q) = absurd (none x q.0 v)
