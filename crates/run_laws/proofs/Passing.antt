-- Arguments of a call become the parameters of its function, on values and on words.
use Rattle.std.proofs.Common.{◌≡◌, ◌≢◌, ℕ, zero, suc, ◌+◌, ◌<◌, ◌≤◌, ◌⊎◌, inl, inr, Bool, true, false, ◌&&◌, List, [], ◌∷◌, length, get_or, Option, Some, None, refl, sym, ap, subst, ◌∙◌, add-one, arith}
use Rattle.std.specs.Prelude.{slice_get}
use Rattle.std.specs.Option.{option_map}
use Rattle.std.proofs.lemmas.Bool.{and_parts, cases_eq, cases_lt}
use Rattle.std.proofs.lemmas.Option.{slice_get-get_or}
use Rattle.behavior.specs.Meanings.{Ids}
use Rattle.spirv_words.specs.declared.opcodes.Op.{Op}
use Rattle.spirv_words.specs.declared.opcodes.Op.TheVariants.{Function, FunctionParameter}
use Rattle.spirv_words.specs.declared.images.Instruction.{Instruction}
use Rattle.spirv_words.specs.Machine.{Operand, at, if_some, place_of, second_of}
use Rattle.spirv_words.specs.Step.{State, Frame as Call, Turn, with_some, enter}
use Rattle.spirv_words.specs.Runs.{setting}
use Rattle.flat_values.specs.Ranges.{Stands, written}
use Rattle.flat_values.proofs.Standing.{length-written, written_there, written_apart}
use Rattle.run_actions.specs.declared.actions.Move.{Move}
use Rattle.run_actions.specs.Ranges.{gather_at}
use Rattle.action_laws.proofs.Calls.{gathered_is}
use Rattle.image_lookup.specs.Lookups.{is_value}
use Rattle.image_places.specs.Places.{op_at, under_function, function_of}
use Rattle.image_types.specs.Functions.{is_void, is_function}
use Rattle.image_calls.specs.Arguments.{is_argument, are_arguments, parameter_types}
use Rattle.image_scopes.specs.Facts.{ParameterAt, Begun}
use Rattle.image_facts.specs.Operands.{type_id}
use Rattle.typed_runs.specs.States.{AreDeclared, IsTyped}
use Rattle.typed_runs.proofs.Types.{typed_as}
use Rattle.typed_runs.proofs.Going.{AreSeen, value_of, at_same, at_other, declared_with}
use Rattle.run_rooms.specs.Rooms.{Rooms, AreRooms, Cell, Slot, IsCell, IsFunction, AreApart, cell_place, cell_size, cell_home, home_of, size_of, slot_size}
use Rattle.run_plans.specs.Actions.{passed}
use Rattle.run_plans.specs.Plans.{words_of}
use Rattle.run_laws.specs.Laid.{LeadsNear}
use Rattle.run_laws.proofs.Known.{Known}
use Rattle.run_laws.proofs.Homes.{IsUsed, AreBehind, used_before, has_words, running}
use Rattle.run_laws.proofs.Same.{Same, home_at, seen_used}
use Rattle.run_laws.proofs.Counting.{words_count}
use Rattle.run_laws.proofs.Writing.{Setup, Holds, slot_is_not}
use Rattle.run_laws.proofs.Returning.{same_id}

-- ---- what lies before a place

abbrev pub IsBefore : List Instruction → Rooms → ℕ → Cell → Type 0
IsBefore code L n c = cell_place L c + cell_size code c ≤ n

pub same_before : (code : List Instruction) (L : Rooms) (ws vs xs : List ℕ) (n place : ℕ) → n ≤ place → place + length xs ≤ length vs
    → Same code L (IsBefore code L n) ws vs → Same code L (IsBefore code L n) ws (written vs place xs)
same_before code L ws vs xs n place h inside same c cell before ys e s =
    written_apart vs xs ys place (cell_place L c) inside (same c cell before ys e s) (inl (omega (arith, h, before, e)))

-- what is in use lies before the end of the function that runs
pub used_is_before : (code : List Instruction) (L : Rooms) (k : ℕ) (below : List Call) (c : Cell) → AreRooms code L → AreBehind code L k below
    → IsCell code c → IsUsed code k below (cell_home code c) → IsBefore code L (L.ends (function_of code k)) c
used_is_before code L k below c rooms b cell u = either (used_before code L k below (cell_home code c) rooms b u)
  where
    either : (cell_home code c ≡ function_of code k) ⊎ (L.ends (cell_home code c) ≤ L.begins (function_of code k))
        → IsBefore code L (L.ends (function_of code k)) c
    either (inl e) = omega (arith, (rooms.within c cell).1, ap L.ends e)
    either (inr h) = omega (arith, (rooms.within c cell).1, has_words code L (function_of code k) rooms (running code L k below b))

-- ---- parameters

module _ (code : List Instruction) (f : ℕ) (b : Begun code f) where
  pub is_begun : IsFunction code (suc b.place)
  is_begun = (b.place, refl, ap (option_map (λ i. i.op)) b.stands)

  pub parameter_inside : (j : ℕ) → j ≤ length (parameter_types code f) → function_of code (suc b.place + j) ≡ suc b.place
  parameter_inside zero h =
      let z : suc b.place + 0 ≡ suc b.place = omega arith in
      ap (function_of code) z ∙ ap (λ (o : Option Op). under_function o (suc b.place) (function_of code b.place)) (ap (option_map (λ i. i.op)) b.stands)
  parameter_inside (suc j) h =
      let t : ℕ = get_or (parameter_types code f) j 0 in
      let p = b.parameter j t (slice_get-get_or (parameter_types code f) j 0 (omega arith)) in
      let e : suc b.place + suc j ≡ suc (suc b.place + j) = omega arith in
      let l : j ≤ length (parameter_types code f) = omega arith in
      ap (function_of code) e
      ∙ (ap (λ (o : Option Op). under_function o (suc (suc b.place + j)) (function_of code (suc b.place + j))) (ap (option_map (λ i. i.op)) p.1.stands)
      ∙ parameter_inside j l)

  pub parameter_home : (j x : ℕ) → j ≤ length (parameter_types code f) → place_of code x 0 ≡ Some (suc b.place + j) → home_of code x ≡ suc b.place
  parameter_home j x h e = home_at code x (suc b.place + j) e ∙ parameter_inside j h

-- ---- what is passed

-- an operand is passed to a parameter
pub record IsPassed (code : List Instruction) (L : Rooms) (lengths : ℕ → ℕ → ℕ) (k : ℕ) (below : List Call) (x : ℕ) (o : Operand) (vs : List ℕ) : Type 0 where
  pub near : LeadsNear code lengths k below o
  pub count : length (words_of code L o) ≡ slot_size code x
  pub stands : Stands (words_of code L o) (L.slot x) vs

pub passed_stays : (code : List Instruction) (L : Rooms) (lengths : ℕ → ℕ → ℕ) (k : ℕ) (below : List Call) (x : ℕ) (o : Operand) (vs xs : List ℕ) (place : ℕ)
    → place + length xs ≤ length vs → AreApart (L.slot x) (slot_size code x) place (length xs)
    → IsPassed code L lengths k below x o vs → IsPassed code L lengths k below x o (written vs place xs)
passed_stays code L lengths k below x o vs xs place inside apart p = record {
  near = p.near;
  count = p.count;
  stands =
      written_apart vs xs (words_of code L o) place (L.slot x) inside p.stands
      (subst (λ (n : ℕ). (L.slot x + n ≤ place) ⊎ (place + length xs ≤ L.slot x)) (sym p.count) apart);
}

module _ (code : List Instruction) (L : Rooms) (ids : Ids) (lengths : ℕ → ℕ → ℕ) (counts : List ℕ) (m : Setup code L lengths counts)
    (s : State) (ws : List ℕ) (f : ℕ) (b : Begun code f) where
  -- the first parameters of the function have what was passed, and what is in use stays
  pub record Passing (n place : ℕ) (now : ℕ → Option Operand) (vs : List ℕ) : Type 0 where
    pub place_is : place ≡ suc b.place + n
    pub declared : AreDeclared code now
    pub count : length vs ≡ L.total
    pub same : Same code L (IsBefore code L (L.begins (suc b.place))) ws vs
    pub given : (j x : ℕ) → j < n → place_of code x 0 ≡ Some (suc b.place + j) → is_value code x ≡ true → (o : Operand) → now x ≡ Some o
        → IsPassed code L lengths s.place s.below x o vs

  pub record Passed (arguments : List ℕ) (n place : ℕ) (now : ℕ → Option Operand) (vs : List ℕ) : Type 0 where
    pub then : ℕ → Option Operand
    pub words : List ℕ
    pub goes : (go : ℕ → (ℕ → Option Operand) → Turn) → enter (setting code ids lengths) s.ids arguments place now go ≡ go (place + length arguments) then
    pub gathers : gather_at (passed code L arguments place) vs ≡ Some words
    pub passing : Passing (n + length arguments) (place + length arguments) then words

  -- one more
  pass_one : (n t r place : ℕ) (o : Operand) (now : ℕ → Option Operand) (vs : List ℕ) → n < length (parameter_types code f) → (p : ParameterAt code b.place n t r)
      → LeadsNear code lengths s.place s.below o → length (words_of code L o) ≡ slot_size code r → L.slot r + length (words_of code L o) ≤ length vs
      → Passing n place now vs → Passing (suc n) (place + 1) (at now r o) (written vs (L.slot r) (words_of code L o))
  pass_one n t r place o now vs l p near count inside g =
      let home = parameter_home code f b n r (omega arith) p.there in
      let w = (m.rooms.within (Slot r) p.value).0 in
      let e = g.place_is in
      record {
        place_is = omega arith;
        declared =
            declared_with code m.known.facts (suc b.place + n) r now o (m.known.facts.parameter_inside (suc b.place + n) t r p.stands) p.there g.declared;
        count = length-written vs (words_of code L o) (L.slot r) inside ∙ g.count;
        same = same_before code L ws vs (words_of code L o) (L.begins (suc b.place)) (L.slot r) (omega (arith, w, ap L.begins home)) inside g.same;
        given = λ j x k q v z e. either j x k q v z e (cases_eq x r);
      }
    where
      the_one : (j x : ℕ) (z : Operand) → x ≡ r → at now r o x ≡ Some z
          → IsPassed code L lengths s.place s.below x z (written vs (L.slot r) (words_of code L o))
      the_one j x z e f =
          let h : Some o ≡ Some z = sym (at_same now r x o e) ∙ f in
          let same : o ≡ z = cc in
          subst (λ (y : ℕ). IsPassed code L lengths s.place s.below y z (written vs (L.slot r) (words_of code L o))) (sym e)
          (subst (λ (y : Operand). IsPassed code L lengths s.place s.below r y (written vs (L.slot r) (words_of code L o))) same
          (record { near = near; count = count; stands = written_there vs (words_of code L o) (L.slot r) inside }))

      earlier : (j x : ℕ) → x ≢ r → place_of code x 0 ≡ Some (suc b.place + j) → j < suc n → (j < n) ⊎ (n ≤ j) → j < n
      earlier j x ne q k (inl h) = h
      earlier j x ne q k (inr h) =
          let e : j ≡ n = omega arith in
          absurd (ne (same_id code x r (suc b.place + n) _ p.stands (q ∙ ap (λ y. Some (suc b.place + y)) e) p.there))

      either : (j x : ℕ) → j < suc n → place_of code x 0 ≡ Some (suc b.place + j) → is_value code x ≡ true → (z : Operand) → at now r o x ≡ Some z
          → (x ≡ r) ⊎ (x ≢ r) → IsPassed code L lengths s.place s.below x z (written vs (L.slot r) (words_of code L o))
      either j x k q v z e (inl same) = the_one j x z same e
      either j x k q v z e (inr ne) =
          let less = earlier j x ne q k (cases_lt j n) in
          let homes : home_of code x ≡ home_of code r =
          parameter_home code f b j x (omega (arith, less, l)) q ∙ sym (parameter_home code f b n r (omega arith) p.there) in
          let apart = m.rooms.apart (Slot x) (Slot r) v p.value (slot_is_not ne) homes in
          passed_stays code L lengths s.place s.below x z vs (words_of code L o) (L.slot r) inside
          (subst (λ (c : ℕ). AreApart (L.slot x) (slot_size code x) (L.slot r) c) (sym count) apart)
          (g.given j x less q v z (sym (at_other now r x o ne) ∙ e))

  -- ---- all of them

  moves : (x place r : ℕ) (xs : List ℕ) (i : Instruction) → slice_get code place ≡ Some i → second_of i.operands ≡ Some r
      → passed code L (x ∷ xs) place ≡ record { from = L.slot x; to = L.slot r; count = slot_size code x } ∷ passed code L xs (place + 1)
  moves x place r xs i e g =
      ap (λ o. if_some o [] (λ i. if_some (second_of i.operands) [] (λ r.
      record { from = L.slot x; to = L.slot r; count = slot_size code x } ∷ passed code L xs (place + 1)))) e
      ∙ ap (λ o. if_some o [] (λ r. record { from = L.slot x; to = L.slot r; count = slot_size code x } ∷ passed code L xs (place + 1))) g

  enters_one : (x place t r : ℕ) (xs : List ℕ) (o : Operand) (now : ℕ → Option Operand) (go : ℕ → (ℕ → Option Operand) → Turn)
      → slice_get code place ≡ Some (record { op = FunctionParameter; operands = t ∷ r ∷ [] }) → s.ids x ≡ Some o
      → enter (setting code ids lengths) s.ids (x ∷ xs) place now go ≡ enter (setting code ids lengths) s.ids xs (place + 1) (at now r o) go
  enters_one x place t r xs o now go e g =
      ap (λ y. with_some y (λ i. with_some (second_of i.operands) (λ r. with_some (s.ids x) (λ o.
      enter (setting code ids lengths) s.ids xs (place + 1) (at now r o) go)))) e
      ∙ ap (λ y. with_some y (λ o. enter (setting code ids lengths) s.ids xs (place + 1) (at now r o) go)) g

  pub passes : (ts arguments : List ℕ) (n place : ℕ) (now : ℕ → Option Operand) (vs : List ℕ) → is_function code f ≡ true → IsTyped code s
      → Holds code L ids lengths s.place s.ids s.below s.memory ws → AreBehind code L s.place s.below
      → L.ends (function_of code s.place) ≤ L.begins (suc b.place) → are_arguments code ts arguments ≡ true → AreSeen code s.place arguments
      → n + length ts ≤ length (parameter_types code f) → ((j t : ℕ) → slice_get ts j ≡ Some t → slice_get (parameter_types code f) (n + j) ≡ Some t)
      → Passing n place now vs → Passed arguments n place now vs
  passes [] [] n place now vs callee typed h used before fit seen l q g =
      let z : place ≡ place + 0 = omega arith in
      let y : n ≡ n + 0 = omega arith in
      record {
        then = now;
        words = vs;
        goes = λ go. ap (λ k. go k now) z;
        gathers = refl;
        passing = subst (λ (k : ℕ). Passing k (place + 0) now vs) y (subst (λ (k : ℕ). Passing n k now vs) z g);
      }
  passes (t ∷ ts) (x ∷ arguments) n place now vs callee typed h used before fit seen l q g =
      let both = and_parts (is_argument code t x) (are_arguments code ts arguments) fit in
      let one = typed_as code x t both.0 in
      let z : n ≡ n + 0 = omega arith in
      let first : slice_get (parameter_types code f) n ≡ Some t = ap (slice_get (parameter_types code f)) z ∙ q 0 t refl in
      let p = b.parameter n t first in
      let v : is_void code (type_id code x) ≡ false = ap (is_void code) one.1 ∙ m.known.facts.parameter f n t callee first in
      let sees = seen 0 x refl one.0 in
      let o = value_of code m.known.facts s x typed sees v in
      let laid = h.laid x o.0 sees v o.1 in
      let xs : List ℕ = words_of code L o.0 in
      let count : length xs ≡ slot_size code x = words_count code L o.0 (type_id code x) m.known o.2 in
      let size : slot_size code x ≡ slot_size code p.0 = ap (size_of code) (one.1 ∙ sym p.1.type) in
      let u = used_is_before code L s.place s.below (Slot x) m.rooms used one.0 (seen_used code s.place x s.below m.known typed.run sees) in
      let stands = g.same (Slot x) one.0 (omega (arith, u, before)) xs count laid.1 in
      let home = parameter_home code f b n p.0 (omega (arith, l)) p.1.there in
      let w = (m.rooms.within (Slot p.0) p.1.value).1 in
      let d = (m.rooms.behind (suc b.place) (is_begun code f b)).1 in
      let inside : L.slot p.0 + length xs ≤ length vs = omega (arith, w, d, ap L.ends home, count, size, g.count) in
      let i : Instruction = record { op = FunctionParameter; operands = t ∷ p.0 ∷ [] } in
      let here : slice_get code place ≡ Some i = ap (slice_get code) g.place_is ∙ p.1.stands in
      let more = passes ts arguments (suc n) (place + 1) (at now p.0 o.0) (written vs (L.slot p.0) xs) callee typed h used before both.1
      (λ j y e v. seen (suc j) y e v) (omega (arith, l)) (λ j u e. ap (slice_get (parameter_types code f)) (shift n j) ∙ q (suc j) u e)
      (pass_one n t p.0 place o.0 now vs (omega (arith, l)) p.1 laid.0 (count ∙ size) inside g) in
      let far : place + 1 + length arguments ≡ place + suc (length arguments) = omega arith in
      let many : suc n + length arguments ≡ n + suc (length arguments) = omega arith in
      record {
        then = more.then;
        words = more.words;
        goes = λ go. enters_one x place t p.0 arguments o.0 now go here o.1 ∙ (more.goes go ∙ ap (λ k. go k more.then) far);
        gathers = ap (λ ms. gather_at ms vs) (moves x place p.0 arguments i here refl)
            ∙ (gathered_is (record { from = L.slot x; to = L.slot p.0; count = slot_size code x }) (passed code L arguments (place + 1)) xs vs stands (sym count) inside
            ∙ more.gathers);
        passing = subst (λ (k : ℕ). Passing k (place + suc (length arguments)) more.then more.words) many
            (subst (λ (k : ℕ). Passing (suc n + length arguments) k more.then more.words) far more.passing);
      }
    where
      shift : (n j : ℕ) → suc n + j ≡ n + suc j
      shift n j = omega arith
  passes [] (x ∷ arguments) n place now vs callee typed h used before fit seen l q g = cc
  passes (t ∷ ts) [] n place now vs callee typed h used before fit seen l q g = cc
