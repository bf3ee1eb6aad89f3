-- Calls on values and on words: the function that is called begins with its arguments, and its variables with zeros.
use Rattle.std.proofs.Common.{◌≡◌, ◌≢◌, ℕ, zero, suc, ◌+◌, ◌-◌, ◌<◌, ◌≤◌, ◌⊎◌, inl, inr, Bool, true, false, ◌&&◌, cond, nat_eq, List, [], ◌∷◌, length, Option, Some, None, refl, sym, ap, subst, ◌∙◌, add-one, zero-add, arith}
use Rattle.std.specs.Prelude.{slice_get, replicate}
use Rattle.std.proofs.lemmas.Bool.{and_parts, eq-eqb, ne_eqb, cases_lt}
use Rattle.std.proofs.lemmas.List.{length-replicate}
use Rattle.behavior.specs.Values.{Value}
use Rattle.behavior.specs.Meanings.{Ids}
use Rattle.spirv_words.specs.declared.opcodes.Op.TheVariants.{FunctionCall}
use Rattle.spirv_words.specs.declared.images.Instruction.{Instruction}
use Rattle.spirv_words.specs.Machine.{Root, Local, Input as InputRoot, Operand, Plain, Path, InBuffer, if_some, place_of}
use Rattle.spirv_words.specs.Step.{State, Frame as Call, Turn, Goes, with_some, enter, begun, call, level, act}
use Rattle.spirv_words.specs.Runs.{setting, initial}
use Rattle.flat_values.specs.Flat.{flat}
use Rattle.flat_values.specs.Ranges.{Stands, written, cleared}
use Rattle.flat_values.proofs.Standing.{length-written, written_there, written_apart}
use Rattle.run_actions.specs.declared.actions.Action.TheVariants.{Call as CallOn, Never}
use Rattle.run_actions.specs.Ranges.{gather_at}
use Rattle.run_actions.specs.Steps.{FlatTurn, Goes as GoesTo, goes_on, entered, act as act_on}
use Rattle.action_laws.proofs.Calls.{entered_is}
use Rattle.image_lookup.specs.Lookups.{is_value}
use Rattle.image_places.specs.Places.{function_of}
use Rattle.image_types.specs.Functions.{is_void, is_function}
use Rattle.image_calls.specs.Arguments.{is_argument, are_arguments, parameter_types}
use Rattle.image_scopes.specs.Scopes.{IsSeen, IsGlobal}
use Rattle.image_scopes.specs.Facts.{Begun}
use Rattle.image_facts.specs.Operands.{globals_of, type_id, is_local}
use Rattle.typed_runs.specs.States.{IsTyped, AreDeclared, AreFrames, Keeps}
use Rattle.typed_runs.proofs.Going.{all_seen}
use Rattle.typed_runs.proofs.Calls.{call_keeps}
use Rattle.run_rooms.specs.Rooms.{Rooms, AreRooms, Cell, Slot, Room, Frame, Input, IsCell, IsFunction, IsNoRoom, AreApart, cell_place, cell_size, cell_home, home_of, slot_size}
use Rattle.run_plans.specs.Actions.{passed, call_of}
use Rattle.run_plans.specs.Plans.{words_of}
use Rattle.run_laws.specs.Laid.{function_at, LeadsNear, AreLaid, IsKept, AreKept, AreStored}
use Rattle.run_laws.specs.Together.{Together, Follows}
use Rattle.run_laws.proofs.Known.{Known}
use Rattle.run_laws.proofs.Homes.{IsUsed, AreBehind, outside_used, running_used, level_used, running, at_call, at_top}
use Rattle.run_laws.proofs.Same.{Same, global_home, seen_used, CallsStay, steady_stays, given_stays, laid_stays, kept_stays, stored_stays}
use Rattle.run_laws.proofs.Writing.{Setup, Holds, Typed, in_function, behind_from, function_at_same, kept_moves}
use Rattle.run_laws.proofs.Acting.{Ready, holds_of, typed_of, together_from, at_of, behind_of}
use Rattle.run_laws.proofs.Operands.{follows_some, follows_flat}
use Rattle.run_laws.proofs.Outer.{More, outer_near}
use Rattle.run_laws.proofs.Beginning.{begins_as_zeros}
use Rattle.run_laws.proofs.Passing.{IsBefore, same_before, used_is_before, is_begun, parameter_home, IsPassed, passed_stays, Passing, Passed, passes}

-- ---- what was in use stays

calls_before : (code : List Instruction) (k : ℕ) (below : List Call) (Stays : Cell → Type 0)
    → ((c : Cell) → IsCell code c → IsUsed code k below (cell_home code c) → Stays c) → CallsStay code below Stays
calls_before code k [] Stays h = tt
calls_before code k (f ∷ fs) Stays h = λ c cell room used. h c cell (inr used)

module _ (code : List Instruction) (L : Rooms) (ids : Ids) (lengths : ℕ → ℕ → ℕ) (counts : List ℕ) (m : Setup code L lengths counts) where
  -- words behind all that is in use may change
  pub holds_before : (k n : ℕ) (named : ℕ → Option Operand) (below : List Call) (memory : ℕ → ℕ → Value) (ws now : List ℕ)
      → Typed code k named below memory → AreBehind code L k below → L.ends (function_of code k) ≤ n → length now ≡ length ws
      → Same code L (IsBefore code L n) ws now → Holds code L ids lengths k named below memory ws → Holds code L ids lengths k named below memory now
  holds_before k n named below memory ws now typed b l count same h =
      let stays : (c : Cell) → IsCell code c → IsUsed code k below (cell_home code c) → IsBefore code L n c = λ c cell used.
      (let u = used_is_before code L k below c m.rooms b cell used in omega (arith, u, l)) in
      record {
        steady = steady_stays code L (IsBefore code L n) ws now m.known same count
            (λ x g. stays (Slot x) g.value (outside_used code k below (home_of code x) (global_home code x g))) h.steady;
        given = given_stays code L ids (IsBefore code L n) ws now same (λ i g. stays (Input i) g (outside_used code k below 0 refl)) h.given;
        laid = laid_stays code L lengths k below named (IsBefore code L n) ws now m.known same
            (λ x s. stays (Slot x) s.value (seen_used code k x below m.known typed.run s)) typed.names h.laid;
        kept = kept_stays code L lengths k below (IsBefore code L n) ws now m.known m.known same b typed.frames
            (stays (Frame (function_of code k)) (running code L k below b) (running_used code k below (function_of code k) refl))
            (calls_before code k below (IsBefore code L n) stays) h.kept;
        stored = stored_stays code L k below memory (IsBefore code L n) ws now m.known same
            (λ level x le local e. stays (Room x) local (level_used code k below level (home_of code x) le e)) typed.held h.stored;
      }

-- ---- the function that is called

level_cases : (level n : ℕ) → level ≤ suc n → (level ≡ suc n) ⊎ (level ≤ n)
level_cases level n h = either (cases_lt level (suc n))
  where
    either : (level < suc n) ⊎ (suc n ≤ level) → (level ≡ suc n) ⊎ (level ≤ n)
    either (inl l) = inr (omega arith)
    either (inr g) = inl (omega arith)

-- where an operand leads, it leads in a function that is called too
pub near_deeper : (code : List Instruction) (lengths : ℕ → ℕ → ℕ) (k q : ℕ) (f : Call) (below : List Call) (o : Operand)
    → function_of code k ≡ function_of code f.place → LeadsNear code lengths k below o → LeadsNear code lengths q (f ∷ below) o
near_deeper code lengths k q f below (Plain v) e h = h
near_deeper code lengths k q f below (Path (Local level x) path) e h =
    (omega (arith, h.0), h.1 ∙ (function_at_same code k f.place below level e ∙ sym (at_call code q f below level h.0)))
near_deeper code lengths k q f below (Path (InputRoot b) path) e h = h
near_deeper code lengths k q f below (InBuffer set binding byte s) e h = h

zeros_count : (n : ℕ) → length {A = ℕ} (replicate n 0) ≡ n
zeros_count n = length-replicate n 0

slot_no_frame : (x function : ℕ) → Slot x ≢ Frame function
slot_no_frame x function e = cc

module _ (code : List Instruction) (L : Rooms) (ids : Ids) (lengths : ℕ → ℕ → ℕ) (counts : List ℕ) (m : Setup code L lengths counts) (more : More code)
    (s : State) (ws : List ℕ) (f : ℕ) (b : Begun code f) (r : ℕ) where
  abbrev frame : Call
  frame = record { place = s.place + 1; ids = s.ids; result = r }

  abbrev own : ℕ
  own = suc b.place

  -- with zeros as its variables
  abbrev fresh : List ℕ → List ℕ
  fresh vs = cleared vs (L.rooms own) (L.rooms_count own)

  abbrev left : List ℕ
  left = (s.place + 1) ∷ L.slot r ∷ []

  -- with the place to go back to
  abbrev ready : List ℕ → List ℕ
  ready vs = written (fresh vs) (L.frame own) left

  record Fits (vs : List ℕ) : Type 0 where
    count : length vs ≡ L.total
    zeros : L.rooms own + length {A = ℕ} (replicate (L.rooms_count own) 0) ≤ length vs
    all : length (fresh vs) ≡ length vs
    two : L.frame own + 2 ≤ length (fresh vs)

  fits : (vs : List ℕ) → length vs ≡ L.total → Fits vs
  fits vs n =
      let i = is_begun code f b in
      let w = (m.rooms.rooms_within own i).1 in
      let t = (m.rooms.behind own i).1 in
      let c = (m.rooms.within (Frame own) i).1 in
      let z = zeros_count (L.rooms_count own) in
      let one : L.rooms own + length {A = ℕ} (replicate (L.rooms_count own) 0) ≤ length vs = omega (arith, w, t, n, z) in
      let e = length-written vs (replicate (L.rooms_count own) 0) (L.rooms own) one in
      record { count = n; zeros = one; all = e; two = omega (arith, c, t, n, e) }

  same_ready : (vs : List ℕ) → Fits vs → Same code L (IsBefore code L (L.begins own)) ws vs → Same code L (IsBefore code L (L.begins own)) ws (ready vs)
  same_ready vs fit same =
      let i = is_begun code f b in
      same_before code L ws (fresh vs) left (L.begins own) (L.frame own) (m.rooms.within (Frame own) i).0 fit.two
      (same_before code L ws vs (replicate (L.rooms_count own) 0) (L.begins own) (L.rooms own) (m.rooms.rooms_within own i).0 fit.zeros same)

  zeros_ready : (vs : List ℕ) → Fits vs → Stands (replicate (L.rooms_count own) 0) (L.rooms own) (ready vs)
  zeros_ready vs fit =
      let i = is_begun code f b in
      let apart = m.rooms.rooms_apart (Frame own) own i i refl tt in
      written_apart (fresh vs) left (replicate (L.rooms_count own) 0) (L.frame own) (L.rooms own) fit.two
      (written_there vs (replicate (L.rooms_count own) 0) (L.rooms own) fit.zeros) (turned apart)
    where
      turned : AreApart (L.frame own) 2 (L.rooms own) (L.rooms_count own)
          → (L.rooms own + length {A = ℕ} (replicate (L.rooms_count own) 0) ≤ L.frame own) ⊎ (L.frame own + 2 ≤ L.rooms own)
      turned (inl h) = inr h
      turned (inr h) = inl (omega (arith, h, zeros_count (L.rooms_count own)))

  passed_ready : (vs : List ℕ) (x : ℕ) (o : Operand) → Fits vs → is_value code x ≡ true → home_of code x ≡ own
      → IsPassed code L lengths s.place s.below x o vs → IsPassed code L lengths s.place s.below x o (ready vs)
  passed_ready vs x o fit value home p =
      let i = is_begun code f b in
      passed_stays code L lengths s.place s.below x o (fresh vs) left (L.frame own) fit.two
      (m.rooms.apart (Slot x) (Frame own) value i (slot_no_frame x own) home)
      (passed_stays code L lengths s.place s.below x o vs (replicate (L.rooms_count own) 0) (L.rooms own) fit.zeros
      (subst (λ (n : ℕ). AreApart (L.slot x) (slot_size code x) (L.rooms own) n) (sym (zeros_count (L.rooms_count own)))
      (m.rooms.rooms_apart (Slot x) own value i home tt)) p)

  -- ---- what the words hold where it begins

  module _ (q : ℕ) (then : ℕ → Option Operand) (place n : ℕ) (vs : List ℕ) (in_it : function_of code q ≡ own) (typed : IsTyped code s)
      (b' : AreBehind code L s.place s.below) (over : L.ends (function_of code s.place) ≤ L.begins own)
      (passing : Passing code L ids lengths counts m s ws f b n place then vs) (hold : Holds code L ids lengths s.place s.ids s.below s.memory ws)
      (enough : n ≤ length (parameter_types code f)) where
    same_function : function_of code s.place ≡ function_of code (s.place + 1)
    same_function = m.known.facts.in_function s.place typed.run ∙ ap (function_of code) (sym (add-one s.place))

    held_ready : Holds code L ids lengths s.place s.ids s.below s.memory (ready vs)
    held_ready =
        let fit = fits vs passing.count in
        let now : L.frame own + length left ≤ length (fresh vs) = fit.two in
        let count : length (ready vs) ≡ length ws =
        length-written (fresh vs) left (L.frame own) now ∙ (fit.all ∙ (passing.count ∙ sym hold.steady.all)) in
        holds_before code L ids lengths counts m s.place (L.begins own) s.ids s.below s.memory ws (ready vs) (typed_of code L ids lengths s typed) b' over count
        (same_ready vs fit passing.same) hold

    laid_ready : ((x : ℕ) → IsSeen code q x → IsGlobal code x ⊎ ((j : ℕ) × (j < n) × (place_of code x 0 ≡ Some (suc b.place + j))))
        → AreLaid code L lengths q (frame ∷ s.below) then (ready vs)
    laid_ready sees x o seen v e = either (sees x seen)
      where
        either : IsGlobal code x ⊎ ((j : ℕ) × (j < n) × (place_of code x 0 ≡ Some (suc b.place + j)))
            → LeadsNear code lengths q (frame ∷ s.below) o × Stands (words_of code L o) (L.slot x) (ready vs)
        either (inl g) =
            let is : (globals_of code).ids x ≡ Some o = sym (passing.declared x g) ∙ e in
            (outer_near code L lengths counts q (frame ∷ s.below) o m.have (more.outer x o g is), held_ready.steady.stands x o g is)
        either (inr (j, l, there)) =
            let home = parameter_home code f b j x (omega (arith, l, enough)) there in
            let p = passed_ready vs x o (fits vs passing.count) seen.value home (passing.given j x l there seen.value o e) in
            (near_deeper code lengths s.place q frame s.below o same_function p.near, p.stands)

    kept_ready : AreKept code L lengths q (frame ∷ s.below) (ready vs)
    kept_ready =
        let back : s.place ≡ s.place + 1 - 1 = omega arith in
        let fit = fits vs passing.count in (
          record {
            back = subst (λ (k : ℕ). Stands left (L.frame k) (ready vs)) (sym in_it) (written_there (fresh vs) left (L.frame own) fit.two);
            laid = subst (λ (k : ℕ). AreLaid code L lengths k s.below s.ids (ready vs)) back held_ready.laid;
            behind = omega (arith, over, ap L.ends same_function, ap L.begins in_it);
          },
          kept_moves code L lengths s.place (s.place + 1) s.below (ready vs) same_function held_ready.kept,
        )

    stored_ready : AreStored code L q (frame ∷ s.below) (begun (setting code ids lengths) s.memory (level s + 1)) (ready vs)
    stored_ready l x h local e = either (level_cases l (length s.below) h)
      where
        depth : level s + 1 ≡ suc (length s.below)
        depth = add-one (length s.below)

        either : (l ≡ suc (length s.below)) ⊎ (l ≤ length s.below)
            → Stands (flat (begun (setting code ids lengths) s.memory (level s + 1) l x)) (L.room x) (ready vs)
        either (inl top) =
            let home : home_of code x ≡ own = e ∙ (ap (function_at code q (frame ∷ s.below)) top ∙ (at_top code q (frame ∷ s.below) ∙ in_it)) in
            subst (λ (v : Value). Stands (flat v) (L.room x) (ready vs))
            (sym (ap (λ c. cond c (initial code (globals_of code) x) (s.memory l x)) (eq-eqb l (level s + 1) (top ∙ sym depth))))
            (begins_as_zeros code L own x (ready vs) m.known m.rooms local home (zeros_ready vs (fits vs passing.count)))
        either (inr less) =
            let home : home_of code x ≡ function_at code s.place s.below l =
            e ∙ (at_call code q frame s.below l less ∙ sym (function_at_same code s.place (s.place + 1) s.below l same_function)) in
            subst (λ (v : Value). Stands (flat v) (L.room x) (ready vs))
            (sym (ap (λ c. cond c (initial code (globals_of code) x) (s.memory l x)) (ne_eqb l (level s + 1) (λ z. absurd (omega (arith, z, depth, less))))))
            (held_ready.stored l x less local home)

    pub begins_held : ((x : ℕ) → IsSeen code q x → IsGlobal code x ⊎ ((j : ℕ) × (j < n) × (place_of code x 0 ≡ Some (suc b.place + j))))
        → Holds code L ids lengths q then (frame ∷ s.below) (begun (setting code ids lengths) s.memory (level s + 1)) (ready vs)
    begins_held sees =
        record { steady = held_ready.steady; given = held_ready.given; laid = laid_ready sees; kept = kept_ready; stored = stored_ready }

-- ---- a call

arguments_count : (code : List Instruction) (ts arguments : List ℕ) → are_arguments code ts arguments ≡ true → length arguments ≡ length ts
arguments_count code [] [] e = refl
arguments_count code (t ∷ ts) (x ∷ xs) e = ap suc (arguments_count code ts xs (and_parts (is_argument code t x) (are_arguments code ts xs) e).1)
arguments_count code [] (x ∷ xs) e = cc
arguments_count code (t ∷ ts) [] e = cc

module _ (code : List Instruction) (L : Rooms) (ids : Ids) (lengths : ℕ → ℕ → ℕ) (counts : List ℕ) (m : Setup code L lengths counts) (more : More code)
    (s : State) (ws : List ℕ) (t r f : ℕ) (arguments : List ℕ) (a : Ready code L ids lengths s ws FunctionCall (t ∷ r ∷ f ∷ arguments)) (b : Begun code f) where
  abbrev flat_call : FlatTurn
  flat_call = act_on (call_of code L s.place r f arguments) (s.place + 1) counts ws

  abbrev entry_state : ℕ → (ℕ → Option Operand) → State
  entry_state place then = record {
    place = place;
    ids = then;
    below = (record { place = s.place + 1; ids = s.ids; result = r }) ∷ s.below;
    memory = begun (setting code ids lengths) s.memory (level s + 1);
  }

  over_all : L.ends (function_of code s.place) ≤ L.begins (suc b.place)
  over_all =
      m.rooms.calls s.place b.place (record { op = FunctionCall; operands = t ∷ r ∷ f ∷ arguments }) t r f arguments a.stands
      (record { op = refl; operands = refl }) b.there

  none_passed : Passing code L ids lengths counts m s ws f b 0 (b.place + 1) (globals_of code).ids ws
  none_passed = record {
    place_is = omega arith;
    declared = λ x g. refl;
    count = a.together.steady.all;
    same = λ c cell before xs e h. h;
    given = λ j x l. absurd (omega arith);
  }

  all_passed : is_function code f ≡ true → are_arguments code (parameter_types code f) arguments ≡ true
      → Passed code L ids lengths counts m s ws f b arguments 0 (b.place + 1) (globals_of code).ids ws
  all_passed callee fit =
      let at = at_of code L ids lengths counts m s ws FunctionCall (t ∷ r ∷ f ∷ arguments) a in
      let seen = all_seen code m.known.facts s FunctionCall t r (f ∷ arguments) at refl refl refl in
      passes code L ids lengths counts m s ws f b (parameter_types code f) arguments 0 (b.place + 1) (globals_of code).ids ws callee a.together.typed
      (holds_of code L ids lengths s s.place ws a.together) (behind_of code L ids lengths counts m s ws FunctionCall (t ∷ r ∷ f ∷ arguments) a)
      over_all fit (λ j x e v. seen (suc j) x e v) (omega arith) (λ j u x. ap (slice_get (parameter_types code f)) (zero-add j) ∙ x) none_passed

  goes_in : (p : Passed code L ids lengths counts m s ws f b arguments 0 (b.place + 1) (globals_of code).ids ws)
      → act (setting code ids lengths) FunctionCall (t ∷ r ∷ f ∷ arguments) s ≡ Goes (entry_state (b.place + 1 + length arguments) p.then)
  goes_in p =
      ap (λ o. with_some o (λ p. enter (setting code ids lengths) s.ids arguments (p + 1) (globals_of code).ids (λ place ids'. Goes (entry_state place ids')))) b.there
      ∙ p.goes (λ place ids'. Goes (entry_state place ids'))

  goes_in_words : (p : Passed code L ids lengths counts m s ws f b arguments 0 (b.place + 1) (globals_of code).ids ws)
      → flat_call ≡ GoesTo (b.place + 1 + length arguments) (ready code L ids lengths counts m more s ws f b r p.words)
  goes_in_words p =
      let fit = fits code L ids lengths counts m more s ws f b r p.words p.passing.count in
      let z = zeros_count (L.rooms_count (suc b.place)) in
      ap (λ o. act_on (if_some o Never (λ p.
      CallOn (p + 1 + length arguments) (passed code L arguments (p + 1)) (L.rooms (suc p)) (L.rooms_count (suc p)) (L.frame (suc p)) (s.place + 1) (L.slot r)))
      (s.place + 1) counts ws) b.there
      ∙ ap (goes_on (b.place + 1 + length arguments))
      (entered_is (passed code L arguments (b.place + 1)) ws p.words (L.rooms (suc b.place)) (L.rooms_count (suc b.place)) (L.frame (suc b.place)) (s.place + 1)
      (L.slot r) p.gathers (omega (arith, fit.zeros, z)) (omega (arith, fit.two)))

  called : is_function code f ≡ true → are_arguments code (parameter_types code f) arguments ≡ true
      → Follows code L ids lengths s.place ws (act (setting code ids lengths) FunctionCall (t ∷ r ∷ f ∷ arguments) s) flat_call
  called callee fit =
      let at = at_of code L ids lengths counts m s ws FunctionCall (t ∷ r ∷ f ∷ arguments) a in
      let p = all_passed callee fit in
      let q : ℕ = b.place + 1 + length arguments in
      let count = arguments_count code (parameter_types code f) arguments fit in
      let many : 0 + length arguments ≡ length (parameter_types code f) = omega (arith, count) in
      let there : suc b.place + length (parameter_types code f) ≡ q = omega (arith, count) in
      let enough : 0 + length arguments ≤ length (parameter_types code f) = omega (arith, many) in
      let in_it = ap (function_of code) (sym there) ∙ b.in_it in
      let sees = subst (λ (n : ℕ). (x : ℕ) → IsSeen code q x → IsGlobal code x ⊎ ((j : ℕ) × (j < n) × (place_of code x 0 ≡ Some (suc b.place + j)))) (sym many)
      (subst (λ (k : ℕ). (x : ℕ) → IsSeen code k x → IsGlobal code x ⊎ ((j : ℕ) × (j < length (parameter_types code f)) × (place_of code x 0 ≡ Some (suc b.place + j)))) there b.seen) in
      let typed = subst (λ (y : Turn). Keeps code y) (goes_in p) (call_keeps code m.known.facts ids lengths s t r f arguments at) in
      let now : List ℕ = ready code L ids lengths counts m more s ws f b r p.words in
      let held = begins_held code L ids lengths counts m more s ws f b r q p.then q (0 + length arguments) p.words in_it a.together.typed
      (behind_of code L ids lengths counts m s ws FunctionCall (t ∷ r ∷ f ∷ arguments) a) over_all p.passing
      (holds_of code L ids lengths s s.place ws a.together) enough sees in
      subst (λ (y : Turn). Follows code L ids lengths s.place ws y flat_call) (sym (goes_in p))
      (follows_flat code L ids lengths s.place ws (Goes (entry_state q p.then)) flat_call (GoesTo q now) (goes_in_words p)
      (together_from code L ids lengths (entry_state q p.then) q now refl typed held))

module _ (code : List Instruction) (L : Rooms) (ids : Ids) (lengths : ℕ → ℕ → ℕ) (counts : List ℕ) (m : Setup code L lengths counts) (more : More code) where
  pub call_case : (s : State) (ws : List ℕ) (t r f : ℕ) (arguments : List ℕ) → Ready code L ids lengths s ws FunctionCall (t ∷ r ∷ f ∷ arguments)
      → Follows code L ids lengths s.place ws (act (setting code ids lengths) FunctionCall (t ∷ r ∷ f ∷ arguments) s)
      (act_on (call_of code L s.place r f arguments) (s.place + 1) counts ws)
  call_case s ws t r f arguments a =
      let c = m.known.facts.calls s.place t r f arguments a.together.typed.run a.stands in
      called code L ids lengths counts m more s ws t r f arguments a (m.known.facts.begun f c.callee) c.callee c.fit
