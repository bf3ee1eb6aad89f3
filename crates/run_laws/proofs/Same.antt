-- What stays of the words that hold a state, where other words were written.
use Rattle.std.proofs.Common.{◌≡◌, ◌≢◌, ℕ, zero, suc, ◌+◌, ◌-◌, ◌<◌, ◌≤◌, ◌⊎◌, inl, inr, Bool, true, false, cond, List, [], ◌∷◌, length, Option, Some, None, refl, sym, ap, subst, ◌∙◌, arith}
use Rattle.std.specs.Prelude.{MatchOption, nat_eq}
use Rattle.std.proofs.lemmas.Bool.{eqb-true}
use Rattle.behavior.specs.Values.{Value, triple, Word}
use Rattle.behavior.specs.Meanings.{Ids}
use Rattle.spirv_words.specs.declared.images.Instruction.{Instruction}
use Rattle.spirv_words.specs.Machine.{Operand, place_of, if_some}
use Rattle.spirv_words.specs.Step.{Frame as Call}
use Rattle.spirv_words.specs.Runs.{built_ins}
use Rattle.flat_values.specs.Flat.{flat}
use Rattle.flat_values.specs.Ranges.{Stands, written}
use Rattle.flat_values.proofs.Standing.{length-written, written_apart}
use Rattle.image_lookup.specs.Lookups.{is_value}
use Rattle.image_places.specs.Places.{function_of}
use Rattle.image_types.specs.Functions.{is_void}
use Rattle.image_scopes.specs.Scopes.{IsRun, IsSeen, IsGlobal}
use Rattle.image_facts.specs.Operands.{globals_of, type_id, is_local, is_built_in, Suits, Unless, StandsFor}
use Rattle.typed_runs.specs.States.{AreNamed, AreHeld, IsFrame, AreFrames}
use Rattle.run_rooms.specs.Rooms.{Rooms, AreRooms, Cell, Slot, Room, Frame, Input, IsCell, IsFunction, IsNoRoom, AreApart, cell_place, cell_size, cell_home, home_of, slot_size, room_size, input_size}
use Rattle.run_plans.specs.Plans.{words_of, IsSteady}
use Rattle.run_laws.specs.Laid.{function_at, AreLaid, IsKept, AreKept, AreStored}
use Rattle.run_laws.specs.Together.{AreGiven}
use Rattle.run_laws.proofs.Known.{Known}
use Rattle.run_laws.proofs.Counting.{words_count, held_count}
use Rattle.run_laws.proofs.Homes.{IsUsed, AreBehind, running, outside_used, running_used}

-- these cells hold what they held
abbrev pub Same : List Instruction → Rooms → (Cell → Type 0) → List ℕ → List ℕ → Type 0
Same code L Stays ws now = (c : Cell) → IsCell code c → Stays c → (xs : List ℕ) → length xs ≡ cell_size code c
    → Stands xs (cell_place L c) ws → Stands xs (cell_place L c) now

-- a cell is apart from a range
abbrev pub IsAside : List Instruction → Rooms → ℕ → ℕ → Cell → Type 0
IsAside code L place count c = AreApart (cell_place L c) (cell_size code c) place count

apart_by : {m n : ℕ} (a place count : ℕ) → n ≡ m → AreApart a m place count → (a + n ≤ place) ⊎ (place + count ≤ a)
apart_by a place count e (inl h) = inl (omega arith)
apart_by a place count e (inr h) = inr h

-- what is aside of what is written stays
pub same_aside : (code : List Instruction) (L : Rooms) (ws xs : List ℕ) (place : ℕ) → place + length xs ≤ length ws
    → Same code L (IsAside code L place (length xs)) ws (written ws place xs)
same_aside code L ws xs place h c cell aside ys n s =
    written_apart ws xs ys place (cell_place L c) h s (apart_by (cell_place L c) place (length xs) n aside)

-- ---- homes

pub home_at : (code : List Instruction) (x p : ℕ) → place_of code x 0 ≡ Some p → home_of code x ≡ function_of code p
home_at code x p e = ap (λ o. if_some o 0 (λ q. function_of code q)) e

pub global_home : (code : List Instruction) (x : ℕ) → IsGlobal code x → home_of code x ≡ 0
global_home code x g = home_at code x g.place g.there ∙ g.outside

-- what is seen is of the function that runs, or outside of functions
pub seen_home : (code : List Instruction) (k x : ℕ) → Known code → IsRun code k → IsSeen code k x
    → (home_of code x ≡ 0) ⊎ (home_of code x ≡ function_of code k)
seen_home code k x known run s = either (known.seen_is_near k run x s)
  where
    either : IsGlobal code x ⊎ (function_of code s.place ≡ function_of code k) → (home_of code x ≡ 0) ⊎ (home_of code x ≡ function_of code k)
    either (inl g) = inl (global_home code x g)
    either (inr e) = inr (home_at code x s.place s.there ∙ e)

pub seen_used : (code : List Instruction) (k x : ℕ) (below : List Call) → Known code → IsRun code k → IsSeen code k x
    → IsUsed code k below (home_of code x)
seen_used code k x below known run s = either (seen_home code k x known run s)
  where
    either : (home_of code x ≡ 0) ⊎ (home_of code x ≡ function_of code k) → IsUsed code k below (home_of code x)
    either (inl e) = outside_used code k below (home_of code x) e
    either (inr e) = running_used code k below (home_of code x) e

-- ---- what is outside of functions

pub steady_stays : (code : List Instruction) (L : Rooms) (Stays : Cell → Type 0) (ws now : List ℕ) → Known code
    → Same code L Stays ws now → length now ≡ length ws → ((x : ℕ) → IsGlobal code x → Stays (Slot x)) → IsSteady code L ws
    → IsSteady code L now
steady_stays code L Stays ws now known same n stays s = record {
  all = n ∙ s.all;
  stands = λ x o g e.
      let t = known.facts.global x g in
      let suits : Suits code o (type_id code x) = subst (λ (p : Operand). Suits code p (type_id code x)) (some_operand (sym t.1 ∙ e)) t.2 in
      same (Slot x) g.value (stays x g) (words_of code L o) (words_count code L o (type_id code x) known suits) (s.stands x o g e);
}
  where
    some_operand : {a b : Operand} → Some a ≡ Some b → a ≡ b
    some_operand e = cc

-- ---- operands

pub suits_some : (code : List Instruction) (o : Operand) (p : Option Operand) (x : ℕ) → is_void code (type_id code x) ≡ false → p ≡ Some o
    → StandsFor code p x → Suits code o (type_id code x)
suits_some code o p x v e s =
    subst (λ (b : Bool). Unless b (MatchOption (Some o) ⊥ (λ q. Suits code q (type_id code x)))) v (subst (λ (q : Option Operand). StandsFor code q x) e s)

pub laid_stays : (code : List Instruction) (L : Rooms) (lengths : ℕ → ℕ → ℕ) (k : ℕ) (below : List Call) (ids : ℕ → Option Operand)
    (Stays : Cell → Type 0) (ws now : List ℕ) → Known code → Same code L Stays ws now → ((x : ℕ) → IsSeen code k x → Stays (Slot x))
    → AreNamed code k ids → AreLaid code L lengths k below ids ws → AreLaid code L lengths k below ids now
laid_stays code L lengths k below ids Stays ws now known same stays named laid x o seen v e =
    let h = laid x o seen v e in
    let suits = suits_some code o (ids x) x v e (named x seen) in
    (h.0, same (Slot x) seen.value (stays x seen) (words_of code L o) (words_count code L o (type_id code x) known suits) h.1)

-- ---- built-in values

some_value : {a b : Value} → Some a ≡ Some b → a ≡ b
some_value e = cc

pub built_in_is : (ids : Ids) (b : ℕ) (v : Value) → built_ins ids b ≡ Some v → (is_built_in b ≡ true) × (length (flat v) ≡ input_size b)
built_in_is ids b v e = first (nat_eq b 26) refl e
  where
    of : (n : ℕ) (w : Value) → b ≡ n → Some w ≡ Some v → is_built_in n ≡ true → length (flat w) ≡ input_size n
        → (is_built_in b ≡ true) × (length (flat v) ≡ input_size b)
    of n w h g t l = (ap is_built_in h ∙ t, ap (λ x. length (flat x)) (sym (some_value g)) ∙ (l ∙ sym (ap input_size h)))

    fourth : (t : Bool) → nat_eq b 29 ≡ t → cond t (Some (Word ids.index)) None ≡ Some v
        → (is_built_in b ≡ true) × (length (flat v) ≡ input_size b)
    fourth true h g = of 29 (Word ids.index) (eqb-true b 29 h) g refl refl
    fourth false h g = cc

    third : (t : Bool) → nat_eq b 28 ≡ t → cond t (Some (triple ids.global)) (cond (nat_eq b 29) (Some (Word ids.index)) None) ≡ Some v
        → (is_built_in b ≡ true) × (length (flat v) ≡ input_size b)
    third true h g = of 28 (triple ids.global) (eqb-true b 28 h) g refl refl
    third false h g = fourth (nat_eq b 29) refl g

    second : (t : Bool) → nat_eq b 27 ≡ t
        → cond t (Some (triple ids.local)) (cond (nat_eq b 28) (Some (triple ids.global)) (cond (nat_eq b 29) (Some (Word ids.index)) None)) ≡ Some v
        → (is_built_in b ≡ true) × (length (flat v) ≡ input_size b)
    second true h g = of 27 (triple ids.local) (eqb-true b 27 h) g refl refl
    second false h g = third (nat_eq b 28) refl g

    first : (t : Bool) → nat_eq b 26 ≡ t
        → cond t (Some (triple ids.group)) (cond (nat_eq b 27) (Some (triple ids.local)) (cond (nat_eq b 28) (Some (triple ids.global)) (cond (nat_eq b 29) (Some (Word ids.index)) None))) ≡ Some v
        → (is_built_in b ≡ true) × (length (flat v) ≡ input_size b)
    first true h g = of 26 (triple ids.group) (eqb-true b 26 h) g refl refl
    first false h g = second (nat_eq b 27) refl g

pub given_stays : (code : List Instruction) (L : Rooms) (ids : Ids) (Stays : Cell → Type 0) (ws now : List ℕ)
    → Same code L Stays ws now → ((b : ℕ) → is_built_in b ≡ true → Stays (Input b)) → AreGiven L ids ws → AreGiven L ids now
given_stays code L ids Stays ws now same stays g b v e =
    let h = built_in_is ids b v e in
    same (Input b) h.0 (stays b h.0) (flat v) h.1 (g b v e)

-- ---- variables

pub stored_stays : (code : List Instruction) (L : Rooms) (place : ℕ) (below : List Call) (memory : ℕ → ℕ → Value)
    (Stays : Cell → Type 0) (ws now : List ℕ) → Known code → Same code L Stays ws now
    → ((level x : ℕ) → level ≤ length below → is_local code x ≡ true → home_of code x ≡ function_at code place below level → Stays (Room x))
    → AreHeld code memory → AreStored code L place below memory ws → AreStored code L place below memory now
stored_stays code L place below memory Stays ws now known same stays held stored level x h l e =
    same (Room x) l (stays level x h l e) (flat (memory level x)) (held_count code memory level x known held l) (stored level x h l e)

-- ---- calls

-- what the calls use stays, but for variables
abbrev pub CallsStay : List Instruction → List Call → (Cell → Type 0) → Type 0
CallsStay code [] Stays = Unit {0}
CallsStay code (f ∷ fs) Stays = (c : Cell) → IsCell code c → IsNoRoom c → IsUsed code f.place fs (cell_home code c) → Stays c

calls_deeper : (code : List Instruction) (f : Call) (fs : List Call) (Stays : Cell → Type 0) → CallsStay code (f ∷ fs) Stays → CallsStay code fs Stays
calls_deeper code f [] Stays h = tt
calls_deeper code f (g ∷ gs) Stays h = λ c cell room used. h c cell room (inr used)

pub before_call : (code : List Instruction) (function : ℕ) (f : Call) (h : IsFrame code function f) → f.place - 1 ≡ h.call
before_call code function f h = let b = h.behind in omega arith

kept_laid : (code : List Instruction) (L : Rooms) (lengths : ℕ → ℕ → ℕ) (function : ℕ) (f : Call) (fs : List Call)
    (Stays : Cell → Type 0) (ws now : List ℕ) → Known code → Known code → Same code L Stays ws now → IsFrame code function f
    → CallsStay code (f ∷ fs) Stays → AreLaid code L lengths (f.place - 1) fs f.ids ws → AreLaid code L lengths (f.place - 1) fs f.ids now
kept_laid code L lengths function f fs Stays ws now places types same frame stay laid =
    let e = before_call code function f frame in
    let run = frame.run in
    let n : function_of code frame.call ≡ function_of code f.place = places.facts.in_function frame.call run ∙ ap (function_of code) (sym frame.behind) in
    laid_stays code L lengths (f.place - 1) fs f.ids Stays ws now types same
    (λ x s. stay (Slot x) s.value tt (used_call n (seen_home code frame.call x places run (subst (λ (k : ℕ). IsSeen code k x) e s))))
    (λ x s. frame.named x (subst (λ (k : ℕ). IsSeen code k x) e s)) laid
  where
    used_call : {x p : ℕ} → p ≡ function_of code f.place → (x ≡ 0) ⊎ (x ≡ p) → IsUsed code f.place fs x
    used_call n (inl e) = outside_used code f.place fs _ e
    used_call n (inr e) = running_used code f.place fs _ (e ∙ n)

pub kept_stays : (code : List Instruction) (L : Rooms) (lengths : ℕ → ℕ → ℕ) (place : ℕ) (below : List Call)
    (Stays : Cell → Type 0) (ws now : List ℕ) → Known code → Known code → Same code L Stays ws now
    → AreBehind code L place below → AreFrames code (function_of code place) below
    → Stays (Frame (function_of code place)) → CallsStay code below Stays
    → AreKept code L lengths place below ws → AreKept code L lengths place below now
kept_stays code L lengths place [] Stays ws now places types same behind frames frame stay kept = tt
kept_stays code L lengths place (f ∷ fs) Stays ws now places types same behind frames frame stay kept =
    let k = kept.0 in
    let function = running code L f.place fs behind.1 in (
      record {
        back = same (Frame (function_of code place)) behind.0.function frame (f.place ∷ L.slot f.result ∷ []) refl k.back;
        laid = kept_laid code L lengths (function_of code place) f fs Stays ws now places types same frames.0 stay k.laid;
        behind = k.behind;
      },
      kept_stays code L lengths f.place fs Stays ws now places types same behind.1 frames.1
          (stay (Frame (function_of code f.place)) function tt (running_used code f.place fs (function_of code f.place) refl))
          (calls_deeper code f fs Stays stay) kept.1,
    )
