-- The words hold what they held where the words of a result or of a variable are written, and a state at the next place.
use Rattle.std.proofs.Common.{◌≡◌, ◌≢◌, ℕ, zero, suc, ◌+◌, ◌-◌, ◌<◌, ◌≤◌, ◌⊎◌, inl, inr, Bool, true, false, cond, nat_eq, List, [], ◌∷◌, length, Option, Some, None, refl, sym, ap, subst, ◌∙◌, arith}
use Rattle.std.proofs.lemmas.Bool.{eq-eqb, ne_eqb, eqb-true, eqb-false}
use Rattle.std.specs.Prelude.{slice_get}
use Rattle.std.specs.Option.{option_map}
use Rattle.behavior.specs.Values.{Value}
use Rattle.behavior.specs.Meanings.{Ids}
use Rattle.spirv_words.specs.declared.opcodes.Op.TheVariants.{Function}
use Rattle.spirv_words.specs.declared.images.Instruction.{Instruction}
use Rattle.spirv_words.specs.Machine.{Operand, Plain, Path, InBuffer, Root, Local, Input, place_of, result_of, if_some, at}
use Rattle.spirv_words.specs.Step.{Frame as Call}
use Rattle.flat_values.specs.Ranges.{Stands, written}
use Rattle.flat_values.proofs.Standing.{length-written, written_there}
use Rattle.image_lookup.specs.Lookups.{is_value}
use Rattle.image_places.specs.Places.{function_of, op_at}
use Rattle.image_types.specs.Functions.{is_void}
use Rattle.image_scopes.specs.Scopes.{IsRun, IsSeen, IsGlobal}
use Rattle.image_scopes.specs.Facts.{Next, Within}
use Rattle.image_facts.specs.Operands.{globals_of, type_id, is_local, is_built_in, Suits}
use Rattle.typed_runs.specs.States.{AreNamed, AreHeld, AreFrames}
use Rattle.run_rooms.specs.Rooms.{Rooms, AreRooms, Cell, Slot, Room, Frame, Input as Given, IsCell, IsFunction, IsNoRoom, AreApart, cell_place, cell_size, cell_home, home_of, slot_size, room_size}
use Rattle.run_plans.specs.Plans.{words_of, IsSteady, AreBuffers}
use Rattle.run_laws.specs.Laid.{function_at, LeadsNear, AreLaid, IsKept, AreKept, AreStored}
use Rattle.run_laws.specs.Together.{AreGiven, HaveLengths}
use Rattle.run_laws.proofs.Known.{Known}
use Rattle.run_laws.proofs.Homes.{IsUsed, AreBehind, running, outside_used, running_used, cells_apart, level_used, callers_before, has_words}
use Rattle.run_laws.proofs.Same.{IsAside, Same, same_aside, home_at, global_home, seen_used, seen_home, steady_stays, given_stays, laid_stays, stored_stays, CallsStay, kept_stays}

-- the image, its rooms and its buffers
pub record Setup (code : List Instruction) (L : Rooms) (lengths : ℕ → ℕ → ℕ) (counts : List ℕ) : Type 0 where
  pub known : Known code
  pub rooms : AreRooms code L
  pub buffers : AreBuffers code L.buffers
  pub have : HaveLengths code L lengths counts

-- what the words hold of a state
pub record Holds (code : List Instruction) (L : Rooms) (ids : Ids) (lengths : ℕ → ℕ → ℕ) (place : ℕ) (named : ℕ → Option Operand)
    (below : List Call) (memory : ℕ → ℕ → Value) (ws : List ℕ) : Type 0 where
  pub steady : IsSteady code L ws
  pub given : AreGiven L ids ws
  pub laid : AreLaid code L lengths place below named ws
  pub kept : AreKept code L lengths place below ws
  pub stored : AreStored code L place below memory ws

-- all that the state holds is of its type
pub record Typed (code : List Instruction) (place : ℕ) (named : ℕ → Option Operand) (below : List Call) (memory : ℕ → ℕ → Value) : Type 0 where
  pub run : IsRun code place
  pub names : AreNamed code place named
  pub held : AreHeld code memory
  pub frames : AreFrames code (function_of code place) below

-- ---- functions

pub in_function : (code : List Instruction) (k : ℕ) → Known code → IsRun code k → IsFunction code (function_of code k)
in_function code k known run =
    let w = known.facts.within k run in
    (w.place, w.opened, ap (option_map (λ i. i.op)) w.stands)

pub behind_from : (code : List Instruction) (L : Rooms) (lengths : ℕ → ℕ → ℕ) (place : ℕ) (below : List Call) (ws : List ℕ) → Known code
    → IsFunction code (function_of code place) → AreFrames code (function_of code place) below → AreKept code L lengths place below ws
    → AreBehind code L place below
behind_from code L lengths place [] ws known f frames kept = f
behind_from code L lengths place (g ∷ gs) ws known f frames kept =
    let h = frames.0 in
    let e : function_of code h.call ≡ function_of code g.place = known.facts.in_function h.call h.run ∙ ap (function_of code) (sym h.behind) in (
      record { function = f; behind = kept.0.behind },
      behind_from code L lengths g.place gs ws known (subst (λ (n : ℕ). IsFunction code n) e (in_function code h.call known h.run)) frames.1 kept.1,
    )

not_zero : (code : List Instruction) (function : ℕ) → IsFunction code function → function ≢ 0
not_zero code function f e = let p = f.1 in absurd (omega arith)

-- the words of what is in use are among all words
pub cell_inside : (code : List Instruction) (L : Rooms) (place : ℕ) (below : List Call) (c : Cell) → AreRooms code L → AreBehind code L place below
    → IsCell code c → cell_home code c ≡ function_of code place → cell_place L c + cell_size code c ≤ L.total
cell_inside code L place below c rooms b cell e =
    let w = (rooms.within c cell).1 in
    let t = (rooms.behind (function_of code place) (running code L place below b)).1 in
    omega (arith, w, t, ap L.ends e)

-- ---- the words of a result

pub slot_is_not : {x r : ℕ} → x ≢ r → Slot x ≢ Slot r
slot_is_not n e = let m = slot_of e in absurd (n m)
  where
    slot_of : {x r : ℕ} → Slot x ≡ Slot r → x ≡ r
    slot_of e = cc

other_home : (code : List Instruction) (x r : ℕ) → home_of code x ≢ home_of code r → x ≢ r
other_home code x r n e = n (ap (home_of code) e)

-- what the calls use is aside of the function that runs
calls_aside : (code : List Instruction) (L : Rooms) (k r : ℕ) (below : List Call) (Stays : Cell → Type 0) → AreRooms code L
    → AreBehind code L k below → home_of code r ≡ function_of code k
    → ((c : Cell) → IsCell code c → IsUsed code k below (cell_home code c) → c ≢ Slot r → Stays c) → CallsStay code below Stays
calls_aside code L k r [] Stays rooms b e aside = tt
calls_aside code L k r (f ∷ fs) Stays rooms b e aside = λ c cell room used.
    let l = callers_before code L k f fs (cell_home code c) rooms b used in
    let w = has_words code L (function_of code k) rooms b.0.function in
    aside c cell (inr used) (λ z.
    let h : L.ends (cell_home code c) ≡ L.ends (function_of code k) = ap (λ d. L.ends (cell_home code d)) z ∙ ap L.ends e in
    absurd (omega (arith, l, w, h)))

module _ (code : List Instruction) (L : Rooms) (ids : Ids) (lengths : ℕ → ℕ → ℕ) (counts : List ℕ) (m : Setup code L lengths counts) where
  pub slot_written : (k r : ℕ) (named : ℕ → Option Operand) (below : List Call) (memory : ℕ → ℕ → Value) (ws xs : List ℕ)
      → Typed code k named below memory → is_value code r ≡ true → place_of code r 0 ≡ Some k → (IsSeen code k r → ⊥)
      → length xs ≡ slot_size code r → Holds code L ids lengths k named below memory ws
      → Holds code L ids lengths k named below memory (written ws (L.slot r) xs)
  slot_written k r named below memory ws xs typed value there unseen n h =
      let places = m.known in
      let f = in_function code k places typed.run in
      let b = behind_from code L lengths k below ws places f typed.frames h.kept in
      let e : home_of code r ≡ function_of code k = home_at code r k there in
      let inside : L.slot r + length xs ≤ length ws =
      omega (arith, cell_inside code L k below (Slot r) m.rooms b value e, h.steady.all) in
      let same = same_aside code L ws xs (L.slot r) inside in
      let size : length xs ≡ cell_size code (Slot r) = n in
      let aside : (c : Cell) → IsCell code c → IsUsed code k below (cell_home code c) → c ≢ Slot r → IsAside code L (L.slot r) (length xs) c =
      λ c cell used other. subst (λ (j : ℕ). AreApart (cell_place L c) (cell_size code c) (L.slot r) j) (sym size)
      (cells_apart code L k below c (Slot r) m.rooms b cell value used (running_used code k below (home_of code r) e) other) in
      let here : home_of code r ≢ 0 = λ z. not_zero code (function_of code k) f (sym e ∙ z) in
      let count = length-written ws xs (L.slot r) inside in
      record {
        steady =
            steady_stays code L (IsAside code L (L.slot r) (length xs)) ws (written ws (L.slot r) xs) m.known same count (λ x g.
            aside (Slot x) g.value (outside_used code k below (home_of code x) (global_home code x g))
            (slot_is_not (λ z. here (sym (ap (home_of code) z) ∙ global_home code x g)))) h.steady;
        given =
            given_stays code L ids (IsAside code L (L.slot r) (length xs)) ws (written ws (L.slot r) xs) same (λ i g.
            aside (Given i) g (outside_used code k below 0 refl) (λ z. cc)) h.given;
        laid =
            laid_stays code L lengths k below named (IsAside code L (L.slot r) (length xs)) ws (written ws (L.slot r) xs) m.known same
            (λ x s. aside (Slot x) s.value (seen_used code k x below places typed.run s) (slot_is_not (λ z. unseen (subst (λ (y : ℕ). IsSeen code k y) z s))))
            typed.names h.laid;
        kept =
            kept_stays code L lengths k below (IsAside code L (L.slot r) (length xs)) ws (written ws (L.slot r) xs) places m.known same b typed.frames
            (aside (Frame (function_of code k)) f (running_used code k below (function_of code k) refl) (λ z. cc))
            (calls_aside code L k r below (IsAside code L (L.slot r) (length xs)) m.rooms b e aside) h.kept;
        stored =
            stored_stays code L k below memory (IsAside code L (L.slot r) (length xs)) ws (written ws (L.slot r) xs) m.known same
            (λ level x l local g. aside (Room x) local (level_used code k below level (home_of code x) l g) (λ z. cc)) typed.held h.stored;
      }

-- ---- the next place

pub function_at_same : (code : List Instruction) (a b : ℕ) (below : List Call) (level : ℕ) → function_of code a ≡ function_of code b
    → function_at code a below level ≡ function_at code b below level
function_at_same code a b [] level e = e
function_at_same code a b (f ∷ fs) level e = ap (λ x. cond (nat_eq level (suc (length fs))) x (function_at code f.place fs level)) e

pub near_moves : (code : List Instruction) (lengths : ℕ → ℕ → ℕ) (a b : ℕ) (below : List Call) (o : Operand) → function_of code a ≡ function_of code b
    → LeadsNear code lengths a below o → LeadsNear code lengths b below o
near_moves code lengths a b below (Plain v) e h = h
near_moves code lengths a b below (Path (Local level x) path) e h = (h.0, h.1 ∙ function_at_same code a b below level e)
near_moves code lengths a b below (Path (Input i) path) e h = h
near_moves code lengths a b below (InBuffer set binding byte s) e h = h

pub kept_moves : (code : List Instruction) (L : Rooms) (lengths : ℕ → ℕ → ℕ) (a b : ℕ) (below : List Call) (ws : List ℕ)
    → function_of code a ≡ function_of code b → AreKept code L lengths a below ws → AreKept code L lengths b below ws
kept_moves code L lengths a b [] ws e h = h
kept_moves code L lengths a b (f ∷ fs) ws e h =
    let k = h.0 in (
      record {
        back = subst (λ (n : ℕ). Stands (f.place ∷ L.slot f.result ∷ []) (L.frame n) ws) e k.back;
        laid = k.laid;
        behind = subst (λ (n : ℕ). L.ends (function_of code f.place) ≤ L.begins n) e k.behind;
      },
      h.1,
    )

pub stored_moves : (code : List Instruction) (L : Rooms) (a b : ℕ) (below : List Call) (memory : ℕ → ℕ → Value) (ws : List ℕ)
    → function_of code a ≡ function_of code b → AreStored code L a below memory ws → AreStored code L b below memory ws
stored_moves code L a b below memory ws e h level x l local g = h level x l local (g ∙ sym (function_at_same code a b below level e))

-- what holds at a place holds at another of the same function at which no more is seen
pub holds_moves : (code : List Instruction) (L : Rooms) (ids : Ids) (lengths : ℕ → ℕ → ℕ) (a b : ℕ) (named : ℕ → Option Operand) (below : List Call)
    (memory : ℕ → ℕ → Value) (ws : List ℕ) → function_of code a ≡ function_of code b
    → ((x : ℕ) → is_void code (type_id code x) ≡ false → IsSeen code b x → IsSeen code a x) → Holds code L ids lengths a named below memory ws
    → Holds code L ids lengths b named below memory ws
holds_moves code L ids lengths a b named below memory ws e seen h = record {
  steady = h.steady;
  given = h.given;
  laid = λ x o s v i. let l = h.laid x o (seen x v s) v i in (near_moves code lengths a b below o e l.0, l.1);
  kept = kept_moves code L lengths a b below ws e h.kept;
  stored = stored_moves code L a b below memory ws e h.stored;
}

some_operand : {a b : Operand} → Some a ≡ Some b → a ≡ b
some_operand e = cc

pub some_number : {a b : ℕ} → Some a ≡ Some b → a ≡ b
some_number e = cc

pub at_it : (named : ℕ → Option Operand) (r : ℕ) (o : Operand) (x : ℕ) → x ≡ r → at named r o x ≡ Some o
at_it named r o x e = ap (λ b. cond b (Some o) (named x)) (eq-eqb x r e)

pub at_other : (named : ℕ → Option Operand) (r : ℕ) (o : Operand) (x : ℕ) → x ≢ r → at named r o x ≡ named x
at_other named r o x n = ap (λ b. cond b (Some o) (named x)) (ne_eqb x r n)

-- what holds at an instruction holds at the next one, with its result
pub holds_next : (code : List Instruction) (L : Rooms) (ids : Ids) (lengths : ℕ → ℕ → ℕ) (k q r : ℕ) (i : Instruction) (named : ℕ → Option Operand)
    (below : List Call) (memory : ℕ → ℕ → Value) (o : Operand) (ws : List ℕ) → function_of code k ≡ function_of code q
    → ((x : ℕ) → IsSeen code q x → IsSeen code k x ⊎ ((result_of i.op i.operands ≡ Some x) × (place_of code x 0 ≡ Some k)))
    → result_of i.op i.operands ≡ Some r → (IsSeen code k r → ⊥) → LeadsNear code lengths k below o → Stands (words_of code L o) (L.slot r) ws
    → Holds code L ids lengths k named below memory ws → Holds code L ids lengths q (at named r o) below memory ws
holds_next code L ids lengths k q r i named below memory o ws e seen is unseen near stands h = record {
  steady = h.steady;
  given = h.given;
  laid = λ x p s v g. either x p v g (seen x s);
  kept = kept_moves code L lengths k q below ws e h.kept;
  stored = stored_moves code L k q below memory ws e h.stored;
}
  where
    either : (x : ℕ) (p : Operand) → is_void code (type_id code x) ≡ false → at named r o x ≡ Some p
        → IsSeen code k x ⊎ ((result_of i.op i.operands ≡ Some x) × (place_of code x 0 ≡ Some k))
        → LeadsNear code lengths q below p × Stands (words_of code L p) (L.slot x) ws
    either x p v g (inl s) =
        let n : x ≢ r = λ z. unseen (subst (λ (y : ℕ). IsSeen code k y) z s) in
        let l = h.laid x p s v (sym (at_other named r o x n) ∙ g) in
        (near_moves code lengths k q below p e l.0, l.1)
    either x p v g (inr t) =
        let z : x ≡ r = some_number (sym t.0 ∙ is) in
        let y : o ≡ p = some_operand (sym (at_it named r o x z) ∙ g) in
        let n = near_moves code lengths k q below o e near in (
          subst (λ (u : Operand). LeadsNear code lengths q below u) y n,
          subst (λ (u : Operand). Stands (words_of code L u) (L.slot x) ws) y (subst (λ (u : ℕ). Stands (words_of code L o) (L.slot u) ws) (sym z) stands),
        )
