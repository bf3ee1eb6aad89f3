-- Which functions' words are in use where a run stands; these words are apart.
use Rattle.std.proofs.Common.{◌≡◌, ◌≢◌, ℕ, zero, suc, ◌+◌, ◌<◌, ◌≤◌, ◌⊎◌, inl, inr, Bool, true, false, cond, nat_eq, List, [], ◌∷◌, length, Option, Some, None, refl, sym, ap, ◌∙◌, arith}
use Rattle.std.proofs.lemmas.Bool.{eq-eqb, ne_eqb, cases_lt}
use Rattle.spirv_words.specs.declared.images.Instruction.{Instruction}
use Rattle.spirv_words.specs.Step.{Frame as Call}
use Rattle.image_places.specs.Places.{function_of}
use Rattle.run_rooms.specs.Rooms.{Rooms, AreRooms, Cell, Frame, IsCell, IsFunction, AreApart, cell_place, cell_size, cell_home}
use Rattle.run_laws.specs.Laid.{function_at}

-- a function is in use: it is the one that runs, or a call leads from it; or what is outside of functions is meant
abbrev pub IsUsed : List Instruction → ℕ → List Call → ℕ → Type 0
IsUsed code place [] home = (home ≡ 0) ⊎ (home ≡ function_of code place)
IsUsed code place (f ∷ fs) home = (home ≡ function_of code place) ⊎ IsUsed code f.place fs home

-- each function that is called stands behind its caller
pub record IsBehind (code : List Instruction) (L : Rooms) (place : ℕ) (f : Call) : Type 0 where
  pub function : IsFunction code (function_of code place)
  pub behind : L.ends (function_of code f.place) ≤ L.begins (function_of code place)

abbrev pub AreBehind : List Instruction → Rooms → ℕ → List Call → Type 0
AreBehind code L place [] = IsFunction code (function_of code place)
AreBehind code L place (f ∷ fs) = IsBehind code L place f × AreBehind code L f.place fs

pub running : (code : List Instruction) (L : Rooms) (place : ℕ) (below : List Call) → AreBehind code L place below
    → IsFunction code (function_of code place)
running code L place [] b = b
running code L place (f ∷ fs) b = b.0.function

-- a function has its two words
pub has_words : (code : List Instruction) (L : Rooms) (function : ℕ) → AreRooms code L → IsFunction code function
    → L.begins function + 2 ≤ L.ends function
has_words code L function rooms f = let w = rooms.within (Frame function) f in omega (arith, w.0, w.1)

-- ---- the order of what is in use

callers_by : (code : List Instruction) (L : Rooms) (place : ℕ) (f : Call) (fs : List Call) (home : ℕ) → AreRooms code L
    → AreBehind code L place (f ∷ fs) → (home ≡ function_of code f.place) ⊎ (L.ends home ≤ L.begins (function_of code f.place))
    → L.ends home ≤ L.begins (function_of code place)
callers_by code L place f fs home rooms b (inl e) = let h = b.0.behind in omega (arith, h, ap L.ends e)
callers_by code L place f fs home rooms b (inr l) =
    let h = b.0.behind in
    let w = has_words code L (function_of code f.place) rooms (running code L f.place fs b.1) in
    omega (arith, h, w, l)

-- what is in use is of the function that runs, or before it
pub used_before : (code : List Instruction) (L : Rooms) (place : ℕ) (below : List Call) (home : ℕ) → AreRooms code L
    → AreBehind code L place below → IsUsed code place below home
    → (home ≡ function_of code place) ⊎ (L.ends home ≤ L.begins (function_of code place))
used_before code L place [] home rooms b (inl e) =
    let h = (rooms.behind (function_of code place) b).0 in
    let n : L.ends home ≤ L.begins (function_of code place) = omega (arith, h, ap L.ends e) in
    inr n
used_before code L place [] home rooms b (inr e) = inl e
used_before code L place (f ∷ fs) home rooms b (inl e) = inl e
used_before code L place (f ∷ fs) home rooms b (inr u) =
    inr (callers_by code L place f fs home rooms b (used_before code L f.place fs home rooms b.1 u))

-- what the calls use is before the function that runs
pub callers_before : (code : List Instruction) (L : Rooms) (place : ℕ) (f : Call) (fs : List Call) (home : ℕ) → AreRooms code L
    → AreBehind code L place (f ∷ fs) → IsUsed code f.place fs home → L.ends home ≤ L.begins (function_of code place)
callers_before code L place f fs home rooms b u =
    callers_by code L place f fs home rooms b (used_before code L f.place fs home rooms b.1 u)

-- ---- two that are in use

-- the words of one are before those of the other
abbrev pub AreOrdered : Rooms → ℕ → ℕ → Type 0
AreOrdered L a b = (a ≡ b) ⊎ ((L.ends a ≤ L.begins b) ⊎ (L.ends b ≤ L.begins a))

same_as : {a b c : ℕ} (L : Rooms) → a ≡ c → (b ≡ c) ⊎ (L.ends b ≤ L.begins c) → AreOrdered L a b
same_as L e (inl f) = inl (e ∙ sym f)
same_as L e (inr h) = inr (inr (let n = h in omega (arith, n, ap L.begins e)))

turned : {a b : ℕ} (L : Rooms) → AreOrdered L a b → AreOrdered L b a
turned L (inl e) = inl (sym e)
turned L (inr (inl h)) = inr (inr h)
turned L (inr (inr h)) = inr (inl h)

pub used_in_order : (code : List Instruction) (L : Rooms) (place : ℕ) (below : List Call) (a b : ℕ) → AreRooms code L
    → AreBehind code L place below → IsUsed code place below a → IsUsed code place below b → AreOrdered L a b
used_in_order code L place [] a b rooms c (inl e) (inl f) = inl (e ∙ sym f)
used_in_order code L place [] a b rooms c (inl e) (inr f) =
    turned L (same_as L f (used_before code L place [] a rooms c (inl e)))
used_in_order code L place [] a b rooms c (inr e) u = same_as L e (used_before code L place [] b rooms c u)
used_in_order code L place (f ∷ fs) a b rooms c (inl e) u = same_as L e (used_before code L place (f ∷ fs) b rooms c u)
used_in_order code L place (f ∷ fs) a b rooms c (inr u) (inl e) =
    turned L (same_as L e (used_before code L place (f ∷ fs) a rooms c (inr u)))
used_in_order code L place (f ∷ fs) a b rooms c (inr u) (inr v) = used_in_order code L f.place fs a b rooms c.1 u v

cells_by : (code : List Instruction) (L : Rooms) (c d : Cell) → AreRooms code L → IsCell code c → IsCell code d → c ≢ d
    → AreOrdered L (cell_home code c) (cell_home code d)
    → AreApart (cell_place L c) (cell_size code c) (cell_place L d) (cell_size code d)
cells_by code L c d rooms u v n (inl e) = rooms.apart c d u v n e
cells_by code L c d rooms u v n (inr (inl h)) =
    let x = rooms.within c u in
    let y = rooms.within d v in
    inl (omega (arith, h, x.1, y.0))
cells_by code L c d rooms u v n (inr (inr h)) =
    let x = rooms.within c u in
    let y = rooms.within d v in
    inr (omega (arith, h, x.0, y.1))

-- what is in use has words of its own
pub cells_apart : (code : List Instruction) (L : Rooms) (place : ℕ) (below : List Call) (c d : Cell) → AreRooms code L
    → AreBehind code L place below → IsCell code c → IsCell code d → IsUsed code place below (cell_home code c)
    → IsUsed code place below (cell_home code d) → c ≢ d
    → AreApart (cell_place L c) (cell_size code c) (cell_place L d) (cell_size code d)
cells_apart code L place below c d rooms b u v s t n =
    cells_by code L c d rooms u v n (used_in_order code L place below (cell_home code c) (cell_home code d) rooms b s t)

-- ---- levels

pub outside_used : (code : List Instruction) (place : ℕ) (below : List Call) (home : ℕ) → home ≡ 0 → IsUsed code place below home
outside_used code place [] home e = inl e
outside_used code place (f ∷ fs) home e = inr (outside_used code f.place fs home e)

pub running_used : (code : List Instruction) (place : ℕ) (below : List Call) (home : ℕ) → home ≡ function_of code place
    → IsUsed code place below home
running_used code place [] home e = inr e
running_used code place (f ∷ fs) home e = inl e

-- the function that runs is that of the greatest level, and the others are those of the calls
pub at_top : (code : List Instruction) (place : ℕ) (below : List Call) → function_at code place below (length below) ≡ function_of code place
at_top code place [] = refl
at_top code place (f ∷ fs) = ap (λ b. cond b (function_of code place) (function_at code f.place fs (suc (length fs)))) (eq-eqb (suc (length fs)) (suc (length fs)) refl)

pub at_call : (code : List Instruction) (place : ℕ) (f : Call) (fs : List Call) (level : ℕ) → level ≤ length fs
    → function_at code place (f ∷ fs) level ≡ function_at code f.place fs level
at_call code place f fs level h =
    ap (λ b. cond b (function_of code place) (function_at code f.place fs level)) (ne_eqb level (suc (length fs)) (λ e. absurd (omega (arith, e))))

level_cases : (level n : ℕ) → level ≤ suc n → (level ≡ suc n) ⊎ (level ≤ n)
level_cases level n h = either (cases_lt level (suc n))
  where
    either : (level < suc n) ⊎ (suc n ≤ level) → (level ≡ suc n) ⊎ (level ≤ n)
    either (inl l) = inr (omega arith)
    either (inr g) = inl (omega arith)

pub level_used : (code : List Instruction) (place : ℕ) (below : List Call) (level home : ℕ) → level ≤ length below
    → home ≡ function_at code place below level → IsUsed code place below home
level_used code place [] level home h e = inr e
level_used code place (f ∷ fs) level home h e =
    either (level_cases level (length fs) h) (λ l. level_used code f.place fs level home l (e ∙ at_call code place f fs level l))
  where
    either : (level ≡ suc (length fs)) ⊎ (level ≤ length fs) → (level ≤ length fs → IsUsed code f.place fs home)
        → IsUsed code place (f ∷ fs) home
    either (inl l) later = inl (e ∙ (ap (function_at code place (f ∷ fs)) l ∙ at_top code place (f ∷ fs)))
    either (inr l) later = inr (later l)

not_top : (code : List Instruction) (L : Rooms) (place : ℕ) (f : Call) (fs : List Call) (level : ℕ) → AreRooms code L
    → AreBehind code L place (f ∷ fs) → level ≤ length fs → function_of code place ≢ function_at code place (f ∷ fs) level
not_top code L place f fs level rooms b h e =
    let home = function_at code f.place fs level in
    let u = callers_before code L place f fs home rooms b (level_used code f.place fs level home h refl) in
    let w = has_words code L (function_of code place) rooms b.0.function in
    let n : L.ends home ≡ L.ends (function_of code place) = sym (ap L.ends (e ∙ at_call code place f fs level h)) in
    absurd (omega (arith, u, w, n))

-- each level has another function
pub level_is : (code : List Instruction) (L : Rooms) (place : ℕ) (below : List Call) (level other : ℕ) → AreRooms code L
    → AreBehind code L place below → level ≤ length below → other ≤ length below
    → function_at code place below level ≡ function_at code place below other → level ≡ other
level_is code L place [] level other rooms b h g e = omega arith
level_is code L place (f ∷ fs) level other rooms b h g e =
    either (level_cases level (length fs) h) (level_cases other (length fs) g) (λ l m.
    level_is code L f.place fs level other rooms b.1 l m (sym (at_call code place f fs level l) ∙ (e ∙ at_call code place f fs other m)))
  where
    top : (n : ℕ) → n ≡ suc (length fs) → function_of code place ≡ function_at code place (f ∷ fs) n
    top n l = sym (ap (function_at code place (f ∷ fs)) l ∙ at_top code place (f ∷ fs))

    either : (level ≡ suc (length fs)) ⊎ (level ≤ length fs) → (other ≡ suc (length fs)) ⊎ (other ≤ length fs)
        → (level ≤ length fs → other ≤ length fs → level ≡ other) → level ≡ other
    either (inl l) (inl m) later = l ∙ sym m
    either (inl l) (inr m) later = absurd (not_top code L place f fs other rooms b m (top level l ∙ e))
    either (inr l) (inl m) later = absurd (not_top code L place f fs level rooms b l (top other m ∙ sym e))
    either (inr l) (inr m) later = later l m
