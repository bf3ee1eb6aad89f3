-- The words of a variable of some function are written: it holds another value, and all else is as it was.
use Rattle.std.proofs.Common.{◌≡◌, ◌≢◌, ℕ, zero, suc, ◌+◌, ◌*◌, ◌<◌, ◌≤◌, ◌⊎◌, inl, inr, Bool, true, false, cond, nat_eq, List, [], ◌∷◌, length, Option, refl, sym, ap, subst, ◌∙◌, suc-mul, mul-le-mul_right, arith}
use Rattle.std.specs.Prelude.{nat_lt}
use Rattle.std.proofs.lemmas.Bool.{ltb-true, cases_Bool, eqb-true, eqb-false}
use Rattle.behavior.specs.Values.{Value}
use Rattle.behavior.specs.Meanings.{Ids}
use Rattle.spirv_words.specs.declared.images.Instruction.{Instruction}
use Rattle.spirv_words.specs.Machine.{Shape, Shapes, Nothing, Truths, Words, Repeated, Unbounded, Fields, PointerTo, NoField, Field, Operand}
use Rattle.spirv_words.specs.Step.{Frame as Call, put}
use Rattle.flat_values.specs.Flat.{flat, width, widths}
use Rattle.flat_values.specs.Pieces.{Piece, At, OutOfRange, NoPart, member, piece_of, then_piece, piece}
use Rattle.flat_values.specs.Ranges.{Stands, written}
use Rattle.flat_values.proofs.Standing.{length-written}
use Rattle.image_places.specs.Places.{function_of}
use Rattle.image_facts.specs.Operands.{is_local}
use Rattle.run_rooms.specs.Rooms.{Rooms, AreRooms, Cell, Slot, Room, Frame, Input, IsCell, IsNoRoom, AreApart, cell_place, cell_size, cell_home, home_of, room_size}
use Rattle.run_laws.specs.Laid.{function_at, AreStored}
use Rattle.run_laws.proofs.Counting.{held_count}
use Rattle.run_laws.proofs.Homes.{IsUsed, AreBehind, running, outside_used, running_used, cells_apart, used_before, has_words, level_used, level_is}
use Rattle.run_laws.proofs.Same.{IsAside, same_aside, global_home, seen_used, steady_stays, given_stays, laid_stays, CallsStay, kept_stays}
use Rattle.run_laws.proofs.Writing.{Setup, Holds, Typed, in_function, behind_from}

-- ---- parts lie within the whole

member_within : (fs : Shapes) (i from q : ℕ) (of : Shape) → member fs i from ≡ At q of → (from ≤ q) × (q + width of ≤ from + widths fs)
member_within (Field offset of' rest) zero from q of e =
    let p : from ≡ q = cc in
    let s : of' ≡ of = cc in
    let n = ap width s in
    (omega arith, omega arith)
member_within (Field offset of' rest) (suc i) from q of e =
    let h = member_within rest i (from + width of') q of e in
    let a = h.0 in
    let b = h.1 in
    (omega arith, omega arith)
member_within NoField i from q of e = cc

item_within : (b : Bool) (i n from w q : ℕ) (of' of : Shape) → nat_lt i n ≡ b → w ≡ width of' → cond b (At (from + i * w) of') OutOfRange ≡ At q of
    → (from ≤ q) × (q + width of ≤ from + n * w)
item_within true i n from w q of' of l e g =
    let h = ltb-true i n l in
    let p : from + i * w ≡ q = cc in
    let s : of' ≡ of = cc in
    let k = ap width s in
    let m = mul-le-mul_right w (le_of i n h) in
    let t = suc-mul i w in
    (omega arith, omega arith)
  where
    le_of : (i n : ℕ) → i < n → suc i ≤ n
    le_of i n h = omega arith
item_within false i n from w q of' of l e g = cc

one_within : (s : Shape) (i from q : ℕ) (of : Shape) → piece_of s i from ≡ At q of → (from ≤ q) × (q + width of ≤ from + width s)
one_within (Repeated n stride of') i from q of e = item_within (nat_lt i n) i n from (width of') q of' of refl refl e
one_within (Fields fs) i from q of e = member_within fs i from q of e
one_within Nothing i from q of e = cc
one_within Truths i from q of e = cc
one_within (Words signed) i from q of e = cc
one_within (Unbounded stride of') i from q of e = cc
one_within (PointerTo of') i from q of e = cc

pub piece_within : (s : Shape) (path : List ℕ) (from q : ℕ) (of : Shape) → piece s path from ≡ At q of
    → (from ≤ q) × (q + width of ≤ from + width s)
piece_within s [] from q of e =
    let p : from ≡ q = cc in
    let t : s ≡ of = cc in
    let n = ap width t in
    (omega arith, omega arith)
piece_within s (i ∷ path) from q of e = by (piece_of s i from) refl e (λ p u g. piece_within u path p q of g)
  where
    by : (p : Piece) → piece_of s i from ≡ p → then_piece p (λ place u. piece u path place) ≡ At q of
        → ((p : ℕ) (u : Shape) → piece u path p ≡ At q of → (p ≤ q) × (q + width of ≤ p + width u)) → (from ≤ q) × (q + width of ≤ from + width s)
    by (At p u) h g later =
        let x = one_within s i from p u h in
        let y = later p u g in
        (omega (arith, x.0, y.0), omega (arith, x.1, y.1))
    by OutOfRange h g later = cc
    by NoPart h g later = cc

-- ---- the words of a variable

room_is_not : {x y : ℕ} → x ≢ y → Room x ≢ Room y
room_is_not n e = let m = room_of e in absurd (n m)
  where
    room_of : {x y : ℕ} → Room x ≡ Room y → x ≡ y
    room_of e = cc

narrower : (a n room size place count : ℕ) → room ≤ place → place + count ≤ room + size → AreApart a n room size → AreApart a n place count
narrower a n room size place count h g (inl l) = inl (omega arith)
narrower a n room size place count h g (inr l) = inr (omega arith)

calls_but_rooms : (code : List Instruction) (k x : ℕ) (below : List Call) (Stays : Cell → Type 0)
    → ((c : Cell) → IsCell code c → IsUsed code k below (cell_home code c) → c ≢ Room x → Stays c) → CallsStay code below Stays
calls_but_rooms code k x [] Stays aside = tt
calls_but_rooms code k x (f ∷ fs) Stays aside = λ c cell room used. aside c cell (inr used) (no_room c room)
  where
    no_room : (c : Cell) → IsNoRoom c → c ≢ Room x
    no_room (Slot y) r e = cc
    no_room (Room y) r e = absurd r
    no_room (Frame y) r e = cc
    no_room (Input y) r e = cc

-- what is in use is among all words
pub used_inside : (code : List Instruction) (L : Rooms) (place : ℕ) (below : List Call) (home : ℕ) → AreRooms code L → AreBehind code L place below
    → IsUsed code place below home → L.ends home ≤ L.total
used_inside code L place below home rooms b u = by (used_before code L place below home rooms b u)
  where
    by : (home ≡ function_of code place) ⊎ (L.ends home ≤ L.begins (function_of code place)) → L.ends home ≤ L.total
    by (inl e) = let t = (rooms.behind (function_of code place) (running code L place below b)).1 in omega (arith, t, ap L.ends e)
    by (inr l) =
        let f = running code L place below b in
        let t = (rooms.behind (function_of code place) f).1 in
        let w = has_words code L (function_of code place) rooms f in
        omega (arith, t, w, l)

module _ (code : List Instruction) (L : Rooms) (ids : Ids) (lengths : ℕ → ℕ → ℕ) (counts : List ℕ) (m : Setup code L lengths counts) where
  pub room_written : (k level x place : ℕ) (v : Value) (named : ℕ → Option Operand) (below : List Call) (memory : ℕ → ℕ → Value) (ws xs : List ℕ)
      → Typed code k named below memory → level ≤ length below → is_local code x ≡ true → home_of code x ≡ function_at code k below level
      → L.room x ≤ place → place + length xs ≤ L.room x + room_size code x → Stands (flat v) (L.room x) (written ws place xs)
      → Holds code L ids lengths k named below memory ws
      → Holds code L ids lengths k named below (put memory level x v) (written ws place xs)
  room_written k level x place v named below memory ws xs typed low local home first last there h =
      let f = in_function code k m.known typed.run in
      let b = behind_from code L lengths k below ws m.known f typed.frames h.kept in
      let used = level_used code k below level (home_of code x) low home in
      let inside : place + length xs ≤ length ws =
      omega (arith, (m.rooms.within (Room x) local).1, used_inside code L k below (home_of code x) m.rooms b used, h.steady.all) in
      let same = same_aside code L ws xs place inside in
      let aside : (c : Cell) → IsCell code c → IsUsed code k below (cell_home code c) → c ≢ Room x → IsAside code L place (length xs) c =
      λ c cell u other. narrower (cell_place L c) (cell_size code c) (L.room x) (room_size code x) place (length xs) first last
      (cells_apart code L k below c (Room x) m.rooms b cell local u used other) in
      let count = length-written ws xs place inside in
      record {
        steady =
            steady_stays code L (IsAside code L place (length xs)) ws (written ws place xs) m.known same count (λ y g.
            aside (Slot y) g.value (outside_used code k below (home_of code y) (global_home code y g)) (λ z. cc)) h.steady;
        given =
            given_stays code L ids (IsAside code L place (length xs)) ws (written ws place xs) same (λ i g.
            aside (Input i) g (outside_used code k below 0 refl) (λ z. cc)) h.given;
        laid =
            laid_stays code L lengths k below named (IsAside code L place (length xs)) ws (written ws place xs) m.known same
            (λ y s. aside (Slot y) s.value (seen_used code k y below m.known typed.run s) (λ z. cc)) typed.names h.laid;
        kept =
            kept_stays code L lengths k below (IsAside code L place (length xs)) ws (written ws place xs) m.known m.known same b typed.frames
            (aside (Frame (function_of code k)) f (running_used code k below (function_of code k) refl) (λ z. cc))
            (calls_but_rooms code k x below (IsAside code L place (length xs)) aside) h.kept;
        stored = λ l y n is e.
            either l y (cases_Bool (nat_eq l level)) (cases_Bool (nat_eq y x))
            (λ other. same (Room y) is (aside (Room y) is (level_used code k below l (home_of code y) n e) (room_is_not other))
            (flat (memory l y)) (held_count code memory l y m.known typed.held is) (h.stored l y n is e))
            (λ z. level_is code L k below l level m.rooms b n low (sym e ∙ (ap (home_of code) z ∙ home)));
      }
    where
      into : (l y : ℕ) (w : Value) → put memory level x v l y ≡ w → Stands (flat w) (L.room y) (written ws place xs)
          → Stands (flat (put memory level x v l y)) (L.room y) (written ws place xs)
      into l y w e s = subst (λ (z : Value). Stands (flat z) (L.room y) (written ws place xs)) (sym e) s

      either : (l y : ℕ) → (nat_eq l level ≡ true) ⊎ (nat_eq l level ≡ false) → (nat_eq y x ≡ true) ⊎ (nat_eq y x ≡ false)
          → (y ≢ x → Stands (flat (memory l y)) (L.room y) (written ws place xs)) → (y ≡ x → l ≡ level)
          → Stands (flat (put memory level x v l y)) (L.room y) (written ws place xs)
      either l y (inl s) (inl t) stays same =
          into l y v (ap (λ b. cond b (cond (nat_eq y x) v (memory l y)) (memory l y)) s ∙ ap (λ b. cond b v (memory l y)) t)
          (subst (λ (z : ℕ). Stands (flat v) (L.room z) (written ws place xs)) (sym (eqb-true y x t)) there)
      either l y (inl s) (inr t) stays same =
          into l y (memory l y) (ap (λ b. cond b (cond (nat_eq y x) v (memory l y)) (memory l y)) s ∙ ap (λ b. cond b v (memory l y)) t)
          (stays (eqb-false y x t))
      either l y (inr s) (inl t) stays same = absurd (eqb-false l level s (same (eqb-true y x t)))
      either l y (inr s) (inr t) stays same =
          into l y (memory l y) (ap (λ b. cond b (cond (nat_eq y x) v (memory l y)) (memory l y)) s) (stays (eqb-false y x t))
