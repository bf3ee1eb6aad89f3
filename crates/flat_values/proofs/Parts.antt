-- The parts of a value stand where its shape says.
use Rattle.std.proofs.Common.{◌≡◌, ℕ, zero, suc, ◌+◌, ◌*◌, ◌<◌, ◌≤◌, ◌⊎◌, inl, inr, cond, List, [], ◌∷◌, ◌++◌, length, refl, sym, ap, subst, ◌∙◌, zero-mul, suc-mul, arith}
use Rattle.std.proofs.lemmas.Bool.{cases_lt, lt-ltb, le-ltb}
use Rattle.behavior.specs.Values.{Value, Values, Truth, Word, Whole, NoMore, Then, Way, Found, Outside, Wrong, nth, and_then, part_of, part}
use Rattle.spirv_words.specs.Machine.{Shape, Shapes, Truths, Words, Repeated, Fields, NoField, Field}
use Rattle.flat_values.specs.Flat.{flat, flats, width, IsOf, AllOf, FieldsOf}
use Rattle.flat_values.specs.Ranges.{Stands}
use Rattle.flat_values.specs.Pieces.{Piece, At, OutOfRange, NoPart, member, piece_of, then_piece, piece, IsPart}
use Rattle.flat_values.proofs.Standing.{stands_first, stands_rest}
use Rattle.flat_values.proofs.Counts.{count}

-- ---- paths

then_then : (p : Piece) (f g : ℕ → Shape → Piece)
    → then_piece (then_piece p f) g ≡ then_piece p (λ place of. then_piece (f place of) g)
then_then (At place of) f g = refl
then_then OutOfRange f g = refl
then_then NoPart f g = refl

then_same : (p : Piece) (f g : ℕ → Shape → Piece) → ((place : ℕ) (of : Shape) → f place of ≡ g place of)
    → then_piece p f ≡ then_piece p g
then_same (At place of) f g h = h place of
then_same OutOfRange f g h = refl
then_same NoPart f g h = refl

pub composed : (s : Shape) (path more : List ℕ) (from : ℕ)
    → piece s (path ++ more) from ≡ then_piece (piece s path from) (λ place of. piece of more place)
composed s [] more from = refl
composed s (i ∷ path) more from =
    then_same (piece_of s i from) (λ place of. piece of (path ++ more) place)
    (λ place of. then_piece (piece of path place) (λ place' of'. piece of' more place'))
    (λ place of. composed of path more place)
    ∙ sym (then_then (piece_of s i from) (λ place of. piece of path place) (λ place of. piece of more place))

-- ---- one part

pub nth_past : (vs : Values) (n : ℕ) (of : Shape) (i : ℕ) → AllOf vs n of → n ≤ i → nth vs i ≡ Outside
nth_past NoMore n of i h l = refl
nth_past (Then v vs) (suc n) of (suc i) h l = nth_past vs n of i h.1 (omega arith)
nth_past (Then v vs) (suc n) of zero h l = absurd (omega arith)
nth_past (Then v vs) zero of i h l = absurd h

pub nth_within : (vs : Values) (n : ℕ) (of : Shape) (i from : ℕ) (ws : List ℕ) → AllOf vs n of → Stands (flats vs) from ws
    → i < n → IsPart (nth vs i) (At (from + i * width of) of) ws
nth_within (Then v vs) (suc n) of zero from ws h s l =
    let e : from ≡ from + 0 * width of = omega (arith, zero-mul (width of)) in
    (h.0, subst (λ p. Stands (flat v) p ws) e (stands_first (flat v) (flats vs) from ws s))
nth_within (Then v vs) (suc n) of (suc i) from ws h s l =
    let e : from + length (flat v) + i * width of ≡ from + suc i * width of = omega (arith, suc-mul i (width of), count v of h.0) in
    let m : i < n = omega arith in
    subst (λ p. IsPart (nth vs i) (At p of) ws) e
    (nth_within vs n of i (from + length (flat v)) ws h.1 (stands_rest (flat v) (flats vs) from ws s) m)
nth_within (Then v vs) zero of i from ws h s l = absurd h
nth_within NoMore zero of i from ws h s l = absurd (omega arith)
nth_within NoMore (suc n) of i from ws h s l = absurd h

pub nth_item : (vs : Values) (n stride : ℕ) (of : Shape) (i from : ℕ) (ws : List ℕ) → AllOf vs n of → Stands (flats vs) from ws
    → IsPart (nth vs i) (piece_of (Repeated n stride of) i from) ws
nth_item vs n stride of i from ws h s = either (cases_lt i n)
  where
    either : (i < n) ⊎ (n ≤ i) → IsPart (nth vs i) (piece_of (Repeated n stride of) i from) ws
    either (inl l) =
        let e : At (from + i * width of) of ≡ piece_of (Repeated n stride of) i from =
        ap (λ b. cond b (At (from + i * width of) of) OutOfRange) (sym (lt-ltb i n l)) in
        subst (λ p. IsPart (nth vs i) p ws) e (nth_within vs n of i from ws h s l)
    either (inr l) =
        let e : OutOfRange ≡ piece_of (Repeated n stride of) i from =
        ap (λ b. cond b (At (from + i * width of) of) OutOfRange) (sym (le-ltb i n l)) in
        subst (λ p. IsPart (nth vs i) p ws) e (subst (λ w. IsPart w OutOfRange ws) (sym (nth_past vs n of i h l)) tt)

pub nth_member : (vs : Values) (fs : Shapes) (i from : ℕ) (ws : List ℕ) → FieldsOf vs fs → Stands (flats vs) from ws
    → IsPart (nth vs i) (member fs i from) ws
nth_member NoMore NoField i from ws h s = tt
nth_member (Then v vs) (Field offset of rest) zero from ws h s = (h.0, stands_first (flat v) (flats vs) from ws s)
nth_member (Then v vs) (Field offset of rest) (suc i) from ws h s =
    let e : from + length (flat v) ≡ from + width of = omega (arith, count v of h.0) in
    subst (λ p. IsPart (nth vs i) (member rest i p) ws) e
    (nth_member vs rest i (from + length (flat v)) ws h.1 (stands_rest (flat v) (flats vs) from ws s))
nth_member NoMore (Field offset of rest) i from ws h s = absurd h
nth_member (Then v vs) NoField i from ws h s = absurd h

pub one_part : (v : Value) (s : Shape) (i from : ℕ) (ws : List ℕ) → IsOf v s → Stands (flat v) from ws
    → IsPart (part_of v i) (piece_of s i from) ws
one_part (Truth b) Truths i from ws h s = tt
one_part (Word w) (Words signed) i from ws h s = tt
one_part (Whole vs) (Repeated n stride of) i from ws h s = nth_item vs n stride of i from ws h s
one_part (Whole vs) (Fields fs) i from ws h s = nth_member vs fs i from ws h s
one_part v shape i from ws h s = absurd h

-- ---- a path

then_part : (way : Way) (p : Piece) (ws : List ℕ) (go : Value → Way) (on : ℕ → Shape → Piece) → IsPart way p ws
    → ((w : Value) (place : ℕ) (of : Shape) → IsOf w of → Stands (flat w) place ws → IsPart (go w) (on place of) ws)
    → IsPart (and_then way go) (then_piece p on) ws
then_part (Found w) (At place of) ws go on h k = k w place of h.0 h.1
then_part Outside OutOfRange ws go on h k = tt
then_part Wrong NoPart ws go on h k = tt
then_part way p ws go on h k = absurd h

pub part_stands : (v : Value) (s : Shape) (path : List ℕ) (from : ℕ) (ws : List ℕ) → IsOf v s → Stands (flat v) from ws
    → IsPart (part v path) (piece s path from) ws
part_stands v s [] from ws h t = (h, t)
part_stands v s (i ∷ path) from ws h t =
    then_part (part_of v i) (piece_of s i from) ws (λ w. part w path) (λ place of. piece of path place) (one_part v s i from ws h t)
    (λ w place of g u. part_stands w of path place ws g u)
