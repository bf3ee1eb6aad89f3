-- A value with another part: where it stands, that part's words are written.
use Rattle.std.proofs.Common.{◌≡◌, ℕ, zero, suc, ◌+◌, ◌*◌, ◌<◌, ◌≤◌, ◌⊎◌, inl, inr, Bool, true, false, cond, List, [], ◌∷◌, length, refl, sym, ap, subst, zero-mul, suc-mul, mul-le-mul_right, arith}
use Rattle.std.specs.Prelude.{nat_lt}
use Rattle.std.proofs.lemmas.Bool.{ltb-true}
use Rattle.behavior.specs.Values.{Value, Values, Truth, Word, Whole, NoMore, Then, Way, Found, Outside, Wrong, set_nth, and_then, part_of, put_part_of, put_part}
use Rattle.spirv_words.specs.Machine.{Shape, Shapes, Truths, Words, Repeated, Fields, NoField, Field}
use Rattle.flat_values.specs.Flat.{flat, flats, width, widths, IsOf, AllOf, FieldsOf}
use Rattle.flat_values.specs.Ranges.{Stands, written}
use Rattle.flat_values.specs.Pieces.{Piece, At, OutOfRange, NoPart, member, piece_of, then_piece, piece, IsPart, IsReplaced}
use Rattle.flat_values.proofs.Standing.{stands_first, stands_rest, stands_both, written_there, written_apart}
use Rattle.flat_values.proofs.Counts.{count}
use Rattle.flat_values.proofs.Parts.{one_part}

-- ws' is ws but for what lies from `low` up to `high`
pub record SameApart (low high : ℕ) (ws ws' : List ℕ) : Type 0 where
  pub stays : (ys : List ℕ) (other : ℕ) → Stands ys other ws → (other + length ys ≤ low) ⊎ (high ≤ other) → Stands ys other ws'

wider : (low high low' high' : ℕ) (ws ws' : List ℕ) → SameApart low high ws ws' → low' ≤ low → high ≤ high' → SameApart low' high' ws ws'
wider low high low' high' ws ws' s l h = record { stays = λ ys other t o. s.stays ys other t (closer ys other o) }
  where
    closer : (ys : List ℕ) (other : ℕ) → (other + length ys ≤ low') ⊎ (high' ≤ other) → (other + length ys ≤ low) ⊎ (high ≤ other)
    closer ys other (inl a) = inl (omega arith)
    closer ys other (inr b) = inr (omega arith)

-- ---- one part

-- a value of the shape stands here, and only what lies within it has changed
pub record Stood (v : Value) (s : Shape) (from : ℕ) (ws ws' : List ℕ) : Type 0 where
  pub is_of : IsOf v s
  pub stands : Stands (flat v) from ws'
  pub apart : SameApart from (from + width s) ws ws'

set_item : (vs : Values) (n : ℕ) (of : Shape) (i : ℕ) (w : Value) (from place : ℕ) (ws ws' : List ℕ) → AllOf vs n of
    → Stands (flats vs) from ws → i < n → place ≡ from + i * width of → Stood w of place ws ws'
    → AllOf (set_nth vs i w) n of × Stands (flats (set_nth vs i w)) from ws'
set_item (Then v vs) (suc n) of zero w from place ws ws' h s l e t =
    let p : place ≡ from = omega (arith, zero-mul (width of)) in
    let a = count v of h.0 in
    let b = count w of t.is_of in
    let c : from + length (flat v) ≡ from + length (flat w) = omega arith in
    let rest = t.apart.stays (flats vs) (from + length (flat v)) (stands_rest (flat v) (flats vs) from ws s) (inr (omega arith)) in (
      (t.is_of, h.1),
      stands_both (flat w) (flats vs) from ws' (subst (λ q. Stands (flat w) q ws') p t.stands)
          (subst (λ q. Stands (flats vs) q ws') c rest),
    )
set_item (Then v vs) (suc n) of (suc i) w from place ws ws' h s l e t =
    let a = count v of h.0 in
    let m = suc-mul i (width of) in
    let e' : place ≡ from + length (flat v) + i * width of = omega arith in
    let first = t.apart.stays (flat v) from (stands_first (flat v) (flats vs) from ws s) (inl (omega arith)) in
    let more = set_item vs n of i w (from + length (flat v)) place ws ws' h.1 (stands_rest (flat v) (flats vs) from ws s) (omega arith) e' t in
    ((h.0, more.0), stands_both (flat v) (flats (set_nth vs i w)) from ws' first more.1)
set_item (Then v vs) zero of i w from place ws ws' h s l e t = absurd h
set_item NoMore zero of i w from place ws ws' h s l e t = absurd (omega arith)
set_item NoMore (suc n) of i w from place ws ws' h s l e t = absurd h

same_place : {p q : ℕ} {s t : Shape} → At p s ≡ At q t → p ≡ q
same_place e = cc

same_shape : {p q : ℕ} {s t : Shape} → At p s ≡ At q t → s ≡ t
same_shape e = cc

set_member : (vs : Values) (fs : Shapes) (of : Shape) (i : ℕ) (w : Value) (from place : ℕ) (ws ws' : List ℕ) → FieldsOf vs fs
    → Stands (flats vs) from ws → member fs i from ≡ At place of → Stood w of place ws ws'
    → FieldsOf (set_nth vs i w) fs × Stands (flats (set_nth vs i w)) from ws' × (from ≤ place) × (place + width of ≤ from + widths fs)
set_member (Then v vs) (Field offset of' rest) of zero w from place ws ws' h s e t =
    let p = same_place e in
    let q = same_shape e in
    let k = ap width q in
    let is : IsOf w of' = subst (λ x. IsOf w x) (sym q) t.is_of in
    let a = count v of' h.0 in
    let b = count w of' is in
    let c : from + length (flat v) ≡ from + length (flat w) = omega arith in
    let more = t.apart.stays (flats vs) (from + length (flat v)) (stands_rest (flat v) (flats vs) from ws s) (inr (omega arith)) in (
      (is, h.1),
      stands_both (flat w) (flats vs) from ws' (subst (λ x. Stands (flat w) x ws') (sym p) t.stands)
          (subst (λ x. Stands (flats vs) x ws') c more),
      omega arith,
      omega arith,
    )
set_member (Then v vs) (Field offset of' rest) of (suc i) w from place ws ws' h s e t =
    let a = count v of' h.0 in
    let c : from + length (flat v) ≡ from + width of' = omega arith in
    let later = subst (λ x. Stands (flats vs) x ws) c (stands_rest (flat v) (flats vs) from ws s) in
    let more = set_member vs rest of i w (from + width of') place ws ws' h.1 later e t in
    let low = more.2 in
    let high = more.3 in
    let first = t.apart.stays (flat v) from (stands_first (flat v) (flats vs) from ws s) (inl (omega arith)) in (
      (h.0, more.0),
      stands_both (flat v) (flats (set_nth vs i w)) from ws' first
          (subst (λ x. Stands (flats (set_nth vs i w)) x ws') (sym c) more.1),
      omega arith,
      omega arith,
    )
set_member NoMore NoField of i w from place ws ws' h s e t = cc
set_member NoMore (Field offset of' rest) of i w from place ws ws' h s e t = absurd h
set_member (Then v vs) NoField of i w from place ws ws' h s e t = absurd h

-- an index that leads to a place is within the count
item_is : (n : ℕ) (of of' : Shape) (i from place : ℕ) (b : Bool) → nat_lt i n ≡ b
    → cond b (At (from + i * width of) of) OutOfRange ≡ At place of' → (i < n) × (from + i * width of ≡ place) × (of ≡ of')
item_is n of of' i from place true b e = (ltb-true i n b, same_place e, same_shape e)
item_is n of of' i from place false b e = cc

set_part : (v : Value) (s of : Shape) (i : ℕ) (w : Value) (from place : ℕ) (ws ws' : List ℕ) → IsOf v s → Stands (flat v) from ws
    → piece_of s i from ≡ At place of → Stood w of place ws ws' → Stood (put_part_of v i w) s from ws ws'
set_part (Whole vs) (Repeated n stride of') of i w from place ws ws' h s e t =
    let at = item_is n of' of i from place (nat_lt i n) refl e in
    let p = at.1 in
    let k = ap width at.2 in
    let l = at.0 in
    let t' : Stood w of' place ws ws' = subst (λ x. Stood w x place ws ws') (sym at.2) t in
    let both = set_item vs n of' i w from place ws ws' h s l (sym p) t' in
    let m : suc i * width of' ≤ n * width of' = mul-le-mul_right (width of') (omega arith) in
    let m' = suc-mul i (width of') in
    record {
      is_of = both.0;
      stands = both.1;
      apart = wider place (place + width of') from (from + n * width of') ws ws' t'.apart (omega arith) (omega arith);
    }
set_part (Whole vs) (Fields fs) of i w from place ws ws' h s e t =
    let all = set_member vs fs of i w from place ws ws' h s e t in
    let low = all.2 in
    let high = all.3 in
    record {
      is_of = all.0;
      stands = all.1;
      apart = wider place (place + width of) from (from + widths fs) ws ws' t.apart low high;
    }
set_part (Truth b) Truths of i w from place ws ws' h s e t = cc
set_part (Word x) (Words signed) of i w from place ws ws' h s e t = cc
set_part v shape of i w from place ws ws' h s e t = absurd h

-- ---- a path

abbrev IsPut : Way → Piece → Value → Shape → ℕ → List ℕ → Type 0
IsPut (Found w) (At place of) new s from ws = IsOf new of → Stood w s from ws (written ws place (flat new))
IsPut Outside OutOfRange new s from ws = Unit {0}
IsPut Wrong NoPart new s from ws = Unit {0}
IsPut way p new s from ws = ⊥

then_put : (v : Value) (s of : Shape) (i from place : ℕ) (way : Way) (p : Piece) (new : Value) (ws : List ℕ) → IsOf v s
    → Stands (flat v) from ws → piece_of s i from ≡ At place of → IsPut way p new of place ws
    → IsPut (and_then way (λ w. Found (put_part_of v i w))) p new s from ws
then_put v s of i from place (Found w) (At q t) new ws h st e put =
    λ is. set_part v s of i w from place ws (written ws q (flat new)) h st e (put is)
then_put v s of i from place Outside OutOfRange new ws h st e put = tt
then_put v s of i from place Wrong NoPart new ws h st e put = tt
then_put v s of i from place way p new ws h st e put = absurd put

at_part : (v : Value) (s : Shape) (i from : ℕ) (way : Way) (p : Piece) (new : Value) (ws : List ℕ) (go : Value → Way)
    (on : ℕ → Shape → Piece) → IsOf v s → Stands (flat v) from ws → piece_of s i from ≡ p → IsPart way p ws
    → ((w : Value) (place : ℕ) (of : Shape) → IsOf w of → Stands (flat w) place ws → IsPut (go w) (on place of) new of place ws)
    → IsPut (and_then way (λ old. and_then (go old) (λ w. Found (put_part_of v i w)))) (then_piece p on) new s from ws
at_part v s i from (Found old) (At place of) new ws go on h st e is k =
    then_put v s of i from place (go old) (on place of) new ws h st e (k old place of is.0 is.1)
at_part v s i from Outside OutOfRange new ws go on h st e is k = tt
at_part v s i from Wrong NoPart new ws go on h st e is k = tt
at_part v s i from way p new ws go on h st e is k = absurd is

put_is : (v new : Value) (s : Shape) (path : List ℕ) (from : ℕ) (ws : List ℕ) → IsOf v s → Stands (flat v) from ws
    → IsPut (put_part v path new) (piece s path from) new s from ws
put_is v new s [] from ws h st = λ is.
    let a = count v s h in
    let b = count new s is in
    let i = st.inside in
    let inside : from + length (flat new) ≤ length ws = omega arith in
    record {
      is_of = is;
      stands = written_there ws (flat new) from inside;
      apart = record { stays = λ ys other t o. written_apart ws (flat new) ys from other inside t (nearer ys other b o) };
    }
  where
    nearer : (ys : List ℕ) (other : ℕ) → length (flat new) ≡ width s → (other + length ys ≤ from) ⊎ (from + width s ≤ other)
        → (other + length ys ≤ from) ⊎ (from + length (flat new) ≤ other)
    nearer ys other b (inl l) = inl l
    nearer ys other b (inr l) = inr (omega arith)
put_is v new s (i ∷ path) from ws h st =
    at_part v s i from (part_of v i) (piece_of s i from) new ws (λ old. put_part old path new) (λ place of. piece of path place) h st
    refl (one_part v s i from ws h st) (λ w place of g u. put_is w new of path place ws g u)

replaced : (way : Way) (p : Piece) (new : Value) (s : Shape) (from : ℕ) (ws : List ℕ) → IsPut way p new s from ws
    → IsReplaced way p new s from ws
replaced (Found w) (At place of) new s from ws h = λ is. let t = h is in (t.is_of, t.stands)
replaced Outside OutOfRange new s from ws h = tt
replaced Wrong NoPart new s from ws h = tt
replaced way p new s from ws h = absurd h

pub put_part_stands : (v new : Value) (s : Shape) (path : List ℕ) (from : ℕ) (ws : List ℕ) → IsOf v s → Stands (flat v) from ws
    → IsReplaced (put_part v path new) (piece s path from) new s from ws
put_part_stands v new s path from ws h st =
    replaced (put_part v path new) (piece s path from) new s from ws (put_is v new s path from ws h st)
