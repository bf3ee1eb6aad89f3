-- Numbers with the byte behind them.
use Rattle.std.proofs.Common.{◌≡◌, ℕ, ◌+◌, ◌-◌, ◌*◌, ◌/◌, ◌%◌, ◌<◌, ◌≤◌, ◌^◌, Option, cond, Bool, take, drop, List, [], ◌∷◌, ◌++◌, length, get_or, refl, sym, ap, subst, ◌∙◌, arith, inl, inr}
use Rattle.std.specs.Fmt.{decimal}
use Rattle.std.proofs.lemmas.Bool.{cases_lt, cases_eq, eq-eqb, ne_eqb}
use Rattle.std.proofs.lemmas.Fmt.{decimal_step, decimal_digit}
use Rattle.std.proofs.lemmas.List.{append_assoc, append-nil, take-append-drop, length-drop, length-append, drop_more, take_all}
use Rattle.run_buffers.specs.declared.fields.Separator.{Separator}
use Rattle.run_buffers.specs.declared.fields.Separator.TheVariants.{Space, LineFeed, BehindCount}
use Rattle.run_buffers.specs.Parts.{Begins, behind, field, IsWithin, shown, Stops}
use Rattle.run_buffers.proofs.Decimals.{IsDigit, Digits, decimal_digits, decimal_some, begun_by_zero, reaches_from_begins, none_above}

-- where the digits end is where they end
pub same_digits : (xs ys : List ℕ) (a b : ℕ) (u v : List ℕ) → Digits xs → Digits ys → (IsDigit a → ⊥) → (IsDigit b → ⊥) → xs ++ a ∷ u ≡ ys ++ b ∷ v → (xs ≡ ys) × (a ≡ b) × (u ≡ v)
same_digits [] [] a b u v p q na nb e = (refl, cc, cc)
same_digits [] (y ∷ ys) a b u v p q na nb e = absurd (na (let h : y ≡ a = cc in subst IsDigit h q.0))
same_digits (x ∷ xs) [] a b u v p q na nb e = absurd (nb (let h : x ≡ b = cc in subst IsDigit h p.0))
same_digits (x ∷ xs) (y ∷ ys) a b u v p q na nb e =
    let h : x ≡ y = cc in
    let t : xs ++ a ∷ u ≡ ys ++ b ∷ v = cc in
    let r = same_digits xs ys a b u v p.1 q.1 na nb t in
    (ap (λ (z : ℕ). z ∷ xs) h ∙ ap (λ (zs : List ℕ). y ∷ zs) r.0, r.1, r.2)

-- digits at the front are among those before the byte that is none
pub within_digits : (ds x es : List ℕ) (a : ℕ) (t : List ℕ) → Digits ds → (IsDigit a → ⊥) → ds ++ x ≡ es ++ a ∷ t → (more : List ℕ) × (es ≡ ds ++ more)
within_digits [] x es a t p na e = (es, refl)
within_digits (d ∷ ds) x [] a t p na e = absurd (na (let h : d ≡ a = cc in subst IsDigit h p.0))
within_digits (d ∷ ds) x (y ∷ es) a t p na e =
    let h : d ≡ y = cc in
    let k : ds ++ x ≡ es ++ a ∷ t = cc in
    let r = within_digits ds x es a t p.1 na k in
    (r.0, ap (λ (z : ℕ). z ∷ es) (sym h) ∙ ap (λ (zs : List ℕ). d ∷ zs) r.1)

pub no_digit_behind : (s : Separator) (n : ℕ) → IsDigit (behind s n) → ⊥
no_digit_behind Space n h = omega arith
no_digit_behind LineFeed n h = omega arith
no_digit_behind BehindCount n h = elim (cases_eq n 0) [
  | inl e ↦ let b : behind BehindCount n ≡ 10 = ap (λ (t : Bool). cond t 10 32) (eq-eqb n 0 e) in omega arith
  | inr ne ↦ let b : behind BehindCount n ≡ 32 = ap (λ (t : Bool). cond t 10 32) (ne_eqb n 0 ne) in omega arith
]

-- ---- one more digit

pub longer_decimal : (v d : ℕ) → 0 < v → v < 2 ^ 32 → d ≤ 9 → decimal (10 * v + d) ≡ decimal v ++ (48 + d) ∷ []
longer_decimal v d pos h le =
    let s = decimal_step (10 * v + d) (omega arith) (omega arith) in
    let q : (10 * v + d) / 10 ≡ v = omega arith in
    let r : (10 * v + d) % 10 ≡ d = omega arith in
    s ∙ (ap (λ (k : ℕ). decimal k ++ (48 + (10 * v + d) % 10) ∷ []) q ∙ ap (λ (k : ℕ). decimal v ++ (48 + k) ∷ []) r)

-- a number of the range that begins with these digits
pub begun : (s : Separator) (low high w : ℕ) (front : List ℕ) (other : ℕ) (tail : List ℕ) → w < 2 ^ 64 → decimal w ≡ front → IsWithin low high other → field s other ≡ front ++ tail → Begins low high (decimal w)
begun s low high w front other tail h e within f =
    let g : decimal w ++ tail ≡ decimal other ++ behind s other ∷ [] = ap (λ (ds : List ℕ). ds ++ tail) e ∙ sym f in
    let r = within_digits (decimal w) tail (decimal other) (behind s other) [] (decimal_digits w h) (no_digit_behind s other) g in
    record { number = other; more = r.0; low_le = within.0; le_high = within.1; is = r.1 }

-- behind 0 no digit stands
pub alone : (s : Separator) (high other b : ℕ) (tail : List ℕ) → IsDigit b → other ≤ high → high < 2 ^ 32 → field s other ≡ decimal 0 ++ b ∷ tail → ⊥
alone s high other b tail digit le h e =
    let z = decimal_digit 0 (omega arith) in
    let g : (48 ∷ b ∷ []) ++ tail ≡ decimal other ++ behind s other ∷ [] = ap (λ (ds : List ℕ). ds ++ b ∷ tail) (sym z) ∙ sym e in
    let nine : IsDigit 48 = (omega arith, omega arith) in
    let r = within_digits (48 ∷ b ∷ []) tail (decimal other) (behind s other) [] (nine, (digit, tt)) (no_digit_behind s other) g in
    let zero_is = begun_by_zero other (b ∷ r.0) (omega arith) r.1 in
    let two : 48 ∷ [] ≡ 48 ∷ b ∷ r.0 = sym z ∙ (ap decimal (sym zero_is) ∙ r.1) in
    absurd cc

-- ---- a byte that is no digit

digits_before : (xs ys : List ℕ) → Digits (xs ++ ys) → Digits xs
digits_before [] ys h = tt
digits_before (x ∷ xs) ys h = (h.0, digits_before xs ys h.1)

pub shown_digits : (value : Option ℕ) (low high : ℕ) → high < 2 ^ 32 → Begins low high (shown value) → Digits (shown value)
shown_digits value low high h b = digits_before (shown value) b.more (subst Digits b.is (decimal_digits b.number (let l = b.le_high in omega arith)))

-- the number that ends before a byte that is no digit is the one of the digits before
pub ended : (s : Separator) (front : List ℕ) (other b : ℕ) (tail : List ℕ) → Digits front → (IsDigit b → ⊥) → other < 2 ^ 32 → field s other ≡ front ++ b ∷ tail → (decimal other ≡ front) × (behind s other ≡ b)
ended s front other b tail ds nb h e =
    let r = same_digits (decimal other) front (behind s other) b [] tail (decimal_digits other (omega arith)) ds (no_digit_behind s other) nb e in
    (r.0, r.1)

pub not_empty : (n : ℕ) → n < 2 ^ 32 → decimal n ≡ [] → ⊥
not_empty n h e = let l = decimal_some n (omega arith) in let k = ap length e in omega arith

pub begun_below : (v low high : ℕ) → v < 2 ^ 32 → high < 2 ^ 32 → Begins low high (decimal v) → v ≤ high
begun_below v low high hv h b =
    let r = reaches_from_begins v low high (omega arith) h b in
    elim (cases_lt high v) [ inl lt ↦ absurd (none_above v (v + 1) low high lt r) | inr le ↦ le ]

-- ---- where reading a number stops

begins_more : (s : Separator) (low high : ℕ) (front : List ℕ) (b : Begins low high front) → field s b.number ≡ front ++ (b.more ++ behind s b.number ∷ [])
begins_more s low high front b = ap (λ (ds : List ℕ). ds ++ behind s b.number ∷ []) b.is ∙ append_assoc front b.more (behind s b.number ∷ [])

pub stops_at : (s : Separator) (low high : ℕ) (bytes : List ℕ) (i : ℕ) (value : Option ℕ) (d : ℕ) → i < length bytes → shown value ≡ take i bytes → Begins low high (shown value)
    → ((other : ℕ) (tail : List ℕ) → IsWithin low high other → field s other ≡ shown value ++ get_or bytes i d ∷ tail → ⊥)
    → Stops (field s) (IsWithin low high) bytes (length bytes - i)
stops_at s low high bytes i value d lt front b none = record {
  front = shown value;
  back = drop i bytes;
  parts = sym (take-append-drop i bytes) ∙ ap (λ (ds : List ℕ). ds ++ drop i bytes) (sym front);
  left_is = sym (length-drop i bytes);
  value = b.number;
  more = b.more ++ behind s b.number ∷ [];
  can = (b.low_le, b.le_high);
  begins = begins_more s low high (shown value) b;
  proper = let l = length-append b.more (behind s b.number ∷ []) in omega arith;
  wrong = λ c rest other tail e within f. let m = drop_more bytes i d lt in let same : c ≡ get_or bytes i d = cc in none other tail within (f ∙ ap (λ (z : ℕ). shown value ++ z ∷ tail) same);
}

pub stops_short : (s : Separator) (low high : ℕ) (bytes : List ℕ) (i : ℕ) (value : Option ℕ) → length bytes ≤ i → shown value ≡ take i bytes → Begins low high (shown value)
    → Stops (field s) (IsWithin low high) bytes 0
stops_short s low high bytes i value le front b = record {
  front = shown value;
  back = [];
  parts = sym (append-nil (shown value) ∙ (front ∙ take_all i bytes le));
  left_is = refl;
  value = b.number;
  more = b.more ++ behind s b.number ∷ [];
  can = (b.low_le, b.le_high);
  begins = begins_more s low high (shown value) b;
  proper = let l = length-append b.more (behind s b.number ∷ []) in omega arith;
  wrong = λ c rest other tail e within f. absurd cc;
}
