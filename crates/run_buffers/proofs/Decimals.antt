-- Numbers in decimal: which begin with the digits of another.
use Rattle.std.proofs.Common.{◌≡◌, ℕ, zero, suc, ◌+◌, ◌*◌, ◌/◌, ◌%◌, ◌<◌, ◌≤◌, ◌^◌, List, [], ◌∷◌, ◌++◌, length, map, get_or, sym, ap, subst, ◌∙◌, arith, inl, inr}
use Rattle.std.specs.Int.Digits.{number_from_digits_after, number_from_digits}
use Rattle.std.specs.Char.{digit_value}
use Rattle.std.specs.Str.Parse.{AllDigits, digits_value}
use Rattle.std.specs.Fmt.{decimal}
use Rattle.std.proofs.lemmas.Bool.{cases_lt}
use Rattle.std.proofs.lemmas.Fmt.{decimal_is_IsNumeral, decimal_step, decimal_digit, first_decimal}
use Rattle.std.proofs.lemmas.Str.Parse.{digit_from_value}
use Rattle.std.proofs.lemmas.Int.Digits.{number_after_append, number_after_lt, digits_value_is, all_below_base_from_digits}
use Rattle.std.proofs.lemmas.List.{map-append, append-nil, append_assoc}
use Rattle.std.proofs.Math.Nat.{pow-succ', mul-le-mul_right, mul-le-mul_left}
use Rattle.run_buffers.specs.Parts.{Begins, Reaches}

abbrev pub IsDigit : ℕ → Type 0
IsDigit b = (48 ≤ b) × (b ≤ 57)

abbrev pub Digits : List ℕ → Type 0
Digits [] = Unit {0}
Digits (b ∷ bs) = IsDigit b × Digits bs

from_all_digits : (ds : List ℕ) → AllDigits 10 ds → Digits ds
from_all_digits [] h = tt
from_all_digits (d ∷ ds) h = let r = digit_from_value d h.0 in (r, from_all_digits ds h.1)

pub decimal_digits : (n : ℕ) → n < 2 ^ 64 → Digits (decimal n)
decimal_digits n h = from_all_digits (decimal n) (decimal_is_IsNumeral n h).0.1

pub decimal_some : (n : ℕ) → n < 2 ^ 64 → 0 < length (decimal n)
decimal_some n h = (decimal_is_IsNumeral n h).0.0

-- ---- what begins with the digits of a number is not far from it, times a power of ten

all_digits_behind : (ds es : List ℕ) → AllDigits 10 (ds ++ es) → AllDigits 10 es
all_digits_behind [] es h = h
all_digits_behind (d ∷ ds) es h = all_digits_behind ds es h.1

low_after : (v : ℕ) (ds : List ℕ) → v * 10 ^ length ds ≤ number_from_digits_after 10 v ds
low_after v [] = omega arith
low_after v (d ∷ ds) =
    let i = low_after (v * 10 + d) ds in
    let m = mul-le-mul_right {m = v * 10} {n = v * 10 + d} (10 ^ length ds) (omega arith) in
    let p = pow-succ' 10 (length ds) in
    rw p (omega (arith, i, m))

value_behind : (v : ℕ) (more : List ℕ) → v < 2 ^ 64 → digits_value 10 (decimal v ++ more) ≡ number_from_digits_after 10 v (map digit_value more)
value_behind v more h =
    let w = (decimal_is_IsNumeral v h).1 in
    digits_value_is 10 (decimal v ++ more)
    ∙ (ap (number_from_digits 10) (map-append digit_value (decimal v) more)
    ∙ (number_after_append 10 0 (map digit_value (decimal v)) (map digit_value more)
    ∙ ap (λ (k : ℕ). number_from_digits_after 10 k (map digit_value more)) (sym (digits_value_is 10 (decimal v)) ∙ w)))

pub reaches_from_begins : (v low high : ℕ) → v < 2 ^ 64 → high < 2 ^ 32 → Begins low high (decimal v) → Reaches v (v + 1) low high
reaches_from_begins v low high hv hh b =
    let small : b.number < 2 ^ 64 = let l = b.le_high in omega arith in
    let d = decimal_is_IsNumeral b.number small in
    let all = subst (AllDigits 10) b.is d.0.1 in
    let behind = all_below_base_from_digits 10 b.more (all_digits_behind (decimal v) b.more all) in
    let worth : b.number ≡ number_from_digits_after 10 v (map digit_value b.more) = sym d.1 ∙ (ap (digits_value 10) b.is ∙ value_behind v b.more hv) in
    let up = number_after_lt 10 v (map digit_value b.more) behind in
    let down = low_after v (map digit_value b.more) in
    (length (map digit_value b.more), let l = b.le_high in omega arith, let l = b.low_le in omega arith)

some_power : (k : ℕ) → 0 < 10 ^ k
some_power zero = omega arith
some_power (suc k) = let p = pow-succ' 10 k in let i = some_power k in rw p (omega arith)

begins_by : (k v n : ℕ) → 0 < v → v * 10 ^ k ≤ n → n < (v + 1) * 10 ^ k → n < 2 ^ 64 → (more : List ℕ) × (decimal n ≡ decimal v ++ more)
begins_by zero v n pos lo hi h =
    let e : n ≡ v = omega arith in
    ([], ap decimal e ∙ sym (append-nil (decimal v)))
begins_by (suc k) v n pos lo hi h =
    let p = pow-succ' 10 k in
    let lo2 : v * (10 * 10 ^ k) ≤ n = subst (λ (q : ℕ). v * q ≤ n) p lo in
    let hi2 : n < (v + 1) * (10 * 10 ^ k) = subst (λ (q : ℕ). n < (v + 1) * q) p hi in
    let one = mul-le-mul_right {m = 1} {n = v} (10 * 10 ^ k) (omega arith) in
    let r = begins_by k v (n / 10) pos (omega arith) (omega arith) (omega arith) in
    let ten : 10 ≤ n = let w = some_power k in omega arith in
    let s = decimal_step n ten h in
    (r.0 ++ (48 + n % 10) ∷ [], s ∙ (ap (λ (ds : List ℕ). ds ++ (48 + n % 10) ∷ []) r.1 ∙ append_assoc (decimal v) r.0 ((48 + n % 10) ∷ [])))

-- ---- the numbers whose digits begin so

begins_with : (low high v n : ℕ) → (more : List ℕ) × (decimal n ≡ decimal v ++ more) → low ≤ n → n ≤ high → Begins low high (decimal v)
begins_with low high v n m a b = record { number = n; more = m.0; low_le = a; le_high = b; is = m.1 }

pub begins_from_reaches : (v low high : ℕ) → 0 < v → low ≤ high → high < 2 ^ 32 → Reaches v (v + 1) low high → Begins low high (decimal v)
begins_from_reaches v low high pos le hh r =
    elim (cases_lt low (v * 10 ^ r.0)) [
      | inl lt ↦ begins_with low high v (v * 10 ^ r.0) (begins_by r.0 v (v * 10 ^ r.0) pos (omega arith) (let w = some_power r.0 in omega arith) (let p = r.1 in omega arith)) (omega arith) (r.1)
      | inr ge ↦ begins_with low high v low (begins_by r.0 v low pos ge (r.2) (omega arith)) (omega arith) le
    ]

pub reaches_more : (first past low high : ℕ) → past ≤ low → Reaches (first * 10) (past * 10) low high → Reaches first past low high
reaches_more first past low high h r =
    let p = pow-succ' 10 r.0 in
    let a = r.1 in
    let b = r.2 in
    (suc r.0, rw p (omega arith), rw p (omega arith))

pub reaches_less : (first past low high : ℕ) → past ≤ low → Reaches first past low high → Reaches (first * 10) (past * 10) low high
reaches_less first past low high h (zero, a, b) = absurd (omega arith)
reaches_less first past low high h (suc k, a, b) =
    let p = pow-succ' 10 k in
    let a2 = rw p at a in
    let b2 = rw p at b in
    (k, omega arith, omega arith)

pub none_above : (first past low high : ℕ) → high < first → Reaches first past low high → ⊥
none_above first past low high h r =
    let w = some_power r.0 in
    let m = mul-le-mul_left {m = 1} {n = 10 ^ r.0} first w in
    let a = r.1 in
    omega arith

pub reaches_now : (first past low high : ℕ) → first ≤ high → low < past → Reaches first past low high
reaches_now first past low high a b = (0, omega arith, omega arith)

-- zero begins itself alone
pub begins_zero : (low high : ℕ) → low ≡ 0 → Begins low high (decimal 0)
begins_zero low high e = record { number = 0; more = []; low_le = omega arith; le_high = omega arith; is = sym (append-nil (decimal 0)) }

pub begun_by_zero : (n : ℕ) (more : List ℕ) → n < 2 ^ 64 → decimal n ≡ 48 ∷ more → n ≡ 0
begun_by_zero n more h e = elim (cases_lt 0 n) [
  | inl lt ↦ absurd (let f = first_decimal n lt h in let g = ap (λ (ds : List ℕ). get_or ds 0 0) e in omega arith)
  | inr le ↦ omega arith
]

pub zero_from_begins : (low high : ℕ) → high < 2 ^ 32 → Begins low high (decimal 0) → low ≡ 0
zero_from_begins low high hh b =
    let z = begun_by_zero b.number b.more (let l = b.le_high in omega arith) (b.is ∙ ap (λ (ds : List ℕ). ds ++ b.more) (decimal_digit 0 (omega arith))) in
    let l = b.low_le in
    omega arith
