-- What the digits of a word say.
use Rattle.std.proofs.Common.{◌≡◌, ◌≢◌, ℕ, ◌<◌, ◌≤◌, ◌^◌, Bool, true, false, ◌&&◌, ◌||◌, ◌==◌, not, cond, nat_le, List, [], ◌∷◌, length, get_or, slice_index, Option, Some, None, Result, Ok, Err, refl, sym, ap, ◌∙◌, subst, arith, rules, leb-true, ◌⊎◌, suc, zero, inl, inr, ⊎_elim, ◌+◌}
use Rattle.std.specs.Fmt.{decimal}
use Rattle.std.specs.List.{list_all}
use Rattle.std.specs.Str.Parse.{digits_value, ParsesUnsigned}
use Rattle.std.specs.Result.{OkIff}
use Rattle.std.proofs.lemmas.Str.Parse.{IsDigitsTest, IsNumeralModel, numerals_by_value, parse_digits}
use Rattle.std.proofs.lemmas.Fmt.{decimal-digits_value, digits_decimal, digits_value-decimal, decimal_nonempty, first_decimal, decimal_digit}
use Rattle.std.proofs.lemmas.Bool.Decides.{nat_tests}
use Rattle.slang_names.specs.Letters.{is_digit}
use Rattle.command_words.specs.Words.{is_number, up_to, number_within}

abbrev pub AreDigits : List ℕ → Type 0
AreDigits ds = list_all is_digit ds ≡ true

tells : IsDigitsTest AreDigits
tells = search rules

pub own : IsNumeralModel AreDigits (digits_value 10)
own = numerals_by_value AreDigits tells

both : (a b : Bool) → (a && b) ≡ true → (a ≡ true) × (b ≡ true)
both true b e = (refl, e)
both false b e = absurd (let x : false ≡ true = e in cc)

pub record IsPlain (word : List ℕ) : Type 0 where
  pub digits : AreDigits word
  pub some : 0 < length word
  pub first : get_or word 0 0 ≡ 48 → length word ≡ 1

first_digit : (word : List ℕ) → (nat_le (length word) 1 || not (slice_index word 0 == 48)) ≡ true → 0 < length word → get_or word 0 0 ≡ 48 → length word ≡ 1
first_digit [] e l h = absurd (omega arith)
first_digit (b ∷ []) e l h = refl
first_digit (b ∷ c ∷ bs) e l h = grind (arith, nat_tests)

pub plain : (word : List ℕ) → is_number word ≡ true → IsPlain word
plain word e =
    let p = both (list_all is_digit word && nat_le 1 (length word)) _ e in
    let q = both (list_all is_digit word) (nat_le 1 (length word)) p.0 in
    let l : 0 < length word = leb-true 1 (length word) q.1 in
    record { digits = q.0; some = l; first = first_digit word p.1 l }

too_large : (limit v : ℕ) → ((v ≤ limit) → ⊥) → None ≡ up_to limit v
too_large limit v small = grind (arith, nat_tests)

-- a number that was read, and one that is too large to be
pub read_is : {E : Type 0} (limit n : ℕ) (word : List ℕ) (r : Result ℕ E) → is_number word ≡ true → ParsesUnsigned 64 10 word r → r ≡ Ok n → up_to limit n ≡ number_within limit word
read_is limit n word r is h ok =
    let e = rw ok at (parse_digits own 64 word r h (plain word is).digits) in
    rw (is, ← e.1) refl

pub unread_is : {E : Type 0} (limit : ℕ) (word : List ℕ) (r : Result ℕ E) (fault : E) → limit < 2 ^ 64 → is_number word ≡ true → ParsesUnsigned 64 10 word r → r ≡ Err fault → None ≡ number_within limit word
unread_is limit word r fault low is h err =
    let e = rw err at (parse_digits own 64 word r h (plain word is).digits) in
    rw is (too_large limit (digits_value 10 word) (λ le. e ((plain word is).some, omega arith)))

some_if : {A : Type 0} (b : Bool) (x : Option A) (y : A) → cond b x None ≡ Some y → (b ≡ true) × (x ≡ Some y)
some_if true x y e = (refl, e)
some_if false x y e = absurd cc

all_three : (a b c : Bool) → a ≡ true → b ≡ true → c ≡ true → (a && b && c) ≡ true
all_three a b c p q r = rw (p, q, r) refl

starts : (w : List ℕ) → ((length w ≡ 1) ⊎ (48 < get_or w 0 0)) → (nat_le (length w) 1 || not (slice_index w 0 == 48)) ≡ true
starts [] h = refl
starts (b ∷ bs) h = ⊎_elim (λ one. grind (arith, nat_tests)) (λ high. grind (arith, nat_tests)) h

first_of : (n : ℕ) → n < 2 ^ 64 → (length (decimal n) ≡ 1) ⊎ (48 < get_or (decimal n) 0 0)
first_of zero h = inl (ap length (decimal_digit 0 (omega arith)))
first_of (suc n) h = inr (first_decimal (suc n) (omega arith) h)

some_bytes : (w : List ℕ) → 0 < length w → nat_le 1 (length w) ≡ true
some_bytes w h = grind (arith, nat_tests)

pub decimal_is_number : (n : ℕ) → n < 2 ^ 64 → is_number (decimal n) ≡ true
decimal_is_number n h =
    all_three _ _ _ (digits_decimal own n h) (some_bytes (decimal n) (decimal_nonempty n h)) (starts (decimal n) (first_of n h))

within_is : (limit n : ℕ) → n ≤ limit → up_to limit n ≡ Some n
within_is limit n h = grind (arith, nat_tests)

pub number_is_decimal : (limit n : ℕ) (word : List ℕ) → limit < 2 ^ 64 → number_within limit word ≡ Some n → (word ≡ decimal n) × (n ≤ limit)
number_is_decimal limit n word h e =
    let p = some_if (is_number word) (up_to limit (digits_value 10 word)) n e in
    let q = some_if (nat_le (digits_value 10 word) limit) (Some (digits_value 10 word)) n p.1 in
    let le : digits_value 10 word ≤ limit = leb-true (digits_value 10 word) limit q.0 in
    let same : digits_value 10 word ≡ n = (let s = q.1 in cc) in
    let w = plain word p.0 in
    let d = decimal-digits_value own word w.digits w.some w.first (omega arith) in
    (sym d ∙ ap decimal same, omega arith)

pub decimal_is_within : (limit n : ℕ) (word : List ℕ) → limit < 2 ^ 64 → word ≡ decimal n → n ≤ limit → number_within limit word ≡ Some n
decimal_is_within limit n word h e le =
    let low : n < 2 ^ 64 = omega arith in
    rw (e, decimal_is_number n low, digits_value-decimal own n low) (within_is limit n le)
