-- The value of digits.
use Rattle.std.proofs.Common.{◌≡◌, ℕ, zero, suc, ◌+◌, ◌*◌, ◌<◌, ◌≤◌, List, [], ◌∷◌, length, drop, get_or, Some, None, refl, sym, ◌∙◌, ap, arith}
use Rattle.std.proofs.Common.{subst}
use Rattle.std.proofs.lemmas.Bool.Decides.{nat_tests}
use Rattle.slang_tokens.specs.declared.bytes.Radix.{Radix}
use Rattle.slang_tokens.specs.declared.bytes.Radix.TheVariants as radix
use Rattle.slang_tokens.specs.Bytes.{value_from, digit_value, fits, base, value}

-- one more digit
pub value_on : (n v : ℕ) (xs : List ℕ) (i : ℕ) → i < length xs → value_from n v (drop i xs) ≡ value_from n (v * n + digit_value (get_or xs i 0)) (drop (i + 1) xs)
unfolding value_from
value_on n v [] i h = absurd (omega arith)
value_on n v (x ∷ xs) zero h = refl
value_on n v (x ∷ xs) (suc i) h =
    let k : suc i + 1 ≡ suc (i + 1) = omega arith in
    value_on n v xs i (omega arith) ∙ ap (λ m. value_from n (v * n + digit_value (get_or xs i 0)) (drop m (x ∷ xs))) (sym k)

pub value_end : (n v : ℕ) (xs : List ℕ) (i : ℕ) → length xs ≤ i → value_from n v (drop i xs) ≡ v
unfolding value_from
value_end n v [] zero h = refl
value_end n v [] (suc i) h = refl
value_end n v (x ∷ xs) zero h = absurd (omega arith)
value_end n v (x ∷ xs) (suc i) h = value_end n v xs i (omega arith)

at_least : (v m d : ℕ) → v ≤ v * suc m + d
at_least v m d = grind arith

-- digits never make a value smaller
pub value_grows : (m v : ℕ) (xs : List ℕ) → v ≤ value_from (suc m) v xs
unfolding value_from
value_grows m v [] = omega arith
value_grows m v (x ∷ xs) =
    let h = value_grows m (v * suc m + digit_value x) xs in
    let k = at_least v m (digit_value x) in
    omega (arith, h, k)

fits_small : (v : ℕ) → v ≤ 4294967295 → fits v ≡ Some v
fits_small v h = grind (arith, nat_tests)

fits_large : (v : ℕ) → 4294967295 < v → fits v ≡ None
fits_large v h = grind (arith, nat_tests)

grows_by : (radix : Radix) (v : ℕ) (xs : List ℕ) → v ≤ value_from (base radix) v xs
grows_by radix.Decimal v xs = value_grows 9 v xs
grows_by radix.Hexadecimal v xs = value_grows 15 v xs

-- what the program has read of the digits, up to an index
module _ (radix : Radix) (digits : List ℕ) (n v i : ℕ) (same : n ≡ base radix) (so_far : value_from n 0 digits ≡ value_from n v (drop i digits)) where
  whole : value_from (base radix) 0 digits ≡ value_from (base radix) v (drop i digits)
  whole = subst (λ (m : ℕ). value_from m 0 digits ≡ value_from m v (drop i digits)) same so_far

  pub value_large : (d : ℕ) → i < length digits → d ≡ digit_value (get_or digits i 0) → 4294967295 < v * n + d → None ≡ value radix digits
  unfolding value
  value_large d h e l =
      let s : v * n + d ≡ v * base radix + digit_value (get_or digits i 0) = cc in
      let w = value_on (base radix) v digits i h in
      let g = grows_by radix (v * base radix + digit_value (get_or digits i 0)) (drop (i + 1) digits) in
      let k : 4294967295 < value_from (base radix) 0 digits = omega (arith, whole, w, g, s, l) in
      sym (fits_large (value_from (base radix) 0 digits) k)

  pub value_next : (d : ℕ) → i < length digits → d ≡ digit_value (get_or digits i 0) → value_from n 0 digits ≡ value_from n (v * n + d) (drop (i + 1) digits)
  value_next d h e = so_far ∙ (value_on n v digits i h ∙ ap (λ (k : ℕ). value_from n (v * n + k) (drop (i + 1) digits)) (sym e))

  pub value_whole : length digits ≤ i → v ≤ 4294967295 → Some v ≡ value radix digits
  unfolding value
  value_whole h l =
      let e : value_from (base radix) 0 digits ≡ v = whole ∙ value_end (base radix) v digits i h in
      sym (ap fits e ∙ fits_small v l)
