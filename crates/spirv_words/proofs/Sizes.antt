-- The sizes of a group: which one is the first that is wrong.
use Rattle.std.proofs.Common.{◌≡◌, ℕ, ◌*◌, Bool, true, false, ◌&&◌, nat_le, Some, None, is_none, refl, ap, ◌∙◌}
use Rattle.std.proofs.Math.Nat.{mul-one}
use Rattle.spirv_words.specs.Layouts.{is_group}
use Rattle.spirv_words.specs.Misfits.{unless, wrong_size}
use Rattle.spirv_words.proofs.Fitting.{group-is}

-- ---- what an answer says of the tests

at_first : (a b c : Bool) → unless a 3 (unless b 4 (unless c 5 None)) ≡ Some 3 → a ≡ false
at_first false b c e = refl
at_first true false c e = cc
at_first true true false e = cc
at_first true true true e = cc

at_second : (a b c : Bool) → unless a 3 (unless b 4 (unless c 5 None)) ≡ Some 4 → (a ≡ true) × (b ≡ false)
at_second false b c e = cc
at_second true false c e = (refl, refl)
at_second true true false e = cc
at_second true true true e = cc

at_third : (a b c : Bool) → unless a 3 (unless b 4 (unless c 5 None)) ≡ Some 5 → (a ≡ true) × (b ≡ true) × (c ≡ false)
at_third false b c e = cc
at_third true false c e = cc
at_third true true false e = (refl, refl, refl)
at_third true true true e = cc

both : (a b : Bool) → (a && b) ≡ true → (a ≡ true) × (b ≡ true)
both true b e = (refl, e)
both false b e = cc

abbrev x_fits : ℕ → Bool
x_fits x = nat_le 1 x && nat_le x 1024

abbrev y_fits : ℕ → ℕ → Bool
y_fits x y = nat_le 1 y && nat_le y 1024 && nat_le (x * y) 1024

abbrev z_fits : ℕ → ℕ → ℕ → Bool
z_fits x y z = nat_le 1 z && nat_le z 64 && nat_le (x * y * z) 1024

sized : (x y z : ℕ) (a b c : Bool) → x_fits x ≡ a → y_fits x y ≡ b → z_fits x y z ≡ c → is_group x y z ≡ is_none (unless a 3 (unless b 4 (unless c 5 None)))
sized x y z a b c e f g =
    group-is x y z ∙ ap (λ t. is_none (unless t 3 (unless (y_fits x y) 4 (unless (z_fits x y z) 5 None)))) e
    ∙ ap (λ t. is_none (unless a 3 (unless t 4 (unless (z_fits x y z) 5 None)))) f
    ∙ ap (λ t. is_none (unless a 3 (unless b 4 (unless t 5 None)))) g

-- a product with a last size of 1
one_more : (n : ℕ) → nat_le n 1024 ≡ true → nat_le (n * 1) 1024 ≡ true
one_more n e = rw (mul-one n) e

-- no group has this first size
pub first_size : (x y z : ℕ) → wrong_size x y z ≡ Some 3 → (b c : ℕ) → is_group x b c ≡ false
first_size x y z e b c = sized x b c false (y_fits x b) (z_fits x b c) (at_first (x_fits x) (y_fits x y) (z_fits x y z) e) refl refl

-- some group has this first size, and none the first two
pub second_size : (x y z : ℕ) → wrong_size x y z ≡ Some 4 → ((b : ℕ) × (c : ℕ) × (is_group x b c ≡ true)) × ((c : ℕ) → is_group x y c ≡ false)
second_size x y z e =
    let tests = at_second (x_fits x) (y_fits x y) (z_fits x y z) e in
    let low : nat_le (x * 1) 1024 ≡ true = one_more x (both (nat_le 1 x) (nat_le x 1024) tests.0).1 in
    ((1, 1, sized x 1 1 true true true tests.0 low (one_more (x * 1) low)), λ c. sized x y c true false (z_fits x y c) tests.0 tests.1 refl)

-- some group has the first two sizes, and none all three
pub third_size : (x y z : ℕ) → wrong_size x y z ≡ Some 5 → ((c : ℕ) × (is_group x y c ≡ true)) × (is_group x y z ≡ false)
third_size x y z e =
    let tests = at_third (x_fits x) (y_fits x y) (z_fits x y z) e in
    let low : nat_le (x * y) 1024 ≡ true = (both (nat_le 1 y && nat_le y 1024) (nat_le (x * y) 1024) tests.1).1 in
    ((1, sized x y 1 true true true tests.0 tests.1 (one_more (x * y) low)), sized x y z true true false tests.0 tests.1 tests.2)
