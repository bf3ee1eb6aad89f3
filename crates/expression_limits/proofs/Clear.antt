-- Where no limit is broken.
use Rattle.std.proofs.Common.{Bool, true, false, ◌≡◌, ℕ, zero, ◌≤◌, ◌<◌, List, [], ◌∷◌, ◌++◌, Some, None, refl, arith}
use Rattle.std.specs.Prelude.{nat_le, nat_lt}
use Rattle.std.proofs.lemmas.Bool.Decides.{nat_tests}
use Rattle.slang_names.specs.declared.codes.ModuleCode.{ModuleCode}
use Rattle.slang_names.specs.declared.codes.ModuleCode.TheVariants as code
use Rattle.slang_reading.specs.Lexed.{Lexed}
use Rattle.slang_reading.specs.Reading.{first}
use Rattle.expression_limits.specs.Breaks.{Break, broken, unless, arises}

not_empty : {A : Type 0} (b : Break) (bs : List Break) → b ∷ bs ≡ [] → A
not_empty b bs e = absurd (differ e)
  where
    differ : b ∷ bs ≡ [] → ⊥
    differ e = cc

pub clear_append : (xs ys : List Break) → xs ≡ [] → ys ≡ [] → xs ++ ys ≡ []
clear_append [] ys e f = f
clear_append (x ∷ xs) ys e f = not_empty x xs e

pub clear_left : (xs ys : List Break) → xs ++ ys ≡ [] → xs ≡ []
clear_left [] ys e = refl
clear_left (x ∷ xs) ys e = not_empty x (xs ++ ys) e

pub clear_right : (xs ys : List Break) → xs ++ ys ≡ [] → ys ≡ []
clear_right [] ys e = e
clear_right (x ∷ xs) ys e = not_empty x (xs ++ ys) e

pub clear_first : (bs : List Break) → first bs ≡ None → bs ≡ []
clear_first [] e = refl
clear_first (b ∷ bs) e = absurd (differ e)
  where
    differ : Some b ≡ None → ⊥
    differ e = cc

module _ (ts : List Lexed) where
  clear_by : (test : Bool) (k : ModuleCode) (at : ℕ) → test ≡ true → unless ts test k at ≡ []
  clear_by true k at e = refl
  clear_by false k at e = cc

  holds_by : (test : Bool) (k : ModuleCode) (at : ℕ) → unless ts test k at ≡ [] → test ≡ true
  holds_by true k at e = refl
  holds_by false k at e = not_empty (broken ts k at) [] e

  -- less, and at most, as tests
  pub clear_less : (a b : ℕ) (k : ModuleCode) (at : ℕ) → a < b → unless ts (nat_lt a b) k at ≡ []
  clear_less a b k at h = clear_by (nat_lt a b) k at (grind (arith, nat_tests, h))

  pub less_clear : (a b : ℕ) (k : ModuleCode) (at : ℕ) → unless ts (nat_lt a b) k at ≡ [] → a < b
  less_clear a b k at e = let h = holds_by (nat_lt a b) k at e in grind (arith, nat_tests, h)

  pub clear_most : (a b : ℕ) (k : ModuleCode) (at : ℕ) → a ≤ b → unless ts (nat_le a b) k at ≡ []
  clear_most a b k at h = clear_by (nat_le a b) k at (grind (arith, nat_tests, h))

  pub most_clear : (a b : ℕ) (k : ModuleCode) (at : ℕ) → unless ts (nat_le a b) k at ≡ [] → a ≤ b
  most_clear a b k at e = let h = holds_by (nat_le a b) k at e in grind (arith, nat_tests, h)

  -- with no node left a node is too deep
  pub arises_none : {A : Type 0} (from : ℕ) (bs : List Break) → arises ts from zero ++ bs ≡ [] → A
  arises_none from bs e = not_empty (broken ts code.TooNested from) bs e
