-- From the first wrong call to the first fault.
use Rattle.std.proofs.Common.{◌≡◌, ℕ, ◌≤◌, List, length, Some, None, arith}
use Rattle.std.proofs.Math.Logic.{⊎_elim}
use Rattle.spirv_words.specs.declared.images.Instruction.{Instruction}
use Rattle.image_places.specs.Places.{word_of, IsFirst}
use Rattle.image_calls.specs.Calls.{HasWrongCall, IsFirstBad, BadCall}
use Rattle.std.proofs.lemmas.Bool.{cases_lt}

pub first-place : (code : List Instruction) (n place : ℕ) → IsFirstBad (HasWrongCall code) (length code) (Some n) → place ≡ word_of code n →
    ((j k : ℕ) → j ≤ k → word_of code j ≤ word_of code k) → IsFirst (BadCall code) (Some place)
first-place code n place found at grow = (
  record { number = n; within = found.0; place_is = at; is_wrong = found.1 },
  λ before lt bad. ⊎_elim
      (λ less. found.2 bad.number less bad.is_wrong)
      (λ more. absurd (omega (arith, lt, at, bad.place_is, grow n bad.number more)))
      (cases_lt bad.number n),
)

pub no-place : (code : List Instruction) → IsFirstBad (HasWrongCall code) (length code) None → IsFirst (BadCall code) None
no-place code found = λ place bad. found bad.number bad.within bad.is_wrong
