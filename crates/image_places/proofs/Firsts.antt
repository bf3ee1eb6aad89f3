-- The first fault stands at the first instruction at which something is wrong.
use Rattle.std.proofs.Common.{◌≡◌, ℕ, ◌<◌, ◌≤◌, Bool, false, IsTrue, List, length, Some, None, inl, inr, refl, arith}
use Rattle.std.proofs.lemmas.Bool.{cases_lt}
use Rattle.spirv_words.specs.declared.images.Instruction.{Instruction}
use Rattle.image_places.specs.Places.{word_of, IsFirst, FaultAt}
use Rattle.image_places.proofs.Growing.{grow}

-- a test is not both true and false
clash : (b : Bool) → IsTrue b → b ≡ false → ⊥
clash b t f = cc

pub some_fault : (is : List Instruction) (wrong : ℕ → Bool) (k : ℕ) → k ≤ length is → IsTrue (wrong k)
    → ((j : ℕ) → j < k → wrong j ≡ false) → IsFirst (FaultAt is wrong) (Some (word_of is k))
some_fault is wrong k within here before = (
  record { number = k; within = within; place_is = refl; is_wrong = here },
  λ q less at.
      let earlier : at.number < k = elim (cases_lt at.number k) [ inl l ↦ l | inr g ↦ absurd (omega (arith, grow is k at.number g, at.place_is)) ] in
      clash (wrong at.number) at.is_wrong (before at.number earlier),
)

pub no_fault : (is : List Instruction) (wrong : ℕ → Bool) → ((j : ℕ) → j ≤ length is → wrong j ≡ false) → IsFirst (FaultAt is wrong) None
no_fault is wrong none place at = clash (wrong at.number) at.is_wrong (none at.number at.within)
