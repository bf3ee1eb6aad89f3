-- From the first wrong instruction to the first fault.
use Rattle.std.proofs.Common.{◌≡◌, ◌∙◌, ℕ, ◌≤◌, length, List, false, None, ap, arith}
use Rattle.std.proofs.lemmas.Option.{slice_get_past}
use Rattle.std.proofs.lemmas.Bool.{cases_eq}
use Rattle.std.proofs.Math.Logic.{⊎_elim}
use Rattle.spirv_words.specs.declared.images.Instruction.{Instruction}
use Rattle.spirv_words.specs.Machine.{if_some}
use Rattle.image_types.specs.Checking.{has_wrong_types, is_wrong, IsFirstWrong}

-- behind the last instruction nothing is wrong
end-right : (code : List Instruction) → has_wrong_types code (length code) ≡ false
unfolding has_wrong_types
end-right code = ap (λ o. if_some o false (is_wrong code (length code))) (slice_get_past code (length code) (omega arith))

pub all-right : (code : List Instruction) → IsFirstWrong (has_wrong_types code) (length code) None → (j : ℕ) → j ≤ length code → has_wrong_types code j ≡ false
all-right code h j le =
    ⊎_elim
    (λ same. ap (has_wrong_types code) same ∙ end-right code)
    (λ apart. h j (omega arith))
    (cases_eq j (length code))
