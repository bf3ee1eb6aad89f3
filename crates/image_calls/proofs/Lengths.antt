-- Lists that are compared by their lengths.
use Rattle.std.proofs.Common.{◌≡◌, ◌≢◌, ℕ, ◌&&◌, Bool, false, true, List, [], ◌∷◌, length, ◌∙◌, ap, refl, arith}
use Rattle.spirv_words.specs.declared.images.Instruction.{Instruction}
use Rattle.image_calls.specs.Arguments.{is_argument, are_arguments}

and-false : (b : Bool) → (b && false) ≡ false
and-false true = refl
and-false false = refl

pub are_arguments-lengths : (code : List Instruction) (ts vs : List ℕ) → length ts ≢ length vs → are_arguments code ts vs ≡ false
are_arguments-lengths code [] [] h = absurd (h refl)
are_arguments-lengths code [] (v ∷ vs) h = refl
are_arguments-lengths code (t ∷ ts) [] h = refl
are_arguments-lengths code (t ∷ ts) (v ∷ vs) h =
    ap (λ b. is_argument code t v && b) (are_arguments-lengths code ts vs (λ e. h (omega arith)))
    ∙ and-false (is_argument code t v)
