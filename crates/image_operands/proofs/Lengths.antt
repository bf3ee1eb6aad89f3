-- Lists that are compared by their lengths.
use Rattle.std.proofs.Common.{◌≡◌, ◌≢◌, ℕ, ◌&&◌, Bool, false, true, List, [], ◌∷◌, length, ◌∙◌, ap, refl, arith}
use Rattle.spirv_words.specs.declared.images.Instruction.{Instruction}
use Rattle.image_declarations.specs.Holdings.{has_type}
use Rattle.image_operands.specs.Composites.{are_members}

and-false : (b : Bool) → (b && false) ≡ false
and-false true = refl
and-false false = refl

pub are_members-lengths : (code : List Instruction) (ts vs : List ℕ) → length ts ≢ length vs → are_members code ts vs ≡ false
are_members-lengths code [] [] h = absurd (h refl)
are_members-lengths code [] (v ∷ vs) h = refl
are_members-lengths code (t ∷ ts) [] h = refl
are_members-lengths code (t ∷ ts) (v ∷ vs) h =
    ap (λ b. has_type code v t && b) (are_members-lengths code ts vs (λ e. h (omega arith))) ∙ and-false (has_type code v t)
