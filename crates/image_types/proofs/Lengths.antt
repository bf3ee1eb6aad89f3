-- The Offsets of a struct's members, counted.
use Rattle.std.proofs.Common.{◌≡◌, ℕ, zero, suc, ◌<◌, Bool, false, true, ◌&&◌, List, is_some, sym, ◌∙◌, ap, refl, arith}
use Rattle.std.proofs.lemmas.Bool.{cases_eq}
use Rattle.std.proofs.Math.Logic.{⊎_elim}
use Rattle.spirv_words.specs.declared.images.Instruction.{Instruction}
use Rattle.image_declarations.specs.Decorations.{member_mark}
use Rattle.image_types.specs.Parts.{have_offsets}

and-false : (b : Bool) → (b && false) ≡ false
and-false true = refl
and-false false = refl

pub have_offsets-lacks : (code : List Instruction) (id count n : ℕ) → n < count → is_some (member_mark code 0 id n) ≡ false → have_offsets code id count ≡ false
have_offsets-lacks code id zero n h e = absurd (omega arith)
have_offsets-lacks code id (suc count) n h e =
    ⊎_elim
    (λ same. ap (λ m. have_offsets code id count && is_some (member_mark code 0 id m)) (sym same) ∙ ap (λ b. have_offsets code id count && b) e ∙ and-false (have_offsets code id count))
    (λ apart. ap (λ b. b && is_some (member_mark code 0 id count)) (have_offsets-lacks code id count n (omega arith) e))
    (cases_eq n count)
