-- Later instructions begin at later words.
use Rattle.std.proofs.Common.{◌≡◌, ℕ, zero, suc, ◌+◌, ◌≤◌, List, [], ◌∷◌, ◌++◌, length, take, Some, slice_get, subst, arith, length-append}
use Rattle.std.proofs.lemmas.Grind.{common_steps}
use Rattle.spirv_words.specs.declared.images.Instruction.{Instruction}
use Rattle.spirv_words.specs.Words.{instruction_words, body_words}

-- an instruction takes its first word and its operands
one_more : (x : Instruction) (ws : List ℕ) → length (instruction_words x ++ ws) ≡ suc (length x.operands) + length ws
one_more x ws = omega (arith, length-append x.operands ws)

pub next : (is : List Instruction) (k : ℕ) (i : Instruction) → slice_get is k ≡ Some i
    → length (body_words (take (suc k) is)) ≡ length (body_words (take k is)) + suc (length i.operands)
next [] k i e = cc
next (x ∷ xs) zero i e =
    let same : x ≡ i = cc in
    subst (λ (y : Instruction). length (body_words (take 1 (x ∷ xs))) ≡ 0 + suc (length y.operands)) same (omega (arith, one_more x []))
next (x ∷ xs) (suc k) i e =
    omega (arith, next xs k i e, one_more x (body_words (take (suc k) xs)), one_more x (body_words (take k xs)))

pub grow : (is : List Instruction) (j k : ℕ) → j ≤ k → length (body_words (take j is)) ≤ length (body_words (take k is))
grow [] zero k e = omega arith
grow [] (suc j) zero e = omega arith
grow [] (suc j) (suc k) e = omega arith
grow (x ∷ xs) zero k e = omega arith
grow (x ∷ xs) (suc j) zero e = absurd (omega arith)
grow (x ∷ xs) (suc j) (suc k) e =
    let inner : j ≤ k = omega arith in
    omega (arith, grow xs j k inner, one_more x (body_words (take j xs)), one_more x (body_words (take k xs)))

pub end : (is : List Instruction) → take (length is) is ≡ is
end is = grind (arith, common_steps)
