-- The words of a list of instructions, one instruction more at a time.
use Rattle.std.proofs.Common.{◌≡◌, ℕ, zero, suc, ◌<◌, List, [], ◌∷◌, ◌++◌, length, get_or, take, sym, ap, ◌∙◌, arith, append_assoc, append-nil}
use Rattle.spirv_words.specs.declared.images.Instruction.{Instruction}
use Rattle.spirv_words.specs.Words.{instruction_words, body_words, IsInstruction, AreInstructions}

pub is_instruction_at : (is : List Instruction) (k : ℕ) (d : Instruction) → AreInstructions is → k < length is → IsInstruction (get_or is k d)
is_instruction_at [] k d h lt = absurd (omega arith)
is_instruction_at (i ∷ is) zero d h lt = h.0
is_instruction_at (i ∷ is) (suc k) d h lt = is_instruction_at is k d h.1 (omega arith)

pub body_words-one_more : (is : List Instruction) (k : ℕ) (d : Instruction) → k < length is → body_words (take (suc k) is) ≡ body_words (take k is) ++ instruction_words (get_or is k d)
body_words-one_more [] k d lt = absurd (omega arith)
body_words-one_more (i ∷ is) zero d lt = append-nil (instruction_words i)
body_words-one_more (i ∷ is) (suc k) d lt = rw (body_words-one_more is k d (omega arith)) (sym (append_assoc (instruction_words i) (body_words (take k is)) (instruction_words (get_or is k d))))

pub body_words-push : (is : List Instruction) (i : Instruction) → body_words (is ++ i ∷ []) ≡ body_words is ++ instruction_words i
body_words-push [] i = append-nil (instruction_words i)
body_words-push (j ∷ js) i = ap (λ ws. instruction_words j ++ ws) (body_words-push js i) ∙ sym (append_assoc (instruction_words j) (body_words js) (instruction_words i))

pub AreInstructions-push : (is : List Instruction) (i : Instruction) → AreInstructions is → IsInstruction i → AreInstructions (is ++ i ∷ [])
AreInstructions-push [] i are one = (one, tt)
AreInstructions-push (j ∷ js) i are one = (are.0, AreInstructions-push js i are.1 one)
