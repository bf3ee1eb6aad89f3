use Rattle.std.proofs.Common.{◌≡◌, ◌<◌, ℕ, length, false, Some, slice_get}
use Rattle.spirv_words.specs.declared.images.Instruction.{Instruction}
use Rattle.image_places.specs.Places.{cursor_at}
use Rattle.image_rules.specs.Ids.{is_wrong_in}
use Rattle.image_rules.proofs.ids.first_id_fault.Given as goal

-- where the walk is, and that no operand before it is a wrong id
abbrev pub invariant-loop-instruction : goal.invariant-loop-instruction
invariant-loop-instruction l = record {
  cursor_is : l.cursor ≡ cursor_at l.image.instructions l.instruction-index;
  before : (k : ℕ) → k < l.instruction-index → (i : Instruction) → slice_get l.image.instructions k ≡ Some i
      → (j : ℕ) → j < length i.operands → is_wrong_in l.image i k j ≡ false;
}
