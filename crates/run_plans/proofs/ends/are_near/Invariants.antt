use Rattle.std.proofs.Common.{◌≡◌, ◌<◌, ℕ, true, Some, slice_get}
use Rattle.spirv_words.specs.declared.images.Instruction.{Instruction}
use Rattle.run_plans.specs.Grounds.{is_near}
use Rattle.run_plans.proofs.ends.are_near.Given as goal

abbrev pub invariant-loop-instruction : goal.invariant-loop-instruction
invariant-loop-instruction l =
    (k : ℕ) (i : Instruction) → k < l.instruction-index → slice_get l.declarations k ≡ Some i → is_near l.declarations i.operands ≡ true
