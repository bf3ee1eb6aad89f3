use Rattle.std.proofs.Common.{◌≡◌, drop}
use Rattle.spirv_check.specs.Entry.{first_operands}
use Rattle.spirv_check.proofs.entry.first_operands.Given as goal

-- no instruction so far has the opcode
abbrev pub invariant-loop-instruction : goal.invariant-loop-instruction
invariant-loop-instruction l = first_operands l.op l.instructions ≡ first_operands l.op (drop l.instruction-index l.instructions)
