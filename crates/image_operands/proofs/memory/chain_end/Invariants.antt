use Rattle.std.proofs.Common.{◌≡◌, drop}
use Rattle.image_operands.specs.Memory.{chain_end}
use Rattle.image_operands.proofs.memory.chain_end.Given as goal

abbrev pub invariant-loop-index : goal.invariant-loop-index
invariant-loop-index l = chain_end l.image l.at (drop l.index-index l.indices) ≡ chain_end l.image l.type_id l.indices
