use Rattle.std.proofs.Common.{◌≡◌, length}
use Rattle.module_scope.specs.Sees.{local_named}
use Rattle.module_scope.proofs.names.local_named.Given as goal

abbrev pub invariant-loop-block : goal.invariant-loop-block
invariant-loop-block l = local_named l.name l.blocks ≡ local_named l.name l.left

abbrev pub decreases-loop-block : goal.decreases-loop-block
decreases-loop-block l = length l.left
