use Rattle.std.proofs.Common.{◌≡◌, length}
use Rattle.type_lines.specs.Asked.{attribute_named}
use Rattle.type_lines.proofs.asked.attribute_named.Given as goal

abbrev pub invariant-loop-first : goal.invariant-loop-first
invariant-loop-first l = attribute_named l.name l.attributes ≡ attribute_named l.name l.left

abbrev pub decreases-loop-first : goal.decreases-loop-first
decreases-loop-first l = length l.left
