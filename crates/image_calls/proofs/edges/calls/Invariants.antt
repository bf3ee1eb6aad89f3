use Rattle.std.proofs.Common.{◌≡◌, ◌++◌, None, drop}
use Rattle.image_calls.specs.Edges.{calls}
use Rattle.image_calls.proofs.edges.calls.Given as goal

-- the calls so far, and those to come
abbrev pub invariant-loop-instruction : goal.invariant-loop-instruction
invariant-loop-instruction l = l.edges.items ++ calls l.inside (drop l.instruction-index l.code) ≡ calls None l.code
