use Rattle.std.proofs.Common.{◌≡◌, ◌+◌, drop}
use Rattle.slang_tokens.specs.Bytes as spec
use Rattle.slang_tokens.proofs.bytes.run.Given as goal

abbrev pub invariant-loop-i : goal.invariant-loop-i
invariant-loop-i l = spec.run (spec.is_in l.set) l.bytes ≡ l.i + spec.run (spec.is_in l.set) (drop l.i l.bytes)
