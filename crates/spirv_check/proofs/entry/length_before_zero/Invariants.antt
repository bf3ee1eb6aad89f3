use Rattle.std.proofs.Common.{◌≡◌, ◌++◌, take, drop}
use Rattle.spirv_check.specs.Entry.{before_zero}
use Rattle.spirv_check.proofs.entry.length_before_zero.Given as goal

-- the bytes so far are not 0
abbrev pub invariant-loop-i : goal.invariant-loop-i
invariant-loop-i l = before_zero l.bytes ≡ take l.i l.bytes ++ before_zero (drop l.i l.bytes)
