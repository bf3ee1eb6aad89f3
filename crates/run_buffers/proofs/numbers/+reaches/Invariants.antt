use Rattle.std.proofs.Common.{◌+◌, ◌-◌}
use Rattle.run_buffers.proofs.numbers.+reaches.Given as goal

-- how far the first number may still grow
abbrev pub decreases-reaches : goal.decreases-reaches
decreases-reaches l = l.high + 1 - l.first
