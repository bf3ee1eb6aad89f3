use Rattle.std.proofs.Common.{◌+◌, ◌*◌}
use Rattle.expression_reading.proofs.descent.+fn-leveled-inner+leveled.Given as goal

abbrev pub decreases-leveled : goal.decreases-leveled
decreases-leveled l = 2 * l.depth

abbrev pub decreases-inner : goal.decreases-inner
decreases-inner l = 2 * l.less + 1
