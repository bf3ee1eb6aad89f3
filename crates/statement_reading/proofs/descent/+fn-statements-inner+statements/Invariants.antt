use Rattle.std.proofs.Common.{◌+◌, ◌*◌}
use Rattle.statement_reading.proofs.descent.+fn-statements-inner+statements.Given as goal

abbrev pub decreases-statements : goal.decreases-statements
decreases-statements l = 2 * l.depth

abbrev pub decreases-inner : goal.decreases-inner
decreases-inner l = 2 * l.less + 1
