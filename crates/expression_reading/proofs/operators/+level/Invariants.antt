use Rattle.expression_reading.proofs.operators.+level.Given as goal

abbrev pub decreases-level : goal.decreases-level
decreases-level g l = l.rank
