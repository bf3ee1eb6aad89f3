use Rattle.std.proofs.Common.{true, ℕ, zero, suc, refl, ◌≡◌, ◌-◌, ◌<◌, arith}
use Rattle.slang_grammar.specs.Descent.{Limits}
use Rattle.statement_grammar.specs.StatementsDescent.{stat, statements}
use Rattle.type_reading.specs.Limited.{limits_of}
use Rattle.statement_reading.proofs.descent.+fn-statements-inner+statements.Goals as goal

-- the number of nodes is not 0
statements_at : (limits : Limits) (d : ℕ) → 0 < d → statements limits d ≡ stat limits true (d - 1) (statements limits (d - 1))
unfolding statements
statements_at limits zero h = absurd (omega arith)
statements_at limits (suc d) h = let e : suc d - 1 ≡ d = omega arith in rw e refl

pub returns : goal.returns
returns t c = rw (statements_at (limits_of c.args.limits) c.args.depth (omega arith)) c.stat.ensures
