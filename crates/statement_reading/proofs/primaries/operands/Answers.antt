use Rattle.std.proofs.Common.{ℕ, zero, suc, refl, ◌≡◌, ◌-◌, ◌<◌, arith}
use Rattle.slang_grammar.specs.Descent.{Limits}
use Rattle.slang_grammar.specs.ExpressionsDescent.{leveled, postfix}
use Rattle.statement_grammar.specs.StatementsDescent.{operands}
use Rattle.type_reading.specs.Limited.{limits_of}
use Rattle.statement_reading.proofs.primaries.operands.Goals as goal

-- the number of nodes is not 0
operands_at : (limits : Limits) (d : ℕ) → 0 < d → operands limits d ≡ postfix limits (d - 1) (leveled limits (d - 1))
unfolding operands
operands_at limits zero h = absurd (omega arith)
operands_at limits (suc d) h = let e : suc d - 1 ≡ d = omega arith in rw e refl

pub returns : goal.returns
returns c = rw (operands_at (limits_of c.args.limits) c.args.depth (omega arith)) c.postfix.ensures.reads
