use Rattle.std.proofs.Common.{true, ℕ, zero, suc, refl, ◌≡◌, ◌-◌, ◌<◌, arith}
use Rattle.slang_grammar.specs.Descent.{Limits}
use Rattle.statement_grammar.specs.StatementsDescent.{body, statements, blocks}
use Rattle.type_reading.specs.Limited.{limits_of}
use Rattle.statement_reading.proofs.body.blocks.Goals as goal

-- the number of nodes is not 0
blocks_at : (limits : Limits) (d : ℕ) → 0 < d → blocks limits d ≡ body limits true (d - 1) (statements limits (d - 1))
unfolding blocks
blocks_at limits zero h = absurd (omega arith)
blocks_at limits (suc d) h = let e : suc d - 1 ≡ d = omega arith in rw e refl

pub returns : goal.returns
returns c = rw (blocks_at (limits_of c.args.limits) c.args.depth (omega arith)) c.body.ensures
