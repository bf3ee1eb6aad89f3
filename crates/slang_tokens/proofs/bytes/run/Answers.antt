use Rattle.std.proofs.Common.{sym, arith}
use Rattle.slang_tokens.specs.Bytes.{is_in}
use Rattle.slang_tokens.proofs.Runs.{run_stop, run_go, run_end}
use Rattle.slang_tokens.proofs.bytes.run.Goals as goal

pub returns-then-not-is_in-clause-value : goal.returns-then-not-is_in-clause-value
returns-then-not-is_in-clause-value c = let e = run_stop (is_in c.args.set) c.args.bytes.now c.loop-i.i (omega arith) (sym c.if-not-is_in.ensures) in omega (arith, e, c.loop-i.invariant)

pub loop-i-preserved : goal.loop-i-preserved
loop-i-preserved c = let e = run_go (is_in c.args.set) c.args.bytes.now c.loop-i.i (omega arith) (sym c.if-not-is_in.ensures) in omega (arith, e, c.loop-i.invariant)

pub returns-clause-value : goal.returns-clause-value
returns-clause-value c = let e = run_end (is_in c.args.set) c.args.bytes.now c.loop-i.i (omega arith) in omega (arith, e, c.loop-i.invariant)
