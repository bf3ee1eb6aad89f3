use Rattle.ahead_reading.specs.Knowing.{TellsAll}
use Rattle.ahead_reading.proofs.Growth.{less_within, told_next, count_next}
use Rattle.ahead_reading.proofs.scans.Scans.new.Goals as goal
use Rattle.std.proofs.Common.{arith}

pub loop-at-preserved : goal.loop-at-preserved
loop-at-preserved c = record {
  knows = λ text. c.in_ok-scan_behind_name.ensures.knows text (c.loop-at.invariant.knows text);
  count = count_next c.args.tokens.now c.loop-at.at c.loop-at.scans c.scan_behind_name.new.scans c.loop-at.invariant.count c.in_ok-scan_behind_name.ensures.fills;
  told = told_next c.args.tokens.now c.loop-at.at c.loop-at.scans c.scan_behind_name.new.scans c.loop-at.invariant.count c.in_ok-scan_behind_name.ensures.fills c.loop-at.invariant.told;
}

pub returns-clause-all : goal.returns-clause-all
unfolding TellsAll
returns-clause-all c = λ at n e. c.loop-at.invariant.told at (let h = less_within c.args.tokens.now _ e in omega (arith, h, c.loop-at-test.false)) n e
