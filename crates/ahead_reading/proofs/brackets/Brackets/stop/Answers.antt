use Rattle.ahead_reading.proofs.OpenBrackets.{stop_told, next_stops}
use Rattle.ahead_reading.proofs.Growth.{grows_twice, remains, remains_popped}
use Rattle.ahead_reading.proofs.brackets.Brackets.stop.Goals as goal

pub loop-bracket-init : goal.loop-bracket-init
loop-bracket-init c = record {
  knows = λ ts h k. (c.tell.ensures.knows ts k (stop_told ts c.args.far c.args.self.top h.0), h.1);
  grows = c.tell.ensures.grows;
  told = remains c.tell.new.scans c.args.self.top c.args.self.under c.tell.ensures.told;
}

pub loop-bracket-preserved : goal.loop-bracket-preserved
loop-bracket-preserved c = record {
  knows = λ ts h k.
      let i = c.loop-bracket.invariant.knows ts h k in
      let a = next_stops ts c.args.far c.loop-bracket.under c.pop.new.self c.in-Some.bracket c.in-Some.ensures i.1 in
      (c.tell-in-Some.ensures.knows ts i.0 (stop_told ts c.args.far c.in-Some.bracket a.0), a.1);
  grows = grows_twice c.args.scans.now c.loop-bracket.scans c.tell-in-Some.new.scans c.loop-bracket.invariant.grows c.tell-in-Some.ensures.grows;
  told = remains_popped c.loop-bracket.scans c.tell-in-Some.new.scans _ c.in-Some.bracket c.loop-bracket.under c.pop.new.self c.in-Some.ensures c.loop-bracket.invariant.told c.tell-in-Some.ensures.told;
}
