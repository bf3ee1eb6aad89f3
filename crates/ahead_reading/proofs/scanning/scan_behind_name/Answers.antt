use Rattle.std.proofs.Common.{true, false, ◌≡◌, ap, ◌∙◌, ◌-◌, drop, arith}
use Rattle.slang_reading.specs.Reading.{first}
use Rattle.ahead_reading.specs.Knowing.{is_name}
use Rattle.ahead_reading.proofs.Growth.{grows_not}
use Rattle.ahead_reading.proofs.scanning.scan_behind_name.Goals as goal
use Rattle.ahead_reading.proofs.scanning.scan_behind_name.Goals.{then-begin-eq0-via-then-begin-eq0, then-begin-eq0-via-else-begin-eq0+then-not-is_name}

pub returns-then-begin-eq0-clause-fills : goal.returns-then-begin-eq0-clause-fills
returns-then-begin-eq0-clause-fills c = (
  grows_not c.args.scans.now,
  λ at i n e l. elim c.then-begin-eq0.branch [
    | then-begin-eq0-via-then-begin-eq0 w ↦ absurd (let z = w.if-begin-eq0 in omega (arith, z.true, i))
    | then-begin-eq0-via-else-begin-eq0+then-not-is_name w ↦
        let q = w.if-not-is_name in
        let same : c.args.begin - 1 ≡ at = omega (arith, i) in
        let r : false ≡ true = q.ensures ∙ (ap (λ k. is_name (first (drop k c.args.tokens.now))) same ∙ n) in
        absurd cc
  ],
)

pub returns-in-Closed-clause-fills : goal.returns-in-Closed-clause-fills
returns-in-Closed-clause-fills c = (grows_not c.args.scans.now, λ at i n e l. c.in-Closed.ensures.told tt)

pub returns-in-Stopped-clause-fills : goal.returns-in-Stopped-clause-fills
returns-in-Stopped-clause-fills c = (grows_not c.args.scans.now, λ at i n e l. c.in-Stopped.ensures.told tt)
