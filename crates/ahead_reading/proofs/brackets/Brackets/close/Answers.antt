use Rattle.std.proofs.Common.{◌∙◌, ap, Some}
use Rattle.type_reading.specs.Scanning.{step}
use Rattle.ahead_reading.specs.Brackets.{open_of}
use Rattle.ahead_reading.proofs.OpenBrackets.{top_closed, all_popped}
use Rattle.ahead_reading.proofs.Growth.{adds_popped}
use Rattle.ahead_reading.proofs.brackets.Brackets.close.Goals as goal

pub returns-clause-takes : goal.returns-clause-takes
returns-clause-takes c = λ kind e ts t here q h k.
    let x = c.args.self.now in
    let d = ap (λ kind. step (Some (open_of x.top)) x.awaited kind) q ∙ e in
    (all_popped ts c.args.at x t here c.pop.result c.pop.new.self d c.pop.ensures.popped h, c.tell.ensures.knows ts k (top_closed ts c.args.at x t here d h))

pub returns-clause-adds : goal.returns-clause-adds
returns-clause-adds c = adds_popped c.args.self.now c.pop.new.self c.args.scans.now c.tell.new.scans c.pop.result c.tell.ensures.grows c.tell.ensures.told c.pop.ensures.outermost
