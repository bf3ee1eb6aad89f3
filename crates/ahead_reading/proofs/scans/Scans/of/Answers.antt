use Rattle.std.proofs.Common.{◌∙◌, ap, drop, List}
use Rattle.slang_reading.specs.Reading.{first}
use Rattle.ahead_reading.specs.declared.scans.Known.{Known}
use Rattle.ahead_reading.proofs.Knowledge.{known_told}
use Rattle.ahead_reading.proofs.scans.Scans.of.Goals as goal

pub returns-in-Some-clause-knows : goal.returns-in-Some-clause-knows
returns-in-Some-clause-knows c = λ ts seen h. known_told ts c.args.self.now c.args.at seen c.in-Some.known (c.in-Some.ensures ∙ ap (λ (l : List Known). first (drop c.args.at l)) c.as_slice.ensures) h
