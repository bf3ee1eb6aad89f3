use Rattle.std.proofs.Common.{sym, subst, List, drop, arith}
use Rattle.slang_reading.specs.Reading.{first}
use Rattle.ahead_reading.specs.declared.scans.Known.{Known}
use Rattle.ahead_reading.specs.Knowing.{Knows, Told, Grows}
use Rattle.ahead_reading.proofs.Knowledge.{knows_set}
use Rattle.ahead_reading.proofs.Growth.{grows_not, grows_set, told_set}
use Rattle.ahead_reading.proofs.scans.Scans.tell.Goals as goal

pub returns-then-at-len-clause-knows : goal.returns-then-at-len-clause-knows
returns-then-at-len-clause-knows c = λ ts h q. subst (λ (l : List Known). Knows (record { known = l }) ts) (sym c.set.ensures) (knows_set ts c.args.self.now.known c.args.at c.args.known h q)

pub returns-then-at-len-clause-grows : goal.returns-then-at-len-clause-grows
returns-then-at-len-clause-grows c =
    subst (λ (l : List Known). Grows c.args.self.now (record { known = l })) (sym c.set.ensures) (grows_set c.args.self.now.known c.args.at c.args.known c.requires)

pub returns-then-at-len-clause-told : goal.returns-then-at-len-clause-told
returns-then-at-len-clause-told c = λ i.
    subst (λ (l : List Known). Told (first (drop c.args.at l))) (sym c.set.ensures) (told_set c.args.self.now.known c.args.at c.args.known c.requires (omega (arith, c.if-at-len.true, c.len.ensures)))

pub returns-else-at-len-clause-grows : goal.returns-else-at-len-clause-grows
returns-else-at-len-clause-grows c = grows_not c.args.self.now
