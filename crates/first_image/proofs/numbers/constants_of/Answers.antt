use Rattle.std.proofs.Common.{◌≡◌, sym, subst, rules}
use Rattle.std.specs.List.Sorted.{IsStrictlyIncreasing}
use Rattle.std.proofs.lemmas.Result.{IfOk-weaker}
use Rattle.first_image.proofs.ConstantLists.{ascending}
use Rattle.first_image.proofs.numbers.constants_of.Goals as goal

pub returns-clause-ascending : goal.returns-clause-ascending
returns-clause-ascending c =
    let keys = c.add_statements.new.numbers.keys in
    IfOk-weaker c.collect.result (λ v. v.items ≡ keys) _
    (λ v e. subst IsStrictlyIncreasing (sym e) (ascending keys c.into_iter.ensures.into_iter_gives.4))
    (search rules)
