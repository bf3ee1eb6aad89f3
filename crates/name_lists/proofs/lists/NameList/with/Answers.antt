use Rattle.std.proofs.Common.{◌≡◌, ◌++◌, [], ◌∷◌, length, arith}
use Rattle.std.proofs.lemmas.Grind.{common_steps}
use Rattle.name_lists.proofs.Storing.{finds_more}
use Rattle.name_lists.proofs.lists.NameList.with.Goals as goal

pub invariant_of-result : goal.invariant_of-result
invariant_of-result c =
    let key : c.in_ok-key.key.items ≡ c.args.name.now = grind (arith, common_steps) in
    let at : c.len-at.result ≡ length c.self.inside.names = grind (arith, common_steps) in
    let more : c.push.new.self ≡ c.self.inside.names ++ c.args.name.now ∷ [] = grind (arith, common_steps) in
    record { found = rw more (finds_more c.self.inside.places c.insert.new.self c.self.inside.names c.args.name.now c.in_ok-key.key c.len-at.result c.self.invariant.found key at c.in_ok-insert.ensures.updates) }
