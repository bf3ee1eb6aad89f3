use Rattle.std.proofs.Common.{◌+◌, [], refl, sym, ◌∙◌, ap, subst, drop, arith}
use Rattle.std.specs.HashSet.{contains}
use Rattle.std.specs.List.{list_any}
use Rattle.repeated_names.specs.Views.{named_of, all_named}
use Rattle.repeated_names.proofs.Before.{key_eq, Decides, stands_twice, one_more, next_of, none_next, none_twice, not_false, not_true}
use Rattle.repeated_names.proofs.repeats.first_twice.Goals as goal

pub loop-named-init : goal.loop-named-init
loop-named-init c = ([], (λ q. ap (λ ks. list_any (key_eq q) ks) c.new-before.ensures.empty), refl)

pub returns-then-not-branch : goal.returns-then-not-branch
returns-then-not-branch c =
    let next = next_of c.args.names.now c.loop-named.named-index c.named-item.result (omega arith) c.named-item.is in
    let here = subst (λ left. Decides (contains key_eq c.loop-named.before) left (all_named c.args.names.now)) next c.loop-named.invariant in
    let there = not_false _ (sym c.if-not-branch.true ∙ c.in_ok-insert.ensures.added) in
    stands_twice (contains key_eq c.loop-named.before) (named_of c.named-item.result) (all_named (drop (c.loop-named.named-index + 1) c.args.names.now)) (all_named c.args.names.now)
    (record { group = c.named-item.result.group; bytes = c.as_bytes.result }) refl c.as_bytes.ensures here there

pub loop-named-preserved : goal.loop-named-preserved
loop-named-preserved c =
    let next = next_of c.args.names.now c.loop-named.named-index c.named-item.result (omega arith) c.named-item.is in
    let here = subst (λ left. Decides (contains key_eq c.loop-named.before) left (all_named c.args.names.now)) next c.loop-named.invariant in
    let absent = not_true _ (sym c.if-not-branch.false ∙ c.in_ok-insert.ensures.added) in
    one_more (contains key_eq c.loop-named.before) (named_of c.named-item.result) (all_named (drop (c.loop-named.named-index + 1) c.args.names.now)) (all_named c.args.names.now)
    (record { group = c.named-item.result.group; bytes = c.as_bytes.result }) refl c.as_bytes.ensures here (contains key_eq c.insert.new.self) absent c.in_ok-insert.ensures.updates.0

pub returns : goal.returns
returns c =
    none_twice (contains key_eq c.loop-named.before) (all_named (drop c.loop-named.named-index c.args.names.now)) (all_named c.args.names.now)
    (none_next c.args.names.now c.loop-named.named-index (omega arith)) c.loop-named.invariant
