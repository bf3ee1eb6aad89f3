use Rattle.std.proofs.Common.{◌≡◌, drop, unwrap_or}
use Rattle.std.specs.Ordering.{nat_cmp}
use Rattle.std.specs.BTreeMap.{get}
use Rattle.image_rules.specs.Blocks.{are_labels}
use Rattle.image_rules.proofs.blocks.leads_to_labels.Given as goal

-- the ids so far are labels of the function
abbrev pub invariant-loop-id : goal.invariant-loop-id
invariant-loop-id l =
    are_labels (λ id. unwrap_or (get nat_cmp l.labels id) 0) l.function l.id-items
    ≡ are_labels (λ id. unwrap_or (get nat_cmp l.labels id) 0) l.function (drop l.id-index l.id-items)
