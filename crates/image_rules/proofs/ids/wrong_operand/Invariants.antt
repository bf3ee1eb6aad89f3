use Rattle.std.proofs.Common.{◌≡◌, ◌<◌, ℕ, false}
use Rattle.std.specs.Ordering.{nat_cmp}
use Rattle.std.specs.BTreeMap.{get}
use Rattle.image_rules.specs.Ids.{is_wrong_operand}
use Rattle.image_rules.proofs.ids.wrong_operand.Given as goal

-- no operand so far is a wrong id
abbrev pub invariant-loop-operand : goal.invariant-loop-operand
invariant-loop-operand l =
    (j : ℕ) → j < l.operand → is_wrong_operand (get nat_cmp l.map) l.bound l.instruction l.here l.function l.block j ≡ false
