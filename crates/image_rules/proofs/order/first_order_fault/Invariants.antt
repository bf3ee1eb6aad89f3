use Rattle.std.proofs.Common.{◌≡◌, ◌<◌, ℕ, false}
use Rattle.image_places.specs.Places.{cursor_at}
use Rattle.image_rules.specs.Order.{reached, out_of_order}
use Rattle.image_rules.proofs.order.first_order_fault.Given as goal

-- where the walk is, and that nothing before it is out of order
abbrev pub invariant-loop-instruction : goal.invariant-loop-instruction
invariant-loop-instruction l = record {
  cursor_is : l.cursor ≡ cursor_at l.image.instructions l.instruction-index;
  reached_is : l.reached ≡ reached l.image.instructions l.instruction-index;
  before : (j : ℕ) → j < l.instruction-index → out_of_order l.image.instructions j ≡ false;
}
