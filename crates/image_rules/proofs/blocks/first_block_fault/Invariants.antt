use Rattle.std.proofs.Common.{◌≡◌, ◌<◌, ℕ, false}
use Rattle.image_places.specs.Places.{cursor_at}
use Rattle.image_rules.specs.Blocks.{has_ended, in_front, breaks_block}
use Rattle.image_rules.proofs.blocks.first_block_fault.Given as goal

-- where the walk is, and that nothing before it breaks a block
abbrev pub invariant-loop-instruction : goal.invariant-loop-instruction
invariant-loop-instruction l = record {
  cursor_is : l.cursor ≡ cursor_at l.image.instructions l.instruction-index;
  ended_is : l.ended ≡ has_ended l.image.instructions l.instruction-index;
  front_is : l.front ≡ in_front l.image.instructions l.instruction-index;
  before : (j : ℕ) → j < l.instruction-index → breaks_block l.image.instructions j ≡ false;
}
