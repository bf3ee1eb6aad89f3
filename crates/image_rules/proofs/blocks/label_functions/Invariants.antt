use Rattle.std.proofs.Common.{◌≡◌, ℕ, unwrap_or}
use Rattle.std.specs.Ordering.{nat_cmp}
use Rattle.std.specs.BTreeMap.{get}
use Rattle.image_places.specs.Places.{cursor_at}
use Rattle.image_rules.specs.Blocks.{label_function}
use Rattle.image_rules.proofs.blocks.label_functions.Given as goal

-- where the walk is, and the functions of the Labels so far
abbrev pub invariant-loop-instruction : goal.invariant-loop-instruction
invariant-loop-instruction l = record {
  cursor_is : l.cursor ≡ cursor_at l.instructions l.instruction-index;
  map_is : (q : ℕ) → unwrap_or (get nat_cmp l.map q) 0 ≡ label_function l.instructions l.instruction-index q;
}
