use Rattle.std.proofs.Common.{◌≡◌, ℕ, take}
use Rattle.std.specs.Option.{option_map}
use Rattle.std.specs.Ordering.{nat_cmp}
use Rattle.std.specs.BTreeMap.{get}
use Rattle.spirv_words.specs.Machine.{place_of}
use Rattle.image_places.specs.Places.{cursor_at}
use Rattle.image_rules.specs.Ids.{definition_at}
use Rattle.image_rules.proofs.table.definitions.Given as goal

-- where the walk is, and the definitions so far
abbrev pub invariant-loop-instruction : goal.invariant-loop-instruction
invariant-loop-instruction l = record {
  cursor_is : l.cursor ≡ cursor_at l.instructions l.instruction-index;
  map_is : (q : ℕ) → get nat_cmp l.map q ≡ option_map (definition_at l.instructions) (place_of (take l.instruction-index l.instructions) q 0);
}
