use Rattle.std.proofs.Common.{◌≡◌, ◌+◌, ◌≤◌, drop, Some}
use Rattle.spirv_words.specs.Machine.{Shape}
use Rattle.image_operands.specs.Composites.{extract_end}
use Rattle.image_facts.specs.Operands.{shape}
use Rattle.run_plans.specs.Walks.{IsOnPath, width_at}
use Rattle.run_plans.proofs.composites.part_behind.Given as goal

abbrev pub invariant-loop-number : goal.invariant-loop-number
invariant-loop-number l =
    ((s : Shape) → shape l.places.places.code l.type_id ≡ Some s
    → IsOnPath l.places.places.code s l.path l.at.type_id l.at.place (drop l.number-index l.path))
    × (extract_end l.places.places.code l.at.type_id (drop l.number-index l.path) ≡ extract_end l.places.places.code l.type_id l.path)
    × (l.at.place + width_at l.places.places.code l.at.type_id ≤ width_at l.places.places.code l.type_id)
