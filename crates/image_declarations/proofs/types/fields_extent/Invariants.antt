use Rattle.std.proofs.Common.{◌≡◌, ◌≤◌, ◌^◌, min, max, drop}
use Rattle.image_declarations.specs.Types.{fields_extent, known_by}
use Rattle.image_declarations.proofs.types.fields_extent.Given as goal

-- the members so far, and those to come
abbrev pub invariant-loop-number : goal.invariant-loop-number
invariant-loop-number l =
    (min (max l.extent (fields_extent l.decorations (known_by l.known) l.id l.number (drop l.number l.members))) (2 ^ 32)
    ≡ min (fields_extent l.decorations (known_by l.known) l.id 0 l.members) (2 ^ 32))
    × (l.extent ≤ 2 ^ 32)
