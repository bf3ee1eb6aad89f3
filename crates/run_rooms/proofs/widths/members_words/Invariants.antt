use Rattle.std.proofs.Common.{◌≡◌, ◌+◌, ◌≤◌, ◌^◌, min, drop, nat_eq}
use Rattle.std.specs.HashMap.{get}
use Rattle.run_rooms.specs.Widths.{members_words}
use Rattle.run_rooms.proofs.widths.members_words.Given as goal

-- the members so far, and those to come
abbrev pub invariant-loop-member : goal.invariant-loop-member
invariant-loop-member l =
    (min (l.words + members_words (get nat_eq l.widths.types) (drop l.member-index l.members)) (2 ^ 32)
    ≡ min (members_words (get nat_eq l.widths.types) l.members) (2 ^ 32))
    × (l.words ≤ 2 ^ 32)
