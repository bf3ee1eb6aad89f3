use Rattle.std.proofs.Common.{◌≡◌, ℕ, ◌||◌, nat_eq, take}
use Rattle.std.specs.List.{list_any}
use Rattle.std.specs.HashSet.{contains}
use Rattle.image_declarations.proofs.reach.insert_all.Given as goal

abbrev pub invariant-loop-part : goal.invariant-loop-part
invariant-loop-part l = (q : ℕ) → contains nat_eq l.types q ≡ (list_any (nat_eq q) (take l.part-index l.parts) || contains nat_eq l.initial.types q)
