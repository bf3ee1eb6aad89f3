use Rattle.std.proofs.Common.{◌≡◌, true, take}
use Rattle.std.specs.List.{list_all}
use Rattle.declared_names.specs.Declarations.{member_wordless}
use Rattle.declared_names.proofs.open_files.members_wordless.Given as goal

abbrev pub invariant-loop-item : goal.invariant-loop-item
invariant-loop-item l = list_all member_wordless (take l.item-index l.list) ≡ true
