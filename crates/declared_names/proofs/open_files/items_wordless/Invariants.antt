use Rattle.std.proofs.Common.{◌≡◌, true, take}
use Rattle.std.specs.List.{list_all}
use Rattle.declared_names.specs.Declarations.{item_wordless}
use Rattle.declared_names.proofs.open_files.items_wordless.Given as goal

abbrev pub invariant-loop-item : goal.invariant-loop-item
invariant-loop-item l = list_all item_wordless (take l.item-index l.list) ≡ true
