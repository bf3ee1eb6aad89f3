-- What contracts see of groups, and of names that point into a tree.
use Rattle.std.specs.Prelude.{List, map}
use Rattle.repeated_names.specs.declared.groups.Group.{Group as Kept}
use Rattle.repeated_names.specs.declared.groups.Group.TheVariants as g
use Rattle.repeated_names.specs.declared.names.Named.{Named as Pointed}
use Rattle.repeated_names.specs.Twice.{Group, of_module, of_struct, from_byte, Named}

-- the group
abbrev pub group_of : Kept → Group
group_of g.Module = of_module
group_of (g.Struct n) = of_struct n
group_of (g.Byte n) = from_byte n

-- the name with its group
abbrev pub named_of : Pointed → Named
named_of x = record { group = group_of x.group; name = x.name.now }

-- all of a list
abbrev pub all_named : List Pointed → List Named
all_named xs = map named_of xs
