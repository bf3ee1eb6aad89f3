-- What contracts see of the declarations that point into a tree.
use Rattle.std.specs.Prelude.{ℕ, List, [], map}
use Rattle.declared_names.specs.declared.listed.Declaration.{Declaration as Listed}
use Rattle.declared_names.specs.declared.listed.Prefix.{Prefix}
use Rattle.declared_names.specs.declared.listed.Prefix.TheVariants as p
use Rattle.declared_names.specs.declared.listed.Node.{Node as Pointed}
use Rattle.declared_names.specs.declared.listed.Node.TheVariants as n
use Rattle.declared_names.specs.Declarations.{Declaration, Node, a_struct, an_alias, a_function, some_fields, a_constant, a_global, an_unbuilt, dotted}

-- the bytes by which a path begins
abbrev pub prefix_of : Prefix → List ℕ
prefix_of p.Nothing = []
prefix_of (p.Outer x) = dotted [] x.now.name
prefix_of (p.Inner x y) = dotted (dotted [] x.now.name) y.now.name

-- what is declared
abbrev pub node_of : Pointed → Node
node_of (n.Struct s name place plain) = a_struct s name.now place plain
node_of (n.Alias x) = an_alias x.now
node_of (n.Function attrs x) = a_function attrs.now x.now
node_of (n.Fields x) = some_fields x.now
node_of (n.Constant x) = a_constant x.now
node_of (n.Global attrs x) = a_global attrs.now x.now
node_of (n.Unbuilt place) = an_unbuilt place

-- the declaration
abbrev pub declaration_of : Listed → Declaration
declaration_of x = record { number = x.number; owner = x.owner; prefix = prefix_of x.prefix; access = x.access; node = node_of x.node }

-- all of a list
abbrev pub declarations_of : List Listed → List Declaration
declarations_of xs = map declaration_of xs
