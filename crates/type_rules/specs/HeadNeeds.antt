-- Which declarations the head of each one needs, as a graph: from a declaration to those on whose types or values its own
-- typing rests, by their numbers.
use Rattle.std.specs.Prelude.{ℕ, List, [], ◌∷◌, ◌++◌}
use Rattle.slang_tree.specs.declared.statements.DeclaredName.{DeclaredName}
use Rattle.slang_tree.specs.declared.declarations.Parameter.{Parameter}
use Rattle.module_scope.specs.declared.heads.Outline.{Outline}
use Rattle.module_scope.specs.declared.frames.Within.{Within}
use Rattle.declared_names.specs.Declarations.{Declaration, Node, a_struct, an_alias, a_function, some_fields, a_constant, a_global, an_unbuilt}
use Rattle.type_exprs.specs.Needs.{type_needs, lengths_need, expr_needs}
use Rattle.type_rules.specs.Leading.{edges_from}
use Rattle.type_rules.specs.HeadPlans.{in_head}

abbrev pub names_need : List DeclaredName → Outline → Within → List ℕ
names_need [] o w = []
names_need (n ∷ ns) o w = lengths_need n.lengths o w ++ names_need ns o w

abbrev pub parameters_need : List Parameter → Outline → Within → List ℕ
parameters_need [] o w = []
parameters_need (x ∷ xs) o w = type_needs x.kind o w ++ lengths_need x.name.lengths o w ++ parameters_need xs o w

abbrev pub node_needs : Node → Outline → Within → List ℕ
node_needs (a_struct s name place plain) o w = []
node_needs (an_alias x) o w = type_needs x.kind o w
node_needs (a_function attrs x) o w = type_needs x.result o w ++ parameters_need x.parameters o w
node_needs (some_fields x) o w = type_needs x.kind o w ++ names_need x.names o w
node_needs (a_constant x) o w = type_needs x.kind o w ++ expr_needs x.value o w
node_needs (a_global attrs x) o w = type_needs x.kind o w
node_needs (an_unbuilt p) o w = []

abbrev pub head_needs : Outline → Declaration → List ℕ
head_needs o d = node_needs d.node o (in_head d.owner)

abbrev pub needs_of : Outline → List Declaration → List (ℕ × ℕ)
needs_of o [] = []
needs_of o (d ∷ ds) = edges_from d.number (head_needs o d) ++ needs_of o ds
