-- The limits that a part of a declaration breaks, in the order of its tokens, where at most d nodes may still stand on a
-- path. Names behind `where` and `:` make lists of any length.
use Rattle.std.specs.Prelude.{ℕ, ◌+◌, List, [], ◌++◌, length, Option}
use Rattle.slang_names.specs.declared.places.Place.{Place}
use Rattle.slang_names.specs.declared.places.Mode.{Mode}
use Rattle.slang_tree.specs.declared.types.Identifier.{Identifier}
use Rattle.slang_tree.specs.declared.types.TypeTree.{TypeTree}
use Rattle.slang_tree.specs.declared.declarations.GenericParameter.{GenericParameter}
use Rattle.slang_tree.specs.declared.declarations.Constraint.{Constraint}
use Rattle.slang_tree.specs.declared.declarations.Parameter.{Parameter}
use Rattle.slang_reading.specs.Lexed.{Lexed}
use Rattle.slang_grammar.specs.Descent.{Limits}
use Rattle.declaration_grammar.specs.Parts as t
use Rattle.declaration_grammar.specs.Parts.{NamesAt, GenericParameterAt, MoreGenericsAt, GenericsAt, HeadsAt, ConstraintAt, ConstraintsAt, PassedAt, SemanticAt, ParameterAt, MoreParametersAt, ParametersAt}
use Rattle.expression_limits.specs.Breaks.{Break, item_behind, name_there}
use Rattle.expression_limits.specs.Types.{type_breaks}
use Rattle.statement_limits.specs.Locals.{declared_breaks}

module _ (ts : List Lexed) (limits : Limits) where
  -- ---- names behind commas

  abbrev pub names_breaks : {xs ys : List Identifier} {p q : Place} {from to : ℕ} → NamesAt ts xs ys p q from to → List Break
  names_breaks (t.end n) = []
  names_breaks {from = from} (t.more {id = id} s n r) = name_there ts limits id (from + 1) ++ names_breaks r

  -- ---- generic parameters

  abbrev pub generic_breaks : {x : GenericParameter} {from to : ℕ} → GenericParameterAt ts x from to → List Break
  generic_breaks {from = from} (t.plain {id = id} n c) = name_there ts limits id from
  generic_breaks {from = from} (t.bounded {id = id} {bound = bound} n c b) = name_there ts limits id from ++ name_there ts limits bound (from + 1 + 1)
  generic_breaks {from = from} (t.number {id = id} s n c i) = name_there ts limits id (from + 1)

  -- a parameter behind so many others
  abbrev pub generic_behind : {x : GenericParameter} {from to : ℕ} → GenericParameterAt ts x from to → (count : ℕ) → List Break
  generic_behind {from = from} v count = item_behind ts limits count from ++ generic_breaks v

  abbrev pub more_generics_breaks : {xs ys : List GenericParameter} {from to : ℕ} → MoreGenericsAt ts xs ys from to → List Break
  more_generics_breaks t.end = []
  more_generics_breaks {xs = xs} (t.more s v r) = generic_behind v (length xs) ++ more_generics_breaks r

  abbrev pub generics_breaks : {all : List GenericParameter} {from to : ℕ} → GenericsAt ts all from to → List Break
  generics_breaks (t.no_generics n) = []
  generics_breaks (t.generics o v r c) = generic_behind v 0 ++ more_generics_breaks r

  -- ---- heads and constraints

  abbrev pub heads_breaks : {all : List Identifier} {from to : ℕ} → HeadsAt ts all from to → List Break
  heads_breaks (t.no_heads n) = []
  heads_breaks {from = from} (t.heads {id = id} o n r) = name_there ts limits id (from + 1) ++ names_breaks r

  abbrev pub constraint_breaks : {x : Constraint} {from to : ℕ} → ConstraintAt ts x from to → List Break
  constraint_breaks {from = from} (t.constraint {subject = subject} {id = id} o n c i r) =
      name_there ts limits subject (from + 1) ++ (name_there ts limits id (from + 1 + 1 + 1) ++ names_breaks r)

  abbrev pub constraints_breaks : {xs ys : List Constraint} {from to : ℕ} → ConstraintsAt ts xs ys from to → List Break
  constraints_breaks (t.end n) = []
  constraints_breaks (t.more v r) = constraint_breaks v ++ constraints_breaks r

  -- ---- parameters

  abbrev pub passed_breaks : {how : Mode} {x : TypeTree} {p : Place} {from to : ℕ} → PassedAt ts how x p from to → ℕ → List Break
  passed_breaks (t.plain r) d = type_breaks ts limits r d
  passed_breaks (t.moded s q r) d = type_breaks ts limits r d

  abbrev pub semantic_breaks : {x : Option Identifier} {p q : Place} {from to : ℕ} → SemanticAt ts x p q from to → List Break
  semantic_breaks (t.no_semantic n) = []
  semantic_breaks {from = from} (t.semantic {id = id} c n) = name_there ts limits id (from + 1)

  abbrev pub parameter_breaks : {x : Parameter} {from to : ℕ} → ParameterAt ts x from to → ℕ → List Break
  parameter_breaks (t.parameter r v i) d = passed_breaks r d ++ (declared_breaks ts limits v ++ semantic_breaks i)

  -- a parameter behind so many others
  abbrev pub parameter_behind : {x : Parameter} {from to : ℕ} → ParameterAt ts x from to → (count : ℕ) → ℕ → List Break
  parameter_behind {from = from} v count d = item_behind ts limits count from ++ parameter_breaks v d

  abbrev pub more_parameters_breaks : {xs ys : List Parameter} {from to : ℕ} → MoreParametersAt ts xs ys from to → ℕ → List Break
  more_parameters_breaks t.end d = []
  more_parameters_breaks {xs = xs} (t.more s v r) d = parameter_behind v (length xs) d ++ more_parameters_breaks r d

  abbrev pub parameters_breaks : {all : List Parameter} {from to : ℕ} → ParametersAt ts all from to → ℕ → List Break
  parameters_breaks (t.no_parameters o c) d = []
  parameters_breaks (t.parameters o v r c) d = parameter_behind v 0 d ++ more_parameters_breaks r d
