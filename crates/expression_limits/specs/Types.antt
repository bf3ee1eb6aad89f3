-- The limits that a type breaks, in the order of its tokens, where at most d nodes may still stand on a path.
use Rattle.std.specs.Prelude.{ℕ, ◌+◌, List, [], ◌++◌, length, Option}
use Rattle.slang_tree.specs.declared.types.Term.{Term}
use Rattle.slang_tree.specs.declared.types.TypeTree.{TypeTree}
use Rattle.slang_tree.specs.declared.types.GenericArgument.{GenericArgument}
use Rattle.slang_reading.specs.Lexed.{Lexed}
use Rattle.slang_reading.specs.Reading.{first}
use Rattle.slang_grammar.specs.Types as t
use Rattle.slang_grammar.specs.Types.{TermAt, TypeAt, ProjectionsAt, TypeNameAt, ArgumentsAt, MoreArgumentsAt, ArgumentAt}
use Rattle.slang_grammar.specs.Heights.{height}
use Rattle.slang_grammar.specs.Descent.{Limits}
use Rattle.expression_limits.specs.Breaks.{Break, inside, arises, arises_over, item_behind, item_with, name_there}

module _ (ts : List Lexed) (limits : Limits) where
  -- of what stands between brackets a name may be too long
  abbrev pub term_breaks : {x : Term} {at : ℕ} → TermAt ts x at → List Break
  term_breaks (t.number_term s) = []
  term_breaks {at = at} (t.name_term {id = id} s) = name_there ts limits id at

  abbrev mutual
    pub type_breaks : {x : TypeTree} {from to : ℕ} → TypeAt ts x from to → ℕ → List Break
    type_breaks (t.plain n r) d = type_name_breaks n d ++ projections_breaks r d
    type_breaks (t.array {at = at} {y = y} n r o l c) d =
        type_name_breaks n d ++ (projections_breaks r d ++ (arises_over ts (height y) at d ++ term_breaks l))

    -- a projection arises at its dot
    pub projections_breaks : {x y : TypeTree} {from to : ℕ} → ProjectionsAt ts x y from to → ℕ → List Break
    projections_breaks t.whole d = []
    projections_breaks {x = x} {from = from} (t.project {id = id} s i r) d =
        arises_over ts (height x) from d ++ name_there ts limits id (from + 1) ++ projections_breaks r d

    pub type_name_breaks : {x : TypeTree} {from to : ℕ} → TypeNameAt ts x from to → ℕ → List Break
    type_name_breaks {from = from} (t.builtin s q) d = arises ts from d
    type_name_breaks {from = from} (t.this_type s) d = arises ts from d
    type_name_breaks {from = from} (t.name {id = id} i) d = arises ts from d ++ name_there ts limits id from
    type_name_breaks {from = from} (t.generic {id = id} i a) d =
        arises ts from d ++ (name_there ts limits id from ++ arguments_breaks a (inside d))
    type_name_breaks {from = from} (t.resource s q o x c) d = arises ts from d ++ type_breaks x (inside d)

    pub arguments_breaks : {args : List GenericArgument} {end : _} {from to : ℕ} → ArgumentsAt ts args end from to → ℕ → List Break
    arguments_breaks (t.arguments s a r o) d = argument_breaks a 0 d ++ more_arguments_breaks r d

    pub more_arguments_breaks : {xs ys : List GenericArgument} {from to : ℕ} → MoreArgumentsAt ts xs ys from to → ℕ → List Break
    more_arguments_breaks t.end d = []
    more_arguments_breaks {xs = xs} (t.more s a r) d = argument_breaks a (length xs) d ++ more_arguments_breaks r d

    -- an argument behind so many others
    pub argument_breaks : {x : GenericArgument} {from to : ℕ} → ArgumentAt ts x from to → (count : ℕ) → ℕ → List Break
    argument_breaks {from = from} (t.type_argument x) count d = item_with ts limits count from d (type_breaks x d)
    argument_breaks {from = from} (t.number_argument s) count d = item_behind ts limits count from

  -- the first of them
  abbrev pub type_break : {x : TypeTree} {from to : ℕ} → TypeAt ts x from to → ℕ → Option Break
  type_break s d = first (type_breaks s d)
