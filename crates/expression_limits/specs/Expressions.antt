-- The limits that an expression breaks, in the order of its tokens, where at most d nodes may still stand on a path.
use Rattle.std.specs.Prelude.{ℕ, ◌+◌, List, [], ◌++◌, length, Option}
use Rattle.slang_tree.specs.declared.types.Identifier.{Identifier}
use Rattle.slang_tree.specs.declared.types.GenericArgument.{GenericArgument}
use Rattle.slang_tree.specs.declared.expressions.ExprTree.{ExprTree}
use Rattle.slang_reading.specs.Lexed.{Lexed}
use Rattle.slang_reading.specs.Reading.{first}
use Rattle.slang_grammar.specs.Expressions as ex
use Rattle.slang_grammar.specs.Expressions.{NameAt, ExprAt, LevelAt, BinaryAt, UnaryAt, PostfixAt, ChainAt, ValuesAt, MoreValuesAt, PrimaryAt}
use Rattle.slang_grammar.specs.Descent.{Limits}
use Rattle.expression_grammar.specs.Heights.{expr_height}
use Rattle.expression_limits.specs.Breaks.{Break, inside, arises, arises_over, item_with, name_there}
use Rattle.expression_limits.specs.Types.{arguments_breaks}

module _ (ts : List Lexed) (limits : Limits) where
  -- generic arguments behind a name
  abbrev pub given_breaks : {id : Identifier} {args : List GenericArgument} {end : _} {from to : ℕ} → NameAt ts id args end from to → ℕ → List Break
  given_breaks (ex.alone i none) d = []
  given_breaks (ex.generic i a f) d = arguments_breaks ts limits a d

  -- a name and its generic arguments, which stand inside of its node
  abbrev pub name_breaks : {id : Identifier} {args : List GenericArgument} {end : _} {from to : ℕ} → NameAt ts id args end from to → ℕ → List Break
  name_breaks {id = id} {from = from} n d = name_there ts limits id from ++ given_breaks n (inside d)

  abbrev mutual
    -- a choice arises at its `?`
    pub expr_breaks : {x : ExprTree} {from to : ℕ} → ExprAt ts x from to → ℕ → List Break
    expr_breaks (ex.plain v) d = level_breaks v d
    expr_breaks (ex.choice {mid = mid} {x = x} v s y c z) d =
        level_breaks v d ++ (arises_over ts (expr_height x) mid d ++ (expr_breaks y (inside d) ++ expr_breaks z (inside d)))

    pub level_breaks : {l : ℕ} {x : ExprTree} {from to : ℕ} → LevelAt ts l x from to → ℕ → List Break
    level_breaks (ex.unary u) d = unary_breaks u d
    level_breaks (ex.binary v b) d = level_breaks v d ++ binary_breaks b d

    -- an operator between operands arises at its first mark
    pub binary_breaks : {l : ℕ} {x y : ExprTree} {from to : ℕ} → BinaryAt ts l x y from to → ℕ → List Break
    binary_breaks ex.operand d = []
    binary_breaks {x = x} {from = from} (ex.operator s e v b) d =
        arises_over ts (expr_height x) from d ++ level_breaks v (inside d) ++ binary_breaks b d

    pub unary_breaks : {x : ExprTree} {from to : ℕ} → UnaryAt ts x from to → ℕ → List Break
    unary_breaks (ex.simple p) d = postfix_breaks p d
    unary_breaks {from = from} (ex.prefix s e u) d = arises ts from d ++ unary_breaks u (inside d)
    unary_breaks {from = from} (ex.cast s t e r u) d = arises ts from d ++ unary_breaks u (inside d)

    pub postfix_breaks : {x : ExprTree} {from to : ℕ} → PostfixAt ts x from to → ℕ → List Break
    postfix_breaks (ex.postfix p c) d = primary_breaks p d ++ chain_breaks c d

    -- a member, an index and a call arise at their first mark
    pub chain_breaks : {x y : ExprTree} {from to : ℕ} → ChainAt ts x y from to → ℕ → List Break
    chain_breaks ex.whole d = []
    chain_breaks {x = x} {from = from} (ex.member s n c) d =
        arises_over ts (expr_height x) from d ++ name_breaks n d ++ chain_breaks c d
    chain_breaks {x = x} {from = from} (ex.index s i r c) d =
        arises_over ts (expr_height x) from d ++ expr_breaks i (inside d) ++ chain_breaks c d
    chain_breaks {x = x} {from = from} (ex.call s v c) d =
        arises_over ts (expr_height x) from d ++ values_breaks v (inside d) ++ chain_breaks c d

    pub values_breaks : {args : List ExprTree} {end : _} {from to : ℕ} → ValuesAt ts args end from to → ℕ → List Break
    values_breaks (ex.no_values s) d = []
    values_breaks {from = from} (ex.values v r s) d =
        item_with ts limits 0 from d (expr_breaks v d) ++ more_values_breaks r d

    -- values behind others
    pub more_values_breaks : {xs ys : List ExprTree} {from to : ℕ} → MoreValuesAt ts xs ys from to → ℕ → List Break
    more_values_breaks ex.end d = []
    more_values_breaks {xs = xs} {from = from} (ex.more s v r) d =
        item_with ts limits (length xs) (from + 1) d (expr_breaks v d) ++ more_values_breaks r d

    pub primary_breaks : {x : ExprTree} {from to : ℕ} → PrimaryAt ts x from to → ℕ → List Break
    primary_breaks {from = from} (ex.name n) d = arises ts from d ++ name_breaks n d
    primary_breaks {from = from} (ex.construct s e o v) d = arises ts from d ++ values_breaks v (inside d)
    primary_breaks {from = from} (ex.paren s v r) d = arises ts from d ++ expr_breaks v (inside d)
    primary_breaks {from = from} _ d = arises ts from d

  -- the first of them
  abbrev pub expr_break : {x : ExprTree} {from to : ℕ} → ExprAt ts x from to → ℕ → Option Break
  expr_break s d = first (expr_breaks s d)
