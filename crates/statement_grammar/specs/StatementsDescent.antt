-- The descent into statements. Each parser has a number of nodes that it may put on a path; where two limits are passed at
-- one token, that of nesting comes first.
use Rattle.std.specs.Prelude.{ℕ, zero, suc, ◌+◌, Bool, true, false, not, ◌||◌, if◌then◌else◌, nat_lt, List, [], ◌∷◌, ◌++◌, length, Option, Some, None}
use Rattle.slang_names.specs.declared.places.Place.{Place}
use Rattle.slang_names.specs.declared.codes.ModuleCode.TheVariants as code
use Rattle.slang_tree.specs.declared.types.Identifier.{Identifier}
use Rattle.slang_tree.specs.declared.types.Term.{Term}
use Rattle.slang_tree.specs.declared.types.TypeTree.{TypeTree}
use Rattle.slang_tree.specs.declared.expressions.BinaryOperator.{BinaryOperator}
use Rattle.slang_tree.specs.declared.expressions.BinaryOperator.TheVariants as o
use Rattle.slang_tree.specs.declared.expressions.ExprTree.{ExprTree}
use Rattle.slang_tree.specs.declared.statements.Attribute.{Attribute}
use Rattle.slang_tree.specs.declared.statements.DeclaredName.{DeclaredName}
use Rattle.slang_tree.specs.declared.statements.Initializer.{Initializer}
use Rattle.slang_tree.specs.declared.statements.Initializer.TheVariants as i
use Rattle.slang_tree.specs.declared.statements.ListTree.{ListTree}
use Rattle.slang_tree.specs.declared.statements.LocalName.{LocalName}
use Rattle.slang_tree.specs.declared.statements.Local.{Local}
use Rattle.slang_tree.specs.declared.statements.Step.{Step}
use Rattle.slang_tree.specs.declared.statements.Change.{Change}
use Rattle.slang_tree.specs.declared.statements.ChangeNode.TheVariants as c
use Rattle.slang_tree.specs.declared.statements.LoopStart.{LoopStart}
use Rattle.slang_tree.specs.declared.statements.LoopStart.TheVariants as b
use Rattle.slang_tree.specs.declared.statements.StatTree.{StatTree}
use Rattle.slang_tree.specs.declared.statements.StatNode.TheVariants as s
use Rattle.slang_tree.specs.declared.statements.Block.{Block}
use Rattle.slang_tokens.specs.declared.tokens.Kind.{Kind}
use Rattle.slang_tokens.specs.declared.tokens.Kind.TheVariants as k
use Rattle.slang_tokens.specs.declared.tokens.Mark.TheVariants as m
use Rattle.slang_tokens.specs.declared.tokens.Word.TheVariants as w
use Rattle.slang_reading.specs.Lexed.{Lexed}
use Rattle.slang_reading.specs.Reading.{Parser, Choice, Leave, Take, Refuse, Pass, if_fits, ◌>>=◌, ◌>>◌, pure, past, place_of, next, foresee, turns}
use Rattle.slang_reading.specs.Kinds.{sees, sees_word, span}
use Rattle.slang_grammar.specs.Descent.{Limits, fits_in, expect, name, bracketed}
use Rattle.slang_grammar.specs.TypesDescent.{Type_, types}
use Rattle.slang_grammar.specs.ExpressionsDescent.{Value, begins, word_begins, joined, primary_at, chain_rest, postfix, leveled, expressions}
use Rattle.statement_grammar.specs.declared.tables.ChangeUse.{ChangeUse}
use Rattle.statement_grammar.specs.declared.tables.ChangeUse.TheVariants as what
use Rattle.statement_grammar.specs.declared.tables.StatementUse.{StatementUse}
use Rattle.statement_grammar.specs.declared.tables.StatementUse.TheVariants as u
use Rattle.statement_grammar.specs.Tables.{change_use, statement_use}
use Rattle.statement_grammar.specs.Attributes.{begin_of}
use Rattle.statement_grammar.specs.AttributesDescent.{Given, attributes, loops}
use Rattle.statement_grammar.specs.Statements.{declared, listed, local_name, local_of, changed, assigned, is_call, stated}
use Rattle.statement_grammar.specs.LocalsAhead.{local_ahead}

-- ---- declared names

-- lengths so far, and the place of the last token
abbrev pub Lengths : Type 0
Lengths = List Term × Place

-- a declared name, and the place of its last token
abbrev pub Named : Type 0
Named = DeclaredName × Place

unfoldable pub length_more : Limits → Lengths → Parser Lengths
length_more limits list = do
  expect m.OpenBracket
  x ← bracketed limits
  end ← expect m.CloseBracket
  pure (list.0 ++ x ∷ [], end)

unfoldable pub declared_name : Limits → Parser Named
declared_name limits = do
  id ← name limits
  list ← turns (sees m.OpenBracket) (length_more limits) limits.turns ([], id.place)
  pure (declared id list.0 list.1, list.1)

-- ---- what locals begin with

-- an expression or a list, and a place that ends with it
abbrev pub Initial : Type 0
Initial = Initializer × Place

-- room says whether a list that begins fits; d is how many nodes may stand in it; value reads an expression in place of it,
-- and inner what stands in it
module _ (limits : Limits) (room : Bool) (d : ℕ) (value : Parser Value) (inner : Parser Initial) where
  abbrev pub begins_item : Option Lexed → Bool
  begins_item x = sees m.OpenBrace x || begins x

  abbrev pub item_of : Option Lexed → Choice Initial
  item_of x = if begins_item x then if_fits (nat_lt 0 d) code.TooNested x (Leave inner) else Refuse

  -- an item behind so many others
  unfoldable pub item : ℕ → Parser Initial
  item count = next (λ x. if_fits (fits_in limits count limits.items) code.TooLong x (item_of x))

  unfoldable pub item_more : List Initializer → Parser (List Initializer)
  item_more list = do
    expect m.Comma
    x ← item (length list)
    pure (list ++ x.0 ∷ [])

  unfoldable pub items_rest : Place → Parser ListTree
  items_rest begin = do
    x ← item 0
    list ← turns (sees m.Comma) item_more limits.turns (x.0 ∷ [])
    end ← expect m.CloseBrace
    pure (listed (span begin end) list)

  unfoldable pub no_items : Place → Parser ListTree
  no_items begin = expect m.CloseBrace >>= (λ end. pure (listed (span begin end) []))

  abbrev pub list_by : Place → Bool → Choice ListTree
  list_by begin true = Leave (no_items begin)
  list_by begin false = Leave (items_rest begin)

  -- behind the opening brace
  unfoldable pub list_rest : Place → Parser ListTree
  list_rest begin = next (λ x. list_by begin (sees m.CloseBrace x))

  abbrev pub initial_by : Option Lexed → Bool → Choice Initial
  initial_by x true = if_fits room code.TooNested x (Take (list_rest (place_of x) >>= (λ y. pure (i.List y, y.place))))
  initial_by x false = Leave (value >>= (λ v. pure (i.Expression v.0, v.0.place)))

  unfoldable pub initial : Parser Initial
  initial = next (λ x. initial_by x (sees m.OpenBrace x))

abbrev pub no_initial : Parser Initial
no_initial = past code.TooNested (place_of None)

-- an expression or a list of which at most so many nodes stand on a path
unfoldable pub initials : Limits → ℕ → Parser Initial
initials limits zero = initial limits false zero (expressions limits zero) no_initial
initials limits (suc d) = initial limits true d (expressions limits (suc d)) (initials limits d)

-- ---- operands of changes: a primary with what goes on it

abbrev pub operand_by : Kind → Bool
operand_by k.Name = true
operand_by (k.Word word) = word_begins word
operand_by (k.Number v) = true
operand_by k.String = false
operand_by (k.Mark m.OpenParen) = true
operand_by (k.Mark _) = false

abbrev pub operand_begins : Option Lexed → Bool
operand_begins (Some t) = operand_by t.kind
operand_begins None = false

abbrev pub operand_past : Option Lexed → Choice Value
operand_past x = if operand_begins x then Pass code.TooNested (place_of x) else Refuse

abbrev pub no_values : ℕ → Parser Value
no_values l = past code.TooNested (place_of None)

-- one of at most so many nodes on a path
unfoldable pub operands : Limits → ℕ → Parser Value
operands limits zero = next operand_past >>= chain_rest limits zero no_values
operands limits (suc d) = postfix limits d (leveled limits d)

-- ---- locals, changes and calls, with so many nodes inside

-- a declaration of locals or a change
pub data Simple : Type 0 where
  IsLocal : Local → Simple
  IsChange : Change → Simple

-- names so far, and a place that ends with the last one
abbrev pub Names : Type 0
Names = List LocalName × Place

abbrev pub One : Type 0
One = LocalName × Place

module _ (limits : Limits) (d : ℕ) where
  abbrev pub begun_by : Named → Bool → Choice One
  begun_by x true = Take (initials limits d >>= (λ v. pure (local_name x.0 (Some v.0), v.1)))
  begun_by x false = Leave (pure (local_name x.0 None, x.1))

  -- a declared name and what it begins with
  unfoldable pub one_name : Parser One
  one_name = declared_name limits >>= (λ x. next (λ t. begun_by x (sees m.Equal t)))

  unfoldable pub name_more : Names → Parser Names
  name_more list = do
    expect m.Comma
    x ← one_name
    pure (list.0 ++ x.0 ∷ [], x.1)

  -- behind the type of locals
  unfoldable pub names_rest : Place → Bool → TypeTree → Parser Local
  names_rest begin is_const t = do
    x ← one_name
    list ← turns (sees m.Comma) name_more limits.turns (x.0 ∷ [], x.1)
    pure (local_of (span begin list.1) is_const t list.0)

  unfoldable pub variable : Parser Local
  variable = types limits d >>= (λ t. names_rest t.0.place false t.0)

  -- behind `const`
  unfoldable pub constant : Place → Parser Local
  constant begin = types limits d >>= (λ t. names_rest begin true t.0)

  -- ---- changes

  -- behind what assigns
  unfoldable pub assign : ExprTree → Option BinaryOperator → Parser Change
  assign x op = expressions limits d >>= (λ y. pure (changed (span x.place y.0.place) (assigned op x y.0)))

  abbrev pub shift_last_by : ExprTree → Bool → Choice Change
  shift_last_by x true = Take (assign x (Some o.ShiftRight))
  shift_last_by x false = Refuse

  -- behind `>>`, of which the last lies there
  unfoldable pub shift_last : ExprTree → Place → Parser Change
  shift_last x p = next (λ t. shift_last_by x (joined m.Equal p t))

  abbrev pub shift_by : ExprTree → Option Lexed → Bool → Choice Change
  shift_by x t true = Take (shift_last x (place_of t))
  shift_by x t false = Refuse

  -- behind `>`, which lies there
  unfoldable pub shift_assign : ExprTree → Place → Parser Change
  shift_assign x p = next (λ t. shift_by x t (joined m.Greater p t))

  abbrev pub called : ExprTree → Bool → Choice Change
  called x true = Leave (pure (changed x.place (c.Call x)))
  called x false = Refuse

  abbrev pub change_as : ExprTree → Lexed → ChangeUse → Choice Change
  change_as x t what.Assign = Take (assign x None)
  change_as x t (what.Update op) = Take (assign x (Some op))
  change_as x t what.Shift = Take (shift_assign x t.place)
  change_as x t (what.Step step) = Take (pure (changed (span x.place t.place) (c.StepBehind x step)))
  change_as x t what.End = called x (is_call x.node)

  abbrev pub change_kind : ExprTree → Lexed → Kind → Choice Change
  change_kind x t (k.Mark mark) = change_as x t (change_use mark)
  change_kind x t _ = called x (is_call x.node)

  abbrev pub change_at : ExprTree → Option Lexed → Choice Change
  change_at x (Some t) = change_kind x t t.kind
  change_at x None = called x (is_call x.node)

  -- behind the place that is changed, or behind a call
  unfoldable pub change_rest : ExprTree → Parser Change
  change_rest x = next (change_at x)

  unfoldable pub step_before : Place → Step → Parser Change
  step_before begin step = operands limits d >>= (λ x. pure (changed (span begin x.0.place) (c.StepBefore step x.0)))

  unfoldable pub place_change : Parser Change
  place_change = operands limits d >>= (λ x. change_rest x.0)

  abbrev pub begin_as : Lexed → ChangeUse → Choice Change
  begin_as t (what.Step step) = Take (step_before t.place step)
  begin_as t what.Assign = Leave place_change
  begin_as t (what.Update op) = Leave place_change
  begin_as t what.Shift = Leave place_change
  begin_as t what.End = Leave place_change

  abbrev pub begin_kind : Lexed → Kind → Choice Change
  begin_kind t (k.Mark mark) = begin_as t (change_use mark)
  begin_kind t _ = Leave place_change

  abbrev pub begin_at : Option Lexed → Choice Change
  begin_at (Some t) = begin_kind t t.kind
  begin_at None = Leave place_change

  unfoldable pub change : Parser Change
  change = next begin_at

  -- ---- either

  abbrev pub either : Bool → Parser Simple
  either true = variable >>= (λ x. pure (IsLocal x))
  either false = change >>= (λ x. pure (IsChange x))

  abbrev pub simple_by : Option Lexed → Bool → Choice Simple
  simple_by x true = Take (constant (place_of x) >>= (λ y. pure (IsLocal y)))
  simple_by x false = Leave (foresee (local_ahead limits) either)

  unfoldable pub simple : Parser Simple
  simple = next (λ x. simple_by x (sees_word w.Const x))

  -- ---- parts of statements

  abbrev pub maybe_by : Bool → Choice (Option ExprTree)
  maybe_by true = Leave (expressions limits d >>= (λ v. pure (Some v.0)))
  maybe_by false = Leave (pure None)

  -- an expression or nothing
  unfoldable pub maybe : Parser (Option ExprTree)
  maybe = next (λ x. maybe_by (begins x))

  -- a condition in parentheses
  unfoldable pub condition : Parser ExprTree
  condition = do
    expect m.OpenParen
    v ← expressions limits d
    expect m.CloseParen
    pure v.0

  abbrev pub start_of : Simple → LoopStart
  start_of (IsLocal x) = b.Local x
  start_of (IsChange x) = b.Change x

  abbrev pub start_by : Bool → Choice LoopStart
  start_by true = Leave (pure b.Nothing)
  start_by false = Leave (simple >>= (λ x. pure (start_of x)))

  unfoldable pub start : Parser LoopStart
  start = next (λ x. start_by (sees m.Semicolon x))

  abbrev pub step_by : Bool → Choice (Option Change)
  step_by true = Leave (pure None)
  step_by false = Leave (change >>= (λ x. pure (Some x)))

  unfoldable pub step : Parser (Option Change)
  step = next (λ x. step_by (sees m.CloseParen x))

  -- the head of a `for`
  abbrev pub Head : Type 0
  Head = LoopStart × Option ExprTree × Option Change

  unfoldable pub head : Parser Head
  head = do
    expect m.OpenParen
    x ← start
    expect m.Semicolon
    y ← maybe
    expect m.Semicolon
    z ← step
    expect m.CloseParen
    pure (x, y, z)

  abbrev pub simple_stated : Simple → Place → StatTree
  simple_stated (IsLocal x) end = stated (span x.place end) (s.Local x)
  simple_stated (IsChange x) end = stated (span x.place end) (s.Change x)

-- ---- statements

-- room says whether the statement that begins fits; d is how many nodes may stand in it, and inner reads a statement of so
-- many
module _ (limits : Limits) (room : Bool) (d : ℕ) (inner : Parser StatTree) where
  unfoldable pub stat_more : List StatTree → Parser (List StatTree)
  stat_more list = inner >>= (λ x. pure (list ++ x ∷ []))

  abbrev pub in_block : Option Lexed → Bool
  in_block x = not (sees m.CloseBrace x)

  -- behind the opening brace, and the place of the closing one
  unfoldable pub stats : Parser (List StatTree × Place)
  stats = do
    list ← turns in_block stat_more limits.turns []
    end ← expect m.CloseBrace
    pure (list, end)

  unfoldable pub block_rest : Place → Parser StatTree
  block_rest begin = stats >>= (λ x. pure (stated (span begin x.1) (s.Block x.0)))

  unfoldable pub simple_stat : Parser StatTree
  simple_stat = do
    x ← simple limits d
    end ← expect m.Semicolon
    pure (simple_stated limits d x end)

  unfoldable pub if_else : Place → ExprTree → StatTree → Parser StatTree
  if_else begin x y = inner >>= (λ z. pure (stated (span begin z.place) (s.IfElse x y z)))

  abbrev pub else_by : Place → ExprTree → StatTree → Bool → Choice StatTree
  else_by begin x y true = Take (if_else begin x y)
  else_by begin x y false = Leave (pure (stated (span begin y.place) (s.If x y)))

  -- behind `if`
  unfoldable pub if_rest : Place → Parser StatTree
  if_rest begin = do
    x ← condition limits d
    y ← inner
    next (λ t. else_by begin x y (sees_word w.Else t))

  -- behind `for`, of a loop with these attributes
  unfoldable pub for_rest : List Attribute → Place → Parser StatTree
  for_rest list begin = do
    h ← head limits d
    y ← inner
    pure (stated (span (begin_of list begin) y.place) (s.For list h.0 h.1 h.2 y))

  -- behind `while`
  unfoldable pub while_rest : List Attribute → Place → Parser StatTree
  while_rest list begin = do
    x ← condition limits d
    y ← inner
    pure (stated (span (begin_of list begin) y.place) (s.While list x y))

  abbrev pub loop_as : Given → Lexed → StatementUse → Choice StatTree
  loop_as a t u.For = Take (for_rest a.0 t.place)
  loop_as a t u.While = Take (while_rest a.0 t.place)
  loop_as a t _ = Refuse

  abbrev pub loop_at : Given → Option Lexed → Choice StatTree
  loop_at a (Some t) = loop_as a t (statement_use t.kind)
  loop_at a None = Refuse

  -- a loop with attributes
  unfoldable pub loop_rest : Parser StatTree
  loop_rest = attributes limits loops >>= (λ a. next (loop_at a))

  unfoldable pub return_rest : Place → Parser StatTree
  return_rest begin = do
    x ← maybe limits d
    end ← expect m.Semicolon
    pure (stated (span begin end) (s.Return x))

  unfoldable pub break_rest : Place → Parser StatTree
  break_rest begin = expect m.Semicolon >>= (λ end. pure (stated (span begin end) s.Break))

  unfoldable pub continue_rest : Place → Parser StatTree
  continue_rest begin = expect m.Semicolon >>= (λ end. pure (stated (span begin end) s.Continue))

  -- a statement that begins with that token, if it has room
  abbrev pub node : Lexed → Choice StatTree → Choice StatTree
  node t x = if_fits room code.TooNested (Some t) x

  abbrev pub stat_as : Lexed → StatementUse → Choice StatTree
  stat_as t u.Block = node t (Take (block_rest t.place))
  stat_as t u.Empty = node t (Take (pure (stated t.place s.Empty)))
  stat_as t u.Attributes = node t (Leave loop_rest)
  stat_as t u.Simple = node t (Leave simple_stat)
  stat_as t u.If = node t (Take (if_rest t.place))
  stat_as t u.For = node t (Take (for_rest [] t.place))
  stat_as t u.While = node t (Take (while_rest [] t.place))
  stat_as t u.Return = node t (Take (return_rest t.place))
  stat_as t u.Break = node t (Take (break_rest t.place))
  stat_as t u.Continue = node t (Take (continue_rest t.place))
  stat_as t u.Nothing = Refuse

  abbrev pub stat_at : Option Lexed → Choice StatTree
  stat_at (Some t) = stat_as t (statement_use t.kind)
  stat_at None = Refuse

  unfoldable pub stat : Parser StatTree
  stat = next stat_at

  unfoldable pub body_rest : Place → Parser Block
  body_rest begin = stats >>= (λ x. pure (record { place = span begin x.1; statements = x.0 }))

  abbrev pub body_by : Option Lexed → Bool → Choice Block
  body_by x true = if_fits room code.TooNested x (Take (body_rest (place_of x)))
  body_by x false = Refuse

  -- the body of a function
  unfoldable pub body : Parser Block
  body = next (λ x. body_by x (sees m.OpenBrace x))

abbrev pub no_statements : Parser StatTree
no_statements = past code.TooNested (place_of None)

-- a statement of which at most so many nodes stand on a path
unfoldable pub statements : Limits → ℕ → Parser StatTree
statements limits zero = stat limits false zero no_statements
statements limits (suc d) = stat limits true d (statements limits d)

-- a body of which at most so many nodes stand on a path
unfoldable pub blocks : Limits → ℕ → Parser Block
blocks limits zero = body limits false zero no_statements
blocks limits (suc d) = body limits true d (statements limits d)
