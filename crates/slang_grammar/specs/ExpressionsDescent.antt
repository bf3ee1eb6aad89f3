-- The descent into expressions. An answer is an expression and how many nodes stand on its longest path; each parser has a
-- number of nodes that it may put on a path.
use Rattle.std.specs.Prelude.{ℕ, zero, suc, ◌+◌, max, Bool, true, false, ◌||◌, ◌&&◌, ◌==◌, if◌then◌else◌, nat_lt, List, [], ◌∷◌, ◌++◌, length, Option, Some, None}
use Rattle.slang_names.specs.declared.places.Place.{Place}
use Rattle.slang_names.specs.declared.codes.ModuleCode.TheVariants as code
use Rattle.slang_tree.specs.declared.types.Identifier.{Identifier}
use Rattle.slang_tree.specs.declared.types.Builtin.{Builtin}
use Rattle.slang_tree.specs.declared.types.GenericArgument.{GenericArgument}
use Rattle.slang_tree.specs.declared.expressions.UnaryOperator.{UnaryOperator}
use Rattle.slang_tree.specs.declared.expressions.BinaryOperator.{BinaryOperator}
use Rattle.slang_tree.specs.declared.expressions.BinaryOperator.TheVariants as o
use Rattle.slang_tree.specs.declared.expressions.ExprTree.{ExprTree}
use Rattle.slang_tree.specs.declared.expressions.ExprNode.{ExprNode}
use Rattle.slang_tree.specs.declared.expressions.ExprNode.TheVariants as n
use Rattle.slang_tokens.specs.declared.tokens.Kind.{Kind}
use Rattle.slang_tokens.specs.declared.tokens.Kind.TheVariants as k
use Rattle.slang_tokens.specs.declared.tokens.Mark.{Mark}
use Rattle.slang_tokens.specs.declared.tokens.Mark.TheVariants as m
use Rattle.slang_tokens.specs.declared.tokens.Word.{Word}
use Rattle.slang_tokens.specs.declared.tokens.Word.TheVariants as w
use Rattle.slang_reading.specs.Lexed.{Lexed}
use Rattle.slang_reading.specs.Reading.{Parser, Choice, Leave, Take, Refuse, if_fits, ◌>>=◌, ◌>>◌, pure, past, place_of, next, attempt, foresee, turns}
use Rattle.slang_reading.specs.Kinds.{is_mark, sees, span}
use Rattle.slang_grammar.specs.Tables.{builtin_of, unary_of, binary_of, level_of}
use Rattle.slang_grammar.specs.Expressions.{valued, follows, loosest}
use Rattle.slang_grammar.specs.Descent.{Limits, fits_in, expect, identifier, if_short}
use Rattle.slang_grammar.specs.TypesDescent.{Arguments, arguments, types}

-- a tree, and how many nodes stand on its longest path
abbrev pub Value : Type 0
Value = ExprTree × ℕ

abbrev pub Values : Type 0
Values = List ExprTree × ℕ

-- ---- generic arguments behind a name

-- the same limits, and none of lists, names and chains
abbrev pub freed : Limits → Limits
freed limits = record { turns = limits.turns; items = limits.items; names = limits.names; free = true }

-- Generic arguments of any nesting that `(` or `.` follows directly. No text has as many nodes in one another as turns.
unfoldable pub arguments_ahead : Limits → Parser (Arguments × Place)
arguments_ahead limits = arguments (freed limits) true limits.turns (types (freed limits) limits.turns)
    >>= (λ a. next (λ x. if follows x then Leave (pure a) else Refuse))

-- what stands behind a name: arguments, how many nodes stand in them, and the place that ends the whole
abbrev pub Given : Type 0
Given = List GenericArgument × ℕ × Place

abbrev pub given_by : Limits → ℕ → Place → Bool → Parser Given
given_by limits d place true = arguments limits true d (types limits d) >>= (λ a. pure (a.0.0, a.0.1, a.1))
given_by limits d place false = pure ([], 0, place)

abbrev pub given_at : Limits → ℕ → Place → Bool → Choice Given
given_at limits d place true = Leave (foresee (arguments_ahead limits) (given_by limits d place))
given_at limits d place false = Leave (pure ([], 0, place))

-- behind a name at that place, with so many nodes to put on a path inside
unfoldable pub given : Limits → ℕ → Place → Parser Given
given limits d place = next (λ x. given_at limits d place (sees m.Less x))

-- ---- loops whose turn tells whether it was one

abbrev pub again : {A : Type 0} → (A → Parser A) → A → Option A → Parser A
again rest a (Some b) = rest b
again rest a None = pure a

-- While there is one more, more; at most n times.
unfoldable pub repeats : {A : Type 0} → (A → Parser (Option A)) → ℕ → A → Parser A
repeats more zero a = more a >>= again (λ b. past code.TooLong (place_of None)) a
repeats more (suc n) a = more a >>= again (repeats more n) a

-- ---- tokens

abbrev pub is_some : {A : Type 0} → Option A → Bool
is_some (Some a) = true
is_some None = false

abbrev pub word_begins : Word → Bool
word_begins w.True = true
word_begins w.False = true
word_begins w.ThisValue = true
word_begins w.ThisType = true
word_begins word = is_some (builtin_of word)

abbrev pub begins_by : Kind → Bool
begins_by k.Name = true
begins_by (k.Word word) = word_begins word
begins_by (k.Number v) = true
begins_by k.String = false
begins_by (k.Mark m.OpenParen) = true
begins_by (k.Mark mark) = is_some (unary_of mark)

-- what may begin an expression
abbrev pub begins : Option Lexed → Bool
begins (Some t) = begins_by t.kind
begins None = false

abbrev pub adjacent : Place → Place → Bool
adjacent p q = p.end == q.start

-- that mark directly behind a place
abbrev pub joined : Mark → Place → Option Lexed → Bool
joined mark p (Some t) = is_mark mark t.kind && adjacent p t.place
joined mark p None = false

-- `>>`, and where its first mark lies
unfoldable pub shift_ahead : Parser Place
shift_ahead = expect m.Greater >>= (λ p. next (λ x. if joined m.Greater p x then Take (pure p) else Refuse))

-- the word of a cast and the parenthesis that closes it
abbrev pub cast_to : Option Builtin → Choice Builtin
cast_to (Some b) = Take (expect m.CloseParen >>= (λ p. pure b))
cast_to None = Refuse

abbrev pub cast_word : Kind → Choice Builtin
cast_word (k.Word word) = cast_to (builtin_of word)
cast_word _ = Refuse

abbrev pub cast_at : Option Lexed → Choice Builtin
cast_at (Some t) = cast_word t.kind
cast_at None = Refuse

unfoldable pub cast_ahead : Parser Builtin
cast_ahead = next cast_at

-- ---- expressions of at most suc d nodes on a path. inner reads, at each level of operators, expressions of at most d;
-- its level behind the loosest is that of whole expressions.

module _ (limits : Limits) (d : ℕ) (inner : ℕ → Parser Value) where
  -- a whole expression inside
  abbrev pub whole : Parser Value
  whole = inner (suc loosest)

  -- a node over what is read so far, if that leaves room for it
  abbrev pub over : {A : Type 0} → Value → Option Lexed → Choice A → Choice A
  over x t c = if_fits (fits_in limits x.1 (suc d)) code.TooNested t c

  -- ---- values between parentheses

  abbrev pub value_of : Option Lexed → Choice Value
  value_of x = if begins x then if_fits (nat_lt 0 d) code.TooNested x (Leave whole) else Refuse

  -- a value behind so many others
  unfoldable pub value : ℕ → Parser Value
  value count = next (λ x. if_fits (fits_in limits count limits.items) code.TooLong x (value_of x))

  unfoldable pub value_more : Values → Parser Values
  value_more list = do
    expect m.Comma
    x ← value (length list.0)
    pure (list.0 ++ x.0 ∷ [], max list.1 x.1)

  abbrev pub values_by : Bool → Choice (Values × Place)
  values_by true = Leave (expect m.CloseParen >>= (λ end. pure (([], 0), end)))
  values_by false = Leave (value 0 >>= (λ x. turns (sees m.Comma) value_more limits.turns (x.0 ∷ [], x.1) >>= (λ list. expect m.CloseParen >>= (λ end. pure (list, end)))))

  -- behind the opening parenthesis
  unfoldable pub values : Parser (Values × Place)
  values = next (λ x. values_by (sees m.CloseParen x))

  -- ---- primaries

  abbrev pub leaf : Lexed → ExprNode → Choice Value
  leaf t x = Take (pure (valued t.place x, 1))

  unfoldable pub construct : Place → Builtin → Parser Value
  construct begin b = do
    expect m.OpenParen
    v ← values
    pure (valued (span begin v.1) (n.Construct b v.0.0), v.0.1 + 1)

  abbrev pub primary_word : Lexed → Word → Option Builtin → Choice Value
  primary_word t word (Some b) = Take (construct t.place b)
  primary_word t w.True None = leaf t n.True
  primary_word t w.False None = leaf t n.False
  primary_word t w.ThisValue None = leaf t n.ThisValue
  primary_word t w.ThisType None = leaf t n.ThisType
  primary_word t _ None = Refuse

  -- behind a name
  unfoldable pub named : Identifier → Parser Value
  named id = given limits d id.place >>= (λ a. pure (valued (span id.place a.2) (n.Name id a.0), a.1 + 1))

  -- behind an opening parenthesis that begins no cast
  unfoldable pub paren : Place → Parser Value
  paren begin = do
    x ← whole
    end ← expect m.CloseParen
    pure (valued (span begin end) (n.Paren x.0), x.1 + 1)

  abbrev pub primary_by : Lexed → Kind → Choice Value
  primary_by t (k.Number v) = leaf t (n.Number v)
  primary_by t k.Name = if_short limits t (Take (named (identifier t)))
  primary_by t (k.Word word) = primary_word t word (builtin_of word)
  primary_by t (k.Mark m.OpenParen) = Take (paren t.place)
  primary_by t _ = Refuse

  -- ---- members, indices and calls

  unfoldable pub member_name : Value → Identifier → Parser Value
  member_name x id = given limits d id.place >>= (λ a. pure (valued (span x.0.place a.2) (n.Member x.0 id a.0), max x.1 a.1 + 1))

  abbrev pub member_by : Value → Lexed → Kind → Choice Value
  member_by x t k.Name = if_short limits t (Take (member_name x (identifier t)))
  member_by x t _ = Refuse

  abbrev pub member_at : Value → Option Lexed → Choice Value
  member_at x (Some t) = member_by x t t.kind
  member_at x None = Refuse

  unfoldable pub index : Value → Parser Value
  index x = do
    i ← whole
    end ← expect m.CloseBracket
    pure (valued (span x.0.place end) (n.Index x.0 i.0), max x.1 i.1 + 1)

  unfoldable pub call : Value → Parser Value
  call x = values >>= (λ v. pure (valued (span x.0.place v.1) (n.Call x.0 v.0.0), max x.1 v.0.1 + 1))

  abbrev pub chain_by : Value → Option Lexed → Kind → Choice Value
  chain_by x t (k.Mark m.Dot) = over x t (Take (next (member_at x)))
  chain_by x t (k.Mark m.OpenBracket) = over x t (Take (index x))
  chain_by x t (k.Mark m.OpenParen) = over x t (Take (call x))
  chain_by x t _ = Refuse

  abbrev pub chain_at : Value → Option Lexed → Choice Value
  chain_at x (Some t) = chain_by x (Some t) t.kind
  chain_at x None = Refuse

  unfoldable pub chain : Value → Parser Value
  chain x = next (chain_at x)

  abbrev pub chains : Option Lexed → Bool
  chains x = sees m.Dot x || sees m.OpenBracket x || sees m.OpenParen x

  -- behind a primary
  unfoldable pub chain_rest : Value → Parser Value
  chain_rest x = turns chains chain limits.turns x

  abbrev pub primary_at : Option Lexed → Choice Value
  primary_at (Some t) = primary_by t t.kind
  primary_at None = Refuse

  -- a primary with what goes on it
  unfoldable pub postfix : Parser Value
  postfix = next primary_at >>= chain_rest

  -- ---- operators before an operand, and casts

  unfoldable pub prefix : Place → UnaryOperator → Parser Value
  prefix begin op = inner zero >>= (λ x. pure (valued (span begin x.0.place) (n.Unary op x.0), x.1 + 1))

  abbrev pub cast_by : Place → Option Builtin → Parser Value
  cast_by begin (Some b) = inner zero >>= (λ x. pure (valued (span begin x.0.place) (n.Cast b x.0), x.1 + 1))
  cast_by begin None = paren begin >>= chain_rest

  abbrev pub unary_mark : Lexed → Option UnaryOperator → Choice Value
  unary_mark t (Some op) = Take (prefix t.place op)
  unary_mark t None = Leave postfix

  abbrev pub unary_by : Lexed → Kind → Choice Value
  unary_by t (k.Mark m.OpenParen) = Take (attempt cast_ahead (cast_by t.place))
  unary_by t (k.Mark mark) = unary_mark t (unary_of mark)
  unary_by t _ = Leave postfix

  abbrev pub unary_at : Option Lexed → Choice Value
  unary_at (Some t) = unary_by t t.kind
  unary_at None = Refuse

  unfoldable pub unary : Parser Value
  unary = next unary_at

  -- ---- operators between operands

  unfoldable pub operand : ℕ → BinaryOperator → Value → Parser (Option Value)
  operand l op x = inner l >>= (λ z. pure (Some (valued (span x.0.place z.0.place) (n.Binary op x.0 z.0), max x.1 z.1 + 1)))

  -- `>` or `>=`, behind its first mark
  unfoldable pub greater : ℕ → Place → Value → Parser (Option Value)
  greater l p x = next (λ t. if joined m.Equal p t then Take (operand l o.GreaterEqual x) else Leave (operand l o.Greater x))

  abbrev pub shift_by : ℕ → Value → Option Place → Parser (Option Value)
  shift_by l x (Some p) = if fits_in limits x.1 (suc d) then operand l o.ShiftRight x else past code.TooNested p
  shift_by l x None = pure None

  abbrev pub operator_mark : ℕ → Value → Lexed → Option BinaryOperator → Choice (Option Value)
  operator_mark l x t (Some op) = if level_of op == l then over x (Some t) (Take (operand l op x)) else Leave (pure None)
  operator_mark l x t None = Leave (pure None)

  abbrev pub operator_by : ℕ → Value → Lexed → Kind → Choice (Option Value)
  operator_by l x t (k.Mark m.Greater) =
      if l == level_of o.Greater then over x (Some t) (Take (greater l t.place x))
      else (if l == level_of o.ShiftRight then Leave (attempt shift_ahead (shift_by l x)) else Leave (pure None))
  operator_by l x t (k.Mark mark) = operator_mark l x t (binary_of mark)
  operator_by l x t _ = Leave (pure None)

  abbrev pub operator_at : ℕ → Value → Option Lexed → Choice (Option Value)
  operator_at l x (Some t) = operator_by l x t t.kind
  operator_at l x None = Leave (pure None)

  -- one more operator of the level, and what stands on its right; or none
  unfoldable pub operator : ℕ → Value → Parser (Option Value)
  operator l x = next (operator_at l x)

  -- with the operators that bind more tightly than the level
  unfoldable pub level : ℕ → Parser Value
  level zero = unary
  level (suc l) = level l >>= repeats (operator l) limits.turns

  unfoldable pub choice : Value → Parser Value
  choice x = do
    y ← whole
    expect m.Colon
    z ← whole
    pure (valued (span x.0.place z.0.place) (n.Choice x.0 y.0 z.0), max x.1 (max y.1 z.1) + 1)

  abbrev pub choice_by : Value → Option Lexed → Bool → Choice Value
  choice_by x t true = over x t (Take (choice x))
  choice_by x t false = Leave (pure x)

  -- behind operators of all levels
  unfoldable pub choice_rest : Value → Parser Value
  choice_rest x = next (λ t. choice_by x t (sees m.Question t))

  abbrev pub at_level : ℕ → Bool → Parser Value
  at_level l true = level loosest >>= choice_rest
  at_level l false = level l

-- Expressions of at most so many nodes on a path, with the operators that bind more tightly than the level; the level
-- behind the loosest is that of whole expressions. With no node left, what begins an expression passes the limit.
unfoldable pub leveled : Limits → ℕ → ℕ → Parser Value
leveled limits zero l = next (λ x. if begins x then if_fits false code.TooNested x (Take (past code.TooNested (place_of x))) else Refuse)
leveled limits (suc d) l = at_level limits d (leveled limits d) l (l == suc loosest)

-- an expression of at most so many nodes on a path
abbrev pub expressions : Limits → ℕ → Parser Value
expressions limits d = leveled limits d (suc loosest)
