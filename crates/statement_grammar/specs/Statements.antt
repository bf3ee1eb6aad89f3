-- Statements: which tokens spell which statement. An optional part is there exactly where the token stands that begins
-- it, and what may be repeated goes on exactly where the token stands that begins one more. The limits of nesting and of
-- lists are no part of the grammar.
use Rattle.std.specs.Prelude.{◌≡◌, ℕ, ◌+◌, Bool, true, false, List, [], ◌∷◌, ◌++◌, drop, Option, Some, None}
use Rattle.slang_names.specs.declared.places.Place.{Place}
use Rattle.slang_tree.specs.declared.types.Identifier.{Identifier}
use Rattle.slang_tree.specs.declared.types.Term.{Term}
use Rattle.slang_tree.specs.declared.types.TypeTree.{TypeTree}
use Rattle.slang_tree.specs.declared.expressions.BinaryOperator.{BinaryOperator}
use Rattle.slang_tree.specs.declared.expressions.BinaryOperator.TheVariants as o
use Rattle.slang_tree.specs.declared.expressions.ExprTree.{ExprTree}
use Rattle.slang_tree.specs.declared.expressions.ExprNode.{ExprNode, Call'}
use Rattle.slang_tree.specs.declared.statements.Attribute.{Attribute}
use Rattle.slang_tree.specs.declared.statements.DeclaredName.{DeclaredName}
use Rattle.slang_tree.specs.declared.statements.Initializer.{Initializer}
use Rattle.slang_tree.specs.declared.statements.Initializer.TheVariants as i
use Rattle.slang_tree.specs.declared.statements.ListTree.{ListTree}
use Rattle.slang_tree.specs.declared.statements.LocalName.{LocalName}
use Rattle.slang_tree.specs.declared.statements.Local.{Local}
use Rattle.slang_tree.specs.declared.statements.Step.{Step}
use Rattle.slang_tree.specs.declared.statements.Change.{Change}
use Rattle.slang_tree.specs.declared.statements.ChangeNode.{ChangeNode}
use Rattle.slang_tree.specs.declared.statements.ChangeNode.TheVariants as c
use Rattle.slang_tree.specs.declared.statements.LoopStart.{LoopStart}
use Rattle.slang_tree.specs.declared.statements.LoopStart.TheVariants as b
use Rattle.slang_tree.specs.declared.statements.StatTree.{StatTree}
use Rattle.slang_tree.specs.declared.statements.StatNode.{StatNode}
use Rattle.slang_tree.specs.declared.statements.StatNode.TheVariants as s
use Rattle.slang_tree.specs.declared.statements.Block.{Block}
use Rattle.slang_tokens.specs.declared.tokens.Kind.TheVariants as k
use Rattle.slang_tokens.specs.declared.tokens.Mark.{Mark}
use Rattle.slang_tokens.specs.declared.tokens.Mark.TheVariants as m
use Rattle.slang_tokens.specs.declared.tokens.Word.{Word}
use Rattle.slang_tokens.specs.declared.tokens.Word.TheVariants as w
use Rattle.slang_reading.specs.Lexed.{Lexed}
use Rattle.slang_reading.specs.Reading.{first}
use Rattle.slang_reading.specs.Kinds.{sees_word, span}
use Rattle.slang_grammar.specs.Standing.{Stands, NameStands, IsNot}
use Rattle.slang_grammar.specs.Types.{TypeAt, TermAt}
use Rattle.slang_grammar.specs.Expressions.{ExprAt, PostfixAt}
use Rattle.statement_grammar.specs.declared.tables.ChangeUse.TheVariants as what
use Rattle.statement_grammar.specs.Tables.{change_use}
use Rattle.statement_grammar.specs.Attributes.{AttributesAt, begin_of}

-- the token at the index is not this word
pub record IsNoWord (ts : List Lexed) (word : Word) (at : ℕ) : Type 0 where
  pub is : sees_word word (first (drop at ts)) ≡ false

-- ---- declared names

-- from the name to the end of the last token, which is the name itself where no length stands behind it
abbrev pub declared : Identifier → List Term → Place → DeclaredName
declared id list end = record { place = span id.place end; name = id; lengths = list }

-- the lengths so far go on to be that list; the first place is that of the token before, the second that of the last one
pub data LengthsAt (ts : List Lexed) : List Term → List Term → Place → Place → ℕ → ℕ → Type 0 where
  end : {at : ℕ} {list : List Term} {p : Place} → IsNot ts m.OpenBracket at → LengthsAt ts list list p p at at
  more : {from to : ℕ} {p q last end : Place} {x : Term} {list all : List Term} → Stands ts from (k.Mark m.OpenBracket) p → TermAt ts x (from + 1) →
      Stands ts (from + 1 + 1) (k.Mark m.CloseBracket) q → LengthsAt ts (list ++ x ∷ []) all q end (from + 1 + 1 + 1) to →
      LengthsAt ts list all last end from to

-- a name with lengths of arrays behind it, and the place of its last token
pub data DeclaredNameAt (ts : List Lexed) : DeclaredName → Place → ℕ → ℕ → Type 0 where
  declared_name : {from to : ℕ} {end : Place} {id : Identifier} {list : List Term} → NameStands ts from id → LengthsAt ts [] list id.place end (from + 1) to →
      DeclaredNameAt ts (declared id list end) end from to

-- ---- what locals begin with

abbrev pub listed : Place → List Initializer → ListTree
listed p list = record { place = p; items = list }

mutual
  -- an expression or a list in braces, and a place that ends with it
  pub data InitializerAt (ts : List Lexed) : Initializer → Place → ℕ → ℕ → Type 0 where
    expression : {from to : ℕ} {x : ExprTree} → ExprAt ts x from to → InitializerAt ts (i.Expression x) x.place from to
    braces : {from to : ℕ} {x : ListTree} → ListAt ts x from to → InitializerAt ts (i.List x) x.place from to

  pub data ListAt (ts : List Lexed) : ListTree → ℕ → ℕ → Type 0 where
    no_items : {from : ℕ} {p q : Place} → Stands ts from (k.Mark m.OpenBrace) p → Stands ts (from + 1) (k.Mark m.CloseBrace) q →
        ListAt ts (listed (span p q) []) from (from + 1 + 1)
    items : {from mid at : ℕ} {p q last : Place} {x : Initializer} {all : List Initializer} → Stands ts from (k.Mark m.OpenBrace) p →
        InitializerAt ts x last (from + 1) mid → MoreItemsAt ts (x ∷ []) all mid at → Stands ts at (k.Mark m.CloseBrace) q →
        ListAt ts (listed (span p q) all) from (at + 1)

  -- the list so far goes on to be that list
  pub data MoreItemsAt (ts : List Lexed) : List Initializer → List Initializer → ℕ → ℕ → Type 0 where
    end : {at : ℕ} {list : List Initializer} → MoreItemsAt ts list list at at
    more : {from mid to : ℕ} {p last : Place} {x : Initializer} {list all : List Initializer} → Stands ts from (k.Mark m.Comma) p →
        InitializerAt ts x last (from + 1) mid → MoreItemsAt ts (list ++ x ∷ []) all mid to → MoreItemsAt ts list all from to

-- ---- locals, to before the semicolon

abbrev pub local_name : DeclaredName → Option Initializer → LocalName
local_name x v = record { name = x; value = v }

-- a declared name and what it begins with, and a place that ends with it
pub data LocalNameAt (ts : List Lexed) : LocalName → Place → ℕ → ℕ → Type 0 where
  alone : {from to : ℕ} {end : Place} {x : DeclaredName} → DeclaredNameAt ts x end from to → IsNot ts m.Equal to → LocalNameAt ts (local_name x None) end from to
  begun : {from mid to : ℕ} {p last end : Place} {x : DeclaredName} {v : Initializer} → DeclaredNameAt ts x last from mid → Stands ts mid (k.Mark m.Equal) p →
      InitializerAt ts v end (mid + 1) to → LocalNameAt ts (local_name x (Some v)) end from to

-- the names so far go on to be that list; the first place ends with the name before, the second with the last one
pub data MoreLocalNamesAt (ts : List Lexed) : List LocalName → List LocalName → Place → Place → ℕ → ℕ → Type 0 where
  end : {at : ℕ} {list : List LocalName} {p : Place} → IsNot ts m.Comma at → MoreLocalNamesAt ts list list p p at at
  more : {from mid to : ℕ} {p next last end : Place} {x : LocalName} {list all : List LocalName} → Stands ts from (k.Mark m.Comma) p →
      LocalNameAt ts x next (from + 1) mid → MoreLocalNamesAt ts (list ++ x ∷ []) all next end mid to → MoreLocalNamesAt ts list all last end from to

abbrev pub local_of : Place → Bool → TypeTree → List LocalName → Local
local_of p is_const t list = record { place = p; is_const = is_const; kind = t; names = list }

pub data LocalAt (ts : List Lexed) : Local → ℕ → ℕ → Type 0 where
  variable : {from mid at to : ℕ} {last end : Place} {t : TypeTree} {x : LocalName} {all : List LocalName} → TypeAt ts t from mid → LocalNameAt ts x last mid at →
      MoreLocalNamesAt ts (x ∷ []) all last end at to → LocalAt ts (local_of (span t.place end) false t all) from to
  constant : {from mid at to : ℕ} {p last end : Place} {t : TypeTree} {x : LocalName} {all : List LocalName} → Stands ts from (k.Word w.Const) p →
      TypeAt ts t (from + 1) mid → LocalNameAt ts x last mid at → MoreLocalNamesAt ts (x ∷ []) all last end at to →
      LocalAt ts (local_of (span p end) true t all) from to

-- ---- changes and calls, to before the semicolon

abbrev pub changed : Place → ChangeNode → Change
changed p x = record { place = p; node = x }

-- `=`, or an operator with `=`; `>>=` is three marks directly behind each other
pub data AssignAt (ts : List Lexed) : Option BinaryOperator → ℕ → ℕ → Type 0 where
  assign : {at : ℕ} {p : Place} → Stands ts at (k.Mark m.Equal) p → AssignAt ts None at (at + 1)
  update : {at : ℕ} {p : Place} {x : Mark} {op : BinaryOperator} → Stands ts at (k.Mark x) p → change_use x ≡ what.Update op → AssignAt ts (Some op) at (at + 1)
  shift_right : {at : ℕ} {p q r : Place} → Stands ts at (k.Mark m.Greater) p → Stands ts (at + 1) (k.Mark m.Greater) q → p.end ≡ q.start →
      Stands ts (at + 1 + 1) (k.Mark m.Equal) r → q.end ≡ r.start → AssignAt ts (Some o.ShiftRight) at (at + 1 + 1 + 1)

-- what is done to a place with a value
abbrev pub assigned : Option BinaryOperator → ExprTree → ExprTree → ChangeNode
assigned None x y = c.Assign x y
assigned (Some op) x y = c.Update op x y

-- a call is what ends with arguments
abbrev pub is_call : ExprNode → Bool
is_call (Call' _ _ _ _) = true
is_call _ = false

pub data ChangeAt (ts : List Lexed) : Change → ℕ → ℕ → Type 0 where
  assignment : {from mid at to : ℕ} {x y : ExprTree} {op : Option BinaryOperator} → PostfixAt ts x from mid → AssignAt ts op mid at → ExprAt ts y at to →
      ChangeAt ts (changed (span x.place y.place) (assigned op x y)) from to
  step_before : {from to : ℕ} {p : Place} {x : ExprTree} {mark : Mark} {step : Step} → Stands ts from (k.Mark mark) p → change_use mark ≡ what.Step step →
      PostfixAt ts x (from + 1) to → ChangeAt ts (changed (span p x.place) (c.StepBefore step x)) from to
  step_behind : {from at : ℕ} {p : Place} {x : ExprTree} {mark : Mark} {step : Step} → PostfixAt ts x from at → Stands ts at (k.Mark mark) p →
      change_use mark ≡ what.Step step → ChangeAt ts (changed (span x.place p) (c.StepBehind x step)) from (at + 1)
  call : {from to : ℕ} {x : ExprTree} → PostfixAt ts x from to → is_call x.node ≡ true → ChangeAt ts (changed x.place (c.Call x)) from to

-- ---- statements

-- an expression or nothing
pub data MaybeAt (ts : List Lexed) : Option ExprTree → ℕ → ℕ → Type 0 where
  absent : {at : ℕ} → MaybeAt ts None at at
  present : {from to : ℕ} {x : ExprTree} → ExprAt ts x from to → MaybeAt ts (Some x) from to

-- the first part of the head of a `for`
pub data StartAt (ts : List Lexed) : LoopStart → ℕ → ℕ → Type 0 where
  nothing : {at : ℕ} → StartAt ts b.Nothing at at
  local : {from to : ℕ} {x : Local} → LocalAt ts x from to → StartAt ts (b.Local x) from to
  change : {from to : ℕ} {x : Change} → ChangeAt ts x from to → StartAt ts (b.Change x) from to

-- its last part
pub data StepAt (ts : List Lexed) : Option Change → ℕ → ℕ → Type 0 where
  absent : {at : ℕ} → StepAt ts None at at
  present : {from to : ℕ} {x : Change} → ChangeAt ts x from to → StepAt ts (Some x) from to

-- the head of a `for`, from behind the word to the closing parenthesis
pub data HeadAt (ts : List Lexed) : LoopStart → Option ExprTree → Option Change → ℕ → ℕ → Type 0 where
  head : {from mid at to : ℕ} {p q r u : Place} {start : LoopStart} {condition : Option ExprTree} {step : Option Change} → Stands ts from (k.Mark m.OpenParen) p →
      StartAt ts start (from + 1) mid → Stands ts mid (k.Mark m.Semicolon) q → MaybeAt ts condition (mid + 1) at → Stands ts at (k.Mark m.Semicolon) r →
      StepAt ts step (at + 1) to → Stands ts to (k.Mark m.CloseParen) u → HeadAt ts start condition step from (to + 1)

-- a condition in parentheses
pub data ConditionAt (ts : List Lexed) : ExprTree → ℕ → ℕ → Type 0 where
  condition : {from at : ℕ} {p q : Place} {x : ExprTree} → Stands ts from (k.Mark m.OpenParen) p → ExprAt ts x (from + 1) at → Stands ts at (k.Mark m.CloseParen) q →
      ConditionAt ts x from (at + 1)

abbrev pub stated : Place → StatNode → StatTree
stated p x = record { place = p; node = x }

mutual
  pub data StatAt (ts : List Lexed) : StatTree → ℕ → ℕ → Type 0 where
    block : {from to : ℕ} {p end : Place} {list : List StatTree} → Stands ts from (k.Mark m.OpenBrace) p → StatsAt ts [] list end (from + 1) to →
        StatAt ts (stated (span p end) (s.Block list)) from to
    local : {from at : ℕ} {end : Place} {x : Local} → LocalAt ts x from at → Stands ts at (k.Mark m.Semicolon) end → StatAt ts (stated (span x.place end) (s.Local x)) from (at + 1)
    change : {from at : ℕ} {end : Place} {x : Change} → ChangeAt ts x from at → Stands ts at (k.Mark m.Semicolon) end → StatAt ts (stated (span x.place end) (s.Change x)) from (at + 1)
    empty : {at : ℕ} {p : Place} → Stands ts at (k.Mark m.Semicolon) p → StatAt ts (stated p s.Empty) at (at + 1)
    -- an `else` belongs to the nearest `if`, so that none stands behind an `if` that has none
    if_alone : {from mid to : ℕ} {p : Place} {x : ExprTree} {y : StatTree} → Stands ts from (k.Word w.If) p → ConditionAt ts x (from + 1) mid → StatAt ts y mid to →
        IsNoWord ts w.Else to → StatAt ts (stated (span p y.place) (s.If x y)) from to
    if_else : {from mid at to : ℕ} {p q : Place} {x : ExprTree} {y z : StatTree} → Stands ts from (k.Word w.If) p → ConditionAt ts x (from + 1) mid → StatAt ts y mid at →
        Stands ts at (k.Word w.Else) q → StatAt ts z (at + 1) to → StatAt ts (stated (span p z.place) (s.IfElse x y z)) from to
    for_loop : {from mid at to : ℕ} {p : Place} {attributes : List Attribute} {start : LoopStart} {condition : Option ExprTree} {step : Option Change} {body : StatTree} →
        AttributesAt ts [] attributes from mid → Stands ts mid (k.Word w.For) p → HeadAt ts start condition step (mid + 1) at → StatAt ts body at to →
        StatAt ts (stated (span (begin_of attributes p) body.place) (s.For attributes start condition step body)) from to
    while_loop : {from mid at to : ℕ} {p : Place} {attributes : List Attribute} {x : ExprTree} {body : StatTree} → AttributesAt ts [] attributes from mid →
        Stands ts mid (k.Word w.While) p → ConditionAt ts x (mid + 1) at → StatAt ts body at to →
        StatAt ts (stated (span (begin_of attributes p) body.place) (s.While attributes x body)) from to
    return_value : {from at : ℕ} {p end : Place} {x : Option ExprTree} → Stands ts from (k.Word w.Return) p → MaybeAt ts x (from + 1) at → Stands ts at (k.Mark m.Semicolon) end →
        StatAt ts (stated (span p end) (s.Return x)) from (at + 1)
    break_loop : {from : ℕ} {p end : Place} → Stands ts from (k.Word w.Break) p → Stands ts (from + 1) (k.Mark m.Semicolon) end → StatAt ts (stated (span p end) s.Break) from (from + 1 + 1)
    continue_loop : {from : ℕ} {p end : Place} → Stands ts from (k.Word w.Continue) p → Stands ts (from + 1) (k.Mark m.Semicolon) end →
        StatAt ts (stated (span p end) s.Continue) from (from + 1 + 1)

  -- the statements so far go on to be that list, up to the closing brace at that place
  pub data StatsAt (ts : List Lexed) : List StatTree → List StatTree → Place → ℕ → ℕ → Type 0 where
    end : {at : ℕ} {p : Place} {list : List StatTree} → Stands ts at (k.Mark m.CloseBrace) p → StatsAt ts list list p at (at + 1)
    more : {from mid to : ℕ} {p : Place} {x : StatTree} {list all : List StatTree} → StatAt ts x from mid → StatsAt ts (list ++ x ∷ []) all p mid to → StatsAt ts list all p from to

-- the body of a function
pub data BlockAt (ts : List Lexed) : Block → ℕ → ℕ → Type 0 where
  block : {from to : ℕ} {p end : Place} {list : List StatTree} → Stands ts from (k.Mark m.OpenBrace) p → StatsAt ts [] list end (from + 1) to →
      BlockAt ts (record { place = span p end; statements = list }) from to
