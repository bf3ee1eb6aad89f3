-- The descent into attributes. Where a rule on attributes is broken, it is refused at the name of the attribute, at the
-- first token with which no text goes on that obeys the rules; a free parser takes every attribute.
use Rattle.std.specs.Prelude.{ℕ, Bool, true, false, not, ◌||◌, ◌&&◌, ◌==◌, if◌then◌else◌, List, [], ◌∷◌, ◌++◌, codes, Option, Some, None}
use Rattle.std.specs.List.{list_all}
use Rattle.std.specs.Str.{bytes_eq}
use Rattle.slang_names.specs.declared.places.Place.{Place}
use Rattle.slang_names.specs.declared.codes.ModuleCode.TheVariants as code
use Rattle.slang_names.specs.declared.numbers.Number.{Number}
use Rattle.slang_tree.specs.declared.types.Identifier.{Identifier}
use Rattle.slang_tree.specs.declared.statements.Attribute.{Attribute}
use Rattle.slang_tree.specs.declared.statements.AttributeNode.TheVariants as n
use Rattle.slang_tree.specs.declared.statements.Literal.{Literal}
use Rattle.slang_tree.specs.declared.statements.Literal.TheVariants as l
use Rattle.slang_tokens.specs.declared.tokens.Kind.{Kind}
use Rattle.slang_tokens.specs.declared.tokens.Kind.TheVariants as k
use Rattle.slang_tokens.specs.declared.tokens.Mark.TheVariants as m
use Rattle.slang_reading.specs.Lexed.{Lexed}
use Rattle.slang_reading.specs.Reading.{Parser, Choice, Leave, Take, Refuse, unless_past, ◌>>=◌, ◌>>◌, pure, place_of, next, turns}
use Rattle.slang_reading.specs.Kinds.{sees, span}
use Rattle.slang_grammar.specs.Descent.{Limits, expect, identifier, if_short}
use Rattle.statement_grammar.specs.declared.attributes.KnownAttribute.{KnownAttribute}
use Rattle.statement_grammar.specs.declared.attributes.KnownAttribute.TheVariants as a
use Rattle.statement_grammar.specs.declared.attributes.Target.{Target}
use Rattle.statement_grammar.specs.declared.attributes.Target.TheVariants as t
use Rattle.statement_grammar.specs.AttributeTables.{attribute_of, may_stand, attribute_code}
use Rattle.statement_grammar.specs.Attributes.{attributed, unquoted}
use Rattle.statement_grammar.specs.AttributeRules.{Want, wants_of, meets}

-- what is refused stays so; what would go on breaks a rule on the attribute whose name lies there, unless it is obeyed
abbrev pub if_obeyed : {A : Type 0} → Bool → Place → Choice A → Choice A
if_obeyed true place c = c
if_obeyed false place c = unless_past code.Unsupported place c

-- attributes that are known, and where their names lie
abbrev pub Noted : Type 0
Noted = List (KnownAttribute × Place)

-- attributes so far
abbrev pub Given : Type 0
Given = List Attribute × Noted

-- ---- literals

abbrev pub wants_more : List Want → Bool
wants_more [] = false
wants_more (x ∷ xs) = true

abbrev pub wanted : List Want → Literal → Bool
wanted [] y = false
wanted (x ∷ xs) y = meets x y

abbrev pub later : List Want → List Want
later [] = []
later (x ∷ xs) = xs

-- literals so far, and what is wanted behind them
abbrev pub Literals : Type 0
Literals = List Literal × List Want

module _ (limits : Limits) (place : Place) where
  -- ---- of an attribute whose name lies at that place

  abbrev pub with_literal : Literals → Literal → Choice Literals
  with_literal r x = if_obeyed (limits.free || wanted r.1 x) place (Take (pure (r.0 ++ x ∷ [], later r.1)))

  abbrev pub literal_by : Literals → Lexed → Kind → Choice Literals
  literal_by r t (k.Number v) = with_literal r (l.Number t.place v)
  literal_by r t k.String = with_literal r (l.String t.place (unquoted t.bytes))
  literal_by r t _ = Refuse

  abbrev pub literal_at : Literals → Option Lexed → Choice Literals
  literal_at r (Some t) = literal_by r t t.kind
  literal_at r None = Refuse

  unfoldable pub literal : Literals → Parser Literals
  literal r = next (literal_at r)

  abbrev pub comma_by : Literals → Bool → Choice Literals
  comma_by r true = if_obeyed (limits.free || wants_more r.1) place (Take (literal r))
  comma_by r false = Refuse

  unfoldable pub literal_more : Literals → Parser Literals
  literal_more r = next (λ x. comma_by r (sees m.Comma x))

  abbrev pub close_by : Literals → Bool → Choice (List Literal)
  close_by r true = if_obeyed (limits.free || not (wants_more r.1)) place (Take (pure r.0))
  close_by r false = Refuse

  unfoldable pub close : Literals → Parser (List Literal)
  close r = next (λ x. close_by r (sees m.CloseParen x))

  -- behind the opening parenthesis, with both that close the attribute, and where the last one lies
  unfoldable pub literals : List Want → Parser (List Literal × Place)
  literals wants = do
    x ← literal ([], wants)
    r ← turns (sees m.Comma) literal_more limits.turns x
    list ← close r
    end ← expect m.CloseBracket
    pure (list, end)

  abbrev pub rest_by : List Want → Option Lexed → Bool → Bool → Choice (List Literal × Place)
  rest_by wants x true b = if_obeyed (limits.free || wants_more wants) place (Take (literals wants))
  rest_by wants x false true = if_obeyed (limits.free || not (wants_more wants)) place (Take (pure ([], place_of x)))
  rest_by wants x false false = Refuse

  -- behind the name
  unfoldable pub attribute_rest : List Want → Parser (List Literal × Place)
  attribute_rest wants = next (λ x. rest_by wants x (sees m.OpenParen x) (sees m.CloseBracket x))

-- ---- attributes

-- some of these things may have all of those attributes
abbrev pub possible : List Target → Noted → Bool
possible [] list = false
possible (t ∷ ts) list = list_all (λ x. may_stand x.0 t) list || possible ts list

abbrev pub has : KnownAttribute → Noted → Bool
has known [] = false
has known (x ∷ xs) = attribute_code known == attribute_code x.0 || has known xs

abbrev pub noted : Noted → Option KnownAttribute → Place → Noted
noted list (Some known) place = list ++ (known, place) ∷ []
noted list None place = list

-- whether the attribute is the first of its name, and some of these things may have it with those before it
abbrev pub admits : List Target → Noted → Option KnownAttribute → Place → Bool
admits targets list (Some known) place = not (has known list) && possible targets (list ++ (known, place) ∷ [])
admits targets list None place = false

abbrev pub spelled_by : List ℕ → Lexed → Kind → Choice Place
spelled_by bytes t k.Name = if bytes_eq bytes t.bytes then Take (pure t.place) else Refuse
spelled_by bytes t _ = Refuse

abbrev pub spelled_at : List ℕ → Option Lexed → Choice Place
spelled_at bytes (Some t) = spelled_by bytes t t.kind
spelled_at bytes None = Refuse

-- the name that is spelled so
unfoldable pub spelled : List ℕ → Parser Place
spelled bytes = next (spelled_at bytes)

abbrev pub number_by : Kind → Choice Number
number_by (k.Number v) = Take (pure v)
number_by _ = Refuse

abbrev pub number_at : Option Lexed → Choice Number
number_at (Some t) = number_by t.kind
number_at None = Refuse

unfoldable pub number : Parser Number
number = next number_at

-- of attributes before one of these things, behind those that are given
module _ (limits : Limits) (targets : List Target) (given : Given) where
  unfoldable pub named : Place → Identifier → Option KnownAttribute → Parser Given
  named begin id known = attribute_rest limits id.place (wants_of known)
      >>= (λ r. pure (given.0 ++ attributed (span begin r.1) (n.Named id r.0) ∷ [], noted given.1 known id.place))

  -- behind `vk::binding`, which lies at that place
  unfoldable pub binding_rest : Place → Place → Parser Given
  binding_rest begin place = do
    expect m.OpenParen
    b ← number
    expect m.Comma
    s ← number
    expect m.CloseParen
    expect m.CloseBracket
    end ← expect m.CloseBracket
    pure (given.0 ++ attributed (span begin end) (n.Binding b s) ∷ [], noted given.1 (Some a.Binding) place)

  abbrev pub binding_by : Place → Place → Lexed → Kind → Choice Given
  binding_by begin p t k.Name =
      if bytes_eq (codes "binding") t.bytes then if_obeyed (limits.free || admits targets given.1 (Some a.Binding) (span p t.place)) (span p t.place) (Take (binding_rest begin (span p t.place)))
      else Refuse
  binding_by begin p t _ = Refuse

  abbrev pub binding_at : Place → Place → Option Lexed → Choice Given
  binding_at begin p (Some t) = binding_by begin p t t.kind
  binding_at begin p None = Refuse

  -- behind both brackets
  unfoldable pub binding : Place → Parser Given
  binding begin = do
    p ← spelled (codes "vk")
    expect m.DoubleColon
    next (binding_at begin p)

  abbrev pub attribute_by : Place → Lexed → Kind → Choice Given
  attribute_by begin t k.Name =
      if_obeyed (limits.free || admits targets given.1 (attribute_of t.bytes) t.place) t.place (if_short limits t (Take (named begin (identifier t) (attribute_of t.bytes))))
  attribute_by begin t (k.Mark m.OpenBracket) = Take (binding begin)
  attribute_by begin t _ = Refuse

  abbrev pub attribute_at : Place → Option Lexed → Choice Given
  attribute_at begin (Some t) = attribute_by begin t t.kind
  attribute_at begin None = Refuse

  -- one more attribute
  unfoldable pub attribute : Parser Given
  attribute = expect m.OpenBracket >>= (λ p. next (attribute_at p))

-- the attributes before one of these things
unfoldable pub attributes : Limits → List Target → Parser Given
attributes limits targets = turns (sees m.OpenBracket) (attribute limits targets) limits.turns ([], [])

-- ---- once it is known what they stand before

-- the first that may not stand there
abbrev pub misfit : Target → Noted → Option Place
misfit target [] = None
misfit target (x ∷ xs) = if may_stand x.0 target then misfit target xs else Some x.1

abbrev pub suited : {A : Type 0} → Bool → Option Place → Choice A → Choice A
suited true wrong c = c
suited false None c = c
suited false (Some place) c = if_obeyed false place c

-- the choice at the token that shows that they stand before such a thing
abbrev pub if_suits : {A : Type 0} → Limits → Target → Noted → Choice A → Choice A
if_suits limits target list c = suited limits.free (misfit target list) c

-- what attributes may stand before: a loop; an item of a module; a member or a requirement
abbrev pub loops : List Target
loops = t.Loop ∷ []

abbrev pub items : List Target
items = t.Function ∷ t.Global ∷ t.Other ∷ []

abbrev pub members : List Target
members = t.Method ∷ t.Other ∷ []
