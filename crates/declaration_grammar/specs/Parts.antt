-- Parts of declarations: generic parameters, heads, constraints, parameters. An optional part is there exactly where the
-- token stands that begins it, and what may be repeated goes on exactly where the token stands that begins one more.
use Rattle.std.specs.Prelude.{◌≡◌, ℕ, ◌+◌, Bool, true, false, List, [], ◌∷◌, ◌++◌, drop, Option, Some, None}
use Rattle.slang_names.specs.declared.places.Place.{Place}
use Rattle.slang_names.specs.declared.places.Access.{Access}
use Rattle.slang_names.specs.declared.places.Mode.{Mode}
use Rattle.slang_names.specs.declared.places.Mode.TheVariants as mode
use Rattle.slang_tree.specs.declared.types.Identifier.{Identifier}
use Rattle.slang_tree.specs.declared.types.TypeTree.{TypeTree}
use Rattle.slang_tree.specs.declared.statements.DeclaredName.{DeclaredName}
use Rattle.slang_tree.specs.declared.declarations.GenericParameter.{GenericParameter}
use Rattle.slang_tree.specs.declared.declarations.GenericParameterNode.{GenericParameterNode}
use Rattle.slang_tree.specs.declared.declarations.GenericParameterNode.TheVariants as g
use Rattle.slang_tree.specs.declared.declarations.Constraint.{Constraint}
use Rattle.slang_tree.specs.declared.declarations.Parameter.{Parameter}
use Rattle.slang_tokens.specs.declared.tokens.Kind.{Kind}
use Rattle.slang_tokens.specs.declared.tokens.Kind.TheVariants as k
use Rattle.slang_tokens.specs.declared.tokens.Mark.TheVariants as m
use Rattle.slang_tokens.specs.declared.tokens.Word.{Word}
use Rattle.slang_tokens.specs.declared.tokens.Word.TheVariants as w
use Rattle.slang_reading.specs.Lexed.{Lexed}
use Rattle.slang_reading.specs.Reading.{first}
use Rattle.slang_reading.specs.Kinds.{span}
use Rattle.slang_grammar.specs.Standing.{Stands, NameStands, IsNot}
use Rattle.slang_grammar.specs.Types.{TypeAt}
use Rattle.statement_grammar.specs.Statements.{IsNoWord, DeclaredNameAt}
use Rattle.declaration_grammar.specs.Tables.{access_of, mode_of}

-- ---- access words

abbrev pub is_access : Option Access → Bool
is_access (Some a) = true
is_access None = false

abbrev pub access_by : Kind → Option Access
access_by (k.Word word) = access_of word
access_by _ = None

abbrev pub access_at : Option Lexed → Option Access
access_at (Some t) = access_by t.kind
access_at None = None

pub data AccessAt (ts : List Lexed) : Option Access → ℕ → ℕ → Type 0 where
  no_access : {at : ℕ} → access_at (first (drop at ts)) ≡ None → AccessAt ts None at at
  access : {at : ℕ} {p : Place} {word : Word} {a : Access} → Stands ts at (k.Word word) p → access_of word ≡ Some a → AccessAt ts (Some a) at (at + 1)

-- ---- names behind commas

-- the names so far go on to be that list; the first place is that of the name before, the second that of the last one
pub data NamesAt (ts : List Lexed) : List Identifier → List Identifier → Place → Place → ℕ → ℕ → Type 0 where
  end : {at : ℕ} {list : List Identifier} {p : Place} → IsNot ts m.Comma at → NamesAt ts list list p p at at
  more : {from to : ℕ} {p last end : Place} {id : Identifier} {list all : List Identifier} → Stands ts from (k.Mark m.Comma) p → NameStands ts (from + 1) id →
      NamesAt ts (list ++ id ∷ []) all id.place end (from + 1 + 1) to → NamesAt ts list all last end from to

-- ---- generic parameters

abbrev pub generic_parameter : Place → GenericParameterNode → GenericParameter
generic_parameter p x = record { place = p; node = x }

pub data GenericParameterAt (ts : List Lexed) : GenericParameter → ℕ → ℕ → Type 0 where
  plain : {at : ℕ} {id : Identifier} → NameStands ts at id → IsNot ts m.Colon (at + 1) → GenericParameterAt ts (generic_parameter id.place (g.Term id None)) at (at + 1)
  bounded : {from : ℕ} {p : Place} {id bound : Identifier} → NameStands ts from id → Stands ts (from + 1) (k.Mark m.Colon) p → NameStands ts (from + 1 + 1) bound →
      GenericParameterAt ts (generic_parameter (span id.place bound.place) (g.Term id (Some bound))) from (from + 1 + 1 + 1)
  number : {from : ℕ} {p q r : Place} {id : Identifier} → Stands ts from (k.Word w.Let) p → NameStands ts (from + 1) id → Stands ts (from + 1 + 1) (k.Mark m.Colon) q →
      Stands ts (from + 1 + 1 + 1) (k.Word w.Int) r → GenericParameterAt ts (generic_parameter (span p r) (g.Number id)) from (from + 1 + 1 + 1 + 1)

-- the list so far goes on to be that list
pub data MoreGenericsAt (ts : List Lexed) : List GenericParameter → List GenericParameter → ℕ → ℕ → Type 0 where
  end : {at : ℕ} {list : List GenericParameter} → MoreGenericsAt ts list list at at
  more : {from mid to : ℕ} {p : Place} {x : GenericParameter} {list all : List GenericParameter} → Stands ts from (k.Mark m.Comma) p → GenericParameterAt ts x (from + 1) mid →
      MoreGenericsAt ts (list ++ x ∷ []) all mid to → MoreGenericsAt ts list all from to

pub data GenericsAt (ts : List Lexed) : List GenericParameter → ℕ → ℕ → Type 0 where
  no_generics : {at : ℕ} → IsNot ts m.Less at → GenericsAt ts [] at at
  generics : {from mid at : ℕ} {p q : Place} {x : GenericParameter} {all : List GenericParameter} → Stands ts from (k.Mark m.Less) p → GenericParameterAt ts x (from + 1) mid →
      MoreGenericsAt ts (x ∷ []) all mid at → Stands ts at (k.Mark m.Greater) q → GenericsAt ts all from (at + 1)

-- ---- what a struct or an extension conforms to

pub data HeadsAt (ts : List Lexed) : List Identifier → ℕ → ℕ → Type 0 where
  no_heads : {at : ℕ} → IsNot ts m.Colon at → HeadsAt ts [] at at
  heads : {from to : ℕ} {p end : Place} {id : Identifier} {all : List Identifier} → Stands ts from (k.Mark m.Colon) p → NameStands ts (from + 1) id →
      NamesAt ts (id ∷ []) all id.place end (from + 1 + 1) to → HeadsAt ts all from to

-- ---- constraints

abbrev pub constraint_of : Place → Identifier → List Identifier → Constraint
constraint_of p subject list = record { place = p; subject = subject; interfaces = list }

pub data ConstraintAt (ts : List Lexed) : Constraint → ℕ → ℕ → Type 0 where
  constraint : {from to : ℕ} {p q end : Place} {subject id : Identifier} {all : List Identifier} → Stands ts from (k.Word w.Where) p → NameStands ts (from + 1) subject →
      Stands ts (from + 1 + 1) (k.Mark m.Colon) q → NameStands ts (from + 1 + 1 + 1) id → NamesAt ts (id ∷ []) all id.place end (from + 1 + 1 + 1 + 1) to →
      ConstraintAt ts (constraint_of (span p end) subject all) from to

-- the list so far goes on to be that list
pub data ConstraintsAt (ts : List Lexed) : List Constraint → List Constraint → ℕ → ℕ → Type 0 where
  end : {at : ℕ} {list : List Constraint} → IsNoWord ts w.Where at → ConstraintsAt ts list list at at
  more : {from mid to : ℕ} {x : Constraint} {list all : List Constraint} → ConstraintAt ts x from mid → ConstraintsAt ts (list ++ x ∷ []) all mid to → ConstraintsAt ts list all from to

-- ---- parameters

-- how a parameter is passed, its type, and where it begins
pub data PassedAt (ts : List Lexed) : Mode → TypeTree → Place → ℕ → ℕ → Type 0 where
  plain : {from to : ℕ} {t : TypeTree} → TypeAt ts t from to → PassedAt ts mode.In t t.place from to
  moded : {from to : ℕ} {p : Place} {word : Word} {how : Mode} {t : TypeTree} → Stands ts from (k.Word word) p → mode_of word ≡ Some how → TypeAt ts t (from + 1) to →
      PassedAt ts how t p from to

-- what stands behind the name; the first place is that of the token before, the second that of the last one
pub data SemanticAt (ts : List Lexed) : Option Identifier → Place → Place → ℕ → ℕ → Type 0 where
  no_semantic : {at : ℕ} {p : Place} → IsNot ts m.Colon at → SemanticAt ts None p p at at
  semantic : {at : ℕ} {p q : Place} {id : Identifier} → Stands ts at (k.Mark m.Colon) q → NameStands ts (at + 1) id → SemanticAt ts (Some id) p id.place at (at + 1 + 1)

abbrev pub parameter_of : Place → Mode → TypeTree → DeclaredName → Option Identifier → Parameter
parameter_of p how t x id = record { place = p; mode = how; kind = t; name = x; semantic = id }

pub data ParameterAt (ts : List Lexed) : Parameter → ℕ → ℕ → Type 0 where
  parameter : {from mid at to : ℕ} {begin last end : Place} {how : Mode} {t : TypeTree} {x : DeclaredName} {id : Option Identifier} → PassedAt ts how t begin from mid →
      DeclaredNameAt ts x last mid at → SemanticAt ts id last end at to → ParameterAt ts (parameter_of (span begin end) how t x id) from to

-- the list so far goes on to be that list
pub data MoreParametersAt (ts : List Lexed) : List Parameter → List Parameter → ℕ → ℕ → Type 0 where
  end : {at : ℕ} {list : List Parameter} → MoreParametersAt ts list list at at
  more : {from mid to : ℕ} {p : Place} {x : Parameter} {list all : List Parameter} → Stands ts from (k.Mark m.Comma) p → ParameterAt ts x (from + 1) mid →
      MoreParametersAt ts (list ++ x ∷ []) all mid to → MoreParametersAt ts list all from to

-- parameters with their parentheses
pub data ParametersAt (ts : List Lexed) : List Parameter → ℕ → ℕ → Type 0 where
  no_parameters : {from : ℕ} {p q : Place} → Stands ts from (k.Mark m.OpenParen) p → Stands ts (from + 1) (k.Mark m.CloseParen) q → ParametersAt ts [] from (from + 1 + 1)
  parameters : {from mid at : ℕ} {p q : Place} {x : Parameter} {all : List Parameter} → Stands ts from (k.Mark m.OpenParen) p → ParameterAt ts x (from + 1) mid →
      MoreParametersAt ts (x ∷ []) all mid at → Stands ts at (k.Mark m.CloseParen) q → ParametersAt ts all from (at + 1)

-- ---- what closes a struct, an interface or an extension: a brace, with a semicolon if one stands there

pub data ClosedAt (ts : List Lexed) : Place → ℕ → ℕ → Type 0 where
  brace : {at : ℕ} {p : Place} → Stands ts at (k.Mark m.CloseBrace) p → IsNot ts m.Semicolon (at + 1) → ClosedAt ts p at (at + 1)
  semicolon : {at : ℕ} {p q : Place} → Stands ts at (k.Mark m.CloseBrace) p → Stands ts (at + 1) (k.Mark m.Semicolon) q → ClosedAt ts q at (at + 1 + 1)
