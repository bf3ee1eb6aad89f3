-- Types: which tokens spell which type. Each relation says that the tokens from one index up to another spell that tree.
-- The limits of nesting and of lists are no part of the grammar.
use Rattle.std.specs.Prelude.{◌≡◌, ℕ, ◌+◌, List, [], ◌∷◌, ◌++◌, Some}
use Rattle.slang_names.specs.declared.places.Place.{Place}
use Rattle.slang_names.specs.declared.numbers.Number.{Number}
use Rattle.slang_tree.specs.declared.types.Identifier.{Identifier}
use Rattle.slang_tree.specs.declared.types.Builtin.{Builtin}
use Rattle.slang_tree.specs.declared.types.Resource.{Resource}
use Rattle.slang_tree.specs.declared.types.Term.{Term}
use Rattle.slang_tree.specs.declared.types.Term.TheVariants as term
use Rattle.slang_tree.specs.declared.types.TypeTree.{TypeTree}
use Rattle.slang_tree.specs.declared.types.TypeNode.{TypeNode}
use Rattle.slang_tree.specs.declared.types.TypeNode.TheVariants as n
use Rattle.slang_tree.specs.declared.types.GenericArgument.{GenericArgument}
use Rattle.slang_tree.specs.declared.types.GenericArgument.TheVariants as g
use Rattle.slang_tokens.specs.declared.tokens.Kind.TheVariants as k
use Rattle.slang_tokens.specs.declared.tokens.Mark.TheVariants as m
use Rattle.slang_tokens.specs.declared.tokens.Word.{Word}
use Rattle.slang_tokens.specs.declared.tokens.Word.TheVariants as w
use Rattle.slang_reading.specs.Lexed.{Lexed}
use Rattle.slang_reading.specs.Kinds.{span}
use Rattle.slang_grammar.specs.Tables.{builtin_of, resource_of}
use Rattle.slang_grammar.specs.Standing.{Stands, NameStands, IsNot}

abbrev pub typed : Place → TypeNode → TypeTree
typed p x = record { place = p; node = x }

-- a number or a name, as it stands between brackets
pub data TermAt (ts : List Lexed) : Term → ℕ → Type 0 where
  number_term : {at : ℕ} {p : Place} {v : Number} → Stands ts at (k.Number v) p → TermAt ts (term.Number p v) at
  name_term : {at : ℕ} {id : Identifier} → NameStands ts at id → TermAt ts (term.Name id) at

mutual
  -- a name with what is projected from it, and at last a length in brackets
  pub data TypeAt (ts : List Lexed) : TypeTree → ℕ → ℕ → Type 0 where
    plain : {from mid to : ℕ} {x y : TypeTree} → TypeNameAt ts x from mid → ProjectionsAt ts x y mid to → TypeAt ts y from to
    array : {from mid at : ℕ} {x y : TypeTree} {t : Term} {p end : Place} → TypeNameAt ts x from mid → ProjectionsAt ts x y mid at →
        Stands ts at (k.Mark m.OpenBracket) p → TermAt ts t (at + 1) → Stands ts (at + 1 + 1) (k.Mark m.CloseBracket) end →
        TypeAt ts (typed (span y.place end) (n.Array y t)) from (at + 1 + 1 + 1)

  -- x goes on with a dot and a name, any number of times, and becomes y
  pub data ProjectionsAt (ts : List Lexed) : TypeTree → TypeTree → ℕ → ℕ → Type 0 where
    whole : {at : ℕ} {x : TypeTree} → ProjectionsAt ts x x at at
    project : {from to : ℕ} {x y : TypeTree} {p : Place} {id : Identifier} → Stands ts from (k.Mark m.Dot) p → NameStands ts (from + 1) id →
        ProjectionsAt ts (typed (span x.place id.place) (n.Projection x id)) y (from + 1 + 1) to → ProjectionsAt ts x y from to

  pub data TypeNameAt (ts : List Lexed) : TypeTree → ℕ → ℕ → Type 0 where
    builtin : {at : ℕ} {p : Place} {word : Word} {b : Builtin} → Stands ts at (k.Word word) p → builtin_of word ≡ Some b → TypeNameAt ts (typed p (n.Builtin b)) at (at + 1)
    this_type : {at : ℕ} {p : Place} → Stands ts at (k.Word w.ThisType) p → TypeNameAt ts (typed p n.ThisType) at (at + 1)
    name : {at : ℕ} {id : Identifier} → NameStands ts at id → TypeNameAt ts (typed id.place (n.Named id [])) at (at + 1)
    generic : {from to : ℕ} {id : Identifier} {args : List GenericArgument} {end : Place} → NameStands ts from id → ArgumentsAt ts args end (from + 1) to →
        TypeNameAt ts (typed (span id.place end) (n.Named id args)) from to
    resource : {from at : ℕ} {p q end : Place} {word : Word} {r : Resource} {x : TypeTree} → Stands ts from (k.Word word) p → resource_of word ≡ Some r →
        Stands ts (from + 1) (k.Mark m.Less) q → TypeAt ts x (from + 1 + 1) at → Stands ts at (k.Mark m.Greater) end →
        TypeNameAt ts (typed (span p end) (n.Resource r x)) from (at + 1)

  -- generic arguments with their brackets; the place is that of the bracket that closes them
  pub data ArgumentsAt (ts : List Lexed) : List GenericArgument → Place → ℕ → ℕ → Type 0 where
    arguments : {from mid at : ℕ} {p end : Place} {x : GenericArgument} {args : List GenericArgument} → Stands ts from (k.Mark m.Less) p → ArgumentAt ts x (from + 1) mid →
        MoreArgumentsAt ts (x ∷ []) args mid at → Stands ts at (k.Mark m.Greater) end → ArgumentsAt ts args end from (at + 1)

  -- the list so far goes on to be that list
  pub data MoreArgumentsAt (ts : List Lexed) : List GenericArgument → List GenericArgument → ℕ → ℕ → Type 0 where
    end : {at : ℕ} {list : List GenericArgument} → MoreArgumentsAt ts list list at at
    more : {from mid to : ℕ} {p : Place} {x : GenericArgument} {list all : List GenericArgument} → Stands ts from (k.Mark m.Comma) p → ArgumentAt ts x (from + 1) mid →
        MoreArgumentsAt ts (list ++ x ∷ []) all mid to → MoreArgumentsAt ts list all from to

  pub data ArgumentAt (ts : List Lexed) : GenericArgument → ℕ → ℕ → Type 0 where
    type_argument : {from to : ℕ} {x : TypeTree} → TypeAt ts x from to → ArgumentAt ts (g.Term x) from to
    number_argument : {at : ℕ} {p : Place} {v : Number} → Stands ts at (k.Number v) p → ArgumentAt ts (g.Number p v) at (at + 1)

-- nothing stands there with which a type would go on
pub record Quiet (ts : List Lexed) (at : ℕ) : Type 0 where
  pub less : IsNot ts m.Less at
  pub dot : IsNot ts m.Dot at
  pub bracket : IsNot ts m.OpenBracket at
