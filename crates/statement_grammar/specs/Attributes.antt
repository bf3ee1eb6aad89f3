-- Attributes: which tokens spell which attribute. Any name and any numbers and strings are spelled; which attributes are
-- taken, and where, is said by rules of their own (`AttributeRules`).
use Rattle.std.specs.Prelude.{◌≡◌, ℕ, ◌+◌, ◌-◌, List, [], ◌∷◌, ◌++◌, codes, drop, length, take, Some}
use Rattle.slang_names.specs.declared.places.Place.{Place}
use Rattle.slang_names.specs.declared.numbers.Number.{Number}
use Rattle.slang_tree.specs.declared.types.Identifier.{Identifier}
use Rattle.slang_tree.specs.declared.statements.Attribute.{Attribute}
use Rattle.slang_tree.specs.declared.statements.AttributeNode.{AttributeNode}
use Rattle.slang_tree.specs.declared.statements.AttributeNode.TheVariants as n
use Rattle.slang_tree.specs.declared.statements.Literal.{Literal}
use Rattle.slang_tree.specs.declared.statements.Literal.TheVariants as l
use Rattle.slang_tokens.specs.declared.tokens.Kind.TheVariants as k
use Rattle.slang_tokens.specs.declared.tokens.Mark.TheVariants as m
use Rattle.slang_reading.specs.Lexed.{Lexed}
use Rattle.slang_reading.specs.Reading.{first}
use Rattle.slang_reading.specs.Kinds.{span}
use Rattle.slang_grammar.specs.Standing.{Stands, NameStands, IsNot}

abbrev pub attributed : Place → AttributeNode → Attribute
attributed p x = record { place = p; node = x }

-- the bytes between the quotes of a string
abbrev pub unquoted : List ℕ → List ℕ
unquoted bytes = take (length bytes - 2) (drop 1 bytes)

-- the token at the index is a string with its quotes, at its place
pub record StringStands (ts : List Lexed) (at : ℕ) (place : Place) (bytes : List ℕ) : Type 0 where
  pub is : first (drop at ts) ≡ Some (record { kind = k.String; place = place; bytes = bytes })

-- the token at the index is a name that is spelled so
pub record SpelledStands (ts : List Lexed) (at : ℕ) (place : Place) (bytes : List ℕ) : Type 0 where
  pub is : first (drop at ts) ≡ Some (record { kind = k.Name; place = place; bytes = bytes })

pub data LiteralAt (ts : List Lexed) : Literal → ℕ → Type 0 where
  number : {at : ℕ} {p : Place} {v : Number} → Stands ts at (k.Number v) p → LiteralAt ts (l.Number p v) at
  string : {at : ℕ} {p : Place} {bytes : List ℕ} → StringStands ts at p bytes → LiteralAt ts (l.String p (unquoted bytes)) at

-- the list so far goes on to be that list
pub data MoreLiteralsAt (ts : List Lexed) : List Literal → List Literal → ℕ → ℕ → Type 0 where
  end : {at : ℕ} {list : List Literal} → MoreLiteralsAt ts list list at at
  more : {from to : ℕ} {p : Place} {x : Literal} {list all : List Literal} → Stands ts from (k.Mark m.Comma) p → LiteralAt ts x (from + 1) →
      MoreLiteralsAt ts (list ++ x ∷ []) all (from + 1 + 1) to → MoreLiteralsAt ts list all from to

-- what stands behind the name of an attribute, and the place of the bracket that closes it
pub data AttributeRestAt (ts : List Lexed) : List Literal → Place → ℕ → ℕ → Type 0 where
  no_literals : {at : ℕ} {end : Place} → Stands ts at (k.Mark m.CloseBracket) end → AttributeRestAt ts [] end at (at + 1)
  literals : {from at : ℕ} {p q end : Place} {x : Literal} {all : List Literal} → Stands ts from (k.Mark m.OpenParen) p → LiteralAt ts x (from + 1) →
      MoreLiteralsAt ts (x ∷ []) all (from + 1 + 1) at → Stands ts at (k.Mark m.CloseParen) q → Stands ts (at + 1) (k.Mark m.CloseBracket) end →
      AttributeRestAt ts all end from (at + 1 + 1)

-- `vk::binding(binding, set)` and the two brackets that close it, the last at that place
pub record BindingAt (ts : List Lexed) (b s : Number) (end : Place) (from : ℕ) : Type 0 where
  pub places : Place × Place × Place × Place × Place × Place × Place × Place × Place
  pub vulkan : SpelledStands ts from places.0 (codes "vk")
  pub of : Stands ts (from + 1) (k.Mark m.DoubleColon) places.1
  pub name : SpelledStands ts (from + 1 + 1) places.2 (codes "binding")
  pub begin : Stands ts (from + 1 + 1 + 1) (k.Mark m.OpenParen) places.3
  pub binding : Stands ts (from + 1 + 1 + 1 + 1) (k.Number b) places.4
  pub comma : Stands ts (from + 1 + 1 + 1 + 1 + 1) (k.Mark m.Comma) places.5
  pub set : Stands ts (from + 1 + 1 + 1 + 1 + 1 + 1) (k.Number s) places.6
  pub close : Stands ts (from + 1 + 1 + 1 + 1 + 1 + 1 + 1) (k.Mark m.CloseParen) places.7
  pub bracket : Stands ts (from + 1 + 1 + 1 + 1 + 1 + 1 + 1 + 1) (k.Mark m.CloseBracket) places.8
  pub last : Stands ts (from + 1 + 1 + 1 + 1 + 1 + 1 + 1 + 1 + 1) (k.Mark m.CloseBracket) end

pub data AttributeAt (ts : List Lexed) : Attribute → ℕ → ℕ → Type 0 where
  named : {from to : ℕ} {p end : Place} {id : Identifier} {list : List Literal} → Stands ts from (k.Mark m.OpenBracket) p → NameStands ts (from + 1) id →
      AttributeRestAt ts list end (from + 1 + 1) to → AttributeAt ts (attributed (span p end) (n.Named id list)) from to
  binding : {from : ℕ} {p q end : Place} {b s : Number} → Stands ts from (k.Mark m.OpenBracket) p → Stands ts (from + 1) (k.Mark m.OpenBracket) q →
      BindingAt ts b s end (from + 1 + 1) → AttributeAt ts (attributed (span p end) (n.Binding b s)) from (from + 1 + 1 + 1 + 1 + 1 + 1 + 1 + 1 + 1 + 1 + 1 + 1)

-- The list so far goes on to be that list. There is one more exactly where `[` stands.
pub data AttributesAt (ts : List Lexed) : List Attribute → List Attribute → ℕ → ℕ → Type 0 where
  end : {at : ℕ} {list : List Attribute} → IsNot ts m.OpenBracket at → AttributesAt ts list list at at
  more : {from mid to : ℕ} {x : Attribute} {list all : List Attribute} → AttributeAt ts x from mid → AttributesAt ts (list ++ x ∷ []) all mid to →
      AttributesAt ts list all from to

-- where a thing begins that has these attributes before a token at that place
abbrev pub begin_of : List Attribute → Place → Place
begin_of [] p = p
begin_of (x ∷ xs) p = x.place
