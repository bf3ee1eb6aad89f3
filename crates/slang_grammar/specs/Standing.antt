-- Which token lies at an index.
use Rattle.std.specs.Prelude.{◌≡◌, ℕ, false, List, drop, Some}
use Rattle.slang_names.specs.declared.places.Place.{Place}
use Rattle.slang_tree.specs.declared.types.Identifier.{Identifier}
use Rattle.slang_tokens.specs.declared.tokens.Kind.{Kind}
use Rattle.slang_tokens.specs.declared.tokens.Kind.TheVariants as k
use Rattle.slang_tokens.specs.declared.tokens.Mark.{Mark}
use Rattle.slang_reading.specs.Lexed.{Lexed}
use Rattle.slang_reading.specs.Reading.{first}
use Rattle.slang_reading.specs.Kinds.{sees}

-- the token at the index is of that kind, and lies at that place
pub record Stands (ts : List Lexed) (at : ℕ) (kind : Kind) (place : Place) : Type 0 where
  pub bytes : List ℕ
  pub is : first (drop at ts) ≡ Some (record { kind = kind; place = place; bytes = bytes })

-- the token at the index is that name, at its place
pub record NameStands (ts : List Lexed) (at : ℕ) (name : Identifier) : Type 0 where
  pub is : first (drop at ts) ≡ Some (record { kind = k.Name; place = name.place; bytes = name.name })

-- the token at the index is not this mark
pub record IsNot (ts : List Lexed) (mark : Mark) (at : ℕ) : Type 0 where
  pub is : sees mark (first (drop at ts)) ≡ false
