-- Tokens with the bytes that spell them.
use Rattle.std.specs.Prelude.{ℕ, ◌-◌, List, take, drop, map}
use Rattle.slang_names.specs.declared.places.Place.{Place}
use Rattle.slang_tokens.specs.declared.tokens.Kind.{Kind}
use Rattle.slang_tokens.specs.declared.tokens.Token.{Token}

pub record Lexed : Type 0 where
  pub kind : Kind
  pub place : Place
  pub bytes : List ℕ

-- the bytes of a text at a place
abbrev pub bytes_at : List ℕ → Place → List ℕ
bytes_at text place = take (place.end - place.start) (drop place.start text)

abbrev pub lexed : List ℕ → Token → Lexed
lexed text token = record { kind = token.kind; place = token.place; bytes = bytes_at text token.place }

-- the tokens of a text, with their bytes
abbrev pub lexed_all : List ℕ → List Token → List Lexed
lexed_all text tokens = map (lexed text) tokens

-- without the bytes
abbrev pub token_of : Lexed → Token
token_of t = record { kind = t.kind; place = t.place }
