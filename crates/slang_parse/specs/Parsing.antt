-- Which file a text spells, and with which code and at which place a text that spells none is refused.
use Rattle.std.specs.Prelude.{◌≡◌, ℕ, ◌+◌, ◌-◌, ◌<◌, ◌≤◌, ◌++◌, List, length, take, drop}
use Rattle.slang_names.specs.declared.places.Place.{Place}
use Rattle.slang_names.specs.declared.codes.ModuleCode.{ModuleCode}
use Rattle.slang_names.specs.declared.codes.ModuleCode.TheVariants as code
use Rattle.slang_tree.specs.declared.file.File.{File}
use Rattle.slang_tokens.specs.declared.tokens.Token.{Token}
use Rattle.slang_tokens.specs.Cutting.{Tokens, Refuses}
use Rattle.slang_reading.specs.Lexed.{Lexed, lexed_all}
use Rattle.slang_reading.specs.Reading.{Stop, Past, first}
use Rattle.type_reading.specs.Limited.{language}
use Rattle.declaration_grammar.specs.Declarations.{FileAt}
use Rattle.declaration_fits.specs.Sizes.{FileFits}
use Rattle.file_reading.specs.Wholes.{lies, outcome}

-- how many bytes a text may have
abbrev pub text_limit : ℕ
text_limit = 1048576

-- The text spells the file: it is not too long, it is cut into tokens, these spell the file by the grammar, and the file
-- keeps the limits of the language and the rules on attributes.
pub record Spells (text : List ℕ) (file : File) : Type 0 where
  pub tokens : List Token
  pub short : length text ≤ text_limit
  pub cut : Tokens text tokens
  pub spelled : FileAt (lexed_all text tokens) file
  pub fits : FileFits language 64 file

-- some file begins with these tokens
abbrev pub GoesOn : List Lexed → Type 0
GoesOn front = (more : List Lexed) × (file : File) × FileAt (front ++ more) file

-- The first of these tokens with which no file of the grammar goes on has that index. Behind the last one, a file begins with
-- all of them, and they are none.
pub record FirstWrong (tokens : List Lexed) (at : ℕ) : Type 0 where
  pub before : GoesOn (take at tokens)
  pub within : at ≤ length tokens
  pub no_further : at < length tokens → GoesOn (take (at + 1) tokens) → ⊥
  pub no_file : (file : File) → FileAt tokens file → ⊥

-- With that code, at that place, the text is refused: it is too long; its first lexeme that is no token; the token at which
-- the descent stops, or the empty place at the end of the text; the token at which it passes a limit, or the name of an
-- attribute that breaks a rule.
pub data IsRefused (text : List ℕ) : Place → ModuleCode → Type 0 where
  too_long : text_limit < length text → IsRefused text (record { start = text_limit; end = text_limit }) code.TooLong
  no_token : {place : Place} {c : ModuleCode} → length text ≤ text_limit → Refuses text 0 place c → IsRefused text place c
  wrong_token : {tokens : List Token} {seen : ℕ} → length text ≤ text_limit → Tokens text tokens → outcome text tokens ≡ Stop seen →
      IsRefused text (lies (first (drop (seen - 1) tokens)) (length text)) code.Syntax
  past_limit : {tokens : List Token} {place : Place} {c : ModuleCode} {seen : ℕ} → length text ≤ text_limit → Tokens text tokens → outcome text tokens ≡ Past c place seen →
      IsRefused text place c
