-- What a text that is cut into tokens is answered.
use Rattle.std.specs.Prelude.{◌≡◌, ℕ, ◌-◌, List, drop, length, Option, Some, None, Result, Ok, Err}
use Rattle.slang_names.specs.declared.places.Place.{Place}
use Rattle.slang_names.specs.declared.codes.ModuleCode.{ModuleCode}
use Rattle.slang_names.specs.declared.codes.ModuleCode.TheVariants as code
use Rattle.slang_names.specs.declared.faults.ModuleFault.{ModuleFault}
use Rattle.slang_names.specs.declared.faults.ModuleFault.TheVariants as f
use Rattle.slang_tree.specs.declared.file.File.{File}
use Rattle.slang_tokens.specs.declared.tokens.Token.{Token}
use Rattle.slang_reading.specs.Lexed.{lexed_all}
use Rattle.slang_reading.specs.Reading.{Outcome, Done, Stop, Past, first}
use Rattle.type_reading.specs.Limited.{language}
use Rattle.declaration_grammar.specs.DeclarationsDescent.{files}

-- where a token lies, or the empty place at the end of a text of so many bytes
abbrev pub lies : Option Token → ℕ → Place
lies (Some t) end = t.place
lies None end = record { start = end; end = end }

-- it refuses with that code, at that place, unless memory runs out
abbrev pub Refuses : Place → ModuleCode → Result File ModuleFault → Type 0
Refuses place code (Ok x) = ⊥
Refuses place code (Err (f.Refused p c)) = (p ≡ place) × (c ≡ code)
Refuses place code (Err (f.Memory e)) = Unit {0}

-- it answers that file, unless memory runs out
abbrev pub Answers : File → Result File ModuleFault → Type 0
Answers file (Ok x) = x ≡ file
Answers file (Err (f.Refused p c)) = ⊥
Answers file (Err (f.Memory e)) = Unit {0}

-- what comes of the descent into these tokens of a text of so many bytes
abbrev pub Follows : List Token → ℕ → Outcome File → Result File ModuleFault → Type 0
Follows tokens end (Done file at seen) = Answers file
Follows tokens end (Stop seen) = Refuses (lies (first (drop (seen - 1) tokens)) end) code.Syntax
Follows tokens end (Past code place seen) = Refuses place code

-- what the descent makes of a text with these tokens, with the limits of the language and 64 nodes on a path
abbrev pub outcome : List ℕ → List Token → Outcome File
outcome text tokens = files language 64 (lexed_all text tokens) 0 0
