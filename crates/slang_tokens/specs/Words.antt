-- What a word is.
use Rattle.std.specs.Prelude.{ℕ, Bool, true, false, ◌&&◌, ◌||◌, if◌then◌else◌, ◌==◌, nat_le, nat_eq, List, [], ◌∷◌, drop, length, codes, Option, Some, None}
use Rattle.std.specs.List.{starts_with}
use Rattle.slang_names.specs.declared.codes.ModuleCode.{ModuleCode}
use Rattle.slang_names.specs.declared.codes.ModuleCode.TheVariants as c
use Rattle.slang_tokens.specs.declared.tokens.Word.{Word}
use Rattle.slang_tokens.specs.declared.tokens.Kind.TheVariants as k
use Rattle.slang_tokens.specs.declared.lexemes.Lexeme.{Lexeme}
use Rattle.slang_tokens.specs.declared.lexemes.Lexeme.TheVariants as x
use Rattle.slang_tokens.specs.declared.words.Shape.{Shape}
use Rattle.slang_tokens.specs.declared.words.Shape.TheVariants as shape
use Rattle.slang_tokens.specs.Tables.{word_of, refused_of}

-- a digit that counts components
abbrev pub is_size : ℕ → Bool
is_size b = nat_le 49 b && nat_le b 52

-- what these bytes behind the name of a scalar type make it: nothing, `3` and `2x4`
abbrev pub shape_of : List ℕ → Option Shape
shape_of [] = Some shape.Scalar
shape_of (a ∷ []) = if is_size a then Some shape.Vector else None
shape_of (a ∷ b ∷ []) = None
shape_of (a ∷ b ∷ d ∷ []) = if is_size a && b == 120 && is_size d then Some shape.Matrix else None
shape_of (a ∷ b ∷ d ∷ e ∷ bs) = None

-- the shape of a type that begins with the name of that scalar
abbrev pub shaped : List ℕ → List ℕ → Option Shape
shaped scalar bytes = if starts_with nat_eq bytes scalar then shape_of (drop (length scalar) bytes) else None

abbrev pub is_shape : Option Shape → Bool
is_shape (Some s) = true
is_shape None = false

abbrev pub is_matrix : Option Shape → Bool
is_matrix (Some shape.Matrix) = true
is_matrix _ = false

-- `float`, `half` and `double`, and their vectors and matrices
unfoldable pub is_float : List ℕ → Bool
is_float bytes = is_shape (shaped (codes "float") bytes) || is_shape (shaped (codes "half") bytes) || is_shape (shaped (codes "double") bytes)

-- matrices of whole numbers
unfoldable pub is_whole_matrix : List ℕ → Bool
is_whole_matrix bytes = is_matrix (shaped (codes "int") bytes) || is_matrix (shaped (codes "uint") bytes)

abbrev pub used : Option Word → Lexeme
used (Some word) = x.Token (k.Word word)
used None = x.Token k.Name

abbrev pub unless_refused : Option ModuleCode → List ℕ → Lexeme
unless_refused (Some code) bytes = x.Refused code
unless_refused None bytes = used (word_of bytes)

-- what a word is: refused, a word with a use, or a name
unfoldable pub word : List ℕ → Lexeme
word bytes =
    if is_float bytes then x.Refused c.Float
    else (if is_whole_matrix bytes then x.Refused c.Unsupported else unless_refused (refused_of bytes) bytes)
