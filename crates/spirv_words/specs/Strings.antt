-- How words spell a string (SPIR-V 1.5, section 2.2.1): its bytes and a 0, four in each word with the first one lowest, and
-- zeros up to the end of the last word.
use Rattle.std.specs.Prelude.{ℕ, ◌+◌, ◌*◌, ◌<◌, List, [], ◌∷◌}

abbrev pub string_words : List ℕ → List ℕ
string_words [] = 0 ∷ []
string_words (a ∷ []) = a ∷ []
string_words (a ∷ b ∷ []) = (a + 256 * b) ∷ []
string_words (a ∷ b ∷ c ∷ []) = (a + 256 * b + 65536 * c) ∷ []
string_words (a ∷ b ∷ c ∷ d ∷ rest) = (a + 256 * b + 65536 * c + 16777216 * d) ∷ string_words rest

-- bytes of which none is 0
abbrev pub IsText : List ℕ → Type 0
IsText [] = Unit {0}
IsText (b ∷ bs) = (0 < b) × (b < 256) × IsText bs
