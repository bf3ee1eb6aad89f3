-- How bytes spell words: four bytes a word, the lowest first.
use Rattle.std.specs.Prelude.{ℕ, List, [], ◌∷◌, flat_map}
use Rattle.byteorder.specs.Endian.{little_bytes, little_number}

abbrev pub bytes_of_words : List ℕ → List ℕ
bytes_of_words words = flat_map (little_bytes 4) words

-- the number of each four bytes; what is less than four bytes at the end is no word
abbrev pub words_of_bytes : List ℕ → List ℕ
words_of_bytes (a ∷ b ∷ c ∷ d ∷ bytes) = little_number 4 (a ∷ b ∷ c ∷ d ∷ []) ∷ words_of_bytes bytes
words_of_bytes bytes = []
