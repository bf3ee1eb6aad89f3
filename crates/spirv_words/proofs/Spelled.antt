-- Words and their bytes, four bytes at a time.
use Rattle.std.proofs.Common.{◌≡◌, ℕ, suc, ◌*◌, ◌^◌, ◌<◌, List, [], ◌∷◌, length, All, refl, ap, ◌∙◌, arith}
use Rattle.std.proofs.lemmas.List.Elements.{All-head, All-tail}
use Rattle.byteorder.specs.Endian.{little_number, IsRead}
use Rattle.byteorder.specs.Numbers.{little_number-reads_back}
use Rattle.spirv_words.specs.Bytes.{bytes_of_words, words_of_bytes}

-- numbers that were read in turn are the words
pub words-from_read : (bytes words : List ℕ) → length bytes ≡ 4 * length words → IsRead little_number 4 bytes words → words ≡ words_of_bytes bytes
words-from_read [] [] e h = refl
words-from_read (a ∷ bytes) [] e h = absurd (omega arith)
words-from_read [] (w ∷ ws) e h = absurd (omega arith)
words-from_read (a ∷ []) (w ∷ ws) e h = absurd (omega arith)
words-from_read (a ∷ b ∷ []) (w ∷ ws) e h = absurd (omega arith)
words-from_read (a ∷ b ∷ c ∷ []) (w ∷ ws) e h = absurd (omega arith)
words-from_read (a ∷ b ∷ c ∷ d ∷ bytes) (w ∷ ws) e h =
    let first : w ≡ little_number 4 (a ∷ b ∷ c ∷ d ∷ []) = h 0 (omega arith) in
    let later : IsRead little_number 4 bytes ws = λ k lt.
    let four : 4 * suc k ≡ suc (suc (suc (suc (4 * k)))) = omega arith in
    rw four at (h (suc k) (omega arith)) in
    let rest = words-from_read bytes ws (omega arith) later in
    cc

-- the bytes of words read as the words
pub words_of_bytes-bytes_of_words : (words : List ℕ) → All (λ w. w < 2 ^ 32) words → words_of_bytes (bytes_of_words words) ≡ words
words_of_bytes-bytes_of_words [] h = refl
words_of_bytes-bytes_of_words (w ∷ ws) h =
    let small : w < 256 ^ 4 = All-head (λ w. w < 2 ^ 32) w ws h in
    let first = little_number-reads_back 4 w [] small in
    let rest = words_of_bytes-bytes_of_words ws (All-tail (λ w. w < 2 ^ 32) w ws h) in
    rw (first, rest) refl

-- four bytes for each word
pub length-bytes_of_words : (words : List ℕ) → length (bytes_of_words words) ≡ 4 * length words
length-bytes_of_words [] = refl
length-bytes_of_words (w ∷ ws) = let rest = length-bytes_of_words ws in omega arith

-- what reads as the bytes' words is the words whose bytes they are
pub words-from_bytes : (bytes read words : List ℕ) → read ≡ words_of_bytes bytes → All (λ w. w < 2 ^ 32) words → bytes ≡ bytes_of_words words → read ≡ words
words-from_bytes bytes read words r small e = r ∙ ap words_of_bytes e ∙ words_of_bytes-bytes_of_words words small
