-- The words of a string, read back.
use Rattle.std.proofs.Common.{◌≡◌, ℕ, ◌+◌, ◌*◌, ◌/◌, ◌%◌, ◌<◌, ◌≤◌, List, [], ◌∷◌, ◌++◌, length, refl, ap, ◌∙◌, arith, Some}
use Rattle.std.proofs.lemmas.Bool.Decides.{nat_tests}
use Rattle.spirv_words.specs.Strings.{string_words, IsText}
use Rattle.spirv_words.specs.Layouts.{after_string, quarter, Full, Last, string_rest}

-- ---- how a word goes on, by its bytes

full : (w : ℕ) → 0 < w % 256 → 0 < w / 256 % 256 → 0 < w / 65536 % 256 → 16777216 ≤ w → quarter w ≡ Full
full w a b c d = grind (arith, nat_tests)

last_of_one : (w : ℕ) → 0 < w % 256 → w / 256 % 256 ≡ 0 → w < 256 → quarter w ≡ Last
last_of_one w a b short = grind (arith, nat_tests)

last_of_two : (w : ℕ) → 0 < w % 256 → 0 < w / 256 % 256 → w / 65536 % 256 ≡ 0 → w < 65536 → quarter w ≡ Last
last_of_two w a b c short = grind (arith, nat_tests)

last_of_three : (w : ℕ) → 0 < w % 256 → 0 < w / 256 % 256 → 0 < w / 65536 % 256 → w < 16777216 → quarter w ≡ Last
last_of_three w a b c short = grind (arith, nat_tests)

-- ---- whole strings

pub after_string-string_words : (bytes rest : List ℕ) → IsText bytes → after_string (string_words bytes ++ rest) ≡ Some rest
after_string-string_words [] rest text = refl
after_string-string_words (a ∷ []) rest (a0, a1, text) =
    ap (λ q. string_rest q rest (after_string rest)) (last_of_one a (omega arith) (omega arith) a1)
after_string-string_words (a ∷ b ∷ []) rest (a0, a1, (b0, b1, text)) =
    ap (λ q. string_rest q rest (after_string rest)) (last_of_two (a + 256 * b) (omega arith) (omega arith) (omega arith) (omega arith))
after_string-string_words (a ∷ b ∷ c ∷ []) rest (a0, a1, (b0, b1, (c0, c1, text))) =
    ap (λ q. string_rest q rest (after_string rest))
    (last_of_three (a + 256 * b + 65536 * c) (omega arith) (omega arith) (omega arith) (omega arith))
after_string-string_words (a ∷ b ∷ c ∷ d ∷ more) rest (a0, a1, (b0, b1, (c0, c1, (d0, d1, text)))) =
    let w : ℕ = a + 256 * b + 65536 * c + 16777216 * d in
    ap (λ q. string_rest q (string_words more ++ rest) (after_string (string_words more ++ rest)))
    (full w (omega arith) (omega arith) (omega arith) (omega arith))
    ∙ after_string-string_words more rest text

pub length-string_words : (bytes : List ℕ) → 4 * length (string_words bytes) ≤ length bytes + 4
length-string_words [] = omega arith
length-string_words (a ∷ []) = omega arith
length-string_words (a ∷ b ∷ []) = omega arith
length-string_words (a ∷ b ∷ c ∷ []) = omega arith
length-string_words (a ∷ b ∷ c ∷ d ∷ more) = omega (arith, length-string_words more)
