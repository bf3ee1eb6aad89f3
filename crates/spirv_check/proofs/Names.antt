-- The words of a string, read as bytes up to the first 0.
use Rattle.std.proofs.Common.{◌≡◌, ℕ, ◌+◌, ◌*◌, ◌<◌, List, [], ◌∷◌, ◌++◌, refl, ap, ◌∙◌, arith}
use Rattle.std.proofs.lemmas.Bool.Decides.{nat_tests}
use Rattle.std.specs.Int.{byte_at}
use Rattle.spirv_words.specs.Strings.{string_words, IsText}
use Rattle.spirv_words.specs.Bytes.{bytes_of_words}
use Rattle.spirv_check.specs.Entry.{before_zero}

goes_on : (x b : ℕ) (xs bs : List ℕ) → x ≡ b → 0 < b → before_zero xs ≡ bs → before_zero (x ∷ xs) ≡ b ∷ bs
goes_on x b xs bs e h rest =
    let not_zero : before_zero (x ∷ xs) ≡ x ∷ before_zero xs = grind (arith, nat_tests) in
    not_zero ∙ (ap (λ (t : ℕ). t ∷ before_zero xs) e ∙ ap (λ (t : List ℕ). b ∷ t) rest)

stops : (x : ℕ) (xs : List ℕ) → x ≡ 0 → before_zero (x ∷ xs) ≡ []
stops x xs e = ap (λ (t : ℕ). before_zero (t ∷ xs)) e

-- the four bytes of a word, by how many of them are not 0
one : (p q a : ℕ) (xs : List ℕ) → p ≡ a → 0 < a → q ≡ 0 → before_zero (p ∷ q ∷ xs) ≡ a ∷ []
one p q a xs e h z = goes_on p a (q ∷ xs) [] e h (stops q xs z)

two : (p q r a b : ℕ) (xs : List ℕ) → p ≡ a → 0 < a → q ≡ b → 0 < b → r ≡ 0 → before_zero (p ∷ q ∷ r ∷ xs) ≡ a ∷ b ∷ []
two p q r a b xs e h f i z = goes_on p a (q ∷ r ∷ xs) (b ∷ []) e h (one q r b xs f i z)

three : (p q r s a b c : ℕ) (xs : List ℕ) → p ≡ a → 0 < a → q ≡ b → 0 < b → r ≡ c → 0 < c → s ≡ 0 → before_zero (p ∷ q ∷ r ∷ s ∷ xs) ≡ a ∷ b ∷ c ∷ []
three p q r s a b c xs e h f i g j z = goes_on p a (q ∷ r ∷ s ∷ xs) (b ∷ c ∷ []) e h (two q r s b c xs f i g j z)

four : (p q r s a b c d : ℕ) (xs bs : List ℕ) → p ≡ a → 0 < a → q ≡ b → 0 < b → r ≡ c → 0 < c → s ≡ d → 0 < d → before_zero xs ≡ bs
    → before_zero (p ∷ q ∷ r ∷ s ∷ xs) ≡ a ∷ b ∷ c ∷ d ∷ bs
four p q r s a b c d xs bs e h f i g j k l rest =
    goes_on p a (q ∷ r ∷ s ∷ xs) (b ∷ c ∷ d ∷ bs) e h
    (goes_on q b (r ∷ s ∷ xs) (c ∷ d ∷ bs) f i (goes_on r c (s ∷ xs) (d ∷ bs) g j (goes_on s d xs bs k l rest)))

pub text_read : (bytes rest : List ℕ) → IsText bytes → before_zero (bytes_of_words (string_words bytes ++ rest)) ≡ bytes
text_read [] rest text = refl
text_read (a ∷ []) rest (a0, a1, text) =
    one (byte_at 0 a) (byte_at 1 a) a (byte_at 2 a ∷ byte_at 3 a ∷ bytes_of_words rest) (omega arith) a0 (omega arith)
text_read (a ∷ b ∷ []) rest (a0, a1, (b0, b1, text)) =
    let w : ℕ = a + 256 * b in
    two (byte_at 0 w) (byte_at 1 w) (byte_at 2 w) a b (byte_at 3 w ∷ bytes_of_words rest) (omega arith) a0 (omega arith) b0 (omega arith)
text_read (a ∷ b ∷ c ∷ []) rest (a0, a1, (b0, b1, (c0, c1, text))) =
    let w : ℕ = a + 256 * b + 65536 * c in
    three (byte_at 0 w) (byte_at 1 w) (byte_at 2 w) (byte_at 3 w) a b c (bytes_of_words rest) (omega arith) a0 (omega arith) b0 (omega arith) c0 (omega arith)
text_read (a ∷ b ∷ c ∷ d ∷ more) rest (a0, a1, (b0, b1, (c0, c1, (d0, d1, text)))) =
    let w : ℕ = a + 256 * b + 65536 * c + 16777216 * d in
    four (byte_at 0 w) (byte_at 1 w) (byte_at 2 w) (byte_at 3 w) a b c d (bytes_of_words (string_words more ++ rest)) more
    (omega arith) a0 (omega arith) b0 (omega arith) c0 (omega arith) d0 (text_read more rest text)
