-- The parts of a text as slices give them.
use Rattle.std.proofs.Common.{◌≡◌, ℕ, ◌-◌, ◌<◌, List, [], ◌∷◌, length, take, drop, get_or, None, refl, ◌∙◌, ap, arith}
use Rattle.std.proofs.Math.Seq.{take-length}
use Rattle.slang_tokens.specs.Lexemes.{lexeme, by_first}

-- `&xs[1..]`
abbrev pub tail : List ℕ → List ℕ
tail xs = take (length xs - 1) (drop 1 xs)

pub tail-cons : (x : ℕ) (xs : List ℕ) → tail (x ∷ xs) ≡ xs
tail-cons x xs = let e : length (x ∷ xs) - 1 ≡ length xs = omega arith in ap (λ n. take n xs) e ∙ take-length xs

pub lexeme_empty : (text : List ℕ) → length text ≡ 0 → None ≡ lexeme text
unfolding lexeme
lexeme_empty [] h = refl
lexeme_empty (x ∷ xs) h = absurd (omega arith)

pub lexeme_split : (text : List ℕ) → 0 < length text → by_first (get_or text 0 0) text (tail text) ≡ lexeme text
unfolding lexeme
lexeme_split [] h = absurd (omega arith)
lexeme_split (x ∷ xs) h = ap (by_first x (x ∷ xs)) (tail-cons x xs)
