-- Line feeds behind a place.
use Rattle.std.proofs.Common.{◌≡◌, ℕ, zero, suc, ◌+◌, ◌<◌, ◌≤◌, List, [], ◌∷◌, length, drop, get_or, refl, sym, ◌∙◌, ap, arith}
use Rattle.refusal_lines.specs.Positions.{feed, feeds}

pub feeds_step : (xs : List ℕ) (i : ℕ) → i < length xs → feeds (drop i xs) ≡ feed (get_or xs i 0) + feeds (drop (i + 1) xs)
unfolding feeds
feeds_step [] i h = absurd (omega arith)
feeds_step (x ∷ xs) zero h = refl
feeds_step (x ∷ xs) (suc i) h = let n : suc i + 1 ≡ suc (i + 1) = omega arith in feeds_step xs i (omega arith) ∙ ap (λ k. feed (get_or xs i 0) + feeds (drop k (x ∷ xs))) (sym n)

pub feeds_end : (xs : List ℕ) (i : ℕ) → length xs ≤ i → feeds (drop i xs) ≡ 0
unfolding feeds
feeds_end [] zero h = refl
feeds_end [] (suc i) h = refl
feeds_end (x ∷ xs) zero h = absurd (omega arith)
feeds_end (x ∷ xs) (suc i) h = feeds_end xs i (omega arith)
