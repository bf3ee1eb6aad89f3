-- Whether it stands in one of a list, item by item.
use Rattle.std.proofs.Common.{◌≡◌, ℕ, zero, suc, ◌+◌, ◌<◌, ◌≤◌, Bool, true, false, ◌||◌, List, [], ◌∷◌, map, drop, length, get_or, sym, ◌∙◌, ap, refl, arith}
use Rattle.early_forms.specs.Early.{some_of}

at_one : {X : Type 0} (f : X → Bool) (xs : List X) (i : ℕ) (x : X) → i < length xs → x ≡ get_or xs i x →
    some_of (map f (drop i xs)) ≡ (f x || some_of (map f (drop (i + 1) xs)))
unfolding some_of
at_one f [] i x h e = absurd (omega arith)
at_one f (y ∷ ys) zero x h e = ap (λ z. f z || some_of (map f ys)) (sym e)
at_one f (y ∷ ys) (suc i) x h e = let n : suc i + 1 ≡ suc (i + 1) = omega arith in at_one f ys i x (omega arith) e ∙ ap (λ k. f x || some_of (map f (drop k (y ∷ ys)))) (sym n)

at_end : {X : Type 0} (f : X → Bool) (xs : List X) (i : ℕ) → length xs ≤ i → some_of (map f (drop i xs)) ≡ false
unfolding some_of
at_end f [] zero h = refl
at_end f [] (suc i) h = refl
at_end f (y ∷ ys) zero h = absurd (omega arith)
at_end f (y ∷ ys) (suc i) h = at_end f ys i (omega arith)

-- where no item before the index has one
module _ {X : Type 0} (f : X → Bool) (xs : List X) (i : ℕ) (none : some_of (map f xs) ≡ some_of (map f (drop i xs))) where
  pub found_at : (x : X) → i < length xs → x ≡ get_or xs i x → f x ≡ true → true ≡ some_of (map f xs)
  found_at x h e d = sym (none ∙ (at_one f xs i x h e ∙ ap (λ b. b || some_of (map f (drop (i + 1) xs))) d))

  pub none_at : (x : X) → i < length xs → x ≡ get_or xs i x → f x ≡ false → some_of (map f xs) ≡ some_of (map f (drop (i + 1) xs))
  none_at x h e d = none ∙ (at_one f xs i x h e ∙ ap (λ b. b || some_of (map f (drop (i + 1) xs))) d)

  pub none_left : length xs ≤ i → false ≡ some_of (map f xs)
  none_left h = sym (none ∙ at_end f xs i h)
