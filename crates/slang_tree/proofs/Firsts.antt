-- The first node that is too deep, over a list.
use Rattle.std.proofs.Common.{◌≡◌, ℕ, zero, suc, ◌+◌, ◌<◌, ◌≤◌, List, [], ◌∷◌, map, drop, length, get_or, Some, None, sym, ◌∙◌, ap, refl, arith}
use Rattle.slang_names.specs.declared.places.Place.{Place}
use Rattle.slang_tree.specs.Nesting.{Deep, first_of, or_else}

at_one : {X : Type 0} (f : X → Deep) (xs : List X) (i : ℕ) (x : X) (around : ℕ) → i < length xs → x ≡ get_or xs i x →
    first_of (map f (drop i xs)) around ≡ or_else (f x around) (first_of (map f (drop (i + 1) xs)) around)
unfolding first_of
at_one f [] i x a h e = absurd (omega arith)
at_one f (y ∷ ys) zero x a h e = ap (λ z. or_else (f z a) (first_of (map f ys) a)) (sym e)
at_one f (y ∷ ys) (suc i) x a h e = let n : suc i + 1 ≡ suc (i + 1) = omega arith in at_one f ys i x a (omega arith) e ∙ ap (λ k. or_else (f x a) (first_of (map f (drop k (y ∷ ys))) a)) (sym n)

at_end : {X : Type 0} (f : X → Deep) (xs : List X) (i around : ℕ) → length xs ≤ i → first_of (map f (drop i xs)) around ≡ None
unfolding first_of
at_end f [] zero a h = refl
at_end f [] (suc i) a h = refl
at_end f (y ∷ ys) zero a h = absurd (omega arith)
at_end f (y ∷ ys) (suc i) a h = at_end f ys i a (omega arith)

-- where no item before the index has one
module _ {X : Type 0} (f : X → Deep) (xs : List X) (around i : ℕ) (none : first_of (map f xs) around ≡ first_of (map f (drop i xs)) around) where
  pub found_at : (x : X) (p : Place) → i < length xs → x ≡ get_or xs i x → Some p ≡ f x around → Some p ≡ first_of (map f xs) around
  found_at x p h e d = sym (none ∙ (at_one f xs i x around h e ∙ ap (λ o. or_else o (first_of (map f (drop (i + 1) xs)) around)) (sym d)))

  pub none_at : (x : X) → i < length xs → x ≡ get_or xs i x → f x around ≡ None → first_of (map f xs) around ≡ first_of (map f (drop (i + 1) xs)) around
  none_at x h e d = none ∙ (at_one f xs i x around h e ∙ ap (λ o. or_else o (first_of (map f (drop (i + 1) xs)) around)) d)

  pub none_left : length xs ≤ i → None ≡ first_of (map f xs) around
  none_left h = sym (none ∙ at_end f xs i around h)
