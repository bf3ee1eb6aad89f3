-- A row, byte by byte.
use Rattle.std.proofs.Common.{◌≡◌, ℕ, zero, suc, ◌+◌, ◌<◌, List, [], ◌∷◌, ◌++◌, length, take, get_or, Option, Some, None, refl, ◌∙◌, ap, arith}
use Rattle.std.specs.List.{filter_map, cons_option}

behind : {A : Type 0} (o : Option A) (xs ys : List A) → cons_option o (xs ++ ys) ≡ cons_option o xs ++ ys
behind (Some x) xs ys = refl
behind None xs ys = refl

pub one_more : (f : ℕ → Option ℕ) (xs : List ℕ) (i : ℕ) → i < length xs → filter_map f (take (i + 1) xs) ≡ filter_map f (take i xs) ++ cons_option (f (get_or xs i 0)) []
one_more f [] i h = absurd (omega arith)
one_more f (x ∷ xs) zero h = refl
one_more f (x ∷ xs) (suc i) h =
    let n : suc i + 1 ≡ suc (i + 1) = omega arith in
    ap (λ k. filter_map f (take k (x ∷ xs))) n
    ∙ (ap (cons_option (f x)) (one_more f xs i (omega arith)) ∙ behind (f x) (filter_map f (take i xs)) (cons_option (f (get_or xs i 0)) []))
