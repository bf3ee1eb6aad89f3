-- So many times a word.
use Rattle.std.proofs.Common.{◌≡◌, ℕ, zero, suc, ◌-◌, false, nat_eq, List, [], ◌∷◌, refl, sym, ap, arith}
use Rattle.std.specs.List.{repeat}

pub one_more : (w n : ℕ) → nat_eq n 0 ≡ false → repeat n (w ∷ []) ≡ w ∷ repeat (n - 1) (w ∷ [])
one_more w zero e = absurd cc
one_more w (suc n) e = let back : n ≡ suc n - 1 = omega arith in ap (λ k. w ∷ repeat k (w ∷ [])) back
