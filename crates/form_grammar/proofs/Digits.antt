-- The digits of a number.
use Rattle.std.proofs.Common.{◌≡◌, ℕ, zero, suc, ◌+◌, ◌-◌, ◌/◌, ◌%◌, ◌<◌, ◌≤◌, List, [], ◌∷◌, cond, ltb, arith, ap, ◌∙◌}
use Rattle.std.proofs.lemmas.Bool.{le-ltb}
use Rattle.form_grammar.specs.Trees.{digits}

pub digits_more : (most n : ℕ) → 0 < most → 128 ≤ n → digits most n ≡ (n % 128 + 128) ∷ digits (most - 1) (n / 128)
digits_more zero n h k = absurd (omega arith)
digits_more (suc most) n h k =
    let one : digits (suc most) n ≡ (n % 128 + 128) ∷ digits most (n / 128) = ap (λ b. cond b (n ∷ []) ((n % 128 + 128) ∷ digits most (n / 128))) (le-ltb n 128 k) in
    let e : most ≡ suc most - 1 = omega arith in
    one ∙ ap (λ m. (n % 128 + 128) ∷ digits m (n / 128)) e
