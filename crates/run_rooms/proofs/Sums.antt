-- Words that stand one behind the other grow.
use Rattle.std.proofs.Common.{◌≡◌, ℕ, zero, suc, ◌+◌, ◌<◌, ◌≤◌, cond, nat_eq, refl, ap, ◌∙◌, arith, inl, inr}
use Rattle.std.proofs.lemmas.Bool.{cases_eq, eq-eqb, cond-true}
use Rattle.run_rooms.specs.Sums.{before}

module _ (home words : ℕ → ℕ) (f : ℕ) where
  pub before-grows : (j k : ℕ) → j ≤ k → before home words f j ≤ before home words f k
  before-grows j zero h = let e : j ≡ 0 = omega arith in rw e (omega arith)
  before-grows j (suc k) h = elim (cases_eq j (suc k)) [
    | inl e ↦ rw e (omega arith)
    | inr n ↦ let r = before-grows j k (omega arith) in omega arith
  ]

  before-here : (j : ℕ) → home j ≡ f → before home words f (suc j) ≡ before home words f j + words j
  before-here j e = ap (λ w. before home words f j + w) (cond-true (nat_eq (home j) f) (words j) 0 (eq-eqb (home j) f e))

  -- what stands there is behind what stands before
  pub before-behind : (j k : ℕ) → home j ≡ f → j < k → before home words f j + words j ≤ before home words f k
  before-behind j k e h = let r = before-grows (suc j) k (omega arith) in omega (arith, before-here j e)

-- the words before an instruction are told by those instructions alone
pub before-same : (home words home' words' : ℕ → ℕ) (f k : ℕ) → ((j : ℕ) → j < k → home j ≡ home' j) → ((j : ℕ) → j < k → words j ≡ words' j)
    → before home words f k ≡ before home' words' f k
before-same home words home' words' f zero h w = refl
before-same home words home' words' f (suc k) h w =
    ap (λ n. n + cond (nat_eq (home k) f) (words k) 0) (before-same home words home' words' f k (λ j l. h j (omega arith)) (λ j l. w j (omega arith)))
    ∙ ap (λ x. before home' words' f k + cond (nat_eq x f) (words k) 0) (h k (omega arith))
    ∙ ap (λ x. before home' words' f k + cond (nat_eq (home' k) f) x 0) (w k (omega arith))
