-- Functions that were seen, one more each time.
use Rattle.std.proofs.Common.{◌≡◌, ℕ, ◌+◌, ◌≤◌, ◌||◌, Bool, true, false, cond, nat_eq, List, [], ◌∷◌, refl, sym, ◌∙◌, ap, subst, arith}
use Rattle.std.proofs.lemmas.Bool.{eqb-true, eq-eqb}
use Rattle.std.specs.List.{list_any}
use Rattle.call_graph.specs.Edges.{callees, calls_it}
use Rattle.call_graph.specs.Unseen.{unseen}

-- g has y and all of f
abbrev pub Adds : (ℕ → Bool) → ℕ → (ℕ → Bool) → Type 0
Adds f y g = (q : ℕ) → g q ≡ cond (nat_eq y q) true (f q)

step-le : (b c : Bool) → cond (cond b true c) 0 1 ≤ cond c 0 1
step-le true true = omega arith
step-le true false = omega arith
step-le false true = omega arith
step-le false false = omega arith

head-le : (f g : ℕ → Bool) (y : ℕ) → Adds f y g → (q : ℕ) → cond (g q) 0 1 ≤ cond (f q) 0 1
head-le f g y h q = let P : Bool → Type 0 = λ b. cond b 0 1 ≤ cond (f q) 0 1 in subst P (sym (h q)) (step-le (nat_eq y q) (f q))

pub unseen-more : (es : List (ℕ × ℕ)) (f g : ℕ → Bool) (y : ℕ) → Adds f y g → unseen es g ≤ unseen es f
unseen-more [] f g y h = omega arith
unseen-more (e ∷ es) f g y h = omega (arith, head-le f g y h e.1, unseen-more es f g y h)

module _ (f g : ℕ → Bool) (y : ℕ) (h : Adds f y g) (new : f y ≡ false) where
  here : (e : ℕ × ℕ) (es : List (ℕ × ℕ)) → y ≡ e.1 → unseen (e ∷ es) g + 1 ≤ unseen (e ∷ es) f
  here e es same =
      let weight : Bool → ℕ = λ b. cond b 0 1 in
      let was : weight (f e.1) ≡ 1 = ap weight (ap f (sym same) ∙ new) in
      let is : weight (g e.1) ≡ 0 = ap weight (h e.1 ∙ ap (λ (b : Bool). cond b true (f e.1)) (eq-eqb y e.1 same)) in
      omega (arith, was, is, unseen-more es f g y h)

  later : (e : ℕ × ℕ) (es : List (ℕ × ℕ)) → unseen es g + 1 ≤ unseen es f → unseen (e ∷ es) g + 1 ≤ unseen (e ∷ es) f
  later e es le = omega (arith, head-le f g y h e.1, le)

  either : (e : ℕ × ℕ) (es : List (ℕ × ℕ)) (b : Bool) (rest : Bool) → nat_eq y e.1 ≡ b → (b || rest) ≡ true → (rest ≡ true → unseen es g + 1 ≤ unseen es f) →
      unseen (e ∷ es) g + 1 ≤ unseen (e ∷ es) f
  either e es true rest same any go = here e es (eqb-true y e.1 same)
  either e es false rest same any go = later e es (go any)

  pub unseen-fewer : (es : List (ℕ × ℕ)) (x : ℕ) → calls_it es x y ≡ true → unseen es g + 1 ≤ unseen es f
  unseen-fewer [] x c = cc
  unseen-fewer (e ∷ es) x c =
      elim (nat_eq e.0 x) as (λ b. list_any (nat_eq y) (cond b (e.1 ∷ callees es x) (callees es x)) ≡ true → unseen (e ∷ es) g + 1 ≤ unseen (e ∷ es) f) [
        | true ↦ λ c. either e es (nat_eq y e.1) (list_any (nat_eq y) (callees es x)) refl c (λ c. unseen-fewer es x c)
        | false ↦ λ c. later e es (unseen-fewer es x c)
      ] c
