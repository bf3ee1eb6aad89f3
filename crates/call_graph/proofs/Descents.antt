-- Numbers that descend over calls.
use Rattle.std.proofs.Common.{◌≡◌, ℕ, ◌+◌, ◌≤◌, ◌<◌, Bool, true, false, cond, nat_eq, List, [], ◌∷◌, ◌++◌, take, get_or, length, refl, sym, ◌∙◌, ap, arith}
use Rattle.std.proofs.Math.Logic.{⊎_elim}
use Rattle.std.proofs.lemmas.Bool.{eqb-true}
use Rattle.std.specs.List.{list_any}
use Rattle.call_graph.specs.Edges.{callees, calls_it, is_walk}
use Rattle.call_graph.proofs.Visits.{any-push, or-cases}
use Rattle.call_graph.proofs.Walks.{callees-more, first-true, second-true}

abbrev pub Descends : List (ℕ × ℕ) → (ℕ → ℕ) → Type 0
Descends es r = (from to : ℕ) → calls_it es from to ≡ true → r to ≤ r from

pub walk-descends : (es : List (ℕ × ℕ)) (r : ℕ → ℕ) → Descends es r → (from to : ℕ) (over : List ℕ) → is_walk es from over to ≡ true → r to ≤ r from
walk-descends es r h from to [] w = let e : r from ≡ r to = ap r (eqb-true from to w) in omega (arith, e)
walk-descends es r h from to (v ∷ vs) w =
    let one = h from v (first-true (calls_it es from v) (is_walk es v vs to) w) in
    let rest = walk-descends es r h v to vs (second-true (calls_it es from v) (is_walk es v vs to) w) in
    omega (arith, one, rest)

module _ (es : List (ℕ × ℕ)) (r : ℕ → ℕ) (h : Descends es r) (e : ℕ × ℕ) (le : r e.1 ≤ r e.0) where
  this : (from to : ℕ) → from ≡ e.0 → to ≡ e.1 → r to ≤ r from
  this from to p q = let a : r from ≡ r e.0 = ap r p in let b : r to ≡ r e.1 = ap r q in omega (arith, le, a, b)

  pub one-more : (from to : ℕ) (b : Bool) → nat_eq e.0 from ≡ b → list_any (nat_eq to) (cond b (callees es from ++ e.1 ∷ []) (callees es from)) ≡ true → r to ≤ r from
  one-more from to true same c =
      ⊎_elim
      (λ old. h from to old)
      (λ new. this from to (sym (eqb-true e.0 from same)) (eqb-true to e.1 new))
      (or-cases (list_any (nat_eq to) (callees es from)) (nat_eq to e.1) (sym (any-push to (callees es from) e.1) ∙ c))
  one-more from to false same c = h from to c

pub descends-more : (es : List (ℕ × ℕ)) (k : ℕ) (r : ℕ → ℕ) → k < length es → Descends (take k es) r → r (get_or es k (0, 0)).1 ≤ r (get_or es k (0, 0)).0 → Descends (take (k + 1) es) r
descends-more es k r lt h le from to c =
    let e = get_or es k (0, 0) in
    one-more (take k es) r h e le from to (nat_eq e.0 from) refl (ap (λ l. list_any (nat_eq to) l) (sym (callees-more es k (0, 0) from lt)) ∙ c)
