-- The first leads to the second over nodes below a number exactly where there are edges from one to the next.
use Rattle.std.proofs.Common.{◌≡◌, ◌⊎◌, inl, inr, ◌↔◌, ℕ, zero, suc, ◌+◌, ◌<◌, Bool, true, false, ◌&&◌, ◌||◌, cond, nat_eq, List, [], ◌∷◌, refl, sym, ◌∙◌, ap, arith}
use Rattle.std.specs.List.{list_any}
use Rattle.std.proofs.lemmas.Bool.{eqb-true, eq-eqb}
use Rattle.call_graph.specs.Edges.{callees, calls_it, is_walk, Leads}
use Rattle.type_rules.specs.Leading.{leads_below, past, leads}

-- ---- truths

both_true : (a b : Bool) → a ≡ true → b ≡ true → (a && b) ≡ true
both_true a b p q = ap (λ a. a && b) p ∙ q

first_true : (a b : Bool) → (a && b) ≡ true → a ≡ true
first_true true b h = refl
first_true false b h = h

second_true : (a b : Bool) → (a && b) ≡ true → b ≡ true
second_true true b h = h
second_true false b h = cc

left_true : (a b : Bool) → a ≡ true → (a || b) ≡ true
left_true a b p = ap (λ a. a || b) p

right_true : (a b : Bool) → b ≡ true → (a || b) ≡ true
right_true true b q = refl
right_true false b q = q

one_true : (a b : Bool) → (a || b) ≡ true → (a ≡ true) ⊎ (b ≡ true)
one_true true b h = inl refl
one_true false b h = inr h

-- ---- a way by edges, over nodes below a number

data Way (es : List (ℕ × ℕ)) (k : ℕ) : ℕ → ℕ → Type 0 where
  at_once : {m n : ℕ} → calls_it es m n ≡ true → Way es k m n
  over : {m x n : ℕ} → calls_it es m x ≡ true → x < k → Way es k x n → Way es k m n

higher : (es : List (ℕ × ℕ)) (k : ℕ) (m n : ℕ) → Way es k m n → Way es (suc k) m n
higher es k m n (at_once c) = at_once c
higher es k m n (over {x = x} c h w) = over c (omega arith) (higher es k x n w)

joined : (es : List (ℕ × ℕ)) (k : ℕ) (m x n : ℕ) → x < k → Way es k m x → Way es k x n → Way es k m n
joined es k m x n h (at_once c) v = over c h v
joined es k m x n h (over {x = y} c g w) v = over c g (joined es k y x n h w v)

over_next : (es : List (ℕ × ℕ)) (k m n : ℕ) (below : (m n : ℕ) → leads_below es k m n ≡ true → Way es k m n) →
    (leads_below es k m n ≡ true) ⊎ ((leads_below es k m k && leads_below es k k n) ≡ true) → Way es (suc k) m n
over_next es k m n below (inl p) = higher es k m n (below m n p)
over_next es k m n below (inr p) = joined es (suc k) m k n (omega arith) (higher es k m k (below m k (first_true (leads_below es k m k) (leads_below es k k n) p)))
    (higher es k k n (below k n (second_true (leads_below es k m k) (leads_below es k k n) p)))

way_of : (es : List (ℕ × ℕ)) (k m n : ℕ) → leads_below es k m n ≡ true → Way es k m n
way_of es zero m n h = at_once h
way_of es (suc k) m n h = over_next es k m n (way_of es k) (one_true (leads_below es k m n) (leads_below es k m k && leads_below es k k n) h)

leads_at_once : (es : List (ℕ × ℕ)) (k m n : ℕ) → calls_it es m n ≡ true → leads_below es k m n ≡ true
leads_at_once es zero m n c = c
leads_at_once es (suc k) m n c = left_true (leads_below es k m n) (leads_below es k m k && leads_below es k k n) (leads_at_once es k m n c)

-- from the greatest node on
from_last : (a b : Bool) → (a || (b && a)) ≡ true → a ≡ true
from_last true b h = refl
from_last false true h = h
from_last false false h = h

after_suc : (x k : ℕ) → (x < k) ⊎ (x ≡ k) → (suc x < suc k) ⊎ (suc x ≡ suc k)
after_suc x k (inl p) = inl (omega arith)
after_suc x k (inr p) = inr (ap suc p)

below_or_last : (x k : ℕ) → x < suc k → (x < k) ⊎ (x ≡ k)
below_or_last zero zero h = inr refl
below_or_last zero (suc k) h = inl (omega arith)
below_or_last (suc x) zero h = absurd (omega arith)
below_or_last (suc x) (suc k) h = after_suc x k (below_or_last x k (omega arith))

module _ (es : List (ℕ × ℕ)) (k : ℕ) (below : (m n : ℕ) → Way es k m n → leads_below es k m n ≡ true) where
  leads_over : (m x n : ℕ) → calls_it es m x ≡ true → x < k → (leads_below es k x n ≡ true) ⊎ ((leads_below es k x k && leads_below es k k n) ≡ true) →
      leads_below es (suc k) m n ≡ true
  leads_over m x n c p (inl h) = left_true (leads_below es k m n) (leads_below es k m k && leads_below es k k n) (below m n (over c p (way_of es k x n h)))
  leads_over m x n c p (inr h) = right_true (leads_below es k m n) (leads_below es k m k && leads_below es k k n)
      (both_true (leads_below es k m k) (leads_below es k k n) (below m k (over c p (way_of es k x k (first_true (leads_below es k x k) (leads_below es k k n) h))))
      (second_true (leads_below es k x k) (leads_below es k k n) h))

  leads_on : (m x n : ℕ) → calls_it es m x ≡ true → (x < k) ⊎ (x ≡ k) → leads_below es (suc k) x n ≡ true → leads_below es (suc k) m n ≡ true
  leads_on m x n c (inl p) h = leads_over m x n c p (one_true (leads_below es k x n) (leads_below es k x k && leads_below es k k n) h)
  leads_on m x n c (inr p) h = right_true (leads_below es k m n) (leads_below es k m k && leads_below es k k n)
      (both_true (leads_below es k m k) (leads_below es k k n) (leads_at_once es k m k (ap (λ y. calls_it es m y) (sym p) ∙ c))
      (from_last (leads_below es k k n) (leads_below es k k k) (ap (λ y. leads_below es (suc k) y n) (sym p) ∙ h)))

  leads_next : (m n : ℕ) → Way es (suc k) m n → leads_below es (suc k) m n ≡ true
  leads_next m n (at_once c) = leads_at_once es (suc k) m n c
  leads_next m n (over {x = x} c h w) = leads_on m x n c (below_or_last x k h) (leads_next x n w)

leads_of : (es : List (ℕ × ℕ)) (k m n : ℕ) → Way es k m n → leads_below es k m n ≡ true
leads_of es zero m n (at_once c) = c
leads_of es zero m n (over c h w) = absurd (omega arith)
leads_of es (suc k) m n w = leads_next es k (leads_of es k) m n w

-- ---- walks

then_right : {A B D : Type 0} → A ⊎ B → (B → D) → A ⊎ D
then_right (inl a) f = inl a
then_right (inr b) f = inr (f b)

found_below : (x y r : ℕ) → (nat_eq x y ≡ true) ⊎ (x < r) → x < suc y + r
found_below x y r (inl h) = let e : x ≡ y = eqb-true x y h in omega arith
found_below x y r (inr h) = omega arith

called_in : (es : List (ℕ × ℕ)) (m x : ℕ) → list_any (nat_eq x) (callees es m) ≡ true → x < past es
called_in [] m x h = cc
called_in (e ∷ es) m x h =
    elim (nat_eq e.0 m) as (λ b. list_any (nat_eq x) (cond b (e.1 ∷ callees es m) (callees es m)) ≡ true → x < suc e.1 + past es) [
      | true ↦ λ g. found_below x e.1 (past es) (then_right (one_true (nat_eq x e.1) (list_any (nat_eq x) (callees es m)) g) (called_in es m x))
      | false ↦ λ g. found_below x e.1 (past es) (inr (called_in es m x g))
    ] h

further : (es : List (ℕ × ℕ)) (x n : ℕ) → ((y : ℕ) × (calls_it es x y ≡ true) × Leads es y n) → Leads es x n
further es x n t = (t.0 ∷ t.2.0, both_true (calls_it es x t.0) (is_walk es t.0 t.2.0 n) t.1 t.2.1)

walk_of : (es : List (ℕ × ℕ)) (k m n : ℕ) → Way es k m n → (x : ℕ) × (calls_it es m x ≡ true) × Leads es x n
walk_of es k m n (at_once c) = (n, c, ([], eq-eqb n n refl))
walk_of es k m n (over {x = x} c h w) = (x, c, further es x n (walk_of es k x n w))

way_along : (es : List (ℕ × ℕ)) (m x n : ℕ) → calls_it es m x ≡ true → (xs : List ℕ) → is_walk es x xs n ≡ true → Way es (past es) m n
way_along es m x n c [] w = at_once (ap (λ z. calls_it es m z) (sym (eqb-true x n w)) ∙ c)
way_along es m x n c (y ∷ ys) w = over c (called_in es m x c)
    (way_along es x y n (first_true (calls_it es x y) (is_walk es y ys n) w) ys (second_true (calls_it es x y) (is_walk es y ys n) w))

pub leads_iff : (es : List (ℕ × ℕ)) (m n : ℕ) → (leads es m n ≡ true) ↔ ((x : ℕ) × (calls_it es m x ≡ true) × Leads es x n)
leads_iff es m n = (λ h. walk_of es (past es) m n (way_of es (past es) m n h), λ t. leads_of es (past es) m n (way_along es m t.0 n t.1 t.2.0 t.2.1))
