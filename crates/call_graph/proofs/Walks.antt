-- Walks over calls.
use Rattle.std.proofs.Common.{◌≡◌, ℕ, ◌+◌, ◌<◌, ◌&&◌, Bool, true, false, cond, nat_eq, List, [], ◌∷◌, ◌++◌, take, get_or, length, refl, sym, ◌∙◌, ap}
use Rattle.std.proofs.lemmas.Bool.{eqb-true, eq-eqb}
use Rattle.std.proofs.lemmas.List.{take_more}
use Rattle.call_graph.specs.Edges.{callees, calls_it, is_walk, Leads}

pushed : (b : Bool) (x : ℕ) (l : List ℕ) (y : ℕ) → x ∷ cond b (l ++ y ∷ []) l ≡ cond b ((x ∷ l) ++ y ∷ []) (x ∷ l)
pushed true x l y = refl
pushed false x l y = refl

callees-push : (es : List (ℕ × ℕ)) (e : ℕ × ℕ) (id : ℕ) → callees (es ++ e ∷ []) id ≡ cond (nat_eq e.0 id) (callees es id ++ e.1 ∷ []) (callees es id)
callees-push [] e id = refl
callees-push (f ∷ es) e id =
    elim (nat_eq f.0 id) as (λ b. cond b (f.1 ∷ callees (es ++ e ∷ []) id) (callees (es ++ e ∷ []) id) ≡ cond (nat_eq e.0 id) (cond b (f.1 ∷ callees es id) (callees es id) ++ e.1 ∷ []) (cond b (f.1 ∷ callees es id) (callees es id))) [
      | true ↦ ap (λ l. f.1 ∷ l) (callees-push es e id) ∙ pushed (nat_eq e.0 id) f.1 (callees es id) e.1
      | false ↦ callees-push es e id
    ]

pub callees-more : (es : List (ℕ × ℕ)) (k : ℕ) (d : ℕ × ℕ) (id : ℕ) → k < length es →
    callees (take (k + 1) es) id ≡ cond (nat_eq (get_or es k d).0 id) (callees (take k es) id ++ (get_or es k d).1 ∷ []) (callees (take k es) id)
callees-more es k d id lt = ap (λ es. callees es id) (take_more es k d lt) ∙ callees-push (take k es) (get_or es k d) id

and-true : (a b : Bool) → a ≡ true → b ≡ true → (a && b) ≡ true
and-true a b p q = ap (λ a. a && b) p ∙ q

pub first-true : (a b : Bool) → (a && b) ≡ true → a ≡ true
first-true true b h = refl
first-true false b h = cc

pub second-true : (a b : Bool) → (a && b) ≡ true → b ≡ true
second-true true b h = h
second-true false b h = cc

go : (es : List (ℕ × ℕ)) (from x y : ℕ) → calls_it es x y ≡ true → (over : List ℕ) → is_walk es from over x ≡ true → is_walk es from (over ++ y ∷ []) y ≡ true
go es from x y c [] w =
    and-true (calls_it es from y) (nat_eq y y) (ap (λ z. calls_it es z y) (eqb-true from x w) ∙ c) (eq-eqb y y refl)
go es from x y c (v ∷ vs) w =
    and-true (calls_it es from v) (is_walk es v (vs ++ y ∷ []) y) (first-true (calls_it es from v) (is_walk es v vs x) w)
    (go es v x y c vs (second-true (calls_it es from v) (is_walk es v vs x) w))

-- a walk goes on by one call
pub walk-more : (es : List (ℕ × ℕ)) (from x y : ℕ) → calls_it es x y ≡ true → Leads es from x → Leads es from y
walk-more es from x y c (over, w) = (over ++ y ∷ [], go es from x y c over w)

-- what has a function and, with one, all that it calls, has all to which that leads
pub closed-has : (es : List (ℕ × ℕ)) (seen : ℕ → Bool) → ((x y : ℕ) → seen x ≡ true → calls_it es x y ≡ true → seen y ≡ true) →
    (from to : ℕ) → seen from ≡ true → (over : List ℕ) → is_walk es from over to ≡ true → seen to ≡ true
closed-has es seen h from to s [] w = ap seen (sym (eqb-true from to w)) ∙ s
closed-has es seen h from to s (v ∷ vs) w =
    closed-has es seen h v to (h from v s (first-true (calls_it es from v) (is_walk es v vs to) w)) vs (second-true (calls_it es from v) (is_walk es v vs to) w)
