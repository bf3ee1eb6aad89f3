-- One turn of the search: a function is taken off the stack, and what it calls is visited.
use Rattle.std.proofs.Common.{◌≡◌, ℕ, ◌||◌, ◌&&◌, Bool, true, false, not, nat_eq, List, [], ◌∷◌, ◌++◌, ◌⊎◌, inl, inr, refl, sym, ◌∙◌, ap}
use Rattle.std.proofs.Math.Logic.{⊎_elim}
use Rattle.std.proofs.lemmas.Bool.{eqb-true, eq-eqb}
use Rattle.std.specs.List.{list_any}
use Rattle.call_graph.specs.Edges.{callees, calls_it, Leads}
use Rattle.call_graph.proofs.Walks.{walk-more}
use Rattle.call_graph.proofs.Visits.{any-push, or-cases, or-left, or-right, and-both, and-first}

-- what is known of the functions seen, and of those that wait
pub record Searched (es : List (ℕ × ℕ)) (from : ℕ) (seen : ℕ → Bool) (stack : List ℕ) : Type 0 where
  pub sound : (q : ℕ) → seen q ≡ true → Leads es from q
  pub waits : (q : ℕ) → list_any (nat_eq q) stack ≡ true → seen q ≡ true
  pub closed : (x y : ℕ) → seen x ≡ true → calls_it es x y ≡ true → (seen y || list_any (nat_eq x) stack) ≡ true
  pub begun : seen from ≡ true

is-false : (b : Bool) → (b ≡ true) ⊎ (b ≡ false)
is-false true = inl refl
is-false false = inr refl

absurd-of : {A : Type 0} → true ≡ false → A
absurd-of h = cc

module _ (es : List (ℕ × ℕ)) (from : ℕ) (seen after : ℕ → Bool) (stack rest grown : List ℕ) (x : ℕ)
    (h : Searched es from seen stack) (popped : stack ≡ rest ++ x ∷ [])
    (s : (q : ℕ) → after q ≡ (list_any (nat_eq q) (callees es x) || seen q))
    (t : (q : ℕ) → list_any (nat_eq q) grown ≡ (list_any (nat_eq q) rest || (list_any (nat_eq q) (callees es x) && not (seen q)))) where
  stood : (q : ℕ) → list_any (nat_eq q) stack ≡ (list_any (nat_eq q) rest || nat_eq q x)
  stood q = ap (λ l. list_any (nat_eq q) l) popped ∙ any-push q rest x

  x-seen : seen x ≡ true
  x-seen = h.waits x (stood x ∙ or-right (list_any (nat_eq x) rest) (nat_eq x x) (eq-eqb x x refl))

  stays : (q : ℕ) → seen q ≡ true → after q ≡ true
  stays q e = s q ∙ or-right (list_any (nat_eq q) (callees es x)) (seen q) e

  called : (q : ℕ) → calls_it es x q ≡ true → after q ≡ true
  called q e = s q ∙ or-left (list_any (nat_eq q) (callees es x)) (seen q) e

  still-waits : (q : ℕ) → list_any (nat_eq q) rest ≡ true → list_any (nat_eq q) grown ≡ true
  still-waits q e = t q ∙ or-left (list_any (nat_eq q) rest) (list_any (nat_eq q) (callees es x) && not (seen q)) e

  sound-more : (q : ℕ) → after q ≡ true → Leads es from q
  sound-more q e =
      ⊎_elim (λ c. walk-more es from x q c (h.sound x x-seen)) (λ o. h.sound q o) (or-cases (list_any (nat_eq q) (callees es x)) (seen q) (sym (s q) ∙ e))

  waits-more : (q : ℕ) → list_any (nat_eq q) grown ≡ true → after q ≡ true
  waits-more q e =
      ⊎_elim
      (λ r. stays q (h.waits q (stood q ∙ or-left (list_any (nat_eq q) rest) (nat_eq q x) r)))
      (λ c. called q (and-first (list_any (nat_eq q) (callees es x)) (not (seen q)) c))
      (or-cases (list_any (nat_eq q) rest) (list_any (nat_eq q) (callees es x) && not (seen q)) (sym (t q) ∙ e))

  was-seen : (a b : ℕ) → calls_it es a b ≡ true → seen a ≡ true → (after b || list_any (nat_eq a) grown) ≡ true
  was-seen a b c o =
      ⊎_elim
      (λ sb. or-left (after b) (list_any (nat_eq a) grown) (stays b sb))
      (λ w. ⊎_elim
      (λ r. or-right (after b) (list_any (nat_eq a) grown) (still-waits a r))
      (λ same. or-left (after b) (list_any (nat_eq a) grown) (called b (ap (λ z. calls_it es z b) (sym (eqb-true a x same)) ∙ c)))
      (or-cases (list_any (nat_eq a) rest) (nat_eq a x) (sym (stood a) ∙ w)))
      (or-cases (seen b) (list_any (nat_eq a) stack) (h.closed a b o c))

  is-new : (a b : ℕ) → after a ≡ true → seen a ≡ false → (after b || list_any (nat_eq a) grown) ≡ true
  is-new a b e n =
      ⊎_elim
      (λ c. or-right (after b) (list_any (nat_eq a) grown)
      (t a ∙ or-right (list_any (nat_eq a) rest) (list_any (nat_eq a) (callees es x) && not (seen a)) (and-both (list_any (nat_eq a) (callees es x)) (not (seen a)) c (ap not n))))
      (λ o. absurd-of (sym o ∙ n))
      (or-cases (list_any (nat_eq a) (callees es x)) (seen a) (sym (s a) ∙ e))

  pub searched-more : Searched es from after grown
  searched-more = record {
    sound = sound-more;
    waits = waits-more;
    closed = λ a b e c. ⊎_elim (λ o. was-seen a b c o) (λ n. is-new a b e n) (is-false (seen a));
    begun = stays from h.begun;
  }

alone : (q from : ℕ) → list_any (nat_eq q) (from ∷ []) ≡ true → nat_eq q from ≡ true
alone q from h = ⊎_elim (λ e. e) (λ n. absurd-of (sym n)) (or-cases (nat_eq q from) false h)

-- before the first turn
pub searched-first : (es : List (ℕ × ℕ)) (from : ℕ) (seen : ℕ → Bool) → ((q : ℕ) → seen q ≡ nat_eq from q) → Searched es from seen (from ∷ [])
searched-first es from seen h = record {
  sound = λ q e. ([], sym (h q) ∙ e);
  waits = λ q e. h q ∙ eq-eqb from q (sym (eqb-true q from (alone q from e)));
  closed = λ x y e c. or-right (seen y) (list_any (nat_eq x) (from ∷ [])) (or-left (nat_eq x from) false (eq-eqb x from (sym (eqb-true from x (sym (h x) ∙ e)))));
  begun = h from ∙ eq-eqb from from refl;
}
