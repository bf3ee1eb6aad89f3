-- The calls of an image as a list, by one instruction more.
use Rattle.std.proofs.Common.{◌≡◌, ℕ, ◌+◌, ◌<◌, ◌≤◌, ◌||◌, ◌&&◌, Bool, true, false, cond, nat_eq, List, [], ◌∷◌, ◌++◌, length, Some, None, slice_get, refl, sym, ap, ◌∙◌, arith}
use Rattle.std.proofs.Math.Logic.{⊎_elim}
use Rattle.std.proofs.lemmas.Bool.{eqb-true, eq-eqb, cases_lt, or_cases, and_parts}
use Rattle.std.proofs.lemmas.Option.{slice_get_within}
use Rattle.std.specs.List.{list_any}
use Rattle.spirv_words.specs.declared.images.Instruction.{Instruction}
use Rattle.image_places.specs.Places.{function_of}
use Rattle.call_graph.specs.Edges.{callees, calls_it}
use Rattle.call_graph.proofs.Visits.{or-left, or-right}
use Rattle.run_rooms.specs.Layout.{called}
use Rattle.run_rooms.specs.Needs.{HasCall}
use Rattle.run_rooms.specs.Calls.{AreCalls}

or-assoc : (a b c : Bool) → (a || (b || c)) ≡ ((a || b) || c)
or-assoc true b c = refl
or-assoc false b c = refl

last-call : (t : Bool) (b y : ℕ) → list_any (nat_eq b) (cond t (y ∷ []) []) ≡ (t && nat_eq b y)
last-call false b y = refl
last-call true b y = or-none (nat_eq b y)
  where
    or-none : (t : Bool) → (t || false) ≡ t
    or-none true = refl
    or-none false = refl

-- a call at the end of a list
calls-push : (es : List (ℕ × ℕ)) (x y a b : ℕ) → calls_it (es ++ (x, y) ∷ []) a b ≡ (calls_it es a b || (nat_eq x a && nat_eq b y))
calls-push [] x y a b = last-call (nat_eq x a) b y
calls-push (e ∷ es) x y a b =
    elim (nat_eq e.0 a) as (λ t. list_any (nat_eq b) (cond t (e.1 ∷ callees (es ++ (x, y) ∷ []) a) (callees (es ++ (x, y) ∷ []) a))
    ≡ (list_any (nat_eq b) (cond t (e.1 ∷ callees es a) (callees es a)) || (nat_eq x a && nat_eq b y))) [
      | true ↦ ap (λ t. nat_eq b e.1 || t) (calls-push es x y a b) ∙ or-assoc (nat_eq b e.1) (calls_it es a b) (nat_eq x a && nat_eq b y)
      | false ↦ calls-push es x y a b
    ]

same-at : (code : List Instruction) (k : ℕ) (i x : Instruction) → slice_get code k ≡ Some i → slice_get code k ≡ Some x → x ≡ i
same-at code k i x s t = let e : Some x ≡ Some i = sym t ∙ s in cc

module _ (code : List Instruction) (k : ℕ) (i : Instruction) (es : List (ℕ × ℕ)) (at : slice_get code k ≡ Some i) (h : AreCalls code k es) where
  same-call : (a b : ℕ) (c : HasCall code a b) → k ≤ c.number → c.number < k + 1 → (called code i ≡ Some b) × (function_of code k ≡ a)
  same-call a b c l m =
      let number : c.number ≡ k = omega arith in
      let same = same-at code k i c.instruction at (ap (slice_get code) (sym number) ∙ c.stands) in
      (ap (called code) (sym same) ∙ c.calls, ap (function_of code) (sym number) ∙ c.inside)

  pub calls-same : called code i ≡ None → AreCalls code (k + 1) es
  calls-same none = record {
    made = h.made;
    all = λ a b c l. ⊎_elim (λ lt. h.all a b c lt) (λ ge. no-call b (same-call a b c ge l).0) (cases_lt c.number k);
  }
    where
      no-call : {A : Type 0} (b : ℕ) → called code i ≡ Some b → A
      no-call b e = cc

  pub calls-more : (a b : ℕ) → function_of code k ≡ a → called code i ≡ Some b → AreCalls code (k + 1) (es ++ (a, b) ∷ [])
  calls-more a b f e = record {
    made = λ x y m. ⊎_elim
        (λ old. h.made x y old)
        (λ new.
        let p = and_parts (nat_eq a x) (nat_eq y b) new in
        record { number = k; instruction = i; stands = at; inside = f ∙ eqb-true a x p.0; calls = e ∙ ap Some (sym (eqb-true y b p.1)) })
        (or_cases (calls_it es x y) (nat_eq a x && nat_eq y b) (sym (calls-push es a b x y) ∙ m));
    all = λ x y c l. calls-push es a b x y ∙ ⊎_elim
        (λ lt. or-left (calls_it es x y) (nat_eq a x && nat_eq y b) (h.all x y c lt))
        (λ ge.
        let s = same-call x y c ge l in
        let to : Some y ≡ Some b = sym s.0 ∙ e in
        let from : a ≡ x = sym f ∙ s.1 in
        or-right (calls_it es x y) (nat_eq a x && nat_eq y b) (both-true (nat_eq a x) (nat_eq y b) (eq-eqb a x from) (eq-eqb y b cc)))
        (cases_lt c.number k);
  }
    where
      both-true : (p q : Bool) → p ≡ true → q ≡ true → (p && q) ≡ true
      both-true p q e f = ap (λ t. t && q) e ∙ f

-- all calls are made by some instruction
pub every-call : (code : List Instruction) (es : List (ℕ × ℕ)) → AreCalls code (length code) es → (a b : ℕ) → HasCall code a b → calls_it es a b ≡ true
every-call code es h a b c = h.all a b c (slice_get_within code c.number c.instruction c.stands)
