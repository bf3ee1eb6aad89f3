-- One turn of the search for an order.
use Rattle.std.proofs.Common.{◌≡◌, ℕ, ◌+◌, ◌*◌, ◌<◌, ◌≤◌, ◌||◌, Bool, true, false, cond, nat_eq, List, [], ◌∷◌, ◌++◌, take, get_or, length, ◌⊎◌, inl, inr, refl, sym, ◌∙◌, ap, subst, arith}
use Rattle.std.proofs.Math.Logic.{⊎_elim}
use Rattle.std.proofs.lemmas.Bool.{eqb-true, eq-eqb, cases_eq}
use Rattle.std.proofs.lemmas.List.{get_or_append_left, get_or_push, take-append-le}
use Rattle.std.specs.List.{list_any}
use Rattle.call_graph.specs.declared.ordering.Visit.{Visit}
use Rattle.call_graph.specs.declared.ordering.Visit.TheVariants.{Enter, Leave}
use Rattle.call_graph.specs.Edges.{callees, calls_it}
use Rattle.call_graph.specs.Unseen.{unseen}
use Rattle.call_graph.proofs.Seen.{unseen-more}
use Rattle.call_graph.specs.Order.{HasCycle, IsOrder, IsOrdered, IsSearched, AreOpen, function_in, waits, is_leave, is_open, entering, callers, called, grown, weights, turns}
use Rattle.call_graph.proofs.Visits.{any-push, flip, or-cases, or-left, or-right}
use Rattle.call_graph.proofs.Stacks.{done-or, top-off, top-open, found-cycle, waits-on, come-to, open-top, open-both, leaves-function}

apart : {A : Type 0} → true ≡ false → A
apart h = cc

-- ---- an order that goes on

ordered-push : (es : List (ℕ × ℕ)) (order : List ℕ) (f : ℕ) → IsOrdered es order → list_any (nat_eq f) order ≡ false
    → ((c : ℕ) → calls_it es c f ≡ true → list_any (nat_eq c) order ≡ true) → IsOrdered es (order ++ f ∷ [])
ordered-push es order f o new all = record {
  behind = λ k c lt h. elim (cases_eq k (length order)) [
    | inl e ↦
        let item : get_or (order ++ f ∷ []) k 0 ≡ f = get_or_push order f 0 k (sym e) in
        let before : take k (order ++ f ∷ []) ≡ order = front k e in
        ap (list_any (nat_eq c)) before ∙ all c (ap (λ x. calls_it es c x) (sym item) ∙ h)
    | inr n ↦
        let less : k < length order = omega (arith, lt, n, longer order) in
        let item = get_or_append_left order (f ∷ []) 0 k less in
        ap (list_any (nat_eq c)) (take-append-le k order (f ∷ []) (omega (arith, less))) ∙ o.behind k c less (ap (λ x. calls_it es c x) (sym item) ∙ h)
  ];
  once = λ k lt. elim (cases_eq k (length order)) [
    | inl e ↦
        ap (λ x. list_any (nat_eq x) (take k (order ++ f ∷ []))) (get_or_push order f 0 k (sym e)) ∙ ap (list_any (nat_eq f)) (front k e) ∙ new
    | inr n ↦
        let less : k < length order = omega (arith, lt, n, longer order) in
        ap (λ x. list_any (nat_eq x) (take k (order ++ f ∷ []))) (get_or_append_left order (f ∷ []) 0 k less)
        ∙ ap (list_any (nat_eq (get_or order k 0))) (take-append-le k order (f ∷ []) (omega (arith, less))) ∙ o.once k less
  ];
}
  where
    longer : (xs : List ℕ) → length (xs ++ f ∷ []) ≡ length xs + 1
    longer [] = refl
    longer (x ∷ xs) = omega (arith, longer xs)

    all-of : (xs : List ℕ) → take (length xs) (xs ++ f ∷ []) ≡ xs
    all-of [] = refl
    all-of (x ∷ xs) = ap (λ l. x ∷ l) (all-of xs)

    front : (k : ℕ) → k ≡ length order → take k (order ++ f ∷ []) ≡ order
    front k e = ap (λ n. take n (order ++ f ∷ [])) e ∙ all-of order

-- ---- a function is left

adds-stays : (done now : ℕ → Bool) (f : ℕ) → ((q : ℕ) → now q ≡ cond (nat_eq f q) true (done q)) → (q : ℕ) → done q ≡ true → now q ≡ true
adds-stays done now f a q h = a q ∙ elim (nat_eq f q) as (λ b. cond b true (done q) ≡ true) [ true ↦ refl | false ↦ h ]

adds-here : (done now : ℕ → Bool) (f : ℕ) → ((q : ℕ) → now q ≡ cond (nat_eq f q) true (done q)) → now f ≡ true
adds-here done now f a = a f ∙ ap (λ b. cond b true (done f)) (eq-eqb f f refl)

pub was-done : (b d : Bool) (f q : ℕ) (done : ℕ → Bool) → nat_eq f q ≡ b → done q ≡ d → done f ≡ true → cond b true d ≡ d
was-done true true f q done e h t = refl
was-done true false f q done e h t = apart (sym (ap done (sym (eqb-true f q e)) ∙ t) ∙ h)
was-done false d f q done e h t = refl

or-last : (b r : Bool) (f q : ℕ) → nat_eq f q ≡ b → cond b true r ≡ (r || nat_eq q f)
or-last true true f q e = refl
or-last true false f q e = sym (eq-eqb q f (sym (eqb-true f q e)))
or-last false true f q e = refl
or-last false false f q e = other (nat_eq q f) refl
  where
    other : (c : Bool) → nat_eq q f ≡ c → false ≡ (false || nat_eq q f)
    other true h = apart (sym (eq-eqb f q (sym (eqb-true q f h))) ∙ e)
    other false h = sym h

module _ (es : List (ℕ × ℕ)) (seen done now : ℕ → Bool) (order : List ℕ) (f : ℕ) (rest : List Visit)
    (h : IsSearched es seen done order (rest ++ Leave f ∷ [])) (a : (q : ℕ) → now q ≡ cond (nat_eq f q) true (done q)) where
  stays : (q : ℕ) → done q ≡ true → now q ≡ true
  stays = adds-stays done now f a

  here : now f ≡ true
  here = adds-here done now f a

  seen-left : (q : ℕ) → (done q || is_open q (rest ++ Leave f ∷ [])) ≡ true → (now q || is_open q rest) ≡ true
  seen-left q s =
      ⊎_elim
      (λ d. or-left (now q) (is_open q rest) (stays q d))
      (λ o. ⊎_elim
      (λ r. or-right (now q) (is_open q rest) r)
      (λ e. or-left (now q) (is_open q rest) (ap now (leaves-function q (Leave f) e) ∙ here))
      (open-top q (Leave f) rest o))
      (or-cases (done q) (is_open q (rest ++ Leave f ∷ [])) s)

  in-order : (b : Bool) → done f ≡ b → (q : ℕ) → now q ≡ list_any (nat_eq q) (cond b order (order ++ f ∷ []))
  in-order true d q = a q ∙ was-done (nat_eq f q) (done q) f q done refl refl d ∙ h.done_is q
  in-order false d q = a q ∙ ap (λ r. cond (nat_eq f q) true r) (h.done_is q) ∙ or-last (nat_eq f q) (list_any (nat_eq q) order) f q refl ∙ sym (any-push q order f)

  orders : (b : Bool) → done f ≡ b → IsOrdered es (cond b order (order ++ f ∷ []))
  orders true d = h.ordered
  orders false d =
      ordered-push es order f h.ordered (sym (h.done_is f) ∙ d) (λ c k. sym (h.done_is c) ∙ top-open es done f rest h.opened c k)

  pub left : IsSearched es seen now (grown done f order) rest
  left = record {
    opened = top-off es done now (Leave f) stays here rest h.opened;
    seen_is = λ q s. seen-left q (h.seen_is q s);
    begun = λ c k e. done-or es done now (Leave f) stays here k rest (h.begun c k e);
    done_is = in-order (done f) refl;
    ordered = orders (done f) refl;
  }

-- ---- a function that was come to before

module _ (es : List (ℕ × ℕ)) (seen done : ℕ → Bool) (order : List ℕ) (f : ℕ) (rest : List Visit)
    (h : IsSearched es seen done order (rest ++ Enter f ∷ [])) where
  not-open : (q : ℕ) → is_open q (rest ++ Enter f ∷ []) ≡ true → is_open q rest ≡ true
  not-open q o = ⊎_elim (λ r. r) (λ e. apart (sym e)) (open-top q (Enter f) rest o)

  seen-on : (q : ℕ) → seen q ≡ true → (done q || is_open q rest) ≡ true
  seen-on q s =
      ⊎_elim (λ d. or-left (done q) (is_open q rest) d) (λ o. or-right (done q) (is_open q rest) (not-open q o))
      (or-cases (done q) (is_open q (rest ++ Enter f ∷ [])) (h.seen_is q s))

  pub passed : (now : ℕ → Bool) → ((q : ℕ) → now q ≡ true → seen q ≡ true) → done f ≡ true → IsSearched es now done order rest
  passed now was d = record {
    opened = top-off es done done (Enter f) (λ q x. x) d rest h.opened;
    seen_is = λ q s. seen-on q (was q s);
    begun = λ c k e. done-or es done done (Enter f) (λ q x. x) d k rest (h.begun c k e);
    done_is = h.done_is;
    ordered = h.ordered;
  }

  pub cycle : seen f ≡ true → done f ≡ false → HasCycle es
  cycle s d =
      ⊎_elim (λ e. apart (sym e ∙ d)) (λ o. found-cycle es done f rest h.opened o) (or-cases (done f) (is_open f rest) (seen-on f s))

  -- ---- a function that is new

  module _ (now : ℕ → Bool) (a : (q : ℕ) → now q ≡ cond (nat_eq f q) true (seen q)) where
    abbrev after : List Visit
    after = rest ++ Leave f ∷ entering (callers es f)

    still-open : (q : ℕ) → is_open q rest ≡ true → is_open q after ≡ true
    still-open q o = open-both q rest (Leave f ∷ entering (callers es f)) ∙ or-left (is_open q rest) (is_open q (Leave f ∷ entering (callers es f))) o

    here-open : (q : ℕ) → nat_eq f q ≡ true → is_open q after ≡ true
    here-open q e =
        open-both q rest (Leave f ∷ entering (callers es f))
        ∙ or-right (is_open q rest) (is_open q (Leave f ∷ entering (callers es f)))
        (or-left (nat_eq q f) (is_open q (entering (callers es f))) (eq-eqb q f (sym (eqb-true f q e))))

    now-seen : (q : ℕ) (b : Bool) → nat_eq f q ≡ b → cond b true (seen q) ≡ true → (done q || is_open q after) ≡ true
    now-seen q true e s = or-right (done q) (is_open q after) (here-open q e)
    now-seen q false e s =
        ⊎_elim (λ d. or-left (done q) (is_open q after) d) (λ o. or-right (done q) (is_open q after) (still-open q o)) (or-cases (done q) (is_open q rest) (seen-on q s))

    pub entered : IsSearched es now done order after
    entered = record {
      opened = come-to es done f rest h.opened;
      seen_is = λ q s. now-seen q (nat_eq f q) refl (sym (a q) ∙ s);
      begun = λ c k e. ⊎_elim
          (λ d. or-left (done k) (waits k after) d)
          (λ w. or-right (done k) (waits k after) (waits-on es done f k rest w))
          (or-cases (done k) (waits k (rest ++ Enter f ∷ [])) (h.begun c k e));
      done_is = h.done_is;
      ordered = h.ordered;
    }

-- ---- the beginning, and the end

pub searched-none : (es : List (ℕ × ℕ)) (seen done : ℕ → Bool) (stack : List Visit) → ((q : ℕ) → seen q ≡ false) → ((q : ℕ) → done q ≡ false)
    → ((c k : ℕ) → calls_it es c k ≡ true → waits k stack ≡ true) → ((q : ℕ) → is_open q stack ≡ false)
    → ((es : List (ℕ × ℕ)) (done : ℕ → Bool) → AreOpen es done stack) → IsSearched es seen done [] stack
searched-none es seen done stack s d w n o = record {
  opened = o es done;
  seen_is = λ q t. apart (sym t ∙ s q);
  begun = λ c k e. or-right (done k) (waits k stack) (w c k e);
  done_is = d;
  ordered = record { behind = λ k c lt e. absurd (omega (arith, lt)); once = λ k lt. absurd (omega (arith, lt)) };
}

pub is-order : (es : List (ℕ × ℕ)) (seen done : ℕ → Bool) (order : List ℕ) → IsSearched es seen done order [] → IsOrder es order
is-order es seen done order h = record {
  each = λ c k e. sym (h.done_is k) ∙ ⊎_elim (λ d. d) (λ n. apart (sym n)) (or-cases (done k) false (h.begun c k e));
  behind = h.ordered.behind;
  once = h.ordered.once;
}

-- ---- turns that are still to come

weights-both : (xs ys : List Visit) → weights (xs ++ ys) ≡ weights xs + weights ys
weights-both [] ys = omega arith
weights-both (x ∷ xs) ys = omega (arith, weights-both xs ys)

weights-entering : (cs : List ℕ) → weights (entering cs) ≡ 2 * length cs
weights-entering [] = refl
weights-entering (c ∷ cs) = omega (arith, weights-entering cs)

head-fewer : (b s : Bool) (l : ℕ) → (b ≡ true → s ≡ false) → cond (cond b true s) 0 1 + cond b 1 0 ≤ cond s 0 1
head-fewer true true l h = absurd-of (h refl)
  where
    absurd-of : {A : Type 0} → true ≡ false → A
    absurd-of h = cc
head-fewer true false l h = omega arith
head-fewer false s l h = omega arith

module _ (f g : ℕ → Bool) (v : ℕ) (adds : (q : ℕ) → g q ≡ cond (nat_eq v q) true (f q)) (new : f v ≡ false) where
  here-fewer : (e : ℕ × ℕ) → cond (g e.1) 0 1 + cond (nat_eq e.1 v) 1 0 ≤ cond (f e.1) 0 1
  here-fewer e =
      let weight : Bool → ℕ = λ b. cond b 0 1 in
      let now : weight (g e.1) ≡ weight (cond (nat_eq e.1 v) true (f e.1)) =
      ap weight (adds e.1 ∙ ap (λ b. cond b true (f e.1)) (flip v e.1)) in
      let le = head-fewer (nat_eq e.1 v) (f e.1) 0 (λ t. ap f (eqb-true e.1 v t) ∙ new) in
      omega (arith, now, le)

  callers-length : (e : ℕ × ℕ) (cs : List ℕ) → length (cond (nat_eq e.1 v) (e.0 ∷ cs) cs) ≡ cond (nat_eq e.1 v) 1 0 + length cs
  callers-length e cs = elim (nat_eq e.1 v) as (λ b. length (cond b (e.0 ∷ cs) cs) ≡ cond b 1 0 + length cs) [ true ↦ omega arith | false ↦ omega arith ]

  pub unseen-callers : (es : List (ℕ × ℕ)) → unseen es g + length (callers es v) ≤ unseen es f
  unseen-callers [] = omega arith
  unseen-callers (e ∷ es) = omega (arith, here-fewer e, callers-length e (callers es v), unseen-callers es)

pub fewer-entered : (es : List (ℕ × ℕ)) (f g : ℕ → Bool) (v : ℕ) (rest : List Visit) → ((q : ℕ) → g q ≡ cond (nat_eq v q) true (f q)) → f v ≡ false
    → turns es g (rest ++ Leave v ∷ entering (callers es v)) + 1 ≤ turns es f (rest ++ Enter v ∷ [])
fewer-entered es f g v rest adds new =
    let a = weights-both rest (Leave v ∷ entering (callers es v)) in
    let b = weights-both rest (Enter v ∷ []) in
    let c = weights-entering (callers es v) in
    let u = unseen-callers f g v adds new es in
    omega (arith, a, b, c, u)

pub fewer-passed : (es : List (ℕ × ℕ)) (f g : ℕ → Bool) (v : ℕ) (rest : List Visit) → ((q : ℕ) → g q ≡ cond (nat_eq v q) true (f q))
    → turns es g rest + 1 ≤ turns es f (rest ++ Enter v ∷ [])
fewer-passed es f g v rest adds =
    let b = weights-both rest (Enter v ∷ []) in
    let u = unseen-more es f g v adds in
    omega (arith, b, u)

pub fewer-left : (es : List (ℕ × ℕ)) (f : ℕ → Bool) (v : ℕ) (rest : List Visit) → turns es f rest + 1 ≤ turns es f (rest ++ Leave v ∷ [])
fewer-left es f v rest = let b = weights-both rest (Leave v ∷ []) in omega (arith, b)

-- ---- all that are called wait

any-called : (b r : Bool) (es : List (ℕ × ℕ)) (e : ℕ × ℕ) (c k : ℕ) → (list_any (nat_eq k) (callees es c) ≡ true → r ≡ true)
    → list_any (nat_eq k) (cond b (e.1 ∷ callees es c) (callees es c)) ≡ true → (nat_eq k e.1 || r) ≡ true
any-called true r es e c k h w = ⊎_elim (λ t. or-left (nat_eq k e.1) r t) (λ t. or-right (nat_eq k e.1) r (h t)) (or-cases (nat_eq k e.1) (list_any (nat_eq k) (callees es c)) w)
any-called false r es e c k h w = or-right (nat_eq k e.1) r (h w)

pub called-waits : (es : List (ℕ × ℕ)) (c k : ℕ) → calls_it es c k ≡ true → waits k (entering (called es)) ≡ true
called-waits [] c k h = apart (sym h)
called-waits (e ∷ es) c k h = any-called (nat_eq e.0 c) (waits k (entering (called es))) es e c k (called-waits es c k) h

pub entering-closed : (q : ℕ) (cs : List ℕ) → is_open q (entering cs) ≡ false
entering-closed q [] = refl
entering-closed q (c ∷ cs) = entering-closed q cs

pub entering-opened : (cs : List ℕ) (es : List (ℕ × ℕ)) (done : ℕ → Bool) → AreOpen es done (entering cs)
entering-opened [] es done = record {}
entering-opened (c ∷ cs) es done = entering-opened cs es done
