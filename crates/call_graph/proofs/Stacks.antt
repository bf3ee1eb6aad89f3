-- What is open on the stack, where its top is taken off or replaced.
use Rattle.std.proofs.Common.{◌≡◌, ℕ, ◌||◌, ◌&&◌, Bool, true, false, cond, nat_eq, List, [], ◌∷◌, ◌++◌, ◌⊎◌, inl, inr, refl, sym, ◌∙◌, ap, map}
use Rattle.std.proofs.Math.Logic.{⊎_elim}
use Rattle.std.proofs.lemmas.Bool.{eqb-true, eq-eqb}
use Rattle.std.proofs.lemmas.List.Folds.{list_any-append}
use Rattle.std.specs.List.{list_any}
use Rattle.call_graph.specs.declared.ordering.Visit.{Visit}
use Rattle.call_graph.specs.declared.ordering.Visit.TheVariants.{Enter, Leave}
use Rattle.call_graph.specs.Edges.{calls_it, is_walk, Leads}
use Rattle.call_graph.specs.Order.{HasCycle, LeadsOn, IsOpen, AreOpen, function_in, waits, is_leave, is_open, entering, callers}
use Rattle.call_graph.proofs.Calling.{callers-call}
use Rattle.call_graph.proofs.Visits.{or-cases, or-left, or-right, and-both}

apart : {A : Type 0} → true ≡ false → A
apart h = cc

pub or-map : (a b c d : Bool) → (a ≡ true → c ≡ true) → (b ≡ true → (c || d) ≡ true) → (a || b) ≡ true → (c || d) ≡ true
or-map a b c d f g h = ⊎_elim (λ x. or-left c d (f x)) g (or-cases a b h)

-- ---- what waits on two stacks together

pub waits-both : (q : ℕ) (xs ys : List Visit) → waits q (xs ++ ys) ≡ (waits q xs || waits q ys)
waits-both q xs ys = list_any-append (λ v. nat_eq q (function_in v)) xs ys

pub waits-below : (q : ℕ) (xs ys : List Visit) → waits q xs ≡ true → waits q (xs ++ ys) ≡ true
waits-below q xs ys h = waits-both q xs ys ∙ or-left (waits q xs) (waits q ys) h

pub waits-above : (q : ℕ) (xs ys : List Visit) → waits q ys ≡ true → waits q (xs ++ ys) ≡ true
waits-above q xs ys h = waits-both q xs ys ∙ or-right (waits q xs) (waits q ys) h

pub waits-top : (q : ℕ) (v : Visit) (xs : List Visit) → waits q (xs ++ v ∷ []) ≡ true → (waits q xs ≡ true) ⊎ (q ≡ function_in v)
waits-top q v xs h =
    ⊎_elim inl
    (λ t. ⊎_elim (λ e. inr (eqb-true q (function_in v) e)) (λ n. apart (sym n)) (or-cases (nat_eq q (function_in v)) false t))
    (or-cases (waits q xs) (waits q (v ∷ [])) (sym (waits-both q xs (v ∷ [])) ∙ h))

pub waits-there : (q : ℕ) (v : Visit) (xs ys : List Visit) → q ≡ function_in v → waits q (xs ++ v ∷ ys) ≡ true
waits-there q v xs ys e = waits-above q xs (v ∷ ys) (or-left (nat_eq q (function_in v)) (waits q ys) (eq-eqb q (function_in v) e))

pub open-both : (q : ℕ) (xs ys : List Visit) → is_open q (xs ++ ys) ≡ (is_open q xs || is_open q ys)
open-both q xs ys = list_any-append (is_leave q) xs ys

leave-is : (q : ℕ) (v : Visit) → is_leave q v ≡ true → q ≡ function_in v
leave-is q (Enter f) h = apart (sym h)
leave-is q (Leave f) h = eqb-true q f h

pub open-top : (q : ℕ) (v : Visit) (xs : List Visit) → is_open q (xs ++ v ∷ []) ≡ true → (is_open q xs ≡ true) ⊎ (is_leave q v ≡ true)
open-top q v xs h =
    ⊎_elim inl
    (λ t. ⊎_elim inr (λ n. apart (sym n)) (or-cases (is_leave q v) false t))
    (or-cases (is_open q xs) (is_open q (v ∷ [])) (sym (open-both q xs (v ∷ [])) ∙ h))

pub leaves-function : (q : ℕ) (v : Visit) → is_leave q v ≡ true → q ≡ function_in v
leaves-function q v h = leave-is q v h

pub waits-entering : (q : ℕ) (cs : List ℕ) → waits q (entering cs) ≡ list_any (nat_eq q) cs
waits-entering q [] = refl
waits-entering q (c ∷ cs) = ap (λ b. nat_eq q c || b) (waits-entering q cs)

-- ---- the top is taken off, and its function is done

module _ (es : List (ℕ × ℕ)) (done now : ℕ → Bool) (v : Visit) (stays : (q : ℕ) → done q ≡ true → now q ≡ true) (here : now (function_in v) ≡ true) where
  pub done-or : (q : ℕ) (xs : List Visit) → (done q || waits q (xs ++ v ∷ [])) ≡ true → (now q || waits q xs) ≡ true
  done-or q xs h =
      ⊎_elim
      (λ d. or-left (now q) (waits q xs) (stays q d))
      (λ w. ⊎_elim
      (λ o. or-right (now q) (waits q xs) o)
      (λ e. or-left (now q) (waits q xs) (ap now e ∙ here))
      (waits-top q v xs w))
      (or-cases (done q) (waits q (xs ++ v ∷ [])) h)

  less-open : (u : ℕ) (xs : List Visit) → IsOpen es done u (xs ++ v ∷ []) → IsOpen es now u xs
  less-open u xs o = record {
    callers = λ c k. done-or c xs (o.callers c k);
    lead = λ x w. o.lead x (waits-below x xs (v ∷ []) w);
  }

  pub top-off : (xs : List Visit) → AreOpen es done (xs ++ v ∷ []) → AreOpen es now xs
  top-off [] o = record {}
  top-off (Enter f ∷ xs) o = top-off xs o
  top-off (Leave u ∷ xs) o = (less-open u xs o.0, top-off xs o.1)

-- ---- what is open on the top has all that call it done

pub top-open : (es : List (ℕ × ℕ)) (done : ℕ → Bool) (u : ℕ) (xs : List Visit) → AreOpen es done (xs ++ Leave u ∷ []) → (c : ℕ) → calls_it es c u ≡ true → done c ≡ true
top-open es done u [] o c k = ⊎_elim (λ d. d) (λ n. apart (sym n)) (or-cases (done c) false (o.0.callers c k))
top-open es done u (Enter f ∷ xs) o c k = top-open es done u xs o c k
top-open es done u (Leave f ∷ xs) o c k = top-open es done u xs o.1 c k

-- ---- a function is come to that is open

cycle-at : (es : List (ℕ × ℕ)) (u : ℕ) → LeadsOn es u u → HasCycle es
cycle-at es u l = record { caller = l.last; callee = u; calls = l.calls; back = l.way }

pub found-cycle : (es : List (ℕ × ℕ)) (done : ℕ → Bool) (f : ℕ) (xs : List Visit) → AreOpen es done (xs ++ Enter f ∷ []) → is_open f xs ≡ true → HasCycle es
found-cycle es done f [] o h = apart (sym h)
found-cycle es done f (Enter g ∷ xs) o h = found-cycle es done f xs o h
found-cycle es done f (Leave u ∷ xs) o h =
    ⊎_elim
    (λ e. let same : f ≡ u = eqb-true f u e in
    cycle-at es u (o.0.lead u (waits-there u (Enter f) xs [] (sym same))))
    (λ more. found-cycle es done f xs o.1 more)
    (or-cases (nat_eq f u) (is_open f xs) h)

-- ---- a function is come to for the first time

one-more : (es : List (ℕ × ℕ)) (x v u : ℕ) → calls_it es x v ≡ true → LeadsOn es v u → LeadsOn es x u
one-more es x v u k l = record {
  last = l.last;
  calls = l.calls;
  way = (v ∷ l.way.0, and-both (calls_it es x v) (is_walk es v l.way.0 l.last) k l.way.1);
}

module _ (es : List (ℕ × ℕ)) (done : ℕ → Bool) (f : ℕ) where
  abbrev new : List Visit
  new = Leave f ∷ entering (callers es f)

  calls-new : (x : ℕ) → waits x (entering (callers es f)) ≡ true → calls_it es x f ≡ true
  calls-new x w = sym (callers-call es x f) ∙ sym (waits-entering x (callers es f)) ∙ w

  new-calls : (x : ℕ) → calls_it es x f ≡ true → waits x (entering (callers es f)) ≡ true
  new-calls x k = waits-entering x (callers es f) ∙ callers-call es x f ∙ k

  pub waits-on : (q : ℕ) (xs : List Visit) → waits q (xs ++ Enter f ∷ []) ≡ true → waits q (xs ++ new) ≡ true
  waits-on q xs w = ⊎_elim (λ o. waits-below q xs new o) (λ e. waits-there q (Leave f) xs (entering (callers es f)) e) (waits-top q (Enter f) xs w)

  leads-more : (u x : ℕ) (xs : List Visit) → ((x : ℕ) → waits x (xs ++ Enter f ∷ []) ≡ true → LeadsOn es x u) → waits x (xs ++ new) ≡ true → LeadsOn es x u
  leads-more u x xs h w =
      ⊎_elim
      (λ o. h x (waits-below x xs (Enter f ∷ []) o))
      (λ n. ⊎_elim
      (λ e. h x (waits-there x (Enter f) xs [] (eqb-true x f e)))
      (λ c. one-more es x f u (calls-new x c) (h f (waits-there f (Enter f) xs [] refl)))
      (or-cases (nat_eq x f) (waits x (entering (callers es f))) n))
      (or-cases (waits x xs) (waits x new) (sym (waits-both x xs new) ∙ w))

  entering-open : (cs : List ℕ) → AreOpen es done (entering cs)
  entering-open [] = record {}
  entering-open (c ∷ cs) = entering-open cs

  pub come-to : (xs : List Visit) → AreOpen es done (xs ++ Enter f ∷ []) → AreOpen es done (xs ++ new)
  come-to [] o = (
    record {
      callers = λ c k. or-right (done c) (waits c (entering (callers es f))) (new-calls c k);
      lead = λ x w. record { last = x; calls = calls-new x w; way = ([], eq-eqb x x refl) };
    },
    entering-open (callers es f),
  )
  come-to (Enter g ∷ xs) o = come-to xs o
  come-to (Leave u ∷ xs) o = (
    record {
      callers = λ c k. ⊎_elim
          (λ d. or-left (done c) (waits c (xs ++ new)) d)
          (λ w. or-right (done c) (waits c (xs ++ new)) (waits-on c xs w))
          (or-cases (done c) (waits c (xs ++ Enter f ∷ [])) (o.0.callers c k));
      lead = λ x w. leads-more u x xs o.0.lead w;
    },
    come-to xs o.1,
  )
