-- One function more stands behind all that call it.
use Rattle.std.proofs.Common.{◌≡◌, ◌≢◌, ◌⊎◌, ℕ, ◌+◌, ◌^◌, ◌<◌, ◌≤◌, ◌||◌, Bool, true, false, nat_eq, List, [], ◌∷◌, ◌++◌, length, max, take, set, get_or, slice_index, refl, sym, ap, ◌∙◌, arith, inl, inr, subst, length-append}
use Rattle.std.proofs.Math.Logic.{⊎_elim}
use Rattle.std.proofs.lemmas.Bool.{eqb-true, eq-eqb, or_cases, cases_eq, cases_lt}
use Rattle.std.proofs.lemmas.List.{length-set, get_or-set_same, get_or-set_other, get_or_append_left, take_all}
use Rattle.std.proofs.Math.Seq.{get_or-append_seam}
use Rattle.std.specs.List.{list_any}
use Rattle.call_graph.specs.Edges.{calls_it}
use Rattle.call_graph.specs.Order.{IsOrder}
use Rattle.call_graph.proofs.Visits.{any-push, any-more, or-right}
use Rattle.call_layout.specs.Chains.{AreBegins, IsReached, TooLong}
use Rattle.call_layout.specs.Moves.{AreBegun, AreStarted, IsLatest, IsNext}

absurd-of : {A : Type 0} → true ≡ false → A
absurd-of h = cc

not-both : {A : Type 0} (b : Bool) → b ≡ true → b ≡ false → A
not-both b t f = absurd-of (sym t ∙ f)

-- ---- the start

-- all functions begin behind what is outside of them
pub begun-none : (words begins : List ℕ) (es : List (ℕ × ℕ)) (k : ℕ) → length words ≤ k → k ≤ length words → AreStarted words k begins → AreBegun words es [] begins
begun-none words begins es k least most h = record {
  as_many = h.as_many ∙ omega arith;
  first = h.first;
  reached = λ f p l. record { chain = []; is = ((p, l), tt, tt); there = h.begin f p (omega arith) ∙ omega arith };
  closed = λ caller callee d e. cc;
  behind = λ caller callee d e. cc;
  within = λ f l. h.within f (omega arith);
}

module _ (words begins : List ℕ) (k w : ℕ) (h : AreStarted words k begins) (some : 0 < k) (e : w ≡ slice_index words 0) (end : w + slice_index words k < 2 ^ 32) where
  old : (j : ℕ) → j < k → slice_index (begins ++ w ∷ []) j ≡ slice_index begins j
  old j l = get_or_append_left begins (w ∷ []) 0 j (omega (arith, h.as_many))

  new : slice_index (begins ++ w ∷ []) k ≡ w
  new = ap (slice_index (begins ++ w ∷ [])) (sym h.as_many) ∙ get_or-append_seam begins w [] 0

  -- one more
  pub started-more : AreStarted words (k + 1) (begins ++ w ∷ [])
  started-more = record {
    as_many = omega (arith, length-append begins (w ∷ []), h.as_many);
    first = old 0 some ∙ h.first;
    begin = λ f p l. ⊎_elim
        (λ lt. old f lt ∙ h.begin f p lt)
        (λ ge. let s : f ≡ k = omega arith in ap (slice_index (begins ++ w ∷ [])) s ∙ new ∙ e)
        (cases_lt f k);
    within = λ f l. ⊎_elim
        (λ lt. omega (arith, old f lt, h.within f lt))
        (λ ge.
        let s : f ≡ k = omega arith in
        subst (λ (x : ℕ). slice_index (begins ++ w ∷ []) x + slice_index words x < 2 ^ 32) (sym s) (omega (arith, new, end)))
        (cases_lt f k);
  }

-- a single function is too long
pub one-too-long : (words : List ℕ) (es : List (ℕ × ℕ)) (f : ℕ) → 0 < f → f < length words → 2 ^ 32 ≤ slice_index words 0 + slice_index words f → TooLong words es
one-too-long words es f p l h = record { chain = f ∷ []; is = ((p, l), tt, tt); far = omega (arith, h) }

-- ---- one function

module _ (words begins : List ℕ) (es : List (ℕ × ℕ)) (done callers : List ℕ) (f b : ℕ)
    (n : IsNext words es done callers f) (h : AreBegun words es done begins) (latest : IsLatest words begins callers (slice_index begins f) b) where
  calls : (c : ℕ) → list_any (nat_eq c) callers ≡ true → calls_it es c f ≡ true
  calls c e = sym (n.callers_are c) ∙ e

  -- it does not call itself
  not-self : {A : Type 0} (c : ℕ) → calls_it es c f ≡ true → c ≡ f → A
  not-self c e s = not-both (list_any (nat_eq f) done) (subst (λ (x : ℕ). list_any (nat_eq x) done ≡ true) s (n.callers_done c e)) n.new

  latest-reached : 0 < f → f < length words → IsReached words es f b
  latest-reached p l = ⊎_elim
      (λ e. subst (λ (x : ℕ). IsReached words es f x) (sym e) (h.reached f p l))
      (λ w.
      let e = calls w.0 w.1 in
      let c = (n.numbered w.0 f e).0 in
      let r = h.reached w.0 c.0 c.1 in
      record { chain = w.0 ∷ r.chain; is = ((p, l), e, r.is); there = w.2 ∙ ap (λ x. x + slice_index words w.0) r.there ∙ omega arith })
      latest.one

  pub latest-too-long : f < length words → 2 ^ 32 ≤ b + slice_index words f → TooLong words es
  latest-too-long l far = ⊎_elim
      (λ z. by-first z)
      (λ p. let r = latest-reached p l in record { chain = f ∷ r.chain; is = r.is; far = omega (arith, far, r.there) })
      (zero-or f)
    where
      zero-or : (x : ℕ) → (x ≡ 0) ⊎ (0 < x)
      zero-or x = ⊎_elim inl (λ e. inr (omega arith)) (cases_eq x 0)

      by-first : f ≡ 0 → TooLong words es
      by-first z = ⊎_elim
          (λ e. let w = h.within f l in absurd (omega (arith, e, w, far)))
          (λ w. let c = (n.numbered w.0 f (calls w.0 w.1)).1 in absurd (omega (arith, c.0, z)))
          latest.one

  module _ (l : f < length words) (w : b + slice_index words f < 2 ^ 32) where
    here : slice_index (set begins f b) f ≡ b
    here = get_or-set_same begins f b 0 (omega (arith, h.as_many))

    there : (g : ℕ) → g ≢ f → slice_index (set begins f b) g ≡ slice_index begins g
    there g d = get_or-set_other begins f g b 0 d

    grown : (q : ℕ) → list_any (nat_eq q) (done ++ f ∷ []) ≡ (list_any (nat_eq q) done || nat_eq q f)
    grown q = any-push q done f

    is-done : (q : ℕ) → list_any (nat_eq q) done ≡ true → list_any (nat_eq q) (done ++ f ∷ []) ≡ true
    is-done q e = grown q ∙ ap (λ t. t || nat_eq q f) e

    -- it is done, or the function
    split : (q : ℕ) → list_any (nat_eq q) (done ++ f ∷ []) ≡ true → (list_any (nat_eq q) done ≡ true) ⊎ (q ≡ f)
    split q e = ⊎_elim inl (λ s. inr (eqb-true q f s)) (or_cases (list_any (nat_eq q) done) (nat_eq q f) (sym (grown q) ∙ e))

    other : (q : ℕ) → list_any (nat_eq q) done ≡ true → q ≢ f
    other q d s = not-both (list_any (nat_eq f) done) (subst (λ (x : ℕ). list_any (nat_eq x) done ≡ true) s d) n.new

    caller-done : (caller callee : ℕ) → list_any (nat_eq callee) (done ++ f ∷ []) ≡ true → calls_it es caller callee ≡ true → list_any (nat_eq caller) done ≡ true
    caller-done caller callee d e = ⊎_elim
        (λ x. h.closed caller callee x e)
        (λ s. n.callers_done caller (subst (λ (x : ℕ). calls_it es caller x ≡ true) s e))
        (split callee d)

    at-first : slice_index (set begins f b) 0 ≡ 0
    at-first = ⊎_elim
        (λ z.
        let same : slice_index (set begins f b) 0 ≡ b = subst (λ (x : ℕ). slice_index (set begins f b) x ≡ b) (sym z) here in
        same ∙ ⊎_elim (λ e. e ∙ ap (slice_index begins) (sym z) ∙ h.first)
        (λ c. let p = (n.numbered c.0 f (calls c.0 c.1)).1 in absurd (omega (arith, p.0, z))) latest.one)
        (λ d. there 0 d ∙ h.first)
        (cases_eq 0 f)

    at-end : (g : ℕ) → g < length words → slice_index (set begins f b) g + slice_index words g < 2 ^ 32
    at-end g k = ⊎_elim
        (λ s. subst (λ (x : ℕ). slice_index (set begins f b) x + slice_index words x < 2 ^ 32) (sym s) (omega (arith, here, w)))
        (λ d. omega (arith, there g d, h.within g k))
        (cases_eq g f)

    at-chain : (g : ℕ) → 0 < g → g < length words → IsReached words es g (slice_index (set begins f b) g)
    at-chain g p k = ⊎_elim
        (λ s. subst (λ (x : ℕ). IsReached words es x (slice_index (set begins f b) x)) (sym s)
        (subst (λ (x : ℕ). IsReached words es f x) (sym here) (latest-reached (omega (arith, p, s)) l)))
        (λ d. subst (λ (x : ℕ). IsReached words es g x) (sym (there g d)) (h.reached g p k))
        (cases_eq g f)

    at-behind : (caller callee : ℕ) → list_any (nat_eq callee) (done ++ f ∷ []) ≡ true → calls_it es caller callee ≡ true
        → slice_index (set begins f b) caller + slice_index words caller ≤ slice_index (set begins f b) callee
    at-behind caller callee d e =
        let same = there caller (other caller (caller-done caller callee d e)) in
        ⊎_elim
        (λ x. omega (arith, same, there callee (other callee x), h.behind caller callee x e))
        (λ s.
        let to : calls_it es caller f ≡ true = subst (λ (x : ℕ). calls_it es caller x ≡ true) s e in
        let far = latest.each caller (n.callers_are caller ∙ to) in
        let now : slice_index (set begins f b) callee ≡ b = ap (slice_index (set begins f b)) s ∙ here in
        omega (arith, same, now, far))
        (split callee d)

    pub moved : AreBegun words es (done ++ f ∷ []) (set begins f b)
    moved = record {
      as_many = length-set begins f b ∙ h.as_many;
      first = at-first;
      reached = at-chain;
      closed = λ caller callee d e. is-done caller (caller-done caller callee d e);
      behind = at-behind;
      within = at-end;
    }

-- what is no function of the table is called by none
module _ (words begins : List ℕ) (es : List (ℕ × ℕ)) (done callers : List ℕ) (f : ℕ) (n : IsNext words es done callers f) (l : length words ≤ f) where
  outside : {A : Type 0} (c g : ℕ) → calls_it es c g ≡ true → g ≡ f → A
  outside c g e s = let p = (n.numbered c g e).1 in absurd (omega (arith, p.1, s, l))

  was-done : (q : ℕ) → list_any (nat_eq q) (done ++ f ∷ []) ≡ true → (list_any (nat_eq q) done ≡ true) ⊎ (q ≡ f)
  was-done q e = ⊎_elim inl (λ s. inr (eqb-true q f s)) (or_cases (list_any (nat_eq q) done) (nat_eq q f) (sym (any-push q done f) ∙ e))

  pub not-moved : AreBegun words es done begins → AreBegun words es (done ++ f ∷ []) begins
  not-moved h = record {
    as_many = h.as_many;
    first = h.first;
    reached = h.reached;
    closed = λ caller callee d e.
        any-push caller done f
        ∙ ap (λ t. t || nat_eq caller f) (⊎_elim (λ x. h.closed caller callee x e) (λ s. outside caller callee e s) (was-done callee d));
    behind = λ caller callee d e. ⊎_elim (λ x. h.behind caller callee x e) (λ s. outside caller callee e s) (was-done callee d);
    within = h.within;
  }

-- ---- the end

pub begun-all : (words begins : List ℕ) (es : List (ℕ × ℕ)) (order : List ℕ) (k : ℕ) → IsOrder es order → length order ≤ k → AreBegun words es (take k order) begins
    → AreBegins words es begins
begun-all words begins es order k o l h =
    let all : take k order ≡ order = take_all k order l in
    record {
      as_many = h.as_many;
      first = h.first;
      reached = h.reached;
      behind = λ caller callee e. h.behind caller callee (ap (list_any (nat_eq callee)) all ∙ o.each caller callee e) e;
      within = h.within;
    }

-- ---- the latest

module _ (words begins callers : List ℕ) (place : ℕ) where
  pub latest-none : IsLatest words begins [] place place
  latest-none = record { least = omega arith; each = λ c e. cc; one = inl refl }

  pub latest-more : (k m : ℕ) → k < length callers → IsLatest words begins (take k callers) place m
      → IsLatest words begins (take (k + 1) callers) place (max m (slice_index begins (get_or callers k 0) + slice_index words (get_or callers k 0)))
  latest-more k m l h =
      let c = get_or callers k 0 in
      let end = slice_index begins c + slice_index words c in
      let has : list_any (nat_eq c) (take (k + 1) callers) ≡ true = any-more c callers k l ∙ or-right (list_any (nat_eq c) (take k callers)) (nat_eq c c) (eq-eqb c c refl) in
      record {
        least = omega (arith, h.least);
        each = λ q e. ⊎_elim
            (λ x. omega (arith, h.each q x))
            (λ s.
            let same : slice_index begins q + slice_index words q ≡ end = ap (λ x. slice_index begins x + slice_index words x) (eqb-true q c s) in
            omega (arith, same))
            (or_cases (list_any (nat_eq q) (take k callers)) (nat_eq q c) (sym (any-more q callers k l) ∙ e));
        one = ⊎_elim
            (λ lt. inr (c, has, max-last m end lt))
            (λ ge. ⊎_elim
            (λ e. inl (max-first m end ge ∙ e))
            (λ w. inr (w.0, any-more w.0 callers k l ∙ ap (λ t. t || nat_eq w.0 c) w.1, max-first m end ge ∙ w.2))
            h.one)
            (cases_lt m end);
      }
    where
      max-last : (a b : ℕ) → a < b → max a b ≡ b
      max-last a b l = omega arith

      max-first : (a b : ℕ) → b ≤ a → max a b ≡ a
      max-first a b l = omega arith
