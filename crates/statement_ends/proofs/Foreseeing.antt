-- A part that is looked at ahead, where what goes on completes what was looked at.
use Rattle.std.proofs.Common.{Bool, true, false, ◌≡◌, ℕ, zero, suc, ◌+◌, ◌<◌, ◌≤◌, List, length, Option, refl, ◌∙◌, ap, arith, ◌⊎◌, inl, inr}
use Rattle.slang_reading.specs.Lexed.{Lexed}
use Rattle.slang_reading.specs.Reading.{Outcome, Done, Stop, Past, Parser, foresee, foreseen}
use Rattle.slang_reading.proofs.Tame.{same_less, seen_of, seen_rises, Rises, Tame, tame_foresee}
use Rattle.slang_reading.proofs.Viable.{IsPast, Grows, grown, Reaches, Completion, Completes, Viable}
use Rattle.statement_ends.proofs.Leading.{reaches_again, Sooner}

le_or_lt : (m n : ℕ) → (m ≤ n) ⊎ (n < m)
le_or_lt zero n = inl (omega arith)
le_or_lt (suc m) zero = inr (omega arith)
le_or_lt (suc m) (suc n) = elim (le_or_lt m n) [ inl h ↦ inl (omega arith) | inr h ↦ inr (omega arith) ]

-- what q looked at is completed by what goes on where q answers, and q answers there
pub completion_foresee : {A B C : Type 0} (F : Option Lexed → Type 0) (q : Parser B) (h : Bool → Parser A) (r : Parser C) → Sooner q r → Tame (h true) →
    ((us : List Lexed) (at seen to : ℕ) → Reaches r us at seen to → Reaches (h true) us at seen to) →
    (ts : List Lexed) (at seen k : ℕ) → Completion F r ts at seen k → Completion F (foresee q h) ts at seen k
unfolding foresee
completion_foresee F q h r s t e ts at seen k c = record {
  path = c.path;
  reads = λ us rest l d f.
      let to = k + length c.path in
      let whole = c.reads us rest l d f in
      let ahead = s.answers us at seen to whole in
      let on = reaches_again (h true) t us at seen ahead.1.seen1 to (e us at seen to whole) in
      record { tree = on.tree; seen1 = on.seen1; is = ap (λ o. foreseen o h us at) ahead.1.is ∙ on.is };
}

module _ {A B : Type 0} (F : Option Lexed → Type 0) (p q : Parser B) (f h : Bool → Parser A) (hp : Tame p) (hq : Tame q) (hg : Grows p q) (hf : (b : Bool) → Viable F (f b) (h b))
    (front : (ts : List Lexed) (at seen k : ℕ) → seen_of (p ts at seen) ≡ k + 1 → seen ≤ k → Completion F (foresee q h) ts at seen k) where
  -- what q did is done again, since all that it looked at is there
  foresee_back : (ts : List Lexed) (at seen k : ℕ) (o : Outcome B) → q ts at seen ≡ o → seen_of o ≤ k →
      (r : Parser A) (seen1 : ℕ) → ((us : List Lexed) → foreseen o h us at ≡ r us at seen1) → Completion F r ts at seen1 k → Completion F (foresee q h) ts at seen k
  unfolding foresee
  foresee_back ts at seen k o e l r seen1 same c = record {
    path = c.path;
    reads = λ us rest s d g.
        let u = c.reads us rest s d g in
        let lt : seen_of (q ts at seen) ≤ k = rw e l in
        let again = hq.local ts us at seen (same_less _ k ts us lt s) ∙ e in
        record { tree = u.tree; seen1 = u.seen1; is = ap (λ o. foreseen o h us at) again ∙ (same us ∙ u.is) };
  }

  foreseen_grows : (ts : List Lexed) (at : ℕ) (o : Outcome B) → (foreseen o h ts at ≡ foreseen o f ts at) ⊎ IsPast (foreseen o f ts at)
  foreseen_grows ts at (Done b at1 seen) = (hf true).grows.same ts at seen
  foreseen_grows ts at (Stop seen) = (hf false).grows.same ts at seen
  foreseen_grows ts at (Past code place seen) = inr tt

  foreseen_past : (ts : List Lexed) (at : ℕ) (o : Outcome B) → IsPast o → IsPast (foreseen o f ts at)
  foreseen_past ts at (Past code place seen) d = tt
  foreseen_past ts at (Done b at1 seen) d = absurd d
  foreseen_past ts at (Stop seen) d = absurd d

  foresee_grows : Grows (foresee p f) (foresee q h)
  unfolding foresee
  foresee_grows = record {
    same = λ ts at seen. elim (hg.same ts at seen) [
      | inl e ↦ elim (foreseen_grows ts at (p ts at seen)) [ inl s ↦ inl (ap (λ o. foreseen o h ts at) e ∙ s) | inr d ↦ inr d ]
      | inr d ↦ inr (foreseen_past ts at (p ts at seen) d)
    ];
  }

  foresee_part : (ts : List Lexed) (at seen : ℕ) (o : Outcome B) → p ts at seen ≡ o → q ts at seen ≡ o → (r : Parser A) → ((us : List Lexed) → foreseen o h us at ≡ r us at (seen_of o)) →
      (u : Outcome A) → Completes F r ts at (seen_of o) u → Rises at (seen_of o) u → Completes F (foresee q h) ts at seen u
  foresee_part ts at seen o i e r same u d x = λ k n l. elim (le_or_lt (seen_of o) k) [
    | inl le ↦ foresee_back ts at seen k o e le r (seen_of o) same (d k n le)
    | inr lt ↦
        let m = seen_rises at (seen_of o) u x in
        let z : seen_of o ≡ k + 1 = omega (arith, m, n, lt) in
        front ts at seen k (ap seen_of i ∙ z) l
  ]

  foresee_completes : (ts : List Lexed) (at seen : ℕ) (o : Outcome B) → p ts at seen ≡ o → Completes F (foresee q h) ts at seen (foreseen o f ts at)
  unfolding foresee
  foresee_completes ts at seen (Done b at1 seen1) e =
      foresee_part ts at seen (Done b at1 seen1) e (grown p q hg ts at seen (Done b at1 seen1) e (λ d. d)) (h true) (λ us. refl) (f true ts at seen1)
      ((hf true).completes ts at seen1) ((hf true).tame.rises ts at seen1)
  foresee_completes ts at seen (Stop seen1) e =
      foresee_part ts at seen (Stop seen1) e (grown p q hg ts at seen (Stop seen1) e (λ d. d)) (h false) (λ us. refl) (f false ts at seen1)
      ((hf false).completes ts at seen1) ((hf false).tame.rises ts at seen1)
  foresee_completes ts at seen (Past code place seen1) e = λ k n l. front ts at seen k (ap seen_of e ∙ n) l

  pub viable_foresee_by : Viable F (foresee p f) (foresee q h)
  unfolding foresee
  viable_foresee_by = record {
    tame = tame_foresee f (λ b. (hf b).tame) p hp;
    whole = tame_foresee h (λ b. (hf b).whole) q hq;
    grows = foresee_grows;
    completes = λ ts at seen. foresee_completes ts at seen (p ts at seen) refl;
  }
