-- What every parser does that is built of these parts: indices never shrink, no more is looked at than there is, and
-- what is looked at decides the outcome.
use Rattle.std.proofs.Common.{Bool, true, false, ◌≡◌, ℕ, zero, suc, ◌+◌, ◌<◌, ◌≤◌, max, List, [], ◌∷◌, length, drop, Option, Some, None, refl, ◌∙◌, ap, subst, arith}
use Rattle.slang_names.specs.declared.places.Place.{Place}
use Rattle.slang_names.specs.declared.codes.ModuleCode.{ModuleCode}
use Rattle.slang_names.specs.declared.codes.ModuleCode.TheVariants as code
use Rattle.slang_reading.specs.Lexed.{Lexed}
use Rattle.slang_reading.specs.Reading.{Outcome, Done, Stop, Past, Parser, and_then, bind, ◌>>=◌, pure, refuse, past, first, Choice, Leave, Take, Refuse, Pass, place_of, chosen, next, if_fits, tried, attempt, foreseen, foresee, turn, turns}

-- the tokens agree on the first k; the end counts as a token
pub record Same (k : ℕ) (ts us : List Lexed) : Type 0 where
  pub at : (i : ℕ) → i < k → first (drop i us) ≡ first (drop i ts)

pub same_less : (j k : ℕ) (ts us : List Lexed) → j ≤ k → Same k ts us → Same j ts us
same_less j k ts us h s = record { at = λ i lt. s.at i (omega arith) }

abbrev pub seen_of : {A : Type 0} → Outcome A → ℕ
seen_of (Done a at seen) = seen
seen_of (Stop seen) = seen
seen_of (Past code place seen) = seen

-- the outcome without what has been looked at
abbrev pub answer_of : {A : Type 0} → Outcome A → Outcome A
answer_of (Done a at seen) = Done a at 0
answer_of (Stop seen) = Stop 0
answer_of (Past code place seen) = Past code place 0

abbrev pub Rises : {A : Type 0} → ℕ → ℕ → Outcome A → Type 0
Rises at seen (Done a at1 seen1) = (at ≤ at1) × (seen ≤ seen1)
Rises at seen (Stop seen1) = seen ≤ seen1
Rises at seen (Past code place seen1) = seen ≤ seen1

abbrev pub Bounded : {A : Type 0} → ℕ → Outcome A → Type 0
Bounded n (Done a at seen) = (at ≤ n) × (seen ≤ n + 1)
Bounded n (Stop seen) = seen ≤ n + 1
Bounded n (Past code place seen) = seen ≤ n + 1

rises_from : {A : Type 0} (at seen at1 seen1 : ℕ) (o : Outcome A) → at ≤ at1 → seen ≤ seen1 → Rises at1 seen1 o → Rises at seen o
rises_from at seen at1 seen1 (Done b at2 seen2) h k r = (omega arith, omega arith)
rises_from at seen at1 seen1 (Stop seen2) h k r = omega arith
rises_from at seen at1 seen1 (Past code place seen2) h k r = omega arith

pub seen_rises : {A : Type 0} (at seen : ℕ) (o : Outcome A) → Rises at seen o → seen ≤ seen_of o
seen_rises at seen (Done b at2 seen2) r = r.1
seen_rises at seen (Stop seen2) r = r
seen_rises at seen (Past code place seen2) r = r

pub record Tame {A : Type 0} (p : Parser A) : Type 0 where
  pub rises : (ts : List Lexed) (at seen : ℕ) → Rises at seen (p ts at seen)
  pub bounded : (ts : List Lexed) (at seen : ℕ) → at ≤ length ts → seen ≤ length ts + 1 → Bounded (length ts) (p ts at seen)
  pub local : (ts us : List Lexed) (at seen : ℕ) → Same (seen_of (p ts at seen)) ts us → p us at seen ≡ p ts at seen
  -- what has been looked at before changes no answer
  pub steady : (ts : List Lexed) (at seen other : ℕ) → answer_of (p ts at seen) ≡ answer_of (p ts at other)

pub tame_pure : {A : Type 0} (a : A) → Tame (pure a)
tame_pure a = record {
  rises = λ ts at seen. (omega arith, omega arith);
  bounded = λ ts at seen h k. (h, k);
  local = λ ts us at seen s. refl;
  steady = λ ts at seen other. refl;
}

pub tame_refuse : {A : Type 0} → Tame (refuse {A = A})
tame_refuse = record {
  rises = λ ts at seen. omega arith;
  bounded = λ ts at seen h k. k;
  local = λ ts us at seen s. refl;
  steady = λ ts at seen other. refl;
}

pub tame_past : {A : Type 0} (code : ModuleCode) (place : Place) → Tame (past {A = A} code place)
tame_past code place = record {
  rises = λ ts at seen. omega arith;
  bounded = λ ts at seen h k. k;
  local = λ ts us at seen s. refl;
  steady = λ ts at seen other. refl;
}

-- ---- one after the other

module _ {A B : Type 0} (g : A → Parser B) (hg : (a : A) → Tame (g a)) where
  after_rises : (ts : List Lexed) (at seen : ℕ) (o : Outcome A) → Rises at seen o → Rises at seen (and_then o (λ a at1 seen1. g a ts at1 seen1))
  after_rises ts at seen (Done a at1 seen1) h = rises_from at seen at1 seen1 (g a ts at1 seen1) h.0 h.1 ((hg a).rises ts at1 seen1)
  after_rises ts at seen (Stop seen1) h = h
  after_rises ts at seen (Past code place seen1) h = h

  after_bounded : (ts : List Lexed) (o : Outcome A) → Bounded (length ts) o → Bounded (length ts) (and_then o (λ a at1 seen1. g a ts at1 seen1))
  after_bounded ts (Done a at1 seen1) h = (hg a).bounded ts at1 seen1 h.0 h.1
  after_bounded ts (Stop seen1) h = h
  after_bounded ts (Past code place seen1) h = h

  -- the first part has looked at no more than both
  first_seen : (ts : List Lexed) (o : Outcome A) → seen_of o ≤ seen_of (and_then o (λ a at1 seen1. g a ts at1 seen1))
  first_seen ts (Done a at1 seen1) = seen_rises at1 seen1 (g a ts at1 seen1) ((hg a).rises ts at1 seen1)
  first_seen ts (Stop seen1) = omega arith
  first_seen ts (Past code place seen1) = omega arith

  after_local : (ts us : List Lexed) (o : Outcome A) → Same (seen_of (and_then o (λ a at1 seen1. g a ts at1 seen1))) ts us →
      and_then o (λ a at1 seen1. g a us at1 seen1) ≡ and_then o (λ a at1 seen1. g a ts at1 seen1)
  after_local ts us (Done a at1 seen1) s = (hg a).local ts us at1 seen1 s
  after_local ts us (Stop seen1) s = refl
  after_local ts us (Past code place seen1) s = refl

  after_steady : (ts : List Lexed) (o u : Outcome A) → answer_of o ≡ answer_of u →
      answer_of (and_then o (λ a at1 seen1. g a ts at1 seen1)) ≡ answer_of (and_then u (λ a at1 seen1. g a ts at1 seen1))
  after_steady ts (Done a at seen) (Done b to other) e =
      let p : a ≡ b = cc in
      let q : at ≡ to = cc in
      subst (λ n. answer_of (g a ts at seen) ≡ answer_of (g b ts n other)) q (subst (λ x. answer_of (g a ts at seen) ≡ answer_of (g x ts at other)) p ((hg a).steady ts at seen other))
  after_steady ts (Stop seen) (Stop other) e = refl
  after_steady ts (Past code place seen) (Past code2 place2 other) e = e_past e
    where
      e_past : ◌≡◌ {A = Outcome A} (Past code place 0) (Past code2 place2 0) → ◌≡◌ {A = Outcome B} (Past code place 0) (Past code2 place2 0)
      e_past e = cc
  after_steady ts (Done a at seen) (Stop other) e = cc
  after_steady ts (Done a at seen) (Past code place other) e = cc
  after_steady ts (Stop seen) (Done b to other) e = cc
  after_steady ts (Stop seen) (Past code place other) e = cc
  after_steady ts (Past code place seen) (Done b to other) e = cc
  after_steady ts (Past code place seen) (Stop other) e = cc

  pub tame_bind : (p : Parser A) → Tame p → Tame (p >>= g)
  unfolding bind
  tame_bind p hp = record {
    rises = λ ts at seen. after_rises ts at seen (p ts at seen) (hp.rises ts at seen);
    bounded = λ ts at seen h k. after_bounded ts (p ts at seen) (hp.bounded ts at seen h k);
    local = λ ts us at seen s.
        let same = hp.local ts us at seen (same_less _ _ ts us (first_seen ts (p ts at seen)) s) in
        ap (λ o. and_then o (λ a at1 seen1. g a us at1 seen1)) same ∙ after_local ts us (p ts at seen) s;
    steady = λ ts at seen other. after_steady ts (p ts at seen) (p ts at other) (hp.steady ts at seen other);
  }

-- ---- the next token

abbrev pub Each : {A : Type 0} → (Parser A → Type 0) → Choice A → Type 0
Each P (Leave p) = P p
Each P (Take p) = P p
Each P Refuse = Unit {0}
Each P (Pass code place) = Unit {0}

no_first : {X : Type 0} (x : X) → first [] ≡ Some x → ⊥
no_first x e = cc

-- a token that is there lies before the end
pub within : {X : Type 0} (i : ℕ) (xs : List X) (x : X) → first (drop i xs) ≡ Some x → i < length xs
within zero [] x e = absurd (no_first x e)
within zero (y ∷ ys) x e = omega arith
within (suc i) [] x e = absurd (no_first x e)
within (suc i) (y ∷ ys) x e = let k = within i ys x e in omega arith

chosen_rises : {A : Type 0} (x : Option Lexed) (c : Choice A) → Each Tame c → (ts : List Lexed) (at seen : ℕ) → Rises at seen (chosen x c ts at (max seen (at + 1)))
chosen_rises x (Leave p) h ts at seen = rises_from at seen at (max seen (at + 1)) (p ts at (max seen (at + 1))) (omega arith) (omega arith) (h.rises ts at (max seen (at + 1)))
chosen_rises (Some t) (Take p) h ts at seen = rises_from at seen (at + 1) (max seen (at + 1)) (p ts (at + 1) (max seen (at + 1))) (omega arith) (omega arith) (h.rises ts (at + 1) (max seen (at + 1)))
chosen_rises None (Take p) h ts at seen = omega arith
chosen_rises x Refuse h ts at seen = omega arith
chosen_rises x (Pass code place) h ts at seen = omega arith

chosen_bounded : {A : Type 0} (x : Option Lexed) (c : Choice A) → Each Tame c → (ts : List Lexed) (at seen : ℕ) → first (drop at ts) ≡ x →
    at ≤ length ts → seen ≤ length ts + 1 → Bounded (length ts) (chosen x c ts at (max seen (at + 1)))
chosen_bounded x (Leave p) h ts at seen e a s = h.bounded ts at (max seen (at + 1)) a (omega arith)
chosen_bounded (Some t) (Take p) h ts at seen e a s = let lt = within at ts t e in h.bounded ts (at + 1) (max seen (at + 1)) (omega arith) (omega arith)
chosen_bounded None (Take p) h ts at seen e a s = omega arith
chosen_bounded x Refuse h ts at seen e a s = omega arith
chosen_bounded x (Pass code place) h ts at seen e a s = omega arith

pub chosen_seen : {A : Type 0} (x : Option Lexed) (c : Choice A) → Each Tame c → (ts : List Lexed) (at seen : ℕ) → at < seen_of (chosen x c ts at (max seen (at + 1)))
chosen_seen x (Leave p) h ts at seen = let k = seen_rises at (max seen (at + 1)) (p ts at (max seen (at + 1))) (h.rises ts at (max seen (at + 1))) in omega arith
chosen_seen (Some t) (Take p) h ts at seen = let k = seen_rises (at + 1) (max seen (at + 1)) (p ts (at + 1) (max seen (at + 1))) (h.rises ts (at + 1) (max seen (at + 1))) in omega arith
chosen_seen None (Take p) h ts at seen = omega arith
chosen_seen x Refuse h ts at seen = omega arith
chosen_seen x (Pass code place) h ts at seen = omega arith

chosen_local : {A : Type 0} (x : Option Lexed) (c : Choice A) → Each Tame c → (ts us : List Lexed) (at seen : ℕ) →
    Same (seen_of (chosen x c ts at (max seen (at + 1)))) ts us → chosen x c us at (max seen (at + 1)) ≡ chosen x c ts at (max seen (at + 1))
chosen_local x (Leave p) h ts us at seen s = h.local ts us at (max seen (at + 1)) s
chosen_local (Some t) (Take p) h ts us at seen s = h.local ts us (at + 1) (max seen (at + 1)) s
chosen_local None (Take p) h ts us at seen s = refl
chosen_local x Refuse h ts us at seen s = refl
chosen_local x (Pass code place) h ts us at seen s = refl

chosen_steady : {A : Type 0} (x : Option Lexed) (c : Choice A) → Each Tame c → (ts : List Lexed) (at seen other : ℕ) → answer_of (chosen x c ts at seen) ≡ answer_of (chosen x c ts at other)
chosen_steady x (Leave p) h ts at seen other = h.steady ts at seen other
chosen_steady (Some t) (Take p) h ts at seen other = h.steady ts (at + 1) seen other
chosen_steady None (Take p) h ts at seen other = refl
chosen_steady x Refuse h ts at seen other = refl
chosen_steady x (Pass code place) h ts at seen other = refl

pub tame_next : {A : Type 0} (f : Option Lexed → Choice A) → ((x : Option Lexed) → Each Tame (f x)) → Tame (next f)
unfolding next
tame_next f h = record {
  rises = λ ts at seen. chosen_rises (first (drop at ts)) (f (first (drop at ts))) (h _) ts at seen;
  bounded = λ ts at seen a s. chosen_bounded (first (drop at ts)) (f (first (drop at ts))) (h _) ts at seen refl a s;
  local = λ ts us at seen s.
      let e = s.at at (chosen_seen (first (drop at ts)) (f (first (drop at ts))) (h _) ts at seen) in
      ap (λ x. chosen x (f x) us at (max seen (at + 1))) e ∙ chosen_local (first (drop at ts)) (f (first (drop at ts))) (h _) ts us at seen s;
  steady = λ ts at seen other. chosen_steady (first (drop at ts)) (f (first (drop at ts))) (h _) ts at (max seen (at + 1)) (max other (at + 1));
}

-- a limit at the token makes no choice wild
pub each_fits : {A : Type 0} (P : Parser A → Type 0) (b : Bool) (k : ModuleCode) (x : Option Lexed) (c : Choice A) → Each P c → Each P (if_fits b k x c)
each_fits P true k x c h = h
each_fits P false k x (Leave p) h = tt
each_fits P false k x (Take p) h = tt
each_fits P false k x Refuse h = tt
each_fits P false k x (Pass other there) h = tt

-- ---- a part that is tried

module _ {A B : Type 0} (f : Option B → Parser A) (hf : (b : Option B) → Tame (f b)) where
  tried_rises : (ts : List Lexed) (at seen : ℕ) (o : Outcome B) → Rises at seen o → Rises at seen (tried o f ts at)
  tried_rises ts at seen (Done b at1 seen1) h = rises_from at seen at1 seen1 (f (Some b) ts at1 seen1) h.0 h.1 ((hf (Some b)).rises ts at1 seen1)
  tried_rises ts at seen (Stop seen1) h = rises_from at seen at seen1 (f None ts at seen1) (omega arith) h ((hf None).rises ts at seen1)
  tried_rises ts at seen (Past code place seen1) h = h

  tried_bounded : (ts : List Lexed) (at : ℕ) (o : Outcome B) → at ≤ length ts → Bounded (length ts) o → Bounded (length ts) (tried o f ts at)
  tried_bounded ts at (Done b at1 seen1) a h = (hf (Some b)).bounded ts at1 seen1 h.0 h.1
  tried_bounded ts at (Stop seen1) a h = (hf None).bounded ts at seen1 a h
  tried_bounded ts at (Past code place seen1) a h = h

  tried_seen : (ts : List Lexed) (at : ℕ) (o : Outcome B) → seen_of o ≤ seen_of (tried o f ts at)
  tried_seen ts at (Done b at1 seen1) = seen_rises at1 seen1 (f (Some b) ts at1 seen1) ((hf (Some b)).rises ts at1 seen1)
  tried_seen ts at (Stop seen1) = seen_rises at seen1 (f None ts at seen1) ((hf None).rises ts at seen1)
  tried_seen ts at (Past code place seen1) = omega arith

  tried_local : (ts us : List Lexed) (at : ℕ) (o : Outcome B) → Same (seen_of (tried o f ts at)) ts us → tried o f us at ≡ tried o f ts at
  tried_local ts us at (Done b at1 seen1) s = (hf (Some b)).local ts us at1 seen1 s
  tried_local ts us at (Stop seen1) s = (hf None).local ts us at seen1 s
  tried_local ts us at (Past code place seen1) s = refl

  tried_steady : (ts : List Lexed) (at : ℕ) (o u : Outcome B) → answer_of o ≡ answer_of u → answer_of (tried o f ts at) ≡ answer_of (tried u f ts at)
  tried_steady ts at (Done b at1 seen) (Done c to other) e =
      let p : b ≡ c = cc in
      let q : at1 ≡ to = cc in
      subst (λ n. answer_of (f (Some b) ts at1 seen) ≡ answer_of (f (Some c) ts n other)) q
      (subst (λ x. answer_of (f (Some b) ts at1 seen) ≡ answer_of (f (Some x) ts at1 other)) p ((hf (Some b)).steady ts at1 seen other))
  tried_steady ts at (Stop seen) (Stop other) e = (hf None).steady ts at seen other
  tried_steady ts at (Past code place seen) (Past code2 place2 other) e = e_past e
    where
      e_past : ◌≡◌ {A = Outcome B} (Past code place 0) (Past code2 place2 0) → ◌≡◌ {A = Outcome A} (Past code place 0) (Past code2 place2 0)
      e_past e = cc
  tried_steady ts at (Done b at1 seen) (Stop other) e = cc
  tried_steady ts at (Done b at1 seen) (Past code place other) e = cc
  tried_steady ts at (Stop seen) (Done b to other) e = cc
  tried_steady ts at (Stop seen) (Past code place other) e = cc
  tried_steady ts at (Past code place seen) (Done b to other) e = cc
  tried_steady ts at (Past code place seen) (Stop other) e = cc

  pub tame_attempt : (q : Parser B) → Tame q → Tame (attempt q f)
  unfolding attempt
  tame_attempt q hq = record {
    rises = λ ts at seen. tried_rises ts at seen (q ts at seen) (hq.rises ts at seen);
    bounded = λ ts at seen h k. tried_bounded ts at (q ts at seen) h (hq.bounded ts at seen h k);
    local = λ ts us at seen s.
        let same = hq.local ts us at seen (same_less _ _ ts us (tried_seen ts at (q ts at seen)) s) in
        ap (λ o. tried o f us at) same ∙ tried_local ts us at (q ts at seen) s;
    steady = λ ts at seen other. tried_steady ts at (q ts at seen) (q ts at other) (hq.steady ts at seen other);
  }

-- ---- a part that is looked at ahead

module _ {A B : Type 0} (f : Bool → Parser A) (hf : (b : Bool) → Tame (f b)) where
  foreseen_rises : (ts : List Lexed) (at seen : ℕ) (o : Outcome B) → Rises at seen o → Rises at seen (foreseen o f ts at)
  foreseen_rises ts at seen (Done b at1 seen1) h = rises_from at seen at seen1 (f true ts at seen1) (omega arith) h.1 ((hf true).rises ts at seen1)
  foreseen_rises ts at seen (Stop seen1) h = rises_from at seen at seen1 (f false ts at seen1) (omega arith) h ((hf false).rises ts at seen1)
  foreseen_rises ts at seen (Past code place seen1) h = h

  foreseen_bounded : (ts : List Lexed) (at : ℕ) (o : Outcome B) → at ≤ length ts → Bounded (length ts) o → Bounded (length ts) (foreseen o f ts at)
  foreseen_bounded ts at (Done b at1 seen1) a h = (hf true).bounded ts at seen1 a h.1
  foreseen_bounded ts at (Stop seen1) a h = (hf false).bounded ts at seen1 a h
  foreseen_bounded ts at (Past code place seen1) a h = h

  foreseen_seen : (ts : List Lexed) (at : ℕ) (o : Outcome B) → seen_of o ≤ seen_of (foreseen o f ts at)
  foreseen_seen ts at (Done b at1 seen1) = seen_rises at seen1 (f true ts at seen1) ((hf true).rises ts at seen1)
  foreseen_seen ts at (Stop seen1) = seen_rises at seen1 (f false ts at seen1) ((hf false).rises ts at seen1)
  foreseen_seen ts at (Past code place seen1) = omega arith

  foreseen_local : (ts us : List Lexed) (at : ℕ) (o : Outcome B) → Same (seen_of (foreseen o f ts at)) ts us → foreseen o f us at ≡ foreseen o f ts at
  foreseen_local ts us at (Done b at1 seen1) s = (hf true).local ts us at seen1 s
  foreseen_local ts us at (Stop seen1) s = (hf false).local ts us at seen1 s
  foreseen_local ts us at (Past code place seen1) s = refl

  foreseen_steady : (ts : List Lexed) (at : ℕ) (o u : Outcome B) → answer_of o ≡ answer_of u → answer_of (foreseen o f ts at) ≡ answer_of (foreseen u f ts at)
  foreseen_steady ts at (Done b at1 seen) (Done c to other) e = (hf true).steady ts at seen other
  foreseen_steady ts at (Stop seen) (Stop other) e = (hf false).steady ts at seen other
  foreseen_steady ts at (Past code place seen) (Past code2 place2 other) e = e_past e
    where
      e_past : ◌≡◌ {A = Outcome B} (Past code place 0) (Past code2 place2 0) → ◌≡◌ {A = Outcome A} (Past code place 0) (Past code2 place2 0)
      e_past e = cc
  foreseen_steady ts at (Done b at1 seen) (Stop other) e = cc
  foreseen_steady ts at (Done b at1 seen) (Past code place other) e = cc
  foreseen_steady ts at (Stop seen) (Done b to other) e = cc
  foreseen_steady ts at (Stop seen) (Past code place other) e = cc
  foreseen_steady ts at (Past code place seen) (Done b to other) e = cc
  foreseen_steady ts at (Past code place seen) (Stop other) e = cc

  pub tame_foresee : (q : Parser B) → Tame q → Tame (foresee q f)
  unfolding foresee
  tame_foresee q hq = record {
    rises = λ ts at seen. foreseen_rises ts at seen (q ts at seen) (hq.rises ts at seen);
    bounded = λ ts at seen h k. foreseen_bounded ts at (q ts at seen) h (hq.bounded ts at seen h k);
    local = λ ts us at seen s.
        let same = hq.local ts us at seen (same_less _ _ ts us (foreseen_seen ts at (q ts at seen)) s) in
        ap (λ o. foreseen o f us at) same ∙ foreseen_local ts us at (q ts at seen) s;
    steady = λ ts at seen other. foreseen_steady ts at (q ts at seen) (q ts at other) (hq.steady ts at seen other);
  }

-- ---- turns

tame_turn : {A : Type 0} (b : Bool) (again : Choice A) (a : A) → Each Tame again → Each Tame (turn b again a)
tame_turn true again a h = h
tame_turn false again a h = tame_pure a

pub tame_turns : {A : Type 0} (goes : Option Lexed → Bool) (more : A → Parser A) → ((a : A) → Tame (more a)) → (n : ℕ) (a : A) → Tame (turns goes more n a)
unfolding turns
tame_turns goes more h zero a = tame_next (λ x. turn (goes x) (Pass code.TooLong (place_of x)) a) (λ x. tame_turn (goes x) (Pass code.TooLong (place_of x)) a tt)
tame_turns goes more h (suc n) a = tame_next (λ x. turn (goes x) (Leave (more a >>= turns goes more n)) a)
    (λ x. tame_turn (goes x) (Leave (more a >>= turns goes more n)) a (tame_bind (turns goes more n) (tame_turns goes more h n) (more a) (h a)))
