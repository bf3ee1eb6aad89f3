-- A scan beside a parser: where the parser passes no limit, the scan does what it does.
use Rattle.std.proofs.Common.{Bool, true, false, ◌≡◌, ℕ, zero, suc, ◌+◌, max, List, [], ◌∷◌, drop, Option, Some, None, refl, sym, ◌∙◌, ap, subst, if◌then◌else◌, arith}
use Rattle.slang_names.specs.declared.codes.ModuleCode.{ModuleCode}
use Rattle.slang_names.specs.declared.codes.ModuleCode.TheVariants as code
use Rattle.slang_tokens.specs.declared.tokens.Kind.{Kind}
use Rattle.slang_tokens.specs.declared.tokens.Mark.{Mark}
use Rattle.slang_reading.specs.Lexed.{Lexed}
use Rattle.slang_reading.specs.Reading.{Outcome, Done, Stop, Past, Parser, and_then, bind, ◌>>=◌, pure, first, Choice, Leave, Take, Refuse, Pass, place_of, chosen, next, if_fits, turn, turns}
use Rattle.slang_reading.specs.Kinds.{is_mark}
use Rattle.slang_grammar.specs.Descent.{expected, expect}
use Rattle.type_reading.specs.declared.steps.Open.{Open}
use Rattle.type_reading.specs.declared.steps.Awaited.{Awaited}
use Rattle.type_reading.specs.declared.steps.Step.{Step}
use Rattle.type_reading.specs.declared.steps.Step.TheVariants.{Refused}
use Rattle.type_reading.specs.Scanning.{Move, Wrong, applied, move, after, scan}

abbrev pub Unit_ : Type 0
Unit_ = Unit {0}

drop_first : (ts : List Lexed) (at : ℕ) (t : Lexed) → first (drop at ts) ≡ Some t → drop at ts ≡ t ∷ drop (at + 1) ts
drop_first [] zero t e = absurd cc
drop_first [] (suc at) t e = absurd cc
drop_first (x ∷ ts) zero t e = let p : x ≡ t = cc in ap (λ y. y ∷ ts) p
drop_first (x ∷ ts) (suc at) t e = let q : suc at + 1 ≡ suc (at + 1) = omega arith in rw q (drop_first ts at t e)

drop_none : (ts : List Lexed) (at : ℕ) → first (drop at ts) ≡ None → drop at ts ≡ []
drop_none [] zero e = refl
drop_none [] (suc at) e = refl
drop_none (x ∷ ts) zero e = absurd cc
drop_none (x ∷ ts) (suc at) e = drop_none ts at e

scan_seen : (r : List Lexed) (s : List Open) (w : Awaited) (at seen : ℕ) → scan r s w at seen ≡ scan r s w at (max seen (at + 1))
scan_seen [] s w at seen = let e : max seen (at + 1) ≡ max (max seen (at + 1)) (at + 1) = omega arith in ap Stop e
scan_seen (t ∷ r) s w at seen =
    let e : max seen (at + 1) ≡ max (max seen (at + 1)) (at + 1) = omega arith in
    ap (λ n. after (move s w t.kind) (λ s w. scan r s w (at + 1) n) (at + 1) n) e

-- the first outcome is what goes on behind the second, where that passes no limit
abbrev pub Beside : {A : Type 0} → Outcome Unit_ → (ℕ → ℕ → Outcome Unit_) → Outcome A → Type 0
Beside x k (Done a at seen) = x ≡ k at seen
Beside x k (Stop seen) = x ≡ Stop seen
Beside x k (Past code place seen) = Unit {0}

beside_then : {A B : Type 0} (x : Outcome Unit_) (j k : ℕ → ℕ → Outcome Unit_) (g : A → ℕ → ℕ → Outcome B) (o : Outcome A) → Beside x j o →
    ((a : A) (mid seen : ℕ) → Beside (j mid seen) k (g a mid seen)) → Beside x k (and_then o g)
beside_then x j k g (Done a at seen) h f = subst (λ y. Beside y k (g a at seen)) (sym h) (f a at seen)
beside_then x j k g (Stop seen) h f = h
beside_then x j k g (Past code place seen) h f = tt

module _ (ts : List Lexed) where
  -- the scan of the tokens from that index on
  abbrev pub from : List Open → Awaited → ℕ → ℕ → Outcome Unit_
  from s w at seen = scan (drop at ts) s w at seen

  -- and what it does behind a move
  abbrev pub behind : Move → ℕ → ℕ → Outcome Unit_
  behind v at seen = after v (λ s w. from s w at seen) at seen

  pub step_some : (s : List Open) (w : Awaited) (at seen : ℕ) (t : Lexed) → first (drop at ts) ≡ Some t → from s w at seen ≡ behind (move s w t.kind) (at + 1) (max seen (at + 1))
  step_some s w at seen t e = ap (λ r. scan r s w at seen) (drop_first ts at t e)

  pub step_none : (s : List Open) (w : Awaited) (at seen : ℕ) → first (drop at ts) ≡ None → from s w at seen ≡ Stop (max seen (at + 1))
  step_none s w at seen e = ap (λ r. scan r s w at seen) (drop_none ts at e)

  -- two that move alike at the next token
  pub alike : (s u : List Open) (w v : Awaited) (at seen : ℕ) → ((t : Lexed) → first (drop at ts) ≡ Some t → move s w t.kind ≡ move u v t.kind) → from s w at seen ≡ from u v at seen
  alike s u w v at seen h = go (first (drop at ts)) refl
    where
      go : (x : Option Lexed) → first (drop at ts) ≡ x → from s w at seen ≡ from u v at seen
      go (Some t) e = step_some s w at seen t e ∙ (ap (λ y. behind y (at + 1) (max seen (at + 1))) (h t e) ∙ sym (step_some u v at seen t e))
      go None e = step_none s w at seen e ∙ sym (step_none u v at seen e)

  pub beside_bind : {A B : Type 0} (x : Outcome Unit_) (j k : ℕ → ℕ → Outcome Unit_) (p : Parser A) (g : A → Parser B) (at seen : ℕ) → Beside x j (p ts at seen) →
      ((a : A) (mid seen1 : ℕ) → Beside (j mid seen1) k (g a ts mid seen1)) → Beside x k ((p >>= g) ts at seen)
  unfolding bind
  beside_bind x j k p g at seen h f = beside_then x j k (λ a mid seen1. g a ts mid seen1) (p ts at seen) h f

  module _ (s : List Open) (w : Awaited) (k : ℕ → ℕ → Outcome Unit_) where
    -- what to show of a choice at x
    abbrev pub BesideChoice : {A : Type 0} → ℕ → Option Lexed → Choice A → Type 0
    BesideChoice at x (Leave p) = (seen : ℕ) → Beside (from s w at seen) k (p ts at seen)
    BesideChoice at (Some t) (Take p) = (seen : ℕ) → Beside (behind (move s w t.kind) (at + 1) seen) k (p ts (at + 1) seen)
    BesideChoice at None (Take p) = Unit {0}
    BesideChoice at (Some t) Refuse = move s w t.kind ≡ Wrong
    BesideChoice at None Refuse = Unit {0}
    BesideChoice at x (Pass code place) = Unit {0}

    beside_chosen : {A : Type 0} (at seen : ℕ) (x : Option Lexed) (c : Choice A) → first (drop at ts) ≡ x → BesideChoice at x c → Beside (from s w at seen) k (chosen x c ts at (max seen (at + 1)))
    beside_chosen at seen x (Leave p) e h = subst (λ y. Beside y k (p ts at (max seen (at + 1)))) (sym (scan_seen (drop at ts) s w at seen)) (h (max seen (at + 1)))
    beside_chosen at seen (Some t) (Take p) e h = subst (λ y. Beside y k (p ts (at + 1) (max seen (at + 1)))) (sym (step_some s w at seen t e)) (h (max seen (at + 1)))
    beside_chosen at seen None (Take p) e h = step_none s w at seen e
    beside_chosen at seen (Some t) Refuse e h = step_some s w at seen t e ∙ ap (λ y. behind y (at + 1) (max seen (at + 1))) h
    beside_chosen at seen None Refuse e h = step_none s w at seen e
    beside_chosen at seen x (Pass code place) e h = tt

    pub beside_next : {A : Type 0} (f : Option Lexed → Choice A) (at seen : ℕ) → ((x : Option Lexed) → first (drop at ts) ≡ x → BesideChoice at x (f x)) → Beside (from s w at seen) k (next f ts at seen)
    unfolding next
    beside_next f at seen h = beside_chosen at seen (first (drop at ts)) (f (first (drop at ts))) refl (h (first (drop at ts)) refl)

    pub beside_fits : {A : Type 0} (at : ℕ) (x : Option Lexed) (b : Bool) (c : ModuleCode) (d : Choice A) → BesideChoice at x d → BesideChoice at x (if_fits b c x d)
    beside_fits at x true c d h = h
    beside_fits at x false c (Leave p) h = tt
    beside_fits at (Some t) false c (Take p) h = tt
    beside_fits at None false c (Take p) h = tt
    beside_fits at x false c Refuse h = h
    beside_fits at x false c (Pass other there) h = tt

  pub beside_expect : (s : List Open) (w : Awaited) (u : Step) (mark : Mark) → ((kind : Kind) → move s w kind ≡ applied (if is_mark mark kind then u else Refused) s) → (at seen : ℕ) →
      Beside (from s w at seen) (behind (applied u s)) (expect mark ts at seen)
  unfolding expect
  beside_expect s w u mark h at seen = beside_next s w (behind (applied u s)) (expected mark) at seen go
    where
      by : (t : Lexed) (b : Bool) → is_mark mark t.kind ≡ b → BesideChoice s w (behind (applied u s)) at (Some t) (if b then Take (pure t.place) else Refuse)
      by t true e = λ seen1. ap (λ y. behind y (at + 1) seen1) (h t.kind ∙ ap (λ b. applied (if b then u else Refused) s) e)
      by t false e = h t.kind ∙ ap (λ b. applied (if b then u else Refused) s) e

      go : (x : Option Lexed) → first (drop at ts) ≡ x → BesideChoice s w (behind (applied u s)) at x (expected mark x)
      go (Some t) e = by t (is_mark mark t.kind) refl
      go None e = tt

  module _ {A : Type 0} (s : List Open) (w v : Awaited) (goes : Option Lexed → Bool) (more : A → Parser A)
      (h : (a : A) (at seen : ℕ) → goes (first (drop at ts)) ≡ true → Beside (from s w at seen) (from s w) (more a ts at seen))
      (end : (at seen : ℕ) → goes (first (drop at ts)) ≡ false → from s w at seen ≡ from s v at seen) where
    beside_turn : (at : ℕ) (x : Option Lexed) (b : Bool) (again : Choice A) (a : A) → first (drop at ts) ≡ x → goes x ≡ b →
        (b ≡ true → BesideChoice s w (from s v) at x again) → BesideChoice s w (from s v) at x (turn b again a)
    beside_turn at x true again a e g f = f refl
    beside_turn at x false again a e g f = λ seen. end at seen (ap goes e ∙ g)

    pub beside_turns : (n : ℕ) (a : A) (at seen : ℕ) → Beside (from s w at seen) (from s v) (turns goes more n a ts at seen)
    unfolding turns
    beside_turns zero a at seen = beside_next s w (from s v) (λ x. turn (goes x) (Pass code.TooLong (place_of x)) a) at seen
        (λ x e. beside_turn at x (goes x) (Pass code.TooLong (place_of x)) a e refl (λ d. tt))
    beside_turns (suc n) a at seen = beside_next s w (from s v) (λ x. turn (goes x) (Leave (more a >>= turns goes more n)) a) at seen
        (λ x e. beside_turn at x (goes x) (Leave (more a >>= turns goes more n)) a e refl
        (λ d seen1. beside_bind (from s w at seen1) (from s w) (from s v) (more a) (turns goes more n) at seen1 (h a at seen1 (ap goes e ∙ d))
        (λ b mid seen2. beside_turns n b mid seen2)))
