-- A parser that passes no limit (`Fine`), through the parts that parsers are built of.
use Rattle.std.proofs.Common.{Bool, true, false, ◌≡◌, ℕ, zero, suc, ◌+◌, ◌<◌, ◌≤◌, max, List, length, drop, Option, Some, None, refl, sym, ◌∙◌, ap, subst, arith}
use Rattle.slang_names.specs.declared.codes.ModuleCode.{ModuleCode}
use Rattle.slang_names.specs.declared.codes.ModuleCode.TheVariants as code
use Rattle.slang_reading.specs.Lexed.{Lexed}
use Rattle.slang_reading.specs.Reading.{Outcome, Done, Stop, Past, Parser, and_then, bind, ◌>>=◌, pure, first, Choice, Leave, Take, Refuse, Pass, place_of, chosen, next, if_fits, turn, turns}
use Rattle.slang_reading.proofs.Tame.{within}
use Rattle.slang_reading.proofs.Viable.{IsPast}
use Rattle.slang_reading.proofs.Exact.{Post}

-- where it answers, P holds of the answer and the index after it, and it passes no limit
abbrev pub Fine : {A : Type 0} → (A → ℕ → Type 0) → Outcome A → Type 0
Fine P (Done a at seen) = P a at
Fine P (Stop seen) = Unit {0}
Fine P (Past code place seen) = ⊥

pub fine_post : {A : Type 0} (P : A → ℕ → Type 0) (o : Outcome A) → Fine P o → Post P o
fine_post P (Done a at seen) h = h
fine_post P (Stop seen) h = tt
fine_post P (Past code place seen) h = tt

pub fine_not_past : {A : Type 0} (P : A → ℕ → Type 0) (o : Outcome A) → Fine P o → IsPast o → ⊥
fine_not_past P (Done a at seen) h d = d
fine_not_past P (Stop seen) h d = d
fine_not_past P (Past code place seen) h d = h

pub fine_weaken : {A : Type 0} (P Q : A → ℕ → Type 0) → ((a : A) (at : ℕ) → P a at → Q a at) → (o : Outcome A) → Fine P o → Fine Q o
fine_weaken P Q f (Done a at seen) h = f a at h
fine_weaken P Q f (Stop seen) h = tt
fine_weaken P Q f (Past code place seen) h = h

fine_then : {A B : Type 0} (P : A → ℕ → Type 0) (Q : B → ℕ → Type 0) (g : A → ℕ → ℕ → Outcome B) (o : Outcome A) → Fine P o →
    ((a : A) (mid seen : ℕ) → P a mid → Fine Q (g a mid seen)) → Fine Q (and_then o g)
fine_then P Q g (Done a at seen) h k = k a at seen h
fine_then P Q g (Stop seen) h k = tt
fine_then P Q g (Past code place seen) h k = h

module _ (ts : List Lexed) where
  pub fine_bind : {A B : Type 0} (P : A → ℕ → Type 0) (Q : B → ℕ → Type 0) (p : Parser A) (g : A → Parser B) (at seen : ℕ) → Fine P (p ts at seen) →
      ((a : A) (mid seen1 : ℕ) → P a mid → Fine Q (g a ts mid seen1)) → Fine Q ((p >>= g) ts at seen)
  unfolding bind
  fine_bind P Q p g at seen h k = fine_then P Q (λ a mid seen1. g a ts mid seen1) (p ts at seen) h k

  abbrev pub FineChoice : {A : Type 0} → (A → ℕ → Type 0) → ℕ → Option Lexed → Choice A → Type 0
  FineChoice Q at x (Leave p) = (seen : ℕ) → Fine Q (p ts at seen)
  FineChoice Q at (Some t) (Take p) = (seen : ℕ) → Fine Q (p ts (at + 1) seen)
  FineChoice Q at None (Take p) = Unit {0}
  FineChoice Q at x Refuse = Unit {0}
  FineChoice Q at x (Pass code place) = ⊥

  fine_chosen : {A : Type 0} (Q : A → ℕ → Type 0) (at seen : ℕ) (x : Option Lexed) (c : Choice A) → FineChoice Q at x c → Fine Q (chosen x c ts at seen)
  fine_chosen Q at seen x (Leave p) h = h seen
  fine_chosen Q at seen (Some t) (Take p) h = h seen
  fine_chosen Q at seen None (Take p) h = tt
  fine_chosen Q at seen x Refuse h = tt
  fine_chosen Q at seen x (Pass code place) h = h

  pub fine_next : {A : Type 0} (Q : A → ℕ → Type 0) (f : Option Lexed → Choice A) (at seen : ℕ) → ((x : Option Lexed) → first (drop at ts) ≡ x → FineChoice Q at x (f x)) → Fine Q (next f ts at seen)
  unfolding next
  fine_next Q f at seen h = fine_chosen Q at (max seen (at + 1)) (first (drop at ts)) (f (first (drop at ts))) (h (first (drop at ts)) refl)

  -- what fits passes no limit
  pub fine_fits : {A : Type 0} (Q : A → ℕ → Type 0) (at : ℕ) (x : Option Lexed) (b : Bool) (k : ModuleCode) (c : Choice A) → b ≡ true → FineChoice Q at x c → FineChoice Q at x (if_fits b k x c)
  fine_fits Q at x true k c e h = h
  fine_fits Q at x false k c e h = cc

  -- Each turn takes a token, and there are as many turns as tokens are left.
  module _ {A : Type 0} (goes : Option Lexed → Bool) (some : goes None ≡ false) (more : A → Parser A) (base : ℕ)
      (h : (a : A) (at seen : ℕ) → base ≤ at → Fine (λ b mid. at < mid) (more a ts at seen)) where
    fine_turn : (at : ℕ) (x : Option Lexed) (b : Bool) (again : Choice A) (a : A) → (b ≡ true → FineChoice (λ c to. at ≤ to) at x again) → FineChoice (λ c to. at ≤ to) at x (turn b again a)
    fine_turn at x true again a k = k refl
    fine_turn at (Some t) false again a k = λ seen. omega arith
    fine_turn at None false again a k = λ seen. omega arith

    pub fine_turns : (n : ℕ) (a : A) (at seen : ℕ) → base ≤ at → length ts ≤ at + n → Fine (λ c to. at ≤ to) (turns goes more n a ts at seen)
    unfolding turns
    fine_turns zero a at seen b l = fine_next (λ c to. at ≤ to) (λ x. turn (goes x) (Pass code.TooLong (place_of x)) a) at seen
        (λ x e. fine_turn at x (goes x) (Pass code.TooLong (place_of x)) a (λ g. none x e g))
      where
        none : (x : Option Lexed) → first (drop at ts) ≡ x → goes x ≡ true → FineChoice {A = A} (λ c to. at ≤ to) at x (Pass code.TooLong (place_of x))
        none (Some t) e g = let lt = within at ts t e in omega (arith, lt, l)
        none None e g = let c : false ≡ true = sym some ∙ g in cc
    fine_turns (suc n) a at seen b l = fine_next (λ c to. at ≤ to) (λ x. turn (goes x) (Leave (more a >>= turns goes more n)) a) at seen
        (λ x e. fine_turn at x (goes x) (Leave (more a >>= turns goes more n)) a (λ g. leave x (more a >>= turns goes more n) (λ seen1. fine_bind (λ b mid. at < mid) (λ c to. at ≤ to) (more a) (turns goes more n) at seen1 (h a at seen1 b)
        (λ b1 mid seen2 lt. fine_weaken (λ c to. mid ≤ to) (λ c to. at ≤ to) (λ c to le. omega (arith, le, lt)) (turns goes more n b1 ts mid seen2) (fine_turns n b1 mid seen2 (omega (arith, lt, b)) (omega (arith, lt, l)))))))
      where
        leave : (x : Option Lexed) (p : Parser A) → ((seen1 : ℕ) → Fine (λ c to. at ≤ to) (p ts at seen1)) → FineChoice (λ c to. at ≤ to) at x (Leave p)
        leave (Some t) p r = r
        leave None p r = r
