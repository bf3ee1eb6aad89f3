-- What the parts of the descent into expressions answer: a part that is looked at ahead, and loops whose turn tells whether
-- it was one.
use Rattle.std.proofs.Common.{Bool, true, false, ◌≡◌, ℕ, zero, suc, List, Option, Some, None, refl, sym, subst}
use Rattle.slang_names.specs.declared.codes.ModuleCode.TheVariants as code
use Rattle.slang_reading.specs.Lexed.{Lexed}
use Rattle.slang_reading.specs.Reading.{Outcome, Done, Stop, Past, Parser, past, place_of, foreseen, foresee}
use Rattle.slang_reading.proofs.Exact.{Post, post_bind, post_weaken, Meets, Reads, reads_pure, reads_bind}
use Rattle.slang_grammar.specs.ExpressionsDescent.{again, repeats}

-- where it is known what is answered, whatever is answered is that
pub post_known : {A : Type 0} (p : Parser A) (ts : List Lexed) (at seen : ℕ) (a : A) (to : ℕ) → Reads (Unit {0}) p ts at seen a to → Post (λ b mid. (b ≡ a) × (mid ≡ to)) (p ts at seen)
post_known {A = A} p ts at seen a to r = go (p ts at seen) r.is
  where
    go : (o : Outcome A) → Meets (Unit {0}) a to o → Post (λ b mid. (b ≡ a) × (mid ≡ to)) o
    go (Done b mid seen1) m = m
    go (Stop seen1) m = tt
    go (Past code place seen1) m = tt

-- what holds of each answer holds of this one
pub post_here : {A : Type 0} (P : A → ℕ → Type 0) (o : Outcome A) (a : A) (to seen : ℕ) → o ≡ Done a to seen → Post P o → P a to
post_here P o a to seen e h = subst (Post P) e h

module _ (ts : List Lexed) {A B : Type 0} (q : Parser B) (f : Bool → Parser A) (at seen : ℕ) where
  pub post_ahead : (Q : A → ℕ → Type 0) → ((b : B) (mid seen1 : ℕ) → q ts at seen ≡ Done b mid seen1 → Post Q (f true ts at seen1)) →
      ((seen1 : ℕ) → q ts at seen ≡ Stop seen1 → Post Q (f false ts at seen1)) → Post Q (foresee q f ts at seen)
  unfolding foresee
  post_ahead Q some none = go (q ts at seen) refl
    where
      go : (o : Outcome B) → q ts at seen ≡ o → Post Q (foreseen o f ts at)
      go (Done b mid seen1) e = some b mid seen1 e
      go (Stop seen1) e = none seen1 e
      go (Past code place seen1) e = tt

-- ---- loops whose turn tells whether it was one

-- a turn that goes on, or none, which stays where it was
abbrev pub TurnIs : {A : Type 0} → (A → ℕ → Type 0) → ℕ → Option A → ℕ → Type 0
TurnIs M at (Some b) mid = M b mid
TurnIs M at None mid = mid ≡ at

module _ (ts : List Lexed) {A : Type 0} (R M : A → A → ℕ → ℕ → Type 0) (more : A → Parser (Option A))
    (end : (a : A) (at : ℕ) → R a a at at)
    (on : (a b c : A) (at mid to : ℕ) → M a b at mid → R b c mid to → R a c at to)
    (h : (a : A) (at seen : ℕ) → Post (TurnIs (λ b mid. M a b at mid) at) (more a ts at seen)) where
  pub post_repeats : (n : ℕ) (a : A) (at seen : ℕ) → Post (λ c to. R a c at to) (repeats more n a ts at seen)
  unfolding repeats
  post_repeats zero a at seen = post_bind ts (TurnIs (λ b mid. M a b at mid) at) (λ c to. R a c at to) (more a) (again (λ b. past code.TooLong (place_of None)) a) at seen (h a at seen) go
    where
      go : (o : Option A) (mid seen1 : ℕ) → TurnIs (λ b mid. M a b at mid) at o mid → Post (λ c to. R a c at to) (again (λ b. past code.TooLong (place_of None)) a o ts mid seen1)
      go (Some b) mid seen1 m = tt
      go None mid seen1 m = subst (R a a at) (sym m) (end a at)
  post_repeats (suc n) a at seen = post_bind ts (TurnIs (λ b mid. M a b at mid) at) (λ c to. R a c at to) (more a) (again (repeats more n) a) at seen (h a at seen) (go (λ b mid seen1. post_repeats n b mid seen1))
    where
      go : ((b : A) (mid seen1 : ℕ) → Post (λ c to. R b c mid to) (repeats more n b ts mid seen1)) →
          (o : Option A) (mid seen1 : ℕ) → TurnIs (λ b mid. M a b at mid) at o mid → Post (λ c to. R a c at to) (again (repeats more n) a o ts mid seen1)
      go r (Some b) mid seen1 m = post_weaken (λ c to. R b c mid to) (λ c to. R a c at to) (λ c to q. on a b c at mid to m q) (repeats more n b ts mid seen1) (r b mid seen1)
      go r None mid seen1 m = subst (R a a at) (sym m) (end a at)

module _ (E : Type 0) (ts : List Lexed) {A : Type 0} (more : A → Parser (Option A)) where
  pub reads_repeats_end : (n : ℕ) (a : A) (at seen : ℕ) → Reads E (more a) ts at seen None at → Reads E (repeats more n a) ts at seen a at
  unfolding repeats
  reads_repeats_end zero a at seen r = reads_bind E ts (more a) (again (λ b. past code.TooLong (place_of None)) a) at seen at at None a r (λ seen1. reads_pure E ts a at seen1)
  reads_repeats_end (suc n) a at seen r = reads_bind E ts (more a) (again (repeats more n) a) at seen at at None a r (λ seen1. reads_pure E ts a at seen1)

  pub reads_repeats_more : (n : ℕ) (a b c : A) (at seen mid to : ℕ) → Reads E (more a) ts at seen (Some b) mid → ((seen1 : ℕ) → Reads E (repeats more n b) ts mid seen1 c to) →
      Reads E (repeats more (suc n) a) ts at seen c to
  unfolding repeats
  reads_repeats_more n a b c at seen mid to r k = reads_bind E ts (more a) (again (repeats more n) a) at seen mid to (Some b) c r k

  pub reads_repeats_full : (a b c : A) (at seen mid to : ℕ) → Reads E (more a) ts at seen (Some b) mid → E → Reads E (repeats more zero a) ts at seen c to
  unfolding repeats
  reads_repeats_full a b c at seen mid to r e = reads_bind E ts (more a) (again (λ b. past code.TooLong (place_of None)) a) at seen mid to (Some b) c r (λ seen1. record { is = e })
