-- What a parser answers (`Post`), and that it answers (`Reads`), through the parts that parsers are built of.
use Rattle.std.proofs.Common.{Bool, true, false, ◌≡◌, ℕ, zero, suc, ◌+◌, max, List, drop, Option, Some, None, refl, sym, ◌∙◌, ap, subst}
use Rattle.slang_names.specs.declared.codes.ModuleCode.{ModuleCode}
use Rattle.slang_names.specs.declared.codes.ModuleCode.TheVariants as code
use Rattle.slang_reading.specs.Lexed.{Lexed}
use Rattle.slang_reading.specs.Reading.{Outcome, Done, Stop, Past, Parser, and_then, bind, ◌>>=◌, pure, first, Choice, Leave, Take, Refuse, Pass, place_of, chosen, next, if_fits, tried, attempt, foreseen, foresee, turn, turns}
use Rattle.slang_reading.proofs.Viable.{IsPast}

-- where it answers, P holds of the answer and the index after it
abbrev pub Post : {A : Type 0} → (A → ℕ → Type 0) → Outcome A → Type 0
Post P (Done a at seen) = P a at
Post P (Stop seen) = Unit {0}
Post P (Past code place seen) = Unit {0}

post_then : {A B : Type 0} (P : A → ℕ → Type 0) (Q : B → ℕ → Type 0) (g : A → ℕ → ℕ → Outcome B) (o : Outcome A) → Post P o →
    ((a : A) (mid seen : ℕ) → P a mid → Post Q (g a mid seen)) → Post Q (and_then o g)
post_then P Q g (Done a at seen) h k = k a at seen h
post_then P Q g (Stop seen) h k = tt
post_then P Q g (Past code place seen) h k = tt

pub post_weaken : {A : Type 0} (P Q : A → ℕ → Type 0) → ((a : A) (at : ℕ) → P a at → Q a at) → (o : Outcome A) → Post P o → Post Q o
post_weaken P Q f (Done a at seen) h = f a at h
post_weaken P Q f (Stop seen) h = tt
post_weaken P Q f (Past code place seen) h = tt

pub post_unit : {A : Type 0} (o : Outcome A) → Post (λ b mid. Unit {0}) o
post_unit (Done b mid seen) = tt
post_unit (Stop seen) = tt
post_unit (Past code place seen) = tt

module _ (ts : List Lexed) where
  pub post_bind : {A B : Type 0} (P : A → ℕ → Type 0) (Q : B → ℕ → Type 0) (p : Parser A) (g : A → Parser B) (at seen : ℕ) → Post P (p ts at seen) →
      ((a : A) (mid seen1 : ℕ) → P a mid → Post Q (g a ts mid seen1)) → Post Q ((p >>= g) ts at seen)
  unfolding bind
  post_bind P Q p g at seen h k = post_then P Q (λ a mid seen1. g a ts mid seen1) (p ts at seen) h k

  -- what to show of a choice at x
  abbrev pub PostChoice : {A : Type 0} → (A → ℕ → Type 0) → ℕ → Option Lexed → Choice A → Type 0
  PostChoice Q at x (Leave p) = (seen : ℕ) → Post Q (p ts at seen)
  PostChoice Q at (Some t) (Take p) = (seen : ℕ) → Post Q (p ts (at + 1) seen)
  PostChoice Q at None (Take p) = Unit {0}
  PostChoice Q at x Refuse = Unit {0}
  PostChoice Q at x (Pass code place) = Unit {0}

  post_chosen : {A : Type 0} (Q : A → ℕ → Type 0) (at seen : ℕ) (x : Option Lexed) (c : Choice A) → PostChoice Q at x c → Post Q (chosen x c ts at seen)
  post_chosen Q at seen x (Leave p) h = h seen
  post_chosen Q at seen (Some t) (Take p) h = h seen
  post_chosen Q at seen None (Take p) h = tt
  post_chosen Q at seen x Refuse h = tt
  post_chosen Q at seen x (Pass code place) h = tt

  pub post_next : {A : Type 0} (Q : A → ℕ → Type 0) (f : Option Lexed → Choice A) (at seen : ℕ) → ((x : Option Lexed) → first (drop at ts) ≡ x → PostChoice Q at x (f x)) → Post Q (next f ts at seen)
  unfolding next
  post_next Q f at seen h = post_chosen Q at (max seen (at + 1)) (first (drop at ts)) (f (first (drop at ts))) (h (first (drop at ts)) refl)

  -- what fits is to be shown, and nothing of what does not
  pub post_fits : {A : Type 0} (Q : A → ℕ → Type 0) (at : ℕ) (x : Option Lexed) (b : Bool) (k : ModuleCode) (c : Choice A) → (b ≡ true → PostChoice Q at x c) → PostChoice Q at x (if_fits b k x c)
  post_fits Q at x true k c h = h refl
  post_fits Q at x false k (Leave p) h = tt
  post_fits Q at x false k (Take p) h = tt
  post_fits Q at x false k Refuse h = tt
  post_fits Q at x false k (Pass other there) h = tt

  pub post_turn : {A : Type 0} (Q : A → ℕ → Type 0) (at : ℕ) (x : Option Lexed) (b : Bool) (again : Choice A) (a : A) →
      (b ≡ true → PostChoice Q at x again) → (b ≡ false → Q a at) → PostChoice Q at x (turn b again a)
  post_turn Q at x true again a h k = h refl
  post_turn Q at x false again a h k = λ seen. k refl

-- R a b from to: what is read so far, a, goes on to be b; M is one turn of it
module _ (ts : List Lexed) {A : Type 0} (R M : A → A → ℕ → ℕ → Type 0) (goes : Option Lexed → Bool) (more : A → Parser A)
    (end : (a : A) (at : ℕ) → R a a at at)
    (on : (a b c : A) (at mid to : ℕ) → M a b at mid → R b c mid to → R a c at to)
    (h : (a : A) (at seen : ℕ) → goes (first (drop at ts)) ≡ true → Post (λ b mid. M a b at mid) (more a ts at seen)) where
  pub post_turns : (n : ℕ) (a : A) (at seen : ℕ) → Post (λ c to. R a c at to) (turns goes more n a ts at seen)
  unfolding turns
  post_turns zero a at seen = post_next ts (λ c to. R a c at to) (λ x. turn (goes x) (Pass code.TooLong (place_of x)) a) at seen
      (λ x e. post_turn ts (λ c to. R a c at to) at x (goes x) (Pass code.TooLong (place_of x)) a (λ d. tt) (λ d. end a at))
  post_turns (suc n) a at seen = post_next ts (λ c to. R a c at to) (λ x. turn (goes x) (Leave (more a >>= turns goes more n)) a) at seen
      (λ x e. post_turn ts (λ c to. R a c at to) at x (goes x) (Leave (more a >>= turns goes more n)) a
      (λ d seen1. post_bind ts (λ b mid. M a b at mid) (λ c to. R a c at to) (more a) (turns goes more n) at seen1 (h a at seen1 (ap goes e ∙ d))
      (λ b mid seen2 m. post_weaken (λ c to. R b c mid to) (λ c to. R a c at to) (λ c to r. on a b c at mid to m r) (turns goes more n b ts mid seen2) (post_turns n b mid seen2)))
      (λ d. end a at))

-- turns end where they do not go on
pub post_over : (ts : List Lexed) {A : Type 0} (goes : Option Lexed → Bool) (more : A → Parser A) (n : ℕ) (a : A) (at seen : ℕ) →
    Post (λ c to. goes (first (drop to ts)) ≡ false) (turns goes more n a ts at seen)
unfolding turns
post_over ts goes more zero a at seen = post_next ts (λ c to. goes (first (drop to ts)) ≡ false) (λ x. turn (goes x) (Pass code.TooLong (place_of x)) a) at seen
    (λ x e. post_turn ts (λ c to. goes (first (drop to ts)) ≡ false) at x (goes x) (Pass code.TooLong (place_of x)) a (λ d. tt) (λ d. ap goes e ∙ d))
post_over ts goes more (suc n) a at seen = post_next ts (λ c to. goes (first (drop to ts)) ≡ false) (λ x. turn (goes x) (Leave (more a >>= turns goes more n)) a) at seen
    (λ x e. post_turn ts (λ c to. goes (first (drop to ts)) ≡ false) at x (goes x) (Leave (more a >>= turns goes more n)) a
    (λ d seen1. post_bind ts (λ b mid. Unit {0}) (λ c to. goes (first (drop to ts)) ≡ false) (more a) (turns goes more n) at seen1 (post_unit (more a ts at seen1))
    (λ b mid seen2 u. post_over ts goes more n b mid seen2))
    (λ d. ap goes e ∙ d))

-- ---- it answers that, and goes on from there

-- The outcome is that answer at that index; a limit may be passed where E holds. With ⊥ for E nothing passes a limit;
-- with Unit it says that no spelled text is stopped.
abbrev pub Meets : {A : Type 0} → Type 0 → A → ℕ → Outcome A → Type 0
Meets E a to (Done b at seen) = (b ≡ a) × (at ≡ to)
Meets E a to (Stop seen) = ⊥
Meets E a to (Past code place seen) = E

pub record Reads {A : Type 0} (E : Type 0) (p : Parser A) (ts : List Lexed) (at seen : ℕ) (a : A) (to : ℕ) : Type 0 where
  pub is : Meets E a to (p ts at seen)

-- where no limit may be passed, it is the answer
pub reads_done : {A : Type 0} (p : Parser A) (ts : List Lexed) (at seen : ℕ) (a : A) (to : ℕ) → Reads ⊥ p ts at seen a to → (seen1 : ℕ) × (p ts at seen ≡ Done a to seen1)
reads_done {A = A} p ts at seen a to r = go (p ts at seen) refl r.is
  where
    go : (o : Outcome A) → p ts at seen ≡ o → Meets ⊥ a to o → (seen1 : ℕ) × (p ts at seen ≡ Done a to seen1)
    go (Done b at1 seen1) e m = (seen1, e ∙ (ap (λ x. Done x at1 seen1) m.0 ∙ ap (λ n. Done a n seen1) m.1))
    go (Stop seen1) e m = absurd m
    go (Past code place seen1) e m = absurd m

-- what is read is not stopped
pub reads_not_stopped : {A : Type 0} (E : Type 0) (p : Parser A) (ts : List Lexed) (at seen : ℕ) (a : A) (to seen1 : ℕ) → Reads E p ts at seen a to → p ts at seen ≡ Stop seen1 → ⊥
reads_not_stopped E p ts at seen a to seen1 r e = subst (Meets E a to) e r.is

module _ (E : Type 0) (ts : List Lexed) where
  pub reads_pure : {A : Type 0} (a : A) (at seen : ℕ) → Reads E (pure a) ts at seen a at
  reads_pure a at seen = record { is = (refl, refl) }

  pub reads_bind : {A B : Type 0} (p : Parser A) (g : A → Parser B) (at seen mid to : ℕ) (a : A) (b : B) → Reads E p ts at seen a mid →
      ((seen1 : ℕ) → Reads E (g a) ts mid seen1 b to) → Reads E (p >>= g) ts at seen b to
  unfolding bind
  reads_bind {A = A} p g at seen mid to a b r k = record { is = go (p ts at seen) r.is }
    where
      go : (o : Outcome A) → Meets E a mid o → Meets E b to (and_then o (λ a at1 seen1. g a ts at1 seen1))
      go (Done c at1 seen1) m = subst (λ x. Meets E b to (g x ts at1 seen1)) (sym m.0) (subst (λ n. Meets E b to (g a ts n seen1)) (sym m.1) (k seen1).is)
      go (Stop seen1) m = absurd m
      go (Past code place seen1) m = m

  -- what to show of a choice at x
  abbrev pub ReadsChoice : {A : Type 0} → ℕ → A → ℕ → Option Lexed → Choice A → Type 0
  ReadsChoice at a to x (Leave p) = (seen : ℕ) → Reads E p ts at seen a to
  ReadsChoice at a to (Some t) (Take p) = (seen : ℕ) → Reads E p ts (at + 1) seen a to
  ReadsChoice at a to None (Take p) = ⊥
  ReadsChoice at a to x Refuse = ⊥
  ReadsChoice at a to x (Pass code place) = E

  reads_chosen : {A : Type 0} (at seen : ℕ) (a : A) (to : ℕ) (x : Option Lexed) (c : Choice A) → ReadsChoice at a to x c → Meets E a to (chosen x c ts at seen)
  reads_chosen at seen a to x (Leave p) h = (h seen).is
  reads_chosen at seen a to (Some t) (Take p) h = (h seen).is
  reads_chosen at seen a to None (Take p) h = absurd h
  reads_chosen at seen a to x Refuse h = absurd h
  reads_chosen at seen a to x (Pass code place) h = h

  pub reads_next : {A : Type 0} (f : Option Lexed → Choice A) (at seen : ℕ) (a : A) (to : ℕ) (x : Option Lexed) (c : Choice A) → first (drop at ts) ≡ x → f x ≡ c → ReadsChoice at a to x c →
      Reads E (next f) ts at seen a to
  unfolding next
  reads_next f at seen a to x c e d h = record {
    is = subst (λ y. Meets E a to (chosen y (f y) ts at (max seen (at + 1)))) (sym e)
        (subst (λ c. Meets E a to (chosen x c ts at (max seen (at + 1)))) (sym d) (reads_chosen at (max seen (at + 1)) a to x c h));
  }

  -- what fits is read, and what does not is excused
  pub reads_fits : {A : Type 0} (at : ℕ) (a : A) (to : ℕ) (x : Option Lexed) (b : Bool) (k : ModuleCode) (c : Choice A) → (b ≡ false → E) → ReadsChoice at a to x c → ReadsChoice at a to x (if_fits b k x c)
  reads_fits at a to x true k c n h = h
  reads_fits at a to x false k (Leave p) n h = n refl
  reads_fits at a to (Some t) false k (Take p) n h = n refl
  reads_fits at a to None false k (Take p) n h = absurd h
  reads_fits at a to x false k Refuse n h = h
  reads_fits at a to x false k (Pass other there) n h = h

  module _ {A : Type 0} (goes : Option Lexed → Bool) (more : A → Parser A) where
    turn_is : (b d : Bool) (again : Choice A) (a : A) → b ≡ d → turn b again a ≡ turn d again a
    turn_is b d again a e = ap (λ b. turn b again a) e

    pub reads_turns_end : (n : ℕ) (a : A) (at seen : ℕ) → goes (first (drop at ts)) ≡ false → Reads E (turns goes more n a) ts at seen a at
    unfolding turns
    reads_turns_end zero a at seen e = reads_next (λ x. turn (goes x) (Pass code.TooLong (place_of x)) a) at seen a at (first (drop at ts)) (Leave (pure a)) refl
        (turn_is (goes (first (drop at ts))) false (Pass code.TooLong (place_of (first (drop at ts)))) a e) (reads_pure a at)
    reads_turns_end (suc n) a at seen e = reads_next (λ x. turn (goes x) (Leave (more a >>= turns goes more n)) a) at seen a at (first (drop at ts)) (Leave (pure a)) refl
        (turn_is (goes (first (drop at ts))) false (Leave (more a >>= turns goes more n)) a e) (reads_pure a at)

    pub reads_turns_more : (n : ℕ) (a b c : A) (at seen mid to : ℕ) → goes (first (drop at ts)) ≡ true → ((seen1 : ℕ) → Reads E (more a) ts at seen1 b mid) →
        ((seen1 : ℕ) → Reads E (turns goes more n b) ts mid seen1 c to) → Reads E (turns goes more (suc n) a) ts at seen c to
    unfolding turns
    reads_turns_more n a b c at seen mid to e h k = reads_next (λ x. turn (goes x) (Leave (more a >>= turns goes more n)) a) at seen c to (first (drop at ts)) (Leave (more a >>= turns goes more n)) refl
        (turn_is (goes (first (drop at ts))) true (Leave (more a >>= turns goes more n)) a e) (λ seen1. reads_bind (more a) (turns goes more n) at seen1 mid to b c (h seen1) k)

    pub reads_turns_full : (a c : A) (at seen to : ℕ) → goes (first (drop at ts)) ≡ true → E → Reads E (turns goes more zero a) ts at seen c to
    unfolding turns
    reads_turns_full a c at seen to e x = reads_next (λ x. turn (goes x) (Pass code.TooLong (place_of x)) a) at seen c to (first (drop at ts)) (Pass code.TooLong (place_of (first (drop at ts)))) refl
        (turn_is (goes (first (drop at ts))) true (Pass code.TooLong (place_of (first (drop at ts)))) a e) x

-- ---- what is tried

module _ (ts : List Lexed) {A B : Type 0} (q : Parser B) (f : Option B → Parser A) (at seen : ℕ) where
  -- q answers nothing
  abbrev pub Never : Type 0
  Never = (b : B) (mid seen1 : ℕ) → q ts at seen ≡ Done b mid seen1 → ⊥

  pub post_attempt : (P : B → ℕ → Type 0) (Q : A → ℕ → Type 0) → Post P (q ts at seen) → ((b : B) (mid seen1 : ℕ) → P b mid → Post Q (f (Some b) ts mid seen1)) →
      (Never → (seen1 : ℕ) → Post Q (f None ts at seen1)) → Post Q (attempt q f ts at seen)
  unfolding attempt
  post_attempt P Q h some none = go (q ts at seen) refl h
    where
      differ : (seen2 : ℕ) → q ts at seen ≡ Stop seen2 → (b : B) (mid seen1 : ℕ) → q ts at seen ≡ Done b mid seen1 → ⊥
      differ seen2 e b mid seen1 d = let c = sym e ∙ d in cc

      go : (o : Outcome B) → q ts at seen ≡ o → Post P o → Post Q (tried o f ts at)
      go (Done b mid seen1) e p = some b mid seen1 p
      go (Stop seen1) e p = none (differ seen1 e) seen1
      go (Past code place seen1) e p = tt

  pub reads_attempt_some : (E : Type 0) (b : B) (a : A) (mid to : ℕ) → Reads E q ts at seen b mid → ((seen1 : ℕ) → Reads E (f (Some b)) ts mid seen1 a to) → Reads E (attempt q f) ts at seen a to
  unfolding attempt
  reads_attempt_some E b a mid to r k = record { is = go (q ts at seen) r.is }
    where
      go : (o : Outcome B) → Meets E b mid o → Meets E a to (tried o f ts at)
      go (Done c at1 seen1) m = subst (λ x. Meets E a to (f (Some x) ts at1 seen1)) (sym m.0) (subst (λ n. Meets E a to (f (Some b) ts n seen1)) (sym m.1) (k seen1).is)
      go (Stop seen1) m = absurd m
      go (Past code place seen1) m = m

  pub reads_attempt_none : (E : Type 0) (P : B → ℕ → Type 0) (a : A) (to : ℕ) → Post P (q ts at seen) → ((b : B) (mid : ℕ) → P b mid → ⊥) → (IsPast (q ts at seen) → E) →
      ((seen1 : ℕ) → Reads E (f None) ts at seen1 a to) → Reads E (attempt q f) ts at seen a to
  unfolding attempt
  reads_attempt_none E P a to h never x k = record { is = go (q ts at seen) h x }
    where
      go : (o : Outcome B) → Post P o → (IsPast o → E) → Meets E a to (tried o f ts at)
      go (Done b mid seen1) p x = absurd (never b mid p)
      go (Stop seen1) p x = (k seen1).is
      go (Past code place seen1) p x = x tt

-- ---- what is looked at ahead

module _ (ts : List Lexed) {A B : Type 0} (q : Parser B) (f : Bool → Parser A) (at seen : ℕ) where
  pub post_foresee : (Q : A → ℕ → Type 0) → ((b : B) (mid seen1 : ℕ) → q ts at seen ≡ Done b mid seen1 → Post Q (f true ts at seen1)) →
      (((b : B) (mid seen1 : ℕ) → q ts at seen ≡ Done b mid seen1 → ⊥) → (seen1 : ℕ) → Post Q (f false ts at seen1)) → Post Q (foresee q f ts at seen)
  unfolding foresee
  post_foresee Q some none = go (q ts at seen) refl
    where
      differ : (seen2 : ℕ) → q ts at seen ≡ Stop seen2 → (b : B) (mid seen1 : ℕ) → q ts at seen ≡ Done b mid seen1 → ⊥
      differ seen2 e b mid seen1 d = let c = sym e ∙ d in cc

      go : (o : Outcome B) → q ts at seen ≡ o → Post Q (foreseen o f ts at)
      go (Done b mid seen1) e = some b mid seen1 e
      go (Stop seen1) e = none (differ seen1 e) seen1
      go (Past code place seen1) e = tt

  pub reads_foresee_yes : (E : Type 0) (b : B) (a : A) (mid to : ℕ) → Reads E q ts at seen b mid → ((seen1 : ℕ) → Reads E (f true) ts at seen1 a to) → Reads E (foresee q f) ts at seen a to
  unfolding foresee
  reads_foresee_yes E b a mid to r k = record { is = go (q ts at seen) r.is }
    where
      go : (o : Outcome B) → Meets E b mid o → Meets E a to (foreseen o f ts at)
      go (Done c at1 seen1) m = (k seen1).is
      go (Stop seen1) m = absurd m
      go (Past code place seen1) m = m

  pub reads_foresee_no : (E : Type 0) (P : B → ℕ → Type 0) (a : A) (to : ℕ) → Post P (q ts at seen) → ((b : B) (mid : ℕ) → P b mid → ⊥) → (IsPast (q ts at seen) → E) →
      ((seen1 : ℕ) → Reads E (f false) ts at seen1 a to) → Reads E (foresee q f) ts at seen a to
  unfolding foresee
  reads_foresee_no E P a to h never x k = record { is = go (q ts at seen) h x }
    where
      go : (o : Outcome B) → Post P o → (IsPast o → E) → Meets E a to (foreseen o f ts at)
      go (Done b mid seen1) p x = absurd (never b mid p)
      go (Stop seen1) p x = (k seen1).is
      go (Past code place seen1) p x = x tt
