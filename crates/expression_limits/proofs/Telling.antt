-- Which limit a parser tells, through the parts that parsers are built of.
use Rattle.std.proofs.Common.{Bool, true, false, ◌≡◌, ℕ, zero, suc, ◌+◌, max, List, [], ◌∷◌, ◌++◌, drop, length, Option, Some, None, refl, sym, ◌∙◌, ap, subst, ◌||◌, arith}
use Rattle.std.specs.Prelude.{nat_le, nat_lt}
use Rattle.std.proofs.lemmas.Bool.Decides.{nat_tests}
use Rattle.slang_names.specs.declared.places.Place.{Place}
use Rattle.slang_names.specs.declared.codes.ModuleCode.{ModuleCode}
use Rattle.slang_names.specs.declared.codes.ModuleCode.TheVariants as code
use Rattle.slang_reading.specs.Lexed.{Lexed}
use Rattle.slang_reading.specs.Reading.{Outcome, Done, Stop, Past, Parser, and_then, bind, ◌>>=◌, first, Choice, Leave, Take, Refuse, Pass, place_of, chosen, next, if_fits, tried, attempt, foreseen, foresee, turn, turns}
use Rattle.slang_reading.proofs.Viable.{IsPast}
use Rattle.slang_reading.proofs.Exact.{Post, Meets, Reads, reads_turns_end}
use Rattle.slang_grammar.specs.Descent.{Limits, fits_in, is_short}
use Rattle.slang_grammar.specs.ExpressionsDescent.{again, repeats}
use Rattle.expression_grammar.proofs.Parts.{reads_repeats_end}
use Rattle.expression_limits.specs.Breaks.{Break, broken, unless, item_with}

-- that limit is told
abbrev pub Passed : Option Break → ModuleCode → Place → Type 0
Passed None code place = ⊥
Passed (Some b) code place = (code ≡ b.code) × (place ≡ b.place)

-- the outcome is that answer at that index where nothing is broken, and else the limit that is
abbrev pub Told : {A : Type 0} → Option Break → A → ℕ → Outcome A → Type 0
Told None a to (Done c at seen) = (c ≡ a) × (at ≡ to)
Told (Some b) a to (Done c at seen) = ⊥
Told b a to (Stop seen) = ⊥
Told b a to (Past code place seen) = Passed b code place

-- of the limits that are broken the first is told
pub record Tells {A : Type 0} (bs : List Break) (p : Parser A) (ts : List Lexed) (at seen : ℕ) (a : A) (to : ℕ) : Type 0 where
  pub is : Told (first bs) a to (p ts at seen)

pub tells_done : {A : Type 0} (bs : List Break) (p : Parser A) (ts : List Lexed) (at seen : ℕ) (a : A) (to : ℕ) → Tells bs p ts at seen a to → first bs ≡ None → (seen1 : ℕ) × (p ts at seen ≡ Done a to seen1)
tells_done {A = A} bs p ts at seen a to r n = go (p ts at seen) refl (subst (λ b. Told b a to (p ts at seen)) n r.is)
  where
    go : (o : Outcome A) → p ts at seen ≡ o → Told None a to o → (seen1 : ℕ) × (p ts at seen ≡ Done a to seen1)
    go (Done c at1 seen1) e m = (seen1, e ∙ (ap (λ x. Done x at1 seen1) m.0 ∙ ap (λ n. Done a n seen1) m.1))
    go (Stop seen1) e m = absurd m
    go (Past code place seen1) e m = absurd m

pub tells_past : {A : Type 0} (bs : List Break) (p : Parser A) (ts : List Lexed) (at seen : ℕ) (a : A) (to : ℕ) (b : Break) → Tells bs p ts at seen a to → first bs ≡ Some b → (seen1 : ℕ) × (p ts at seen ≡ Past b.code b.place seen1)
tells_past {A = A} bs p ts at seen a to b r n = go (p ts at seen) refl (subst (λ b. Told b a to (p ts at seen)) n r.is)
  where
    go : (o : Outcome A) → p ts at seen ≡ o → Told (Some b) a to o → (seen1 : ℕ) × (p ts at seen ≡ Past b.code b.place seen1)
    go (Done c at1 seen1) e m = absurd m
    go (Stop seen1) e m = absurd m
    go (Past code place seen1) e m = (seen1, e ∙ (ap (λ x. Past x place seen1) m.0 ∙ ap (λ q. Past b.code q seen1) m.1))

-- only the first counts
pub tells_first : {A : Type 0} (b : Break) (bs : List Break) (p : Parser A) (ts : List Lexed) (at seen : ℕ) (a : A) (to : ℕ) → first bs ≡ Some b → Tells (b ∷ []) p ts at seen a to → Tells bs p ts at seen a to
tells_first b bs p ts at seen a to e r = record { is = subst (λ b. Told b a to (p ts at seen)) (sym e) r.is }

-- what comes first stays so
pub first_front : (xs ys : List Break) (b : Break) → first xs ≡ Some b → first (xs ++ ys) ≡ Some b
first_front [] ys b e = cc
first_front (x ∷ xs) ys b e = e

-- what passes no limit breaks none
pub tells_reads : {A : Type 0} (p : Parser A) (ts : List Lexed) (at seen : ℕ) (a : A) (to : ℕ) → Reads ⊥ p ts at seen a to → Tells [] p ts at seen a to
tells_reads {A = A} p ts at seen a to r = record { is = go (p ts at seen) r.is }
  where
    go : (o : Outcome A) → Meets ⊥ a to o → Told None a to o
    go (Done c at1 seen1) m = m
    go (Stop seen1) m = absurd m
    go (Past code place seen1) m = absurd m

-- the tests of limits that are not free
pub fits_is : (limits : Limits) → limits.free ≡ false → (count most : ℕ) → fits_in limits count most ≡ nat_lt count most
fits_is limits e count most = ap (λ b. b || nat_lt count most) e

pub short_is : (limits : Limits) → limits.free ≡ false → (t : Lexed) → is_short limits t ≡ nat_le (length t.bytes) limits.names
short_is limits e t = ap (λ b. b || nat_le (length t.bytes) limits.names) e

module _ (ts : List Lexed) where
  -- one after the other
  pub tells_bind : {A B : Type 0} {bs cs : List Break} (p : Parser A) (g : A → Parser B) (at seen mid to : ℕ) (a : A) (z : B) → Tells bs p ts at seen a mid →
      ((seen1 : ℕ) → Tells cs (g a) ts mid seen1 z to) → Tells (bs ++ cs) (p >>= g) ts at seen z to
  unfolding bind
  tells_bind {A = A} {bs = bs} {cs = cs} p g at seen mid to a z r k = record { is = go bs (p ts at seen) r.is }
    where
      go : (bs : List Break) (o : Outcome A) → Told (first bs) a mid o → Told (first (bs ++ cs)) z to (and_then o (λ a at1 seen1. g a ts at1 seen1))
      go [] (Done x at1 seen1) m = subst (λ x. Told (first cs) z to (g x ts at1 seen1)) (sym m.0) (subst (λ n. Told (first cs) z to (g a ts n seen1)) (sym m.1) (k seen1).is)
      go [] (Stop seen1) m = absurd m
      go [] (Past code place seen1) m = absurd m
      go (b ∷ bs) (Done x at1 seen1) m = absurd m
      go (b ∷ bs) (Stop seen1) m = absurd m
      go (b ∷ bs) (Past code place seen1) m = m

  and_none : (bs : List Break) → bs ++ [] ≡ bs
  and_none [] = refl
  and_none (b ∷ bs) = ap (λ bs. b ∷ bs) (and_none bs)

  -- what comes first breaks nothing
  pub tells_then : {A B : Type 0} {cs : List Break} (p : Parser A) (g : A → Parser B) (at seen mid to : ℕ) (a : A) (z : B) → Reads ⊥ p ts at seen a mid →
      ((seen1 : ℕ) → Tells cs (g a) ts mid seen1 z to) → Tells cs (p >>= g) ts at seen z to
  tells_then {cs = cs} p g at seen mid to a z r k = tells_bind {bs = []} {cs = cs} p g at seen mid to a z (tells_reads p ts at seen a mid r) k

  -- what comes last breaks nothing
  pub tells_last : {A B : Type 0} {bs : List Break} (p : Parser A) (g : A → Parser B) (at seen mid to : ℕ) (a : A) (z : B) → Tells bs p ts at seen a mid →
      ((seen1 : ℕ) → Reads ⊥ (g a) ts mid seen1 z to) → Tells bs (p >>= g) ts at seen z to
  tells_last {bs = bs} p g at seen mid to a z r k = subst (λ bs. Tells bs (p >>= g) ts at seen z to) (and_none bs)
      (tells_bind {bs = bs} {cs = []} p g at seen mid to a z r (λ seen1. tells_reads (g a) ts mid seen1 z to (k seen1)))

  -- where a limit is told, nothing follows
  pub tells_broken : {A B : Type 0} {b : Break} (p : Parser A) (g : A → Parser B) (at seen mid to : ℕ) (a : A) (z : B) → Tells (b ∷ []) p ts at seen a mid → Tells (b ∷ []) (p >>= g) ts at seen z to
  unfolding bind
  tells_broken {A = A} {b = b} p g at seen mid to a z r = record { is = go (p ts at seen) r.is }
    where
      go : (o : Outcome A) → Told (Some b) a mid o → Told (Some b) z to (and_then o (λ a at1 seen1. g a ts at1 seen1))
      go (Done x at1 seen1) m = absurd m
      go (Stop seen1) m = absurd m
      go (Past code place seen1) m = m

  -- ---- choices

  -- what to show of a choice at x
  abbrev pub TellsChoice : {A : Type 0} → List Break → ℕ → A → ℕ → Option Lexed → Choice A → Type 0
  TellsChoice bs at a to x (Leave p) = (seen : ℕ) → Tells bs p ts at seen a to
  TellsChoice bs at a to (Some t) (Take p) = (seen : ℕ) → Tells bs p ts (at + 1) seen a to
  TellsChoice bs at a to None (Take p) = ⊥
  TellsChoice bs at a to x Refuse = ⊥
  TellsChoice bs at a to x (Pass code place) = Passed (first bs) code place

  tells_chosen : {A : Type 0} (bs : List Break) (at seen : ℕ) (a : A) (to : ℕ) (x : Option Lexed) (c : Choice A) → TellsChoice bs at a to x c → Told (first bs) a to (chosen x c ts at seen)
  tells_chosen bs at seen a to x (Leave p) h = (h seen).is
  tells_chosen bs at seen a to (Some t) (Take p) h = (h seen).is
  tells_chosen bs at seen a to None (Take p) h = absurd h
  tells_chosen bs at seen a to x Refuse h = absurd h
  tells_chosen bs at seen a to x (Pass code place) h = h

  pub tells_next : {A : Type 0} {bs : List Break} (f : Option Lexed → Choice A) (at seen : ℕ) (a : A) (to : ℕ) (x : Option Lexed) (c : Choice A) → first (drop at ts) ≡ x → f x ≡ c →
      TellsChoice bs at a to x c → Tells bs (next f) ts at seen a to
  unfolding next
  tells_next {bs = bs} f at seen a to x c e d h = record {
    is = subst (λ y. Told (first bs) a to (chosen y (f y) ts at (max seen (at + 1)))) (sym e)
        (subst (λ c. Told (first bs) a to (chosen x c ts at (max seen (at + 1)))) (sym d) (tells_chosen bs at (max seen (at + 1)) a to x c h));
  }

  differ : {A : Type 0} → true ≡ false → A
  differ e = absurd (clash e)
    where
      clash : true ≡ false → ⊥
      clash e = cc

  -- a token that is taken where it fits; claim is the test as the limit says it
  pub tells_take : {A : Type 0} {bs : List Break} (at : ℕ) (a : A) (to : ℕ) (t : Lexed) (test claim : Bool) (k : ModuleCode) (p : Parser A) → first (drop at ts) ≡ Some t → test ≡ claim →
      ((seen : ℕ) → Tells bs p ts (at + 1) seen a to) → TellsChoice (unless ts claim k at ++ bs) at a to (Some t) (if_fits test k (Some t) (Take p))
  tells_take at a to t true true k p e q h = h
  tells_take at a to t false false k p e q h = (refl, ap place_of (sym e))
  tells_take at a to t true false k p e q h = differ q
  tells_take at a to t false true k p e q h = differ (sym q)

  -- and nothing is broken behind it
  pub tells_take_last : {A : Type 0} (at : ℕ) (a : A) (to : ℕ) (t : Lexed) (test claim : Bool) (k : ModuleCode) (p : Parser A) → first (drop at ts) ≡ Some t → test ≡ claim →
      ((seen : ℕ) → Reads ⊥ p ts (at + 1) seen a to) → TellsChoice (unless ts claim k at) at a to (Some t) (if_fits test k (Some t) (Take p))
  tells_take_last at a to t true true k p e q h = λ seen. tells_reads p ts (at + 1) seen a to (h seen)
  tells_take_last at a to t false false k p e q h = (refl, ap place_of (sym e))
  tells_take_last at a to t true false k p e q h = differ q
  tells_take_last at a to t false true k p e q h = differ (sym q)

  -- what passes a limit passes no other
  pub tells_pass : {A : Type 0} (bs : List Break) (at : ℕ) (a : A) (to : ℕ) (x : Option Lexed) (test : Bool) (k : ModuleCode) → first (drop at ts) ≡ x →
      TellsChoice {A = A} (broken ts code.TooNested at ∷ bs) at a to x (if_fits test k x (Pass code.TooNested (place_of x)))
  tells_pass bs at a to x true k e = (refl, ap place_of (sym e))
  tells_pass bs at a to x false k e = (refl, ap place_of (sym e))

  some_room : (d : ℕ) → nat_lt 0 (suc d) ≡ true
  some_room d = grind (arith, nat_tests)

  -- an item that begins with a node
  pub tells_item : {A : Type 0} {bs : List Break} (limits : Limits) (free : limits.free ≡ false) (at : ℕ) (a : A) (to : ℕ) (x : Option Lexed) (count d : ℕ) (p : Parser A) → first (drop at ts) ≡ x →
      ((seen : ℕ) → Tells bs p ts at seen a to) →
      TellsChoice (item_with ts limits count at d bs) at a to x (if_fits (fits_in limits count limits.items) code.TooLong x (if_fits (nat_lt 0 d) code.TooNested x (Leave p)))
  tells_item {bs = bs} limits free at a to x count zero p e h = tells_pass (unless ts (nat_lt count limits.items) code.TooLong at ++ bs) at a to x (fits_in limits count limits.items) code.TooLong e
  tells_item {A = A} {bs = bs} limits free at a to x count (suc d) p e h =
      subst (λ r. TellsChoice {A = A} (unless ts (nat_lt count limits.items) code.TooLong at ++ bs) at a to x (if_fits (fits_in limits count limits.items) code.TooLong x (if_fits r code.TooNested x (Leave p))))
      (sym (some_room d)) (by (fits_in limits count limits.items) (nat_lt count limits.items) (fits_is limits free count limits.items))
    where
      by : (test claim : Bool) → test ≡ claim → TellsChoice {A = A} (unless ts claim code.TooLong at ++ bs) at a to x (if_fits test code.TooLong x (Leave p))
      by true true q = h
      by false false q = (refl, ap place_of (sym e))
      by true false q = differ q
      by false true q = differ (sym q)

  -- ---- loops

  module _ {A : Type 0} (goes : Option Lexed → Bool) (more : A → Parser A) where
    pub tells_turns_end : (n : ℕ) (a : A) (at seen : ℕ) → goes (first (drop at ts)) ≡ false → Tells [] (turns goes more n a) ts at seen a at
    tells_turns_end n a at seen e = tells_reads (turns goes more n a) ts at seen a at (reads_turns_end ⊥ ts goes more n a at seen e)

    pub tells_turns_more : {bs cs : List Break} (n : ℕ) (x y z : A) (at seen mid to : ℕ) → goes (first (drop at ts)) ≡ true → ((seen1 : ℕ) → Tells bs (more x) ts at seen1 y mid) →
        ((seen1 : ℕ) → Tells cs (turns goes more n y) ts mid seen1 z to) → Tells (bs ++ cs) (turns goes more (suc n) x) ts at seen z to
    unfolding turns
    tells_turns_more n x y z at seen mid to e h k = tells_next (λ t. turn (goes t) (Leave (more x >>= turns goes more n)) x) at seen z to (first (drop at ts)) (Leave (more x >>= turns goes more n)) refl
        (ap (λ b. turn b (Leave (more x >>= turns goes more n)) x) e) (λ seen1. tells_bind (more x) (turns goes more n) at seen1 mid to y z (h seen1) k)

  -- ---- what is tried, and what is looked at ahead

  module _ {A B : Type 0} (q : Parser B) (at seen : ℕ) where
    pub tells_attempt_some : {cs : List Break} (f : Option B → Parser A) (x : B) (a : A) (mid to : ℕ) → Reads ⊥ q ts at seen x mid → ((seen1 : ℕ) → Tells cs (f (Some x)) ts mid seen1 a to) →
        Tells cs (attempt q f) ts at seen a to
    unfolding attempt
    tells_attempt_some {cs = cs} f x a mid to r k = record { is = go (q ts at seen) r.is }
      where
        go : (o : Outcome B) → Meets ⊥ x mid o → Told (first cs) a to (tried o f ts at)
        go (Done y at1 seen1) m = subst (λ x. Told (first cs) a to (f (Some x) ts at1 seen1)) (sym m.0) (subst (λ n. Told (first cs) a to (f (Some x) ts n seen1)) (sym m.1) (k seen1).is)
        go (Stop seen1) m = absurd m
        go (Past code place seen1) m = absurd m

    pub tells_attempt_none : {cs : List Break} (f : Option B → Parser A) (P : B → ℕ → Type 0) (a : A) (to : ℕ) → Post P (q ts at seen) → ((x : B) (mid : ℕ) → P x mid → ⊥) → (IsPast (q ts at seen) → ⊥) →
        ((seen1 : ℕ) → Tells cs (f None) ts at seen1 a to) → Tells cs (attempt q f) ts at seen a to
    unfolding attempt
    tells_attempt_none {cs = cs} f P a to h never x k = record { is = go (q ts at seen) h x }
      where
        go : (o : Outcome B) → Post P o → (IsPast o → ⊥) → Told (first cs) a to (tried o f ts at)
        go (Done y mid seen1) p x = absurd (never y mid p)
        go (Stop seen1) p x = (k seen1).is
        go (Past code place seen1) p x = absurd (x tt)

    pub tells_foresee_yes : {cs : List Break} (f : Bool → Parser A) (x : B) (a : A) (mid to : ℕ) → Reads ⊥ q ts at seen x mid → ((seen1 : ℕ) → Tells cs (f true) ts at seen1 a to) → Tells cs (foresee q f) ts at seen a to
    unfolding foresee
    tells_foresee_yes {cs = cs} f x a mid to r k = record { is = go (q ts at seen) r.is }
      where
        go : (o : Outcome B) → Meets ⊥ x mid o → Told (first cs) a to (foreseen o f ts at)
        go (Done y at1 seen1) m = (k seen1).is
        go (Stop seen1) m = absurd m
        go (Past code place seen1) m = absurd m

  -- ---- loops whose turn tells whether it was one

  module _ {A : Type 0} (more : A → Parser (Option A)) where
    pub tells_repeats_end : (n : ℕ) (a : A) (at seen : ℕ) → Reads ⊥ (more a) ts at seen None at → Tells [] (repeats more n a) ts at seen a at
    tells_repeats_end n a at seen r = tells_reads (repeats more n a) ts at seen a at (reads_repeats_end ⊥ ts more n a at seen r)

    pub tells_repeats_more : {bs cs : List Break} (n : ℕ) (x y z : A) (at seen mid to : ℕ) → Tells bs (more x) ts at seen (Some y) mid → ((seen1 : ℕ) → Tells cs (repeats more n y) ts mid seen1 z to) →
        Tells (bs ++ cs) (repeats more (suc n) x) ts at seen z to
    unfolding repeats
    tells_repeats_more n x y z at seen mid to h k = tells_bind (more x) (again (repeats more n) x) at seen mid to (Some y) z h k
