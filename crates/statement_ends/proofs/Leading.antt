-- A parser that looks at less than another one does (`Leads`), and one that answers wherever another one does (`Sooner`),
-- through the parts that parsers are built of.
use Rattle.std.proofs.Common.{◌≡◌, ℕ, zero, suc, ◌+◌, ◌<◌, ◌≤◌, max, List, ◌++◌, length, drop, Option, Some, None, refl, ◌∙◌, ap, subst, arith, ◌⊎◌, inl, inr}
use Rattle.std.proofs.Math.Path.{fun_ext}
use Rattle.slang_names.specs.declared.codes.ModuleCode.TheVariants as code
use Rattle.slang_reading.specs.Lexed.{Lexed}
use Rattle.slang_reading.specs.Reading.{Outcome, Done, Stop, Past, Parser, and_then, bind, ◌>>=◌, pure, place_of, first, Choice, Leave, Take, Refuse, Pass, chosen, next}
use Rattle.slang_reading.proofs.Tame.{seen_of, seen_rises, Bounded, Tame, tame_pure, tame_bind, Each}
use Rattle.slang_reading.proofs.Viable.{Reaches, Finishes, Completion, Completes, Viable, viable_bind, EachPair, viable_next}
use Rattle.expression_grammar.proofs.Completing.{done_again}

-- ---- the same parser in another form

abbrev pub then_choice : {A B : Type 0} → Choice A → (A → Parser B) → Choice B
then_choice (Leave p) g = Leave (p >>= g)
then_choice (Take p) g = Take (p >>= g)
then_choice Refuse g = Refuse
then_choice (Pass code place) g = Pass code place

pub bind_bind : {A B C : Type 0} (p : Parser A) (g : A → Parser B) (h : B → Parser C) → ((p >>= g) >>= h) ≡ (p >>= (λ a. g a >>= h))
unfolding bind
bind_bind {A = A} p g h = fun_ext (λ ts. fun_ext (λ at. fun_ext (λ seen. go ts (p ts at seen))))
  where
    go : (ts : List Lexed) (o : Outcome A) → and_then (and_then o (λ a at1 seen1. g a ts at1 seen1)) (λ b at2 seen2. h b ts at2 seen2) ≡
        and_then o (λ a at1 seen1. and_then (g a ts at1 seen1) (λ b at2 seen2. h b ts at2 seen2))
    go ts (Done a at1 seen1) = refl
    go ts (Stop seen1) = refl
    go ts (Past code place seen1) = refl

pub pure_bind : {A B : Type 0} (a : A) (g : A → Parser B) → (pure a >>= g) ≡ g a
unfolding bind
pure_bind a g = refl

pub next_bind : {A B : Type 0} (f : Option Lexed → Choice A) (g : A → Parser B) → (next f >>= g) ≡ next (λ x. then_choice (f x) g)
unfolding bind next
next_bind {A = A} f g = fun_ext (λ ts. fun_ext (λ at. fun_ext (λ seen. go ts at (first (drop at ts)) (f (first (drop at ts))) (max seen (at + 1)))))
  where
    go : (ts : List Lexed) (at : ℕ) (x : Option Lexed) (c : Choice A) (s : ℕ) → and_then (chosen x c ts at s) (λ a at1 seen1. g a ts at1 seen1) ≡ chosen x (then_choice c g) ts at s
    go ts at x (Leave p) s = refl
    go ts at (Some t) (Take p) s = refl
    go ts at None (Take p) s = refl
    go ts at x Refuse s = refl
    go ts at x (Pass code place) s = refl

-- ---- what has been looked at before

pub reaches_again : {A : Type 0} (q : Parser A) → Tame q → (ts : List Lexed) (at seen other to : ℕ) → Reaches q ts at seen to → Reaches q ts at other to
reaches_again q h ts at seen other to r = let d = done_again q h ts at seen other r.tree to r.seen1 r.is in record { tree = r.tree; seen1 = d.0; is = d.1 }

again_completes : {A : Type 0} (F : Option Lexed → Type 0) (q : Parser A) → Tame q → (ts : List Lexed) (at seen other k : ℕ) → Completion F q ts at seen k → Completion F q ts at other k
again_completes F q h ts at seen other k c = record { path = c.path; reads = λ us rest s e f. reaches_again q h us at seen other (k + length c.path) (c.reads us rest s e f) }

-- ---- what the first looks at, the second completes

pub record Leads {A B : Type 0} (F : Option Lexed → Type 0) (p : Parser A) (q : Parser B) : Type 0 where
  pub tame : Tame p
  pub whole : Tame q
  pub completes : (ts : List Lexed) (at seen : ℕ) → Completes F q ts at seen (p ts at seen)

bounded_seen : {A : Type 0} (n : ℕ) (o : Outcome A) → Bounded n o → seen_of o ≤ n + 1
bounded_seen n (Done a at seen) b = b.1
bounded_seen n (Stop seen) b = b
bounded_seen n (Past code place seen) b = b

-- The first, with each outcome a limit that is passed: nothing is to be shown of its answers then.
abbrev passed : {B : Type 0} → ℕ → Outcome B
passed seen = Past code.TooLong (place_of None) seen

abbrev silenced : {A B : Type 0} → Parser A → Parser B
silenced p = λ ts at seen. passed (seen_of (p ts at seen))

tame_silenced : {A B : Type 0} (p : Parser A) → Tame p → Tame (silenced {B = B} p)
tame_silenced {B = B} p h = record {
  rises = λ ts at seen. seen_rises at seen (p ts at seen) (h.rises ts at seen);
  bounded = λ ts at seen l k. bounded_seen (length ts) (p ts at seen) (h.bounded ts at seen l k);
  local = λ ts us at seen s. ap (λ o. passed {B = B} (seen_of o)) (h.local ts us at seen s);
  steady = λ ts at seen other. refl;
}

by_path : {B : Type 0} (F : Option Lexed → Type 0) (q : Parser B) (path : List Lexed) → Finishes F path q → (ts : List Lexed) (at seen k : ℕ) → at ≡ k → Completion F q ts at seen k
by_path F q path h ts at seen k e = subst (λ k. Completion F q ts at seen k) e (record { path = path; reads = λ us rest s d f. h.reads us rest at seen d f })

abbrev hushed : {A B : Type 0} → Choice A → Choice B
hushed (Leave p) = Leave (silenced p)
hushed (Take p) = Take (silenced p)
hushed Refuse = Pass code.TooLong (place_of None)
hushed (Pass code place) = Pass code place

same_hushed : {A : Type 0} (B : Type 0) (x : Option Lexed) (c : Choice A) (ts : List Lexed) (at s : ℕ) → seen_of (chosen x (hushed {B = B} c) ts at s) ≡ seen_of (chosen x c ts at s)
same_hushed B x (Leave p) ts at s = refl
same_hushed B (Some t) (Take p) ts at s = refl
same_hushed B None (Take p) ts at s = refl
same_hushed B x Refuse ts at s = refl
same_hushed B x (Pass code place) ts at s = refl

module _ {A B : Type 0} (F : Option Lexed → Type 0) where
  viable_silenced : (p : Parser A) (q : Parser B) → Leads F p q → Viable F (silenced p) q
  viable_silenced p q l = record { tame = tame_silenced p l.tame; whole = l.whole; grows = record { same = λ ts at seen. inr tt }; completes = λ ts at seen. l.completes ts at seen }

  -- an answer at once looks at nothing
  pub leads_pure : (a : A) (q : Parser B) → Tame q → Leads F (pure a) q
  leads_pure a q h = record { tame = tame_pure a; whole = h; completes = λ ts at seen k e l. absurd (omega arith) }

  -- the first looks at one token
  pub leads_one : (p : Parser A) (q : Parser B) (path : List Lexed) → Tame p → Tame q → Finishes F path q → ((ts : List Lexed) (at seen : ℕ) → seen_of (p ts at seen) ≡ max seen (at + 1)) → Leads F p q
  leads_one p q path hp hq h one = record { tame = hp; whole = hq; completes = λ ts at seen k e l. let n : at ≡ k = omega (arith, one ts at seen, e, l) in by_path F q path h ts at seen k n }

  -- the first looks at one token, and goes on before it, or is done
  abbrev pub Leaves : Parser B → Choice A → Type 0
  Leaves q (Leave p) = Leads F p q
  Leaves q (Take p) = ⊥
  Leaves q Refuse = Unit {0}
  Leaves q (Pass code place) = Unit {0}

  look_completes : (q : Parser B) (path : List Lexed) → Tame q → Finishes F path q → (x : Option Lexed) (c : Choice A) → Leaves q c → (ts : List Lexed) (at seen : ℕ) →
      Completes F q ts at seen (chosen x c ts at (max seen (at + 1)))
  look_completes q path h hf x (Leave p) v ts at seen = λ k n l. elim (le_or_lt (max seen (at + 1)) k) [
    | inl le ↦ again_completes F q h ts at (max seen (at + 1)) seen k (v.completes ts at (max seen (at + 1)) k n le)
    | inr lt ↦
        let m = seen_rises at (max seen (at + 1)) (p ts at (max seen (at + 1))) (v.tame.rises ts at (max seen (at + 1))) in
        let i : at ≡ k = omega (arith, m, n, l, lt) in
        by_path F q path hf ts at seen k i
  ]
    where
      le_or_lt : (m n : ℕ) → (m ≤ n) ⊎ (n < m)
      le_or_lt zero n = inl (omega arith)
      le_or_lt (suc m) zero = inr (omega arith)
      le_or_lt (suc m) (suc n) = elim (le_or_lt m n) [ inl h ↦ inl (omega arith) | inr h ↦ inr (omega arith) ]
  look_completes q path h hf x (Take p) v ts at seen = absurd v
  look_completes q path h hf x Refuse v ts at seen = λ k n l. let i : at ≡ k = omega (arith, n, l) in by_path F q path hf ts at seen k i
  look_completes q path h hf x (Pass code place) v ts at seen = λ k n l. let i : at ≡ k = omega (arith, n, l) in by_path F q path hf ts at seen k i

  pub leads_look : (f : Option Lexed → Choice A) (q : Parser B) (path : List Lexed) → Tame (next f) → Tame q → Finishes F path q → ((x : Option Lexed) → Leaves q (f x)) → Leads F (next f) q
  unfolding next
  leads_look f q path hp hq hf v = record { tame = hp; whole = hq; completes = λ ts at seen. look_completes q path hq hf (first (drop at ts)) (f (first (drop at ts))) (v (first (drop at ts))) ts at seen }

  -- ---- two choices of one kind

  abbrev pub EachLeads : Choice A → Choice B → Type 0
  EachLeads (Leave p) (Leave q) = Leads F p q
  EachLeads (Take p) (Take q) = Leads F p q
  EachLeads Refuse d = Each Tame d
  EachLeads (Pass code place) d = Each Tame d
  EachLeads _ _ = ⊥

  pair_hushed : (c : Choice A) (d : Choice B) → EachLeads c d → EachPair (Viable F) (hushed c) d
  pair_hushed (Leave p) (Leave q) v = viable_silenced p q v
  pair_hushed (Take p) (Take q) v = viable_silenced p q v
  pair_hushed Refuse d v = v
  pair_hushed (Pass code place) d v = v
  pair_hushed (Leave p) (Take q) v = absurd v
  pair_hushed (Leave p) Refuse v = absurd v
  pair_hushed (Leave p) (Pass code place) v = absurd v
  pair_hushed (Take p) (Leave q) v = absurd v
  pair_hushed (Take p) Refuse v = absurd v
  pair_hushed (Take p) (Pass code place) v = absurd v

  pub leads_next : (f : Option Lexed → Choice A) (h : Option Lexed → Choice B) (path : List Lexed) → Tame (next f) → Finishes F path (next h) → ((x : Option Lexed) → EachLeads (f x) (h x)) → Leads F (next f) (next h)
  unfolding next
  leads_next f h path hp hf v =
      let w = viable_next F h (λ x. hushed (f x)) path hf (λ x. pair_hushed (f x) (h x) (v x)) in record {
        tame = hp;
        whole = w.whole;
        completes = λ ts at seen k e l. w.completes ts at seen k (same_hushed B (first (drop at ts)) (f (first (drop at ts))) ts at (max seen (at + 1)) ∙ e) l;
      }

-- the same before, and then what leads
pub leads_bind : {A B C : Type 0} (F G : Option Lexed → Type 0) (path : List Lexed) (p q : Parser A) (g : A → Parser B) (h : A → Parser C) → ((rest : List Lexed) → F (first rest) → G (first (path ++ rest))) →
    Viable G p q → ((a : A) → Leads F (g a) (h a)) → ((a : A) → Finishes F path (h a)) → Leads F (p >>= g) (q >>= h)
unfolding bind
leads_bind {A = A} {C = C} F G path p q g h leads hp hg hf =
    let w = viable_bind F G q h path leads p (λ a. silenced (g a)) hp (λ a. viable_silenced F (g a) (h a) (hg a)) hf in record {
      tame = tame_bind g (λ a. (hg a).tame) p hp.tame;
      whole = w.whole;
      completes = λ ts at seen k e l. w.completes ts at seen k (same ts (p ts at seen) ∙ e) l;
    }
  where
    same : (ts : List Lexed) (o : Outcome A) → seen_of (and_then o (λ a at1 seen1. passed {B = C} (seen_of (g a ts at1 seen1)))) ≡ seen_of (and_then o (λ a at1 seen1. g a ts at1 seen1))
    same ts (Done a at1 seen1) = refl
    same ts (Stop seen1) = refl
    same ts (Past code place seen1) = refl

-- ---- the first answers where the second does

pub record Sooner {A B : Type 0} (p : Parser A) (q : Parser B) : Type 0 where
  pub answers : (ts : List Lexed) (at seen to : ℕ) → Reaches q ts at seen to → (mid : ℕ) × Reaches p ts at seen mid

pub sooner_pure : {A B : Type 0} (a : A) (q : Parser B) → Sooner (pure a) q
sooner_pure a q = record { answers = λ ts at seen to r. (at, record { tree = a; seen1 = seen; is = refl }) }

-- what one part and what follows it reach
pub parted : {A B : Type 0} (p : Parser A) (h : A → Parser B) (ts : List Lexed) (at seen to : ℕ) → Reaches (p >>= h) ts at seen to →
    (a : A) × (mid : ℕ) × (seen1 : ℕ) × (p ts at seen ≡ Done a mid seen1) × Reaches (h a) ts mid seen1 to
unfolding bind
parted {A = A} {B = B} p h ts at seen to r = go (p ts at seen) refl r.is
  where
    go : (o : Outcome A) → p ts at seen ≡ o → and_then o (λ a at1 seen1. h a ts at1 seen1) ≡ Done r.tree to r.seen1 →
        (a : A) × (mid : ℕ) × (seen1 : ℕ) × (p ts at seen ≡ Done a mid seen1) × Reaches (h a) ts mid seen1 to
    go (Done a mid seen1) e f = (a, mid, seen1, e, record { tree = r.tree; seen1 = r.seen1; is = f })
    go (Stop seen1) e f = cc
    go (Past code place seen1) e f = cc

pub joined_reach : {A B : Type 0} (p : Parser A) (h : A → Parser B) (ts : List Lexed) (at seen mid seen1 to : ℕ) (a : A) → p ts at seen ≡ Done a mid seen1 → Reaches (h a) ts mid seen1 to → Reaches (p >>= h) ts at seen to
unfolding bind
joined_reach p h ts at seen mid seen1 to a e r = record { tree = r.tree; seen1 = r.seen1; is = ap (λ o. and_then o (λ a at1 seen1. h a ts at1 seen1)) e ∙ r.is }

pub sooner_bind : {A B C : Type 0} (p : Parser A) (g : A → Parser B) (h : A → Parser C) → ((a : A) → Sooner (g a) (h a)) → Sooner (p >>= g) (p >>= h)
sooner_bind p g h s = record {
  answers = λ ts at seen to r.
      let d = parted p h ts at seen to r in
      let u = (s d.0).answers ts d.1 d.2 to d.4 in
      (u.0, joined_reach p g ts at seen d.1 d.2 u.0 d.0 d.3 u.1);
}

abbrev pub EachSooner : {A B : Type 0} → Choice A → Choice B → Type 0
EachSooner (Leave p) (Leave q) = Sooner p q
EachSooner (Take p) (Take q) = Sooner p q
EachSooner c Refuse = Unit {0}
EachSooner c (Pass code place) = Unit {0}
EachSooner _ _ = ⊥

pub sooner_next : {A B : Type 0} (f : Option Lexed → Choice A) (h : Option Lexed → Choice B) → ((x : Option Lexed) → EachSooner (f x) (h x)) → Sooner (next f) (next h)
unfolding next
sooner_next {A = A} {B = B} f h s = record {
  answers = λ ts at seen to r.
      let u = go ts at (max seen (at + 1)) to (first (drop at ts)) (f (first (drop at ts))) (h (first (drop at ts))) (s (first (drop at ts))) r.tree r.seen1 r.is in
      (u.0, record { tree = u.1.tree; seen1 = u.1.seen1; is = u.1.is });
}
  where
    go : (ts : List Lexed) (at i to : ℕ) (x : Option Lexed) (c : Choice A) (d : Choice B) → EachSooner c d → (b : B) (seen1 : ℕ) → chosen x d ts at i ≡ Done b to seen1 →
        (mid : ℕ) × Reaches (λ us at2 seen2. chosen x c ts at i) ts at i mid
    go ts at i to x (Leave p) (Leave q) v b seen1 e = let u = v.answers ts at i to (record { tree = b; seen1 = seen1; is = e }) in (u.0, record { tree = u.1.tree; seen1 = u.1.seen1; is = u.1.is })
    go ts at i to (Some t) (Take p) (Take q) v b seen1 e = let u = v.answers ts (at + 1) i to (record { tree = b; seen1 = seen1; is = e }) in (u.0, record { tree = u.1.tree; seen1 = u.1.seen1; is = u.1.is })
    go ts at i to None (Take p) (Take q) v b seen1 e = cc
    go ts at i to x c Refuse v b seen1 e = cc
    go ts at i to x c (Pass code place) v b seen1 e = cc
    go ts at i to x (Leave p) (Take q) v b seen1 e = absurd v
    go ts at i to x (Take p) (Leave q) v b seen1 e = absurd v
    go ts at i to x Refuse (Leave q) v b seen1 e = absurd v
    go ts at i to x Refuse (Take q) v b seen1 e = absurd v
    go ts at i to x (Pass code place) (Leave q) v b seen1 e = absurd v
    go ts at i to x (Pass code place) (Take q) v b seen1 e = absurd v

-- what answers where a part does answers where what follows the part does too
pub sooner_before : {A B C : Type 0} (p : Parser A) (q : Parser B) (h : B → Parser C) → Sooner p q → Sooner p (q >>= h)
sooner_before p q h s = record {
  answers = λ ts at seen to r.
      let d = parted q h ts at seen to r in
      s.answers ts at seen d.1 (record { tree = d.0; seen1 = d.2; is = d.3 });
}
