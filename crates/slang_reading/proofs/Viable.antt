-- What was looked at, but for the last token, can be completed. A parser stands beside the same parser with more room:
-- where the first stops or passes a limit, the second reads a completion.
use Rattle.std.proofs.Common.{Bool, true, false, ◌≡◌, ℕ, zero, suc, ◌+◌, ◌<◌, ◌≤◌, max, List, [], ◌∷◌, ◌++◌, length, drop, Option, Some, None, refl, sym, ◌∙◌, ap, subst, append_assoc, append-nil, add-zero, zero-add, length-append, arith, ◌⊎◌, inl, inr}
use Rattle.std.proofs.Math.Seq.{drop-nil, drop-append_seam}
use Rattle.slang_names.specs.declared.places.Place.{Place}
use Rattle.slang_names.specs.declared.codes.ModuleCode.{ModuleCode}
use Rattle.slang_names.specs.declared.codes.ModuleCode.TheVariants as code
use Rattle.slang_reading.specs.Lexed.{Lexed}
use Rattle.slang_reading.specs.Reading.{Outcome, Done, Stop, Past, Parser, and_then, bind, ◌>>=◌, pure, past, first, Choice, Leave, Take, Refuse, Pass, place_of, chosen, next, if_fits, tried, attempt, foreseen, foresee, turn, turns}
use Rattle.slang_reading.proofs.Tame.{Same, same_less, seen_of, Rises, seen_rises, Tame, tame_pure, tame_past, tame_bind, Each, tame_next, each_fits, tame_attempt, tame_foresee, tame_turns}

-- ---- more room changes nothing but what passed a limit

abbrev pub IsPast : {A : Type 0} → Outcome A → Type 0
IsPast (Past code place seen) = Unit {0}
IsPast _ = ⊥

pub record Grows {A : Type 0} (p q : Parser A) : Type 0 where
  pub same : (ts : List Lexed) (at seen : ℕ) → (q ts at seen ≡ p ts at seen) ⊎ IsPast (p ts at seen)

pub grows_same : {A : Type 0} (p : Parser A) → Grows p p
grows_same p = record { same = λ ts at seen. inl refl }

-- what the larger one answers, where the smaller one is not past a limit
pub grown : {A : Type 0} (p q : Parser A) → Grows p q → (ts : List Lexed) (at seen : ℕ) (o : Outcome A) → p ts at seen ≡ o → (IsPast o → ⊥) → q ts at seen ≡ o
grown p q h ts at seen o e n = elim (h.same ts at seen) [ inl s ↦ s ∙ e | inr d ↦ absurd (n (subst IsPast e d)) ]

-- ---- completions

-- p reads up to that index
pub record Reaches {A : Type 0} (p : Parser A) (ts : List Lexed) (at seen to : ℕ) : Type 0 where
  pub tree : A
  pub seen1 : ℕ
  pub is : p ts at seen ≡ Done tree to seen1

-- Where the path stands ahead, and then a token of F, or the end if F has it, p reads the path.
pub record Finishes {A : Type 0} (F : Option Lexed → Type 0) (path : List Lexed) (p : Parser A) : Type 0 where
  pub reads : (ts rest : List Lexed) (at seen : ℕ) → drop at ts ≡ path ++ rest → F (first rest) → Reaches p ts at seen (at + length path)

-- The first k tokens can be completed: from the index k on, let the path stand, and then a token of F.
pub record Completion {A : Type 0} (F : Option Lexed → Type 0) (p : Parser A) (ts : List Lexed) (at seen k : ℕ) : Type 0 where
  pub path : List Lexed
  pub reads : (us rest : List Lexed) → Same k ts us → drop k us ≡ path ++ rest → F (first rest) → Reaches p us at seen (k + length path)

-- what is looked at anew, but for its last token, can be completed
abbrev pub Completes : {A B : Type 0} → (Option Lexed → Type 0) → Parser A → List Lexed → ℕ → ℕ → Outcome B → Type 0
Completes F q ts at seen o = (k : ℕ) → seen_of o ≡ k + 1 → seen ≤ k → Completion F q ts at seen k

-- what p looks at, q completes
pub record Viable {A : Type 0} (F : Option Lexed → Type 0) (p q : Parser A) : Type 0 where
  pub tame : Tame p
  pub whole : Tame q
  pub grows : Grows p q
  pub completes : (ts : List Lexed) (at seen : ℕ) → Completes F q ts at seen (p ts at seen)

pub viable_pure : {A : Type 0} (F : Option Lexed → Type 0) (a : A) → Viable F (pure a) (pure a)
viable_pure F a = record { tame = tame_pure a; whole = tame_pure a; grows = grows_same (pure a); completes = λ ts at seen k e h. absurd (omega arith) }

pub viable_past : {A : Type 0} (F : Option Lexed → Type 0) (code : ModuleCode) (place : Place) (q : Parser A) → Tame q → Viable F (past code place) q
viable_past F code place q h = record { tame = tame_past code place; whole = h; grows = record { same = λ ts at seen. inr tt }; completes = λ ts at seen k e h. absurd (omega arith) }

pub finishes_pure : {A : Type 0} (F : Option Lexed → Type 0) (a : A) → Finishes F [] (pure a)
finishes_pure F a = record { reads = λ ts rest at seen e f. record { tree = a; seen1 = seen; is = ap (λ n. Done a n seen) (sym (add-zero at)) } }

pub drop_drop : {X : Type 0} (k n : ℕ) (xs : List X) → drop (k + n) xs ≡ drop n (drop k xs)
drop_drop zero n xs = rw zero-add refl
drop_drop (suc k) n [] = drop-nil (suc k + n) ∙ sym (drop-nil n)
drop_drop (suc k) n (x ∷ xs) = let e : suc k + n ≡ suc (k + n) = omega arith in ap (λ m. drop m (x ∷ xs)) e ∙ drop_drop k n xs

pub drop_path : {X : Type 0} (k : ℕ) (xs path rest : List X) → drop k xs ≡ path ++ rest → drop (k + length path) xs ≡ rest
drop_path k xs path rest e = drop_drop k (length path) xs ∙ ap (drop (length path)) e ∙ drop-append_seam path rest

le_or_lt : (m n : ℕ) → (m ≤ n) ⊎ (n < m)
le_or_lt zero n = inl (omega arith)
le_or_lt (suc m) zero = inr (omega arith)
le_or_lt (suc m) (suc n) = elim (le_or_lt m n) [ inl h ↦ inl (omega arith) | inr h ↦ inr (omega arith) ]

-- ---- one after the other

module _ {A B : Type 0} (F G : Option Lexed → Type 0) (q : Parser A) (h : A → Parser B) (path : List Lexed)
    (leads : (rest : List Lexed) → F (first rest) → G (first (path ++ rest))) where
  reaches_bind : (ts : List Lexed) (at seen mid to : ℕ) → Reaches q ts at seen mid → ((a : A) (seen1 : ℕ) → Reaches (h a) ts mid seen1 to) → Reaches (q >>= h) ts at seen to
  unfolding bind
  reaches_bind ts at seen mid to r s =
      let t = s r.tree r.seen1 in
      record { tree = t.tree; seen1 = t.seen1; is = ap (λ o. and_then o (λ a at1 seen1. h a ts at1 seen1)) r.is ∙ t.is }

  pub finishes_bind : (front : List Lexed) → Finishes G front q → ((a : A) → Finishes F path (h a)) → Finishes F (front ++ path) (q >>= h)
  finishes_bind front hq hh = record {
    reads = λ ts rest at seen e f.
        let e' = e ∙ append_assoc front path rest in
        let r = hq.reads ts (path ++ rest) at seen e' (leads rest f) in
        let n : at + length front + length path ≡ at + length (front ++ path) = omega (arith, length-append front path) in
        subst (λ n. Reaches (q >>= h) ts at seen n) n
        (reaches_bind ts at seen (at + length front) (at + length front + length path) r
        (λ a seen1. (hh a).reads ts rest (at + length front) seen1 (drop_path at ts front (path ++ rest) e') f));
  }

  -- a completion of q, and then the path
  completion_front : ((a : A) → Finishes F path (h a)) → (ts : List Lexed) (at seen k : ℕ) → Completion G q ts at seen k → Completion F (q >>= h) ts at seen k
  completion_front hh ts at seen k c = record {
    path = c.path ++ path;
    reads = λ us rest s e f.
        let e' = e ∙ append_assoc c.path path rest in
        let r = c.reads us (path ++ rest) s e' (leads rest f) in
        let n : k + length c.path + length path ≡ k + length (c.path ++ path) = omega (arith, length-append c.path path) in
        subst (λ n. Reaches (q >>= h) us at seen n) n
        (reaches_bind us at seen (k + length c.path) (k + length c.path + length path) r
        (λ a seen1. (hh a).reads us rest (k + length c.path) seen1 (drop_path k us c.path (path ++ rest) e') f));
  }

  -- q has read, and what follows can be completed
  completion_back : Tame q → (ts : List Lexed) (at seen k : ℕ) (a : A) (at1 seen1 : ℕ) → q ts at seen ≡ Done a at1 seen1 → seen1 ≤ k →
      Completion F (h a) ts at1 seen1 k → Completion F (q >>= h) ts at seen k
  unfolding bind
  completion_back hq ts at seen k a at1 seen1 e l c = record {
    path = c.path;
    reads = λ us rest s d f.
        let r = c.reads us rest s d f in
        let lt : seen_of (q ts at seen) ≤ k = rw e l in
        let same = hq.local ts us at seen (same_less _ k ts us lt s) ∙ e in
        record { tree = r.tree; seen1 = r.seen1; is = ap (λ o. and_then o (λ a at1 seen1. h a us at1 seen1)) same ∙ r.is };
  }

  module _ (p : Parser A) (g : A → Parser B) (hp : Viable G p q) (hg : (a : A) → Viable F (g a) (h a)) (hf : (a : A) → Finishes F path (h a)) where
    after_grows : (ts : List Lexed) (o : Outcome A) → (and_then o (λ a at1 seen1. h a ts at1 seen1) ≡ and_then o (λ a at1 seen1. g a ts at1 seen1)) ⊎ IsPast (and_then o (λ a at1 seen1. g a ts at1 seen1))
    after_grows ts (Done a at seen) = (hg a).grows.same ts at seen
    after_grows ts (Stop seen) = inl refl
    after_grows ts (Past code place seen) = inr tt

    after_past : (ts : List Lexed) (o : Outcome A) → IsPast o → IsPast (and_then o (λ a at1 seen1. g a ts at1 seen1))
    after_past ts (Past code place seen) d = tt
    after_past ts (Done a at seen) d = absurd d
    after_past ts (Stop seen) d = absurd d

    bind_grows : Grows (p >>= g) (q >>= h)
    unfolding bind
    bind_grows = record {
      same = λ ts at seen. elim (hp.grows.same ts at seen) [
        | inl e ↦ elim (after_grows ts (p ts at seen)) [ inl s ↦ inl (ap (λ o. and_then o (λ a at1 seen1. h a ts at1 seen1)) e ∙ s) | inr d ↦ inr d ]
        | inr d ↦ inr (after_past ts (p ts at seen) d)
      ];
    }

    bind_back : (ts : List Lexed) (at seen : ℕ) (a : A) (at1 seen1 : ℕ) → q ts at seen ≡ Done a at1 seen1 → ((k : ℕ) → seen1 ≡ k + 1 → seen ≤ k → Completion G q ts at seen k) →
        (k seen2 : ℕ) → seen1 ≤ seen2 → (seen1 ≤ k → Completion F (h a) ts at1 seen1 k) → seen2 ≡ k + 1 → seen ≤ k → Completion F (q >>= h) ts at seen k
    bind_back ts at seen a at1 seen1 e c k seen2 r d n l = elim (le_or_lt seen1 k) [
      | inl le ↦ completion_back hp.whole ts at seen k a at1 seen1 e le (d le)
      | inr lt ↦ completion_front hf ts at seen k (c k (omega arith) l)
    ]

    bind_completes : (ts : List Lexed) (at seen : ℕ) (o : Outcome A) → p ts at seen ≡ o → Completes G q ts at seen o →
        Completes F (q >>= h) ts at seen (and_then o (λ a at1 seen1. g a ts at1 seen1))
    unfolding bind
    bind_completes ts at seen (Done a at1 seen1) e c = λ k n l.
        bind_back ts at seen a at1 seen1 (grown p q hp.grows ts at seen (Done a at1 seen1) e (λ d. d)) c k _
        (seen_rises at1 seen1 (g a ts at1 seen1) ((hg a).tame.rises ts at1 seen1)) ((hg a).completes ts at1 seen1 k n) n l
    bind_completes ts at seen (Stop seen1) e c = λ k n l. completion_front hf ts at seen k (c k n l)
    bind_completes ts at seen (Past code place seen1) e c = λ k n l. completion_front hf ts at seen k (c k n l)

    pub viable_bind : Viable F (p >>= g) (q >>= h)
    unfolding bind
    viable_bind = record {
      tame = tame_bind g (λ a. (hg a).tame) p hp.tame;
      whole = tame_bind h (λ a. (hg a).whole) q hp.whole;
      grows = bind_grows;
      completes = λ ts at seen. bind_completes ts at seen (p ts at seen) refl (hp.completes ts at seen);
    }

-- ---- the next token

-- two choices of one kind; what passes a limit may be anything with more room
abbrev pub EachPair : {A : Type 0} → (Parser A → Parser A → Type 0) → Choice A → Choice A → Type 0
EachPair V (Leave p) (Leave q) = V p q
EachPair V (Take p) (Take q) = V p q
EachPair V Refuse Refuse = Unit {0}
EachPair V (Pass code place) d = Each Tame d
EachPair V _ _ = ⊥

each_tame : {A : Type 0} (F : Option Lexed → Type 0) (c d : Choice A) → EachPair (Viable F) c d → Each Tame c
each_tame F (Leave p) (Leave q) v = v.tame
each_tame F (Take p) (Take q) v = v.tame
each_tame F Refuse d v = tt
each_tame F (Pass code place) d v = tt
each_tame F (Leave p) (Take q) v = absurd v
each_tame F (Leave p) Refuse v = absurd v
each_tame F (Leave p) (Pass code place) v = absurd v
each_tame F (Take p) (Leave q) v = absurd v
each_tame F (Take p) Refuse v = absurd v
each_tame F (Take p) (Pass code place) v = absurd v

pub each_whole : {A : Type 0} (F : Option Lexed → Type 0) (c d : Choice A) → EachPair (Viable F) c d → Each Tame d
each_whole F (Leave p) (Leave q) v = v.whole
each_whole F (Take p) (Take q) v = v.whole
each_whole F Refuse Refuse v = tt
each_whole F (Pass code place) d v = v
each_whole F (Leave p) (Take q) v = absurd v
each_whole F (Leave p) Refuse v = absurd v
each_whole F (Leave p) (Pass code place) v = absurd v
each_whole F (Take p) (Leave q) v = absurd v
each_whole F (Take p) Refuse v = absurd v
each_whole F (Take p) (Pass code place) v = absurd v
each_whole F Refuse (Leave q) v = absurd v
each_whole F Refuse (Take q) v = absurd v
each_whole F Refuse (Pass code place) v = absurd v

chosen_grows : {A : Type 0} (F : Option Lexed → Type 0) (x : Option Lexed) (c d : Choice A) → EachPair (Viable F) c d → (ts : List Lexed) (at seen : ℕ) → first (drop at ts) ≡ x →
    (chosen x d ts at seen ≡ chosen x c ts at seen) ⊎ IsPast (chosen x c ts at seen)
chosen_grows F x (Leave p) (Leave q) v ts at seen e = v.grows.same ts at seen
chosen_grows F (Some t) (Take p) (Take q) v ts at seen e = v.grows.same ts (at + 1) seen
chosen_grows F None (Take p) (Take q) v ts at seen e = inl refl
chosen_grows F x Refuse Refuse v ts at seen e = inl refl
chosen_grows F x (Pass code place) d v ts at seen e = inr tt
chosen_grows F x (Leave p) (Take q) v ts at seen e = absurd v
chosen_grows F x (Leave p) Refuse v ts at seen e = absurd v
chosen_grows F x (Leave p) (Pass code place) v ts at seen e = absurd v
chosen_grows F x (Take p) (Leave q) v ts at seen e = absurd v
chosen_grows F x (Take p) Refuse v ts at seen e = absurd v
chosen_grows F x (Take p) (Pass code place) v ts at seen e = absurd v
chosen_grows F x Refuse (Leave q) v ts at seen e = absurd v
chosen_grows F x Refuse (Take q) v ts at seen e = absurd v
chosen_grows F x Refuse (Pass code place) v ts at seen e = absurd v

module _ {A : Type 0} (F : Option Lexed → Type 0) (h : Option Lexed → Choice A) where
  -- what a choice at x does, next does where x stands
  next_is : (us : List Lexed) (at seen : ℕ) (x : Option Lexed) → first (drop at us) ≡ x → next h us at seen ≡ chosen x (h x) us at (max seen (at + 1))
  unfolding next
  next_is us at seen x e = ap (λ x. chosen x (h x) us at (max seen (at + 1))) e

  pub finishes_next_take : (t : Lexed) (path : List Lexed) (q : Parser A) → h (Some t) ≡ Take q → Finishes F path q → Finishes F (t ∷ path) (next h)
  unfolding next
  finishes_next_take t path q e hq = record {
    reads = λ ts rest at seen d g.
        let r = hq.reads ts rest (at + 1) (max seen (at + 1)) (drop_path at ts (t ∷ []) (path ++ rest) d) g in
        let n : at + 1 + length path ≡ at + length (t ∷ path) = omega arith in
        let is = next_is ts at seen (Some t) (ap first d) ∙ ap (λ c. chosen (Some t) c ts at (max seen (at + 1))) e in
        subst (λ n. Reaches (next h) ts at seen n) n (record { tree = r.tree; seen1 = r.seen1; is = is ∙ r.is });
  }

  pub finishes_next_leave : (t : Lexed) (path : List Lexed) (q : Parser A) → h (Some t) ≡ Leave q → Finishes F (t ∷ path) q → Finishes F (t ∷ path) (next h)
  unfolding next
  finishes_next_leave t path q e hq = record {
    reads = λ ts rest at seen d g.
        let r = hq.reads ts rest at (max seen (at + 1)) d g in
        let is = next_is ts at seen (Some t) (ap first d) ∙ ap (λ c. chosen (Some t) c ts at (max seen (at + 1))) e in
        record { tree = r.tree; seen1 = r.seen1; is = is ∙ r.is };
  }

  pub finishes_next_end : (q : Option Lexed → Parser A) → ((x : Option Lexed) → F x → h x ≡ Leave (q x)) → ((x : Option Lexed) → Finishes F [] (q x)) → Finishes F [] (next h)
  unfolding next
  finishes_next_end q e hq = record {
    reads = λ ts rest at seen d g.
        let r = (hq (first rest)).reads ts rest at (max seen (at + 1)) d g in
        let is = next_is ts at seen (first rest) (ap first d) ∙ ap (λ c. chosen (first rest) c ts at (max seen (at + 1))) (e (first rest) g) in
        record { tree = r.tree; seen1 = r.seen1; is = is ∙ r.is };
  }

  module _ (path : List Lexed) (hf : Finishes F path (next h)) (ts : List Lexed) (at seen : ℕ) where
    by_path : Completion F (next h) ts at seen at
    by_path = record { path = path; reads = λ us rest s e g. hf.reads us rest at seen e g }

    -- an inner completion, of what goes on from at1
    by_part : (x : Option Lexed) (q : Parser A) (at1 k : ℕ) → first (drop at ts) ≡ x →
        ((us : List Lexed) → chosen x (h x) us at (max seen (at + 1)) ≡ q us at1 (max seen (at + 1))) → max seen (at + 1) ≤ k →
        Completion F q ts at1 (max seen (at + 1)) k → Completion F (next h) ts at seen k
    by_part x q at1 k e same l c = record {
      path = c.path;
      reads = λ us rest s d g.
          let r = c.reads us rest s d g in
          let there : first (drop at us) ≡ x = s.at at (omega arith) ∙ e in
          record { tree = r.tree; seen1 = r.seen1; is = next_is us at seen x there ∙ (same us ∙ r.is) };
    }

    at_k : (k : ℕ) → max seen (at + 1) ≡ k + 1 → seen ≤ k → Completion F (next h) ts at seen k
    at_k k e l = let n : at ≡ k = omega arith in subst (λ k. Completion F (next h) ts at seen k) n by_path

    part : (x : Option Lexed) (q : Parser A) (at1 : ℕ) → first (drop at ts) ≡ x →
        ((us : List Lexed) → chosen x (h x) us at (max seen (at + 1)) ≡ q us at1 (max seen (at + 1))) →
        (o : Outcome A) → Completes F q ts at1 (max seen (at + 1)) o → Rises at1 (max seen (at + 1)) o → Completes F (next h) ts at seen o
    part x q at1 e same o c r = λ k n l. elim (le_or_lt (max seen (at + 1)) k) [
      | inl le ↦ by_part x q at1 k e same le (c k n le)
      | inr lt ↦ let m = seen_rises at1 (max seen (at + 1)) o r in at_k k (omega arith) l
    ]

    next_completes : (x : Option Lexed) → first (drop at ts) ≡ x → (c d : Choice A) → h x ≡ d → EachPair (Viable F) c d →
        Completes F (next h) ts at seen (chosen x c ts at (max seen (at + 1)))
    unfolding next
    next_completes x e (Leave p) (Leave q) d v = part x q at e (λ us. ap (λ c. chosen x c us at (max seen (at + 1))) d) (p ts at (max seen (at + 1)))
        (v.completes ts at (max seen (at + 1))) (v.tame.rises ts at (max seen (at + 1)))
    next_completes (Some t) e (Take p) (Take q) d v = part (Some t) q (at + 1) e (λ us. ap (λ c. chosen (Some t) c us at (max seen (at + 1))) d) (p ts (at + 1) (max seen (at + 1)))
        (v.completes ts (at + 1) (max seen (at + 1))) (v.tame.rises ts (at + 1) (max seen (at + 1)))
    next_completes None e (Take p) (Take q) d v = at_k
    next_completes x e Refuse Refuse d v = at_k
    next_completes x e (Pass code place) c d v = at_k
    next_completes x e (Leave p) (Take q) d v = absurd v
    next_completes x e (Leave p) Refuse d v = absurd v
    next_completes x e (Leave p) (Pass code place) d v = absurd v
    next_completes x e (Take p) (Leave q) d v = absurd v
    next_completes x e (Take p) Refuse d v = absurd v
    next_completes x e (Take p) (Pass code place) d v = absurd v
    next_completes x e Refuse (Leave q) d v = absurd v
    next_completes x e Refuse (Take q) d v = absurd v
    next_completes x e Refuse (Pass code place) d v = absurd v

  pub viable_next : (f : Option Lexed → Choice A) (path : List Lexed) → Finishes F path (next h) → ((x : Option Lexed) → EachPair (Viable F) (f x) (h x)) → Viable F (next f) (next h)
  unfolding next
  viable_next f path hf v = record {
    tame = tame_next f (λ x. each_tame F (f x) (h x) (v x));
    whole = tame_next h (λ x. each_whole F (f x) (h x) (v x));
    grows = record { same = λ ts at seen. chosen_grows F (first (drop at ts)) (f (first (drop at ts))) (h (first (drop at ts))) (v (first (drop at ts))) ts at (max seen (at + 1)) refl };
    completes = λ ts at seen. next_completes path hf ts at seen (first (drop at ts)) refl (f (first (drop at ts))) (h (first (drop at ts))) refl (v (first (drop at ts)));
  }

-- a limit that the larger one has too
pub pair_fits : {A : Type 0} (F : Option Lexed → Type 0) (a b : Bool) (k : ModuleCode) (x : Option Lexed) (c d : Choice A) → (a ≡ true → b ≡ true) → EachPair (Viable F) c d →
    EachPair (Viable F) (if_fits a k x c) (if_fits b k x d)
pair_fits F true true k x c d l v = v
pair_fits F true false k x c d l v = let e = l refl in cc
pair_fits F false b k x (Leave p) d l v = each_fits Tame b k x d (each_whole F (Leave p) d v)
pair_fits F false b k x (Take p) d l v = each_fits Tame b k x d (each_whole F (Take p) d v)
pair_fits F false true k x Refuse d l v = v
pair_fits F false false k x Refuse Refuse l v = tt
pair_fits F false false k x Refuse (Leave q) l v = absurd v
pair_fits F false false k x Refuse (Take q) l v = absurd v
pair_fits F false false k x Refuse (Pass code place) l v = absurd v
pair_fits F false b k x (Pass other there) d l v = each_fits Tame b k x d v

-- ---- a part that is tried

module _ {A B : Type 0} (F G : Option Lexed → Type 0) (q : Parser B) (h : Option B → Parser A) (path : List Lexed)
    (leads : (rest : List Lexed) → F (first rest) → G (first (path ++ rest))) where
  pub reaches_attempt : (ts : List Lexed) (at seen mid to : ℕ) → Reaches q ts at seen mid → ((b : B) (seen1 : ℕ) → Reaches (h (Some b)) ts mid seen1 to) → Reaches (attempt q h) ts at seen to
  unfolding attempt
  reaches_attempt ts at seen mid to r s =
      let t = s r.tree r.seen1 in
      record { tree = t.tree; seen1 = t.seen1; is = ap (λ o. tried o h ts at) r.is ∙ t.is }

  attempt_front : ((b : B) → Finishes F path (h (Some b))) → (ts : List Lexed) (at seen k : ℕ) → Completion G q ts at seen k → Completion F (attempt q h) ts at seen k
  attempt_front hg ts at seen k c = record {
    path = c.path ++ path;
    reads = λ us rest s e g.
        let e' = e ∙ append_assoc c.path path rest in
        let r = c.reads us (path ++ rest) s e' (leads rest g) in
        let n : k + length c.path + length path ≡ k + length (c.path ++ path) = omega (arith, length-append c.path path) in
        subst (λ n. Reaches (attempt q h) us at seen n) n
        (reaches_attempt us at seen (k + length c.path) (k + length c.path + length path) r
        (λ b seen1. (hg b).reads us rest (k + length c.path) seen1 (drop_path k us c.path (path ++ rest) e') g));
  }

  -- what q did is done again, since all that it looked at is there
  attempt_back : Tame q → (ts : List Lexed) (at seen k : ℕ) (o : Outcome B) → q ts at seen ≡ o → seen_of o ≤ k →
      (p : Parser A) (at1 seen1 : ℕ) → ((us : List Lexed) → tried o h us at ≡ p us at1 seen1) → Completion F p ts at1 seen1 k → Completion F (attempt q h) ts at seen k
  unfolding attempt
  attempt_back hq ts at seen k o e l p at1 seen1 same c = record {
    path = c.path;
    reads = λ us rest s d g.
        let r = c.reads us rest s d g in
        let lt : seen_of (q ts at seen) ≤ k = rw e l in
        let again = hq.local ts us at seen (same_less _ k ts us lt s) ∙ e in
        record { tree = r.tree; seen1 = r.seen1; is = ap (λ o. tried o h us at) again ∙ (same us ∙ r.is) };
  }

  module _ (p : Parser B) (f : Option B → Parser A) (hq : Viable G p q) (hf : (b : Option B) → Viable F (f b) (h b)) (hp : (b : B) → Finishes F path (h (Some b))) where
    tried_grows : (ts : List Lexed) (at : ℕ) (o : Outcome B) → (tried o h ts at ≡ tried o f ts at) ⊎ IsPast (tried o f ts at)
    tried_grows ts at (Done b at1 seen) = (hf (Some b)).grows.same ts at1 seen
    tried_grows ts at (Stop seen) = (hf None).grows.same ts at seen
    tried_grows ts at (Past code place seen) = inr tt

    tried_past : (ts : List Lexed) (at : ℕ) (o : Outcome B) → IsPast o → IsPast (tried o f ts at)
    tried_past ts at (Past code place seen) d = tt
    tried_past ts at (Done b at1 seen) d = absurd d
    tried_past ts at (Stop seen) d = absurd d

    attempt_grows : Grows (attempt p f) (attempt q h)
    unfolding attempt
    attempt_grows = record {
      same = λ ts at seen. elim (hq.grows.same ts at seen) [
        | inl e ↦ elim (tried_grows ts at (p ts at seen)) [ inl s ↦ inl (ap (λ o. tried o h ts at) e ∙ s) | inr d ↦ inr d ]
        | inr d ↦ inr (tried_past ts at (p ts at seen) d)
      ];
    }

    attempt_part : (ts : List Lexed) (at seen : ℕ) (o : Outcome B) → q ts at seen ≡ o → ((k : ℕ) → seen_of o ≡ k + 1 → seen ≤ k → Completion G q ts at seen k) →
        (r : Parser A) (at1 : ℕ) → ((us : List Lexed) → tried o h us at ≡ r us at1 (seen_of o)) →
        (u : Outcome A) → Completes F r ts at1 (seen_of o) u → Rises at1 (seen_of o) u → Completes F (attempt q h) ts at seen u
    attempt_part ts at seen o e c r at1 same u d x = λ k n l. elim (le_or_lt (seen_of o) k) [
      | inl le ↦ attempt_back hq.whole ts at seen k o e le r at1 (seen_of o) same (d k n le)
      | inr lt ↦ let m = seen_rises at1 (seen_of o) u x in attempt_front hp ts at seen k (c k (omega arith) l)
    ]

    attempt_completes : (ts : List Lexed) (at seen : ℕ) (o : Outcome B) → p ts at seen ≡ o → Completes G q ts at seen o → Completes F (attempt q h) ts at seen (tried o f ts at)
    unfolding attempt
    attempt_completes ts at seen (Done b at1 seen1) e c =
        attempt_part ts at seen (Done b at1 seen1) (grown p q hq.grows ts at seen (Done b at1 seen1) e (λ d. d)) c (h (Some b)) at1 (λ us. refl) (f (Some b) ts at1 seen1)
        ((hf (Some b)).completes ts at1 seen1) ((hf (Some b)).tame.rises ts at1 seen1)
    attempt_completes ts at seen (Stop seen1) e c =
        attempt_part ts at seen (Stop seen1) (grown p q hq.grows ts at seen (Stop seen1) e (λ d. d)) c (h None) at (λ us. refl) (f None ts at seen1)
        ((hf None).completes ts at seen1) ((hf None).tame.rises ts at seen1)
    attempt_completes ts at seen (Past code place seen1) e c = λ k n l. attempt_front hp ts at seen k (c k n l)

    pub viable_attempt : Viable F (attempt p f) (attempt q h)
    unfolding attempt
    viable_attempt = record {
      tame = tame_attempt f (λ b. (hf b).tame) p hq.tame;
      whole = tame_attempt h (λ b. (hf b).whole) q hq.whole;
      grows = attempt_grows;
      completes = λ ts at seen. attempt_completes ts at seen (p ts at seen) refl (hq.completes ts at seen);
    }

-- ---- a part that is looked at ahead

-- Where q reads something and then the path stands, h true reads both from where q began.
module _ {A B : Type 0} (F G : Option Lexed → Type 0) (q : Parser B) (h : Bool → Parser A) (path : List Lexed)
    (leads : (rest : List Lexed) → F (first rest) → G (first (path ++ rest)))
    (again : (us rest : List Lexed) (at seen mid : ℕ) → Reaches q us at seen mid → drop mid us ≡ path ++ rest → F (first rest) → (seen1 : ℕ) → Reaches (h true) us at seen1 (mid + length path)) where
  reaches_foresee : (us rest : List Lexed) (at seen mid : ℕ) → Reaches q us at seen mid → drop mid us ≡ path ++ rest → F (first rest) → Reaches (foresee q h) us at seen (mid + length path)
  unfolding foresee
  reaches_foresee us rest at seen mid r e g =
      let t = again us rest at seen mid r e g r.seen1 in
      record { tree = t.tree; seen1 = t.seen1; is = ap (λ o. foreseen o h us at) r.is ∙ t.is }

  foresee_front : (ts : List Lexed) (at seen k : ℕ) → Completion G q ts at seen k → Completion F (foresee q h) ts at seen k
  foresee_front ts at seen k c = record {
    path = c.path ++ path;
    reads = λ us rest s e g.
        let e' = e ∙ append_assoc c.path path rest in
        let r = c.reads us (path ++ rest) s e' (leads rest g) in
        let n : k + length c.path + length path ≡ k + length (c.path ++ path) = omega (arith, length-append c.path path) in
        subst (λ n. Reaches (foresee q h) us at seen n) n
        (reaches_foresee us rest at seen (k + length c.path) r (drop_path k us c.path (path ++ rest) e') g);
  }

  -- what q did is done again, since all that it looked at is there
  foresee_back : Tame q → (ts : List Lexed) (at seen k : ℕ) (o : Outcome B) → q ts at seen ≡ o → seen_of o ≤ k →
      (p : Parser A) (seen1 : ℕ) → ((us : List Lexed) → foreseen o h us at ≡ p us at seen1) → Completion F p ts at seen1 k → Completion F (foresee q h) ts at seen k
  unfolding foresee
  foresee_back hq ts at seen k o e l p seen1 same c = record {
    path = c.path;
    reads = λ us rest s d g.
        let r = c.reads us rest s d g in
        let lt : seen_of (q ts at seen) ≤ k = rw e l in
        let again = hq.local ts us at seen (same_less _ k ts us lt s) ∙ e in
        record { tree = r.tree; seen1 = r.seen1; is = ap (λ o. foreseen o h us at) again ∙ (same us ∙ r.is) };
  }

  module _ (p : Parser B) (f : Bool → Parser A) (hq : Viable G p q) (hf : (b : Bool) → Viable F (f b) (h b)) where
    foreseen_grows : (ts : List Lexed) (at : ℕ) (o : Outcome B) → (foreseen o h ts at ≡ foreseen o f ts at) ⊎ IsPast (foreseen o f ts at)
    foreseen_grows ts at (Done b at1 seen) = (hf true).grows.same ts at seen
    foreseen_grows ts at (Stop seen) = (hf false).grows.same ts at seen
    foreseen_grows ts at (Past code place seen) = inr tt

    foreseen_past : (ts : List Lexed) (at : ℕ) (o : Outcome B) → IsPast o → IsPast (foreseen o f ts at)
    foreseen_past ts at (Past code place seen) d = tt
    foreseen_past ts at (Done b at1 seen) d = absurd d
    foreseen_past ts at (Stop seen) d = absurd d

    foresee_grows : Grows (foresee p f) (foresee q h)
    unfolding foresee
    foresee_grows = record {
      same = λ ts at seen. elim (hq.grows.same ts at seen) [
        | inl e ↦ elim (foreseen_grows ts at (p ts at seen)) [ inl s ↦ inl (ap (λ o. foreseen o h ts at) e ∙ s) | inr d ↦ inr d ]
        | inr d ↦ inr (foreseen_past ts at (p ts at seen) d)
      ];
    }

    foresee_part : (ts : List Lexed) (at seen : ℕ) (o : Outcome B) → q ts at seen ≡ o → ((k : ℕ) → seen_of o ≡ k + 1 → seen ≤ k → Completion G q ts at seen k) →
        (r : Parser A) → ((us : List Lexed) → foreseen o h us at ≡ r us at (seen_of o)) →
        (u : Outcome A) → Completes F r ts at (seen_of o) u → Rises at (seen_of o) u → Completes F (foresee q h) ts at seen u
    foresee_part ts at seen o e c r same u d x = λ k n l. elim (le_or_lt (seen_of o) k) [
      | inl le ↦ foresee_back hq.whole ts at seen k o e le r (seen_of o) same (d k n le)
      | inr lt ↦ let m = seen_rises at (seen_of o) u x in foresee_front ts at seen k (c k (omega arith) l)
    ]

    foresee_completes : (ts : List Lexed) (at seen : ℕ) (o : Outcome B) → p ts at seen ≡ o → Completes G q ts at seen o → Completes F (foresee q h) ts at seen (foreseen o f ts at)
    unfolding foresee
    foresee_completes ts at seen (Done b at1 seen1) e c =
        foresee_part ts at seen (Done b at1 seen1) (grown p q hq.grows ts at seen (Done b at1 seen1) e (λ d. d)) c (h true) (λ us. refl) (f true ts at seen1)
        ((hf true).completes ts at seen1) ((hf true).tame.rises ts at seen1)
    foresee_completes ts at seen (Stop seen1) e c =
        foresee_part ts at seen (Stop seen1) (grown p q hq.grows ts at seen (Stop seen1) e (λ d. d)) c (h false) (λ us. refl) (f false ts at seen1)
        ((hf false).completes ts at seen1) ((hf false).tame.rises ts at seen1)
    foresee_completes ts at seen (Past code place seen1) e c = λ k n l. foresee_front ts at seen k (c k n l)

    pub viable_foresee : Viable F (foresee p f) (foresee q h)
    unfolding foresee
    viable_foresee = record {
      tame = tame_foresee f (λ b. (hf b).tame) p hq.tame;
      whole = tame_foresee h (λ b. (hf b).whole) q hq.whole;
      grows = foresee_grows;
      completes = λ ts at seen. foresee_completes ts at seen (p ts at seen) refl (hq.completes ts at seen);
    }

-- ---- turns

module _ {A : Type 0} (F G : Option Lexed → Type 0) (leads : (x : Option Lexed) → F x → G x) (goes : Option Lexed → Bool) (ends : (x : Option Lexed) → F x → goes x ≡ false)
    (again : A → Parser A) where
  turn_false : (b : Bool) (c : Choice A) (a : A) → b ≡ false → turn b c a ≡ Leave (pure a)
  turn_false b c a e = ap (λ b. turn b c a) e

  pub finishes_turns : (n : ℕ) (a : A) → Finishes F [] (turns goes again n a)
  unfolding turns
  finishes_turns zero a = finishes_next_end F (λ x. turn (goes x) (Pass code.TooLong (place_of x)) a) (λ x. pure a)
      (λ x l. turn_false (goes x) (Pass code.TooLong (place_of x)) a (ends x l)) (λ x. finishes_pure F a)
  finishes_turns (suc n) a = finishes_next_end F (λ x. turn (goes x) (Leave (again a >>= turns goes again n)) a) (λ x. pure a)
      (λ x l. turn_false (goes x) (Leave (again a >>= turns goes again n)) a (ends x l)) (λ x. finishes_pure F a)

  pair_turn : (b : Bool) (c d : Choice A) (a : A) → EachPair (Viable F) c d → EachPair (Viable F) (turn b c a) (turn b d a)
  pair_turn true c d a v = v
  pair_turn false c d a v = viable_pure F a

  pub viable_turns : (more : A → Parser A) → ((a : A) → Viable G (more a) (again a)) → (n m : ℕ) → n ≤ m → (a : A) → Viable F (turns goes more n a) (turns goes again m a)
  unfolding turns
  viable_turns more v zero zero l a = viable_next F (λ x. turn (goes x) (Pass code.TooLong (place_of x)) a) (λ x. turn (goes x) (Pass code.TooLong (place_of x)) a) []
      (finishes_turns zero a) (λ x. pair_turn (goes x) (Pass code.TooLong (place_of x)) (Pass code.TooLong (place_of x)) a tt)
  viable_turns more v zero (suc m) l a = viable_next F (λ x. turn (goes x) (Leave (again a >>= turns goes again m)) a) (λ x. turn (goes x) (Pass code.TooLong (place_of x)) a) []
      (finishes_turns (suc m) a) (λ x. pair_turn (goes x) (Pass code.TooLong (place_of x)) (Leave (again a >>= turns goes again m)) a
      (tame_bind (turns goes again m) (tame_turns goes again (λ a. (v a).whole) m) (again a) (v a).whole))
  viable_turns more v (suc n) zero l a = absurd (omega arith)
  viable_turns more v (suc n) (suc m) l a = viable_next F (λ x. turn (goes x) (Leave (again a >>= turns goes again m)) a) (λ x. turn (goes x) (Leave (more a >>= turns goes more n)) a) []
      (finishes_turns (suc m) a) (λ x. pair_turn (goes x) (Leave (more a >>= turns goes more n)) (Leave (again a >>= turns goes again m)) a
      (viable_bind F G (again a) (turns goes again m) [] (λ rest. leads (first rest)) (more a) (turns goes more n) (v a) (viable_turns more v n m (omega arith)) (finishes_turns m)))

-- one turn, which reads the path
pub finishes_turns_once : {A : Type 0} (F G : Option Lexed → Type 0) (leads : (x : Option Lexed) → F x → G x) (goes : Option Lexed → Bool) (ends : (x : Option Lexed) → F x → goes x ≡ false)
    (more : A → Parser A) (n : ℕ) (a : A) (t : Lexed) (path : List Lexed) → goes (Some t) ≡ true → Finishes G (t ∷ path) (more a) → Finishes F (t ∷ path) (turns goes more (suc n) a)
unfolding turns
finishes_turns_once F G leads goes ends more n a t path e h =
    finishes_next_leave F (λ x. turn (goes x) (Leave (more a >>= turns goes more n)) a) t path (more a >>= turns goes more n) (ap (λ b. turn b (Leave (more a >>= turns goes more n)) a) e)
    (subst (λ path. Finishes F path (more a >>= turns goes more n)) (append-nil (t ∷ path))
    (finishes_bind F G (more a) (turns goes more n) [] (λ rest. leads (first rest)) (t ∷ path) h (finishes_turns F G leads goes ends more n)))

-- ---- more tokens may follow than are asked for

module _ {A : Type 0} (F G : Option Lexed → Type 0) (narrow : (x : Option Lexed) → F x → G x) where
  narrow_completion : (q : Parser A) (ts : List Lexed) (at seen k : ℕ) → Completion G q ts at seen k → Completion F q ts at seen k
  narrow_completion q ts at seen k c = record { path = c.path; reads = λ us rest s e f. c.reads us rest s e (narrow (first rest) f) }

  pub viable_narrow : (p q : Parser A) → Viable G p q → Viable F p q
  viable_narrow p q h = record { tame = h.tame; whole = h.whole; grows = h.grows; completes = λ ts at seen k n l. narrow_completion q ts at seen k (h.completes ts at seen k n l) }

  pub finishes_narrow : (path : List Lexed) (q : Parser A) → Finishes G path q → Finishes F path q
  finishes_narrow path q h = record { reads = λ ts rest at seen e f. h.reads ts rest at seen e (narrow (first rest) f) }

-- ---- both at once: it is viable, and where this path stands the larger one reads the path

pub record Ready {A : Type 0} (F : Option Lexed → Type 0) (path : List Lexed) (p q : Parser A) : Type 0 where
  pub viable : Viable F p q
  pub finishes : Finishes F path q

pub ready_pure : {A : Type 0} (F : Option Lexed → Type 0) (a : A) → Ready F [] (pure a) (pure a)
ready_pure F a = record { viable = viable_pure F a; finishes = finishes_pure F a }

pub ready_bind : {A B : Type 0} (F G : Option Lexed → Type 0) (front path : List Lexed) (p q : Parser A) (g h : A → Parser B) →
    ((rest : List Lexed) → F (first rest) → G (first (path ++ rest))) → Ready G front p q → ((a : A) → Ready F path (g a) (h a)) → Ready F (front ++ path) (p >>= g) (q >>= h)
ready_bind F G front path p q g h leads hp hg = record {
  viable = viable_bind F G q h path leads p g hp.viable (λ a. (hg a).viable) (λ a. (hg a).finishes);
  finishes = finishes_bind F G q h path leads front hp.finishes (λ a. (hg a).finishes);
}

-- the last step is pure
pub ready_last : {A B : Type 0} (F : Option Lexed → Type 0) (path : List Lexed) (p q : Parser A) (g : A → B) → Ready F path p q → Ready F path (p >>= (λ a. pure (g a))) (q >>= (λ a. pure (g a)))
ready_last F path p q g hp = subst (λ path. Ready F path (p >>= (λ a. pure (g a))) (q >>= (λ a. pure (g a)))) (append-nil path)
    (ready_bind F F path [] p q (λ a. pure (g a)) (λ a. pure (g a)) (λ rest f. f) hp (λ a. ready_pure F (g a)))

pub ready_turns : {A : Type 0} (F G : Option Lexed → Type 0) (goes : Option Lexed → Bool) (more again : A → Parser A) (n m : ℕ) (a : A) → n ≤ m → ((x : Option Lexed) → F x → G x) →
    ((x : Option Lexed) → F x → goes x ≡ false) → ((a : A) → Viable G (more a) (again a)) → Ready F [] (turns goes more n a) (turns goes again m a)
ready_turns F G goes more again n m a l leads ends h = record {
  viable = viable_turns F G leads goes ends again more h n m l a;
  finishes = finishes_turns F G leads goes ends again m a;
}

-- a part that is read, and what it leads to
pub finishes_attempt : {A B : Type 0} (F G : Option Lexed → Type 0) (front path : List Lexed) (q : Parser B) (h : Option B → Parser A) →
    ((rest : List Lexed) → F (first rest) → G (first (path ++ rest))) → Finishes G front q → ((b : B) → Finishes F path (h (Some b))) → Finishes F (front ++ path) (attempt q h)
finishes_attempt F G front path q h leads hq hf = record {
  reads = λ ts rest at seen e g.
      let e' = e ∙ append_assoc front path rest in
      let r = hq.reads ts (path ++ rest) at seen e' (leads rest g) in
      let n : at + length front + length path ≡ at + length (front ++ path) = omega (arith, length-append front path) in
      subst (λ n. Reaches (attempt q h) ts at seen n) n
      (reaches_attempt F G q h path leads ts at seen (at + length front) (at + length front + length path) r
      (λ b seen1. (hf b).reads ts rest (at + length front) seen1 (drop_path at ts front (path ++ rest) e') g));
}
