-- What is broken stands in the order of the tokens at which it is known, and the first goes first.
use Rattle.std.proofs.Common.{Bool, true, false, ◌≡◌, ℕ, zero, suc, ◌+◌, ◌≤◌, ◌<◌, ◌⊎◌, inl, inr, List, [], ◌∷◌, ◌++◌, Option, Some, None, refl, sym, ◌∙◌, ap, subst, arith}
use Rattle.std.specs.Prelude.{All, nat_lt}
use Rattle.std.proofs.lemmas.List.Elements.{All-nil, All-cons, All-head, All-tail, All-append, All-weaker}
use Rattle.slang_names.specs.declared.places.Place.{Place}
use Rattle.slang_names.specs.declared.codes.ModuleCode.TheVariants as code
use Rattle.slang_reading.specs.Lexed.{Lexed}
use Rattle.slang_grammar.specs.Descent.{Limits}
use Rattle.slang_reading.specs.Reading.{first}
use Rattle.expression_limits.specs.Breaks as breaks
use Rattle.expression_limits.specs.Breaks.{Break, broken, unless, arises, item_behind, item_with}
use Rattle.expression_limits.proofs.Order as limited
use Rattle.expression_limits.proofs.Order.{Ordered}
use Rattle.statement_limits.specs.Order.{GoesFirst, LiesThere, IsKnownFirst}
use Rattle.statement_limits.specs.Rules.{disobeyed, unless_obeyed}

break_in : Break → Option Break → Break
break_in other (Some b) = b
break_in other None = other

pub one_break : (b c : Break) → Some b ≡ Some c → b ≡ c
unfolding break_in
one_break b c e = ap (break_in b) e

-- a limit of nodes and one of lists and names are two
deep_is_not_long : (b : Break) → b.code ≡ code.TooNested → b.code ≡ code.TooLong → ⊥
deep_is_not_long b e f = let h = sym e ∙ f in cc

rule_is_not_long : (b : Break) → b.code ≡ code.Unsupported → b.code ≡ code.TooLong → ⊥
rule_is_not_long b e f = let h = sym e ∙ f in cc

rule_is_not_deep : (b : Break) → b.code ≡ code.Unsupported → b.code ≡ code.TooNested → ⊥
rule_is_not_deep b e f = let h = sym e ∙ f in cc

-- rules on attributes that are known at that token
abbrev pub Rules : ℕ → List Break → Type 0
Rules at bs = All (λ (c : Break). (c.at ≡ at) × (c.code ≡ code.Unsupported)) bs

pub rules_none : (at : ℕ) → Rules at []
rules_none at = All-nil (λ (c : Break). (c.at ≡ at) × (c.code ≡ code.Unsupported))

pub rules_append : (at : ℕ) (xs ys : List Break) → Rules at xs → Rules at ys → Rules at (xs ++ ys)
rules_append at xs ys h k = All-append (λ (c : Break). (c.at ≡ at) × (c.code ≡ code.Unsupported)) xs ys h k

pub rules_obeyed : (at : ℕ) (test : Bool) (place : Place) → Rules at (unless_obeyed test place at)
rules_obeyed at true place = rules_none at
rules_obeyed at false place = All-cons (λ (c : Break). (c.at ≡ at) × (c.code ≡ code.Unsupported)) (disobeyed place at) [] (refl, refl) (rules_none at)

-- at that token no node is too deep
abbrev pub Late : ℕ → List Break → Type 0
Late from bs = All (λ (c : Break). from ≡ c.at → c.code ≡ code.TooNested → ⊥) bs

pub late_none : (from : ℕ) → Late from []
late_none from = All-nil (λ (c : Break). from ≡ c.at → c.code ≡ code.TooNested → ⊥)

pub late_append : (from : ℕ) (xs ys : List Break) → Late from xs → Late from ys → Late from (xs ++ ys)
late_append from xs ys h k = All-append (λ (c : Break). from ≡ c.at → c.code ≡ code.TooNested → ⊥) xs ys h k

pub late_rules : (from at : ℕ) (xs : List Break) → Rules at xs → Late from xs
late_rules from at xs h = All-weaker (λ (c : Break). (c.at ≡ at) × (c.code ≡ code.Unsupported)) (λ (c : Break). from ≡ c.at → c.code ≡ code.TooNested → ⊥) (λ c r e. rule_is_not_deep c r.1) xs h

-- what is known behind a token leads nothing at it
pub late_behind : (from : ℕ) (bs : List Break) → All (λ (c : Break). from < c.at) bs → Late from bs
late_behind from bs h = All-weaker (λ (c : Break). from < c.at) (λ (c : Break). from ≡ c.at → c.code ≡ code.TooNested → ⊥) (λ c s e. absurd (omega (arith, s, e))) bs h

module _ (ts : List Lexed) where
  -- it is known at a token in that range
  abbrev pub KnownIn : ℕ → ℕ → Break → Type 0
  KnownIn from to c = (from ≤ c.at) × (c.at < to) × LiesThere ts c

  pub record Known (from to : ℕ) (bs : List Break) : Type 0 where
    pub goes : from ≤ to
    pub all : All (KnownIn from to) bs
    pub leads : (b : Break) → first bs ≡ Some b → All (GoesFirst b) bs

  pub known_none : (from to : ℕ) → from ≤ to → Known from to []
  known_none from to l = record { goes = l; all = All-nil (KnownIn from to); leads = λ b e. All-nil (GoesFirst b) }

  -- the first of those in order
  pub known_first : (from to : ℕ) (b : Break) (bs : List Break) → Known from to bs → first bs ≡ Some b → IsKnownFirst ts from to b bs
  known_first from to b [] o e = absurd (differ e)
    where
      differ : None ≡ Some b → ⊥
      differ e = cc
  known_first from to b (x ∷ xs) o e =
      let h = subst (KnownIn from to) (one_break x b e) (All-head (KnownIn from to) x xs o.all) in
      record { begins = h.0; ends = h.1; lies = h.2; leads = o.leads b e }

  wider_all : (from to low high : ℕ) (bs : List Break) → low ≤ from → to ≤ high → All (KnownIn from to) bs → All (KnownIn low high) bs
  wider_all from to low high bs l h = All-weaker (KnownIn from to) (KnownIn low high) (λ c s. (let u = s.0 in omega (arith, l, u), let u = s.1 in omega (arith, h, u), s.2)) bs

  pub known_wider : (from to low high : ℕ) {bs : List Break} → low ≤ from → to ≤ high → Known from to bs → Known low high bs
  known_wider from to low high {bs = bs} l h o = record { goes = let u = o.goes in omega (arith, l, h, u); all = wider_all from to low high bs l h o.all; leads = o.leads }

  -- what follows does not begin at that token
  pub far : (from mid to : ℕ) {bs : List Break} → from < mid → Known mid to bs → Late from bs
  far from mid to {bs = bs} l o = late_behind from bs (All-weaker (KnownIn mid to) (λ (c : Break). from < c.at) (λ c s. let u = s.0 in omega (arith, l, u)) bs o.all)

  pub known_append : (from mid to : ℕ) {xs ys : List Break} → Known from mid xs → Known mid to ys → Known from to (xs ++ ys)
  known_append from mid to {xs = xs} {ys = ys} o p = record {
    goes = let u = o.goes in let v = p.goes in omega (arith, u, v);
    all = All-append (KnownIn from to) xs ys (wider_all from mid from to xs (omega arith) p.goes o.all) (wider_all mid to from to ys o.goes (omega arith) p.all);
    leads = go xs o;
  }
    where
      go : (xs : List Break) → Known from mid xs → (b : Break) → first (xs ++ ys) ≡ Some b → All (GoesFirst b) (xs ++ ys)
      go [] o b e = p.leads b e
      go (x ∷ xs) o b e =
          let s = subst (KnownIn from mid) (one_break x b e) (All-head (KnownIn from mid) x xs o.all) in
          All-append (GoesFirst b) (x ∷ xs) ys (o.leads b e)
          (All-weaker (KnownIn mid to) (GoesFirst b) (λ c u. let v = s.1 in let w = u.0 in (omega (arith, v, w), λ q. absurd (omega (arith, v, w, q)))) ys p.all)

  -- what only breaks limits
  pub known_limits : (from to : ℕ) {bs : List Break} → from ≤ to → Ordered ts from to bs → Known from to bs
  known_limits from to {bs = bs} l o = record {
    goes = l;
    all = All-weaker (limited.StandsIn ts from to) (KnownIn from to) (λ c s. (s.0, s.1, inr (s.3, s.2))) bs o.all;
    leads = λ b e. All-weaker (breaks.GoesFirst b) (GoesFirst b) (λ c g. (g.0, λ q f k. by b c (g.1 q) f k)) bs (o.leads b e);
  }
    where
      by : (b c : Break) → (b.code ≡ code.TooNested) ⊎ (c.code ≡ code.TooLong) → c.code ≡ code.TooNested → b.code ≡ code.TooLong → ⊥
      by b c (inl e) f k = deep_is_not_long b e k
      by b c (inr e) f k = deep_is_not_long c f e

  -- what goes first of what is known from its token on, where no node is too deep at it unless the one before is
  known_lead : (from to : ℕ) (b : Break) (bs : List Break) → b.at ≡ from → from < to → LiesThere ts b → All (KnownIn from to) bs → ((c : Break) → from ≡ c.at → c.code ≡ code.TooNested → b.code ≡ code.TooLong → ⊥) → Known from to (b ∷ bs)
  known_lead from to b bs q l s o h = record { goes = omega (arith, l); all = all; leads = leads }
    where
      all : All (KnownIn from to) (b ∷ bs)
      all = All-cons (KnownIn from to) b bs (omega (arith, q), omega (arith, q, l), s) o

      leads : (x : Break) → Some b ≡ Some x → All (GoesFirst x) (b ∷ bs)
      leads x e = subst (λ x. All (GoesFirst x) (b ∷ bs)) (one_break b x e)
          (All-weaker (KnownIn from to) (GoesFirst b) (λ c u. (let v = u.0 in omega (arith, q, v), λ r. h c (sym q ∙ r))) (b ∷ bs) all)

  -- a node that is too deep goes first of what begins with it
  pub known_node : (from to d : ℕ) {bs : List Break} → from < to → Known from to bs → Known from to (arises ts from d ++ bs)
  known_node from to zero {bs = bs} l o = let b = broken ts code.TooNested from in known_lead from to b bs refl l (inr (inl refl, refl)) o.all (λ c e f k. deep_is_not_long b refl k)
  known_node from to (suc d) l o = o

  pub known_arises : (from d : ℕ) → Known from (from + 1) (arises ts from d)
  known_arises from zero = let b = broken ts code.TooNested from in known_lead from (from + 1) b [] refl (omega arith) (inr (inl refl, refl)) (All-nil (KnownIn from (from + 1))) (λ c e f k. deep_is_not_long b refl k)
  known_arises from (suc d) = known_none from (from + 1) (omega arith)

  -- what is too long goes first where no node is too deep
  pub known_long : (from to : ℕ) (test : Bool) {bs : List Break} → from < to → Known from to bs → Late from bs → Known from to (unless ts test code.TooLong from ++ bs)
  known_long from to true l o h = o
  known_long from to false {bs = bs} l o h = record { goes = o.goes; all = all; leads = leads }
    where
      all : All (KnownIn from to) (broken ts code.TooLong from ∷ bs)
      all = All-cons (KnownIn from to) (broken ts code.TooLong from) bs (omega arith, l, inr (inr refl, refl)) o.all

      rest : All (GoesFirst (broken ts code.TooLong from)) bs
      rest = λ i other lt. let s = o.all i other lt in (s.0, λ q f k. h i other lt q f)

      leads : (x : Break) → Some (broken ts code.TooLong from) ≡ Some x → All (GoesFirst x) (broken ts code.TooLong from ∷ bs)
      leads x e = subst (λ x. All (GoesFirst x) (broken ts code.TooLong from ∷ bs)) (one_break (broken ts code.TooLong from) x e)
          (All-cons (GoesFirst (broken ts code.TooLong from)) (broken ts code.TooLong from) bs (omega arith, λ q f k. deep_is_not_long (broken ts code.TooLong from) f refl) rest)

  pub known_name : (at : ℕ) (test : Bool) → Known at (at + 1) (unless ts test code.TooLong at)
  known_name at true = known_none at (at + 1) (omega arith)
  known_name at false = known_long at (at + 1) false (omega arith) (known_none at (at + 1) (omega arith)) (late_none at)

  -- rules that are known at a token go first of what follows from it on
  pub known_rules : (at to : ℕ) (xs : List Break) {ys : List Break} → at < to → Rules at xs → Known at to ys → Known at to (xs ++ ys)
  known_rules at to xs {ys = ys} l h o = go xs h
    where
      go : (xs : List Break) → Rules at xs → Known at to (xs ++ ys)
      go [] h = o
      go (x ∷ xs) h =
          let r = All-head (λ (c : Break). (c.at ≡ at) × (c.code ≡ code.Unsupported)) x xs h in
          known_lead at to x (xs ++ ys) r.0 l (inl r.1) (go xs (All-tail (λ (c : Break). (c.at ≡ at) × (c.code ≡ code.Unsupported)) x xs h)).all (λ c e f k. rule_is_not_long x r.1 k)

  pub known_rule : (at : ℕ) (test : Bool) (place : Place) → Known at (at + 1) (unless_obeyed test place at)
  known_rule at true place = known_none at (at + 1) (omega arith)
  known_rule at false place = known_rules at (at + 1) (disobeyed place at ∷ []) (omega arith) (rules_obeyed at false place) (known_none at (at + 1) (omega arith))

  -- an item that begins with a node, of which none is too deep at its first token with room for one
  pub known_item : (limits : Limits) (count from to d : ℕ) (bs : ℕ → List Break) → from < to → ((d : ℕ) → Known from to (bs d)) → ((d : ℕ) → Late from (bs (suc d))) → Known from to (item_with ts limits count from d (bs d))
  known_item limits count from to zero bs l o h =
      let b = broken ts code.TooNested from in
      let long = known_wider from (from + 1) from to (omega arith) (omega (arith, l)) (known_name from (nat_lt count limits.items)) in
      known_lead from to b (item_behind ts limits count from ++ bs zero) refl l (inr (inl refl, refl))
      (All-append (KnownIn from to) (item_behind ts limits count from) (bs zero) long.all (o zero).all) (λ c e f k. deep_is_not_long b refl k)
  known_item limits count from to (suc d) bs l o h = known_long from to (nat_lt count limits.items) l (o (suc d)) (h d)
