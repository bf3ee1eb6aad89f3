-- Limits that are broken stand in the order of the tokens, and the first goes first.
use Rattle.std.proofs.Common.{Bool, true, false, ◌≡◌, ℕ, zero, suc, ◌+◌, ◌≤◌, ◌<◌, ◌⊎◌, inl, inr, List, [], ◌∷◌, ◌++◌, drop, Option, Some, None, refl, ap, subst, arith}
use Rattle.std.specs.Prelude.{All, nat_lt}
use Rattle.std.proofs.lemmas.List.Elements.{All-nil, All-cons, All-head, All-append, All-weaker}
use Rattle.slang_names.specs.declared.codes.ModuleCode.TheVariants as code
use Rattle.slang_reading.specs.Lexed.{Lexed}
use Rattle.slang_reading.specs.Reading.{first, place_of}
use Rattle.slang_grammar.specs.Descent.{Limits}
use Rattle.expression_limits.specs.Breaks.{Break, GoesFirst, IsFirst, broken, unless, arises, item_behind, item_with}

break_in : Break → Option Break → Break
break_in other (Some b) = b
break_in other None = other

one_break : (b c : Break) → Some b ≡ Some c → b ≡ c
unfolding break_in
one_break b c e = ap (break_in b) e

module _ (ts : List Lexed) where
  -- it stands at a token in that range, at its place, and is of one of the two codes
  abbrev pub StandsIn : ℕ → ℕ → Break → Type 0
  StandsIn from to c = (from ≤ c.at) × (c.at < to) × (c.place ≡ place_of (first (drop c.at ts))) × ((c.code ≡ code.TooNested) ⊎ (c.code ≡ code.TooLong))

  pub record Ordered (from to : ℕ) (bs : List Break) : Type 0 where
    pub all : All (StandsIn from to) bs
    pub leads : (b : Break) → first bs ≡ Some b → All (GoesFirst b) bs

  -- at that token no node is too deep
  abbrev pub Late : ℕ → List Break → Type 0
  Late from bs = All (λ (c : Break). from ≡ c.at → c.code ≡ code.TooLong) bs

  pub ordered_none : (from to : ℕ) → Ordered from to []
  ordered_none from to = record { all = All-nil (StandsIn from to); leads = λ b e. All-nil (GoesFirst b) }

  -- the first of those in order
  pub ordered_first : (from to : ℕ) (b : Break) (bs : List Break) → Ordered from to bs → first bs ≡ Some b → IsFirst ts from to b bs
  ordered_first from to b [] o e = absurd (differ e)
    where
      differ : None ≡ Some b → ⊥
      differ e = cc
  ordered_first from to b (x ∷ xs) o e =
      let h = subst (StandsIn from to) (one_break x b e) (All-head (StandsIn from to) x xs o.all) in
      record { begins = h.0; ends = h.1; place = h.2; leads = o.leads b e }

  pub ordered_wider : (from to low high : ℕ) (bs : List Break) → low ≤ from → to ≤ high → Ordered from to bs → Ordered low high bs
  ordered_wider from to low high bs l h o = record {
    all = All-weaker (StandsIn from to) (StandsIn low high) (λ c s. (let u = s.0 in omega (arith, l, u), let u = s.1 in omega (arith, h, u), s.2, s.3)) bs o.all;
    leads = o.leads;
  }

  -- what stands behind leads nothing before it
  pub far : (from mid to : ℕ) (bs : List Break) → from < mid → All (StandsIn mid to) bs → Late from bs
  far from mid to bs l h = All-weaker (StandsIn mid to) (λ (c : Break). from ≡ c.at → c.code ≡ code.TooLong) (λ c s e. absurd (let u = s.0 in omega (arith, l, u, e))) bs h

  pub late_append : (from : ℕ) (xs ys : List Break) → Late from xs → Late from ys → Late from (xs ++ ys)
  late_append from xs ys h k = All-append (λ (c : Break). from ≡ c.at → c.code ≡ code.TooLong) xs ys h k

  pub late_none : (from : ℕ) → Late from []
  late_none from = All-nil (λ (c : Break). from ≡ c.at → c.code ≡ code.TooLong)

  pub late_long : (from : ℕ) (test : Bool) → Late from (unless ts test code.TooLong from)
  late_long from true = late_none from
  late_long from false = All-cons (λ (c : Break). from ≡ c.at → c.code ≡ code.TooLong) (broken ts code.TooLong from) [] (λ e. refl) (late_none from)

  pub ordered_append : (from mid to : ℕ) (xs ys : List Break) → from ≤ mid → mid ≤ to → Ordered from mid xs → Ordered mid to ys → Ordered from to (xs ++ ys)
  ordered_append from mid to xs ys l h o p = record {
    all = All-append (StandsIn from to) xs ys (All-weaker (StandsIn from mid) (StandsIn from to) (λ c s. (s.0, let u = s.1 in omega (arith, h, u), s.2, s.3)) xs o.all)
        (All-weaker (StandsIn mid to) (StandsIn from to) (λ c s. (let u = s.0 in omega (arith, l, u), s.1, s.2, s.3)) ys p.all);
    leads = go xs o;
  }
    where
      go : (xs : List Break) → Ordered from mid xs → (b : Break) → first (xs ++ ys) ≡ Some b → All (GoesFirst b) (xs ++ ys)
      go [] o b e = p.leads b e
      go (x ∷ xs) o b e =
          let s = subst (StandsIn from mid) (one_break x b e) (All-head (StandsIn from mid) x xs o.all) in
          All-append (GoesFirst b) (x ∷ xs) ys (o.leads b e)
          (All-weaker (StandsIn mid to) (GoesFirst b) (λ c u. let v = s.1 in let w = u.0 in (omega (arith, v, w), λ q. absurd (omega (arith, v, w, q)))) ys p.all)

  -- a node that is too deep goes first of what begins with it
  pub ordered_deep : (from to : ℕ) (bs : List Break) → from < to → All (StandsIn from to) bs → Ordered from to (broken ts code.TooNested from ∷ bs)
  ordered_deep from to bs l h = record { all = all; leads = leads }
    where
      all : All (StandsIn from to) (broken ts code.TooNested from ∷ bs)
      all = All-cons (StandsIn from to) (broken ts code.TooNested from) bs (omega arith, l, refl, inl refl) h

      leads : (b : Break) → Some (broken ts code.TooNested from) ≡ Some b → All (GoesFirst b) (broken ts code.TooNested from ∷ bs)
      leads b e = subst (λ b. All (GoesFirst b) (broken ts code.TooNested from ∷ bs)) (one_break (broken ts code.TooNested from) b e)
          (All-weaker (StandsIn from to) (GoesFirst (broken ts code.TooNested from)) (λ c s. (s.0, λ q. inl refl)) (broken ts code.TooNested from ∷ bs) all)

  pub ordered_node : (from to d : ℕ) (bs : List Break) → from < to → Ordered from to bs → Ordered from to (arises ts from d ++ bs)
  ordered_node from to zero bs l o = ordered_deep from to bs l o.all
  ordered_node from to (suc d) bs l o = o

  pub ordered_arises : (from d : ℕ) → Ordered from (from + 1) (arises ts from d)
  ordered_arises from zero = ordered_deep from (from + 1) [] (omega arith) (All-nil (StandsIn from (from + 1)))
  ordered_arises from (suc d) = ordered_none from (from + 1)

  pub ordered_over : (at : ℕ) (test : Bool) → Ordered at (at + 1) (unless ts test code.TooNested at)
  ordered_over at true = ordered_none at (at + 1)
  ordered_over at false = ordered_deep at (at + 1) [] (omega arith) (All-nil (StandsIn at (at + 1)))

  -- what is too long goes first where no node is too deep
  pub ordered_long : (from to : ℕ) (test : Bool) (bs : List Break) → from < to → Ordered from to bs → Late from bs → Ordered from to (unless ts test code.TooLong from ++ bs)
  ordered_long from to true bs l o h = o
  ordered_long from to false bs l o h = record { all = all; leads = leads }
    where
      all : All (StandsIn from to) (broken ts code.TooLong from ∷ bs)
      all = All-cons (StandsIn from to) (broken ts code.TooLong from) bs (omega arith, l, refl, inr refl) o.all

      rest : All (GoesFirst (broken ts code.TooLong from)) bs
      rest = λ i other lt. let s = o.all i other lt in (s.0, λ q. inr (h i other lt q))

      leads : (b : Break) → Some (broken ts code.TooLong from) ≡ Some b → All (GoesFirst b) (broken ts code.TooLong from ∷ bs)
      leads b e = subst (λ b. All (GoesFirst b) (broken ts code.TooLong from ∷ bs)) (one_break (broken ts code.TooLong from) b e)
          (All-cons (GoesFirst (broken ts code.TooLong from)) (broken ts code.TooLong from) bs (omega arith, λ q. inr refl) rest)

  pub ordered_name : (at : ℕ) (test : Bool) → Ordered at (at + 1) (unless ts test code.TooLong at)
  ordered_name at true = ordered_none at (at + 1)
  ordered_name at false = ordered_long at (at + 1) false [] (omega arith) (ordered_none at (at + 1)) (late_none at)

  pub ordered_item : (limits : Limits) (count from to d : ℕ) (bs : ℕ → List Break) → from < to → ((d : ℕ) → Ordered from to (bs d)) → ((d : ℕ) → Late from (bs (suc d))) → Ordered from to (item_with ts limits count from d (bs d))
  ordered_item limits count from to zero bs l o h =
      ordered_deep from to (item_behind ts limits count from ++ bs zero) l
      (All-append (StandsIn from to) (item_behind ts limits count from) (bs zero) (ordered_wider from (from + 1) from to (item_behind ts limits count from) (omega arith) (omega (arith, l)) (ordered_name from (nat_lt count limits.items))).all (o zero).all)
  ordered_item limits count from to (suc d) bs l o h = ordered_long from to (nat_lt count limits.items) (bs (suc d)) l (o (suc d)) (h d)
