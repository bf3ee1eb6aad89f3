-- Where a search for a set and a binding ends among buffers that ascend.
use Rattle.std.proofs.Common.{◌≡◌, ℕ, zero, suc, ◌+◌, ◌<◌, ◌≤◌, ◌⊎◌, inl, inr, List, [], ◌∷◌, length, map, get_or, slice_get, Option, Some, None, refl, sym, ap, ◌∙◌, subst, arith}
use Rattle.std.specs.List.{HoldsAt}
use Rattle.std.specs.List.Sorted.{IsNonDecreasingBy, IsPartitionPoint}
use Rattle.std.specs.declared.cmp.Ordering.{Ordering}
use Rattle.std.specs.declared.cmp.Ordering.TheVariants.{Less, Equal, Greater}
use Rattle.std.specs.Ordering.{nat_cmp, ordering_then, ordering_index}
use Rattle.std.specs.Cmp.{nat_cmp_is}
use Rattle.std.proofs.lemmas.Option.{slice_get_within, get_or_from_slice_get, slice_get-get_or}
use Rattle.run_plans.specs.declared.base.Bound.{Bound}
use Rattle.run_plans.specs.Plans.{number_in}
use Rattle.run_plans.specs.Ground.{pair_of}
use Rattle.run_plans.specs.Buffers.{IsBefore, Ascends}
use Rattle.run_plans.proofs.Ascending.{order, compared}
use Rattle.run_plans.proofs.Ordered.{number_is, both_of, behind_first}
use Rattle.run_plans.proofs.Placed.{some_same}

-- ---- orders

then_less : (a b : ℕ) (o : Ordering) → a < b → ordering_then (nat_cmp a b) o ≡ Less
then_less a b o l = ap (λ c. ordering_then c o) (sym (nat_cmp_is a b Less l))

then_greater : (a b : ℕ) (o : Ordering) → b < a → ordering_then (nat_cmp a b) o ≡ Greater
then_greater a b o l = ap (λ c. ordering_then c o) (sym (nat_cmp_is a b Greater l))

then_same : (a b : ℕ) (o : Ordering) → a ≡ b → ordering_then (nat_cmp a b) o ≡ o
then_same a b o e = ap (λ c. ordering_then c o) (sym (nat_cmp_is a b Equal e))

not_equal : Less ≡ Equal → ⊥
not_equal e = cc

not_greater : Greater ≡ Equal → ⊥
not_greater e = cc

not_both : Less ≡ Greater → ⊥
not_both e = cc

-- of two of which one stands before the other, the first is below a third, or the second is above it
apart : (a b l : Bound) → IsBefore a b → (order a l ≡ Less) ⊎ (order b l ≡ Greater)
apart a b l (inl h) = by (compared a.set l.set)
  where
    by : (a.set < l.set) ⊎ ((a.set ≡ l.set) ⊎ (l.set < a.set)) → (order a l ≡ Less) ⊎ (order b l ≡ Greater)
    by (inl k) = inl (then_less a.set l.set (ordering_then (nat_cmp a.binding l.binding) (nat_cmp a.words l.words)) k)
    by (inr (inl e)) = inr (then_greater b.set l.set (ordering_then (nat_cmp b.binding l.binding) (nat_cmp b.words l.words)) (omega arith))
    by (inr (inr g)) = inr (then_greater b.set l.set (ordering_then (nat_cmp b.binding l.binding) (nat_cmp b.words l.words)) (omega arith))
apart a b l (inr h) = by (compared a.set l.set) (compared a.binding l.binding)
  where
    same : a.set ≡ b.set
    same = h.0

    below : a.binding < b.binding
    below = h.1

    by : (a.set < l.set) ⊎ ((a.set ≡ l.set) ⊎ (l.set < a.set)) → (a.binding < l.binding) ⊎ ((a.binding ≡ l.binding) ⊎ (l.binding < a.binding))
        → (order a l ≡ Less) ⊎ (order b l ≡ Greater)
    by (inl k) c = inl (then_less a.set l.set (ordering_then (nat_cmp a.binding l.binding) (nat_cmp a.words l.words)) k)
    by (inr (inr g)) c =
        inr (then_greater b.set l.set (ordering_then (nat_cmp b.binding l.binding) (nat_cmp b.words l.words)) (omega (arith, same)))
    by (inr (inl e)) (inl k) =
        inl (then_same a.set l.set (ordering_then (nat_cmp a.binding l.binding) (nat_cmp a.words l.words)) e
        ∙ then_less a.binding l.binding (nat_cmp a.words l.words) k)
    by (inr (inl e)) (inr (inl f)) =
        inr (then_same b.set l.set (ordering_then (nat_cmp b.binding l.binding) (nat_cmp b.words l.words)) (sym same ∙ e)
        ∙ then_greater b.binding l.binding (nat_cmp b.words l.words) (omega (arith, below, f)))
    by (inr (inl e)) (inr (inr g)) =
        inr (then_same b.set l.set (ordering_then (nat_cmp b.binding l.binding) (nat_cmp b.words l.words)) (sym same ∙ e)
        ∙ then_greater b.binding l.binding (nat_cmp b.words l.words) (omega (arith, below, g)))

-- what compares as equal has the set and the binding
equal_pair : (a l : Bound) → order a l ≡ Equal → (a.set ≡ l.set) × (a.binding ≡ l.binding)
equal_pair a l h = by (compared a.set l.set) (compared a.binding l.binding)
  where
    rest : Ordering
    rest = ordering_then (nat_cmp a.binding l.binding) (nat_cmp a.words l.words)

    by : (a.set < l.set) ⊎ ((a.set ≡ l.set) ⊎ (l.set < a.set)) → (a.binding < l.binding) ⊎ ((a.binding ≡ l.binding) ⊎ (l.binding < a.binding))
        → (a.set ≡ l.set) × (a.binding ≡ l.binding)
    by (inl k) c = absurd (not_equal (sym (then_less a.set l.set rest k) ∙ h))
    by (inr (inr g)) c = absurd (not_greater (sym (then_greater a.set l.set rest g) ∙ h))
    by (inr (inl e)) (inl k) =
        absurd (not_equal (sym (then_same a.set l.set rest e ∙ then_less a.binding l.binding (nat_cmp a.words l.words) k) ∙ h))
    by (inr (inl e)) (inr (inl f)) = (e, f)
    by (inr (inl e)) (inr (inr g)) =
        absurd (not_greater (sym (then_same a.set l.set rest e ∙ then_greater a.binding l.binding (nat_cmp a.words l.words) g) ∙ h))

-- what has the set and the binding is not below the least with them
at_least : (b : Bound) (set binding : ℕ) → b.set ≡ set → b.binding ≡ binding → order b (record { set = set; binding = binding; words = 0 }) ≡ Less → ⊥
at_least b set binding e f h =
    by (compared b.words 0)
  where
    whole : order b (record { set = set; binding = binding; words = 0 }) ≡ nat_cmp b.words 0
    whole =
        then_same b.set set (ordering_then (nat_cmp b.binding binding) (nat_cmp b.words 0)) e
        ∙ then_same b.binding binding (nat_cmp b.words 0) f

    by : (b.words < 0) ⊎ ((b.words ≡ 0) ⊎ (0 < b.words)) → ⊥
    by (inl k) = omega arith
    by (inr (inl e)) = not_equal (sym h ∙ whole ∙ sym (nat_cmp_is b.words 0 Equal e))
    by (inr (inr g)) = not_both (sym h ∙ whole ∙ sym (nat_cmp_is b.words 0 Greater g))

-- what stands before the one with the set and the binding is below the least with them
before_least : (a b : Bound) (set binding : ℕ) → b.set ≡ set → b.binding ≡ binding → IsBefore a b
    → order a (record { set = set; binding = binding; words = 0 }) ≡ Less
before_least a b set binding e f (inl h) =
    then_less a.set set (ordering_then (nat_cmp a.binding binding) (nat_cmp a.words 0)) (omega (arith, e))
before_least a b set binding e f (inr h) =
    then_same a.set set (ordering_then (nat_cmp a.binding binding) (nat_cmp a.words 0)) (h.0 ∙ e)
    ∙ then_less a.binding binding (nat_cmp a.words 0) (omega (arith, f, h.1))

-- ---- places

no_item : {A : Type 0} (n : ℕ) (a : A) → slice_get {X = A} [] n ≡ Some a → ⊥
no_item n a e = grind arith

far_before : (bs : List Bound) (i j : ℕ) (a b : Bound) → Ascends bs → slice_get bs i ≡ Some a → slice_get bs j ≡ Some b → i < j → IsBefore a b
far_before [] i j a b up e f l = absurd (no_item i a e)
far_before (x ∷ bs) i zero a b up e f l = absurd (omega arith)
far_before (x ∷ bs) zero (suc j) a b up e f l = subst (λ (y : Bound). IsBefore y b) (some_same e) (behind_first x b bs j up f)
far_before (x ∷ bs) (suc i) (suc j) a b up e f l = far_before bs i j a b (λ m x y p q. up (suc m) x y p q) e f (omega arith)

module _ (bs : List Bound) (set binding n : ℕ) (b : Bound) (up : Ascends bs) (at : slice_get bs n ≡ Some b) (e : b.set ≡ set) (f : b.binding ≡ binding) where
  abbrev least : Bound
  least = record { set = set; binding = binding; words = 0 }

  abbrev both_in : ℕ → ℕ → ℕ × ℕ
  both_in s c = (s, c)

  one_place : (place : ℕ) (a : Bound) → slice_get bs place ≡ Some a → a.set ≡ set → a.binding ≡ binding → place ≡ n
  one_place place a there g h =
      sym (number_is bs place a up there)
      ∙ ap (λ s. number_in (map pair_of bs) (both_in s a.binding)) (g ∙ sym e)
      ∙ ap (λ c. number_in (map pair_of bs) (both_in b.set c)) (h ∙ sym f)
      ∙ number_is bs n b up at

  pub found_at : (place : ℕ) → place < length bs → HoldsAt (λ y. order y least ≡ Equal) bs place → place ≡ n
  found_at place l h =
      let p = equal_pair (get_or bs place b) least (h b) in
      one_place place (get_or bs place b) (slice_get-get_or bs place b l) p.0 p.1

  rising : IsNonDecreasingBy (λ y. ordering_index (order y least)) bs
  rising i j d le lt = by (compared i j)
    where
      index_least : (o : Ordering) → ordering_index Less ≤ ordering_index o
      index_least o = omega arith

      index_greatest : (o : Ordering) → ordering_index o ≤ ordering_index Greater
      index_greatest Less = omega arith
      index_greatest Equal = omega arith
      index_greatest Greater = omega arith

      ordered : (order (get_or bs i d) least ≡ Less) ⊎ (order (get_or bs j d) least ≡ Greater)
          → ordering_index (order (get_or bs i d) least) ≤ ordering_index (order (get_or bs j d) least)
      ordered (inl h) =
          subst (λ (o : Ordering). ordering_index o ≤ ordering_index (order (get_or bs j d) least)) (sym h) (index_least (order (get_or bs j d) least))
      ordered (inr h) =
          subst (λ (o : Ordering). ordering_index (order (get_or bs i d) least) ≤ ordering_index o) (sym h) (index_greatest (order (get_or bs i d) least))

      same : (m n : ℕ) → m ≡ n → m ≤ n
      same m n e = omega arith

      by : (i < j) ⊎ ((i ≡ j) ⊎ (j < i)) → ordering_index (order (get_or bs i d) least) ≤ ordering_index (order (get_or bs j d) least)
      by (inl l) =
          ordered (apart (get_or bs i d) (get_or bs j d) least
          (far_before bs i j (get_or bs i d) (get_or bs j d) up (slice_get-get_or bs i d (omega arith)) (slice_get-get_or bs j d lt) l))
      by (inr (inl e)) = same _ _ (ap (λ k. ordering_index (order (get_or bs k d) least)) e)
      by (inr (inr g)) = absurd (omega arith)

  pub missed_at : (place : ℕ)
      → (IsNonDecreasingBy (λ y. ordering_index (order y least)) bs → IsPartitionPoint (λ y. order y least ≡ Less) (λ y. order y least ≡ Greater) bs place)
      → place ≡ n
  missed_at place part = by (compared place n)
    where
      halves : IsPartitionPoint (λ y. order y least ≡ Less) (λ y. order y least ≡ Greater) bs place
      halves = part rising

      inside : n < length bs
      inside = slice_get_within bs n b at

      it : get_or bs n b ≡ b
      it = get_or_from_slice_get bs n b b at

      by : (place < n) ⊎ ((place ≡ n) ⊎ (n < place)) → place ≡ n
      by (inr (inl e)) = e
      by (inr (inr g)) = absurd (at_least b set binding e f (ap (λ y. order y least) (sym it) ∙ halves.0 n b (omega arith) g))
      by (inl l) =
          let there = slice_get-get_or bs place b (omega (arith, inside)) in
          let low = before_least (get_or bs place b) b set binding e f (far_before bs place n (get_or bs place b) b up there at l) in
          absurd (not_both (sym low ∙ halves.1 place b (omega arith) (omega (arith, inside))))
