-- What was told is still told.
use Rattle.std.proofs.Common.{true, ◌≡◌, ◌<◌, ℕ, zero, suc, ◌+◌, inl, inr, List, [], ◌∷◌, ◌++◌, length, drop, Some, refl, sym, ◌∙◌, ap, subst, arith}
use Rattle.std.proofs.Math.ListN.{set}
use Rattle.std.proofs.lemmas.List.{length-set}
use Rattle.std.proofs.lemmas.Bool.{cases_eq}
use Rattle.slang_tokens.specs.declared.tokens.Token.{Token}
use Rattle.slang_reading.specs.Reading.{first}
use Rattle.ahead_reading.specs.declared.scans.Known.{Known}
use Rattle.ahead_reading.specs.declared.scans.Scans.{Scans}
use Rattle.ahead_reading.specs.declared.brackets.Bracket.{Bracket}
use Rattle.ahead_reading.specs.declared.brackets.Bracket.TheVariants.{Many, One}
use Rattle.ahead_reading.specs.declared.brackets.Brackets.{Brackets}
use Rattle.ahead_reading.specs.declared.brackets.Next.{Next}
use Rattle.ahead_reading.specs.declared.brackets.Next.TheVariants.{Goes, Ended, Refused}
use Rattle.ahead_reading.specs.Knowing.{Told, ToldAt, Grows, FillsBehind, is_name, is_less}
use Rattle.ahead_reading.specs.Brackets.{outermost_of, outermost, ToldOf, Outermost, Adds}

pub grows_not : (s : Scans) → Grows s s
unfolding Grows
grows_not s = (refl, λ at h. h)

pub grows_twice : (a b c : Scans) → Grows a b → Grows b c → Grows a c
unfolding Grows
grows_twice a b c p q = (q.0 ∙ p.0, λ at h. q.1 at (p.1 at h))

still_told : (l : List Known) (j : ℕ) (k : Known) → Told (Some k) → (at : ℕ) → Told (first (drop at l)) → Told (first (drop at (set l j k)))
still_told [] zero k q at h = h
still_told [] (suc j) k q at h = h
still_told (x ∷ l) zero k q zero h = q
still_told (x ∷ l) zero k q (suc at) h = h
still_told (x ∷ l) (suc j) k q zero h = h
still_told (x ∷ l) (suc j) k q (suc at) h = still_told l j k q at h

pub grows_set : (l : List Known) (j : ℕ) (k : Known) → Told (Some k) → Grows (record { known = l }) (record { known = set l j k })
unfolding Grows
grows_set l j k q = (length-set l j k, still_told l j k q)

pub told_set : (l : List Known) (j : ℕ) (k : Known) → Told (Some k) → j < length l → Told (first (drop j (set l j k)))
told_set [] zero k q h = absurd (omega (arith, h))
told_set [] (suc j) k q h = absurd (omega (arith, h))
told_set (x ∷ l) zero k q h = q
told_set (x ∷ l) (suc j) k q h = told_set l j k q (omega (arith, h))

-- the outermost bracket stays under another one
pub outermost_under : (x y : Bracket) (l : List Bracket) → outermost_of y (l ++ x ∷ []) ≡ outermost_of x l
outermost_under x y [] = refl
outermost_under x y (z ∷ l) = refl

-- what is told of a bracket stays
pub told_still : (a b : Scans) (x : Bracket) → Grows a b → ToldOf a x → ToldOf b x
unfolding Grows
told_still a b x p h = grow x h
  where
    grow : (x : Bracket) → ToldOf a x → ToldOf b x
    grow (Many begin) h = λ i. p.1 begin (h (omega (arith, i, p.0)))
    grow One h = tt

-- the outermost bracket is told, or stays the first of those that are still to be told
abbrev pub Remains : Scans → Bracket → List Bracket → Type 0
Remains scans x [] = ToldOf scans x
Remains scans x (y ∷ l) = y ≡ x

pub remains : (s : Scans) (top : Bracket) (l : List Bracket) → ToldOf s top → Remains s (outermost_of top l) l
remains s top [] h = h
remains s top (y ∷ l) h = refl

pub remains_popped : (a b : Scans) (x y : Bracket) (old l : List Bracket) → old ≡ l ++ y ∷ [] → Remains a x old → ToldOf b y → Remains b x l
remains_popped a b x y old l e r h = go l (subst (Remains a x) e r)
  where
    go : (l : List Bracket) → Remains a x (l ++ y ∷ []) → Remains b x l
    go [] q = subst (ToldOf b) q h
    go (z ∷ l) q = q

pub remains_none : (s : Scans) (x : Bracket) (l : List Bracket) → l ≡ [] → Remains s x l → ToldOf s x
remains_none s x l e r = subst (Remains s x) e r

pub adds_popped : (old new : Brackets) (known told : Scans) (next : Next) → Grows known told → ToldOf told old.top → Outermost old next new → Adds old known next new told
adds_popped old new known told Goes p h e = (p, e)
adds_popped old new known told Ended p h e = (p, subst (ToldOf told) (sym e) h)
adds_popped old new known told Refused p h e = (p, e)

-- what was told before stays, with what a token adds
pub adds_on : (s known told : Scans) (x : Bracket) (old new : Brackets) (next : Next) → Grows s known → outermost old ≡ x → Adds old known next new told → Grows s told × (next ≡ Ended → ToldOf told x) × ((next ≡ Ended → ⊥) → outermost new ≡ x)
adds_on s known told x old new Goes p e a = (grows_twice s known told p a.0, λ q. absurd cc, λ n. a.1 ∙ e)
adds_on s known told x old new Ended p e a = (grows_twice s known told p a.0, λ q. subst (ToldOf told) e a.1, λ n. absurd (n refl))
adds_on s known told x old new Refused p e a = (grows_twice s known told p a.0, λ q. absurd cc, λ n. a.1 ∙ e)

-- ---- what is told of the tokens before that index, with those at it

pub less_within : (tokens : List Token) (at : ℕ) → is_less (first (drop at tokens)) ≡ true → at < length tokens
less_within [] zero e = absurd cc
less_within [] (suc at) e = absurd cc
less_within (x ∷ tokens) zero e = omega arith
less_within (x ∷ tokens) (suc at) e = let h = less_within tokens at e in omega (arith, h)

module _ (tokens : List Token) (n : ℕ) (old new : Scans) (count : length old.known ≡ length tokens) (fills : FillsBehind tokens n old new) where
  pub count_next : length new.known ≡ length tokens
  unfolding Grows
  count_next = fills.0.0 ∙ count

  pub told_next : ((at : ℕ) → at + 1 < n → is_name (first (drop at tokens)) ≡ true → is_less (first (drop (at + 1) tokens)) ≡ true → ToldAt old (at + 1)) →
      (at : ℕ) → at + 1 < n + 1 → is_name (first (drop at tokens)) ≡ true → is_less (first (drop (at + 1) tokens)) ≡ true → ToldAt new (at + 1)
  unfolding Grows
  told_next h at i x y = elim (cases_eq (at + 1) n) [
    | inl e ↦ here e
    | inr e ↦ fills.0.1 (at + 1) (h at (omega (arith, i, e)) x y)
  ]
    where
      here : at + 1 ≡ n → ToldAt new (at + 1)
      here e =
          let less = ap (λ k. is_less (first (drop k tokens))) (sym e) ∙ y in
          let w = less_within tokens (at + 1) y in
          let c = count_next in
          subst (ToldAt new) (sym e) (fills.1 at e x less (omega (arith, e, w, c)))
