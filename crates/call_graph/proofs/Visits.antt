-- A function is visited: whether it was seen, and whether it waits.
use Rattle.std.proofs.Common.{◌≡◌, ℕ, zero, suc, ◌+◌, ◌<◌, ◌||◌, ◌&&◌, Bool, true, false, not, cond, nat_eq, List, [], ◌∷◌, ◌++◌, take, get_or, length, refl, sym, ◌∙◌, ap, ◌⊎◌, inl, inr, arith}
use Rattle.std.proofs.lemmas.Bool.{eqb-true, eq-eqb}
use Rattle.std.proofs.lemmas.List.{take_more}
use Rattle.std.specs.List.{list_any}

pub or-false : (a : Bool) → (a || false) ≡ a
or-false true = refl
or-false false = refl

or-assoc : (a b c : Bool) → (a || (b || c)) ≡ ((a || b) || c)
or-assoc true b c = refl
or-assoc false b c = refl

pub any-push : (q : ℕ) (xs : List ℕ) (y : ℕ) → list_any (nat_eq q) (xs ++ y ∷ []) ≡ (list_any (nat_eq q) xs || nat_eq q y)
any-push q [] y = or-false (nat_eq q y)
any-push q (x ∷ xs) y = ap (λ b. nat_eq q x || b) (any-push q xs y) ∙ or-assoc (nat_eq q x) (list_any (nat_eq q) xs) (nat_eq q y)

pub any-more : (q : ℕ) (xs : List ℕ) (k : ℕ) → k < length xs → list_any (nat_eq q) (take (k + 1) xs) ≡ (list_any (nat_eq q) (take k xs) || nat_eq q (get_or xs k 0))
any-more q xs k lt = ap (λ l. list_any (nat_eq q) l) (take_more xs k 0 lt) ∙ any-push q (take k xs) (get_or xs k 0)

or-true : (a : Bool) → (a || true) ≡ true
or-true true = refl
or-true false = refl

pub any-has : (xs : List ℕ) (k : ℕ) → k < length xs → list_any (nat_eq (get_or xs k 0)) xs ≡ true
any-has [] k lt = absurd (omega arith)
any-has (x ∷ xs) zero lt = ap (λ b. b || list_any (nat_eq x) xs) (eq-eqb x x refl)
any-has (x ∷ xs) (suc k) lt = ap (λ b. nat_eq (get_or xs k 0) x || b) (any-has xs k (omega arith)) ∙ or-true (nat_eq (get_or xs k 0) x)

same-by : (a b : ℕ) (p q : Bool) → nat_eq a b ≡ p → nat_eq b a ≡ q → p ≡ q
same-by a b true true g h = refl
same-by a b true false g h = sym (eq-eqb b a (sym (eqb-true a b g))) ∙ h
same-by a b false true g h = sym g ∙ eq-eqb a b (sym (eqb-true b a h))
same-by a b false false g h = refl

pub flip : (a b : ℕ) → nat_eq a b ≡ nat_eq b a
flip a b = same-by a b (nat_eq a b) (nat_eq b a) refl refl

pub seen-by : (e a s : Bool) → cond e true (a || s) ≡ ((a || e) || s)
seen-by true true s = refl
seen-by true false s = refl
seen-by false true s = refl
seen-by false false s = refl

cc-from : {A : Type 0} → true ≡ false → A
cc-from h = cc

-- one that is new waits too
pub waits-new : (t a s e : Bool) → (e ≡ true → (a || s) ≡ false) → ((t || (a && not s)) || e) ≡ (t || ((a || e) && not s))
waits-new true a s e h = refl
waits-new false true s true h = cc-from (h refl)
waits-new false true true false h = refl
waits-new false true false false h = refl
waits-new false false true true h = cc-from (h refl)
waits-new false false false true h = refl
waits-new false false s false h = refl

-- one that was seen does not
pub waits-old : (t a s e : Bool) → (e ≡ true → (a || s) ≡ true) → (t || (a && not s)) ≡ (t || ((a || e) && not s))
waits-old true a s e h = refl
waits-old false true s e h = refl
waits-old false false s false h = refl
waits-old false false true true h = refl
waits-old false false false true h = cc-from (sym (h refl))

pub or-cases : (a b : Bool) → (a || b) ≡ true → (a ≡ true) ⊎ (b ≡ true)
or-cases true b h = inl refl
or-cases false b h = inr h

pub or-left : (a b : Bool) → a ≡ true → (a || b) ≡ true
or-left a b h = ap (λ a. a || b) h

pub or-right : (a b : Bool) → b ≡ true → (a || b) ≡ true
or-right a b h = ap (λ b. a || b) h ∙ or-true a

pub and-both : (a b : Bool) → a ≡ true → b ≡ true → (a && b) ≡ true
and-both a b p q = ap (λ a. a && b) p ∙ q

pub and-first : (a b : Bool) → (a && b) ≡ true → a ≡ true
and-first true b h = refl
and-first false b h = h
