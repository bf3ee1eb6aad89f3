-- The list of an image's constants, and which numbers it has.
use Rattle.std.proofs.Common.{◌≡◌, ℕ, suc, ◌<◌, Bool, true, false, ◌||◌, cond, List, [], ◌∷◌, length, Some, refl, ap, arith}
use Rattle.std.specs.Prelude.{nat_eq, nat_lt}
use Rattle.std.proofs.lemmas.Bool.{eq-eqb}
use Rattle.first_image.specs.Image.{insert, position}

pub some_is : {A : Type 0} {x y : A} → Some x ≡ Some y → x ≡ y
some_is e = cc

-- whether a number stands in a list
abbrev pub contains : ℕ → List ℕ → Bool
contains n [] = false
contains n (k ∷ ks) = nat_eq n k || contains n ks

-- ---- insertion keeps what a list has, and adds a number

or_later : (b x y : Bool) → (b || x) ≡ true → (x ≡ true → y ≡ true) → (b || y) ≡ true
or_later true x y h f = refl
or_later false x y h f = f h

or_right : (b c : Bool) → c ≡ true → (b || c) ≡ true
or_right true c h = refl
or_right false c h = h

keeps_at : (n m k : ℕ) (ks : List ℕ) (e l : Bool) → contains n (k ∷ ks) ≡ true → (contains n ks ≡ true → contains n (insert m ks) ≡ true) → contains n (cond e (k ∷ ks) (cond l (m ∷ k ∷ ks) (k ∷ insert m ks))) ≡ true
keeps_at n m k ks true l h f = h
keeps_at n m k ks false true h f = or_right (nat_eq n m) (contains n (k ∷ ks)) h
keeps_at n m k ks false false h f = or_later (nat_eq n k) (contains n ks) (contains n (insert m ks)) h f

pub insert_keeps : (n m : ℕ) (ks : List ℕ) → contains n ks ≡ true → contains n (insert m ks) ≡ true
insert_keeps n m [] h = absurd cc
insert_keeps n m (k ∷ ks) h = keeps_at n m k ks (nat_eq m k) (nat_lt m k) h (insert_keeps n m ks)

has_at : (n k : ℕ) (ks : List ℕ) (e l : Bool) → nat_eq n k ≡ e → contains n (insert n ks) ≡ true → contains n (cond e (k ∷ ks) (cond l (n ∷ k ∷ ks) (k ∷ insert n ks))) ≡ true
has_at n k ks true l is h = ap (λ b. b || contains n ks) is
has_at n k ks false true is h = ap (λ b. b || contains n (k ∷ ks)) (eq-eqb n n refl)
has_at n k ks false false is h = or_right (nat_eq n k) (contains n (insert n ks)) h

pub insert_has : (n : ℕ) (ks : List ℕ) → contains n (insert n ks) ≡ true
insert_has n [] = ap (λ b. b || false) (eq-eqb n n refl)
insert_has n (k ∷ ks) = has_at n k ks (nat_eq n k) (nat_lt n k) refl (insert_has n ks)

-- ---- the position of a number that a list has is within the list

low_at : (b : Bool) (k : ℕ) (ks : List ℕ) → (b || contains k ks) ≡ true → (contains k ks ≡ true → position k ks < length ks) → cond b 0 (suc (position k ks)) < suc (length ks)
low_at true k ks h f = omega arith
low_at false k ks h f = let lt = f h in omega (arith, lt)

pub position_low : (k : ℕ) (ks : List ℕ) → contains k ks ≡ true → position k ks < length ks
position_low k [] h = absurd cc
position_low k (x ∷ ks) h = low_at (nat_eq k x) k ks h (position_low k ks)
