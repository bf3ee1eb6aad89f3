-- Where a number stands in an ascending list, by a binary search.
use Rattle.std.proofs.Common.{◌≡◌, ◌≢◌, ℕ, zero, suc, ◌<◌, ◌≤◌, List, [], ◌∷◌, length, get_or, Result, Ok, Err, MatchResult, ⊎_elim, subst, refl, arith}
use Rattle.std.specs.Ordering.{nat_cmp}
use Rattle.std.specs.List.Sorted.{IsStrictlyIncreasing, IsBinarySearchResult}
use Rattle.std.proofs.lemmas.Bool.{cases_lt}
use Rattle.std.proofs.lemmas.Bool.Decides.{nat_tests}
use Rattle.std.proofs.lemmas.List.Sorted.{searched}
use Rattle.std.proofs.lemmas.Map.Keys.{below_from_sorted, sorted_from_strictly_increasing}
use Rattle.first_image.specs.Image.{position}

position-here : (n k : ℕ) (ks : List ℕ) → k ≡ n → position n (k ∷ ks) ≡ 0
position-here n k ks e = grind (arith, nat_tests)

position-later : (n k i : ℕ) (ks : List ℕ) → k ≢ n → position n ks ≡ i → position n (k ∷ ks) ≡ suc i
position-later n k i ks ne e = grind (arith, nat_tests)

position-first : (n : ℕ) (ks : List ℕ) (i : ℕ) → i < length ks → get_or ks i 0 ≡ n → ((j : ℕ) → j < i → get_or ks j 0 ≢ n) → position n ks ≡ i
position-first n [] i lt e before = absurd (omega arith)
position-first n (k ∷ ks) zero lt e before = position-here n k ks e
position-first n (k ∷ ks) (suc i) lt e before =
    position-later n k i ks (before 0 (omega arith)) (position-first n ks i (omega arith) e (λ j l. before (suc j) (omega arith)))

position-none : (n : ℕ) (ks : List ℕ) → ((j : ℕ) → j < length ks → get_or ks j 0 ≢ n) → position n ks ≡ length ks
position-none n [] none = refl
position-none n (k ∷ ks) none =
    position-later n k (length ks) ks (none 0 (omega arith)) (position-none n ks (λ j l. none (suc j) (omega arith)))

rises : (ks : List ℕ) → IsStrictlyIncreasing ks → (i j : ℕ) → i ≤ j → j < length ks → get_or ks i 0 ≤ get_or ks j 0
rises ks up i j le lt =
    ⊎_elim
    (λ b. let r = below_from_sorted ks i j 0 (sorted_from_strictly_increasing ks up) b lt in omega arith)
    (λ b. let e : i ≡ j = omega arith in let P : ℕ → Type 0 = λ n. get_or ks i 0 ≤ get_or ks n 0 in subst P e (omega arith))
    (cases_lt i j)

abbrev pub IsPlaceOf : ℕ → List ℕ → Result ℕ ℕ → Type 0
IsPlaceOf n ks r = MatchResult r (λ i. position n ks ≡ i) (λ i. position n ks ≡ length ks)

pub place_from_search : (n : ℕ) (ks : List ℕ) (r : Result ℕ ℕ) → IsStrictlyIncreasing ks → IsBinarySearchResult (λ y. nat_cmp y n) ks r → IsPlaceOf n ks r
place_from_search n ks (Ok i) up h =
    let s = searched ks n (Ok i) h (rises ks up) in
    position-first n ks i s.0 s.1 (λ j l e. absurd (omega (arith, below_from_sorted ks j i 0 (sorted_from_strictly_increasing ks up) l s.0, s.1)))
place_from_search n ks (Err i) up h =
    let s = searched ks n (Err i) h (rises ks up) in
    position-none n ks (λ j l e. ⊎_elim (λ b. absurd (omega (arith, s.1 j b))) (λ b. absurd (omega (arith, s.2 j b l))) (cases_lt j i))

pub place_found : (n : ℕ) (xs ks : List ℕ) (r : Result ℕ ℕ) → xs ≡ ks → IsStrictlyIncreasing ks → IsBinarySearchResult (λ y. nat_cmp y n) xs r → IsPlaceOf n ks r
place_found n xs ks r e up h =
    let P : List ℕ → Type 0 = λ l. IsBinarySearchResult (λ y. nat_cmp y n) l r in place_from_search n ks r up (subst P e h)
