-- Runs of bytes.
use Rattle.std.proofs.Common.{Bool, true, false, ◌≡◌, ℕ, zero, suc, ◌+◌, ◌<◌, ◌≤◌, List, [], ◌∷◌, length, take, drop, zero-add, get_or, Option, Some, None, refl, sym, ◌∙◌, ap, arith, ◌==◌, ◌&&◌, inl, inr, if◌then◌else◌}
use Rattle.std.proofs.Math.Seq.{take-nil, take-length}
use Rattle.std.proofs.Math.Arith.{lt_of_le-ne}
use Rattle.std.proofs.lemmas.Bool.Decides.{eqb_tells}
use Rattle.std.proofs.Common.{eq-eqb}
use Rattle.slang_tokens.specs.Bytes.{run, all}
use Rattle.slang_tokens.specs.Lexemes.{close, option_suc}

pub run_within : (p : ℕ → Bool) (xs : List ℕ) → run p xs ≤ length xs
unfolding run
run_within p [] = omega arith
run_within p (x ∷ xs) = go (p x) (run_within p xs)
  where
    go : (b : Bool) → run p xs ≤ length xs → (if b then 1 + run p xs else 0) ≤ length (x ∷ xs)
    go true h = omega arith
    go false h = omega arith

pub run_stop : (p : ℕ → Bool) (xs : List ℕ) (i : ℕ) → i < length xs → p (get_or xs i 0) ≡ false → run p (drop i xs) ≡ 0
unfolding run
run_stop p [] i h e = absurd (omega arith)
run_stop p (x ∷ xs) zero h e = ap (λ b. if b then 1 + run p xs else 0) e
run_stop p (x ∷ xs) (suc i) h e = run_stop p xs i (omega arith) e

pub run_go : (p : ℕ → Bool) (xs : List ℕ) (i : ℕ) → i < length xs → p (get_or xs i 0) ≡ true → run p (drop i xs) ≡ 1 + run p (drop (i + 1) xs)
unfolding run
run_go p [] i h e = absurd (omega arith)
run_go p (x ∷ xs) zero h e = ap (λ b. if b then 1 + run p xs else 0) e
run_go p (x ∷ xs) (suc i) h e = let n : suc i + 1 ≡ suc (i + 1) = omega arith in run_go p xs i (omega arith) e ∙ ap (λ k. 1 + run p (drop k (x ∷ xs))) (sym n)

pub run_end : (p : ℕ → Bool) (xs : List ℕ) (i : ℕ) → length xs ≤ i → run p (drop i xs) ≡ 0
unfolding run
run_end p [] zero h = refl
run_end p [] (suc i) h = refl
run_end p (x ∷ xs) zero h = absurd (omega arith)
run_end p (x ∷ xs) (suc i) h = run_end p xs i (omega arith)

if_true : {A : Type 0} (b : Bool) (x y : A) → b ≡ true → (if b then x else y) ≡ x
if_true b x y e = ap (λ b. if b then x else y) e

-- all of the run pass
pub all_run : (p : ℕ → Bool) (xs : List ℕ) → all p (take (run p xs) xs) ≡ true
unfolding run all
all_run p [] = refl
all_run p (x ∷ xs) = go (all_run p xs) (p x) refl
  where
    go : all p (take (run p xs) xs) ≡ true → (b : Bool) → p x ≡ b → all p (take (if b then 1 + run p xs else 0) (x ∷ xs)) ≡ true
    go ih true e = let n : 1 + run p xs ≡ suc (run p xs) = omega arith in ap (λ k. all p (take k (x ∷ xs))) n ∙ (ap (λ b. b && all p (take (run p xs) xs)) e ∙ ih)
    go ih false e = refl

-- and no longer front does
pub more_run : (p : ℕ → Bool) (xs : List ℕ) (n : ℕ) → run p xs < n → n ≤ length xs → all p (take n xs) ≡ false
unfolding run all
more_run p xs zero h l = absurd (omega arith)
more_run p [] (suc n) h l = absurd (omega arith)
more_run p (x ∷ xs) (suc n) h l = go (more_run p xs n) (p x) refl
  where
    go : (run p xs < n → n ≤ length xs → all p (take n xs) ≡ false) → (b : Bool) → p x ≡ b → all p (x ∷ take n xs) ≡ false
    go ih true e =
        let r : run p (x ∷ xs) ≡ 1 + run p xs = ap (λ b. if b then 1 + run p xs else 0) e in
        ap (λ b. b && all p (take n xs)) e ∙ ih (omega (arith, h, r)) (omega arith)
    go ih false e = ap (λ b. b && all p (take n xs)) e

-- a front past the run has the same run
pub run_front : (p : ℕ → Bool) (xs : List ℕ) (n : ℕ) → run p xs ≤ n → run p (take n xs) ≡ run p xs
unfolding run
run_front p [] zero h = refl
run_front p [] (suc n) h = refl
run_front p (x ∷ xs) zero h = let e : run p (x ∷ xs) ≡ 0 = omega arith in sym e
run_front p (x ∷ xs) (suc n) h = go (run_front p xs n) (p x) refl
  where
    go : (run p xs ≤ n → run p (take n xs) ≡ run p xs) → (b : Bool) → p x ≡ b → run p (x ∷ take n xs) ≡ run p (x ∷ xs)
    go ih true e =
        let r : run p (x ∷ xs) ≡ 1 + run p xs = ap (λ b. if b then 1 + run p xs else 0) e in
        let q = ih (omega (arith, h, r)) in
        ap (λ b. if b then 1 + run p (take n xs) else 0) e ∙ (ap (λ k. 1 + k) q ∙ sym r)
    go ih false e = ap (λ b. if b then 1 + run p (take n xs) else 0) e ∙ sym (ap (λ b. if b then 1 + run p xs else 0) e)

pub drop_take : (k n : ℕ) (xs : List ℕ) → drop k (take (k + n) xs) ≡ take n (drop k xs)
drop_take zero n xs = ap (λ m. take m xs) (zero-add n)
drop_take (suc k) n [] = let e : suc k + n ≡ suc (k + n) = omega arith in ap (λ m. drop (suc k) (take m [])) e ∙ sym (take-nil n)
drop_take (suc k) n (x ∷ xs) = let e : suc k + n ≡ suc (k + n) = omega arith in ap (λ m. drop (suc k) (take m (x ∷ xs))) e ∙ drop_take k n xs

-- ---- the end of a comment

some_suc : (o : Option ℕ) (m : ℕ) → option_suc o ≡ Some m → (k : ℕ) × (o ≡ Some k) × (m ≡ k + 1)
some_suc None m e = cc
some_suc (Some k) m e = (k, refl, cc)

-- a front past the end of the comment ends where the comment does
pub close_front : (star : Bool) (xs : List ℕ) (m n : ℕ) → close star xs ≡ Some m → m ≤ n → close star (take n xs) ≡ Some m
unfolding close
close_front star [] m n e h = cc
close_front star (x ∷ xs) m zero e h = go (star && x == 47) refl
  where
    go : (b : Bool) → (star && x == 47) ≡ b → close star [] ≡ Some m
    go true d = let f = sym (ap (λ b. if b then Some 1 else option_suc (close (x == 42) xs)) d) ∙ e in let q : 1 ≡ m = cc in absurd (omega arith)
    go false d = let f = sym (ap (λ b. if b then Some 1 else option_suc (close (x == 42) xs)) d) ∙ e in let q = some_suc _ m f in absurd (omega (arith, q.2))
close_front star (x ∷ xs) m (suc n) e h = go (λ k. close_front (x == 42) xs k n) (star && x == 47) refl
  where
    go : ((k : ℕ) → close (x == 42) xs ≡ Some k → k ≤ n → close (x == 42) (take n xs) ≡ Some k) → (b : Bool) → (star && x == 47) ≡ b → close star (x ∷ take n xs) ≡ Some m
    go ih true d = ap (λ b. if b then Some 1 else option_suc (close (x == 42) (take n xs))) d ∙ (sym (ap (λ b. if b then Some 1 else option_suc (close (x == 42) xs)) d) ∙ e)
    go ih false d =
        let f = sym (ap (λ b. if b then Some 1 else option_suc (close (x == 42) xs)) d) ∙ e in
        let q = some_suc (close (x == 42) xs) m f in
        ap (λ b. if b then Some 1 else option_suc (close (x == 42) (take n xs))) d ∙ (ap option_suc (ih q.0 q.1 (omega (arith, q.2))) ∙ ap Some (sym q.2))

-- all pass where the run is the whole
pub all_is : (p : ℕ → Bool) (xs : List ℕ) → (run p xs == length xs) ≡ all p xs
all_is p xs = elim (eqb_tells (run p xs) (length xs)) [
  | inl t ↦ t.0 ∙ (sym (all_run p xs) ∙ ap (all p) (ap (λ n. take n xs) t.1 ∙ take-length xs))
  | inr t ↦ let h = run_within p xs in let k : run p xs < length xs = lt_of_le-ne h t.1 in
      t.0 ∙ (sym (more_run p xs (length xs) k (omega arith)) ∙ ap (all p) (take-length xs))
]

-- the end of a comment, from an index on
abbrev pub option_plus : ℕ → Option ℕ → Option ℕ
option_plus n None = None
option_plus n (Some m) = Some (n + m)

pub close_found : (star : Bool) (xs : List ℕ) (i : ℕ) → i < length xs → star ≡ true → get_or xs i 0 ≡ 47 → close star (drop i xs) ≡ Some 1
unfolding close
close_found star [] i h s e = absurd (omega arith)
close_found star (x ∷ xs) zero h s e = ap (λ b. if b then Some 1 else option_suc (close (x == 42) xs)) (ap (λ t. t && x == 47) s ∙ eq-eqb x 47 e)
close_found star (x ∷ xs) (suc i) h s e = close_found star xs i (omega arith) s e

pub close_on : (star : Bool) (xs : List ℕ) (i : ℕ) → i < length xs → (star && get_or xs i 0 == 47) ≡ false → close star (drop i xs) ≡ option_suc (close (get_or xs i 0 == 42) (drop (i + 1) xs))
unfolding close
close_on star [] i h e = absurd (omega arith)
close_on star (x ∷ xs) zero h e = ap (λ b. if b then Some 1 else option_suc (close (x == 42) xs)) e
close_on star (x ∷ xs) (suc i) h e = let n : suc i + 1 ≡ suc (i + 1) = omega arith in close_on star xs i (omega arith) e ∙ ap (λ k. option_suc (close (get_or xs i 0 == 42) (drop k (x ∷ xs)))) (sym n)

pub close_end : (star : Bool) (xs : List ℕ) (i : ℕ) → length xs ≤ i → close star (drop i xs) ≡ None
unfolding close
close_end star [] zero h = refl
close_end star [] (suc i) h = refl
close_end star (x ∷ xs) zero h = absurd (omega arith)
close_end star (x ∷ xs) (suc i) h = close_end star xs i (omega arith)

pub plus_suc : (i : ℕ) (o : Option ℕ) → option_plus i (option_suc o) ≡ option_plus (i + 1) o
plus_suc i None = refl
plus_suc i (Some m) = let e : i + (m + 1) ≡ i + 1 + m = omega arith in ap Some e

-- one byte more makes a run longer by one at most
pub run_cons : (p : ℕ → Bool) (x : ℕ) (xs : List ℕ) → run p (x ∷ xs) ≤ run p xs + 1
unfolding run
run_cons p x xs = go (p x)
  where
    go : (b : Bool) → (if b then 1 + run p xs else 0) ≤ run p xs + 1
    go true = omega arith
    go false = omega arith
