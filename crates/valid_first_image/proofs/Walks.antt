-- What holds of each instruction that stands in the code from a place on.
use Rattle.std.proofs.Common.{◌≡◌, ℕ, zero, suc, ◌+◌, List, [], ◌∷◌, ◌++◌, length, Some, subst, arith}
use Rattle.std.specs.Prelude.{slice_get}
use Rattle.spirv_words.specs.declared.images.Instruction.{Instruction}

-- something holds of each of these instructions and of its number, where the first has this number
abbrev pub AllAt : (ℕ → Instruction → Type 0) → ℕ → List Instruction → Type 0
AllAt P k [] = Unit {0}
AllAt P k (i ∷ is) = P k i × AllAt P (k + 1) is

pub all_on : (P : ℕ → Instruction → Type 0) (a b : List Instruction) (k : ℕ) → AllAt P k a → AllAt P (k + length a) b → AllAt P k (a ++ b)
all_on P [] b k h g = let e : k + 0 ≡ k = omega arith in subst (λ n. AllAt P n b) e g
all_on P (i ∷ a) b k h g =
    let e : k + length (i ∷ a) ≡ k + 1 + length a = omega arith in
    (h.0, all_on P a b (k + 1) h.1 (subst (λ n. AllAt P n b) e g))

pub all_front : (P : ℕ → Instruction → Type 0) (a b : List Instruction) (k : ℕ) → AllAt P k (a ++ b) → AllAt P k a
all_front P [] b k h = tt
all_front P (i ∷ a) b k h = (h.0, all_front P a b (k + 1) h.1)

pub all_back : (P : ℕ → Instruction → Type 0) (a b : List Instruction) (k : ℕ) → AllAt P k (a ++ b) → AllAt P (k + length a) b
all_back P [] b k h = let e : k ≡ k + 0 = omega arith in subst (λ n. AllAt P n b) e h
all_back P (i ∷ a) b k h =
    let e : k + 1 + length a ≡ k + length (i ∷ a) = omega arith in
    subst (λ n. AllAt P n b) e (all_back P a b (k + 1) h.1)

-- so it holds of the instruction with a number
pub all_get : (P : ℕ → Instruction → Type 0) (is : List Instruction) (k m : ℕ) (i : Instruction) → AllAt P k is → slice_get is m ≡ Some i → P (k + m) i
all_get P [] k m i h e = absurd cc
all_get P (x ∷ is) k zero i h e =
    let s : x ≡ i = cc in
    let z : k ≡ k + 0 = omega arith in
    subst (λ n. P n i) z (subst (P k) s h.0)
all_get P (x ∷ is) k (suc m) i h e =
    let z : k + 1 + m ≡ k + suc m = omega arith in
    subst (λ n. P n i) z (all_get P is (k + 1) m i h.1 e)
