-- Buffers that are looked up.
use Rattle.std.proofs.Common.{◌≡◌, ◌^◌, ℕ, zero, suc, ◌+◌, ◌<◌, ◌≤◌, Some, List, [], ◌∷◌, length, set, get_or, refl, sym, ap, subst, ◌∙◌, inl, inr, arith}
use Rattle.std.specs.Prelude.{slice_get}
use Rattle.std.proofs.lemmas.Bool.{cases_eq}
use Rattle.run_buffers.specs.declared.buffer.Buffer.{Buffer}
use Rattle.run_buffers.specs.Texts.{words_in}
use Rattle.run_buffers.specs.Memory.{words_at}
use Rattle.run_plans.specs.declared.base.Bound.{Bound}
use Rattle.spirv_run.specs.Shared.{lengths_in}
use Rattle.spirv_run.specs.Parts.{IsShort, AreBound, IsFirstShort}

-- a buffer has no more words than all together
pub few_words : (bs : List Buffer) (p : ℕ) → length (words_at bs p) ≤ words_in bs
few_words [] p = omega arith
few_words (b ∷ bs) zero = omega arith
few_words (b ∷ bs) (suc p) = let h = few_words bs p in omega arith

-- ---- a list that is filled from its start

-- the buffers before a number are there with enough words, and these were counted
abbrev pub BoundBefore : ℕ → List Bound → List Buffer → List ℕ → Type 0
BoundBefore n bounds memory counts = (m : ℕ) (b : Bound) → m < n → slice_get bounds m ≡ Some b
    → (IsShort memory b → ⊥) × (slice_get counts m ≡ Some (lengths_in memory b.set b.binding)) × (lengths_in memory b.set b.binding < 2 ^ 32)

get_set : (ws : List ℕ) (n w : ℕ) → n < length ws → slice_get (set ws n w) n ≡ Some w
get_set [] n w h = absurd (omega arith)
get_set (x ∷ xs) zero w h = refl
get_set (x ∷ xs) (suc n) w h = get_set xs n w (omega arith)

get_set_other : (ws : List ℕ) (n m w : ℕ) → (m ≡ n → ⊥) → slice_get (set ws n w) m ≡ slice_get ws m
get_set_other [] n m w ne = refl
get_set_other (x ∷ xs) zero zero w ne = absurd (ne refl)
get_set_other (x ∷ xs) zero (suc m) w ne = refl
get_set_other (x ∷ xs) (suc n) zero w ne = refl
get_set_other (x ∷ xs) (suc n) (suc m) w ne = get_set_other xs n m w (λ e. ne (ap (λ (k : ℕ). suc k) e))

same_bound : (a b : Bound) → Some a ≡ Some b → a ≡ b
same_bound a b e = cc

pub bound_one_more : (n : ℕ) (bounds : List Bound) (memory : List Buffer) (counts : List ℕ) (bound : Bound) (count : ℕ) → BoundBefore n bounds memory counts
    → n < length counts → slice_get bounds n ≡ Some bound → (IsShort memory bound → ⊥) → count ≡ lengths_in memory bound.set bound.binding → lengths_in memory bound.set bound.binding < 2 ^ 32
    → BoundBefore (n + 1) bounds memory (set counts n count)
bound_one_more n bounds memory counts bound count before inside at enough is small m b less stands = elim (cases_eq m n) [
  | inl same ↦
      let here : bound ≡ b = same_bound bound b (sym at ∙ (ap (slice_get bounds) (sym same) ∙ stands)) in (
        subst (λ (x : Bound). IsShort memory x → ⊥) here enough,
        ap (slice_get (set counts n count)) same ∙ (get_set counts n count inside ∙ ap (λ (x : ℕ). Some x) (is ∙ ap (λ (x : Bound). lengths_in memory x.set x.binding) here)),
        subst (λ (x : Bound). lengths_in memory x.set x.binding < 2 ^ 32) here small,
      )
  | inr other ↦
      let h = before m b (let ne : m ≡ n → ⊥ = other in omega arith) stands in
      (h.0, get_set_other counts n m count other ∙ h.1, h.2)
]

within : (bounds : List Bound) (n : ℕ) (b : Bound) → slice_get bounds n ≡ Some b → n < length bounds
within [] n b e = absurd cc
within (x ∷ xs) zero b e = omega arith
within (x ∷ xs) (suc n) b e = let h = within xs n b e in omega arith

pub all_bound : (n : ℕ) (bounds : List Bound) (memory : List Buffer) (counts : List ℕ) → length bounds ≤ n → BoundBefore n bounds memory counts → AreBound bounds memory counts
all_bound n bounds memory counts le before m b stands = before m b (let h = within bounds m b stands in omega arith) stands

pub stands_at : (bounds : List Bound) (n : ℕ) (d : Bound) → n < length bounds → slice_get bounds n ≡ Some (get_or bounds n d)
stands_at [] n d h = absurd (omega arith)
stands_at (x ∷ xs) zero d h = refl
stands_at (x ∷ xs) (suc n) d h = stands_at xs n d (omega arith)

pub first_short : (n : ℕ) (bounds : List Bound) (memory : List Buffer) (counts : List ℕ) (bound : Bound) → BoundBefore n bounds memory counts
    → slice_get bounds n ≡ Some bound → IsShort memory bound → IsFirstShort bounds memory bound
first_short n bounds memory counts bound before at short = record {
  number = n;
  stands = at;
  short = short;
  first = λ m a less stands is. (before m a less stands).0 is;
}
