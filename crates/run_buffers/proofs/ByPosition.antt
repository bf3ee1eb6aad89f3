-- Words by position and index.
use Rattle.std.proofs.Common.{◌≡◌, ℕ, zero, suc, ◌+◌, ◌<◌, ◌≤◌, ◌^◌, true, false, Some, ◌⊎◌, inl, inr, subst, IsTrue, IsSome, List, [], ◌∷◌, length, get_or, set, refl, sym, ap, ◌∙◌, arith}
use Rattle.std.specs.Prelude.{slice_get, ◌↔◌}
use Rattle.std.specs.List.{AllByRecursion}
use Rattle.std.proofs.lemmas.Bool.{cases_eq}
use Rattle.std.proofs.lemmas.List.{length-set, set_past}
use Rattle.run_buffers.specs.declared.buffer.Buffer.{Buffer}
use Rattle.run_buffers.specs.Texts.{IsWord, IsNarrow, IsAscending, words_in, Fits}
use Rattle.run_buffers.specs.Memory.{slots, words_at, word_at, with_word}

-- what is there before and after a write
pub word_set : (bs : List Buffer) (p i w : ℕ) (b d : Buffer) → p < length bs → b ≡ get_or bs p d
    → set bs p (let k : Buffer = record { set = b.set; binding = b.binding; words = set b.words i w } in k) ≡ with_word bs p i w
word_set [] p i w b d h e = absurd (omega arith)
word_set (x ∷ xs) zero i w b d h e = ap (λ (v : Buffer). (let k : Buffer = record { set = v.set; binding = v.binding; words = set v.words i w } in k) ∷ xs) e
word_set (x ∷ xs) (suc p) i w b d h e = ap (λ (bs : List Buffer). x ∷ bs) (word_set xs p i w b d (omega arith) e)

pub words_within : (bs : List Buffer) (p : ℕ) (d : Buffer) → p < length bs → words_at bs p ≡ (get_or bs p d).words
words_within [] p d h = absurd (omega arith)
words_within (x ∷ xs) zero d h = refl
words_within (x ∷ xs) (suc p) d h = words_within xs p d (omega arith)

pub words_past : (bs : List Buffer) (p : ℕ) → length bs ≤ p → words_at bs p ≡ []
words_past [] p h = refl
words_past (x ∷ xs) zero h = absurd (omega arith)
words_past (x ∷ xs) (suc p) h = words_past xs p (omega arith)

same_record : (b : Buffer) (i w : ℕ) → length b.words ≤ i → (let k : Buffer = record { set = b.set; binding = b.binding; words = set b.words i w } in k) ≡ b
same_record b i w h = ap (λ (ws : List ℕ). let k : Buffer = record { set = b.set; binding = b.binding; words = ws } in k) (set_past b.words i w h)

pub no_word : (bs : List Buffer) (p i w : ℕ) → length (words_at bs p) ≤ i → with_word bs p i w ≡ bs
no_word [] p i w h = refl
no_word (x ∷ xs) zero i w h = ap (λ (v : Buffer). v ∷ xs) (same_record x i w h)
no_word (x ∷ xs) (suc p) i w h = ap (λ (bs : List Buffer). x ∷ bs) (no_word xs p i w h)

-- ---- what a write leaves has a text where what was there has one

narrow_set : (ws : List ℕ) (i w : ℕ) → AllByRecursion IsWord ws → w < 2 ^ 32 → AllByRecursion IsWord (set ws i w)
narrow_set [] i w all h = tt
narrow_set (x ∷ xs) zero w all h = (h, all.1)
narrow_set (x ∷ xs) (suc i) w all h = (all.0, narrow_set xs i w all.1 h)

all_narrow : (bs : List Buffer) (p i w : ℕ) → AllByRecursion IsNarrow bs → w < 2 ^ 32 → AllByRecursion IsNarrow (with_word bs p i w)
all_narrow [] p i w all h = tt
all_narrow (x ∷ xs) zero i w all h = ((all.0.0, all.0.1, narrow_set x.words i w all.0.2 h), all.1)
all_narrow (x ∷ xs) (suc p) i w all h = (all.0, all_narrow xs p i w all.1 h)

still_ascending : (bs : List Buffer) (p i w : ℕ) → IsAscending bs → IsAscending (with_word bs p i w)
still_ascending [] p i w h = tt
still_ascending (a ∷ []) zero i w h = tt
still_ascending (a ∷ []) (suc p) i w h = tt
still_ascending (a ∷ b ∷ bs) zero i w h = h
still_ascending (a ∷ b ∷ bs) (suc zero) i w h = (h.0, still_ascending (b ∷ bs) zero i w h.1)
still_ascending (a ∷ b ∷ bs) (suc (suc p)) i w h = (h.0, still_ascending (b ∷ bs) (suc p) i w h.1)

same_count : (bs : List Buffer) (p i w : ℕ) → words_in (with_word bs p i w) ≡ words_in bs
same_count [] p i w = refl
same_count (x ∷ xs) zero i w = ap (λ (n : ℕ). n + words_in xs) (length-set x.words i w)
same_count (x ∷ xs) (suc p) i w = ap (λ (n : ℕ). length x.words + n) (same_count xs p i w)

pub fits_with_word : (bs : List Buffer) (p i w : ℕ) → Fits bs → w < 2 ^ 32 → Fits (with_word bs p i w)
fits_with_word bs p i w fits h = record {
  narrow = all_narrow bs p i w fits.narrow h;
  ascending = still_ascending bs p i w fits.ascending;
  few_words = let e = same_count bs p i w in let f = fits.few_words in omega arith;
}

-- ---- what a read of a buffer tells

pub words_read : (bs : List Buffer) (p : ℕ) (b : Buffer) → p < length bs → ((d : Buffer) → b ≡ get_or bs p d) → words_at bs p ≡ b.words
words_read bs p b h e = words_within bs p b h ∙ ap (λ (v : Buffer). v.words) (sym (e b))

some_or_none : (ws : List ℕ) (i : ℕ) → i < length ws → IsSome (slice_get ws i)
some_or_none [] i h = absurd (omega arith)
some_or_none (w ∷ ws) zero h = refl
some_or_none (w ∷ ws) (suc i) h = some_or_none ws i (omega arith)

none_past : (ws : List ℕ) (i : ℕ) → length ws ≤ i → IsSome (slice_get ws i) → ⊥
none_past [] i h s = absurd cc
none_past (w ∷ ws) zero h s = omega arith
none_past (w ∷ ws) (suc i) h s = none_past ws i (omega arith) s

pub is_there : (bs : List Buffer) (p i : ℕ) → i < length (words_at bs p) → IsTrue true ↔ IsSome (word_at bs p i)
is_there bs p i h = (λ yes. some_or_none (words_at bs p) i h, λ some. refl)

pub is_not_there : (bs : List Buffer) (p i : ℕ) → length (words_at bs p) ≤ i → IsTrue false ↔ IsSome (word_at bs p i)
is_not_there bs p i h = (λ no. absurd cc, λ some. absurd (none_past (words_at bs p) i h some))

-- ---- what a write keeps

pub same_slots : (bs : List Buffer) (p i w : ℕ) → slots (with_word bs p i w) ≡ slots bs
same_slots [] p i w = refl
same_slots (x ∷ xs) zero i w = refl
same_slots (x ∷ xs) (suc p) i w = ap (λ (l : List (ℕ × ℕ)). (x.set, x.binding) ∷ l) (same_slots xs p i w)

pub same_counts : (bs : List Buffer) (p i w q : ℕ) → length (words_at (with_word bs p i w) q) ≡ length (words_at bs q)
same_counts [] p i w q = refl
same_counts (x ∷ xs) zero i w zero = length-set x.words i w
same_counts (x ∷ xs) zero i w (suc q) = refl
same_counts (x ∷ xs) (suc p) i w zero = refl
same_counts (x ∷ xs) (suc p) i w (suc q) = same_counts xs p i w q

set_there : (ws : List ℕ) (i w : ℕ) → IsSome (slice_get ws i) → slice_get (set ws i w) i ≡ Some w
set_there [] i w some = absurd cc
set_there (x ∷ xs) zero w some = refl
set_there (x ∷ xs) (suc i) w some = set_there xs i w some

set_elsewhere : (ws : List ℕ) (i w j : ℕ) → (j ≡ i → ⊥) → slice_get (set ws i w) j ≡ slice_get ws j
set_elsewhere [] i w j ne = refl
set_elsewhere (x ∷ xs) zero w zero ne = absurd (ne refl)
set_elsewhere (x ∷ xs) zero w (suc j) ne = refl
set_elsewhere (x ∷ xs) (suc i) w zero ne = refl
set_elsewhere (x ∷ xs) (suc i) w (suc j) ne = set_elsewhere xs i w j (λ e. ne (ap (λ (n : ℕ). suc n) e))

pub word_there : (bs : List Buffer) (p i w : ℕ) → IsSome (word_at bs p i) → word_at (with_word bs p i w) p i ≡ Some w
word_there [] p i w some = absurd cc
word_there (x ∷ xs) zero i w some = set_there x.words i w some
word_there (x ∷ xs) (suc p) i w some = word_there xs p i w some

same_word : (bs : List Buffer) (p i w j : ℕ) → (j ≡ i → ⊥) → word_at (with_word bs p i w) p j ≡ word_at bs p j
same_word [] p i w j ne = refl
same_word (x ∷ xs) zero i w j ne = set_elsewhere x.words i w j ne
same_word (x ∷ xs) (suc p) i w j ne = same_word xs p i w j ne

other_buffer : (bs : List Buffer) (p i w q j : ℕ) → (q ≡ p → ⊥) → word_at (with_word bs p i w) q j ≡ word_at bs q j
other_buffer [] p i w q j ne = refl
other_buffer (x ∷ xs) zero i w zero j ne = absurd (ne refl)
other_buffer (x ∷ xs) zero i w (suc q) j ne = refl
other_buffer (x ∷ xs) (suc p) i w zero j ne = refl
other_buffer (x ∷ xs) (suc p) i w (suc q) j ne = other_buffer xs p i w q j (λ e. ne (ap (λ (n : ℕ). suc n) e))

pub word_elsewhere : (bs : List Buffer) (p i w q j : ℕ) → (q ≡ p → ⊥) ⊎ (j ≡ i → ⊥) → word_at (with_word bs p i w) q j ≡ word_at bs q j
word_elsewhere bs p i w q j (inl ne) = other_buffer bs p i w q j ne
word_elsewhere bs p i w q j (inr ne) = elim (cases_eq q p) [
  | inl same ↦ subst (λ (k : ℕ). word_at (with_word bs p i w) k j ≡ word_at bs k j) (sym same) (same_word bs p i w j ne)
  | inr other ↦ other_buffer bs p i w q j other
]
