-- Words of a memory by set and binding, and by position.
use Rattle.std.proofs.Common.{◌≡◌, ℕ, zero, suc, ◌<◌, Bool, true, false, cond, eqb, ◌&&◌, Option, Some, List, [], ◌∷◌, length, get_or, set, refl, sym, ap, subst, ◌∙◌, arith}
use Rattle.std.specs.Prelude.{slice_get}
use Rattle.std.proofs.lemmas.Bool.{cases_eq, ne_eqb, and_from, eq-eqb}
use Rattle.std.proofs.lemmas.List.{length-set}
use Rattle.std.proofs.Common.{inl, inr}
use Rattle.run_buffers.specs.declared.buffer.Buffer.{Buffer}
use Rattle.std.specs.Option.{unwrap_or}
use Rattle.run_buffers.specs.Texts.{IsBefore, IsAscending}
use Rattle.run_buffers.specs.Memory.{slots, words_at, words_of, word_at, with_word}
use Rattle.run_buffers.proofs.Finding.{words_of_slot, slot_within, pair_before}
use Rattle.spirv_run.specs.Shared.{lengths_in, put_word}

-- ---- a buffer is the one of a set and a binding, or not

abbrev IsSlot : ℕ → ℕ → Buffer → Bool
IsSlot set binding b = eqb b.set set && eqb b.binding binding

slot_is : (s g : ℕ) (b : Buffer) → b.set ≡ s → b.binding ≡ g → IsSlot s g b ≡ true
slot_is s g b e f = and_from (eqb b.set s) (eqb b.binding g) (eq-eqb b.set s e) (eq-eqb b.binding g f)

slot_is_not : (s g : ℕ) (b : Buffer) → ((b.set ≡ s) × (b.binding ≡ g) → ⊥) → IsSlot s g b ≡ false
slot_is_not s g b none = elim (cases_eq b.set s) [
  | inl e ↦ elim (cases_eq b.binding g) [
    | inl f ↦ absurd (none (e, f))
    | inr other ↦ ap (λ (u : Bool). u && eqb b.binding g) (eq-eqb b.set s e) ∙ ne_eqb b.binding g other
  ]
  | inr other ↦ ap (λ (u : Bool). u && eqb b.binding g) (ne_eqb b.set s other)
]

-- ---- a write

abbrev changed : Buffer → ℕ → ℕ → Buffer
changed b i w = record { set = b.set; binding = b.binding; words = set b.words i w }

pub put_is : (b : Buffer) (bs : List Buffer) (s g i w : ℕ) → b.set ≡ s → b.binding ≡ g → put_word (b ∷ bs) s g i w ≡ changed b i w ∷ bs
put_is b bs s g i w e f = ap (λ (t : Bool). cond t (changed b i w ∷ bs) (b ∷ put_word bs s g i w)) (slot_is s g b e f)

pub put_is_behind : (b : Buffer) (bs : List Buffer) (s g i w : ℕ) → ((b.set ≡ s) × (b.binding ≡ g) → ⊥) → put_word (b ∷ bs) s g i w ≡ b ∷ put_word bs s g i w
put_is_behind b bs s g i w none = ap (λ (t : Bool). cond t (changed b i w ∷ bs) (b ∷ put_word bs s g i w)) (slot_is_not s g b none)

rest_ascends : (a : Buffer) (bs : List Buffer) → IsAscending (a ∷ bs) → IsAscending bs
rest_ascends a [] h = tt
rest_ascends a (b ∷ bs) h = h.1

not_both : (a b : Buffer) (s g : ℕ) → IsBefore a b → b.set ≡ s → b.binding ≡ g → (a.set ≡ s) × (a.binding ≡ g) → ⊥
not_both a b s g (inl less) e f same = let h = same.0 in omega arith
not_both a b s g (inr less) e f same = let h = same.1 in let l = less.1 in omega arith

-- a buffer before another has another set or binding
first_differs : (b : Buffer) (bs : List Buffer) (p s g : ℕ) → IsAscending (b ∷ bs) → slice_get (slots bs) p ≡ Some (s, g) → (b.set ≡ s) × (b.binding ≡ g) → ⊥
first_differs b bs p s g h e =
    let at = slot_within bs p s g b e in
    not_both b (get_or bs p b) s g (pair_before (b ∷ bs) 0 (suc p) b h (omega arith) (let l = at.0 in omega arith)) at.1 at.2

pair_set : (x y : ℕ × ℕ) → Some x ≡ Some y → (x.0 ≡ y.0) × (x.1 ≡ y.1)
pair_set x y e = let same : x ≡ y = cc in (ap (λ (z : ℕ × ℕ). z.0) same, ap (λ (z : ℕ × ℕ). z.1) same)

pub put_word_slot : (bs : List Buffer) (p s g i w : ℕ) → IsAscending bs → slice_get (slots bs) p ≡ Some (s, g) → put_word bs s g i w ≡ with_word bs p i w
put_word_slot [] p s g i w h e = absurd cc
put_word_slot (b ∷ bs) zero s g i w h e = let same = pair_set (b.set, b.binding) (s, g) e in put_is b bs s g i w same.0 same.1
put_word_slot (b ∷ bs) (suc p) s g i w h e =
    put_is_behind b bs s g i w (first_differs b bs p s g h e) ∙ ap (λ (l : List Buffer). b ∷ l) (put_word_slot bs p s g i w (rest_ascends b bs h) e)

-- ---- what a write keeps

slots_behind : (b : Buffer) (bs more : List Buffer) (i w : ℕ) → slots more ≡ slots bs → (t : Bool) → slots (cond t (changed b i w ∷ bs) (b ∷ more)) ≡ slots (b ∷ bs)
slots_behind b bs more i w h true = refl
slots_behind b bs more i w h false = ap (λ (l : List (ℕ × ℕ)). (b.set, b.binding) ∷ l) h

pub put_slots : (bs : List Buffer) (s g i w : ℕ) → slots (put_word bs s g i w) ≡ slots bs
put_slots [] s g i w = refl
put_slots (b ∷ bs) s g i w = slots_behind b bs (put_word bs s g i w) i w (put_slots bs s g i w) (IsSlot s g b)

same_front : (ws r : List ℕ) (i w : ℕ) (v : Bool) → length (cond v (set ws i w) r) ≡ length (cond v ws r)
same_front ws r i w true = length-set ws i w
same_front ws r i w false = refl

same_back : (ws r q : List ℕ) (v : Bool) → length r ≡ length q → length (cond v ws r) ≡ length (cond v ws q)
same_back ws r q true h = refl
same_back ws r q false h = h

lengths_behind : (b : Buffer) (bs more : List Buffer) (i w s g : ℕ) → lengths_in more s g ≡ lengths_in bs s g → (t : Bool)
    → lengths_in (cond t (changed b i w ∷ bs) (b ∷ more)) s g ≡ lengths_in (b ∷ bs) s g
lengths_behind b bs more i w s g h true = same_front b.words (words_of bs s g) i w (IsSlot s g b)
lengths_behind b bs more i w s g h false = same_back b.words (words_of more s g) (words_of bs s g) (IsSlot s g b) h

pub put_lengths : (bs : List Buffer) (s g i w t h : ℕ) → lengths_in (put_word bs s g i w) t h ≡ lengths_in bs t h
put_lengths [] s g i w t h = refl
put_lengths (b ∷ bs) s g i w t h = lengths_behind b bs (put_word bs s g i w) i w t h (put_lengths bs s g i w t h) (IsSlot s g b)

-- ---- a read

got : (ws : List ℕ) (i : ℕ) → i < length ws → slice_get ws i ≡ Some (unwrap_or (slice_get ws i) 0)
got [] i h = absurd (omega arith)
got (w ∷ ws) zero h = refl
got (w ∷ ws) (suc i) h = got ws i (omega arith)

pub word_is : (bs : List Buffer) (p s g i r : ℕ) (o : Option ℕ) → IsAscending bs → slice_get (slots bs) p ≡ Some (s, g) → i < lengths_in bs s g
    → o ≡ word_at bs p i → r ≡ unwrap_or o 0 → slice_get (words_of bs s g) i ≡ Some r
word_is bs p s g i r o h e less is r_is =
    let same = words_of_slot bs p s g h e in
    let inside : i < length (words_at bs p) = subst (λ (ws : List ℕ). i < length ws) same less in
    ap (λ (ws : List ℕ). slice_get ws i) same ∙ (got (words_at bs p) i inside ∙ ap (λ (x : Option ℕ). Some (unwrap_or x 0)) (sym is) ∙ ap Some (sym r_is))
