-- A walk through the instructions of an image.
use Rattle.std.proofs.Common.{◌≡◌, ℕ, suc, ◌+◌, ◌<◌, ◌≤◌, ◌^◌, Bool, false, IsTrue, List, length, get_or, Some, None, inl, inr, slice_get, refl, sym, ap, subst, add-one, arith}
use Rattle.std.proofs.lemmas.Bool.{cases_lt}
use Rattle.std.proofs.lemmas.Option.{slice_get_read, slice_get_past}
use Rattle.std.specs.Option.{option_map}
use Rattle.spirv_words.specs.declared.images.Instruction.{Instruction}
use Rattle.spirv_words.specs.declared.images.Image.{Image}
use Rattle.spirv_words.specs.Words.{image_words, body_words}
use Rattle.image_places.specs.declared.cursor.Cursor.{Cursor}
use Rattle.image_places.specs.Places.{word_of, op_at, cursor_at, IsFirst, FaultAt}

-- ---- what the laws of places say

abbrev pub Next : Type 0
Next = (is : List Instruction) (k : ℕ) (i : Instruction) → slice_get is k ≡ Some i → word_of is (suc k) ≡ word_of is k + suc (length i.operands)

abbrev pub Grow : Type 0
Grow = (is : List Instruction) (j k : ℕ) → j ≤ k → word_of is j ≤ word_of is k

abbrev pub End : Type 0
End = (image : Image) → word_of image.instructions (length image.instructions) ≡ length (image_words image)

-- ---- the instruction at which a walk stands

pub item : (xs ys : List Instruction) (k : ℕ) (x : Instruction) → xs ≡ ys → k < length xs → x ≡ get_or xs k x → slice_get ys k ≡ Some x
item xs ys k x same h e = subst (λ (zs : List Instruction). slice_get zs k ≡ Some x) same (slice_get_read xs (length xs) k x refl h e)

pub within : (xs ys : List Instruction) (k : ℕ) → xs ≡ ys → k < length xs → k < length ys
within xs ys k same h = subst (λ (zs : List Instruction). k < length zs) same h

pub op_here : (is : List Instruction) (k : ℕ) (i : Instruction) → slice_get is k ≡ Some i → op_at is k ≡ Some i.op
op_here is k i e = ap (option_map (λ j. j.op)) e

-- ---- the words of an image that fits

pub body_fits : End → (is : List Instruction) → 5 + length (body_words is) < 2 ^ 64 → word_of is (length is) < 2 ^ 64
body_fits end is h = let e = end (record { bound = 0; instructions = is }) in omega (arith, e)

pub image_fits : End → (image : Image) → length (image_words image) < 2 ^ 64 → word_of image.instructions (length image.instructions) < 2 ^ 64
image_fits end image h = omega (arith, end image)

-- the next instruction begins at a word that can be counted
pub fits : Next → Grow → (is : List Instruction) (k : ℕ) (i : Instruction) (x : Cursor) → x ≡ cursor_at is k → slice_get is k ≡ Some i
    → k < length is → word_of is (length is) < 2 ^ 64 → x.place + suc (length i.operands) < 2 ^ 64
fits next grow is k i x at here h total =
    let place_is : x.place ≡ word_of is k = ap (λ c. c.place) at in
    let more : suc k ≤ length is = omega arith in
    omega (arith, next is k i here, grow is (suc k) (length is) more, place_is)

pub one_on : (is : List Instruction) (k : ℕ) (x : Cursor) → x ≡ cursor_at is (suc k) → x ≡ cursor_at is (k + 1)
one_on is k x e = subst (λ (n : ℕ). x ≡ cursor_at is n) (sym (add-one k)) e

-- ---- the first fault

abbrev pub Found : Type 0
Found = (is : List Instruction) (wrong : ℕ → Bool) (k : ℕ) → k ≤ length is → IsTrue (wrong k)
    → ((j : ℕ) → j < k → wrong j ≡ false) → IsFirst (FaultAt is wrong) (Some (word_of is k))

abbrev pub Clean : Type 0
Clean = (is : List Instruction) (wrong : ℕ → Bool) → ((j : ℕ) → j ≤ length is → wrong j ≡ false) → IsFirst (FaultAt is wrong) None

pub found_here : Found → (is : List Instruction) (wrong : ℕ → Bool) (k : ℕ) (x : Cursor) → x ≡ cursor_at is k → k ≤ length is
    → IsTrue (wrong k) → ((j : ℕ) → j < k → wrong j ≡ false) → IsFirst (FaultAt is wrong) (Some x.place)
found_here law is wrong k x at h here before =
    subst (λ (place : ℕ). IsFirst (FaultAt is wrong) (Some place)) (sym (ap (λ c. c.place) at)) (law is wrong k h here before)

-- the same where nothing is wrong up to the end
pub not_at_all : (wrong : ℕ → Bool) (k n : ℕ) → n ≤ k → ((j : ℕ) → j < k → wrong j ≡ false) → wrong k ≡ false → (j : ℕ) → j ≤ n → wrong j ≡ false
not_at_all wrong k n h before here j below = elim (cases_lt j k) [ inl l ↦ before j l | inr g ↦ (let same : k ≡ j = omega arith in subst (λ (m : ℕ). wrong m ≡ false) same here) ]

-- ---- the end of a walk

pub up_to : (xs ys : List Instruction) (k : ℕ) → xs ≡ ys → k ≤ length xs → k ≤ length ys
up_to xs ys k same h = subst (λ (zs : List Instruction). k ≤ length zs) same h

pub from_end : (xs ys : List Instruction) (k : ℕ) → xs ≡ ys → length xs ≤ k → length ys ≤ k
from_end xs ys k same h = subst (λ (zs : List Instruction). length zs ≤ k) same h

pub no_op : (is : List Instruction) (k : ℕ) → length is ≤ k → op_at is k ≡ None
no_op is k h = ap (option_map (λ j. j.op)) (slice_get_past is k h)
