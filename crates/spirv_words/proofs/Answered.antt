-- What the two outcomes of a reading come to.
use Rattle.std.proofs.Common.{◌≡◌, ℕ, ◌≤◌, Bool, true, false, not, nat_eq, List, [], ◌∷◌, length, drop, slice_index, Option, None, Result, Ok, Err, IfOk, refl, sym, ap, subst, arith}
use Rattle.std.proofs.lemmas.Bool.{eqb-true}
use Rattle.spirv_words.specs.declared.images.Instruction.{Instruction}
use Rattle.spirv_words.specs.declared.images.Image.{Image}
use Rattle.spirv_words.specs.declared.faults.ImageCode.{ImageCode}
use Rattle.spirv_words.specs.declared.faults.ImageFault.{ImageFault}
use Rattle.spirv_words.specs.declared.faults.ImageFault.TheVariants.{Refused, Memory}
use Rattle.spirv_words.specs.Words.{body_words, AreInstructions, Spells}
use Rattle.spirv_words.specs.Misfits.{unless}
use Rattle.spirv_words.specs.Refusals.{IfRefused, UnlessMemory}
use Rattle.spirv_words.specs.Unread.{wrong_header, FirstUnread}
use Rattle.spirv_words.proofs.Once.{one_image, no_fault, one_fault}

pub answered_if_spelled : (words : List ℕ) (r : Result Image ImageFault) → IfOk r (λ image. Spells words image) → IfRefused r (λ place code. FirstUnread words place code) →
    (image : Image) → Spells words image → UnlessMemory r (r ≡ Ok image)
answered_if_spelled words (Ok a) h u image s = ap Ok (one_image words a image h s)
answered_if_spelled words (Err (Refused place code)) h u image s = absurd (no_fault words image place code s u)
answered_if_spelled words (Err (Memory e)) h u image s = tt

pub answered_if_unread : (words : List ℕ) (r : Result Image ImageFault) → IfOk r (λ image. Spells words image) → IfRefused r (λ place code. FirstUnread words place code) →
    (place : ℕ) (code : ImageCode) → FirstUnread words place code → UnlessMemory r (r ≡ Err (Refused place code))
answered_if_unread words (Ok a) h u place code f = absurd (no_fault words a place code h f)
answered_if_unread words (Err (Refused p c)) h u place code f =
    let once : (p ≡ place) × (c ≡ code) = one_fault words p place c code u f in
    let at : p ≡ place = once.0 in
    let kind : c ≡ code = once.1 in
    cc
answered_if_unread words (Err (Memory e)) h u place code f = tt

right : (b : Bool) (k : ℕ) (later : Option ℕ) → unless b k later ≡ None → (b ≡ true) × (later ≡ None)
right true k later e = (refl, e)
right false k later e = cc

-- a right header and instructions are the words of an image
pub spelled_whole : (words : List ℕ) (is : List Instruction) → 5 ≤ length words → None ≡ wrong_header words → drop 5 words ≡ body_words is → AreInstructions is →
    Spells words (record { bound = slice_index words 3; instructions = is })
spelled_whole [] is long h e are = absurd (omega arith)
spelled_whole (a ∷ []) is long h e are = absurd (omega arith)
spelled_whole (a ∷ b ∷ []) is long h e are = absurd (omega arith)
spelled_whole (a ∷ b ∷ c ∷ []) is long h e are = absurd (omega arith)
spelled_whole (a ∷ b ∷ c ∷ d ∷ []) is long h e are = absurd (omega arith)
spelled_whole (a ∷ b ∷ c ∷ d ∷ s ∷ rest) is long h e are =
    let magic = right (nat_eq a 119734787) 0 _ (sym h) in
    let version = right (nat_eq b 66816) 1 _ magic.1 in
    let generator = right (nat_eq c 0) 2 _ version.1 in
    let bound = right (not (nat_eq d 0)) 3 _ generator.1 in
    let schema = right (nat_eq s 0) 4 _ bound.1 in
    let a_is : a ≡ 119734787 = eqb-true a 119734787 magic.0 in
    let b_is : b ≡ 66816 = eqb-true b 66816 version.0 in
    let c_is : c ≡ 0 = eqb-true c 0 generator.0 in
    let s_is : s ≡ 0 = eqb-true s 0 schema.0 in
    record {
      can_be = record { bound = not_zero d bound.0; instructions = are };
      are = cc;
    } where
      not_zero : (n : ℕ) → not (nat_eq n 0) ≡ true → n ≡ 0 → ⊥
      not_zero n e z = let no : not (nat_eq 0 0) ≡ true = subst (λ k. not (nat_eq k 0) ≡ true) z e in cc
