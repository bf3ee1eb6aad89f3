-- Words spell at most one image, or have one first fault, and never both.
use Rattle.std.proofs.Common.{◌≡◌, ◌≢◌, ℕ, zero, suc, ◌+◌, ◌*◌, List, [], ◌∷◌, ◌++◌, length, take, drop, Some, None, refl, sym, ap, ◌∙◌, subst, append_assoc, length-append, not, nat_eq, arith}
use Rattle.std.proofs.Math.Dec.{eqb-suc-zero}
use Rattle.std.proofs.Math.Seq.{take-append_seam}
use Rattle.spirv_words.specs.declared.opcodes.Op.{Op}
use Rattle.spirv_words.specs.declared.images.Instruction.{Instruction}
use Rattle.spirv_words.specs.declared.images.Image.{Image}
use Rattle.spirv_words.specs.declared.faults.ImageCode.{ImageCode}
use Rattle.spirv_words.specs.Opcodes.{op_number}
use Rattle.spirv_words.specs.Words.{instruction_words, body_words, image_words, IsInstruction, AreInstructions, Spells}
use Rattle.spirv_words.specs.Misfits.{unless, misfit}
use Rattle.spirv_words.specs.Unread.{wrong_header, BeginsWrong, UnknownOpcode, PassesEnd, NoLength, Misfits, FirstUnread, NoHeader, WrongHeader, WrongInstruction}
use Rattle.spirv_words.proofs.Fitting.{none_wrong}
use Rattle.spirv_words.proofs.Numbers.{op_number-small, op_number-injective}

-- ---- lists

append-same : (a b x y : List ℕ) → length a ≡ length b → a ++ x ≡ b ++ y → (a ≡ b) × (x ≡ y)
append-same [] [] x y n e = (refl, e)
append-same [] (d ∷ ds) x y n e = absurd (omega arith)
append-same (c ∷ cs) [] x y n e = absurd (omega arith)
append-same (c ∷ cs) (d ∷ ds) x y n e =
    let head : c ≡ d = cc in
    let rest : (cs ≡ ds) × (x ≡ y) = append-same cs ds x y (omega arith) (cc) in
    let tail : cs ≡ ds = rest.0 in
    (cc, rest.1)

-- ---- one instruction

same_instruction : (a b : Instruction) → a.op ≡ b.op → a.operands ≡ b.operands → a ≡ b
same_instruction a b e f =
    let make : Op → List ℕ → Instruction = λ op operands. record { op = op; operands = operands } in
    ap (λ op. make op a.operands) e ∙ ap (λ operands. make b.op operands) f

pub same_first : (a b : Instruction) (x y : List ℕ) → instruction_words a ++ x ≡ instruction_words b ++ y → (a ≡ b) × (x ≡ y)
same_first a b x y e =
    let first : (length a.operands + 1) * 65536 + op_number a.op ≡ (length b.operands + 1) * 65536 + op_number b.op = cc in
    let small = op_number-small a.op in
    let small' = op_number-small b.op in
    let op : a.op ≡ b.op = op_number-injective a.op b.op (omega arith) in
    let after : a.operands ++ x ≡ b.operands ++ y = cc in
    let rest : (a.operands ≡ b.operands) × (x ≡ y) = append-same a.operands b.operands x y (omega arith) after in
    (same_instruction a b op rest.0, rest.1)

-- operands that fit do not misfit
fits_not_misfits : (i : Instruction) (op : Op) (count offset : ℕ) (after rest : List ℕ) → IsInstruction i → op ≡ i.op → count ≡ length i.operands →
    after ≡ i.operands ++ rest → misfit op (take count after) ≡ Some offset → ⊥
fits_not_misfits i op count offset after rest is same all behind m =
    let operands : take count after ≡ i.operands = ap (λ n. take n after) all ∙ ap (λ ws. take (length i.operands) ws) behind ∙ take-append_seam i.operands rest in
    let none : misfit i.op i.operands ≡ None = none_wrong i.op i.operands is.layout in
    let some : misfit i.op i.operands ≡ Some offset = sym (ap (λ o. misfit o (take count after)) same ∙ ap (λ os. misfit i.op os) operands) ∙ m in
    cc

-- an instruction does not begin wrong
begins_right : (i : Instruction) (first : ℕ) (after rest : List ℕ) (offset : ℕ) (code : ImageCode) → IsInstruction i →
    first ∷ after ≡ instruction_words i ++ rest → BeginsWrong first after offset code → ⊥
begins_right i first after rest offset code is e wrong =
    let word : first ≡ (length i.operands + 1) * 65536 + op_number i.op = cc in
    let behind : after ≡ i.operands ++ rest = cc in
    let long : length after ≡ length i.operands + length rest = ap length behind ∙ length-append i.operands rest in
    let small = op_number-small i.op in
    elim wrong [
      | UnknownOpcode none o c ↦ none i.op (omega arith)
      | PassesEnd op n lt o c ↦ omega arith
      | NoLength op n z o c ↦ omega arith
      | Misfits op count n l le m c ↦ fits_not_misfits i op count offset after rest is (op_number-injective op i.op (omega arith)) (omega arith) behind m
    ]

same_misfit : (p q : Op) (m n a b : ℕ) (after : List ℕ) → p ≡ q → m ≡ n → misfit p (take m after) ≡ Some a → misfit q (take n after) ≡ Some b → a ≡ b
same_misfit p q m n a b after e f g h =
    let both : Some a ≡ Some b = sym g ∙ ap (λ o. misfit o (take m after)) e ∙ ap (λ k. misfit q (take k after)) f ∙ h in
    cc

-- a beginning is wrong in one way
wrong_once : (first : ℕ) (after : List ℕ) (a b : ℕ) (c d : ImageCode) → BeginsWrong first after a c → BeginsWrong first after b d → (a ≡ b) × (c ≡ d)
wrong_once first after a b c d (UnknownOpcode none o e) (UnknownOpcode none' o' e') = (cc, cc)
wrong_once first after a b c d (UnknownOpcode none o e) (PassesEnd op n lt o' e') = absurd (none op n)
wrong_once first after a b c d (UnknownOpcode none o e) (NoLength op n z o' e') = absurd (none op n)
wrong_once first after a b c d (UnknownOpcode none o e) (Misfits op count n l le m e') = absurd (none op n)
wrong_once first after a b c d (PassesEnd op n lt o e) (UnknownOpcode none' o' e') = absurd (none' op n)
wrong_once first after a b c d (PassesEnd op n lt o e) (PassesEnd op' n' lt' o' e') = (cc, cc)
wrong_once first after a b c d (PassesEnd op n lt o e) (NoLength op' n' z o' e') = absurd (omega arith)
wrong_once first after a b c d (PassesEnd op n lt o e) (Misfits op' count n' l le m e') = absurd (omega arith)
wrong_once first after a b c d (NoLength op n z o e) (UnknownOpcode none' o' e') = absurd (none' op n)
wrong_once first after a b c d (NoLength op n z o e) (PassesEnd op' n' lt o' e') = absurd (omega arith)
wrong_once first after a b c d (NoLength op n z o e) (NoLength op' n' z' o' e') = (cc, cc)
wrong_once first after a b c d (NoLength op n z o e) (Misfits op' count n' l le m e') = absurd (omega arith)
wrong_once first after a b c d (Misfits op count n l le m e) (UnknownOpcode none' o' e') = absurd (none' op n)
wrong_once first after a b c d (Misfits op count n l le m e) (PassesEnd op' n' lt o' e') = absurd (omega arith)
wrong_once first after a b c d (Misfits op count n l le m e) (NoLength op' n' z o' e') = absurd (omega arith)
wrong_once first after a b c d (Misfits op count n l le m e) (Misfits op' count' n' l' le' m' e') =
    (same_misfit op op' count count' a b after (op_number-injective op op' (n ∙ sym n')) (omega arith) m m', cc)

-- ---- the instructions

pub same_body : (is js : List Instruction) → body_words is ≡ body_words js → is ≡ js
same_body [] [] e = refl
same_body [] (j ∷ js) e = cc
same_body (i ∷ is) [] e = cc
same_body (i ∷ is) (j ∷ js) e =
    let first : (i ≡ j) × (body_words is ≡ body_words js) = same_first i j (body_words is) (body_words js) e in
    let head : i ≡ j = first.0 in
    let rest = same_body is js first.1 in
    cc

-- the words of instructions do not break off
body_breaks_not : (good all : List Instruction) (first : ℕ) (after : List ℕ) (offset : ℕ) (code : ImageCode) → AreInstructions all →
    body_words good ++ first ∷ after ≡ body_words all → BeginsWrong first after offset code → ⊥
body_breaks_not [] [] first after offset code are e wrong = cc
body_breaks_not [] (i ∷ is) first after offset code are e wrong = begins_right i first after (body_words is) offset code are.0 e wrong
body_breaks_not (g ∷ gs) [] first after offset code are e wrong = cc
body_breaks_not (g ∷ gs) (i ∷ is) first after offset code are e wrong =
    let joined = sym (append_assoc (instruction_words g) (body_words gs) (first ∷ after)) ∙ e in
    body_breaks_not gs is first after offset code are.1 (same_first g i (body_words gs ++ first ∷ after) (body_words is) joined).1 wrong

-- words break off in one way
breaks_once : (good good' : List Instruction) (first first' : ℕ) (after after' : List ℕ) (a b : ℕ) (c d : ImageCode) → AreInstructions good → AreInstructions good' →
    body_words good ++ first ∷ after ≡ body_words good' ++ first' ∷ after' → BeginsWrong first after a c → BeginsWrong first' after' b d →
    (length (body_words good) + a ≡ length (body_words good') + b) × (c ≡ d)
breaks_once [] [] first first' after after' a b c d are are' e w w' =
    let head : first ≡ first' = cc in
    let tail : after ≡ after' = cc in
    let there : BeginsWrong first' after' a c = subst (λ ws. BeginsWrong first' ws a c) tail (subst (λ n. BeginsWrong n after a c) head w) in
    let once : (a ≡ b) × (c ≡ d) = wrong_once first' after' a b c d there w' in
    (ap (λ n. 0 + n) once.0, once.1)
breaks_once [] (i ∷ is) first first' after after' a b c d are are' e w w' =
    absurd (begins_right i first after (body_words is ++ first' ∷ after') a c are'.0 (e ∙ append_assoc (instruction_words i) (body_words is) (first' ∷ after')) w)
breaks_once (g ∷ gs) [] first first' after after' a b c d are are' e w w' =
    absurd (begins_right g first' after' (body_words gs ++ first ∷ after) b d are.0 (sym e ∙ append_assoc (instruction_words g) (body_words gs) (first ∷ after)) w')
breaks_once (g ∷ gs) (i ∷ is) first first' after after' a b c d are are' e w w' =
    let joined = sym (append_assoc (instruction_words g) (body_words gs) (first ∷ after)) ∙ e ∙ append_assoc (instruction_words i) (body_words is) (first' ∷ after') in
    let split : (g ≡ i) × (body_words gs ++ first ∷ after ≡ body_words is ++ first' ∷ after') = same_first g i (body_words gs ++ first ∷ after) (body_words is ++ first' ∷ after') joined in
    let rest : (length (body_words gs) + a ≡ length (body_words is) + b) × (c ≡ d) = breaks_once gs is first first' after after' a b c d are.1 are'.1 split.1 w w' in
    let words : length (instruction_words g) ≡ length (instruction_words i) = ap (λ x. length (instruction_words x)) split.0 in
    let left = length-append (instruction_words g) (body_words gs) in
    let right = length-append (instruction_words i) (body_words is) in
    (omega arith, rest.1)

-- ---- whole lists of words

-- the header of an image is right
right_header : (words : List ℕ) (image : Image) → Spells words image → wrong_header words ≡ None
right_header words image s = rw s.are (with_bound image.bound s.can_be.bound) where
  with_bound : (n : ℕ) → n ≢ 0 → unless (not (nat_eq n 0)) 3 None ≡ None
  with_bound zero h = absurd (h refl)
  with_bound (suc n) h = rw (eqb-suc-zero n) refl

-- words spell at most one image
pub one_image : (words : List ℕ) (a b : Image) → Spells words a → Spells words b → a ≡ b
one_image words a b s t =
    let both : image_words a ≡ image_words b = sym s.are ∙ t.are in
    let bound : a.bound ≡ b.bound = cc in
    let body : body_words a.instructions ≡ body_words b.instructions = cc in
    let instructions = same_body a.instructions b.instructions body in
    let make : ℕ → List Instruction → Image = λ n is. record { bound = n; instructions = is } in
    ap (λ n. make n a.instructions) bound ∙ ap (λ is. make b.bound is) instructions

-- words that spell an image have no fault
pub no_fault : (words : List ℕ) (image : Image) (place : ℕ) (code : ImageCode) → Spells words image → FirstUnread words place code → ⊥
no_fault words image place code s (NoHeader short p c) =
    let long : length words ≡ suc (suc (suc (suc (suc (length (body_words image.instructions)))))) = ap length s.are in
    absurd (omega arith)
no_fault words image place code s (WrongHeader long w c) =
    let none = right_header words image s in
    cc
no_fault words image place code s (WrongInstruction behind long none b p) =
    let e : body_words b.good ++ b.first ∷ b.after ≡ body_words image.instructions = sym b.words_are ∙ ap (λ ws. drop 5 ws) s.are in
    body_breaks_not b.good image.instructions b.first b.after b.offset code s.can_be.instructions e b.wrong

-- words have at most one first fault
pub one_fault : (words : List ℕ) (p q : ℕ) (c d : ImageCode) → FirstUnread words p c → FirstUnread words q d → (p ≡ q) × (c ≡ d)
one_fault words p q c d (NoHeader short e f) (NoHeader short' e' f') = (cc, cc)
one_fault words p q c d (NoHeader short e f) (WrongHeader long w f') = absurd (omega arith)
one_fault words p q c d (NoHeader short e f) (WrongInstruction behind long none b e') = absurd (omega arith)
one_fault words p q c d (WrongHeader long w f) (NoHeader short e' f') = absurd (omega arith)
one_fault words p q c d (WrongHeader long w f) (WrongHeader long' w' f') =
    let both : Some p ≡ Some q = sym w ∙ w' in
    (cc, cc)
one_fault words p q c d (WrongHeader long w f) (WrongInstruction behind long' none b e') = cc
one_fault words p q c d (WrongInstruction behind long none b e) (NoHeader short e' f') = absurd (omega arith)
one_fault words p q c d (WrongInstruction behind long none b e) (WrongHeader long' w f') = cc
one_fault words p q c d (WrongInstruction behind long none b e) (WrongInstruction behind' long' none' b' e') =
    let once = breaks_once b.good b'.good b.first b'.first b.after b'.after b.offset b'.offset c d b.are_instructions b'.are_instructions (sym b.words_are ∙ b'.words_are) b.wrong b'.wrong in
    let place : length (body_words b.good) + b.offset ≡ length (body_words b'.good) + b'.offset = once.0 in
    (omega (arith, b.place_is, b'.place_is), once.1)
