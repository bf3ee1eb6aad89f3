-- One instruction of the words.
use Rattle.std.proofs.Common.{◌≡◌, ℕ, ◌+◌, ◌-◌, ◌*◌, ◌/◌, ◌%◌, ◌≤◌, List, [], ◌∷◌, ◌++◌, length, take, drop, refl, sym, ap, ◌∙◌, append_assoc, length-append, length-drop, arith}
use Rattle.std.proofs.lemmas.List.{take-append-drop, length-take-le, take_rest}
use Rattle.spirv_words.specs.declared.images.Instruction.{Instruction}
use Rattle.spirv_words.specs.declared.faults.ImageCode.{ImageCode}
use Rattle.spirv_words.specs.declared.faults.ImageFault.{ImageFault}
use Rattle.spirv_words.specs.declared.faults.ImageFault.TheVariants.{Refused, Memory}
use Rattle.spirv_words.specs.Words.{instruction_words, body_words, IsInstruction, AreInstructions}
use Rattle.spirv_words.specs.Refusals.{OfRefusal}
use Rattle.spirv_words.specs.Unread.{BeginsWrong, BreaksOff}
use Rattle.spirv_words.proofs.Written.{body_words-push, AreInstructions-push}

-- a first word, and as many of the words after it as it says
pub spelled_from : (number first : ℕ) (operands after : List ℕ) → number ≡ first % 65536 → operands ≡ take (first / 65536 - 1) after →
    1 ≤ first / 65536 → first / 65536 ≤ length after + 1 →
    first ∷ after ≡ ((length operands + 1) * 65536 + number) ∷ (operands ++ drop (length operands) after)
spelled_from number first operands after n e low high =
    let short : first / 65536 - 1 ≤ length after = omega arith in
    let count : length operands ≡ first / 65536 - 1 = ap length e ∙ length-take-le (first / 65536 - 1) after short in
    let word : first ≡ (length operands + 1) * 65536 + number = omega arith in
    let rest : operands ++ drop (length operands) after ≡ after =
    ap (λ os. os ++ drop (length operands) after) e ∙ ap (λ n. take (first / 65536 - 1) after ++ drop n after) count ∙ take-append-drop (first / 65536 - 1) after in
    cc

-- the words with one instruction more
pub one_read : (words rest after : List ℕ) (first n : ℕ) (is new : List Instruction) (i : Instruction) →
    words ≡ body_words is ++ rest → rest ≡ first ∷ after → first ∷ after ≡ instruction_words i ++ drop (length i.operands) after →
    n ≡ length i.operands → new ≡ is ++ i ∷ [] →
    words ≡ body_words new ++ take (length after - n) (drop n after)
one_read words rest after first n is new i w r f c e =
    w ∙ ap (λ ws. body_words is ++ ws) (r ∙ f)
    ∙ sym (append_assoc (body_words is) (instruction_words i) (drop (length i.operands) after))
    ∙ ap (λ ws. ws ++ drop (length i.operands) after) (sym (ap body_words e ∙ body_words-push is i))
    ∙ ap (λ ws. body_words new ++ ws) (ap (λ k. drop k after) (sym c) ∙ sym (take_rest after n))

pub all_read : (is new : List Instruction) (i : Instruction) → new ≡ is ++ i ∷ [] → AreInstructions is → IsInstruction i → AreInstructions new
all_read is new i e are one = rw e (AreInstructions-push is i are one)

-- where an instruction begins wrong, the words break off
pub breaks_off : (words rest after : List ℕ) (first place at offset : ℕ) (code : ImageCode) (is : List Instruction) → 5 ≤ length words →
    drop 5 words ≡ body_words is ++ rest → rest ≡ first ∷ after → AreInstructions is → place ≡ length words - length rest →
    at ≡ place + offset → BeginsWrong first after offset code →
    (behind : ℕ) × (at ≡ 5 + behind) × BreaksOff (drop 5 words) behind code
breaks_off words rest after first place at offset code is five w r are p a wrong =
    let lengths : length words - 5 ≡ length (body_words is) + length rest = sym (length-drop 5 words) ∙ ap length w ∙ length-append (body_words is) rest in (
      length (body_words is) + offset,
      omega arith,
      record {
        good = is;
        first = first;
        after = after;
        offset = offset;
        are_instructions = are;
        words_are = w ∙ ap (λ ws. body_words is ++ ws) r;
        wrong = wrong;
        place_is = refl;
      },
    )

-- the same fault, with something else known of it
pub refused_so : (fault : ImageFault) (P Q : ℕ → ImageCode → Type 0) → ((place : ℕ) (code : ImageCode) → P place code → Q place code) →
    OfRefusal fault P → OfRefusal fault Q
refused_so (Refused place code) P Q so h = so place code h
refused_so (Memory e) P Q so h = tt
