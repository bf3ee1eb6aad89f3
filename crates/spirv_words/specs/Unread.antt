-- Why words spell no image: the first thing that is wrong with them, and its place, counted in words from the first.
use Rattle.std.specs.Prelude.{◌≡◌, ◌≢◌, ℕ, suc, ◌+◌, ◌/◌, ◌%◌, ◌<◌, ◌≤◌, not, nat_eq, List, ◌∷◌, ◌++◌, length, take, drop, slice_index, Option, Some, None}
use Rattle.spirv_words.specs.declared.opcodes.Op.{Op}
use Rattle.spirv_words.specs.declared.images.Instruction.{Instruction}
use Rattle.spirv_words.specs.declared.faults.ImageCode.{ImageCode}
use Rattle.spirv_words.specs.declared.faults.ImageCode.TheVariants.{Short, Header, Opcode, Operands}
use Rattle.spirv_words.specs.Opcodes.{op_number}
use Rattle.spirv_words.specs.Words.{body_words, AreInstructions}
use Rattle.spirv_words.specs.Misfits.{unless, misfit}

-- the first word of a header that is not the magic number, version 1.5, generator 0, a bound other than 0, or schema 0
abbrev pub wrong_header : List ℕ → Option ℕ
wrong_header ws =
    unless (nat_eq (slice_index ws 0) 119734787) 0
    (unless (nat_eq (slice_index ws 1) 66816) 1
    (unless (nat_eq (slice_index ws 2) 0) 2
    (unless (not (nat_eq (slice_index ws 3) 0)) 3
    (unless (nat_eq (slice_index ws 4) 0) 4 None))))

-- no instruction begins with this word and goes on with those after it; the wrong word stands so many words behind the first.
-- The first word's low 16 bits are the opcode, and its high ones the instruction's number of words.
pub data BeginsWrong (first : ℕ) (after : List ℕ) (offset : ℕ) (code : ImageCode) : Type 0 where
  UnknownOpcode : ((op : Op) → op_number op ≢ first % 65536) → offset ≡ 0 → code ≡ Opcode → BeginsWrong first after offset code
  PassesEnd : (op : Op) → op_number op ≡ first % 65536 → suc (length after) < first / 65536 → offset ≡ 0 → code ≡ Short → BeginsWrong first after offset code
  NoLength : (op : Op) → op_number op ≡ first % 65536 → first / 65536 ≡ 0 → offset ≡ 0 → code ≡ Operands → BeginsWrong first after offset code
  Misfits : (op : Op) (count : ℕ) → op_number op ≡ first % 65536 → first / 65536 ≡ suc count → count ≤ length after → misfit op (take count after) ≡ Some offset → code ≡ Operands → BeginsWrong first after offset code

-- the words are those of instructions, and then comes one that begins wrong; the wrong word stands so many words behind the first
pub record BreaksOff (words : List ℕ) (place : ℕ) (code : ImageCode) : Type 0 where
  pub good : List Instruction
  pub first : ℕ
  pub after : List ℕ
  pub offset : ℕ
  pub are_instructions : AreInstructions good
  pub words_are : words ≡ body_words good ++ first ∷ after
  pub wrong : BeginsWrong first after offset code
  pub place_is : place ≡ length (body_words good) + offset

-- the words spell no image, and this is the first reason: fewer words than a header has, a wrong word in it, or an
-- instruction that begins wrong
pub data FirstUnread (words : List ℕ) (place : ℕ) (code : ImageCode) : Type 0 where
  NoHeader : length words < 5 → place ≡ length words → code ≡ Short → FirstUnread words place code
  WrongHeader : 5 ≤ length words → wrong_header words ≡ Some place → code ≡ Header → FirstUnread words place code
  WrongInstruction : (behind : ℕ) → 5 ≤ length words → wrong_header words ≡ None → BreaksOff (drop 5 words) behind code → place ≡ 5 + behind → FirstUnread words place code
