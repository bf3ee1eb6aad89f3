-- Words spell an image or have a first fault.
use Rattle.std.proofs.Common.{◌≡◌, ℕ, zero, suc, ◌+◌, ◌-◌, ◌/◌, ◌%◌, ◌^◌, ◌<◌, ◌≤◌, ◌⊎◌, inl, inr, List, [], ◌∷◌, ◌++◌, length, take, drop, slice_index, All, Option, Some, None, refl, sym, ap, ◌∙◌, append_assoc, length-append, length-drop, arith}
use Rattle.std.proofs.lemmas.List.{length-take-le}
use Rattle.std.proofs.lemmas.List.Elements.{All-head, All-tail, All-drop}
use Rattle.std.proofs.lemmas.Bool.{cases_lt}
use Rattle.spirv_words.specs.declared.opcodes.Op.{Op}
use Rattle.spirv_words.specs.declared.images.Instruction.{Instruction}
use Rattle.spirv_words.specs.declared.images.Image.{Image}
use Rattle.spirv_words.specs.declared.faults.ImageCode.{ImageCode}
use Rattle.spirv_words.specs.declared.faults.ImageCode.TheVariants.{Short, Header, Opcode, Operands}
use Rattle.spirv_words.specs.Opcodes.{op_number}
use Rattle.spirv_words.specs.Words.{instruction_words, body_words, IsInstruction, AreInstructions, Spells}
use Rattle.spirv_words.specs.Misfits.{misfit}
use Rattle.spirv_words.specs.Unread.{wrong_header, BeginsWrong, UnknownOpcode, PassesEnd, NoLength, Misfits, BreaksOff, FirstUnread, NoHeader, WrongHeader, WrongInstruction}
use Rattle.spirv_words.proofs.Fitting.{fit}
use Rattle.spirv_words.proofs.Numbers.{numbered}
use Rattle.spirv_words.proofs.OneInstruction.{spelled_from}
use Rattle.spirv_words.proofs.Answered.{spelled_whole}

-- a word and those after it begin with an instruction
pub record Begins (first : ℕ) (after : List ℕ) : Type 0 where
  pub instruction : Instruction
  pub is_one : IsInstruction instruction
  pub words_are : first ∷ after ≡ instruction_words instruction ++ drop (length instruction.operands) after

pub record Wrong (first : ℕ) (after : List ℕ) : Type 0 where
  pub offset : ℕ
  pub code : ImageCode
  pub wrong : BeginsWrong first after offset code

-- with operands of which none, or this one, is wrong
judged : (first : ℕ) (after : List ℕ) (op : Op) (w : Option ℕ) → first < 2 ^ 32 → op_number op ≡ first % 65536 → 0 < first / 65536 → first / 65536 ≤ suc (length after) →
    misfit op (take (first / 65536 - 1) after) ≡ w → Begins first after ⊎ Wrong first after
judged first after op None small n low high m =
    let count : length (take (first / 65536 - 1) after) ≡ first / 65536 - 1 = length-take-le (first / 65536 - 1) after (omega arith) in
    inl (record {
      instruction = record { op = op; operands = take (first / 65536 - 1) after };
      is_one = record { layout = fit op (take (first / 65536 - 1) after) m; short = omega arith };
      words_are = spelled_from (op_number op) first (take (first / 65536 - 1) after) after n refl low (omega arith);
    })
judged first after op (Some offset) small n low high m =
    inr (record { offset = offset; code = Operands; wrong = Misfits op (first / 65536 - 1) n (omega arith) (omega arith) m refl })

with_opcode : (first : ℕ) (after : List ℕ) (op : Op) → first < 2 ^ 32 → op_number op ≡ first % 65536 → Begins first after ⊎ Wrong first after
with_opcode first after op small n =
    elim (cases_lt (suc (length after)) (first / 65536)) [
      | inl past ↦ inr (record { offset = 0; code = Short; wrong = PassesEnd op n past refl refl })
      | inr within ↦ elim (cases_lt 0 (first / 65536)) [
        | inl some ↦ judged first after op (misfit op (take (first / 65536 - 1) after)) small n some within refl
        | inr none ↦ inr (record { offset = 0; code = Operands; wrong = NoLength op n (omega arith) refl refl })
      ]
    ]

begins : (first : ℕ) (after : List ℕ) → first < 2 ^ 32 → Begins first after ⊎ Wrong first after
begins first after small =
    elim (numbered (first % 65536)) [
      | inl known ↦ with_opcode first after known.0 small known.1
      | inr unknown ↦ inr (record { offset = 0; code = Opcode; wrong = UnknownOpcode unknown refl refl })
    ]

pub record Body (words : List ℕ) : Type 0 where
  pub instructions : List Instruction
  pub are_some : AreInstructions instructions
  pub words_are : words ≡ body_words instructions

pub record Broken (words : List ℕ) : Type 0 where
  pub place : ℕ
  pub code : ImageCode
  pub breaks : BreaksOff words place code

-- one instruction in front of the others
longer : (first : ℕ) (after : List ℕ) (b : Begins first after) → Body (drop (length b.instruction.operands) after) ⊎ Broken (drop (length b.instruction.operands) after) →
    Body (first ∷ after) ⊎ Broken (first ∷ after)
longer first after b (inl rest) = inl (record {
  instructions = b.instruction ∷ rest.instructions;
  are_some = (b.is_one, rest.are_some);
  words_are = b.words_are ∙ ap (λ ws. instruction_words b.instruction ++ ws) rest.words_are;
})
longer first after b (inr rest) =
    let breaks = rest.breaks in
    inr (record {
      place = length (instruction_words b.instruction) + rest.place;
      code = rest.code;
      breaks = record {
        good = b.instruction ∷ breaks.good;
        first = breaks.first;
        after = breaks.after;
        offset = breaks.offset;
        are_instructions = (b.is_one, breaks.are_instructions);
        words_are = b.words_are ∙ ap (λ ws. instruction_words b.instruction ++ ws) breaks.words_are
            ∙ sym (append_assoc (instruction_words b.instruction) (body_words breaks.good) (breaks.first ∷ breaks.after));
        wrong = breaks.wrong;
        place_is = omega (arith, breaks.place_is, length-append (instruction_words b.instruction) (body_words breaks.good));
      };
    })

-- instructions to the end, or up to one that begins wrong
body : (fuel : ℕ) (words : List ℕ) → length words ≤ fuel → All (λ w. w < 2 ^ 32) words → Body words ⊎ Broken words
body fuel [] short small = inl (record { instructions = []; are_some = tt; words_are = refl })
body zero (w ∷ ws) short small = absurd (omega arith)
body (suc fuel) (w ∷ ws) short small =
    elim (begins w ws (All-head (λ w. w < 2 ^ 32) w ws small)) [
      | inl b ↦ longer w ws b (body fuel (drop (length b.instruction.operands) ws) (omega (arith, length-drop (length b.instruction.operands) ws)) (All-drop (λ w. w < 2 ^ 32) (length b.instruction.operands) ws (All-tail (λ w. w < 2 ^ 32) w ws small)))
      | inr bad ↦ inr (record {
        place = bad.offset;
        code = bad.code;
        breaks = record { good = []; first = w; after = ws; offset = bad.offset; are_instructions = tt; words_are = refl; wrong = bad.wrong; place_is = omega arith };
      })
    ]

pub record Spelled (words : List ℕ) : Type 0 where
  pub image : Image
  pub spells : Spells words image

pub record Unread (words : List ℕ) : Type 0 where
  pub place : ℕ
  pub code : ImageCode
  pub first : FirstUnread words place code

with_header : (words : List ℕ) (w : Option ℕ) → All (λ w. w < 2 ^ 32) words → 5 ≤ length words → wrong_header words ≡ w → Spelled words ⊎ Unread words
with_header words (Some k) small long h = inr (record { place = k; code = Header; first = WrongHeader long h refl })
with_header words None small long h =
    elim (body (length words) (drop 5 words) (omega (arith, length-drop 5 words)) (All-drop (λ w. w < 2 ^ 32) 5 words small)) [
      | inl b ↦ inl (record { image = record { bound = slice_index words 3; instructions = b.instructions }; spells = spelled_whole words b.instructions long (sym h) b.words_are b.are_some })
      | inr b ↦ inr (record { place = 5 + b.place; code = b.code; first = WrongInstruction b.place long h b.breaks refl })
    ]

pub one_or_other : (words : List ℕ) → All (λ w. w < 2 ^ 32) words → Spelled words ⊎ Unread words
one_or_other words small =
    elim (cases_lt (length words) 5) [
      | inl short ↦ inr (record { place = length words; code = Short; first = NoHeader short refl refl })
      | inr long ↦ with_header words (wrong_header words) small long refl
    ]
