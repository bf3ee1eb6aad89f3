-- What an image says of its entry.
use Rattle.std.specs.Prelude.{ℕ, nat_eq, cond, List, [], ◌∷◌, drop, slice_index}
use Rattle.spirv_words.specs.declared.opcodes.Op.{Op}
use Rattle.spirv_words.specs.declared.opcodes.Op.TheVariants.{EntryPoint, ExecutionMode}
use Rattle.spirv_words.specs.declared.images.Instruction.{Instruction}
use Rattle.spirv_words.specs.Opcodes.{op_number}
use Rattle.spirv_words.specs.Bytes.{bytes_of_words}

-- the operands of the first instruction with this opcode
abbrev pub first_operands : Op → List Instruction → List ℕ
first_operands op [] = []
first_operands op (i ∷ is) = cond (nat_eq (op_number i.op) (op_number op)) i.operands (first_operands op is)

abbrev pub before_zero : List ℕ → List ℕ
before_zero [] = []
before_zero (b ∷ bs) = cond (nat_eq b 0) [] (b ∷ before_zero bs)

-- the bytes of the entry point's name: those of its words, behind the model and the function, up to the first 0
abbrev pub entry_name : List Instruction → List ℕ
entry_name is = before_zero (bytes_of_words (drop 2 (first_operands EntryPoint is)))

-- the three sizes of a group
abbrev pub group_size : List Instruction → List ℕ
group_size is =
    slice_index (first_operands ExecutionMode is) 2 ∷ slice_index (first_operands ExecutionMode is) 3
    ∷ slice_index (first_operands ExecutionMode is) 4 ∷ []
