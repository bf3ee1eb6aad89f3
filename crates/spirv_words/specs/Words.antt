-- How words spell an image (SPIR-V 1.5, section 2.3, the physical layout).
use Rattle.std.specs.Prelude.{◌≡◌, ◌≢◌, ℕ, ◌+◌, ◌*◌, ◌<◌, IsTrue, List, [], ◌∷◌, ◌++◌, length}
use Rattle.spirv_words.specs.declared.images.Instruction.{Instruction}
use Rattle.spirv_words.specs.declared.images.Image.{Image}
use Rattle.spirv_words.specs.Opcodes.{op_number}
use Rattle.spirv_words.specs.Layouts.{fits}

-- an instruction: its number of words and its opcode in one word, then its operands
abbrev pub instruction_words : Instruction → List ℕ
instruction_words i = ((length i.operands + 1) * 65536 + op_number i.op) ∷ i.operands

abbrev pub body_words : List Instruction → List ℕ
body_words [] = []
body_words (i ∷ is) = instruction_words i ++ body_words is

-- the header, which names SPIR-V 1.5 and generator 0, and then the instructions
abbrev pub image_words : Image → List ℕ
image_words image = (119734787 ∷ 66816 ∷ 0 ∷ image.bound ∷ 0 ∷ []) ++ body_words image.instructions

-- the instruction has the operands of its opcode, and its number of words can be told in 16 bits
pub record IsInstruction (i : Instruction) : Type 0 where
  pub layout : IsTrue (fits i.op i.operands)
  pub short : length i.operands < 65535

abbrev pub AreInstructions : List Instruction → Type 0
AreInstructions [] = Unit {0}
AreInstructions (i ∷ is) = IsInstruction i × AreInstructions is

-- some words spell the image
pub record CanBeSpelled (image : Image) : Type 0 where
  pub bound : image.bound ≢ 0
  pub instructions : AreInstructions image.instructions

-- these words spell the image
pub record Spells (words : List ℕ) (image : Image) : Type 0 where
  pub can_be : CanBeSpelled image
  pub are : words ≡ image_words image
