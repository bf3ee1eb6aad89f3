-- Valid images, as lists of instructions.
use Rattle.std.specs.Prelude.{◌≡◌, List}
use Rattle.spirv_words.specs.declared.images.Instruction.{Instruction}
use Rattle.spirv_words.specs.declared.images.Image.{Image}
use Rattle.spirv_check.specs.Valid.{Valid}

-- instructions of a valid image
pub record IsOfValid (code : List Instruction) : Type 0 where
  pub image : Image
  pub valid : Valid image
  pub same : image.instructions ≡ code
