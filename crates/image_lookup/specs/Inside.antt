-- What a `Definitions` shows.
use Rattle.std.specs.Prelude.{List}
use Rattle.spirv_words.specs.declared.images.Instruction.{Instruction}
use Rattle.image_lookup.specs.declared.definitions.Definitions.TheInside.{Inside}
use Rattle.image_lookup.specs.Places.{Finds}

abbrev pub code_of : Inside → List Instruction
code_of d = d.code.now

pub record IsFound (d : Inside) : Type 0 where
  pub found : Finds d.places d.code.now 0
