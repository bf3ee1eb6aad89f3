-- What a `Declarations` shows.
use Rattle.std.specs.Prelude.{◌≡◌, List}
use Rattle.spirv_words.specs.declared.images.Instruction.{Instruction}
use Rattle.image_declarations.specs.declared.declarations.Declarations.TheInside.{Inside}
use Rattle.image_declarations.specs.Reach.{Reaches, Wraps}
use Rattle.image_declarations.specs.Types.{Tells}

abbrev pub declared_code : Inside → List Instruction
declared_code d = d.definitions

pub record AreDeclared (d : Inside) : Type 0 where
  pub decorations : d.decorations ≡ d.definitions
  pub facts : Tells d.facts d.definitions
  pub reached : Reaches d.reached d.definitions d.definitions
  pub wrappers : Wraps d.wrappers d.definitions d.definitions
