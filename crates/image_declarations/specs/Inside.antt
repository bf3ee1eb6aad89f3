-- What a `Decorations` shows.
use Rattle.std.specs.Prelude.{List}
use Rattle.spirv_words.specs.declared.images.Instruction.{Instruction}
use Rattle.image_declarations.specs.declared.decorations.Decorations.TheInside.{Inside}
use Rattle.image_declarations.specs.Decorations.{Marks, MemberMarks}

abbrev pub decorated_code : Inside → List Instruction
decorated_code d = d.code.now

pub record AreMarked (d : Inside) : Type 0 where
  pub marks : Marks d.marks d.code.now 0
  pub members : MemberMarks d.members d.code.now 0
