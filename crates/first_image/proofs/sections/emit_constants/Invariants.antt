use Rattle.std.proofs.Common.{◌≡◌, ◌++◌, take}
use Rattle.first_image.specs.Sections.{constants_code}
use Rattle.first_image.proofs.sections.emit_constants.Given as goal

abbrev pub invariant-loop-i : goal.invariant-loop-i
invariant-loop-i l = l.code ≡ l.fn.code ++ constants_code 13 (take l.i l.numbers)
