-- What the program keeps of a scan.
use Rattle.std.specs.Prelude.{List}
use Rattle.type_reading.specs.declared.steps.Open.{Open}
use Rattle.type_reading.specs.declared.steps.Awaited.{Awaited}
use Rattle.type_reading.specs.declared.scanning.Next.{Next}
use Rattle.type_reading.specs.declared.scanning.Next.TheVariants.{Goes, Ended, Refused}
use Rattle.type_reading.specs.Scanning.{Move, Go, Wrong, Finish}

-- the move that it tells, with what is open and awaited behind it
abbrev pub reached : Next → List Open → Awaited → Move
reached Goes s w = Go s w
reached Ended s w = Finish
reached Refused s w = Wrong
