-- A declaration of locals or a change, as the program has it and as the descent has it.
use Rattle.std.specs.Prelude.{Result, Ok, Err}
use Rattle.slang_reading.specs.declared.faults.Fault.{Fault}
use Rattle.statement_grammar.specs.StatementsDescent as descent
use Rattle.statement_reading.specs.declared.parts.SimpleStatement.{SimpleStatement}
use Rattle.statement_reading.specs.declared.parts.SimpleStatement.TheVariants.{Local, Change}

abbrev pub meant : SimpleStatement → descent.Simple
meant (Local x) = descent.IsLocal x
meant (Change x) = descent.IsChange x

-- an answer of the program as one of the descent
abbrev pub answer : Result SimpleStatement Fault → Result descent.Simple Fault
answer (Ok x) = Ok (meant x)
answer (Err e) = Err e
