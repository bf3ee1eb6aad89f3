-- The exit status of each outcome.
use Rattle.std.specs.Prelude.{ℕ}
use Rattle.slang_outcomes.specs.declared.outcome.Outcome.{Outcome}
use Rattle.slang_outcomes.specs.declared.outcome.Outcome.TheVariants.{Done, ModuleRefused, LinkRefused, Words, ReadFault, WriteFault, Memory, Undefined, Budget, Absent, FormRefused, ImageRefused, InputRefused}

abbrev pub status_of : Outcome → ℕ
status_of Done = 0
status_of (ModuleRefused home place code) = 1
status_of (LinkRefused cause) = 2
status_of Words = 3
status_of ReadFault = 4
status_of WriteFault = 5
status_of Memory = 6
status_of (Undefined invocation step) = 7
status_of (Budget invocation) = 8
status_of (Absent name) = 9
status_of (FormRefused name place code) = 10
status_of (ImageRefused place code) = 11
status_of (InputRefused cause) = 12
