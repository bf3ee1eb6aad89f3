-- What an answer says that may be a refusal of a text.
use Rattle.std.specs.Prelude.{ℕ, Result, Ok, Err}
use Rattle.slang_names.specs.declared.faults.RunCause.TheVariants.{NoEntry, BufferText, DispatchLimit, BufferMissing}
use Rattle.run_buffers.specs.declared.faults.RunFault.{RunFault}
use Rattle.run_buffers.specs.declared.faults.RunFault.TheVariants.{Refused, Undefined, Budget, Memory}

-- what holds of the place of a refused text; no other refusal is one
abbrev pub OfTextFault : RunFault → (ℕ → Type 0) → Type 0
OfTextFault (Refused (BufferText place)) P = P place
OfTextFault (Refused NoEntry) P = ⊥
OfTextFault (Refused (DispatchLimit product)) P = ⊥
OfTextFault (Refused (BufferMissing set binding)) P = ⊥
OfTextFault (Undefined invocation step) P = ⊥
OfTextFault (Budget invocation) P = ⊥
OfTextFault (Memory e) P = Unit {0}

abbrev pub IfTextRefused : {A : Type 0} → Result A RunFault → (ℕ → Type 0) → Type 0
IfTextRefused (Ok a) P = Unit {0}
IfTextRefused (Err fault) P = OfTextFault fault P

-- what holds where there was memory
abbrev pub UnlessWant : RunFault → Type 0 → Type 0
UnlessWant (Refused cause) P = P
UnlessWant (Undefined invocation step) P = P
UnlessWant (Budget invocation) P = P
UnlessWant (Memory e) P = Unit {0}

abbrev pub UnlessMemory : {A : Type 0} → Result A RunFault → Type 0 → Type 0
UnlessMemory (Ok a) P = P
UnlessMemory (Err fault) P = UnlessWant fault P
