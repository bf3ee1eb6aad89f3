-- A fact for one of the answers of a read or a put.
use Rattle.std.specs.Prelude.{ℕ, List, Result, Ok, Err, ⊤}
use Rattle.slang_store.specs.declared.files.Found.{Found}
use Rattle.slang_store.specs.declared.files.Found.TheVariants.{Bytes, Absent, TooLong}
use Rattle.slang_store.specs.declared.files.FileFault.{FileFault}
use Rattle.slang_store.specs.declared.files.FileFault.TheVariants.{Failed, Memory}

-- a fact of the bytes that were read
abbrev pub IfBytes : Result Found FileFault → (List ℕ → Type 0) → Type 0
IfBytes (Ok (Bytes bytes)) P = P bytes.items
IfBytes (Ok Absent) P = ⊤
IfBytes (Ok TooLong) P = ⊤
IfBytes (Err fault) P = ⊤

-- a fact where the name was not found
abbrev pub OnAbsent : Result Found FileFault → Type 0 → Type 0
OnAbsent (Ok (Bytes bytes)) P = ⊤
OnAbsent (Ok Absent) P = P
OnAbsent (Ok TooLong) P = ⊤
OnAbsent (Err fault) P = ⊤

-- a fact where more bytes were found than the limit
abbrev pub OnTooLong : Result Found FileFault → Type 0 → Type 0
OnTooLong (Ok (Bytes bytes)) P = ⊤
OnTooLong (Ok Absent) P = ⊤
OnTooLong (Ok TooLong) P = P
OnTooLong (Err fault) P = ⊤

-- a fact where the outside failed
abbrev pub OnFailed : {T : Type 0} → Result T FileFault → Type 0 → Type 0
OnFailed (Ok value) P = ⊤
OnFailed (Err Failed) P = P
OnFailed (Err (Memory fault)) P = ⊤

-- a fact where memory was wanting
abbrev pub OnMemory : {T : Type 0} → Result T FileFault → Type 0 → Type 0
OnMemory (Ok value) P = ⊤
OnMemory (Err Failed) P = ⊤
OnMemory (Err (Memory fault)) P = P
