-- What an answer that may be a refusal says.
use Rattle.std.specs.Prelude.{ℕ, Result, Ok, Err}
use Rattle.spirv_words.specs.declared.faults.ImageCode.{ImageCode}
use Rattle.spirv_words.specs.declared.faults.ImageFault.{ImageFault}
use Rattle.spirv_words.specs.declared.faults.ImageFault.TheVariants.{Refused, Memory}

-- what holds of the place and the code, if this is a refusal
abbrev pub OfRefusal : ImageFault → (ℕ → ImageCode → Type 0) → Type 0
OfRefusal (Refused place code) P = P place code
OfRefusal (Memory e) P = Unit {0}

abbrev pub IfRefused : {A : Type 0} → Result A ImageFault → (ℕ → ImageCode → Type 0) → Type 0
IfRefused (Ok a) P = Unit {0}
IfRefused (Err fault) P = OfRefusal fault P

-- what holds where there was memory
abbrev pub UnlessMemory : {A : Type 0} → Result A ImageFault → Type 0 → Type 0
UnlessMemory (Ok a) P = P
UnlessMemory (Err (Refused place code)) P = P
UnlessMemory (Err (Memory e)) P = Unit {0}
