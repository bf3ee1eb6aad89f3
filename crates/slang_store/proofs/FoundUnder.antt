-- What a read tells of a name.
use Rattle.std.proofs.Common.{◌≡◌, ℕ, List, Option, Some, None, Result, Ok}
use Rattle.slang_store.specs.declared.files.Found.{Found}
use Rattle.slang_store.specs.declared.files.Found.TheVariants.{Bytes, Absent, TooLong}
use Rattle.slang_store.specs.declared.files.FileFault.{FileFault}
use Rattle.slang_store.specs.Answers.{IfBytes, OnAbsent, OnTooLong}
use Rattle.slang_store.specs.Contents.{IsLonger}
use Rattle.slang_store.specs.Finds.{IsFound}

pub found_by : (limit : ℕ) (held : Option (List ℕ)) (found : Found) (r : Result Found FileFault) → r ≡ Ok found → IfBytes r (λ b. held ≡ Some b) → OnAbsent r (held ≡ None) → OnTooLong r (IsLonger limit held) → IsFound limit held found
found_by limit held (Bytes bytes) r is b a t = let h = rw is at b in h
found_by limit held Absent r is b a t = let h = rw is at a in h
found_by limit held TooLong r is b a t = let h = rw is at t in h
