-- What contracts see of requests and answers: plain data.
use Rattle.std.specs.Prelude.{◌≡◌, ℕ, ◌≤◌, ◌<◌, List, length, Option, Some, None}
use Rattle.run_command.specs.declared.request.Run.{Run as Parsed}
use Rattle.run_command.specs.declared.answer.RunAnswer.{RunAnswer}
use Rattle.run_command.specs.declared.answer.RunAnswer.TheVariants as made
use Rattle.run_command.specs.declared.reads.Held.{Held}
use Rattle.run_command.specs.declared.reads.Held.TheVariants.{Bytes, TooLong}
use Rattle.run_buffers.specs.declared.faults.RunFault.{RunFault}
use Rattle.run_buffers.specs.declared.faults.RunFault.TheVariants as fault
use Rattle.spirv_words.specs.declared.faults.ImageFault.{ImageFault}
use Rattle.spirv_words.specs.declared.faults.ImageFault.TheVariants as image
use Rattle.run_command.specs.Requests.{RunRequest, step_limit}
use Rattle.run_command.specs.Files.{file_limit}
use Rattle.run_command.specs.Answers.{Came, Absent, ImageRefused, InputRefused, Undefined, Budget, Ran}

abbrev pub request : Parsed → RunRequest
request r = record { image = r.image.now; entry = r.entry.now; groups = r.groups; steps = r.steps; buffers = r.buffers.now; out = r.out.now }

abbrev pub optional_request : Option Parsed → Option RunRequest
optional_request None = None
optional_request (Some r) = Some (request r)

abbrev pub came : RunAnswer → Came
came (made.Absent name) = Absent name
came (made.ImageRefused place code) = ImageRefused place code
came (made.InputRefused cause) = InputRefused cause
came (made.Undefined invocation step) = Undefined invocation step
came (made.Budget invocation) = Budget invocation
came (made.Ran text invocations steps) = Ran text.items invocations steps

-- its steps are within their limit
abbrev pub IsBounded : Parsed → Type 0
IsBounded r = r.steps ≤ step_limit

-- what was read of these bytes
abbrev pub HeldIs : Held → List ℕ → Type 0
HeldIs (Bytes held) bytes = held.items ≡ bytes
HeldIs TooLong bytes = file_limit < length bytes

abbrev pub HeldWithin : Held → Type 0
HeldWithin (Bytes held) = length held.items ≤ file_limit
HeldWithin TooLong = Unit {0}

-- a read found nothing where nothing is, and else what is there
abbrev pub IsRead : Option (List ℕ) → Option Held → Type 0
IsRead there None = there ≡ None
IsRead there (Some held) = (bytes : List ℕ) × (there ≡ Some bytes) × HeldIs held bytes

-- what a run comes to that stops with a fault; want of memory is no answer
abbrev pub IsStop : RunFault → Came → Type 0
IsStop (fault.Refused cause) a = a ≡ InputRefused cause
IsStop (fault.Undefined invocation step) a = a ≡ Undefined invocation step
IsStop (fault.Budget invocation) a = a ≡ Budget invocation
IsStop (fault.Memory e) a = ⊥

abbrev pub IsImageStop : ImageFault → Came → Type 0
IsImageStop (image.Refused place code) a = a ≡ ImageRefused place code
IsImageStop (image.Memory e) a = ⊥
