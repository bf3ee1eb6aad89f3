-- From a fault to what a run comes to.
use Rattle.std.proofs.Common.{◌≡◌, ℕ, ◌≤◌, List, length, Option, Some, None, Result, Ok, Err, sym, subst}
use Rattle.slang_names.specs.declared.faults.RunCause.TheVariants.{NoEntry, BufferText, DispatchLimit, BufferMissing}
use Rattle.spirv_words.specs.declared.images.Image.{Image}
use Rattle.spirv_check.specs.Entry.{entry_name}
use Rattle.slang_store.specs.Contents.{Contents}
use Rattle.spirv_words.specs.declared.faults.ImageFault.{ImageFault}
use Rattle.spirv_words.specs.declared.faults.ImageFault.TheVariants as image
use Rattle.spirv_words.specs.Refusals.{OfRefusal}
use Rattle.run_buffers.specs.declared.buffer.Buffer.{Buffer}
use Rattle.run_buffers.specs.declared.faults.RunFault.{RunFault}
use Rattle.run_buffers.specs.declared.faults.RunFault.TheVariants.{Refused, Undefined, Budget, Memory}
use Rattle.run_buffers.specs.Texts.{RefusedAt, text_of}
use Rattle.spirv_run.specs.declared.ran.Ran.{Ran as Counts}
use Rattle.run_buffers.specs.Refusals.{OfTextFault, IfTextRefused}
use Rattle.spirv_run.specs.Dispatch.{IsDispatch}
use Rattle.run_command.specs.Requests.{RunRequest}
use Rattle.run_command.specs.Files.{WrongImage, WrongBuffers, refused, file_limit}
use Rattle.run_command.specs.Answers.{Came, Absent, OfDispatch, OverImage, wrong_buffers, OverFiles, wrong_image, Comes}
use Rattle.run_command.specs.Answers as answers
use Rattle.run_command.specs.Views.{IsStop, IsImageStop}

fault_wrong : (bytes : List ℕ) (fault : RunFault) → length bytes ≤ file_limit → OfTextFault fault (RefusedAt bytes) → OfTextFault fault (WrongBuffers bytes)
fault_wrong bytes (Refused (BufferText place)) short h = refused short h
fault_wrong bytes (Refused NoEntry) short h = absurd h
fault_wrong bytes (Refused (DispatchLimit product)) short h = absurd h
fault_wrong bytes (Refused (BufferMissing set binding)) short h = absurd h
fault_wrong bytes (Undefined invocation step) short h = absurd h
fault_wrong bytes (Budget invocation) short h = absurd h
fault_wrong bytes (Memory e) short h = tt

pub refused_wrong : (bytes : List ℕ) (r : Result (List Buffer) RunFault) → length bytes ≤ file_limit → IfTextRefused r (RefusedAt bytes) → IfTextRefused r (WrongBuffers bytes)
refused_wrong bytes (Ok bs) short h = tt
refused_wrong bytes (Err fault) short h = fault_wrong bytes fault short h

-- the text of the buffers is refused
pub text_stops : (image : Image) (r : RunRequest) (text : List ℕ) (fault : RunFault) (a : Came) → r.entry ≡ entry_name image.instructions → OfTextFault fault (WrongBuffers text) → IsStop fault a → OverImage image r text a
text_stops image r text (Refused (BufferText place)) a is h stop = subst (λ (x : Came). OverImage image r text x) (sym stop) (wrong_buffers is h)
text_stops image r text (Refused NoEntry) a is h stop = absurd h
text_stops image r text (Refused (DispatchLimit product)) a is h stop = absurd h
text_stops image r text (Refused (BufferMissing set binding)) a is h stop = absurd h
text_stops image r text (Undefined invocation step) a is h stop = absurd h
text_stops image r text (Budget invocation) a is h stop = absurd h
text_stops image r text (Memory e) a is h stop = absurd stop

-- the dispatch stops
pub dispatch_stops : (image : Image) (r : RunRequest) (memory after : List Buffer) (fault : RunFault) (a : Came) → IsDispatch image r.entry r.groups r.steps memory (Err fault) after → IsStop fault a → OfDispatch image r memory a
dispatch_stops image r memory after (Refused cause) a h stop = subst (λ (x : Came). OfDispatch image r memory x) (sym stop) (answers.refused h)
dispatch_stops image r memory after (Undefined invocation step) a h stop = subst (λ (x : Came). OfDispatch image r memory x) (sym stop) (answers.undefined h)
dispatch_stops image r memory after (Budget invocation) a h stop = subst (λ (x : Came). OfDispatch image r memory x) (sym stop) (answers.budget h)
dispatch_stops image r memory after (Memory e) a h stop = absurd stop

-- all invocations end
pub dispatch_ends : (image : Image) (r : RunRequest) (memory after : List Buffer) (counts : Counts) (a : Came) → IsDispatch image r.entry r.groups r.steps memory (Ok counts) after → a ≡ answers.Ran (text_of after) counts.invocations counts.steps → OfDispatch image r memory a
dispatch_ends image r memory after counts a h e = subst (λ (x : Came). OfDispatch image r memory x) (sym e) (answers.ran h)

-- the same image, and the same name
pub dispatch_of : {image other : Image} {entry name groups : List ℕ} {steps : ℕ} {memory after : List Buffer} {result : Result Counts RunFault} → image ≡ other → entry ≡ name → IsDispatch image entry groups steps memory result after → IsDispatch other name groups steps memory result after
dispatch_of {image = image} {other = other} {entry = entry} {name = name} {groups = groups} {steps = steps} {memory = memory} {after = after} {result = result} e f h =
    subst (λ (x : List ℕ). IsDispatch other x groups steps memory result after) f (subst (λ (x : Image). IsDispatch x entry groups steps memory result after) e h)

-- the image is refused
pub image_stops : (r : RunRequest) (code text : List ℕ) (fault : ImageFault) (a : Came) → OfRefusal fault (WrongImage code) → IsImageStop fault a → OverFiles r code text a
image_stops r code text (image.Refused place why) a h stop = subst (λ (x : Came). OverFiles r code text x) (sym stop) (wrong_image h)
image_stops r code text (image.Memory e) a h stop = absurd stop

-- an equal answer
pub comes_as : (m : Contents) (r : RunRequest) (a b : Came) → a ≡ b → Comes m r b → Comes m r a
comes_as m r a b e h = subst (λ (x : Came). Comes m r x) (sym e) h
