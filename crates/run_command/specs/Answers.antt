-- What a run comes to, over what the files hold.
use Rattle.std.specs.Prelude.{◌≡◌, ◌≢◌, ℕ, List, Option, Some, None, Result, Ok, Err}
use Rattle.slang_names.specs.declared.faults.RunCause.{RunCause}
use Rattle.slang_names.specs.declared.faults.RunCause.TheVariants.{NoEntry, BufferText}
use Rattle.slang_store.specs.Contents.{Contents}
use Rattle.spirv_words.specs.declared.images.Image.{Image}
use Rattle.spirv_words.specs.declared.faults.ImageCode.{ImageCode}
use Rattle.spirv_check.specs.Entry.{entry_name}
use Rattle.run_buffers.specs.declared.buffer.Buffer.{Buffer}
use Rattle.run_buffers.specs.Texts.{IsTextOf, text_of}
use Rattle.run_buffers.specs.declared.faults.RunFault.TheVariants as fault
use Rattle.spirv_run.specs.declared.ran.Ran.{Ran as Counts}
use Rattle.spirv_run.specs.Dispatch.{IsDispatch}
use Rattle.run_command.specs.Requests.{RunRequest}
use Rattle.run_command.specs.Files.{HoldsImage, WrongImage, WrongBuffers}

-- a file is not there; the image or the input is refused; an invocation was undefined at a step, or had not ended after its
-- steps; or all ended, with the text of the buffers afterwards, how many invocations there were, and how many steps in all
pub data Came : Type 0 where
  Absent : (name : List ℕ) → Came
  ImageRefused : (place : ℕ) (code : ImageCode) → Came
  InputRefused : (cause : RunCause) → Came
  Undefined : (invocation step : ℕ) → Came
  Budget : (invocation : ℕ) → Came
  Ran : (text : List ℕ) (invocations steps : ℕ) → Came

-- what the dispatch comes to: its refusal, the first invocation that did not end, or the buffers that it left
pub data OfDispatch (image : Image) (r : RunRequest) (memory : List Buffer) : Came → Type 0 where
  refused : {cause : RunCause} {after : List Buffer} →
      IsDispatch image r.entry r.groups r.steps memory (Err (fault.Refused cause)) after → OfDispatch image r memory (InputRefused cause)
  undefined : {invocation step : ℕ} {after : List Buffer} →
      IsDispatch image r.entry r.groups r.steps memory (Err (fault.Undefined invocation step)) after → OfDispatch image r memory (Undefined invocation step)
  budget : {invocation : ℕ} {after : List Buffer} →
      IsDispatch image r.entry r.groups r.steps memory (Err (fault.Budget invocation)) after → OfDispatch image r memory (Budget invocation)
  ran : {counts : Counts} {after : List Buffer} →
      IsDispatch image r.entry r.groups r.steps memory (Ok counts) after → OfDispatch image r memory (Ran (text_of after) counts.invocations counts.steps)

-- over an image: its entry has another name; the bytes are no text of buffers; or the dispatch over the buffers of the text
pub data OverImage (image : Image) (r : RunRequest) (text : List ℕ) : Came → Type 0 where
  no_entry : r.entry ≢ entry_name image.instructions → OverImage image r text (InputRefused NoEntry)
  wrong_buffers : {place : ℕ} → r.entry ≡ entry_name image.instructions → WrongBuffers text place → OverImage image r text (InputRefused (BufferText place))
  dispatched : {memory : List Buffer} {came : Came} → r.entry ≡ entry_name image.instructions → IsTextOf text memory → OfDispatch image r memory came →
      OverImage image r text came

-- over what both files hold: the image is refused, or it is tried with the buffers
pub data OverFiles (r : RunRequest) (code text : List ℕ) : Came → Type 0 where
  wrong_image : {place : ℕ} {why : ImageCode} → WrongImage code place why → OverFiles r code text (ImageRefused place why)
  over_image : {image : Image} {came : Came} → HoldsImage code image → OverImage image r text came → OverFiles r code text came

-- both files are read first, the image's and then that of the buffers
pub data Comes (m : Contents) (r : RunRequest) : Came → Type 0 where
  no_image : m r.image ≡ None → Comes m r (Absent r.image)
  no_buffers : {code : List ℕ} → m r.image ≡ Some code → m r.buffers ≡ None → Comes m r (Absent r.buffers)
  over_files : {code text : List ℕ} {came : Came} → m r.image ≡ Some code → m r.buffers ≡ Some text → OverFiles r code text came → Comes m r came
