-- What the program answers, where memory and the outside hold.
use Rattle.std.specs.Prelude.{◌≡◌, ◌⊎◌, ℕ, ◌<◌, ◌≤◌, ◌^◌, All, List, [], ◌∷◌, length, Some, None}
use Rattle.std.specs.Fmt.{decimal}
use Rattle.slang_names.specs.declared.names.Ref.{Ref}
use Rattle.slang_names.specs.declared.places.Place.{Place}
use Rattle.slang_names.specs.declared.codes.ModuleCode.{ModuleCode}
use Rattle.slang_names.specs.declared.codes.ModuleCode.TheVariants.{NotYet}
use Rattle.slang_names.specs.declared.faults.LinkCause.TheVariants.{NoEntry}
use Rattle.slang_store.specs.Contents.{Contents, with_entry}
use Rattle.spirv_words.specs.Words.{image_words}
use Rattle.spirv_words.specs.Bytes.{bytes_of_words}
use Rattle.first_form.specs.declared.shader.Shader.{Shader}
use Rattle.slang_cli.specs.Texts.{FirstForm}
use Rattle.slang_tree.specs.declared.file.File.{File}
use Rattle.slang_parse.specs.Parsing.{Spells, IsRefused}
use Rattle.tree_form.specs.Forms.{form_of}
use Rattle.first_image.specs.Image.{image_of}
use Rattle.slang_outcomes.specs.declared.outcome.Outcome.{Outcome}
use Rattle.slang_outcomes.specs.declared.outcome.Outcome.TheVariants.{Done, ModuleRefused, LinkRefused, Undefined, Budget, Absent, ImageRefused, InputRefused}
use Rattle.run_command.specs.Requests.{RunRequest}
use Rattle.run_command.specs.Answers.{Came, Comes}
use Rattle.run_command.specs.Answers as came
use Rattle.slang_cli.specs.Commands.{Request, Compile, Run, text_name, asked}
use Rattle.slang_outcomes.specs.Lines.{line, refusal_line}

-- a command is refused, with a status and its values, or it gives a file its bytes and prints a line
pub data Answer : Type 0 where
  Refuses : (status : Outcome) → Answer
  Puts : (name bytes line : List ℕ) → Answer

abbrev pub outcome_of : Answer → Outcome
outcome_of (Refuses status) = status
outcome_of (Puts name bytes line) = Done

-- the line of an answer, where this entry was asked for
abbrev pub printed_for : List ℕ → Answer → List ℕ
printed_for entry (Refuses status) = refusal_line entry status
printed_for entry (Puts name bytes line) = line

abbrev pub printed : Request → Answer → List ℕ
printed command answer = printed_for (asked command) answer

-- what the files hold afterwards
abbrev pub contents_after : Contents → Answer → Contents
contents_after m (Refuses status) = m
contents_after m (Puts name bytes line) = with_entry m name bytes

-- the bytes of the words of a shader's image are put, and how many words there are is printed
abbrev pub puts_image : List ℕ → List ℕ → Shader → Answer
puts_image image home shader =
    Puts image (bytes_of_words (image_words (image_of home shader))) (line image (decimal (length (image_words (image_of home shader))) ∷ []))

-- the entry is that of the shader, in its module
pub record IsEntry (entry : Ref) (home : List ℕ) (shader : Shader) : Type 0 where
  pub module_is : entry.module ≡ home
  pub path_is : entry.path ≡ shader.entry

-- what is answered to a text that says the shader
abbrev pub OfShader : Ref → List ℕ → List ℕ → Shader → Answer → Type 0
OfShader entry image home shader answer =
    (IsEntry entry home shader × (answer ≡ puts_image image home shader))
    ⊎ ((IsEntry entry home shader → ⊥) × (answer ≡ Refuses (LinkRefused (NoEntry entry))))

-- what compile answers over what the files hold: the text is read; it may spell no file within the limits; the file may not
-- be of the first form; the entry may not be its entry; and else its image's words are put, as bytes
pub data Compiles (m : Contents) (entry : Ref) (image home : List ℕ) : Answer → Type 0 where
  absent : m (text_name home) ≡ None → Compiles m entry image home (Refuses (Absent (text_name home)))
  not_parsed : {text : List ℕ} {place : Place} {code : ModuleCode} → m (text_name home) ≡ Some text → IsRefused text place code →
      Compiles m entry image home (Refuses (ModuleRefused home place code))
  not_yet : {text : List ℕ} {file : File} → m (text_name home) ≡ Some text → Spells text file → form_of file ≡ None →
      Compiles m entry image home (Refuses (ModuleRefused home (record { start = 0; end = 0 }) NotYet))
  no_entry : {text : List ℕ} {shader : Shader} → m (text_name home) ≡ Some text → FirstForm text shader → (IsEntry entry home shader → ⊥) →
      Compiles m entry image home (Refuses (LinkRefused (NoEntry entry)))
  puts : {text : List ℕ} {shader : Shader} → m (text_name home) ≡ Some text → FirstForm text shader → IsEntry entry home shader →
      Compiles m entry image home (puts_image image home shader)

-- ---- that bytes tell words

-- the words of a shader's image have 32 bits
pub record HasNarrowWords (home : List ℕ) (shader : Shader) : Type 0 where
  pub narrow : All (λ w. w < 2 ^ 32) (image_words (image_of home shader))

-- those of the shader that a file is
abbrev pub HasNarrowForm : List ℕ → File → Type 0
HasNarrowForm home file = (shader : Shader) × (form_of file ≡ Some shader) × HasNarrowWords home shader

-- and are no more than an image may have
pub record HasToldWords (home : List ℕ) (shader : Shader) : Type 0 where
  pub narrow : HasNarrowWords home shader
  pub few : length (image_words (image_of home shader)) ≤ 4194304

-- of the shader that the text of a module says
abbrev pub ImageIsTold : Contents → List ℕ → Type 0
ImageIsTold m home =
    (text : List ℕ) (shader : Shader) → m (text_name home) ≡ Some text → FirstForm text shader → HasToldWords home shader

abbrev pub IsTold : Request → Contents → Type 0
IsTold (Compile entry image home) m = ImageIsTold m home
IsTold (Run run) m = Unit {0}

-- a fact of an answer that puts a file
abbrev pub IfPuts : Answer → Type 0 → Type 0
IfPuts (Refuses status) P = Unit {0}
IfPuts (Puts name bytes line) P = P

-- ---- the answers

-- the answer of a run that comes to this: a refusal, or the buffers afterwards, with how many invocations there were and
-- how many steps in all
abbrev pub answer_of : RunRequest → Came → Answer
answer_of r (came.Absent name) = Refuses (Absent name)
answer_of r (came.ImageRefused place code) = Refuses (ImageRefused place code)
answer_of r (came.InputRefused cause) = Refuses (InputRefused cause)
answer_of r (came.Undefined invocation step) = Refuses (Undefined invocation step)
answer_of r (came.Budget invocation) = Refuses (Budget invocation)
answer_of r (came.Ran text invocations steps) = Puts r.out text (line (decimal invocations) (decimal steps ∷ []))

-- the run comes to something, and this is its answer
abbrev pub RunAnswers : Contents → RunRequest → Answer → Type 0
RunAnswers m r answer = (came : Came) × Comes m r came × (answer ≡ answer_of r came)

-- an answer that a command may have, whatever the files hold: that over some files, or that of a run that comes to something
abbrev pub MayAnswer : Request → Answer → Type 0
MayAnswer (Compile entry image home) answer = (m : Contents) × Compiles m entry image home answer
MayAnswer (Run run) answer = (came : Came) × (answer ≡ answer_of run came)

-- the answer to a command, over what the files hold
abbrev pub IsAnswer : Request → Contents → Answer → Type 0
IsAnswer (Compile entry image home) m answer = Compiles m entry image home answer
IsAnswer (Run run) m answer = RunAnswers m run answer
