-- What a call of the program leaves.
use Rattle.std.specs.Prelude.{◌≡◌, ◌⊎◌, ℕ, List, [], ◌∷◌, Option, Some, None}
use Rattle.std.specs.Fmt.{decimal}
use Rattle.behavior.specs.Meanings.{Agree}
use Rattle.slang_names.specs.declared.names.Ref.{Ref}
use Rattle.slang_store.specs.Contents.{Contents, Partly}
use Rattle.spirv_words.specs.Words.{Spells}
use Rattle.spirv_words.specs.Bytes.{bytes_of_words}
use Rattle.spirv_words.specs.Runs.{words}
use Rattle.spirv_check.specs.Entry.{entry_name, group_size}
use Rattle.run_command.specs.Files.{HoldsImage}
use Rattle.first_form.specs.declared.shader.Shader.{Shader}
use Rattle.slang_cli.specs.Texts.{FirstForm}
use Rattle.first_image.specs.Source.{source}
use Rattle.first_image.specs.Image.{image_of}
use Rattle.spirv_words.specs.declared.images.Image.{Image}
use Rattle.slang_outcomes.specs.declared.outcome.Outcome.{Outcome}
use Rattle.slang_outcomes.specs.declared.outcome.Outcome.TheVariants.{Done, Words, ReadFault, WriteFault, Memory}
use Rattle.slang_cli.specs.Commands.{Request, Compile, Run, text_name}
use Rattle.slang_outcomes.specs.Lines.{line, refusal_line}
use Rattle.slang_cli.specs.Outside.{SinkNow, TookAll}
use Rattle.slang_cli.specs.Answers.{Answer, Puts, IsAnswer, MayAnswer, IsEntry, outcome_of, printed, contents_after}

-- a fact where neither memory nor the outside cut the call short
abbrev pub WhereSettled : Outcome → Type 0 → Type 0
WhereSettled ReadFault P = Unit {0}
WhereSettled WriteFault P = Unit {0}
WhereSettled Memory P = Unit {0}
WhereSettled status P = P

-- a fact of each status that prints its own line whole
abbrev pub WhereRefused : Outcome → Type 0 → Type 0
WhereRefused Done P = Unit {0}
WhereRefused WriteFault P = Unit {0}
WhereRefused status P = P

-- the call answered what the command's answer over the files is, left the files as that says, and printed its line
pub record Answered (command : Request) (m : Contents) (status : Outcome) (n : Option Contents) (before after : SinkNow) : Type 0 where
  pub answer : Answer
  pub is : IsAnswer command m answer
  pub status_is : status ≡ outcome_of answer
  pub files : n ≡ Some (contents_after m answer)
  pub line : TookAll before after (printed command answer)

-- after a failed put, or a line that failed behind a put: the name of what was to be put holds a part of it, from its
-- first byte on, or all of it, or what it held
pub record PutInPart (command : Request) (m : Contents) (n : Option Contents) : Type 0 where
  pub name : List ℕ
  pub bytes : List ℕ
  pub line : List ℕ
  pub is : IsAnswer command m (Puts name bytes line)
  pub left : Contents
  pub files : n ≡ Some left
  pub partly : Partly m name bytes left

-- what files may hold after a fault in writing
abbrev pub MayHold : Option Request → Contents → Option Contents → Type 0
MayHold None m n = n ≡ Some m
MayHold (Some command) m n = (n ≡ Some m) ⊎ PutInPart command m n

-- what files may hold where no put failed: what they held, or all that was to be put
abbrev pub HoldsWhole : Option Request → Contents → Option Contents → Type 0
HoldsWhole None m n = n ≡ Some m
HoldsWhole (Some command) m n = (n ≡ Some m) ⊎ ((answer : Answer) × IsAnswer command m answer × (n ≡ Some (contents_after m answer)))

-- the line of an answer of this kind, or that of a fault or of want of memory, or of words that are no command
abbrev pub IsLineOf : (Request → Answer → Type 0) → Option Request → List ℕ → Type 0
IsLineOf Kind None l = l ≡ refusal_line [] Words
IsLineOf Kind (Some command) l =
    ((answer : Answer) × Kind command answer × (l ≡ printed command answer)) ⊎ ((l ≡ refusal_line [] ReadFault) ⊎ (l ≡ refusal_line [] Memory))

-- a line that a call with this command may print, over what the files hold
abbrev pub IsLine : Option Request → Contents → List ℕ → Type 0
IsLine c m l = IsLineOf (λ command answer. IsAnswer command m answer) c l

-- and whatever they hold
abbrev pub MayPrint : Option Request → List ℕ → Type 0
MayPrint c l = IsLineOf MayAnswer c l

-- the line of a command that was carried out: the image and how many words it has, or how many invocations there were and
-- how many steps in all
abbrev pub IsDoneLine : Option Request → List ℕ → Type 0
IsDoneLine None l = ⊥
IsDoneLine (Some (Compile entry image home)) l = (count : ℕ) × (l ≡ line image (decimal count ∷ []))
IsDoneLine (Some (Run run)) l = (invocations steps : ℕ) × (l ≡ line (decimal invocations) (decimal steps ∷ []))

-- the words at the image do what the text means: the text says a shader with this entry, the image's file holds the bytes
-- of words that spell an image, which is valid, is read from these bytes again, and has the entry's name and the shader's
-- sizes of a group, and these words do what the shader does
pub record Means (entry : Ref) (image home : List ℕ) (m n : Contents) : Type 0 where
  pub text : List ℕ
  pub shader : Shader
  pub made : Image
  pub written : List ℕ
  pub read : m (text_name home) ≡ Some text
  pub form : FirstForm text shader
  pub entry_is : IsEntry entry home shader
  pub made_is : made ≡ image_of home shader
  pub put : n image ≡ Some (bytes_of_words written)
  pub spelled : Spells written made
  pub read_again : HoldsImage (bytes_of_words written) made
  pub entry_is_named : entry_name made.instructions ≡ entry.path
  pub group_is : group_size made.instructions ≡ shader.group.x ∷ shader.group.y ∷ shader.group.z ∷ []
  pub agree : Agree (source shader) (words made)
