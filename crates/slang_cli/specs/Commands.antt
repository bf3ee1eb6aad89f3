-- Which words after the program's name are a command.
use Rattle.std.specs.Prelude.{ℕ, ◌+◌, ◌&&◌, ◌==◌, List, [], ◌∷◌, ◌++◌, take, drop, position, codes, Option, Some, None, if◌then◌else◌, bytes_eq}
use Rattle.std.specs.Option.{option_map}
use Rattle.slang_names.specs.declared.names.Ref.{Ref}
use Rattle.command_words.specs.Words.{is_short_name, is_file_name}
use Rattle.run_command.specs.Requests.{RunRequest, run_of}

-- compile M.F IMAGE M1: the entry F of the module M, the file of the image, and the module whose text is read; or run ..
pub data Request : Type 0 where
  Compile : (entry : Ref) (image home : List ℕ) → Request
  Run : (run : RunRequest) → Request

-- two names with a dot, which stands at the index
abbrev pub names_at : List ℕ → Option ℕ → Option Ref
names_at word None = None
names_at word (Some k) =
    if is_short_name (take k word) && is_short_name (drop (k + 1) word)
    then Some (record { «module» = take k word; path = drop (k + 1) word })
    else None

abbrev pub entry_of : List ℕ → Option Ref
entry_of word = names_at word (position (λ b. b == 46) word)

abbrev pub compile_of : Option Ref → List ℕ → List ℕ → Option Request
compile_of None image home = None
compile_of (Some entry) image home = if is_file_name image && is_short_name home then Some (Compile entry image home) else None

-- the words behind `compile`
abbrev pub compile_words : List (List ℕ) → Option Request
compile_words (entry ∷ image ∷ home ∷ []) = compile_of (entry_of entry) image home
compile_words words = None

abbrev pub with_verb : List ℕ → List (List ℕ) → Option Request
with_verb verb words =
    if bytes_eq verb (codes "compile") then compile_words words
    else (if bytes_eq verb (codes "run") then option_map Run (run_of words) else None)

abbrev pub command_of : List (List ℕ) → Option Request
command_of [] = None
command_of (verb ∷ words) = with_verb verb words

-- the file of a module's text
abbrev pub text_name : List ℕ → List ℕ
text_name home = home ++ codes ".slang"

-- the entry that a run asks for
abbrev pub asked : Request → List ℕ
asked (Compile entry image home) = []
asked (Run run) = run.entry

abbrev pub asked_of : Option Request → List ℕ
asked_of None = []
asked_of (Some command) = asked command
