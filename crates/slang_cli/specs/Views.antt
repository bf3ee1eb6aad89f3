-- What contracts see of commands, answers and words: plain data.
use Rattle.std.specs.Prelude.{ℕ, List, Option, Some, None, IsTrue}
use Rattle.slang_cli.specs.declared.command.Command.{Command as Parsed}
use Rattle.slang_cli.specs.declared.command.Command.TheVariants as parsed
use Rattle.slang_cli.specs.declared.command.Compile.{Compile as ParsedCompile}
use Rattle.slang_cli.specs.declared.answer.Answer.{Answer as Made}
use Rattle.slang_cli.specs.declared.answer.Answer.TheVariants.{Refuses as MadeRefuses, Puts as MadePuts}
use Rattle.command_words.specs.Words.{is_short_name}
use Rattle.run_command.specs.Views.{IsBounded}
use Rattle.run_command.specs.Views as run
use Rattle.slang_cli.specs.Commands.{Request, Compile, Run}
use Rattle.slang_cli.specs.Answers.{Answer, Refuses, Puts}

abbrev pub compile : ParsedCompile → Request
compile c = Compile (record { «module» = c.module.now; path = c.entry.now }) c.image.now c.home.now

abbrev pub command : Parsed → Request
command (parsed.Compile c) = compile c
command (parsed.Run r) = Run (run.request r)

abbrev pub optional_compile : Option ParsedCompile → Option Request
optional_compile None = None
optional_compile (Some c) = Some (compile c)

abbrev pub optional_command : Option Parsed → Option Request
optional_command None = None
optional_command (Some c) = Some (command c)

abbrev pub answer : Made → Answer
answer (MadeRefuses status line) = Refuses status
answer (MadePuts name bytes line) = Puts name bytes.items line.items

-- the line that was made for an answer
abbrev pub line_of : Made → List ℕ
line_of (MadeRefuses status line) = line.items
line_of (MadePuts name bytes line) = line.items

-- the module that is named by the command has a name
abbrev pub IsNamed : ParsedCompile → Type 0
IsNamed c = IsTrue (is_short_name c.home.now)

-- what is known of a command's words: a module's name, or a number of steps
abbrev pub IsSound : Parsed → Type 0
IsSound (parsed.Compile c) = IsNamed c
IsSound (parsed.Run r) = IsBounded r
