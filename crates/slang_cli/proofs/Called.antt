-- How a call goes that comes to no answer.
use Rattle.std.proofs.Common.{◌≡◌, [], Option, Some, None, sym, ◌∙◌, subst}
use Rattle.slang_store.specs.Counts.{Rose}
use Rattle.slang_outcomes.specs.declared.outcome.Outcome.{Outcome}
use Rattle.slang_outcomes.specs.declared.outcome.Outcome.TheVariants.{Words, ReadFault, Memory}
use Rattle.slang_cli.specs.Commands.{Request}
use Rattle.slang_outcomes.specs.Lines.{refusal_line}
use Rattle.slang_cli.specs.Answers.{Answer}
use Rattle.slang_cli.specs.Outside.{FilesNow, SinkNow, Prints, IsTheAnswer, Runs, halted}

pub words_run : (f g : FilesNow) (o n : SinkNow) {result : Outcome} → g.contents ≡ f.contents → Prints o n Words (refusal_line [] Words) result → Runs None f g o n result
words_run f g o n same prints = halted Words tt same prints

pub read_runs : (c : Request) (f g : FilesNow) (o n : SinkNow) {result : Outcome} → Rose f.reads g.reads → g.contents ≡ f.contents → Prints o n ReadFault (refusal_line [] ReadFault) result → Runs (Some c) f g o n result
read_runs c f g o n rose same prints = halted ReadFault rose same prints

pub memory_runs : (c : Request) (f g : FilesNow) (o n : SinkNow) {result : Outcome} → g.contents ≡ f.contents → Prints o n Memory (refusal_line [] Memory) result → Runs (Some c) f g o n result
memory_runs c f g o n same prints = halted Memory tt same prints

-- the same words, told apart in another way
pub runs_as : {a b : Option Request} {f g : FilesNow} {o n : SinkNow} {result : Outcome} → a ≡ b → Runs a f g o n result → Runs b f g o n result
runs_as {f = f} {g = g} {o = o} {n = n} {result = result} e h = subst (λ (x : Option Request). Runs x f g o n result) e h

-- the answer over files that hold the same
pub answer_still : (c : Request) (f f1 : FilesNow) (a : Answer) → f1.contents ≡ f.contents → IsTheAnswer c f a → IsTheAnswer c f1 a
answer_still c f f1 a same h = record { is = λ m told. h.is m (sym same ∙ told); may = h.may; told = λ m told. h.told m (sym same ∙ told) }
