-- From what was put and printed to how the call goes.
use Rattle.std.proofs.Common.{◌≡◌, ℕ, List, Some, Result, Err, refl, subst}
use Rattle.slang_store.specs.declared.files.FileFault.{FileFault}
use Rattle.slang_store.specs.declared.files.FileFault.TheVariants.{Failed, Memory as MemoryFault}
use Rattle.std.specs.declared.alloc.AllocError.{AllocError}
use Rattle.slang_store.specs.Answers.{OnFailed, OnMemory}
use Rattle.slang_store.specs.Contents.{Contents, with_entry, Partly}
use Rattle.slang_store.specs.Counts.{Rose}
use Rattle.slang_outcomes.specs.declared.outcome.Outcome.{Outcome}
use Rattle.slang_outcomes.specs.declared.outcome.Outcome.TheVariants.{Done, WriteFault}
use Rattle.slang_cli.specs.Commands.{Request, asked}
use Rattle.slang_outcomes.specs.Lines.{refusal_line}
use Rattle.slang_cli.specs.Answers.{Refuses, Puts}
use Rattle.slang_cli.specs.Outside.{FilesNow, SinkNow, Prints, IsTheAnswer, Runs, answered, cut}

pub failed_is : {T : Type 0} (r : Result T FileFault) (P : Type 0) → r ≡ Err Failed → OnFailed r P → P
failed_is {T = T} r P e h = subst (λ (r : Result T FileFault). OnFailed r P) e h

pub memory_is : {T : Type 0} (r : Result T FileFault) (e : AllocError) (P : Type 0) → r ≡ Err (MemoryFault e) → OnMemory r P → P
memory_is {T = T} r e P is h = subst (λ (r : Result T FileFault). OnMemory r P) is h

-- an equal line
pub prints_line : (o n : SinkNow) (status result : Outcome) (a b : List ℕ) → a ≡ b → Prints o n status a result → Prints o n status b result
prints_line o n status result a b e h = subst (λ (l : List ℕ). Prints o n status l result) e h

pub refused_runs : (c : Request) (f : FilesNow) (o n : SinkNow) (status result : Outcome) → IsTheAnswer c f (Refuses status) → Prints o n status (refusal_line (asked c) status) result → Runs (Some c) f f o n result
refused_runs c f o n status result is prints = answered c (Refuses status) refl is (λ m told. told) prints

pub put_runs : (c : Request) (f g : FilesNow) (o n : SinkNow) (name bytes line : List ℕ) (result : Outcome) → IsTheAnswer c f (Puts name bytes line) → ((m : Contents) → f.contents ≡ Some m → g.contents ≡ Some (with_entry m name bytes)) → Prints o n Done line result → Runs (Some c) f g o n result
put_runs c f g o n name bytes line result is after prints = answered c (Puts name bytes line) refl is after prints

pub cut_runs : (c : Request) (f g : FilesNow) (o : SinkNow) (name bytes line : List ℕ) → IsTheAnswer c f (Puts name bytes line) → ((m : Contents) → f.contents ≡ Some m → (left : Contents) × (g.contents ≡ Some left) × Partly m name bytes left) → Rose f.puts g.puts → Runs (Some c) f g o o WriteFault
cut_runs c f g o name bytes line is partly rose = cut c name bytes line refl is partly rose refl
