-- The outside before and after a call, and how a call goes.
use Rattle.std.specs.Prelude.{◌≡◌, ◌⊎◌, ℕ, List, ◌++◌, Option, Some, None}
use Rattle.slang_store.specs.Contents.{Contents, Partly, IsPrefixOf}
use Rattle.slang_store.specs.Counts.{Rose}
use Rattle.slang_outcomes.specs.declared.outcome.Outcome.{Outcome}
use Rattle.slang_outcomes.specs.declared.outcome.Outcome.TheVariants.{Words, ReadFault, WriteFault, Memory}
use Rattle.slang_cli.specs.Commands.{Request, asked_of}
use Rattle.slang_outcomes.specs.Lines.{refusal_line}
use Rattle.slang_cli.specs.Answers.{Answer, Puts, IsAnswer, MayAnswer, IsTold, IfPuts, outcome_of, printed, contents_after}

-- the files: what they hold, where it is told, and how many reads and puts failed
pub record FilesNow : Type 0 where
  pub contents : Option Contents
  pub reads : ℕ
  pub puts : ℕ

-- the sink: the bytes it took, where they are told, and how many calls failed
pub record SinkNow : Type 0 where
  pub bytes : Option (List ℕ)
  pub faults : ℕ

-- the line was taken whole
pub record TookAll (o n : SinkNow) (line : List ℕ) : Type 0 where
  pub bytes : (b : List ℕ) → o.bytes ≡ Some b → n.bytes ≡ Some (b ++ line)

-- a part of the line was taken, and a fault was counted
pub record TookPart (o n : SinkNow) (line : List ℕ) : Type 0 where
  pub bytes : (b : List ℕ) → o.bytes ≡ Some b → (p : List ℕ) × IsPrefixOf p line × (n.bytes ≡ Some (b ++ p))
  pub rose : Rose o.faults n.faults

-- the line of a status was printed, or the sink failed, which is the answer then
abbrev pub Prints : SinkNow → SinkNow → Outcome → List ℕ → Outcome → Type 0
Prints o n status line result = (TookAll o n line × (result ≡ status)) ⊎ (TookPart o n line × (result ≡ WriteFault))

-- the call came to no answer: the words are no command, a read failed, or memory was wanting
abbrev pub IsHalt : Option Request → FilesNow → FilesNow → Outcome → Type 0
IsHalt None f g Words = Unit {0}
IsHalt None f g status = ⊥
IsHalt (Some c) f g ReadFault = Rose f.reads g.reads
IsHalt (Some c) f g Memory = Unit {0}
IsHalt (Some c) f g status = ⊥

-- this is the command's answer, over what the files hold where that is told, and else one that it may have
pub record IsTheAnswer (c : Request) (f : FilesNow) (a : Answer) : Type 0 where
  pub is : (m : Contents) → f.contents ≡ Some m → IsAnswer c m a
  pub may : MayAnswer c a
  pub told : (m : Contents) → f.contents ≡ Some m → IfPuts a (IsTold c m)

-- how a call goes
pub data Runs (c : Option Request) (f g : FilesNow) (o n : SinkNow) : Outcome → Type 0 where
  halted : {result : Outcome} (status : Outcome) → IsHalt c f g status → g.contents ≡ f.contents → Prints o n status (refusal_line (asked_of c) status) result →
      Runs c f g o n result
  answered : {result : Outcome} (command : Request) (a : Answer) → c ≡ Some command → IsTheAnswer command f a →
      ((m : Contents) → f.contents ≡ Some m → g.contents ≡ Some (contents_after m a)) → Prints o n (outcome_of a) (printed command a) result →
      Runs c f g o n result
  cut : (command : Request) (name bytes line : List ℕ) → c ≡ Some command → IsTheAnswer command f (Puts name bytes line) →
      ((m : Contents) → f.contents ≡ Some m → (left : Contents) × (g.contents ≡ Some left) × Partly m name bytes left) →
      Rose f.puts g.puts → n.bytes ≡ o.bytes → Runs c f g o n WriteFault
