-- What a command may answer, whatever the files hold.
use Rattle.std.proofs.Common.{◌≡◌, ℕ, List, length, Some, refl, sym, subst}
use Rattle.slang_names.specs.declared.names.Ref.{Ref}
use Rattle.slang_store.specs.Contents.{Contents}
use Rattle.spirv_words.specs.Words.{image_words}
use Rattle.first_image.specs.Image.{image_of}
use Rattle.slang_outcomes.specs.declared.outcome.Outcome.{Outcome}
use Rattle.slang_outcomes.specs.declared.outcome.Outcome.TheVariants.{Done, Words, ReadFault, WriteFault, Memory}
use Rattle.run_command.specs.Requests.{RunRequest}
use Rattle.run_command.specs.Answers.{Came}
use Rattle.run_command.specs.Answers as came
use Rattle.slang_cli.specs.Commands.{Request, Compile, Run}
use Rattle.slang_cli.specs.Answers.{Answer, Compiles, absent, not_parsed, not_yet, no_entry, puts, outcome_of, answer_of, printed, MayAnswer}
use Rattle.slang_cli.specs.Calls.{IsDoneLine}

-- a status that tells of the words and the files alone
abbrev pub IsReal : Outcome → Type 0
IsReal Words = ⊥
IsReal ReadFault = ⊥
IsReal WriteFault = ⊥
IsReal Memory = ⊥
IsReal status = Unit {0}

compiles_real : (m : Contents) (entry : Ref) (image home : List ℕ) {a : Answer} → Compiles m entry image home a → IsReal (outcome_of a)
compiles_real m entry image home (absent h) = tt
compiles_real m entry image home (not_parsed h r) = tt
compiles_real m entry image home (not_yet h s f) = tt
compiles_real m entry image home (no_entry h f n) = tt
compiles_real m entry image home (puts h f e) = tt

run_real : (r : RunRequest) (c : Came) → IsReal (outcome_of (answer_of r c))
run_real r (came.Absent name) = tt
run_real r (came.ImageRefused place code) = tt
run_real r (came.InputRefused cause) = tt
run_real r (came.Undefined invocation step) = tt
run_real r (came.Budget invocation) = tt
run_real r (came.Ran text invocations steps) = tt

pub may_real : (c : Request) (a : Answer) → MayAnswer c a → IsReal (outcome_of a)
may_real (Compile entry image home) a h = compiles_real h.0 entry image home h.1
may_real (Run r) a h = subst (λ (x : Answer). IsReal (outcome_of x)) (sym h.1) (run_real r h.0)

compiles_line : (m : Contents) (entry : Ref) (image home : List ℕ) {a : Answer} → Compiles m entry image home a → outcome_of a ≡ Done
    → IsDoneLine (Some (Compile entry image home)) (printed (Compile entry image home) a)
compiles_line m entry image home (absent h) e = absurd cc
compiles_line m entry image home (not_parsed h r) e = absurd cc
compiles_line m entry image home (not_yet h s f) e = absurd cc
compiles_line m entry image home (no_entry h f n) e = absurd cc
compiles_line m entry image home (puts {shader = s} h f is) e = (length (image_words (image_of home s)), refl)

run_line : (r : RunRequest) (c : Came) → outcome_of (answer_of r c) ≡ Done → IsDoneLine (Some (Run r)) (printed (Run r) (answer_of r c))
run_line r (came.Absent name) e = absurd cc
run_line r (came.ImageRefused place code) e = absurd cc
run_line r (came.InputRefused cause) e = absurd cc
run_line r (came.Undefined invocation step) e = absurd cc
run_line r (came.Budget invocation) e = absurd cc
run_line r (came.Ran text invocations steps) e = (invocations, steps, refl)

-- the line of a command that was carried out
pub may_line : (c : Request) (a : Answer) → MayAnswer c a → outcome_of a ≡ Done → IsDoneLine (Some c) (printed c a)
may_line (Compile entry image home) a h e = compiles_line h.0 entry image home h.1 e
may_line (Run r) a h e = subst (λ (x : Answer). outcome_of x ≡ Done → IsDoneLine (Some (Run r)) (printed (Run r) x)) (sym h.1) (run_line r h.0) e
