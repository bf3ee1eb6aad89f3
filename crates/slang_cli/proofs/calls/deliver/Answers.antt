use Rattle.std.proofs.Common.{◌≡◌, ℕ, List, Some, Err, ap, ◌∙◌, subst}
use Rattle.slang_store.specs.Contents.{with_entry, Partly}
use Rattle.slang_outcomes.specs.declared.outcome.Outcome.TheVariants.{Memory}
use Rattle.slang_cli.specs.declared.answer.Answer.{Answer as Made}
use Rattle.slang_cli.specs.Answers.{printed}
use Rattle.slang_cli.specs.Outside.{FilesNow, IsTheAnswer, halted}
use Rattle.slang_cli.specs.Views as view
use Rattle.slang_cli.proofs.Delivery.{failed_is, memory_is, prints_line, refused_runs, put_runs, cut_runs}
use Rattle.slang_cli.proofs.calls.deliver.Goals as goal

pub returns-in-Refuses-clause-runs : goal.returns-in-Refuses-clause-runs
returns-in-Refuses-clause-runs g c = λ request lined is.
    let f : FilesNow = record { contents = g.F.Files.told c.args.files.now; reads = g.F.Files.read_faults c.args.files.now; puts = g.F.Files.put_faults c.args.files.now } in
    let line = subst (λ (x : Made). view.line_of x ≡ printed request (view.answer x)) c.in-Refuses.is lined in
    refused_runs request _ _ _ c.in-Refuses.status c.report.result
    (subst (λ (x : Made). IsTheAnswer request f (view.answer x)) c.in-Refuses.is is)
    (prints_line _ _ c.in-Refuses.status c.report.result _ _ (c.as_slice.ensures.value ∙ line) c.report.ensures.prints)

pub returns-in-Ok-clause-runs : goal.returns-in-Ok-clause-runs
returns-in-Ok-clause-runs g c = λ request lined is.
    let f : FilesNow = record { contents = g.F.Files.told c.args.files.now; reads = g.F.Files.read_faults c.args.files.now; puts = g.F.Files.put_faults c.args.files.now } in
    let bytes = c.as_slice-in-Puts.ensures.value in
    put_runs request _ _ _ _ c.in-Puts.name c.in-Puts.bytes.items c.in-Puts.line.items c.report-in-Ok.result
    (subst (λ (x : Made). IsTheAnswer request f (view.answer x)) c.in-Puts.is is)
    (λ m told. c.in-Ok.ensures.done m told ∙ ap (λ (b : List ℕ). Some (with_entry m c.in-Puts.name b)) bytes)
    (prints_line _ _ _ c.report-in-Ok.result _ _ c.as_slice-in-Ok.ensures.value c.report-in-Ok.ensures.prints)

pub returns-in-Err-Failed-clause-runs : goal.returns-in-Err-Failed-clause-runs
returns-in-Err-Failed-clause-runs g c = λ request lined is.
    let f : FilesNow = record { contents = g.F.Files.told c.args.files.now; reads = g.F.Files.read_faults c.args.files.now; puts = g.F.Files.put_faults c.args.files.now } in
    let failed = c.in-Err-Failed.is ∙ ap Err c.in-Err-Failed.field-0-is in
    cut_runs request _ _ _ c.in-Puts.name c.in-Puts.bytes.items c.in-Puts.line.items
    (subst (λ (x : Made). IsTheAnswer request f (view.answer x)) c.in-Puts.is is)
    (λ m told.
    let left = failed_is c.put.result _ failed (c.put.ensures.partly m told) in
    (left.0, left.1, subst (λ (b : List ℕ). Partly m c.in-Puts.name b left.0) c.as_slice-in-Puts.ensures.value left.2))
    (failed_is c.put.result _ failed c.put.ensures.failed)

pub returns-clause-runs : goal.returns-clause-runs
returns-clause-runs g c = λ request lined is.
    let memory = c.in-Err-Memory.is ∙ ap Err c.in-Err-Memory.field-0-is in
    halted Memory tt (memory_is c.put.result _ _ memory c.put.ensures.unchanged) c.report-in-Err-Memory.ensures.prints
