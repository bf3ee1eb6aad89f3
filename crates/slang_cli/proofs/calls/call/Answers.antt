use Rattle.std.proofs.Common.{Err, ap, sym, ◌∙◌, refl}
use Rattle.slang_cli.specs.Outside.{FilesNow}
use Rattle.slang_cli.specs.Views as view
use Rattle.slang_cli.proofs.Called.{words_run, read_runs, memory_runs, runs_as, answer_still}
use Rattle.slang_cli.proofs.Clauses.{runs_before}
use Rattle.slang_cli.proofs.calls.call.Goals as goal

pub returns-in_default-clause-runs : goal.returns-in_default-clause-runs
returns-in_default-clause-runs g c =
    let e = ap view.optional_command (sym c.in_default.is) ∙ c.parse.ensures.command in
    runs_as e (words_run _ _ _ _ refl c.report.ensures.prints)

pub returns-in-Ok-clause-runs : goal.returns-in-Ok-clause-runs
returns-in-Ok-clause-runs g c =
    let e = ap view.optional_command (sym c.in-Some.is) ∙ c.parse.ensures.command in
    let f : FilesNow = record { contents = g.F.Files.told c.args.files.now; reads = g.F.Files.read_faults c.args.files.now; puts = g.F.Files.put_faults c.args.files.now } in
    runs_as e (runs_before _ f _ _ _ _ c.carry_out.ensures.stays c.carry_out.ensures.puts_stay c.carry_out.ensures.no_fault_lost
    (c.deliver.ensures.runs (view.command c.in-Some.command) c.in-Ok.ensures.line (answer_still (view.command c.in-Some.command) f _ (view.answer c.in-Ok.answer) c.carry_out.ensures.stays c.in-Ok.ensures.answer)))

pub returns-in-Err-Read-clause-runs : goal.returns-in-Err-Read-clause-runs
returns-in-Err-Read-clause-runs g c =
    let e = ap view.optional_command (sym c.in-Some.is) ∙ c.parse.ensures.command in
    let failed = c.in-Err-Read.is ∙ ap Err c.in-Err-Read.field-0-is in
    runs_as e (read_runs _ _ _ _ _ (c.carry_out.ensures.failed failed) c.carry_out.ensures.stays c.report-in-Err-Read.ensures.prints)

pub returns-in-Err-Memory-clause-runs : goal.returns-in-Err-Memory-clause-runs
returns-in-Err-Memory-clause-runs g c =
    let e = ap view.optional_command (sym c.in-Some.is) ∙ c.parse.ensures.command in
    runs_as e (memory_runs _ _ _ _ _ c.carry_out.ensures.stays c.report-in-Err-Memory.ensures.prints)
