use Rattle.slang_cli.specs.Views as view
use Rattle.slang_cli.proofs.Carried.{the_run}
use Rattle.slang_cli.proofs.calls.carry_run.Goals as goal

pub returns-in-Ok-run_answer-clause-answer : goal.returns-in-Ok-run_answer-clause-answer
returns-in-Ok-run_answer-clause-answer g c = the_run _ _ (view.answer c.in-Ok-run_answer.answer) _ (λ m told. c.in-Ok.ensures.comes m told) c.in-Ok-run_answer.ensures.answer
