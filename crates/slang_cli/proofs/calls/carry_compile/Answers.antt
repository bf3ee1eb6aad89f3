use Rattle.slang_cli.specs.Views as view
use Rattle.slang_cli.proofs.Carried.{the_answer}
use Rattle.slang_cli.proofs.calls.carry_compile.Goals as goal

pub returns-in-Ok-clause-answer : goal.returns-in-Ok-clause-answer
returns-in-Ok-clause-answer g c =
    the_answer _ _ _ _ (view.answer c.in-Ok.answer) c.in_ok-found.found (λ m told. c.in_ok-found.ensures.found m told) (λ m found. c.in-Ok.ensures.answer m found) (λ m found. c.in-Ok.ensures.told m found)
