use Rattle.run_command.proofs.Requested.{bounded_by}
use Rattle.run_command.proofs.request.request_of.Goals as goal

pub returns-clause-bounded : goal.returns-clause-bounded
returns-clause-bounded c =
    bounded_by c.args.numbers.steps.now c.number_within-steps.result c.with_numbers.result c.number_within-steps.ensures c.with_numbers.ensures.steps
