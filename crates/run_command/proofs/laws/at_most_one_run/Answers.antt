use Rattle.run_command.proofs.OneRun.{one_run}
use Rattle.run_command.proofs.laws.at_most_one_run.Goals as goal

pub returns : goal.returns
returns c =
    let words = c.words_have_one_reading.ensures in
    let faults = c.an_image_has_one_first_fault.ensures in
    one_run (record {
      one_image = words.one_image;
      one_fault = words.one_fault;
      not_both = words.not_both;
      one_invalid = faults.once;
      never_valid = faults.never_valid;
      one_text = c.one_reading.ensures.once;
      one_refusal = c.one_refusal.ensures.once;
      no_text = c.one_refusal.ensures.no_text;
      one_dispatch = c.one_dispatch.ensures;
    })
