use Rattle.run_buffers.proofs.Whole.{one_refusal, no_text_is_refused, goes_on_before_place, none_with_place, place_in_limit}
use Rattle.run_buffers.proofs.laws.one_refusal.Goals as goal

pub returns-clause-once : goal.returns-clause-once
returns-clause-once c = one_refusal

pub returns-clause-no_text : goal.returns-clause-no_text
returns-clause-no_text c = no_text_is_refused

pub returns-clause-before : goal.returns-clause-before
returns-clause-before c = goes_on_before_place

pub returns-clause-there : goal.returns-clause-there
returns-clause-there c = none_with_place

pub returns-clause-limit : goal.returns-clause-limit
returns-clause-limit c = place_in_limit
