use Rattle.slang_cli.proofs.OneAnswer.{one_answer}
use Rattle.slang_cli.proofs.laws.at_most_one_answer.Goals as goal

pub returns : goal.returns
returns c = one_answer (record { not_both = c.a_text_is_parsed_or_refused.ensures.not_both; one_file = c.a_text_is_parsed_or_refused.ensures.one_file; one_refusal = c.a_text_is_parsed_or_refused.ensures.one_refusal }) c.at_most_one_run.ensures
