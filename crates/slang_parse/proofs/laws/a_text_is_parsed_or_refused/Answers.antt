use Rattle.slang_parse.proofs.Texts.{spelled_done, all, not_both, one_file, one_place}
use Rattle.slang_parse.proofs.laws.a_text_is_parsed_or_refused.Goals as goal

pub returns-clause-answered : goal.returns-clause-answered
returns-clause-answered c = spelled_done (record {
  spelled = c.files_are_spelled.ensures.of_files;
  fits = c.what_is_read_fits.ensures.of_files;
  answered = c.files_are_answered.ensures;
  whole_text = c.cut_or_refused.ensures.one;
  not_both = c.cut_or_refused.ensures.not_both;
  one = c.one_cutting.ensures;
})

pub returns-clause-all : goal.returns-clause-all
returns-clause-all c = all (record {
  spelled = c.files_are_spelled.ensures.of_files;
  fits = c.what_is_read_fits.ensures.of_files;
  answered = c.files_are_answered.ensures;
  whole_text = c.cut_or_refused.ensures.one;
  not_both = c.cut_or_refused.ensures.not_both;
  one = c.one_cutting.ensures;
})

pub returns-clause-not_both : goal.returns-clause-not_both
returns-clause-not_both c = not_both (record {
  spelled = c.files_are_spelled.ensures.of_files;
  fits = c.what_is_read_fits.ensures.of_files;
  answered = c.files_are_answered.ensures;
  whole_text = c.cut_or_refused.ensures.one;
  not_both = c.cut_or_refused.ensures.not_both;
  one = c.one_cutting.ensures;
})

pub returns-clause-one_file : goal.returns-clause-one_file
returns-clause-one_file c = one_file (record {
  spelled = c.files_are_spelled.ensures.of_files;
  fits = c.what_is_read_fits.ensures.of_files;
  answered = c.files_are_answered.ensures;
  whole_text = c.cut_or_refused.ensures.one;
  not_both = c.cut_or_refused.ensures.not_both;
  one = c.one_cutting.ensures;
})

pub returns-clause-one_refusal : goal.returns-clause-one_refusal
returns-clause-one_refusal c = one_place (record {
  spelled = c.files_are_spelled.ensures.of_files;
  fits = c.what_is_read_fits.ensures.of_files;
  answered = c.files_are_answered.ensures;
  whole_text = c.cut_or_refused.ensures.one;
  not_both = c.cut_or_refused.ensures.not_both;
  one = c.one_cutting.ensures;
})
