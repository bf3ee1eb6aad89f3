use Rattle.std.proofs.Common.{map, string_bytes}
use Rattle.slang_cli.proofs.Clauses.{only_words, always_words, read_rose, write_rose, kept, answer, put_in_part, put_whole, nothing_printed, whole_line, done_line, part_of_line, part_of_a_line}
use Rattle.slang_cli.proofs.Named.{short_name, command_home}
use Rattle.slang_cli.proofs.Meant.{meant}
use Rattle.slang_cli.proofs.top.slangc.Goals as goal

pub returns-clause-words_alone : goal.returns-clause-words_alone
returns-clause-words_alone g c = λ e. only_words _ _ _ _ _ c.call.ensures.runs e

pub returns-clause-words_always : goal.returns-clause-words_always
returns-clause-words_always g c = λ e. always_words _ _ _ _ _ c.call.ensures.runs e

pub returns-clause-answer : goal.returns-clause-answer
returns-clause-answer g c = λ m told command is. answer _ _ _ _ _ m command c.call.ensures.runs told is

pub returns-clause-means : goal.returns-clause-means
returns-clause-means g c = λ m told entry image home is done.
    let name = short_name home (command_home (map string_bytes c.args.words.now) entry image home is) in
    meant (record { agree = c.words_mean_source.ensures; spelled = c.image_is_spelled.ensures; valid = c.the_image_is_valid.ensures.valid; name = c.the_entry_is_told.ensures.name; group = c.the_entry_is_told.ensures.group; shader = c.forms_are_shaders.ensures.is_shader; here = c.an_entry_changes_one_name.ensures.here })
    m entry image home name.0 name.1 _ _ _ _ _ c.call.ensures.runs told is done

pub returns-clause-read_fault : goal.returns-clause-read_fault
returns-clause-read_fault g c = λ e. read_rose _ _ _ _ _ c.call.ensures.runs e

pub returns-clause-write_fault : goal.returns-clause-write_fault
returns-clause-write_fault g c = λ e. write_rose _ _ _ _ _ c.call.ensures.runs e

pub returns-clause-kept : goal.returns-clause-kept
returns-clause-kept g c = λ m told not_done not_fault. kept _ _ _ _ _ m c.call.ensures.runs told not_done not_fault

pub returns-clause-put_in_part : goal.returns-clause-put_in_part
returns-clause-put_in_part g c = λ m told e. put_in_part _ _ _ _ _ m c.call.ensures.runs told

pub returns-clause-put_whole : goal.returns-clause-put_whole
returns-clause-put_whole g c = λ m told not_rose. put_whole _ _ _ _ _ m c.call.ensures.runs told not_rose

pub returns-clause-nothing_printed : goal.returns-clause-nothing_printed
returns-clause-nothing_printed g c = λ e not_rose. nothing_printed _ _ _ _ _ c.call.ensures.runs e not_rose

pub returns-clause-line : goal.returns-clause-line
returns-clause-line g c = λ b told. whole_line _ _ _ _ _ b c.call.ensures.runs told

pub returns-clause-done_line : goal.returns-clause-done_line
returns-clause-done_line g c = λ b told e. done_line _ _ _ _ _ b c.call.ensures.runs told e

pub returns-clause-part_of_a_line : goal.returns-clause-part_of_a_line
returns-clause-part_of_a_line g c = λ b took e. part_of_a_line _ _ _ _ _ b c.call.ensures.runs took e

pub returns-clause-line_in_part : goal.returns-clause-line_in_part
returns-clause-line_in_part g c = λ m told b took e. part_of_line _ _ _ _ _ m b c.call.ensures.runs told took e
