use Rattle.run_buffers.proofs.ByPosition.{word_there, word_elsewhere}
use Rattle.run_buffers.proofs.laws.write_changes_one_word.Goals as goal

pub returns-clause-there : goal.returns-clause-there
returns-clause-there c = word_there

pub returns-clause-elsewhere : goal.returns-clause-elsewhere
returns-clause-elsewhere c = word_elsewhere
