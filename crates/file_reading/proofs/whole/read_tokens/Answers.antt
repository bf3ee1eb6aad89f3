use Rattle.file_reading.proofs.Cuts.{ready}
use Rattle.file_reading.proofs.whole.read_tokens.Goals as goal

pub files-requires : goal.files-requires
files-requires c = ready c.args.text.now c.args.tokens.now c.in-Ok.scans c.new-cursor.result c.new-cursor.ensures c.requires.few c.requires.room c.in-Ok.ensures
