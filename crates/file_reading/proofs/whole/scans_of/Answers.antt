use Rattle.file_reading.proofs.whole.scans_of.Goals as goal

pub returns : goal.returns
returns c = c.new.ensures.knows c.args.text.now
