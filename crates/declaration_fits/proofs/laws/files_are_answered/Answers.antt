use Rattle.slang_reading.proofs.Exact.{reads_done}
use Rattle.declaration_grammar.specs.DeclarationsDescent.{files}
use Rattle.declaration_fits.proofs.Files.{reads_files}
use Rattle.declaration_fits.proofs.laws.files_are_answered.Goals as goal

pub returns : goal.returns
returns c = λ ts limits nodes seen x s f long depth items.
    let whole = reads_files ts limits nodes (record { tokens = long; depth = depth; items = items }) s f in
    let done = reads_done (files limits nodes) ts 0 seen x whole.to (whole.reads seen) in
    (whole.to, done.0, done.1)
