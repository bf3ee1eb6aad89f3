use Rattle.std.proofs.Common.{ℕ, List, subst}
use Rattle.slang_store.specs.Finds.{IsFound}
use Rattle.slang_store.proofs.FoundUnder.{found_by}
use Rattle.run_command.specs.Files.{file_limit}
use Rattle.run_command.proofs.reads.read_held.Goals as goal

pub returns-in-Ok-read-clause-read : goal.returns-in-Ok-read-clause-read
returns-in-Ok-read-clause-read g c = λ m told.
    let found = c.in-Ok-read.found in
    c.in_file.ensures.read (m c.args.name.now) (subst (λ (name : List ℕ). IsFound file_limit (m name) found) c.in-Ok.ensures
    (found_by file_limit (m c.in-Ok.name) found c.read.result c.in-Ok-read.is (c.read.ensures.bytes m told) (c.read.ensures.absent m told) (c.read.ensures.too_long m told)))
