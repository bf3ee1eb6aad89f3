use Rattle.std.proofs.Common.{ℕ, List, subst}
use Rattle.slang_parse.specs.Parsing.{text_limit}
use Rattle.slang_store.specs.Finds.{IsFound}
use Rattle.slang_store.proofs.FoundUnder.{found_by}
use Rattle.slang_cli.proofs.calls.read_text.Goals as goal

pub returns-in-Ok-read-clause-found : goal.returns-in-Ok-read-clause-found
returns-in-Ok-read-clause-found g c = λ m told.
    let found = c.in-Ok-read.found in
    subst (λ (name : List ℕ). IsFound text_limit (m name) found) c.in-Ok.ensures
    (found_by text_limit (m c.in-Ok.name) found c.read.result c.in-Ok-read.is (c.read.ensures.bytes m told) (c.read.ensures.absent m told) (c.read.ensures.too_long m told))
