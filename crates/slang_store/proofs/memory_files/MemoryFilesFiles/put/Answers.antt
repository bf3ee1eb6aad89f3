-- After the insert the map is the old one with that entry.
use Rattle.std.proofs.Common.{◌≡◌, List, ℕ, ap, ◌∙◌, arith}
use Rattle.std.proofs.lemmas.Grind.{common_steps}
use Rattle.slang_store.specs.Contents.{with_entry}
use Rattle.slang_store.specs.Held.{held}
use Rattle.slang_store.proofs.Storing.{found_after}
use Rattle.slang_store.proofs.memory_files.MemoryFilesFiles.put.Goals as goal

pub returns-in-Ok-clause-done : goal.returns-in-Ok-clause-done
returns-in-Ok-clause-done c =
    let key : c.in_ok-key.key.items ≡ c.args.name.now = grind (arith, common_steps) in
    let value : c.in_ok-bytes.bytes.items ≡ c.args.bytes.now = grind (arith, common_steps) in
    let after = found_after c.args.self.now.entries c.insert.new.self c.in_ok-key.key c.in_ok-bytes.bytes c.in-Ok.ensures.updates in
    after ∙ ap (λ (k : List ℕ). with_entry (held c.args.self.now) k c.in_ok-bytes.bytes.items) key ∙ ap (λ (v : List ℕ). with_entry (held c.args.self.now) c.args.name.now v) value
