-- By the test of the names.
use Rattle.std.proofs.Common.{Some, refl, bytes_eq}
use Rattle.std.proofs.lemmas.Bool.{cond-true, cond-false, false_from_ne_true}
use Rattle.std.proofs.lemmas.Slice.Eq.{bytes_eq-Decides}
use Rattle.slang_store.proofs.laws.an_entry_changes_one_name.Goals as goal

pub returns-clause-here : goal.returns-clause-here
returns-clause-here c m name bytes =
    cond-true (bytes_eq name name) (Some bytes) (m name) ((bytes_eq-Decides name name).1 refl)

pub returns-clause-elsewhere : goal.returns-clause-elsewhere
returns-clause-elsewhere c m name bytes other differs =
    cond-false (bytes_eq name other) (Some bytes) (m other) (false_from_ne_true (bytes_eq name other) (λ same. differs ((bytes_eq-Decides name other).0 same)))
