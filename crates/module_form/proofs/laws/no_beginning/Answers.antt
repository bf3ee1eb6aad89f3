use Rattle.std.proofs.Common.{[], ◌++◌, sym}
use Rattle.std.proofs.lemmas.List.{append-nil}
use Rattle.module_form.proofs.Decoded.{one_module}
use Rattle.module_form.proofs.laws.no_beginning.Goals as goal

pub returns : goal.returns
returns c = λ m n bytes rest p q. let h = one_module m n rest [] bytes (bytes ++ rest) p q (sym (append-nil (bytes ++ rest))) in (h.0, h.1)
