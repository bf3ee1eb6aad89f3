use Rattle.image_scopes.proofs.Kept.{meets_rule}
use Rattle.image_scopes.proofs.Shapes.{runs}
use Rattle.image_scopes.proofs.Contexts.{context}
use Rattle.image_scopes.proofs.laws.what_is_run_fits.Goals as goal

pub returns : goal.returns
returns c = record { shape = runs; rule = meets_rule; context = context }
