use Rattle.std.proofs.Common.{◌∙◌, ap}
use Rattle.image_declarations.specs.Reach.{wraps}
use Rattle.image_declarations.specs.Holdings.{is_wrapper}
use Rattle.image_declarations.proofs.declarations.Declarations.is_wrapper.Goals as goal

pub returns : goal.returns
unfolding is_wrapper
returns c = c.contains.ensures ∙ c.self.invariant.wrappers c.args.id ∙ ap (λ code. wraps code code c.args.id) c.self.view_is
