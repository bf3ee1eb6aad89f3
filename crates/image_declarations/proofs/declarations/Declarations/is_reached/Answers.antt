use Rattle.std.proofs.Common.{◌∙◌, ap}
use Rattle.image_declarations.specs.Reach.{reached}
use Rattle.image_declarations.specs.Holdings.{is_reached}
use Rattle.image_declarations.proofs.declarations.Declarations.is_reached.Goals as goal

pub returns : goal.returns
unfolding is_reached
returns c = c.contains.ensures ∙ c.self.invariant.reached c.args.id ∙ ap (λ code. reached code code c.args.id) c.self.view_is
