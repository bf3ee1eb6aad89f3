use Rattle.tree_form.proofs.Shaders.{form_is_shader}
use Rattle.tree_form.proofs.laws.forms_are_shaders.Goals as goal

pub returns : goal.returns
returns c = record { is_shader = form_is_shader }
