use Rattle.constant_values.proofs.Signs.{on_sign}
use Rattle.constant_values.proofs.laws.operators_keep_the_sign.Goals as goal

pub returns : goal.returns
returns c = λ op s t u xs ys zs h. on_sign op s u xs ys zs h
