use Rattle.image_facts.proofs.Values.{local-place, local-shape}
use Rattle.image_facts.proofs.laws.variables_hold_data.Goals as goal

pub returns : goal.returns
returns c = record {
  inside = λ image x v h. local-place image v x h;
  holds = λ image x v h. let l = local-shape image v x h in (l.form, l.plain, l.holds, l.begins);
}
