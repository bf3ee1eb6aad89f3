use Rattle.image_facts.proofs.Fixpoint.{stands-for-type, stands-for-value}
use Rattle.image_facts.proofs.laws.declarations_stand.Goals as goal

pub returns : goal.returns
returns c = record {
  types = λ image k r i s v h z f res m. stands-for-type image v k i r s h z f res m;
  values = λ image k r i o v h z f res m. stands-for-value image v k i r o h z f res m;
}
