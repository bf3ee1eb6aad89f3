use Rattle.image_facts.proofs.Values.{signed-is}
use Rattle.image_facts.proofs.Globals.{global-stands, global-not-void, constant-stands}
use Rattle.image_facts.proofs.laws.values_stand_for_operands.Goals as goal

pub returns : goal.returns
returns c = record {
  global = λ image x v h. global-stands image v x h;
  never_void = λ image x v h. global-not-void image v x h;
  number = λ image x n v h e. constant-stands image v x n h e;
  sign = signed-is;
}
