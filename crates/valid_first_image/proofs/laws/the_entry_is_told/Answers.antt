use Rattle.valid_first_image.proofs.EntryTold.{entry_is_named, group_is}
use Rattle.valid_first_image.proofs.laws.the_entry_is_told.Goals as goal

pub returns : goal.returns
returns c = record {
  name = λ home p shader. entry_is_named home p shader;
  group = λ home p shader. group_is home p;
}
