use Rattle.action_laws.proofs.Acts.{copied_is, one_is, two_is_defined, two_is_undefined, loaded_is, stored_is, read_is, wrote_is, given_back_is}
use Rattle.action_laws.proofs.laws.actions_do_what_stands.Goals as goal

pub returns : goal.returns
returns c = record {
  copied = copied_is;
  one = one_is;
  two_defined = two_is_defined;
  two_undefined = two_is_undefined;
  loaded = loaded_is;
  stored = stored_is;
  read = read_is;
  wrote = wrote_is;
  given_back = given_back_is;
}
