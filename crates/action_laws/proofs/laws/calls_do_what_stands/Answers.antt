use Rattle.action_laws.proofs.Calls.{put_is, put_both_is, gathered_is, entered_is, chosen_is, returned_is, pointed_is, buffer_pointed_is}
use Rattle.action_laws.proofs.laws.calls_do_what_stands.Goals as goal

pub returns : goal.returns
returns c = record {
  put = put_is;
  put_both = put_both_is;
  gathered = gathered_is;
  entered = entered_is;
  chosen = chosen_is;
  returned = returned_is;
  pointed = pointed_is;
  buffer_pointed = buffer_pointed_is;
}
