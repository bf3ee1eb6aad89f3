use Rattle.image_scopes.proofs.Used.{result_is_here, result_is_new}
use Rattle.image_scopes.proofs.Seen.{used_is_seen, type_is_before, global_is_seen, seen_is_near}
use Rattle.image_scopes.proofs.laws.what_is_used_is_seen.Goals as goal

pub returns : goal.returns
returns c = record {
  value = used_is_seen;
  type_before = type_is_before;
  once = result_is_here;
  new = result_is_new;
  global = global_is_seen;
  near = seen_is_near;
}
