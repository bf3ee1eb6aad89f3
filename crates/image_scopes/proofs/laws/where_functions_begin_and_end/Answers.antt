use Rattle.image_scopes.proofs.Contexts.{call, returns_void, returns_value}
use Rattle.image_scopes.proofs.Entering.{function}
use Rattle.image_scopes.proofs.Beginning.{begin}
use Rattle.image_scopes.proofs.Signatures.{parameter_is_typed, result_is_typed}
use Rattle.image_scopes.proofs.laws.where_functions_begin_and_end.Goals as goal

pub returns : goal.returns
returns c = record {
  begun = function;
  entry = begin;
  parameters = parameter_is_typed;
  result_type = result_is_typed;
  calls = call;
  nothing = returns_void;
  given_back = returns_value;
}
