use Rattle.std.proofs.Common.{◌≡◌, ◌≤◌, drop}
use Rattle.slang_tokens.specs.Bytes.{value_from}
use Rattle.slang_tokens.proofs.bytes.value.Given as goal

abbrev pub invariant-loop-b : goal.invariant-loop-b
invariant-loop-b l = record {
  bounded : l.value ≤ 4294967295;
  so_far : value_from l.base 0 l.digits ≡ value_from l.base l.value (drop l.b-index l.digits);
}
