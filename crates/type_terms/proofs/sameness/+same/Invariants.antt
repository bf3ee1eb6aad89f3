use Rattle.std.proofs.Common.{◌≡◌, map, drop}
use Rattle.type_terms.specs.Types.{all_same, same_arg}
use Rattle.type_terms.proofs.sameness.+same.Given as goal

abbrev pub invariant-same_args-loop-x : goal.invariant-same_args-loop-x
invariant-same_args-loop-x l = all_same (map same_arg l.a) l.b ≡ all_same (map same_arg (drop l.x-index l.a)) l.others
