use Rattle.std.proofs.Common.{◌≡◌, ◌+◌, ◌-◌, ◌^◌, min, drop}
use Rattle.run_actions.specs.Chains.{all_chosen, distance}
use Rattle.run_actions.proofs.chains.step_all.Given as goal

abbrev pub invariant-loop-index : goal.invariant-loop-index
invariant-loop-index l = record {
  chosen : all_chosen l.words l.length (drop l.index-index l.steps) ≡ all_chosen l.words l.length l.steps;
  place : min (l.place + distance l.words (drop l.index-index l.steps)) (2 ^ 64 - 1) ≡ min (l.from + l.offset + distance l.words l.steps) (2 ^ 64 - 1);
}
