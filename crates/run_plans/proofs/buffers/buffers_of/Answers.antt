use Rattle.std.proofs.Common.{◌≡◌, ◌≤◌, ℕ, List, length, ◌∙◌, ap, sym, subst, arith}
use Rattle.std.specs.List.Sorted.{IsPermutation}
use Rattle.std.proofs.lemmas.List.Sorted.{length_permutation}
use Rattle.run_plans.specs.declared.base.Bound.{Bound}
use Rattle.run_plans.specs.Buffers.{bounds_in, AreBounds}
use Rattle.run_plans.proofs.Ascending.{ascends, fewer}
use Rattle.run_plans.proofs.Bounded.{bounds_are}
use Rattle.run_plans.proofs.buffers.buffers_of.Goals as goal

pub returns : goal.returns
returns c =
    let code = c.args.declarations.now in
    let found = c.in_ok-buffers.buffers.items in
    let sorted = c.sort_unstable.new.self.items in
    let perm = c.sort_unstable.ensures.permutation in
    let of = c.in_ok-buffers.ensures in
    let few : length sorted ≤ length code =
    subst (λ (n : ℕ). n ≤ length code) (sym (length_permutation found sorted perm ∙ ap (λ (bs : List Bound). length bs) of)) (fewer code code) in
    let up = ascends code c.requires.valid sorted (subst (λ (bs : List Bound). IsPermutation bs sorted) of perm) c.sort_unstable.ensures.sorted in
    subst (AreBounds code) (sym c.from_vec.ensures) (bounds_are code found sorted of perm up few)
