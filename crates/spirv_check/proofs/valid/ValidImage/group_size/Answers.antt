use Rattle.std.proofs.Common.{ℕ, ◌*◌, ◌<◌, ◌≤◌, List, slice_index, sym, subst}
use Rattle.spirv_check.proofs.Groups.{group_is_some}
use Rattle.spirv_check.proofs.valid.ValidImage.group_size.Goals as goal

pub returns-clause-some : goal.returns-clause-some
returns-clause-some c =
    let P : List ℕ → Type 0 = λ s. 0 < slice_index s 0 * slice_index s 1 * slice_index s 2 in
    subst P (sym c.self.invariant.2) (group_is_some c.self.inside.image c.self.invariant.0).0

pub returns-clause-few : goal.returns-clause-few
returns-clause-few c =
    let P : List ℕ → Type 0 = λ s. slice_index s 0 * slice_index s 1 * slice_index s 2 ≤ 1024 in
    subst P (sym c.self.invariant.2) (group_is_some c.self.inside.image c.self.invariant.0).1
