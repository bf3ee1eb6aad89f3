use Rattle.run_plans.proofs.Rows.{IsRowTo}
use Rattle.run_plans.proofs.members.row_of.Given as goal

abbrev pub invariant-loop-type_id : goal.invariant-loop-type_id
invariant-loop-type_id l = IsRowTo l.places.code l.types l.type_id-index l.row.items l.place
