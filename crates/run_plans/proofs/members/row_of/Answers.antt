use Rattle.run_plans.proofs.Rows.{row_begins, row_goes, row_pushed, row_ends, row_stops}
use Rattle.run_plans.proofs.members.row_of.Goals as goal

pub loop-type_id-init : goal.loop-type_id-init
loop-type_id-init c = row_begins c.args.places.now.code c.args.types.now _ c.new-row.ensures.items

pub loop-type_id-preserved : goal.loop-type_id-preserved
loop-type_id-preserved c =
    row_goes c.args.places.now.code c.args.types.now c.loop-type_id.type_id-index c.loop-type_id.row.items c.push.new.self.items c.loop-type_id.place
    c.in-Some.next c.loop-type_id-test.true c.loop-type_id.invariant c.in_ok-push.ensures.items c.in-Some.ensures

pub returns-in-None-clause-row : goal.returns-in-None-clause-row
returns-in-None-clause-row c =
    row_pushed c.args.places.now.code c.args.types.now c.loop-type_id.type_id-index c.loop-type_id.row.items c.push.new.self.items c.loop-type_id.place
    c.loop-type_id.invariant c.in_ok-push.ensures.items

pub returns-in-None-clause-full : goal.returns-in-None-clause-full
returns-in-None-clause-full c =
    row_stops c.args.places.now.code c.args.types.now c.loop-type_id.type_id-index c.loop-type_id.row.items c.push.new.self.items c.loop-type_id.place
    c.loop-type_id-test.true c.loop-type_id.invariant c.in_ok-push.ensures.items c.in-None.ensures

pub returns-clause-full : goal.returns-clause-full
returns-clause-full c =
    row_ends c.args.places.now.code c.args.types.now c.loop-type_id.type_id-index c.loop-type_id.row.items c.loop-type_id.place
    c.loop-type_id.invariant c.loop-type_id-test.false
