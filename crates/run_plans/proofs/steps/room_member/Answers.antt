use Rattle.run_plans.specs.Ground.{rooms_of}
use Rattle.run_plans.proofs.Facts.{struct_shape}
use Rattle.run_plans.proofs.Walking.{room_member_step}
use Rattle.run_plans.proofs.steps.room_member.Goals as goal

pub returns-clause-step : goal.returns-clause-step
returns-clause-step c = λ id e.
    let code = c.args.places.now.places.code in
    let part = c.member-part.result in
    room_member_step code (rooms_of c.args.places.now) c.args.type_id c.args.number id part.type_id part.place
    (struct_shape code c.requires.ground.valid c.args.type_id c.requires.is_struct) e c.member-part.ensures
