use Rattle.std.proofs.Common.{◌≡◌, ◌≢◌, ◌%◌, ◌/◌, arith}
use Rattle.image_declarations.specs.Decorations.{offset_of}
use Rattle.run_plans.specs.Ground.{rooms_of}
use Rattle.run_plans.proofs.Facts.{struct_shape}
use Rattle.run_plans.proofs.Walking.{buffer_member_step, buffer_member_ends}
use Rattle.run_plans.proofs.steps.buffer_member.Goals as goal

pub returns-in-Some-clause-step : goal.returns-in-Some-clause-step
returns-in-Some-clause-step c = λ id e.
    let code = c.args.places.now.places.code in
    let whole : offset_of code c.args.type_id c.args.number % 4 ≡ 0 = grind arith in
    let far : c.in-Some.offset ≡ offset_of code c.args.type_id c.args.number / 4 = grind arith in
    buffer_member_step code (rooms_of c.args.places.now) c.args.type_id c.args.number id c.member_type.result c.in-Some.offset
    (struct_shape code c.requires.ground.valid c.args.type_id c.requires.is_struct) e c.member_type.ensures whole far

pub returns-in-None-clause-step : goal.returns-in-None-clause-step
returns-in-None-clause-step c = λ id e.
    let code = c.args.places.now.places.code in
    let broken : offset_of code c.args.type_id c.args.number % 4 ≢ 0 = grind arith in
    buffer_member_ends code (rooms_of c.args.places.now) c.args.type_id c.args.number id c.requires.there.it
    (struct_shape code c.requires.ground.valid c.args.type_id c.requires.is_struct) e c.requires.there.is broken
