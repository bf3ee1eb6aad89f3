use Rattle.std.proofs.Common.{◌≡◌, Some, arith}
use Rattle.spirv_words.specs.Machine.{place_of}
use Rattle.run_rooms.proofs.Defined.{place-within}
use Rattle.run_plans.proofs.calls.place_of.Goals as goal

pub word_of-requires : goal.word_of-requires
word_of-requires c =
    let code = c.args.places.now.places.code in
    let there : place_of code c.args.id 0 ≡ Some c.in-Some.place = grind arith in
    let few = c.requires.ground.few in
    omega (arith, few, place-within code c.args.id c.in-Some.place there)
