use Rattle.run_plans.proofs.Searched.{found_at, missed_at}
use Rattle.run_plans.proofs.words.place_among.Goals as goal

pub returns-in-Ok : goal.returns-in-Ok
returns-in-Ok c n b at e f =
    found_at c.args.bounds.now c.args.set c.args.binding n b c.requires.ascending at e f c.in-Ok.place c.in-Ok.ensures.bound c.in-Ok.ensures.position

pub returns-in-Err : goal.returns-in-Err
returns-in-Err c n b at e f =
    missed_at c.args.bounds.now c.args.set c.args.binding n b c.requires.ascending at e f c.in-Err.place c.in-Err.ensures.position
