use Rattle.run_command.proofs.Results.{if_ok_to}
use Rattle.run_command.proofs.Stops.{dispatch_of, dispatch_ends, dispatch_stops}
use Rattle.run_command.proofs.running.dispatched.Goals as goal

pub returns-in-Ok : goal.returns-in-Ok
returns-in-Ok c =
    let is = dispatch_of c.in_ok-runner.ensures.image c.in_ok-entry.ensures c.in-Ok.ensures.is in
    if_ok_to _ _ c.ended.result c.ended.ensures (λ a e. dispatch_ends _ _ _ _ c.in-Ok.ran _ is e)

pub returns : goal.returns
returns c =
    let is = dispatch_of c.in_ok-runner.ensures.image c.in_ok-entry.ensures c.in-Err.ensures.is in
    if_ok_to _ _ c.stopped.result c.stopped.ensures (λ a stop. dispatch_stops _ _ _ _ c.in-Err.fault _ is stop)
