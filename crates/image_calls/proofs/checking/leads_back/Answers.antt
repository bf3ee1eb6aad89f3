use Rattle.std.proofs.Common.{◌↔◌, IsTrue, IfOk, sym, subst}
use Rattle.image_calls.specs.Calls.{LeadsBack}
use Rattle.image_calls.proofs.checking.leads_back.Goals as goal

pub returns-in-Some : goal.returns-in-Some
returns-in-Some c = subst (λ edge. IfOk c.leads_back.result (λ back. IsTrue back ↔ LeadsBack c.args.edges.now edge)) (sym c.in-Some.is) c.leads_back.ensures
