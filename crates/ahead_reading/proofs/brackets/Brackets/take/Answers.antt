use Rattle.std.proofs.Common.{◌≡◌, refl, sym, ◌∙◌, ap, Some}
use Rattle.slang_tokens.specs.declared.tokens.Kind.{Kind}
use Rattle.type_reading.specs.declared.steps.Open.{Open}
use Rattle.type_reading.specs.declared.steps.Step.{Step}
use Rattle.type_reading.specs.declared.steps.Awaited.{Awaited}
use Rattle.type_reading.specs.Scanning.{step}
use Rattle.ahead_reading.specs.declared.brackets.Bracket.{Bracket}
use Rattle.ahead_reading.specs.Brackets.{open_of}
use Rattle.ahead_reading.proofs.OpenBrackets.{all_kept, all_pushed, all_stopped}
use Rattle.ahead_reading.proofs.Growth.{grows_not}
use Rattle.ahead_reading.proofs.brackets.Brackets.take.Goals as goal

-- the step of the code is that of the token
same_step : (top : Open) (b : Bracket) (w : Awaited) (kind other : Kind) (r v : Step) → top ≡ open_of b → r ≡ step (Some top) w kind → r ≡ v → other ≡ kind → step (Some (open_of b)) w other ≡ v
same_step top b w kind other r v p q e o = ap (λ kind. step (Some (open_of b)) w kind) o ∙ (sym (q ∙ ap (λ f. step (Some f) w kind) p) ∙ e)

pub returns-in-Keep-clause-takes : goal.returns-in-Keep-clause-takes
returns-in-Keep-clause-takes c = λ ts t here q h k.
    let x = c.args.self.now in
    (all_kept ts c.args.at x t here c.in-Keep.awaited (same_step _ x.top x.awaited c.args.kind t.kind c.step_of.result _ c.open_of.ensures c.step_of.ensures c.in-Keep.is q) h, k)

pub returns-in_ok-push-in-Push-clause-takes : goal.returns-in_ok-push-in-Push-clause-takes
returns-in_ok-push-in-Push-clause-takes c = λ ts t here q h k.
    let x = c.args.self.now in (
      all_pushed ts c.args.at x t here c.push.new.self c.bracket_of.result c.in-Push.bracket c.in-Push.awaited
          (same_step _ x.top x.awaited c.args.kind t.kind c.step_of.result _ c.open_of.ensures c.step_of.ensures c.in-Push.is q)
          c.bracket_of.ensures.kind c.bracket_of.ensures.begins c.in_ok-push-in-Push.ensures.all.0 c.in_ok-push-in-Push.ensures.all.1 h,
      k,
    )

pub returns-in-Pop-clause-takes : goal.returns-in-Pop-clause-takes
returns-in-Pop-clause-takes c =
    let x = c.args.self.now in
    let d = same_step _ x.top x.awaited c.args.kind c.args.kind c.step_of.result _ c.open_of.ensures c.step_of.ensures c.in-Pop.is refl in
    λ ts t here q h k. c.close.ensures.takes c.args.kind d ts t here q h k

pub returns-in-Refused-clause-takes : goal.returns-in-Refused-clause-takes
returns-in-Refused-clause-takes c = λ ts t here q h k.
    let x = c.args.self.now in
    (all_stopped ts c.args.at x t here (same_step _ x.top x.awaited c.args.kind t.kind c.step_of.result _ c.open_of.ensures c.step_of.ensures c.in-Refused.is q) h, k)

pub returns-in-Keep-clause-adds : goal.returns-in-Keep-clause-adds
returns-in-Keep-clause-adds c = (grows_not c.args.scans.now, refl)

pub returns-in_ok-push-in-Push-clause-adds : goal.returns-in_ok-push-in-Push-clause-adds
returns-in_ok-push-in-Push-clause-adds c = (grows_not c.args.scans.now, c.in_ok-push-in-Push.ensures.outermost)

pub returns-in-Pop-clause-adds : goal.returns-in-Pop-clause-adds
returns-in-Pop-clause-adds c = c.close.ensures.adds

pub returns-in-Refused-clause-adds : goal.returns-in-Refused-clause-adds
returns-in-Refused-clause-adds c = (grows_not c.args.scans.now, refl)
