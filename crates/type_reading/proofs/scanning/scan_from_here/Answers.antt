use Rattle.std.proofs.Common.{◌≡◌, ◌∷◌, reverse, sym, ◌∙◌, ap}
use Rattle.type_reading.specs.Scanning.{Go, Finish, move}
use Rattle.type_reading.specs.Reached.{reached}
use Rattle.type_reading.proofs.Scans.{scan_step, next_tokens, moved_on, scan_done, begins_here}
use Rattle.type_reading.proofs.scanning.scan_from_here.Goals as goal

pub loop-token-init : goal.loop-token-init
loop-token-init c = record {
  does = begins_here c.args.tokens.now c.sees.new.self c.if-not-sees.ensures.after c.bump.new.self c.bump.ensures c.new-state.result.top c.new-state.result.under c.new-state.result.awaited
      c.new-state.ensures.top c.new-state.ensures.under c.new-state.ensures.awaited c.if-not-sees.ensures.is;
  tokens = next_tokens c.args.tokens.now c.sees.new.self c.if-not-sees.ensures.after c.bump.new.self c.bump.ensures;
}

pub loop-token-preserved : goal.loop-token-preserved
loop-token-preserved c =
    let s = c.take.new.self.top ∷ reverse c.take.new.self.under in
    let q : Go s c.take.new.self.awaited ≡ move (c.loop-token.state.top ∷ reverse c.loop-token.state.under) c.loop-token.state.awaited c.in-Some.token.kind =
    ap (λ n. reached n s c.take.new.self.awaited) (sym c.in-Goes.is) ∙ c.in_ok-take.ensures in
    record {
      does = moved_on c.loop-token.tokens c.peek.new.self c.peek.ensures.after c.bump-in-Some.new.self c.bump-in-Some.ensures s c.take.new.self.awaited
          ∙ (scan_step c.loop-token.tokens c.peek.new.self c.peek.ensures.after (c.loop-token.state.top ∷ reverse c.loop-token.state.under) c.loop-token.state.awaited (Go s c.take.new.self.awaited)
          c.in-Some.token c.in-Some.ensures.token q ∙ c.loop-token.invariant.does);
      tokens = next_tokens c.loop-token.tokens c.peek.new.self c.peek.ensures.after c.bump-in-Some.new.self c.bump-in-Some.ensures ∙ c.loop-token.invariant.tokens;
    }

pub returns-in-Ended : goal.returns-in-Ended
returns-in-Ended c =
    let q : Finish ≡ move (c.loop-token.state.top ∷ reverse c.loop-token.state.under) c.loop-token.state.awaited c.in-Some.token.kind =
    ap (λ n. reached n (c.take.new.self.top ∷ reverse c.take.new.self.under) c.take.new.self.awaited) (sym c.in-Ended.is) ∙ c.in_ok-take.ensures in (
      sym c.loop-token.invariant.does
          ∙ (sym (scan_step c.loop-token.tokens c.peek.new.self c.peek.ensures.after (c.loop-token.state.top ∷ reverse c.loop-token.state.under) c.loop-token.state.awaited Finish
          c.in-Some.token c.in-Some.ensures.token q) ∙ scan_done c.loop-token.tokens c.peek.new.self c.peek.ensures.after c.bump-in-Some.new.self c.bump-in-Some.ensures),
      next_tokens c.loop-token.tokens c.peek.new.self c.peek.ensures.after c.bump-in-Some.new.self c.bump-in-Some.ensures ∙ c.loop-token.invariant.tokens,
    )
