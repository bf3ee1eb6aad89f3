use Rattle.std.proofs.Common.{true, false, ◌≡◌, ◌∙◌, ap, subst, ◌+◌, arith}
use Rattle.slang_reading.specs.Lexed.{lexed_all}
use Rattle.ahead_reading.specs.declared.brackets.Next.{Next}
use Rattle.ahead_reading.specs.declared.brackets.Bracket.TheVariants.{Many}
use Rattle.ahead_reading.specs.Knowing.{is_less}
use Rattle.ahead_reading.specs.Brackets.{Behind, ToldOf}
use Rattle.ahead_reading.proofs.Listed.{less_listed, taken_listed, within_list, not_listed}
use Rattle.ahead_reading.proofs.OpenBrackets.{all_over}
use Rattle.ahead_reading.proofs.Growth.{grows_not, grows_twice, adds_on}
use Rattle.ahead_reading.proofs.scanning.scan_from.Goals as goal

pub loop-token-init : goal.loop-token-init
loop-token-init c = record {
  within = omega (arith, within_list c.args.tokens.now c.args.begin c.in-Some.token c.in-Some.ensures);
  comes = λ text k. (c.new-brackets.ensures.comes (lexed_all text c.args.tokens.now) (less_listed text c.args.tokens.now c.args.begin c.in-Some.token c.in-Some.ensures c.if-not-is_mark.ensures), k);
  grows = grows_not c.args.scans.now;
  begins = c.new-brackets.ensures.outermost;
}

pub loop-token-preserved : goal.loop-token-preserved
loop-token-preserved c = record {
  within = omega (arith, within_list c.args.tokens.now c.loop-token.at c.in-Some-token_at.token c.in-Some-token_at.ensures);
  comes = λ text k.
      let i = c.loop-token.invariant.comes text k in
      let a = taken_listed text c.args.tokens.now c.loop-token.at c.in-Some-token_at.token c.loop-token.brackets c.take.new.self c.loop-token.scans c.take.new.scans c.in_ok-take.field-0
      c.in-Some-token_at.ensures c.in_ok-take.ensures.takes i.0 i.1 in
      (subst (λ (n : Next). Behind (lexed_all text c.args.tokens.now) (c.loop-token.at + 1) n c.take.new.self) c.in-Goes.is a.0, a.1);
  grows = (adds_on c.args.scans.now c.loop-token.scans c.take.new.scans (Many c.args.begin) c.loop-token.brackets c.take.new.self c.in_ok-take.field-0 c.loop-token.invariant.grows c.loop-token.invariant.begins c.in_ok-take.ensures.adds).0;
  begins = (adds_on c.args.scans.now c.loop-token.scans c.take.new.scans (Many c.args.begin) c.loop-token.brackets c.take.new.self c.in_ok-take.field-0 c.loop-token.invariant.grows c.loop-token.invariant.begins c.in_ok-take.ensures.adds).2 (λ q. let p = c.in-Goes.is in cc);
}

pub returns-in-Ended-clause-knows : goal.returns-in-Ended-clause-knows
returns-in-Ended-clause-knows c = λ text k.
    let i = c.loop-token.invariant.comes text k in
    let a = taken_listed text c.args.tokens.now c.loop-token.at c.in-Some-token_at.token c.loop-token.brackets c.take.new.self c.loop-token.scans c.take.new.scans c.in_ok-take.field-0
    c.in-Some-token_at.ensures c.in_ok-take.ensures.takes i.0 i.1 in
    a.1

pub returns-in-Refused-clause-knows : goal.returns-in-Refused-clause-knows
returns-in-Refused-clause-knows c = λ text k.
    let i = c.loop-token.invariant.comes text k in
    let a = taken_listed text c.args.tokens.now c.loop-token.at c.in-Some-token_at.token c.loop-token.brackets c.take.new.self c.loop-token.scans c.take.new.scans c.in_ok-take.field-0
    c.in-Some-token_at.ensures c.in_ok-take.ensures.takes i.0 i.1 in
    c.stop.ensures.knows (lexed_all text c.args.tokens.now) (subst (λ (n : Next). Behind (lexed_all text c.args.tokens.now) (c.loop-token.at + 1) n c.take.new.self) c.in-Refused.is a.0) a.1

pub returns-clause-knows : goal.returns-clause-knows
returns-clause-knows c = λ text k.
    let i = c.loop-token.invariant.comes text k in
    c.stop-2.ensures.knows (lexed_all text c.args.tokens.now) (all_over (lexed_all text c.args.tokens.now) c.loop-token.at c.loop-token.brackets (not_listed text c.args.tokens.now c.loop-token.at c.in_default-token_at.ensures) i.0) i.1

pub returns-in-Ended-clause-fills : goal.returns-in-Ended-clause-fills
returns-in-Ended-clause-fills c = let a = adds_on c.args.scans.now c.loop-token.scans c.take.new.scans (Many c.args.begin) c.loop-token.brackets c.take.new.self c.in_ok-take.field-0 c.loop-token.invariant.grows c.loop-token.invariant.begins c.in_ok-take.ensures.adds in (a.0, λ e. a.1 c.in-Ended.is)

pub returns-in-Refused-clause-fills : goal.returns-in-Refused-clause-fills
returns-in-Refused-clause-fills c =
    let a = adds_on c.args.scans.now c.loop-token.scans c.take.new.scans (Many c.args.begin) c.loop-token.brackets c.take.new.self c.in_ok-take.field-0 c.loop-token.invariant.grows c.loop-token.invariant.begins c.in_ok-take.ensures.adds in
    (grows_twice c.args.scans.now c.take.new.scans c.stop.new.scans a.0 c.stop.ensures.grows, λ e. subst (ToldOf c.stop.new.scans) (a.2 (λ q. let p = c.in-Refused.is in cc)) c.stop.ensures.told)

pub returns-clause-fills : goal.returns-clause-fills
returns-clause-fills c = (
  grows_twice c.args.scans.now c.loop-token.scans c.stop-2.new.scans c.loop-token.invariant.grows c.stop-2.ensures.grows,
  λ e. subst (ToldOf c.stop-2.new.scans) c.loop-token.invariant.begins c.stop-2.ensures.told,
)

pub returns-in_default-clause-fills : goal.returns-in_default-clause-fills
returns-in_default-clause-fills c = (grows_not c.args.scans.now, λ e. absurd (let p = ap is_less c.in_default.ensures in cc))

pub returns-then-not-is_mark-clause-fills : goal.returns-then-not-is_mark-clause-fills
returns-then-not-is_mark-clause-fills c = (grows_not c.args.scans.now, λ e. absurd (let p = ap is_less c.in-Some.ensures in let q = c.if-not-is_mark.ensures in let r : false ≡ true = q ∙ (p ∙ e) in cc))
