use Rattle.std.proofs.Common.{sym, ◌∙◌, ap, subst, List, [], ◌∷◌, length, ◌+◌, length-append}
use Rattle.ahead_reading.specs.declared.scans.Known.TheVariants.{Unknown}
use Rattle.ahead_reading.specs.declared.scans.Known.{Known}
use Rattle.ahead_reading.specs.Knowing.{Knows}
use Rattle.ahead_reading.proofs.Knowledge.{knows_none, knows_pushed}
use Rattle.ahead_reading.proofs.scans.Scans.unknown.Goals as goal

pub loop-token-init : goal.loop-token-init
loop-token-init c = record {
  knows = λ ts. subst (λ (l : List Known). Knows (record { known = l }) ts) (sym c.new-known.ensures) (knows_none ts);
  count = ap length c.new-known.ensures;
}

pub loop-token-preserved : goal.loop-token-preserved
loop-token-preserved c = record {
  knows = λ ts. subst (λ (l : List Known). Knows (record { known = l }) ts) (sym c.in_ok-push.ensures.ok) (knows_pushed ts c.loop-token.known (c.loop-token.invariant.knows ts));
  count = ap length c.in_ok-push.ensures.ok ∙ (length-append c.loop-token.known (Unknown ∷ []) ∙ ap (λ n. n + 1) c.loop-token.invariant.count);
}
