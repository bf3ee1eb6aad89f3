use Rattle.std.proofs.Common.{◌≡◌, true, false, arith}
use Rattle.call_graph.specs.Edges.{rank}
use Rattle.call_graph.proofs.Descents.{walk-descends}
use Rattle.call_graph.proofs.cycles.leads_back.Goals as goal

apart : {A : Type 0} → false ≡ true → A
apart h = cc

pub returns-then-rank_of : goal.returns-then-rank_of
returns-then-rank_of c = (
  (λ t. apart t),
  (λ walk. let le = walk-descends c.args.edges.now (rank c.args.ranks.now) c.requires.ranked c.args.callee c.args.caller walk.0 walk.1 in
      absurd (omega (arith, le, c.if-rank_of.true, c.rank_of.ensures, c.rank_of-2.ensures))),
)
