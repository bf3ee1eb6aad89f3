use Rattle.std.proofs.Common.{◌*◌, ◌-◌, ◌^◌, min, None, ap, ◌∙◌}
use Rattle.run_rooms.specs.declared.widths.Declared.TheVariants.{AType}
use Rattle.run_rooms.proofs.Measuring.{row-is}
use Rattle.run_rooms.proofs.widths.row.Goals as goal

pub returns-in-Some : goal.returns-in-Some
returns-in-Some c = λ g stride h.
    ap (λ n. AType (record { words = n; null = None })) (c.min.ensures ∙ ap (λ n. min n (2 ^ 32)) (c.saturating_mul.ensures ∙ ap (λ n. min (n * c.in-Some.part.words) (2 ^ 64 - 1)) c.from.ensures))
    ∙ row-is c.args.widths.now g c.args.of c.args.count stride c.in-Some.part c.in-Some.ensures h
