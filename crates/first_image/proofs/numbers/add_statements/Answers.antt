use Rattle.std.proofs.Common.{◌∙◌, sym, ap}
use Rattle.first_image.specs.Image.{statements_constants}
use Rattle.first_image.proofs.ConstantLists.{statements_constants-push}
use Rattle.first_image.proofs.numbers.add_statements.Goals as goal

pub loop-last-preserved : goal.loop-last-preserved
loop-last-preserved c =
    let before = c.in-Some.before.now in
    let ks = c.loop-last.numbers.keys in
    ap (statements_constants before) c.in_ok-add_statement.ensures
    ∙ sym (statements_constants-push before c.in-Some.last.now ks)
    ∙ ap (λ l. statements_constants l ks) (sym c.in-Some.ensures.cases.0)
    ∙ c.loop-last.invariant
