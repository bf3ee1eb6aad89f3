use Rattle.std.proofs.Common.{◌∙◌, sym, ap}
use Rattle.first_image.specs.Image.{items_constants}
use Rattle.first_image.proofs.ConstantLists.{items_constants-push}
use Rattle.first_image.proofs.numbers.add_items.Goals as goal

pub loop-last-preserved : goal.loop-last-preserved
loop-last-preserved c =
    let before = c.in-Some.before.now in
    let ks = c.loop-last.numbers.keys in
    ap (items_constants before) c.in_ok-add_item.ensures
    ∙ sym (items_constants-push before c.in-Some.last.now ks)
    ∙ ap (λ l. items_constants l ks) (sym c.in-Some.ensures.cases.0)
    ∙ c.loop-last.invariant
