use Rattle.std.proofs.Common.{◌≡◌, ◌≤◌, ◌<◌, ℕ, List, Some, ◌+◌, ◌∷◌, drop, length, refl, sym, ap, ◌∙◌, subst, slice_index_or, arith}
use Rattle.image_operands.specs.Composites.{extract_end}
use Rattle.run_plans.specs.Walks.{IsOnPath, width_at}
use Rattle.run_plans.proofs.Chained.{dropped, dropped_all}
use Rattle.run_plans.proofs.Taken.{path_begins, path_goes, path_ends, path_there, path_on}
use Rattle.run_plans.proofs.composites.part_behind.Goals as goal

pub loop-number-init : goal.loop-number-init
loop-number-init c = (λ s is. path_begins c.args.places.now.places.code s c.args.path.now c.args.type_id is, refl, same _)
  where
    same : (w : ℕ) → 0 + w ≤ w
    same w = omega arith

pub part_with-part-requires-clause-there : goal.part_with-part-requires-clause-there
part_with-part-requires-clause-there c =
    let code = c.args.places.now.places.code in
    let path = c.args.path.now in
    let k = c.loop-number.number-index in
    let at = c.loop-number.at in
    path_there code at.type_id (slice_index_or path k 0) c.requires.leads.it (drop (k + 1) path)
    (ap (extract_end code at.type_id) (sym (dropped path k c.loop-number-test.true)) ∙ c.loop-number.invariant.1 ∙ c.requires.leads.is)

pub loop-number-preserved : goal.loop-number-preserved
loop-number-preserved c =
    let code = c.args.places.now.places.code in
    let path = c.args.path.now in
    let k = c.loop-number.number-index in
    let at = c.loop-number.at in
    let part = c.part_with-part.result in
    let here = dropped path k c.loop-number-test.true in (
      λ s is. path_goes code s path at.type_id (slice_index_or path k 0) part.type_id at.place part.place _ (drop (k + 1) path)
          (subst (λ (rest : List ℕ). IsOnPath code s path at.type_id at.place rest) here (c.loop-number.invariant.0 s is)) c.part_with-part.ensures.part refl,
      sym (path_on code at.type_id (slice_index_or path k 0) part.type_id (drop (k + 1) path) c.part_with-part.ensures.of)
          ∙ ap (extract_end code at.type_id) (sym here) ∙ c.loop-number.invariant.1,
      further _ _ _ _ _ c.part_with-part.ensures.inside c.loop-number.invariant.2,
    )
  where
    further : (a b c d w : ℕ) → a + b ≤ c → d + c ≤ w → d + a + b ≤ w
    further a b c d w p q = omega arith

pub returns-clause-part : goal.returns-clause-part
returns-clause-part c = λ s is.
    let code = c.args.places.now.places.code in
    let path = c.args.path.now in
    let at = c.loop-number.at in
    path_ends code s path at.type_id at.place
    (subst (λ (rest : List ℕ). IsOnPath code s path at.type_id at.place rest) (dropped_all path c.loop-number.number-index c.loop-number-test.false)
    (c.loop-number.invariant.0 s is))
