use Rattle.std.proofs.Common.{◌≡◌, ◌<◌, ◌^◌, ℕ, true, false, List, Option, Some, None, drop, take, length, slice_get, sym, ap, ◌∙◌, subst, arith}
use Rattle.std.proofs.lemmas.Bool.{lt-ltb, ltb-true}
use Rattle.std.proofs.lemmas.Option.{slice_get_within, slice_get-get_or}
use Rattle.image_lookup.specs.Lookups.{operands}
use Rattle.run_plans.specs.Members.{row_in, IsFull}
use Rattle.run_plans.specs.Walks.{total_width}
use Rattle.run_plans.proofs.Facts.{struct_shape}
use Rattle.run_plans.proofs.Widths.{members_fit}
use Rattle.run_plans.proofs.parts.member_place.Goals as goal

no_bool : false ≡ true → ⊥
no_bool e = cc

pub unreachable-requires : goal.unreachable-requires
unreachable-requires c =
    let g = c.args.places.now in
    let code = g.places.code in
    let t = c.args.type_id in
    let n = c.args.number in
    let there = c.requires.there in
    let small = members_fit code c.requires.ground.narrow t n there.it (struct_shape code c.requires.ground.valid t c.requires.is_struct) there.is in
    let full = c.requires.ground.rows.full t c.requires.is_struct in
    let place = full.many n (slice_get_within (drop 1 (operands code t)) n there.it there.is) small in
    let here : slice_get c.row_in.result.now n ≡ Some place.0 = ap (λ (row : List ℕ). slice_get row n) c.row_in.ensures ∙ place.1 in
    no_bool (c.in-None.ensures.lookup.0 ∙ lt-ltb n (length c.row_in.result.now) (slice_get_within c.row_in.result.now n place.0 here))

pub returns : goal.returns
returns c =
    let g = c.args.places.now in
    let t = c.args.type_id in
    let n = c.args.number in
    let l = ltb-true n (length c.row_in.result.now) (sym c.in-Some.ensures.lookup.0) in
    let there : slice_get c.row_in.result.now n ≡ Some c.in-Some.place.now =
    slice_get-get_or c.row_in.result.now n _ l ∙ ap (λ p. Some p) (sym c.in-Some.ensures.lookup.1) in
    (c.requires.ground.rows.each t).tells n c.in-Some.place.now (ap (λ (row : List ℕ). slice_get row n) (sym c.row_in.ensures) ∙ there)
