use Rattle.std.proofs.Common.{◌≡◌, ℕ, List, Some, ◌+◌, ◌-◌, ◌^◌, min, ◌∷◌, drop, refl, sym, ap, ◌∙◌, subst, slice_index_or}
use Rattle.spirv_words.specs.Machine.{Shape}
use Rattle.image_operands.specs.Memory.{chain_end}
use Rattle.run_actions.specs.declared.actions.Index.{Index}
use Rattle.run_plans.specs.Ground.{rooms_of}
use Rattle.run_plans.specs.Steps.{IsWalked, HasWalked, planned, type_behind}
use Rattle.run_plans.specs.Actions.{items}
use Rattle.action_laws.specs.Paths.{Plan}
use Rattle.run_plans.proofs.Chained.{walked_first, walked_on, walk_ends, walk_stops, dropped, dropped_all, index_there, index_on}
use Rattle.run_plans.proofs.chains.walk_along.Goals as goal

pub loop-id-init : goal.loop-id-init
loop-id-init c =
    (walked_first c.args.places.now.places.code (rooms_of c.args.places.now) c.args.in_buffer c.args.type_id c.args.indices.now _ c.new-steps.ensures.items, refl)

pub step_from-requires-clause-index : goal.step_from-requires-clause-index
step_from-requires-clause-index c =
    let code = c.args.places.now.places.code in
    let ids = c.args.indices.now in
    let k = c.loop-id.id-index in
    (index_there code c.loop-id.at (slice_index_or ids k 0) c.requires.leads.it (drop (k + 1) ids)
    (ap (chain_end code c.loop-id.at) (sym (dropped ids k c.loop-id-test.true)) ∙ c.loop-id.invariant.1 ∙ c.requires.leads.is)).0

pub step_from-requires-clause-there : goal.step_from-requires-clause-there
step_from-requires-clause-there c =
    let code = c.args.places.now.places.code in
    let ids = c.args.indices.now in
    let k = c.loop-id.id-index in
    (index_there code c.loop-id.at (slice_index_or ids k 0) c.requires.leads.it (drop (k + 1) ids)
    (ap (chain_end code c.loop-id.at) (sym (dropped ids k c.loop-id-test.true)) ∙ c.loop-id.invariant.1 ∙ c.requires.leads.is)).1

pub loop-id-preserved : goal.loop-id-preserved
loop-id-preserved c =
    let code = c.args.places.now.places.code in
    let L = rooms_of c.args.places.now in
    let ids = c.args.indices.now in
    let k = c.loop-id.id-index in
    let at = c.loop-id.at in
    let step = c.in-Some.step in
    let here = dropped ids k c.loop-id-test.true in
    let before = subst (λ (rest : List ℕ). HasWalked code L c.args.in_buffer c.args.type_id ids c.loop-id.offset c.loop-id.steps.items at rest) here
    c.loop-id.invariant.0 in
    let there = index_there code at (slice_index_or ids k 0) c.requires.leads.it (drop (k + 1) ids)
    (ap (chain_end code at) (sym here) ∙ c.loop-id.invariant.1 ∙ c.requires.leads.is) in (
      subst (λ (t : ℕ). HasWalked code L c.args.in_buffer c.args.type_id ids c.saturating_add-offset.result c.add_step.new.steps.items t (drop (k + 1) ids)) (sym c.type_behind-at.ensures)
          (walked_on code L c.args.in_buffer c.args.type_id ids c.loop-id.offset c.saturating_add-offset.result c.loop-id.steps.items c.add_step.new.steps.items at
          (slice_index_or ids k 0) (drop (k + 1) ids) step before c.in-Some.ensures.step
          (c.saturating_add-offset.ensures ∙ ap (λ n. min (c.loop-id.offset + n) (2 ^ 32 - 1)) c.offset_of.ensures) c.in_ok-add_step.ensures),
      ap (λ t. chain_end code t (drop (k + 1) ids)) c.type_behind-at.ensures
          ∙ sym (index_on code at (slice_index_or ids k 0) (type_behind step) (drop (k + 1) ids) there.0 c.in-Some.ensures.of)
          ∙ ap (chain_end code at) (sym here) ∙ c.loop-id.invariant.1,
    )

pub returns-in-None : goal.returns-in-None
returns-in-None c = record {
  ends = λ s is.
      let code = c.args.places.now.places.code in
      let L = rooms_of c.args.places.now in
      let ids = c.args.indices.now in
      let k = c.loop-id.id-index in
      let walk = c.loop-id.invariant.0 in
      let before = subst (λ (rest : List ℕ). IsWalked code L c.args.in_buffer s ids walk.far c.loop-id.steps.items c.loop-id.at rest)
      (dropped ids k c.loop-id-test.true) (walk.walked s is) in
      walk_stops code L c.args.in_buffer s ids walk.far c.loop-id.steps.items c.loop-id.at (slice_index_or ids k 0) (drop (k + 1) ids) before c.in-None.ensures.step;
}

pub returns : goal.returns
returns c =
    let code = c.args.places.now.places.code in
    let L = rooms_of c.args.places.now in
    let ids = c.args.indices.now in
    let walk = c.loop-id.invariant.0 in
    record {
      far = walk.far;
      cut = walk.cut;
      leads = λ s is.
          let before = subst (λ (rest : List ℕ). IsWalked code L c.args.in_buffer s ids walk.far c.loop-id.steps.items c.loop-id.at rest)
          (dropped_all ids c.loop-id.id-index c.loop-id-test.false) (walk.walked s is) in
          let end = walk_ends code L c.args.in_buffer s ids walk.far c.loop-id.steps.items c.loop-id.at before in
          subst (λ (steps : List Index). (x : Shape) × (planned c.args.in_buffer s (items code L s ids) ≡ Plan walk.far steps x)) (sym c.from_vec.ensures) end;
    }
