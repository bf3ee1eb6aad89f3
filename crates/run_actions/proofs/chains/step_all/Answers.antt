use Rattle.std.proofs.Common.{◌+◌, sym, ◌∙◌}
use Rattle.run_actions.specs.Chains.{distance}
use Rattle.run_actions.proofs.Choosing.{none_chosen, more_chosen, more_far, all_done}
use Rattle.run_actions.proofs.chains.step_all.Goals as goal

pub returns-in-None : goal.returns-in-None
returns-in-None c =
    none_chosen c.args.words.now c.args.length c.args.from c.args.offset c.loop-index.index-index c.args.steps.now _ c.loop-index-test.true
    c.loop-index.invariant.chosen (sym c.choose_far.ensures ∙ c.in-None.is)

pub loop-index-preserved : goal.loop-index-preserved
loop-index-preserved c =
    let is = sym c.choose_far.ensures ∙ c.in-Some.is in
    record {
      chosen =
          more_chosen c.args.words.now c.args.length c.loop-index.index-index c.args.steps.now _ c.in-Some.more c.loop-index-test.true
          c.loop-index.invariant.chosen is;
      place =
          more_far c.args.words.now c.args.length c.loop-index.index-index c.args.steps.now _ c.in-Some.more c.loop-index.place
          c.saturating_add-place.result (c.args.from + c.args.offset + distance c.args.words.now c.args.steps.now) c.loop-index-test.true is
          c.loop-index.invariant.place c.saturating_add-place.ensures;
    }

pub returns : goal.returns
returns c =
    c.place_at.ensures
    ∙ all_done c.args.words.now c.args.length c.args.from c.args.offset c.loop-index.index-index c.loop-index.place c.args.steps.now
    c.loop-index-test.false c.loop-index.invariant.chosen c.loop-index.invariant.place
