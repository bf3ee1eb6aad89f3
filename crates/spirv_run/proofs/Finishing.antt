-- How invocations of a dispatch end.
use Rattle.std.proofs.Common.{◌≡◌, ℕ, suc, ◌+◌, List, length, refl, sym, subst}
use Rattle.std.specs.List.{AllByRecursion}
use Rattle.spirv_words.specs.declared.images.Image.{Image}
use Rattle.spirv_words.specs.Step.{step}
use Rattle.spirv_words.specs.Runs.{setting}
use Rattle.run_actions.specs.Steps.{flat_step}
use Rattle.run_buffers.specs.Texts.{IsWord}
use Rattle.run_buffers.specs.declared.buffer.Buffer.{Buffer}
use Rattle.run_buffers.specs.declared.ids.Ids.{Ids}
use Rattle.run_buffers.specs.Invocations.{ids_of}
use Rattle.spirv_run.specs.declared.turns.Turn.{Turn}
use Rattle.spirv_run.specs.declared.finish.Finish.TheVariants.{Ended, Undefined, Unfinished}
use Rattle.spirv_run.specs.Shared.{lengths_in, built_ins_of}
use Rattle.spirv_run.specs.Dispatch.{AreDone, FirstUndefined, FirstUnfinished}
use Rattle.spirv_run.specs.Machines.{Machine, moved_to, HasDone}
use Rattle.spirv_run.specs.Parts.{IsMoved}
use Rattle.spirv_run.specs.Going.{IsUnderWay, HasFinished}
use Rattle.spirv_run.proofs.Running.{stepped}
use Rattle.spirv_run.proofs.UnderWay.{OfTurn, of_turn}

-- what a step of an invocation says by its turn
pub one_step : (image : Image) (ids : Ids) (before : List Buffer) (k : ℕ) (m next : Machine) (now last : List Buffer) (turn : Turn) → IsUnderWay image ids before k m now
    → next ≡ moved_to m next.place next.words → IsMoved m.plan.buffers (flat_step m.plan.actions.items m.counts m.place m.words) m.place m.words now turn next.place next.words last
    → AllByRecursion IsWord m.words → AllByRecursion IsWord m.counts → length m.counts ≡ length m.plan.buffers → OfTurn image ids before k turn next last
one_step image ids before k m next now last turn u kept moved words counts as_many =
    let d = stepped m next ids (lengths_in before) u.state now last turn u.at u.ready.bound kept moved words counts as_many u.are u.ready.all in
    let P : Machine → Type 0 = λ n. HasDone (step (setting m.image.instructions (built_ins_of ids) (lengths_in before)) u.state) n ids (lengths_in before) turn now last in
    subst (λ (n : Machine). OfTurn image ids before k turn n last) (sym kept)
    (of_turn image ids before k m next.place next.words now last u turn (subst P kept d))

module _ (image : Image) (size groups : List ℕ) (steps n total : ℕ) (before between after : List Buffer) (earlier : AreDone image size groups steps n before between total) where
  -- one more is done
  pub row_more : (step : ℕ) → HasFinished image (ids_of size groups n) steps between (Ended step) after → AreDone image size groups steps (suc n) before after (total + step)
  row_more step f = record { between = between; so_far = total; earlier = earlier; step = step; within = f.0; done = f.1; sum = refl }

  pub row_undefined : (step : ℕ) → HasFinished image (ids_of size groups n) steps between (Undefined step) after → FirstUndefined image size groups steps n step before after
  row_undefined step f = record { between = between; so_far = total; earlier = earlier; within = f.0; stops = f.1 }

  pub row_unfinished : HasFinished image (ids_of size groups n) steps between Unfinished after → FirstUnfinished image size groups steps n before after
  row_unfinished f = record { between = between; so_far = total; earlier = earlier; unfinished = f }
