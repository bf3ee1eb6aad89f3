use Rattle.std.proofs.Common.{◌+◌, List, arith, subst}
use Rattle.run_actions.specs.declared.actions.Action.{Action}
use Rattle.run_actions.specs.Steps.{flat_step, Took}
use Rattle.spirv_run.proofs.Moving.{moved_by_read, moved_by_write}
use Rattle.spirv_run.proofs.advance.advance.Goals as goal

pub returns-in-Reading-clause-moves : goal.returns-in-Reading-clause-moves
returns-in-Reading-clause-moves c =
    let a = c.args in
    let P : List Action → Type 0 = λ l. Took (flat_step l a.counts.now a.place.now a.words.now) c.step.result a.words.now c.step.new.words in
    moved_by_read a.plan.now.buffers (flat_step a.plan.now.actions.items a.counts.now a.place.now a.words.now) a.place.now a.words.now c.step.new.words c.read.new.words
    a.buffers.now c.step.result c.read.result (a.place.now + 1) c.in-Reading.buffer c.in-Reading.index c.in-Reading.to
    (subst P c.deref.ensures.value c.step.ensures) c.in-Reading.is (omega arith) c.read.ensures

pub returns-in-Writing-clause-moves : goal.returns-in-Writing-clause-moves
returns-in-Writing-clause-moves c =
    let a = c.args in
    let P : List Action → Type 0 = λ l. Took (flat_step l a.counts.now a.place.now a.words.now) c.step.result a.words.now c.step.new.words in
    moved_by_write a.plan.now.buffers (flat_step a.plan.now.actions.items a.counts.now a.place.now a.words.now) a.place.now a.words.now c.step.new.words
    a.buffers.now c.write.new.buffers c.step.result c.write.result (a.place.now + 1) c.in-Writing.buffer c.in-Writing.index c.in-Writing.word
    (subst P c.deref.ensures.value c.step.ensures) c.in-Writing.is (omega arith) c.write.ensures
