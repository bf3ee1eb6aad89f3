use Rattle.std.proofs.Common.{◌≡◌, ℕ, true, List, sym, ap, subst, ◌∙◌, arith, length}
use Rattle.std.specs.Vec.{with_items}
use Rattle.std.proofs.lemmas.List.{with_items_is}
use Rattle.spirv_words.specs.Runs.{setting, start as start_of}
use Rattle.run_buffers.specs.declared.buffer.Buffer.{Buffer}
use Rattle.spirv_run.specs.Going.{IsReady}
use Rattle.spirv_run.specs.Shared.{built_ins_of, lengths_in}
use Rattle.spirv_run.specs.Machines.{Machine, AreEnough, AreCounts, At}
use Rattle.spirv_run.proofs.FirstWords.{have_room}
use Rattle.spirv_run.proofs.Running.{started, started_ready}
use Rattle.spirv_run.proofs.Taken.{entry_is_function}
use Rattle.spirv_run.proofs.runner.Runner.restart.Goals as goal

pub begin-requires-clause-room : goal.begin-requires-clause-room
begin-requires-clause-room c =
    let i = c.self.invariant in
    have_room c.self.inside.image.instructions i.rooms c.self.inside.plan (length c.deref_mut.result.now) i.is_plan (entry_is_function c.self.inside.image i.valid)
    (let e = c.deref_mut.ensures.value in ap length e ∙ i.as_many)

pub returns-clause-begins : goal.returns-clause-begins
returns-clause-begins c =
    let i = c.self.inside in
    let m : Machine = record { image = i.image; plan = i.plan; place = i.place; words = i.words.items; positions = i.positions.items; counts = i.counts.items; is_bound = i.is_bound } in
    let ids = c.args.ids.now in
    let Made : List ℕ → Machine = λ ws. record { image = i.image; plan = i.plan; place = i.plan.place; words = ws; positions = i.positions.items; counts = i.counts.items; is_bound = i.is_bound } in
    let n : length c.begin.new.words ≡ i.words.len = let d = c.deref_mut.ensures.len in omega (arith, c.begin.auto.words) in
    let same = with_items_is i.words c.begin.new.words n ∙ c.begin.ensures.words in
    let Goal : Machine → Type 0 = λ k. (lengths : ℕ → ℕ → ℕ) → AreEnough k.image.instructions lengths → (k.is_bound ≡ true → AreCounts k.plan.buffers lengths k.counts)
    → At (Made (with_items i.words c.begin.new.words).items) ids lengths (start_of (setting k.image.instructions (built_ins_of ids) lengths)) in
    subst Goal c.self.view_is (λ lengths enough counts.
    let P : List ℕ → Type 0 = λ ws. At (Made ws) ids lengths (start_of (setting i.image.instructions (built_ins_of ids) lengths)) in
    subst P (sym same) (started m ids lengths c.self.invariant c.begin.ensures.three enough counts))

pub returns-clause-ready : goal.returns-clause-ready
returns-clause-ready c =
    let i = c.self.inside in
    let m : Machine = record { image = i.image; plan = i.plan; place = i.place; words = i.words.items; positions = i.positions.items; counts = i.counts.items; is_bound = i.is_bound } in
    let ids = c.args.ids.now in
    let Made : List ℕ → Machine = λ ws. record { image = i.image; plan = i.plan; place = i.plan.place; words = ws; positions = i.positions.items; counts = i.counts.items; is_bound = i.is_bound } in
    let n : length c.begin.new.words ≡ i.words.len = let d = c.deref_mut.ensures.len in omega (arith, c.begin.auto.words) in
    let same = with_items_is i.words c.begin.new.words n ∙ c.begin.ensures.words in
    let Goal : Machine → Type 0 = λ k. (memory : List Buffer) → IsReady k memory
    → At (Made (with_items i.words c.begin.new.words).items) ids (lengths_in memory) (start_of (setting k.image.instructions (built_ins_of ids) (lengths_in memory))) in
    subst Goal c.self.view_is (λ memory ready.
    let P : List ℕ → Type 0 = λ ws. At (Made ws) ids (lengths_in memory) (start_of (setting i.image.instructions (built_ins_of ids) (lengths_in memory))) in
    subst P (sym same) (started_ready m ids memory c.self.invariant c.begin.ensures.three ready))
