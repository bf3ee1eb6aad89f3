use Rattle.std.proofs.Common.{ℕ, subst}
use Rattle.spirv_words.specs.Runs.{setting, start as start_of}
use Rattle.spirv_run.specs.Shared.{built_ins_of}
use Rattle.spirv_run.specs.Machines.{Machine, image_of, AreEnough, At}
use Rattle.spirv_run.proofs.runner.Runner.start.Goals as goal

pub returns-clause-begins : goal.returns-clause-begins
returns-clause-begins c =
    let ids = c.args.ids.now in
    let Goal : Machine → Type 0 = λ k. (lengths : ℕ → ℕ → ℕ) → AreEnough (image_of k).instructions lengths
    → At c.restart.new.self ids lengths (start_of (setting (image_of k).instructions (built_ins_of ids) lengths)) in
    subst Goal c.self.view_is (λ lengths enough. c.restart.ensures.begins lengths enough (λ e. absurd cc))
