-- Answers that are passed on.
use Rattle.std.proofs.Common.{ℕ}
use Rattle.run_buffers.specs.declared.lines.Stop.{Stop}
use Rattle.run_buffers.specs.declared.lines.Stop.TheVariants.{At, Memory}
use Rattle.run_buffers.specs.Lines.{OfStop}

pub stopped_so : (stop : Stop) (P Q : ℕ → Type 0) → ((left : ℕ) → P left → Q left) → OfStop stop P → OfStop stop Q
stopped_so (At left) P Q f h = f left h
stopped_so (Memory e) P Q f h = tt
