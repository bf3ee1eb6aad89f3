use Rattle.std.proofs.Common.{◌≡◌, ℕ, Some, List, ◌++◌, length}
use Rattle.std.specs.Option.{option_map}
use Rattle.run_buffers.specs.declared.buffer.Buffer.{Buffer}
use Rattle.run_buffers.specs.Texts.{text_of}
use Rattle.run_buffers.specs.Lines.{ahead_of, FitsIn, Breaks}
use Rattle.run_buffers.proofs.Fitting.{start}
use Rattle.run_buffers.proofs.reading.text.Given as goal

-- what is read so far, what may come behind it, and that where the rest breaks off the whole does
abbrev pub invariant-loop-rest : goal.invariant-loop-rest
invariant-loop-rest l = record {
  so_far : l.bytes ≡ text_of l.buffers.items ++ l.rest;
  fits : (bs : List Buffer) → FitsIn (option_map ahead_of l.room) bs → FitsIn (Some start) (l.buffers.items ++ bs);
  goes_on : (left : ℕ) → Breaks (FitsIn (option_map ahead_of l.room)) l.rest left → Breaks (FitsIn (Some start)) l.bytes left;
}

abbrev pub decreases-loop-rest : goal.decreases-loop-rest
decreases-loop-rest l = length l.rest
