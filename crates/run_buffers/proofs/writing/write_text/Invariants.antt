use Rattle.std.proofs.Common.{◌≡◌, ◌++◌, drop}
use Rattle.run_buffers.specs.Texts.{text_of}
use Rattle.run_buffers.proofs.writing.write_text.Given as goal

-- what is written with the text of the buffers that are left
abbrev pub invariant-loop-buffer : goal.invariant-loop-buffer
invariant-loop-buffer l = l.text.items ++ text_of (drop l.buffer-index l.buffers) ≡ text_of l.buffers
