use Rattle.std.proofs.Common.{◌≡◌, drop}
use Rattle.spirv_words.specs.Runs.{entry_of}
use Rattle.image_lookup.proofs.entry.entry_of.Given as goal

-- the entry is named by what is still to come
abbrev pub invariant-loop-instruction : goal.invariant-loop-instruction
invariant-loop-instruction l = entry_of (drop l.instruction-index l.code) ≡ entry_of l.code
