use Rattle.std.proofs.Common.{◌≡◌, drop}
use Rattle.spirv_words.specs.Machine.{Globals, declared}
use Rattle.spirv_words.specs.Runs.{undeclared}
use Rattle.run_rooms.specs.Widths.{Measures}
use Rattle.run_rooms.proofs.widths.Widths.new.Given as goal

-- what is known so far is what some declarations make, with which the rest goes on
abbrev pub invariant-loop-instruction : goal.invariant-loop-instruction
invariant-loop-instruction l =
    (g : Globals)
    × (declared l.code (drop l.instruction-index l.code) g ≡ declared l.code l.code undeclared)
    × Measures l.widths g
