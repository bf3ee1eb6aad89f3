use Rattle.run_rooms.specs.Layout.{IsTable, summed}
use Rattle.run_rooms.proofs.parts.function_words.Given as goal

abbrev pub invariant-loop-function : goal.invariant-loop-function
invariant-loop-function l = IsTable (summed l.room_sums l.slot_sums) l.function l.words.items
