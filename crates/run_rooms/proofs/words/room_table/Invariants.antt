use Rattle.run_rooms.specs.Layout.{IsTable, room_words_at}
use Rattle.run_rooms.proofs.words.room_table.Given as goal

abbrev pub invariant-loop-instruction : goal.invariant-loop-instruction
invariant-loop-instruction l = IsTable (room_words_at l.definitions) l.instruction-index l.table.items
