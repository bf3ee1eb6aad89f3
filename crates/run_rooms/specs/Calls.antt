-- The calls of an image as a list.
use Rattle.std.specs.Prelude.{◌≡◌, ℕ, ◌<◌, true, List}
use Rattle.spirv_words.specs.declared.images.Instruction.{Instruction}
use Rattle.call_graph.specs.Edges.{calls_it}
use Rattle.call_graph.specs.Order.{HasCycle}
use Rattle.run_rooms.specs.Rooms.{IsFunction}
use Rattle.run_rooms.specs.Needs.{HasCall}

-- the calls that the first so many instructions make, by the numbers of the functions
pub record AreCalls (code : List Instruction) (k : ℕ) (es : List (ℕ × ℕ)) : Type 0 where
  pub made : (caller callee : ℕ) → calls_it es caller callee ≡ true → HasCall code caller callee
  pub all : (caller callee : ℕ) (h : HasCall code caller callee) → h.number < k → calls_it es caller callee ≡ true

-- calls are of functions and by functions, and none leads back; and there is a function
pub record KeepsCalls (code : List Instruction) : Type 0 where
  pub functions : (caller callee : ℕ) → HasCall code caller callee → IsFunction code caller × IsFunction code callee
  pub never_back : (es : List (ℕ × ℕ)) → ((caller callee : ℕ) → calls_it es caller callee ≡ true → HasCall code caller callee) → HasCycle es → ⊥
  pub some : ℕ
  pub is_function : IsFunction code some
