-- Which instructions are run, and which values may be named at them.
use Rattle.std.specs.Prelude.{◌≡◌, ◌≢◌, ℕ, suc, ◌<◌, true, List, Some, slice_get}
use Rattle.spirv_words.specs.declared.images.Instruction.{Instruction}
use Rattle.spirv_words.specs.Machine.{place_of}
use Rattle.image_lookup.specs.Lookups.{is_value}
use Rattle.image_places.specs.Places.{function_of, block_of}
use Rattle.image_rules.specs.Ids.{holds, definition_at}

-- a Label, or an instruction behind one in its block
pub record IsRun (code : List Instruction) (k : ℕ) : Type 0 where
  pub instruction : Instruction
  pub stands : slice_get code k ≡ Some instruction
  pub in_function : function_of code (suc k) ≢ 0
  pub in_block : block_of code (suc k) ≢ 0

-- a value that may be named at an instruction: it is defined before, and its definition holds there
pub record IsSeen (code : List Instruction) (k x : ℕ) : Type 0 where
  pub value : is_value code x ≡ true
  pub place : ℕ
  pub there : place_of code x 0 ≡ Some place
  pub before : place < k
  pub holds : holds (definition_at code place).scope k (function_of code (suc k)) (block_of code (suc k)) ≡ true

-- a value that is defined outside of functions
pub record IsGlobal (code : List Instruction) (x : ℕ) : Type 0 where
  pub value : is_value code x ≡ true
  pub place : ℕ
  pub there : place_of code x 0 ≡ Some place
  pub outside : function_of code place ≡ 0
