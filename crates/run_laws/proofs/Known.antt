-- What is known of the instructions and the types of a valid image.
use Rattle.std.proofs.Common.{◌≡◌, ℕ, ◌<◌, ◌⊎◌, Bool, true, false, List, length, Option, Some, None}
use Rattle.std.specs.Prelude.{slice_get}
use Rattle.spirv_words.specs.declared.images.Instruction.{Instruction}
use Rattle.spirv_words.specs.Machine.{Shape, PointerTo, result_of, zero_of}
use Rattle.spirv_words.specs.Runs.{initial}
use Rattle.flat_values.specs.Flat.{IsData}
use Rattle.image_lookup.specs.Lookups.{operands, operand}
use Rattle.image_places.specs.Places.{function_of}
use Rattle.image_operands.specs.Memory.{is_pointer}
use Rattle.image_scopes.specs.Scopes.{IsRun, IsSeen, IsGlobal}
use Rattle.image_facts.specs.Operands.{globals_of, shape, type_id, is_local}
use Rattle.typed_runs.proofs.Facts.{Facts}

-- a variable of a function, of which it is known what it holds
pub record IsLocal (code : List Instruction) (x : ℕ) : Type 0 where
  pub form : Shape
  pub pointer : is_pointer code (type_id code x) ≡ true
  pub class : operand code (type_id code x) 1 ≡ 7
  pub of : shape code (type_id code x) ≡ Some (PointerTo form)
  pub target : shape code (operand code (type_id code x) 2) ≡ Some form
  pub plain : IsData form
  pub begins : initial code (globals_of code) x ≡ zero_of form

pub record Known (code : List Instruction) : Type 0 where
  pub facts : Facts code
  pub result_is_new : (k : ℕ) (i : Instruction) → slice_get code k ≡ Some i → (x : ℕ) → result_of i.op i.operands ≡ Some x
      → IsSeen code k x → ⊥
  pub seen_is_near : (k : ℕ) (run : IsRun code k) (x : ℕ) → (s : IsSeen code k x)
      → IsGlobal code x ⊎ (function_of code s.place ≡ function_of code k)
  pub local_is : (x : ℕ) → is_local code x ≡ true → IsLocal code x
  -- an instruction has fewer operands than 65535
  pub short : (t : ℕ) → length (operands code t) < 65535
