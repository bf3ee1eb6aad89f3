-- The words of what the declarations of an image make.
use Rattle.std.specs.Prelude.{◌≡◌, ℕ, ◌+◌, ◌≤◌, Bool, true, false, cond, nat_eq, List, [], ◌∷◌, length, map, replicate, Option, Some, None}
use Rattle.spirv_words.specs.declared.opcodes.Op.{Op}
use Rattle.spirv_words.specs.declared.opcodes.Op.TheVariants.{ConstantTrue, ConstantFalse, Constant, ConstantNull, Variable}
use Rattle.spirv_words.specs.declared.images.Instruction.{Instruction}
use Rattle.spirv_words.specs.Machine.{or_zero, decoration, if_some, result_of}
use Rattle.flat_values.specs.Flat.{width}
use Rattle.flat_values.specs.Ranges.{written}
use Rattle.image_declarations.specs.Holdings.{is_data}
use Rattle.image_operands.specs.Marks.{is_buffer}
use Rattle.image_facts.specs.Operands.{shape}
use Rattle.run_rooms.specs.Rooms.{Rooms, slot_size}
use Rattle.run_plans.specs.declared.base.Bound.{Bound}
use Rattle.run_plans.specs.Plans.{number_in, set_of, binding_of}
use Rattle.run_plans.specs.Ground.{pair_of}

abbrev pub number_of : List Bound → ℕ → ℕ → ℕ
number_of bounds set binding = number_in (map pair_of bounds) (set, binding)

-- there are words
pub record AreTold (o : Option (List ℕ)) : Type 0 where
  pub words : List ℕ
  pub are : o ≡ Some words

module _ (code : List Instruction) (L : Rooms) (bounds : List Bound) where
  -- a variable outside of functions is a pointer to a built-in value, or into a buffer
  abbrev pub variable_words : ℕ → ℕ → Option (List ℕ)
  variable_words x class =
      cond (nat_eq class 1) (Some (L.input (or_zero (decoration code x 11)) ∷ []))
      (cond (is_buffer code x) (Some (number_of bounds (set_of code x) (binding_of code x) ∷ 0 ∷ [])) None)

  abbrev pub value_words : Op → List ℕ → Option (List ℕ)
  value_words ConstantTrue (t ∷ r ∷ []) = Some (1 ∷ [])
  value_words ConstantFalse (t ∷ r ∷ []) = Some (0 ∷ [])
  value_words Constant (t ∷ r ∷ w ∷ []) = Some (w ∷ [])
  value_words ConstantNull (t ∷ r ∷ []) = cond (is_data code t) (Some (replicate (if_some (shape code t) 0 width) 0)) None
  value_words Variable (t ∷ r ∷ class ∷ []) = variable_words r class
  value_words op os = None

  -- an instruction makes a value that has its words inside of all words
  pub record IsMade (i : Instruction) : Type 0 where
    pub id : ℕ
    pub words : List ℕ
    pub gives : result_of i.op i.operands ≡ Some id
    pub are : value_words i.op i.operands ≡ Some words
    pub as_many : length words ≡ slot_size code id
    pub inside : L.slot id + length words ≤ L.total

  -- the words of what an instruction makes were written where they stand
  pub record IsWritten (i : Instruction) (before now : List ℕ) : Type 0 where
    pub id : ℕ
    pub words : List ℕ
    pub gives : result_of i.op i.operands ≡ Some id
    pub are : value_words i.op i.operands ≡ Some words
    pub as_many : length words ≡ slot_size code id
    pub inside : L.slot id + length words ≤ length before
    pub is : now ≡ written before (L.slot id) words

-- if so; else they are as before
abbrev pub IsWrittenIf : Bool → List Instruction → Rooms → List Bound → Instruction → List ℕ → List ℕ → Type 0
IsWrittenIf true code L bounds i before now = IsWritten code L bounds i before now
IsWrittenIf false code L bounds i before now = now ≡ before
