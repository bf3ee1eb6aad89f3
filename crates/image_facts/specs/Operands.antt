-- What an id of a type stands for.
use Rattle.std.specs.Prelude.{◌≡◌, ℕ, ◌&&◌, Bool, true, false, cond, nat_eq, nat_le, List, Option, Some, MatchOption}
use Rattle.std.specs.Option.{option_map}
use Rattle.behavior.specs.Values.{Value}
use Rattle.spirv_words.specs.declared.images.Instruction.{Instruction}
use Rattle.spirv_words.specs.Machine.{Shape, Words, Repeated, Root, Local, Input, Operand, Plain, Path, InBuffer, Globals, declared, decoration, or_zero, pointed}
use Rattle.spirv_words.specs.Runs.{undeclared}
use Rattle.flat_values.specs.Flat.{IsData}
use Rattle.flat_values.specs.Pieces.{piece, At}
use Rattle.image_lookup.specs.Lookups.{operand}
use Rattle.image_declarations.specs.Holdings.{is_data}
use Rattle.image_declarations.specs.Reach.{is_buffer_class}
use Rattle.image_operands.specs.Memory.{is_pointer}
use Rattle.image_operands.specs.Marks.{is_variable, is_buffer}
use Rattle.image_types.specs.Functions.{is_void}
use Rattle.image_facts.specs.Alike.{IsLike}

-- what the declarations of an image make of its ids
abbrev pub globals_of : List Instruction → Globals
globals_of code = declared code code undeclared

-- the shape of a type
abbrev pub shape : List Instruction → ℕ → Option Shape
shape code t = (globals_of code).shapes t

-- the type of a value
abbrev pub type_id : List Instruction → ℕ → ℕ
type_id code x = operand code x 0

-- a variable of a function
abbrev pub is_local : List Instruction → ℕ → Bool
is_local code x = is_variable code x && nat_eq (operand code x 2) 7

-- LocalInvocationIndex is a word, and the other built-in values are three
abbrev pub built_in_shape : ℕ → Shape
built_in_shape b = cond (nat_eq b 29) (Words false) (Repeated 3 4 (Words false))

-- the shape of what a variable, or a built-in value, holds
abbrev pub root_shape : List Instruction → Root → Option Shape
root_shape code (Local level variable) = option_map pointed (shape code (type_id code variable))
root_shape code (Input b) = Some (built_in_shape b)

-- the numbers of the four built-in values
abbrev pub is_built_in : ℕ → Bool
is_built_in b = nat_le 26 b && nat_le b 29

-- a class of pointers that lead there
abbrev pub IsClassOf : List Instruction → Root → ℕ → Type 0
IsClassOf code (Local level variable) class = (class ≡ 7) × (is_local code variable ≡ true)
IsClassOf code (Input b) class = (class ≡ 1) × (is_built_in b ≡ true)

-- a value of a type
pub record IsValueOf (code : List Instruction) (v : Value) (t : ℕ) : Type 0 where
  pub has_values : is_data code t ≡ true
  pub form : Shape
  pub is : shape code t ≡ Some form
  pub like : IsLike v form

-- a path leads from a variable to what a type of pointers leads to
pub record LeadsTo (code : List Instruction) (root : Root) (path : List ℕ) (t : ℕ) : Type 0 where
  pub leads : is_pointer code t ≡ true
  pub class : IsClassOf code root (operand code t 1)
  pub whole : Shape
  pub holds : root_shape code root ≡ Some whole
  pub plain : IsData whole
  pub place : ℕ
  pub part : Shape
  pub found : piece whole path 0 ≡ At place part
  pub is : shape code (operand code t 2) ≡ Some part

-- a pointer leads to what its type leads to, in the buffer of some variable
pub record LeadsInto (code : List Instruction) (set binding : ℕ) (s : Shape) (t : ℕ) : Type 0 where
  pub leads : is_pointer code t ≡ true
  pub class : is_buffer_class (operand code t 1) ≡ true
  pub is : shape code (operand code t 2) ≡ Some s
  pub variable : ℕ
  pub buffer : is_buffer code variable ≡ true
  pub its_set : set ≡ or_zero (decoration code variable 34)
  pub its_binding : binding ≡ or_zero (decoration code variable 33)

-- an operand is of a type
abbrev pub Suits : List Instruction → Operand → ℕ → Type 0
Suits code (Plain v) t = IsValueOf code v t
Suits code (Path root path) t = LeadsTo code root path t
Suits code (InBuffer set binding byte s) t = LeadsInto code set binding s t

abbrev pub Unless : Bool → Type 0 → Type 0
Unless true A = Unit {0}
Unless false A = A

-- an id stands for an operand of its type; the result of a call that gives nothing may stand for anything
abbrev pub StandsFor : List Instruction → Option Operand → ℕ → Type 0
StandsFor code o x = Unless (is_void code (type_id code x)) (MatchOption o ⊥ (λ p. Suits code p (type_id code x)))
