-- States in which all that a run holds is of its type.
use Rattle.std.specs.Prelude.{◌≡◌, ℕ, suc, true, List, [], ◌∷◌, Option, Some, MatchOption, slice_get}
use Rattle.behavior.specs.Values.{Value}
use Rattle.spirv_words.specs.declared.opcodes.Op.TheVariants.{FunctionCall}
use Rattle.spirv_words.specs.declared.images.Instruction.{Instruction}
use Rattle.spirv_words.specs.Machine.{Local, Operand, place_of}
use Rattle.spirv_words.specs.Step.{State, Frame, Turn, Goes, Reads, Writes, Ends, IsUndefined, IsStuck}
use Rattle.spirv_words.specs.Runs.{entry_of}
use Rattle.image_places.specs.Places.{function_of}
use Rattle.image_facts.specs.Alike.{IsLike}
use Rattle.image_facts.specs.Operands.{globals_of, StandsFor, is_local, root_shape}
use Rattle.image_scopes.specs.Scopes.{IsRun, IsSeen, IsGlobal}

-- each value that may be named at a place stands for an operand of its type
abbrev pub AreNamed : List Instruction → ℕ → (ℕ → Option Operand) → Type 0
AreNamed code place ids = (x : ℕ) → IsSeen code place x → StandsFor code (ids x) x

-- what is defined outside of functions stands for what its declaration says
abbrev pub AreDeclared : List Instruction → (ℕ → Option Operand) → Type 0
AreDeclared code ids = (x : ℕ) → IsGlobal code x → ids x ≡ (globals_of code).ids x

-- each variable of a function holds a value of its shape, at every depth of calls
abbrev pub AreHeld : List Instruction → (ℕ → ℕ → Value) → Type 0
AreHeld code memory = (level x : ℕ) → is_local code x ≡ true → MatchOption (root_shape code (Local level x)) ⊥ (λ s. IsLike (memory level x) s)

-- the call that a frame goes back behind, of a function with this number, counted from 1 on
pub record IsFrame (code : List Instruction) (function : ℕ) (f : Frame) : Type 0 where
  pub call : ℕ
  pub behind : f.place ≡ suc call
  pub run : IsRun code call
  pub kind : ℕ
  pub callee : ℕ
  pub arguments : List ℕ
  pub stands : slice_get code call ≡ Some (record { op = FunctionCall; operands = kind ∷ f.result ∷ callee ∷ arguments })
  pub place : ℕ
  pub called : place_of code callee 0 ≡ Some place
  pub is : function ≡ suc place
  pub named : AreNamed code call f.ids
  pub declared : AreDeclared code f.ids

-- the function with this number is the entry
abbrev pub IsEntry : List Instruction → ℕ → Type 0
IsEntry code function = (e p : ℕ) × (entry_of code ≡ Some e) × (place_of code e 0 ≡ Some p) × (function ≡ suc p)

-- the calls that led to a function: the first one runs the entry
abbrev pub AreFrames : List Instruction → ℕ → List Frame → Type 0
AreFrames code function [] = IsEntry code function
AreFrames code function (f ∷ fs) = IsFrame code function f × AreFrames code (function_of code f.place) fs

pub record IsTyped (code : List Instruction) (s : State) : Type 0 where
  pub run : IsRun code s.place
  pub named : AreNamed code s.place s.ids
  pub declared : AreDeclared code s.ids
  pub held : AreHeld code s.memory
  pub frames : AreFrames code (function_of code s.place) s.below

-- a step is not stuck, and leaves a state in which all is of its type
abbrev pub Keeps : List Instruction → Turn → Type 0
Keeps code (Goes s) = IsTyped code s
Keeps code (Reads set binding index go) = (w : ℕ) → IsTyped code (go w)
Keeps code (Writes set binding index w s) = IsTyped code s
Keeps code Ends = Unit {0}
Keeps code IsUndefined = Unit {0}
Keeps code IsStuck = ⊥
