-- The steps of access chains, taken by types.
use Rattle.std.specs.Prelude.{◌≡◌, ◌≢◌, ℕ, ◌+◌, ◌-◌, ◌/◌, ◌%◌, ◌^◌, min, Bool, true, false, List, [], ◌∷◌, ◌++◌, Option, Some, None}
use Rattle.spirv_words.specs.declared.images.Instruction.{Instruction}
use Rattle.spirv_words.specs.Machine.{Shape, if_some}
use Rattle.spirv_words.specs.Runs.{signed}
use Rattle.flat_values.specs.Flat.{width}
use Rattle.run_actions.specs.declared.actions.Extent.{Extent}
use Rattle.run_actions.specs.declared.actions.Index.{Index}
use Rattle.action_laws.specs.Paths.{Item, Planned, Plan, NoPlan, plan, buffer_plan, moved, stepped}
use Rattle.image_facts.specs.Operands.{globals_of, shape}
use Rattle.run_rooms.specs.Rooms.{Rooms}
use Rattle.run_plans.specs.declared.chains.Walk.{Walk}
use Rattle.run_plans.specs.declared.steps.Step.{Step}
use Rattle.run_plans.specs.declared.steps.Step.TheVariants.{Member, Element}
use Rattle.run_plans.specs.Actions.{items}

-- in a buffer or in a variable
abbrev pub planned : Bool → Shape → List Item → Planned
planned true s items = buffer_plan s items
planned false s items = plan s items

abbrev pub after_step : Step → Planned → Planned
after_step (Member offset type) p = moved offset p
after_step (Element index type) p = stepped index p

abbrev pub type_behind : Step → ℕ
type_behind (Member offset type) = type
type_behind (Element index type) = type

-- how far a step leads by itself, and its step by a word
abbrev pub offset_in : Step → ℕ
offset_in (Member offset type) = offset
offset_in (Element index type) = 0

abbrev pub index_in : Step → List Index
index_in (Member offset type) = []
index_in (Element index type) = index ∷ []

-- a step leads where an index leads in a shape
pub record IsStepOf (code : List Instruction) (L : Rooms) (in_buffer : Bool) (s : Shape) (index : ℕ) (step : Step) : Type 0 where
  pub form : Shape
  pub is : shape code (type_behind step) ≡ Some form
  pub goes : (is : List ℕ) → planned in_buffer s (items code L s (index ∷ is)) ≡ after_step step (planned in_buffer form (items code L form is))

-- the same in the shape of a type
abbrev pub IsStep : List Instruction → Rooms → Bool → ℕ → ℕ → Step → Type 0
IsStep code L in_buffer t index step = (s : Shape) → shape code t ≡ Some s → IsStepOf code L in_buffer s index step

-- how far elements of a type are apart, whose stride is so many bytes
abbrev pub IsStrideOf : List Instruction → Bool → ℕ → ℕ → ℕ → Type 0
IsStrideOf code true of bytes n = (bytes % 4 ≡ 0) × (n ≡ bytes / 4)
IsStrideOf code false of bytes n = n ≡ if_some (shape code of) 0 width

-- a step to the element of a type that an id chooses
pub record IsElementStep (code : List Instruction) (L : Rooms) (in_buffer : Bool) (of : ℕ) (extent : Extent) (bytes id : ℕ) (step : Step) : Type 0 where
  pub stride : ℕ
  pub far : IsStrideOf code in_buffer of bytes stride
  pub is : step ≡ Element (record { slot = L.slot id; extent = extent; stride = stride; signed = signed code (globals_of code) id }) of

-- how far something leads, of which 2^32 - 1 stands for all that is more
abbrev pub IsCut : ℕ → ℕ → Type 0
IsCut far cut = cut ≡ min far (2 ^ 32 - 1)

-- behind an offset and steps
abbrev pub behind : ℕ → List Index → Planned → Planned
behind offset steps (Plan o more of) = Plan (offset + o) (steps ++ more) of
behind offset steps NoPlan = NoPlan

-- indices lead from a type's shape by an offset and steps
abbrev pub IsWalk : List Instruction → Rooms → Bool → ℕ → List ℕ → ℕ → List Index → Type 0
IsWalk code L in_buffer t is offset steps =
    (s : Shape) → shape code t ≡ Some s → (of : Shape) × (planned in_buffer s (items code L s is) ≡ Plan offset steps of)

-- so far by an offset and steps to a type, from which these indices are still to go
pub record IsWalked (code : List Instruction) (L : Rooms) (in_buffer : Bool) (s : Shape) (is : List ℕ) (offset : ℕ) (steps : List Index) (t : ℕ) (rest : List ℕ) : Type 0 where
  pub form : Shape
  pub is_form : shape code t ≡ Some form
  pub goes : planned in_buffer s (items code L s is) ≡ behind offset steps (planned in_buffer form (items code L form rest))

-- the same by an offset that is told as far as 2^32 - 1, whatever the type's shape
pub record HasWalked (code : List Instruction) (L : Rooms) (in_buffer : Bool) (t : ℕ) (is : List ℕ) (offset : ℕ) (steps : List Index) (at : ℕ) (rest : List ℕ) : Type 0 where
  pub far : ℕ
  pub cut : IsCut far offset
  pub walked : (s : Shape) → shape code t ≡ Some s → IsWalked code L in_buffer s is far steps at rest

-- ---- where no run goes

-- bytes as words, if they are whole words
abbrev pub AreWords : ℕ → Option ℕ → Type 0
AreWords bytes (Some n) = (bytes % 4 ≡ 0) × (n ≡ bytes / 4)
AreWords bytes None = bytes % 4 ≢ 0

-- elements in a buffer are not apart by whole words
pub record IsBroken (in_buffer : Bool) (bytes : ℕ) : Type 0 where
  pub inside : in_buffer ≡ true
  pub broken : bytes % 4 ≢ 0

abbrev pub IsStrideIf : List Instruction → Bool → ℕ → ℕ → Option ℕ → Type 0
IsStrideIf code in_buffer of bytes (Some n) = IsStrideOf code in_buffer of bytes n
IsStrideIf code in_buffer of bytes None = IsBroken in_buffer bytes

abbrev pub IsElementStepIf : List Instruction → Rooms → Bool → ℕ → Extent → ℕ → ℕ → Option Step → Type 0
IsElementStepIf code L in_buffer of extent bytes id (Some step) = IsElementStep code L in_buffer of extent bytes id step
IsElementStepIf code L in_buffer of extent bytes id None = IsBroken in_buffer bytes

-- an index leads nowhere from a type's shape
pub record IsNoStep (code : List Instruction) (L : Rooms) (in_buffer : Bool) (t index : ℕ) : Type 0 where
  pub ends : (s : Shape) (is : List ℕ) → shape code t ≡ Some s → planned in_buffer s (items code L s (index ∷ is)) ≡ NoPlan

abbrev pub IsStepIf : List Instruction → Rooms → Bool → ℕ → ℕ → Option Step → Type 0
IsStepIf code L in_buffer t index (Some step) = IsStep code L in_buffer t index step
IsStepIf code L in_buffer t index None = IsNoStep code L in_buffer t index

-- the same of indices
pub record IsNoWalk (code : List Instruction) (L : Rooms) (in_buffer : Bool) (t : ℕ) (is : List ℕ) : Type 0 where
  pub ends : (s : Shape) → shape code t ≡ Some s → planned in_buffer s (items code L s is) ≡ NoPlan

-- indices lead by these steps, and by an offset that is told as far as 2^32 - 1
pub record IsWalkFar (code : List Instruction) (L : Rooms) (in_buffer : Bool) (t : ℕ) (is : List ℕ) (walk : Walk) : Type 0 where
  pub far : ℕ
  pub cut : IsCut far walk.offset
  pub leads : IsWalk code L in_buffer t is far walk.steps

abbrev pub IsWalkIf : List Instruction → Rooms → Bool → ℕ → List ℕ → Option Walk → Type 0
IsWalkIf code L in_buffer t is (Some walk) = IsWalkFar code L in_buffer t is walk
IsWalkIf code L in_buffer t is None = IsNoWalk code L in_buffer t is
