-- Where the members of structs stand.
use Rattle.std.specs.Prelude.{◌≡◌, ℕ, ◌+◌, ◌^◌, ◌<◌, ◌≤◌, nat_eq, List, [], ◌∷◌, drop, take, length, Option, Some, None, slice_get}
use Rattle.std.specs.Global.{Vec}
use Rattle.std.specs.HashMap.{HashMap, get}
use Rattle.spirv_words.specs.declared.images.Instruction.{Instruction}
use Rattle.spirv_words.specs.declared.opcodes.Op.TheVariants.{TypeStruct}
use Rattle.spirv_words.specs.Machine.{if_some}
use Rattle.flat_values.specs.Flat.{width}
use Rattle.image_lookup.specs.declared.sorts.Sort.TheVariants.{StructType}
use Rattle.image_lookup.specs.Lookups.{sort, operands}
use Rattle.image_facts.specs.Operands.{shape}
use Rattle.run_plans.specs.declared.base.Ground.{Ground}
use Rattle.run_plans.specs.Walks.{total_width}

abbrev pub items_in : Option (Vec ℕ) → List ℕ
items_in None = []
items_in (Some v) = v.items

-- the places that a map has for the members of a struct
abbrev pub row_in : {S : Type 0} → HashMap ℕ (Vec ℕ) S → ℕ → List ℕ
row_in known t = items_in (get nat_eq known t)

-- the first of these members stand one behind the other
pub record IsRow (code : List Instruction) (members row : List ℕ) : Type 0 where
  pub tells : (n place : ℕ) → slice_get row n ≡ Some place → place ≡ total_width code (take n members)

-- each member has a place where 32 bits tell it
pub record IsFull (code : List Instruction) (members row : List ℕ) : Type 0 where
  pub many : (n : ℕ) → n < length members → total_width code (take n members) < 2 ^ 32 → (place : ℕ) × (slice_get row n ≡ Some place)

-- the same of the members of a struct
abbrev pub IsRowOf : List Instruction → ℕ → List ℕ → Type 0
IsRowOf code t row = IsRow code (drop 1 (operands code t)) row

abbrev pub IsFullOf : List Instruction → ℕ → List ℕ → Type 0
IsFullOf code t row = IsFull code (drop 1 (operands code t)) row

-- a map says where members of types stand; and where all members of those structs stand that are among the first so many
-- instructions
pub record AreRowsTo {S : Type 0} (code : List Instruction) (n : ℕ) (known : HashMap ℕ (Vec ℕ) S) : Type 0 where
  pub each : (t : ℕ) → IsRowOf code t (row_in known t)
  pub full : (k t : ℕ) (rest : List ℕ) → k < n → slice_get code k ≡ Some (record { op = TypeStruct; operands = t ∷ rest })
      → IsFullOf code t (row_in known t)

-- the members of each type stand where a map says, which has all members of structs
pub record AreRows {S : Type 0} (code : List Instruction) (known : HashMap ℕ (Vec ℕ) S) : Type 0 where
  pub each : (t : ℕ) → IsRowOf code t (row_in known t)
  pub full : (t : ℕ) → sort code t ≡ StructType → IsFullOf code t (row_in known t)

-- the members of structs stand where the map of an image says
abbrev pub HasRows : Ground → Type 0
HasRows g = AreRows g.places.code g.members

-- a place behind a member of a type, if 32 bits tell it
abbrev pub IsBehindIf : List Instruction → ℕ → ℕ → Option ℕ → Type 0
IsBehindIf code place t (Some n) = n ≡ place + if_some (shape code t) 0 width
IsBehindIf code place t None = 2 ^ 32 ≤ place + if_some (shape code t) 0 width
