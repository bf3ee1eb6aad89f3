-- What the types of an image hold, and how far they go in a buffer.
use Rattle.std.specs.Prelude.{◌≡◌, ℕ, ◌+◌, ◌-◌, ◌*◌, ◌^◌, min, max, true, false, cond, nat_eq, List, [], ◌∷◌, drop, Option, Some, None, slice_index}
use Rattle.std.specs.List.{list_any, list_all}
use Rattle.std.specs.HashMap.{HashMap, get}
use Rattle.spirv_words.specs.declared.images.Instruction.{Instruction}
use Rattle.spirv_words.specs.Machine.{if_some}
use Rattle.image_lookup.specs.declared.sorts.Sort.{Sort}
use Rattle.image_lookup.specs.declared.sorts.Sort.TheVariants.{BoolType, IntType, VectorType, ArrayType, RuntimeArrayType, StructType, Number}
use Rattle.image_lookup.specs.Sorts.{sort_of}
use Rattle.image_lookup.specs.Lookups.{sort, operand}
use Rattle.image_declarations.specs.declared.types.TypeFacts.{TypeFacts}
use Rattle.image_declarations.specs.Decorations.{stride_of, offset_of}

-- the number of elements of an array, by the id of its length
abbrev pub number_by : Sort → ℕ → ℕ
number_by Number n = n
number_by sort n = 0

abbrev pub length_of : List Instruction → ℕ → ℕ
length_of code id = number_by (sort code id) (operand code id 2)

-- where the last scalar of a part ends that begins there, by its end in the part: a part without scalars has none
abbrev pub end_of : ℕ → ℕ → ℕ
end_of start extent = cond (nat_eq extent 0) 0 (start + extent)

-- the end of the last scalar of an array, by the end of its element's
abbrev pub span : ℕ → ℕ → ℕ → ℕ
span count stride end = cond (nat_eq count 0) 0 (end_of ((count - 1) * stride) end)

-- the greatest end of the scalars of a struct's members, of which the first has this number; 0 where there are none
abbrev pub fields_extent : List Instruction → (ℕ → TypeFacts) → ℕ → ℕ → List ℕ → ℕ
fields_extent code known id number [] = 0
fields_extent code known id number (t ∷ ts) = max (end_of (offset_of code id number) (known t).extent) (fields_extent code known id (number + 1) ts)

abbrev pub no_facts : TypeFacts
no_facts = record { is_data = false; unbounded = false; extent = 0 }

abbrev pub facts_by : List Instruction → (ℕ → TypeFacts) → Sort → List ℕ → Option TypeFacts
facts_by code known BoolType os = Some (record { is_data = true; unbounded = false; extent = 4 })
facts_by code known IntType os = Some (record { is_data = true; unbounded = false; extent = 4 })
facts_by code known VectorType os =
    Some (record { is_data = (known (slice_index os 1)).is_data; unbounded = false; extent = 4 * slice_index os 2 })
facts_by code known ArrayType os =
    let of = known (slice_index os 1) in
    Some (record { is_data = of.is_data; unbounded = of.unbounded; extent = span (length_of code (slice_index os 2)) (stride_of code (slice_index os 0)) of.extent })
facts_by code known RuntimeArrayType os = Some (record { is_data = false; unbounded = true; extent = 0 })
facts_by code known StructType os = Some (record {
  is_data = list_all (λ t. (known t).is_data) (drop 1 os);
  unbounded = list_any (λ t. (known t).unbounded) (drop 1 os);
  extent = fields_extent code known (slice_index os 0) 0 (drop 1 os);
})
facts_by code known sort os = None

-- the facts of the type that an instruction declares, by those of its parts
abbrev pub facts_of : List Instruction → (ℕ → TypeFacts) → Instruction → Option TypeFacts
facts_of code known i = facts_by code known (sort_of i.op) i.operands

abbrev pub with_facts : List Instruction → Instruction → (ℕ → TypeFacts) → ℕ → TypeFacts
with_facts code i known id = if_some (facts_of code known i) (known id) (λ f. cond (nat_eq (slice_index i.operands 0) id) f (known id))

-- the facts of all types, where these instructions are still to come
abbrev pub known_after : List Instruction → List Instruction → (ℕ → TypeFacts) → ℕ → TypeFacts
known_after code [] known = known
known_after code (i ∷ is) known = known_after code is (with_facts code i known)

-- the facts of the types of an image
unfoldable pub type_facts : List Instruction → ℕ → TypeFacts
type_facts code = known_after code code (λ id. no_facts)

-- an end behind the greatest stride is told as the number behind it
abbrev pub capped : TypeFacts → TypeFacts
capped f = record f { extent = min f.extent (2 ^ 32) }

abbrev pub facts_in : Option TypeFacts → TypeFacts
facts_in None = no_facts
facts_in (Some f) = f

abbrev pub known_by : {S : Type 0} → HashMap ℕ TypeFacts S → ℕ → TypeFacts
known_by known id = facts_in (get nat_eq known id)

abbrev pub Tells : {S : Type 0} → HashMap ℕ TypeFacts S → List Instruction → Type 0
Tells known code = (id : ℕ) → known_by known id ≡ capped (type_facts code id)
