-- The types of composites and their parts.
use Rattle.std.specs.Prelude.{ℕ, Bool, true, false, ◌&&◌, cond, nat_eq, nat_lt, List, [], ◌∷◌, length, drop, Option, Some, None, slice_index}
use Rattle.std.specs.List.{list_all}
use Rattle.spirv_words.specs.declared.images.Instruction.{Instruction}
use Rattle.spirv_words.specs.Machine.{if_some}
use Rattle.image_lookup.specs.declared.sorts.Sort.{Sort}
use Rattle.image_lookup.specs.declared.sorts.Sort.TheVariants.{VectorType, ArrayType, StructType}
use Rattle.image_lookup.specs.Lookups.{sort, operands, operand, is_value}
use Rattle.image_declarations.specs.Reach.{is_id}
use Rattle.image_declarations.specs.Types.{length_of}
use Rattle.image_declarations.specs.Holdings.{has_type, is_data}
use Rattle.image_operands.specs.Memory.{member_at}

-- values of these types, one each
abbrev pub are_members : List Instruction → List ℕ → List ℕ → Bool
are_members code [] [] = true
are_members code (t ∷ ts) (v ∷ vs) = has_type code v t && are_members code ts vs
are_members code ts vs = false

-- values of one type, and so many
unfoldable pub are_elements : List Instruction → ℕ → ℕ → List ℕ → Bool
are_elements code of count values = nat_eq (length values) count && list_all (λ v. has_type code v of) values

abbrev pub parts_fit : List Instruction → Sort → ℕ → List ℕ → Bool
parts_fit code VectorType t parts = are_elements code (operand code t 1) (operand code t 2) parts
parts_fit code ArrayType t parts = are_elements code (operand code t 1) (length_of code (operand code t 2)) parts
parts_fit code StructType t parts = are_members code (drop 1 (operands code t)) parts
parts_fit code sort t parts = false

-- the parts of a composite, in order and of their types; a vector is made of its scalars
unfoldable pub construct_fits : List Instruction → Instruction → Bool
construct_fits code i =
    let to = slice_index i.operands 0 in
    is_data code to && parts_fit code (sort code to) to (drop 2 i.operands)

abbrev pub literal_part_by : List Instruction → Sort → ℕ → ℕ → Option ℕ
literal_part_by code VectorType t n = cond (nat_lt n (operand code t 2)) (Some (operand code t 1)) None
literal_part_by code ArrayType t n = cond (nat_lt n (length_of code (operand code t 2))) (Some (operand code t 1)) None
literal_part_by code StructType t n = member_at code t n
literal_part_by code sort t n = None

-- the type of the part of a composite with this number
unfoldable pub literal_part_at : List Instruction → ℕ → ℕ → Option ℕ
literal_part_at code t n = literal_part_by code (sort code t) t n

-- the type to which a path of numbers leads
abbrev pub extract_end : List Instruction → ℕ → List ℕ → Option ℕ
extract_end code t [] = Some t
extract_end code t (n ∷ ns) = if_some (literal_part_at code t n) None (λ part. extract_end code part ns)

-- the result is the part of a composite to which a path of numbers leads
unfoldable pub extract_fits : List Instruction → Instruction → Bool
extract_fits code i =
    let value = slice_index i.operands 2 in
    let of = operand code value 0 in
    is_value code value && is_data code of && is_id (extract_end code of (drop 3 i.operands)) (slice_index i.operands 0)
