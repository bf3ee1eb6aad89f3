-- Which instructions have types that do not fit (SPIR-V 1.5, sections 2.16 and 3.37, cut to the images of this profile).
use Rattle.std.specs.Prelude.{◌≡◌, ℕ, suc, ◌<◌, Bool, true, false, ◌||◌, not, List, fold, take, drop, Option, Some, None, slice_get, slice_index}
use Rattle.spirv_words.specs.declared.images.Instruction.{Instruction}
use Rattle.spirv_words.specs.Machine.{if_some}
use Rattle.image_declarations.specs.Holdings.{is_data}
use Rattle.image_types.specs.declared.rules.Rule.{Rule}
use Rattle.image_types.specs.declared.rules.Rule.TheVariants.{Free, Entry, Mode, Decoration, MemberDecoration, OfVector, OfArray, OfRuntimeArray, OfStruct, OfPointer, OfFunctionType, Truth, OfNumber, OfNull, OfFunction, Parameter, OfVariable, Loading, Storing, Chain, Constructing, Extracting, Bits, Unary, Binary, Shift, Comparison, Logical, Negation, Call, Condition, Returning, ReturningValue}
use Rattle.image_types.specs.declared.functions.Context.{Context}
use Rattle.image_types.specs.Rules.{rule_of}
use Rattle.image_operands.specs.Operators.{is_bool, is_int, unary_fits, binary_fits, shift_fits, comparison_fits, logical_fits, negation_fits, bits_fit, condition_fits}
use Rattle.image_operands.specs.Memory.{load_fits, store_fits, chain_fits}
use Rattle.image_operands.specs.Composites.{construct_fits, extract_fits}
use Rattle.image_types.specs.Functions.{outside, after, function_fits, parameter_fits, variable_fits, call_fits, return_fits, return_value_fits, entry_fits, mode_fits}
use Rattle.image_operands.specs.Marks.{mark_fits, member_mark_fits, clashes}
use Rattle.image_types.specs.Parts.{vector_fits, array_fits, runtime_array_fits, struct_fits, pointer_fits, function_type_fits}

abbrev pub meets : Rule → List Instruction → Context → ℕ → Instruction → List Instruction → Bool
meets Free code c place i behind = true
meets Entry code c place i behind = entry_fits code i
meets Mode code c place i behind = mode_fits code i
meets Decoration code c place i behind = mark_fits code place i
meets MemberDecoration code c place i behind = member_mark_fits code place i
meets OfVector code c place i behind = vector_fits code i
meets OfArray code c place i behind = array_fits code i
meets OfRuntimeArray code c place i behind = runtime_array_fits code i
meets OfStruct code c place i behind = struct_fits code i
meets OfPointer code c place i behind = pointer_fits code i
meets OfFunctionType code c place i behind = function_type_fits code i
meets Truth code c place i behind = is_bool code (slice_index i.operands 0)
meets OfNumber code c place i behind = is_int code (slice_index i.operands 0)
meets OfNull code c place i behind = is_data code (slice_index i.operands 0)
meets OfFunction code c place i behind = function_fits code i behind
meets Parameter code c place i behind = parameter_fits code c i
meets OfVariable code c place i behind = variable_fits code c i
meets Loading code c place i behind = load_fits code i
meets Storing code c place i behind = store_fits code i
meets Chain code c place i behind = chain_fits code i
meets Constructing code c place i behind = construct_fits code i
meets Extracting code c place i behind = extract_fits code i
meets Bits code c place i behind = bits_fit code i
meets Unary code c place i behind = unary_fits code i
meets (Binary numbers) code c place i behind = binary_fits code numbers i
meets (Shift numbers) code c place i behind = shift_fits code numbers i
meets (Comparison numbers) code c place i behind = comparison_fits code numbers i
meets Logical code c place i behind = logical_fits code i
meets Negation code c place i behind = negation_fits code i
meets Call code c place i behind = call_fits code i
meets Condition code c place i behind = condition_fits code i
meets Returning code c place i behind = return_fits code c
meets ReturningValue code c place i behind = return_value_fits code c i

-- an instruction meets the rule of its opcode, in a context, at a place and before others
unfoldable pub fits : List Instruction → Context → ℕ → Instruction → List Instruction → Bool
fits code c place i behind = meets (rule_of i.op) code c place i behind

-- what the instruction with this number stands in
unfoldable pub context_at : List Instruction → ℕ → Context
context_at code k = fold after outside (take k code)

-- an instruction of an image does not fit, or its decoration completes a set and binding that two buffers have
abbrev pub is_wrong : List Instruction → ℕ → Instruction → Bool
is_wrong code k i = clashes code (take k code) k i || not (fits code (context_at code k) k i (drop (suc k) code))

-- the same for the instruction with this number, counted from 0
unfoldable pub has_wrong_types : List Instruction → ℕ → Bool
has_wrong_types code k = if_some (slice_get code k) false (is_wrong code k)

-- of so many, the first that is wrong, if one is
abbrev pub IsFirstWrong : (ℕ → Bool) → ℕ → Option ℕ → Type 0
IsFirstWrong wrong n None = (k : ℕ) → k < n → wrong k ≡ false
IsFirstWrong wrong n (Some k) = (k < n) × (wrong k ≡ true) × ((j : ℕ) → j < k → wrong j ≡ false)
