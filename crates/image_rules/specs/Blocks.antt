-- The form of blocks (SPIR-V 1.5, sections 2.4 and 2.11): where blocks end, where variables stand, what merges stand before,
-- and where branches lead.
use Rattle.std.specs.Prelude.{ℕ, zero, suc, Bool, true, false, ◌&&◌, ◌||◌, not, nat_eq, cond, List, [], ◌∷◌, slice_get, length, Option, Some, None}
use Rattle.spirv_words.specs.declared.opcodes.Op.{Op}
use Rattle.spirv_words.specs.declared.opcodes.Op.TheVariants.{FunctionEnd, Variable, LoopMerge, SelectionMerge, Label, Branch, BranchConditional, Return, ReturnValue, Unreachable}
use Rattle.spirv_words.specs.declared.images.Instruction.{Instruction}
use Rattle.spirv_words.specs.declared.images.Image.{Image}
use Rattle.spirv_words.specs.Machine.{is_some_number, first_of}
use Rattle.image_places.specs.Places.{op_at, function_of, block_of, FaultAt}

-- ---- endings

-- the opcodes that end a block
abbrev pub is_ending : Op → Bool
is_ending Branch = true
is_ending BranchConditional = true
is_ending Return = true
is_ending ReturnValue = true
is_ending Unreachable = true
is_ending op = false

abbrev pub is_ending_at : Option Op → Bool
is_ending_at None = false
is_ending_at (Some op) = is_ending op

-- the last of the first so many instructions ends a block
abbrev pub has_ended : List Instruction → ℕ → Bool
has_ended is zero = false
has_ended is (suc k) = is_ending_at (op_at is k)

-- ---- variables

abbrev pub stays_in_front : Option Op → ℕ → Bool → Bool
stays_in_front (Some Label) block before = nat_eq block 0
stays_in_front (Some Variable) block before = before
stays_in_front op block before = false

-- after the first so many instructions: the first Label of a function, and variables alone behind it
abbrev pub in_front : List Instruction → ℕ → Bool
in_front is zero = false
in_front is (suc k) = stays_in_front (op_at is k) (block_of is k) (in_front is k)

-- ---- merges

-- a merge stands before its branch: one of a selection before a conditional branch, one of a loop before any
abbrev pub precedes : Op → Option Op → Bool
precedes SelectionMerge (Some BranchConditional) = true
precedes SelectionMerge next = false
precedes LoopMerge (Some Branch) = true
precedes LoopMerge (Some BranchConditional) = true
precedes LoopMerge next = false
precedes op next = true

-- ---- targets

-- the labels that an instruction names: those to which it branches, and those of a merge
abbrev pub targets : Op → List ℕ → List ℕ
targets Branch (label ∷ []) = label ∷ []
targets BranchConditional (condition ∷ first ∷ second ∷ []) = first ∷ second ∷ []
targets LoopMerge (merge ∷ continue ∷ control ∷ []) = merge ∷ continue ∷ []
targets SelectionMerge (merge ∷ control ∷ []) = merge ∷ []
targets op operands = []

abbrev pub is_label : Op → Bool
is_label Label = true
is_label op = false

abbrev pub labels : Option Instruction → ℕ → Bool
labels None id = false
labels (Some i) id = is_label i.op && is_some_number (first_of i.operands) id

-- the function in which the Label with this id stands, among the first so many instructions, or 0
abbrev pub label_function : List Instruction → ℕ → ℕ → ℕ
label_function is zero id = 0
label_function is (suc k) id = cond (labels (slice_get is k) id) (function_of is k) (label_function is k id)

-- in an open function, each of these ids is a Label of it, where Labels stand in these functions
abbrev pub are_labels : (ℕ → ℕ) → ℕ → List ℕ → Bool
are_labels standing function [] = true
are_labels standing function (id ∷ ids) = not (nat_eq function 0) && nat_eq (standing id) function && are_labels standing function ids

-- ---- what is wrong with a block

-- an opcode, with whether the last instruction ended a block, the function and the block that are open, whether they are
-- still in front, and the opcode that follows
abbrev pub is_broken : Op → Bool → ℕ → ℕ → Bool → Option Op → Bool
is_broken Label ended function block front next = not (nat_eq block 0) && not ended
is_broken FunctionEnd ended function block front next = not ended
is_broken Variable ended function block front next = ended || (not (nat_eq function 0) && not front)
is_broken op ended function block front next = ended || not (precedes op next)

abbrev pub is_broken_at : Option Instruction → List Instruction → ℕ → Bool
is_broken_at None is k = false
is_broken_at (Some i) is k =
    is_broken i.op (has_ended is k) (function_of is k) (block_of is k) (in_front is k) (op_at is (suc k))
    || not (are_labels (label_function is (length is)) (function_of is k) (targets i.op i.operands))

-- the instruction with this number is one that a block may not have there
abbrev pub breaks_block : List Instruction → ℕ → Bool
breaks_block is k = is_broken_at (slice_get is k) is k

abbrev pub BadBlock : Image → ℕ → Type 0
BadBlock image = FaultAt image.instructions (breaks_block image.instructions)
