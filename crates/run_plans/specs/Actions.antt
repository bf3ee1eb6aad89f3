-- The action of each instruction.
use Rattle.std.specs.Prelude.{ℕ, suc, ◌+◌, ◌-◌, ◌^◌, min, Bool, false, cond, nat_eq, List, [], ◌∷◌, length, Option, slice_get}
use Rattle.spirv_words.specs.declared.images.Instruction.{Instruction}
use Rattle.spirv_words.specs.Machine.{Shape, Repeated, Unbounded, Fields, place_of, second_of, if_some, or_zero}
use Rattle.spirv_words.specs.Step.{field_at}
use Rattle.spirv_words.specs.Runs.{signed, entry_of}
use Rattle.flat_values.specs.declared.operators.Unary.{Unary}
use Rattle.flat_values.specs.declared.operators.Binary.{Binary}
use Rattle.flat_values.specs.Pieces.{piece, Piece, At, OutOfRange, NoPart}
use Rattle.run_actions.specs.declared.actions.Action.{Action}
use Rattle.run_actions.specs.declared.actions.Action.TheVariants.{Pass, Put, One, Two, Copy, Gather, Load as LoadWords, Store as StoreWords, Read, Write, Chain, BufferChain, Jump, Choose, Call, Return, GiveBack, End, Unreachable, Never}
use Rattle.run_actions.specs.declared.actions.Move.{Move}
use Rattle.run_plans.specs.declared.kinds.Kind.{Kind}
use Rattle.run_plans.specs.declared.kinds.Kind.TheVariants.{Pass as DoPass, Variable as DoVariable, Load as DoLoad, Store as DoStore, Chain as DoChain, Construct as DoConstruct, Extract as DoExtract, Same as DoSame, One as DoOne, Two as DoTwo, Turned as DoTurned, Branch as DoBranch, Condition as DoCondition, Call as DoCall, Return as DoReturn, GiveBack as DoGiveBack, Unreachable as DoUnreachable, Never as DoNever}
use Rattle.run_plans.specs.Kinds.{kind_of}
use Rattle.action_laws.specs.Paths.{Item, Member, Slot, Planned, Plan, NoPlan, plan, buffer_plan}
use Rattle.image_lookup.specs.Lookups.{operand}
use Rattle.image_places.specs.Places.{function_of}
use Rattle.image_declarations.specs.Reach.{is_buffer_class}
use Rattle.image_operands.specs.Memory.{constant_number}
use Rattle.image_facts.specs.Operands.{globals_of, shape, type_id}
use Rattle.run_rooms.specs.Rooms.{Rooms, size_of, slot_size}

-- a pointer leads into a buffer
abbrev pub is_in_buffer : List Instruction → ℕ → Bool
is_in_buffer code pointer = is_buffer_class (operand code (type_id code pointer) 1)

-- what a value of pointers leads to
abbrev pub target_shape : List Instruction → ℕ → Option Shape
target_shape code pointer = shape code (operand code (type_id code pointer) 2)

module _ (code : List Instruction) (L : Rooms) where
  -- ---- chains

  abbrev pub slot_item : ℕ → Item
  slot_item i = Slot (L.slot i) (signed code (globals_of code) i)

  abbrev pub items : Shape → List ℕ → List Item
  items s [] = []
  items (Fields fs) (i ∷ is) =
      let n = or_zero (constant_number code i) in
      if_some (field_at fs n) (Member n ∷ []) (λ f. Member n ∷ items f.1 is)
  items (Repeated n stride of) (i ∷ is) = slot_item i ∷ items of is
  items (Unbounded stride of) (i ∷ is) = slot_item i ∷ items of is
  items s (i ∷ is) = slot_item i ∷ []

  -- no word is behind the place 2^32 - 1, so that an offset is told as far as that
  abbrev pub chain_by : Planned → ℕ → ℕ → Action
  chain_by (Plan offset steps of) pointer to = Chain (L.slot pointer) (L.slot to) (min offset (2 ^ 32 - 1)) steps
  chain_by NoPlan pointer to = Never

  abbrev pub buffer_chain_by : Planned → ℕ → ℕ → Action
  buffer_chain_by (Plan offset steps of) pointer to = BufferChain (L.slot pointer) (L.slot to) (min offset (2 ^ 32 - 1)) steps
  buffer_chain_by NoPlan pointer to = Never

  abbrev pub chain_of : ℕ → ℕ → List ℕ → Action
  chain_of r p is =
      if_some (target_shape code p) Never (λ s.
      cond (is_in_buffer code p) (buffer_chain_by (buffer_plan s (items s is)) p r) (chain_by (plan s (items s is)) p r))

  -- ---- composites

  -- the words of values, one behind the other
  abbrev pub gathered : List ℕ → ℕ → List Move
  gathered [] to = []
  gathered (x ∷ xs) to = record { from = L.slot x; to = to; count = slot_size code x } ∷ gathered xs (to + slot_size code x)

  abbrev pub extract_by : Piece → ℕ → ℕ → Action
  extract_by (At place of) r count = Copy (record { from = place; to = L.slot r; count = count })
  extract_by OutOfRange r count = Never
  extract_by NoPart r count = Never

  abbrev pub extract_of : ℕ → ℕ → ℕ → List ℕ → Action
  extract_of t r a path = if_some (shape code (type_id code a)) Never (λ s. extract_by (piece s path (L.slot a)) r (size_of code t))

  -- ---- operators

  abbrev pub one_of : Unary → ℕ → ℕ → ℕ → Action
  one_of op t r a = One op (L.slot a) (L.slot r) (size_of code t)

  abbrev pub two_of : Binary → ℕ → ℕ → ℕ → ℕ → Action
  two_of op t r a b = Two op (L.slot a) (L.slot b) (L.slot r) (size_of code t)

  -- ---- where a run goes on

  abbrev pub jump_to : ℕ → (ℕ → Action) → Action
  jump_to label go = if_some (place_of code label 0) Never go

  abbrev pub jump_of : ℕ → Action
  jump_of label = jump_to label (λ p. Jump p)

  abbrev pub choice_of : ℕ → ℕ → ℕ → Action
  choice_of condition one other = jump_to one (λ p. jump_to other (λ q. Choose (L.slot condition) p q))

  -- the arguments go to the parameters, which stand from a place on
  abbrev pub passed : List ℕ → ℕ → List Move
  passed [] place = []
  passed (x ∷ xs) place =
      if_some (slice_get code place) [] (λ i. if_some (second_of i.operands) [] (λ r.
      record { from = L.slot x; to = L.slot r; count = slot_size code x } ∷ passed xs (place + 1)))

  abbrev pub call_of : ℕ → ℕ → ℕ → List ℕ → Action
  call_of k r f arguments =
      if_some (place_of code f 0) Never (λ p.
      Call (p + 1 + length arguments) (passed arguments (p + 1)) (L.rooms (suc p)) (L.rooms_count (suc p)) (L.frame (suc p)) (k + 1) (L.slot r))

  -- the function is the entry
  abbrev pub is_entry_number : ℕ → Bool
  is_entry_number function = if_some (entry_of code) false (λ e. if_some (place_of code e 0) false (λ p. nat_eq function (suc p)))

  abbrev pub return_of : ℕ → Action
  return_of function = cond (is_entry_number function) End (Return (L.frame function))

  abbrev pub give_back_of : ℕ → ℕ → Action
  give_back_of function v = GiveBack (L.frame function) (L.slot v) (slot_size code v)

  -- ---- loads, stores, and what is given as it is

  abbrev pub load_of : ℕ → ℕ → ℕ → Action
  load_of t r p = cond (is_in_buffer code p) (Read (L.slot p) (L.slot r)) (LoadWords (L.slot p) (L.slot r) (size_of code t))

  abbrev pub store_of : ℕ → ℕ → Action
  store_of p v = cond (is_in_buffer code p) (Write (L.slot p) (L.slot v)) (StoreWords (L.slot p) (L.slot v) (slot_size code v))

  abbrev pub same_of : ℕ → ℕ → ℕ → Action
  same_of t r a = Copy (record { from = L.slot a; to = L.slot r; count = size_of code t })

  -- ---- each kind of instruction, at one with a number

  abbrev pub act_by : ℕ → Kind → List ℕ → Action
  act_by k DoPass os = Pass
  act_by k DoNever os = Never
  act_by k DoVariable (t ∷ r ∷ class ∷ []) = Put (L.slot r) (L.room r)
  act_by k DoLoad (t ∷ r ∷ p ∷ []) = load_of t r p
  act_by k DoStore (p ∷ v ∷ []) = store_of p v
  act_by k DoChain (t ∷ r ∷ p ∷ is) = chain_of r p is
  act_by k DoConstruct (t ∷ r ∷ is) = Gather (gathered is (L.slot r))
  act_by k DoExtract (t ∷ r ∷ a ∷ path) = extract_of t r a path
  act_by k DoSame (t ∷ r ∷ a ∷ []) = same_of t r a
  act_by k (DoOne op) (t ∷ r ∷ a ∷ []) = one_of op t r a
  act_by k (DoTwo op) (t ∷ r ∷ a ∷ b ∷ []) = two_of op t r a b
  act_by k (DoTurned op) (t ∷ r ∷ a ∷ b ∷ []) = two_of op t r b a
  act_by k DoBranch (l ∷ []) = jump_of l
  act_by k DoCondition (c ∷ one ∷ other ∷ []) = choice_of c one other
  act_by k DoCall (t ∷ r ∷ f ∷ arguments) = call_of k r f arguments
  act_by k DoReturn [] = return_of (function_of code k)
  act_by k DoGiveBack (v ∷ []) = give_back_of (function_of code k) v
  act_by k DoUnreachable [] = Unreachable
  act_by k kind os = Never

  -- the action of the instruction with this number
  abbrev pub action_of : ℕ → Instruction → Action
  action_of k i = act_by k (kind_of i.op) i.operands
