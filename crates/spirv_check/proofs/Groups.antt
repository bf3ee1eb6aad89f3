-- The sizes of a group of a valid image.
use Rattle.std.proofs.Common.{◌≡◌, ℕ, zero, suc, ◌*◌, ◌<◌, ◌≤◌, Bool, true, false, ◌&&◌, nat_eq, cond, List, [], ◌∷◌, IsTrue, Some, None, slice_index, refl, ap, subst, arith}
use Rattle.std.proofs.lemmas.Bool.Decides.{nat_tests}
use Rattle.spirv_words.specs.declared.opcodes.Op.{Op}
use Rattle.spirv_words.specs.declared.opcodes.Op.TheVariants.{ExecutionMode}
use Rattle.spirv_words.specs.declared.images.Instruction.{Instruction}
use Rattle.spirv_words.specs.declared.images.Image.{Image}
use Rattle.spirv_words.specs.Opcodes.{op_number}
use Rattle.spirv_words.specs.Layouts.{fits, is_group}
use Rattle.spirv_words.specs.Words.{AreInstructions}
use Rattle.spirv_words.proofs.Numbers.{op_number-injective}
use Rattle.image_places.specs.Places.{op_at}
use Rattle.spirv_check.specs.Entry.{first_operands, group_size}
use Rattle.spirv_check.specs.Valid.{Valid}
use Rattle.spirv_check.proofs.Begins.{begins}

-- one instruction more before those of which it holds
fit_behind : (op : Op) (i : Instruction) (is : List Instruction) → AreInstructions (i ∷ is)
    → ((n : ℕ) → op_at is n ≡ Some op → IsTrue (fits op (first_operands op is)))
    → (b : Bool) → nat_eq (op_number i.op) (op_number op) ≡ b → (n : ℕ) → op_at (i ∷ is) n ≡ Some op → IsTrue (fits op (cond b i.operands (first_operands op is)))
fit_behind op i is are rest true e n h =
    let number : op_number i.op ≡ op_number op = grind (arith, nat_tests) in
    let P : Op → Type 0 = λ o. IsTrue (fits o i.operands) in
    subst P (op_number-injective i.op op number) are.0.layout
fit_behind op i is are rest false e zero h =
    let same : i.op ≡ op = cc in
    let number : op_number i.op ≡ op_number op = ap op_number same in
    absurd (grind (arith, nat_tests))
fit_behind op i is are rest false e (suc n) h = rest n h

-- where some instruction has an opcode, the operands of the first such fit
first_fit : (op : Op) (is : List Instruction) (k : ℕ) → AreInstructions is → op_at is k ≡ Some op → IsTrue (fits op (first_operands op is))
first_fit op [] k are at = absurd (nothing at) where
  nothing : None ≡ Some op → ⊥
  nothing e = cc
first_fit op (i ∷ is) k are at =
    fit_behind op i is are (λ n h. first_fit op is n are.1 h) (nat_eq (op_number i.op) (op_number op)) refl k at

-- the sizes of a mode that fits
sizes : (os : List ℕ) → fits ExecutionMode os ≡ true → is_group (slice_index os 2) (slice_index os 3) (slice_index os 4) ≡ true
sizes [] h = cc
sizes (f ∷ []) h = cc
sizes (f ∷ m ∷ []) h = cc
sizes (f ∷ m ∷ x ∷ []) h = cc
sizes (f ∷ m ∷ x ∷ y ∷ []) h = cc
sizes (f ∷ m ∷ x ∷ y ∷ z ∷ []) h = second (nat_eq m 17) (is_group x y z) h where
  second : (a b : Bool) → (a && b) ≡ true → b ≡ true
  second true b e = e
  second false b e = cc
sizes (f ∷ m ∷ x ∷ y ∷ z ∷ w ∷ os) h = cc

product : (x y z : ℕ) → 1 ≤ x → 1 ≤ y → 1 ≤ z → 0 < x * y * z
product (suc x) (suc y) (suc z) a b c = omega arith
product x y z a b c = omega arith

few : (x y z : ℕ) → is_group x y z ≡ true → (0 < x * y * z) × (x * y * z ≤ 1024)
few x y z h =
    let x1 : 1 ≤ x = grind (arith, nat_tests) in
    let y1 : 1 ≤ y = grind (arith, nat_tests) in
    let z1 : 1 ≤ z = grind (arith, nat_tests) in
    let most : x * y * z ≤ 1024 = grind (arith, nat_tests) in
    (product x y z x1 y1 z1, most)

-- a group of a valid image has at least one invocation, and at most 1,024
pub group_is_some : (image : Image) → Valid image → let size = group_size image.instructions in
    (0 < slice_index size 0 * slice_index size 1 * slice_index size 2) × (slice_index size 0 * slice_index size 1 * slice_index size 2 ≤ 1024)
group_is_some image v =
    let os = first_operands ExecutionMode image.instructions in
    few (slice_index os 2) (slice_index os 3) (slice_index os 4)
    (sizes os (first_fit ExecutionMode image.instructions 3 v.spelled.instructions (begins image v).3))
