-- What an image in order begins with.
use Rattle.std.proofs.Common.{◌≡◌, ℕ, suc, ◌≤◌, Bool, true, false, nat_eq, cond, List, length, Option, Some, None, refl, sym, ap, arith, ◌∙◌}
use Rattle.std.proofs.lemmas.Option.{slice_get_past}
use Rattle.std.proofs.lemmas.Bool.{cases_lt}
use Rattle.std.proofs.Common.{inl, inr}
use Rattle.std.specs.Option.{option_map}
use Rattle.spirv_words.specs.declared.opcodes.Op.{Op}
use Rattle.spirv_words.specs.declared.opcodes.Op.TheVariants.{Capability, MemoryModel, EntryPoint, ExecutionMode}
use Rattle.spirv_words.specs.declared.images.Instruction.{Instruction}
use Rattle.spirv_words.specs.declared.images.Image.{Image}
use Rattle.spirv_words.specs.declared.faults.ImageCode.TheVariants.{Order}
use Rattle.image_places.specs.Places.{word_of, op_at, under_function, under_label, function_of, block_of}
use Rattle.image_rules.specs.Order.{section, section_at, reached, is_misplaced, out_of_order}
use Rattle.spirv_check.specs.Valid.{Valid}

-- what may stand first, second, third and fourth
at_first : (o : Option Op) → is_misplaced o 0 0 0 ≡ false → o ≡ Some Capability
at_first None e = cc
at_first (Some Capability) e = refl
at_first (Some op) e = cc

at_second : (o : Option Op) → is_misplaced o 0 0 1 ≡ false → o ≡ Some MemoryModel
at_second None e = cc
at_second (Some MemoryModel) e = refl
at_second (Some op) e = cc

at_third : (o : Option Op) → is_misplaced o 0 0 2 ≡ false → o ≡ Some EntryPoint
at_third None e = cc
at_third (Some EntryPoint) e = refl
at_third (Some op) e = cc

at_fourth : (o : Option Op) → is_misplaced o 0 0 3 ≡ false → o ≡ Some ExecutionMode
at_fourth None e = cc
at_fourth (Some ExecutionMode) e = refl
at_fourth (Some op) e = cc

-- outside of functions and blocks, after so many instructions, with a section reached
record Outside (is : List Instruction) (k r : ℕ) : Type 0 where
  no_function : function_of is k ≡ 0
  no_block : block_of is k ≡ 0
  so_far : reached is k ≡ r

after : (is : List Instruction) (k r : ℕ) (op : Op) → ((h b : ℕ) → under_function (Some op) h b ≡ b) → ((h b : ℕ) → under_label (Some op) h b ≡ b)
    → Outside is k r → op_at is k ≡ Some op → Outside is (suc k) (section op)
after is k r op plain flat o at = record {
  no_function = ap (λ (t : Option Op). under_function t (suc k) (function_of is k)) at ∙ (plain (suc k) (function_of is k) ∙ o.no_function);
  no_block = ap (λ (t : Option Op). under_label t (suc k) (block_of is k)) at ∙ (flat (suc k) (block_of is k) ∙ o.no_block);
  so_far = ap (λ (t : ℕ). cond (nat_eq t 0) (section_at (op_at is k)) (reached is k)) o.no_function ∙ ap section_at at;
}

tested : (is : List Instruction) (k r : ℕ) → Outside is k r → out_of_order is k ≡ false → is_misplaced (op_at is k) 0 0 r ≡ false
tested is k r o e =
    sym (ap (λ (t : ℕ). is_misplaced (op_at is k) t (block_of is k) (reached is k)) o.no_function
    ∙ (ap (λ (t : ℕ). is_misplaced (op_at is k) 0 t (reached is k)) o.no_block
    ∙ ap (λ (t : ℕ). is_misplaced (op_at is k) 0 0 t) o.so_far)) ∙ e

not_true : (b : Bool) → (b ≡ true → ⊥) → b ≡ false
not_true true h = absurd (h refl)
not_true false h = refl

-- a valid image has nothing out of order
in_order : (image : Image) → Valid image → (k : ℕ) → k ≤ length image.instructions → out_of_order image.instructions k ≡ false
in_order image v k h =
    not_true (out_of_order image.instructions k) (λ e. v.keeps Order (word_of image.instructions k) (record { number = k; within = h; place_is = refl; is_wrong = e }))

-- where an instruction stands, the next number is within
one_more : (is : List Instruction) (k : ℕ) (op : Op) → op_at is k ≡ Some op → suc k ≤ length is
one_more is k op at = elim (cases_lt k (length is)) [
  | inl l ↦ omega arith
  | inr g ↦ (let past : op_at is k ≡ None = ap (option_map (λ i. i.op)) (slice_get_past is k g) in absurd (nothing (sym past ∙ at)))
] where
  nothing : None ≡ Some op → ⊥
  nothing e = cc

pub begins : (image : Image) → Valid image
    → (op_at image.instructions 0 ≡ Some Capability) × (op_at image.instructions 1 ≡ Some MemoryModel)
    × (op_at image.instructions 2 ≡ Some EntryPoint) × (op_at image.instructions 3 ≡ Some ExecutionMode)
begins image v =
    let is = image.instructions in
    let none : Outside is 0 0 = record { no_function = refl; no_block = refl; so_far = refl } in
    let first = at_first (op_at is 0) (tested is 0 0 none (in_order image v 0 (omega arith))) in
    let one : Outside is 1 1 = after is 0 0 Capability (λ h b. refl) (λ h b. refl) none first in
    let second = at_second (op_at is 1) (tested is 1 1 one (in_order image v 1 (one_more is 0 Capability first))) in
    let two : Outside is 2 2 = after is 1 1 MemoryModel (λ h b. refl) (λ h b. refl) one second in
    let third = at_third (op_at is 2) (tested is 2 2 two (in_order image v 2 (one_more is 1 MemoryModel second))) in
    let three : Outside is 3 3 = after is 2 2 EntryPoint (λ h b. refl) (λ h b. refl) two third in
    let fourth = at_fourth (op_at is 3) (tested is 3 3 three (in_order image v 3 (one_more is 2 EntryPoint third))) in
    (first, second, third, fourth)
