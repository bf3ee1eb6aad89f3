-- What a valid image keeps at each of its instructions.
use Rattle.std.proofs.Common.{◌≡◌, ℕ, zero, suc, ◌<◌, ◌≤◌, true, false, List, [], ◌∷◌, length, drop, take, slice_get, Option, Some, refl, sym, ap, ◌∙◌, arith}
use Rattle.std.proofs.lemmas.Bool.{false_from_ne_true, or_parts, not-false}
use Rattle.std.proofs.lemmas.Option.{slice_get_within}
use Rattle.spirv_words.specs.declared.images.Instruction.{Instruction}
use Rattle.spirv_words.specs.declared.images.Image.{Image}
use Rattle.spirv_words.specs.declared.faults.ImageCode.TheVariants.{Order, Ids, Types, Blocks, Calls}
use Rattle.spirv_words.specs.Machine.{if_some}
use Rattle.spirv_words.specs.Words.{AreInstructions}
use Rattle.spirv_words.specs.Layouts as layouts
use Rattle.image_places.specs.Places.{word_of, op_at, function_of, block_of}
use Rattle.image_rules.specs.Order.{out_of_order}
use Rattle.image_rules.specs.Ids.{is_wrong_in}
use Rattle.image_rules.specs.Blocks.{has_ended, in_front, targets, label_function, are_labels, is_broken, is_broken_at, breaks_block}
use Rattle.image_types.specs.Rules.{rule_of}
use Rattle.image_types.specs.Checking.{meets, fits, context_at, is_wrong, has_wrong_types}
use Rattle.image_operands.specs.Marks.{clashes}
use Rattle.image_calls.specs.Calls.{IsWrongCall}
use Rattle.spirv_check.specs.Valid.{Valid}

instructions_fit : (is : List Instruction) (k : ℕ) (i : Instruction) → AreInstructions is → slice_get is k ≡ Some i → layouts.fits i.op i.operands ≡ true
instructions_fit [] k i are at = cc
instructions_fit (x ∷ xs) zero i are at = let same : x ≡ i = cc in ap (λ (y : Instruction). layouts.fits y.op y.operands) (sym same) ∙ are.0.layout
instructions_fit (x ∷ xs) (suc k) i are at = instructions_fit xs k i are.1 at

module _ (image : Image) (v : Valid image) where
  -- nothing is out of order, also not the end
  pub in_order : (k : ℕ) → k ≤ length image.instructions → out_of_order image.instructions k ≡ false
  in_order k h =
      false_from_ne_true (out_of_order image.instructions k)
      (λ e. v.keeps Order (word_of image.instructions k) (record { number = k; within = h; place_is = refl; is_wrong = e }))

  -- no block is broken
  pub in_blocks : (k : ℕ) → k ≤ length image.instructions → breaks_block image.instructions k ≡ false
  in_blocks k h =
      false_from_ne_true (breaks_block image.instructions k)
      (λ e. v.keeps Blocks (word_of image.instructions k) (record { number = k; within = h; place_is = refl; is_wrong = e }))

  types_right : (k : ℕ) → k ≤ length image.instructions → has_wrong_types image.instructions k ≡ false
  types_right k h =
      false_from_ne_true (has_wrong_types image.instructions k)
      (λ e. v.keeps Types (word_of image.instructions k) (record { number = k; within = h; place_is = refl; is_wrong = e }))

  module _ (k : ℕ) (i : Instruction) (at : slice_get image.instructions k ≡ Some i) where
    pub before_end : k < length image.instructions
    before_end = slice_get_within image.instructions k i at

    types_are_right : is_wrong image.instructions k i ≡ false
    unfolding has_wrong_types
    types_are_right =
        let h : k ≤ length image.instructions = omega (arith, before_end) in
        ap (λ (o : Option Instruction). if_some o false (is_wrong image.instructions k)) (sym at) ∙ types_right k h

    -- its types fit
    pub types_fit : fits image.instructions (context_at image.instructions k) k i (drop (suc k) image.instructions) ≡ true
    types_fit = not-false _ (or_parts _ _ types_are_right).1

    -- it meets the rule of its opcode
    pub meets_rule : meets (rule_of i.op) image.instructions (context_at image.instructions k) k i (drop (suc k) image.instructions) ≡ true
    unfolding fits
    meets_rule = types_fit

    -- it completes no set and binding that another buffer has
    pub no_clash : clashes image.instructions (take k image.instructions) k i ≡ false
    no_clash = (or_parts _ _ types_are_right).0

    -- it has the operands of its opcode
    pub operands_fit : layouts.fits i.op i.operands ≡ true
    operands_fit = instructions_fit image.instructions k i v.spelled.instructions at

    -- none of its operands is a wrong id
    pub ids_right : (j : ℕ) → j < length i.operands → is_wrong_in image i k j ≡ false
    ids_right j h =
        false_from_ne_true (is_wrong_in image i k j)
        (λ e. v.keeps Ids _ (record { number = k; operand = j; instruction = i; stands = at; within = h; place_is = refl; is_wrong = e }))

    block_is_right : is_broken_at (Some i) image.instructions k ≡ false
    block_is_right =
        let h : k ≤ length image.instructions = omega (arith, before_end) in
        ap (λ (o : Option Instruction). is_broken_at o image.instructions k) (sym at) ∙ in_blocks k h

    -- it may stand where it does in its block
    pub block_right : is_broken i.op (has_ended image.instructions k) (function_of image.instructions k) (block_of image.instructions k)
        (in_front image.instructions k) (op_at image.instructions (suc k)) ≡ false
    block_right = (or_parts _ _ block_is_right).0

    -- what it branches to are Labels of its function
    pub targets_right : are_labels (label_function image.instructions (length image.instructions)) (function_of image.instructions k) (targets i.op i.operands) ≡ true
    targets_right = not-false _ (or_parts _ _ block_is_right).1

    -- it is no wrong call
    pub call_right : IsWrongCall image.instructions k i → ⊥
    call_right w = v.keeps Calls (word_of image.instructions k) (record { number = k; within = before_end; place_is = refl; is_wrong = (i, at, w) })
