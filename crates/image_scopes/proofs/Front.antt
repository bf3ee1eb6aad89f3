-- Variables stand before all else in the first block of their function, and parameters before it.
use Rattle.std.proofs.Common.{◌≡◌, ℕ, zero, suc, ◌<◌, ◌⊎◌, inl, inr, Bool, true, false, nat_eq, List, Option, Some, None, refl, sym, ap, ◌∙◌, arith}
use Rattle.std.proofs.lemmas.Bool.{eqb-true, cases_eq, cases_lt}
use Rattle.spirv_words.specs.declared.opcodes.Op.{Op}
use Rattle.spirv_words.specs.declared.opcodes.Op.TheVariants.{FunctionParameter, Variable, Label}
use Rattle.spirv_words.specs.declared.images.Instruction.{Instruction}
use Rattle.spirv_words.specs.declared.images.Image.{Image}
use Rattle.image_places.specs.Places.{op_at, under_function, function_of, block_of}
use Rattle.image_rules.specs.Blocks.{stays_in_front, in_front}
use Rattle.spirv_check.specs.Valid.{Valid}
use Rattle.image_scopes.specs.Runs.{may_run}
use Rattle.image_scopes.specs.Scopes.{IsRun}
use Rattle.image_scopes.proofs.Standing.{stays_in_block}
use Rattle.image_scopes.proofs.Ordered.{run_is, may_be_run}

abbrev pub IsFront : List Instruction → ℕ → Type 0
IsFront code k = (op_at code k ≡ Some Label) ⊎ (op_at code k ≡ Some Variable)

front_cases : (o : Option Op) (b : ℕ) (before : Bool) → stays_in_front o b before ≡ true
    → ((o ≡ Some Label) × (nat_eq b 0 ≡ true)) ⊎ ((o ≡ Some Variable) × (before ≡ true))
front_cases None b before e = cc
front_cases (Some Label) b before e = inl (refl, e)
front_cases (Some Variable) b before e = inr (refl, e)
front_cases (Some op) b before e = cc

-- before a place in front there are a Label and variables alone, in the function's blocks
pub front_behind : (code : List Instruction) (k q : ℕ) → in_front code q ≡ true → k < q → function_of code (suc k) ≡ function_of code q
    → (function_of code q ≡ 0 → ⊥) → (block_of code (suc k) ≡ 0 → ⊥) → IsFront code k
front_behind code k zero front less same some block = absurd (omega arith)
front_behind code k (suc q) front less same some block = elim (front_cases (op_at code q) (block_of code q) (in_front code q) front) [
  | inl l ↦ elim (cases_eq k q) [
    | inl e ↦ inl (ap (op_at code) e ∙ l.0)
    | inr other ↦ (let on : function_of code (suc q) ≡ function_of code q = ap (λ (o : Option Op). under_function o (suc q) (function_of code q)) l.0 in
        absurd (stays_in_block code (suc k) q (omega arith) (same ∙ on) (λ e. some (on ∙ e)) block (eqb-true (block_of code q) 0 l.1)))
  ]
  | inr r ↦ elim (cases_eq k q) [
    | inl e ↦ inr (ap (op_at code) e ∙ r.0)
    | inr other ↦ (let on : function_of code (suc q) ≡ function_of code q = ap (λ (o : Option Op). under_function o (suc q) (function_of code q)) r.0 in
        front_behind code k q r.1 (omega arith) (same ∙ on) (λ e. some (on ∙ e)) block)
  ]
]

module _ (image : Image) (v : Valid image) (k : ℕ) (run : IsRun image.instructions k) (q : ℕ)
    (same : function_of image.instructions q ≡ function_of image.instructions (suc k)) where
  some : function_of image.instructions q ≡ 0 → ⊥
  some e = run.in_function (sym same ∙ e)

  -- what is run stands behind its function's variables, but for its first Label and these
  pub behind_variables : op_at image.instructions q ≡ Some Variable → in_front image.instructions q ≡ true → (q < k) ⊎ IsFront image.instructions k
  behind_variables op front = elim (cases_lt q k) [
    | inl l ↦ inl l
    | inr g ↦ elim (cases_eq k q) [
      | inl e ↦ inr (inr (ap (op_at image.instructions) e ∙ op))
      | inr other ↦ inr (front_behind image.instructions k q front (omega arith) (sym same) some run.in_block)
    ]
  ]

  is_parameter_run : (op : Op) → Some op ≡ Some FunctionParameter → may_run op ≡ true → ⊥
  is_parameter_run op e may = let same_op : op ≡ FunctionParameter = cc in let no : false ≡ true = ap may_run (sym same_op) ∙ may in cc

  -- what is run stands behind its function's parameters
  pub behind_parameters : op_at image.instructions q ≡ Some FunctionParameter → block_of image.instructions q ≡ 0 → q < k
  behind_parameters op none = elim (cases_lt q k) [
    | inl l ↦ l
    | inr g ↦ elim (cases_eq k q) [
      | inl e ↦ absurd (is_parameter_run run.instruction.op (sym (run_is image v k run) ∙ (ap (op_at image.instructions) e ∙ op)) (may_be_run image v k run))
      | inr other ↦ absurd (stays_in_block image.instructions (suc k) q (omega arith) (sym same) some run.in_block none)
    ]
  ]
