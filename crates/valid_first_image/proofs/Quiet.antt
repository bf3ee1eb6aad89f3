-- Code that opens and closes neither functions nor blocks, and in which no parameter stands.
use Rattle.std.proofs.Common.{◌≡◌, ℕ, suc, ◌+◌, Bool, true, false, ◌&&◌, List, [], ◌∷◌, ◌++◌, length, Option, Some, refl, sym, ap, ◌∙◌, subst, add-one, arith}
use Rattle.std.specs.Prelude.{slice_get}
use Rattle.std.specs.Option.{option_map}
use Rattle.std.proofs.lemmas.Bool.{and_parts}
use Rattle.std.proofs.lemmas.Option.{slice_get_within, get_or_from_slice_get}
use Rattle.image_types.specs.declared.functions.Context.{Context}
use Rattle.image_types.specs.Functions.{after_op, after}
use Rattle.image_types.specs.Checking.{context_at}
use Rattle.image_types.proofs.Walk.{context-more}
use Rattle.spirv_words.specs.declared.opcodes.Op.{Op}
use Rattle.spirv_words.specs.declared.opcodes.Op.TheVariants.{Function, FunctionParameter, FunctionEnd, Label}
use Rattle.spirv_words.specs.declared.images.Instruction.{Instruction}
use Rattle.image_places.specs.Places.{op_at, under_function, under_label, function_of, block_of}
use Rattle.first_image.proofs.Standing.{HasAt}
use Rattle.valid_first_image.proofs.Walks.{AllAt}

abbrev pub is_quiet : Op → Bool
is_quiet Function = false
is_quiet FunctionParameter = false
is_quiet FunctionEnd = false
is_quiet Label = false
is_quiet op = true

abbrev pub quiet : List Instruction → Bool
quiet [] = true
quiet (i ∷ is) = is_quiet i.op && quiet is

pub quiet_on : (a b : List Instruction) → quiet a ≡ true → quiet b ≡ true → quiet (a ++ b) ≡ true
quiet_on [] b h g = g
quiet_on (i ∷ a) b h g = let p = and_parts (is_quiet i.op) (quiet a) h in ap (λ x. x && quiet (a ++ b)) p.0 ∙ quiet_on a b p.1 g

quiet_function : (op : Op) (h f : ℕ) → is_quiet op ≡ true → under_function (Some op) h f ≡ f
quiet_function Function h f e = absurd cc
quiet_function FunctionEnd h f e = absurd cc
quiet_function op h f e = refl

quiet_block : (op : Op) (h b : ℕ) → is_quiet op ≡ true → under_label (Some op) h b ≡ b
quiet_block Label h b e = absurd cc
quiet_block FunctionEnd h b e = absurd cc
quiet_block op h b e = refl

module _ (code : List Instruction) (f b : ℕ) where
  -- this function and this block are open behind the instruction
  pub record Under (k : ℕ) : Type 0 where
    pub function : function_of code k ≡ f
    pub block : block_of code k ≡ b

  pub under_next : (k : ℕ) (i : Instruction) → slice_get code k ≡ Some i → is_quiet i.op ≡ true → Under k → Under (suc k)
  under_next k i at e u =
      let o : op_at code k ≡ Some i.op = ap (option_map (λ (i : Instruction). i.op)) at in
      record {
        function = ap (λ o. under_function o (suc k) (function_of code k)) o ∙ quiet_function i.op (suc k) (function_of code k) e ∙ u.function;
        block = ap (λ o. under_label o (suc k) (block_of code k)) o ∙ quiet_block i.op (suc k) (block_of code k) e ∙ u.block;
      }

  pub under_all : (is : List Instruction) (k : ℕ) → HasAt code k is → quiet is ≡ true → Under k → AllAt (λ k i. Under (suc k)) k is
  under_all [] k h e u = tt
  under_all (i ∷ is) k h e u =
      let p = and_parts (is_quiet i.op) (quiet is) e in
      let n = under_next k i h.0 p.0 u in
      (n, under_all is (k + 1) h.1 p.1 (subst Under (sym (add-one k)) n))

  pub under_end : (is : List Instruction) (k : ℕ) → HasAt code k is → quiet is ≡ true → Under k → Under (k + length is)
  under_end [] k h e u = let z : k ≡ k + 0 = omega arith in subst Under z u
  under_end (i ∷ is) k h e u =
      let p = and_parts (is_quiet i.op) (quiet is) e in
      let z : k + 1 + length is ≡ k + length (i ∷ is) = omega arith in
      subst Under z (under_end is (k + 1) h.1 p.1 (subst Under (sym (add-one k)) (under_next k i h.0 p.0 u)))

-- a Function and a Label open
pub opens_function : (code : List Instruction) (k b : ℕ) (os : List ℕ) → slice_get code k ≡ Some (record { op = Function; operands = os }) → block_of code k ≡ b → Under code (suc k) b (suc k)
opens_function code k b os at e = record {
  function = ap (λ (o : Option Instruction). under_function (option_map (λ (i : Instruction). i.op) o) (suc k) (function_of code k)) at;
  block = ap (λ (o : Option Instruction). under_label (option_map (λ (i : Instruction). i.op) o) (suc k) (block_of code k)) at ∙ e;
}

pub opens_block : (code : List Instruction) (k f : ℕ) (os : List ℕ) → slice_get code k ≡ Some (record { op = Label; operands = os }) → function_of code k ≡ f → Under code f (suc k) (suc k)
opens_block code k f os at e = record {
  function = ap (λ (o : Option Instruction). under_function (option_map (λ (i : Instruction). i.op) o) (suc k) (function_of code k)) at ∙ e;
  block = ap (λ (o : Option Instruction). under_label (option_map (λ (i : Instruction). i.op) o) (suc k) (block_of code k)) at;
}

-- ---- what the rules on types know of the function

quiet_after : (op : Op) (os : List ℕ) (c : Context) → is_quiet op ≡ true → after_op op os c ≡ c
quiet_after Function os c e = absurd cc
quiet_after FunctionParameter os c e = absurd cc
quiet_after FunctionEnd os c e = absurd cc
quiet_after op os c e = refl

pub context_next : (code : List Instruction) (k : ℕ) (i : Instruction) → slice_get code k ≡ Some i → context_at code (k + 1) ≡ after (context_at code k) i
context_next code k i at = context-more code k i (slice_get_within code k i at) (sym (get_or_from_slice_get code k i i at))

pub context_all : (code : List Instruction) (c : Context) (is : List Instruction) (k : ℕ) → HasAt code k is → quiet is ≡ true → context_at code k ≡ c → AllAt (λ k i. context_at code k ≡ c) k is
context_all code c [] k h e u = tt
context_all code c (i ∷ is) k h e u =
    let p = and_parts (is_quiet i.op) (quiet is) e in
    (u, context_all code c is (k + 1) h.1 p.1 (context_next code k i h.0 ∙ ap (after_op i.op i.operands) u ∙ quiet_after i.op i.operands c p.0))

pub context_end : (code : List Instruction) (c : Context) (is : List Instruction) (k : ℕ) → HasAt code k is → quiet is ≡ true → context_at code k ≡ c → context_at code (k + length is) ≡ c
context_end code c [] k h e u = let z : k + 0 ≡ k = omega arith in ap (context_at code) z ∙ u
context_end code c (i ∷ is) k h e u =
    let p = and_parts (is_quiet i.op) (quiet is) e in
    let z : k + length (i ∷ is) ≡ k + 1 + length is = omega arith in
    ap (context_at code) z ∙ context_end code c is (k + 1) h.1 p.1 (context_next code k i h.0 ∙ ap (after_op i.op i.operands) u ∙ quiet_after i.op i.operands c p.0)
