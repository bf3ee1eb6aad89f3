-- The image of a shader breaks none of the rules on order, blocks and calls.
use Rattle.std.proofs.Common.{◌≡◌, ℕ, zero, suc, ◌+◌, ◌≤◌, inl, inr, Bool, true, false, not, ◌||◌, nat_eq, List, length, slice_get, Option, Some, None, refl, sym, ap, ◌∙◌, subst, arith}
use Rattle.std.specs.Prelude.{nat_lt}
use Rattle.std.specs.Option.{option_map}
use Rattle.std.proofs.lemmas.Option.{slice_get_past, slice_get_cases}
use Rattle.spirv_words.specs.declared.opcodes.Op.{Op}
use Rattle.spirv_words.specs.declared.opcodes.Op.TheVariants.{FunctionCall}
use Rattle.spirv_words.specs.declared.images.Instruction.{Instruction}
use Rattle.first_form.specs.declared.shader.Shader.{Shader}
use Rattle.first_image.specs.Image.{image_of, image_code}
use Rattle.image_places.specs.Places.{function_of, block_of}
use Rattle.image_rules.specs.Order.{reached, is_misplaced, out_of_order, OutOfOrder}
use Rattle.image_rules.specs.Blocks.{is_broken_at, breaks_block, BadBlock}
use Rattle.image_calls.specs.Edges.{edge_by}
use Rattle.image_calls.specs.Arguments.{if_call}
use Rattle.image_calls.specs.Calls.{LeadsBack, BadCall}
use Rattle.valid_first_image.proofs.Walks.{AllAt, all_get}
use Rattle.valid_first_image.proofs.Scans.{Shows, Kept, is_simple, flag, all_kept, shown}
use Rattle.valid_first_image.proofs.Sections.{at_start, has_code, runs_code, ending_code}

pub not_both : (b : Bool) → b ≡ false → b ≡ true → ⊥
not_both true e f = absurd cc
not_both false e f = absurd cc

-- an instruction that does not call is no wrong call
no_call : (op : Op) (b : Bool) → is_simple op ≡ true → if_call op b ≡ false
no_call FunctionCall b e = absurd cc
no_call op b e = refl

no_edge : (op : Op) (os : List ℕ) (inside : Option ℕ) → is_simple op ≡ true → edge_by op os inside ≡ None
no_edge FunctionCall os inside e = absurd cc
no_edge op os inside e = refl

flag_none : (n : ℕ) → flag n ≡ 0 → n ≡ 0
flag_none zero e = refl
flag_none (suc n) e = absurd (omega arith)

module _ (home : List ℕ) (p : Shader) where
  abbrev code : List Instruction
  code = image_code home p

  starts : Shows code 0 at_start
  starts = record { function = refl; block = refl; reached = refl; front = refl; ended = refl }

  every : AllAt (Kept code) 0 code
  every = all_kept code code 0 at_start (has_code home p) starts (runs_code home p)

  pub kept : (k : ℕ) (i : Instruction) → slice_get code k ≡ Some i → Kept code k i
  kept k i at = let z : 0 + k ≡ k = omega arith in subst (λ n. Kept code n i) z (all_get (Kept code) code 0 k i every at)

  -- at the end no function is open, and all sections were there
  end_function : function_of code (length code) ≡ 0
  end_function =
      let h = shown code code 0 at_start (has_code home p) starts in
      let z : 0 + length code ≡ length code = omega arith in
      flag_none (function_of code (length code)) (ap (λ n. flag (function_of code n)) (sym z) ∙ h.function ∙ ap (λ s. s.function) (ending_code home p))

  end_reached : reached code (length code) ≡ 14
  end_reached =
      let h = shown code code 0 at_start (has_code home p) starts in
      let z : 0 + length code ≡ length code = omega arith in
      ap (reached code) (sym z) ∙ h.reached ∙ ap (λ s. s.reached) (ending_code home p)

  ordered_end : (k : ℕ) → k ≤ length code → length code ≤ k → out_of_order code k ≡ false
  ordered_end k le ge =
      let n : k ≡ length code = omega arith in
      ap (λ o. is_misplaced (option_map (λ (i : Instruction). i.op) o) (function_of code k) (block_of code k) (reached code k)) (slice_get_past code k ge)
      ∙ ap (λ f. not (nat_eq f 0) || nat_lt (reached code k) 4) (ap (function_of code) n ∙ end_function)
      ∙ ap (λ r. nat_lt r 4) (ap (reached code) n ∙ end_reached)

  ordered : (k : ℕ) → k ≤ length code → out_of_order code k ≡ false
  ordered k le = elim (slice_get_cases code k).1 [
    | inl h ↦ (kept k h.0 h.2).in_order
    | inr h ↦ ordered_end k le h.0
  ]

  pub in_order : (place : ℕ) → OutOfOrder (image_of home p) place → ⊥
  in_order place h = not_both (out_of_order code h.number) (ordered h.number h.within) h.is_wrong

  blocked : (k : ℕ) → breaks_block code k ≡ false
  blocked k = elim (slice_get_cases code k).1 [
    | inl h ↦ (kept k h.0 h.2).in_blocks
    | inr h ↦ ap (λ o. is_broken_at o code k) h.1
  ]

  pub in_blocks : (place : ℕ) → BadBlock (image_of home p) place → ⊥
  in_blocks place h = not_both (breaks_block code h.number) (blocked h.number) h.is_wrong

  pub calls_nothing : (place : ℕ) → BadCall code place → ⊥
  calls_nothing place h =
      let i = h.is_wrong.0 in
      let simple = (kept h.number i h.is_wrong.1).simple in
      elim h.is_wrong.2 [
        | inl bad ↦ not_both _ (no_call i.op _ simple) bad
        | inr back ↦ subst (LeadsBack _) (no_edge i.op i.operands _ simple) back
      ]
