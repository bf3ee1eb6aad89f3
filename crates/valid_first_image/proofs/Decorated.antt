-- The entry point, its mode and the decorations of a shader's image meet the rules on types.
use Rattle.std.proofs.Common.{◌≡◌, ℕ, zero, suc, ◌+◌, Bool, true, false, ◌&&◌, cond, List, [], ◌∷◌, length, drop, take, Option, Some, None, refl, sym, ap, ◌∙◌, arith}
use Rattle.std.specs.Prelude.{slice_get, nat_lt}
use Rattle.std.proofs.lemmas.Bool.{eq-eqb}
use Rattle.spirv_words.specs.declared.opcodes.Op.{Op}
use Rattle.spirv_words.specs.declared.opcodes.Op.TheVariants.{EntryPoint, ExecutionMode, Decorate, MemberDecorate, TypePointer}
use Rattle.spirv_words.specs.declared.images.Instruction.{Instruction}
use Rattle.spirv_words.specs.Machine.{if_some}
use Rattle.first_form.specs.declared.shader.Shader.{Shader}
use Rattle.first_image.specs.Templates.{ins}
use Rattle.image_lookup.specs.Sorts.{sort_of}
use Rattle.image_lookup.specs.Lookups.{sort_in, operands_in, sort, operands}
use Rattle.image_operands.specs.Marks.{is_strided, has_offsets, is_buffer, is_input, stride_fits, built_in_fits, mark_fits, member_mark_fits, completed, is_taken, taken_in, clashes}
use Rattle.image_types.specs.Functions.{is_parameter, leading_parameters, parameters_of, entry_fits, mode_fits}
use Rattle.valid_first_image.proofs.Named.{placed, defined}
use Rattle.valid_first_image.proofs.Fitting.{Points}
use Rattle.valid_first_image.proofs.Facts.{uint_extent}
use Rattle.valid_first_image.proofs.Marked.{stride_marked, offset_marked, set_marked, binding_marked, built_in_marked}
use Rattle.valid_first_image.proofs.Sections.{a, b, e, code, after_place, code_numbered}
use Rattle.valid_first_image.proofs.Definitions.{image, Def, void_defined, uint_defined, uint3_defined, array_defined, wrapper_defined, input_pointer_defined, buffer_defined, input_defined, entry_defined, label_defined}

always : (t : Bool) → cond t true true ≡ true
always true = refl
always false = refl

no_parameter : (is : List Instruction) (k : ℕ) (i : Instruction) → slice_get is k ≡ Some i → is_parameter i.op ≡ false → leading_parameters (drop k is) ≡ 0
no_parameter [] k i at h = absurd cc
no_parameter (x ∷ is) zero i at h =
    let s : x ≡ i = cc in
    ap (λ t. cond t (leading_parameters is + 1) 0) (ap (λ (x : Instruction). is_parameter x.op) s ∙ h)
no_parameter (x ∷ is) (suc k) i at h = no_parameter is k i at h

abbrev pub is_decoration : Op → Bool
is_decoration Decorate = true
is_decoration op = false

module _ (home : List ℕ) (p : Shader) where
  abbrev c : List Instruction
  c = code home p

  -- ---- what ids stand for

  pub sort_is : (x q : ℕ) (i : Instruction) → Def home p x q i → sort c x ≡ sort_of i.op
  unfolding sort
  sort_is x q i d = ap sort_in (defined (image home p) (code_numbered home p) x q i d)

  pub operands_are : (x q : ℕ) (i : Instruction) → Def home p x q i → operands c x ≡ i.operands
  unfolding operands
  operands_are x q i d = ap operands_in (defined (image home p) (code_numbered home p) x q i d)

  pub points : (q class of place : ℕ) → Def home p q place (ins TypePointer (q ∷ class ∷ of ∷ [])) → Points c q class of
  points q class of place d =
      let o = operands_are q place _ d in
      record { is_sort = sort_is q place _ d; class_is = rw o refl; of_is = rw o refl }

  -- ---- the entry point

  entry_takes_nothing : parameters_of c (e home p) ≡ 0
  unfolding parameters_of
  entry_takes_nothing =
      let z : after_place home p + 31 ≡ suc (after_place home p + 30) = omega arith in
      ap (λ o. if_some o 0 (λ place. leading_parameters (drop (suc place) c))) (placed (image home p) (code_numbered home p) _ _ _ (entry_defined home p))
      ∙ ap (λ k. leading_parameters (drop k c)) (sym z)
      ∙ no_parameter c (after_place home p + 31) _ (label_defined home p).stands refl

  pub entry_ok : (rest : List ℕ) → entry_fits c (ins EntryPoint (5 ∷ e home p ∷ rest)) ≡ true
  unfolding entry_fits
  entry_ok rest =
      rw (sort_is _ _ _ (entry_defined home p), operands_are _ _ _ (entry_defined home p), sort_is _ _ _ (void_defined home p), entry_takes_nothing) refl

  pub mode_ok : (rest : List ℕ) → mode_fits c (ins ExecutionMode (e home p ∷ rest)) ≡ true
  unfolding mode_fits
  mode_ok rest = eq-eqb (e home p) (e home p) refl

  -- ---- the decorations

  stride_ok : stride_fits c (a home p) 4 ≡ true
  unfolding stride_fits
  stride_ok = rw (operands_are _ _ _ (array_defined home p), uint_extent home p) refl

  pub array_mark_ok : mark_fits c 6 (ins Decorate (a home p ∷ 6 ∷ 4 ∷ [])) ≡ true
  unfolding mark_fits
  array_mark_ok = rw (stride_marked home p, stride_ok) (always (is_strided c (a home p)))

  pub block_mark_ok : mark_fits c 7 (ins Decorate ((a home p + 1) ∷ 2 ∷ [])) ≡ true
  unfolding mark_fits
  block_mark_ok = refl

  pub member_ok : member_mark_fits c 8 (ins MemberDecorate ((a home p + 1) ∷ 0 ∷ 35 ∷ 0 ∷ [])) ≡ true
  unfolding member_mark_fits
  member_ok = rw (offset_marked home p) (always (has_offsets c (a home p + 1) && nat_lt 1 (length (operands c (a home p + 1)))))

  pub set_ok : mark_fits c 9 (ins Decorate (b home p ∷ 34 ∷ 0 ∷ [])) ≡ true
  unfolding mark_fits
  set_ok = rw (set_marked home p) (always (is_buffer c (b home p)))

  pub binding_ok : mark_fits c 10 (ins Decorate (b home p ∷ 33 ∷ 0 ∷ [])) ≡ true
  unfolding mark_fits
  binding_ok = rw (binding_marked home p) (always (is_buffer c (b home p)))

  triple_ok : built_in_fits c (b home p + 1) 28 ≡ true
  unfolding built_in_fits
  triple_ok =
      rw (
        operands_are _ _ _ (input_defined home p),
        sort_is _ _ _ (input_pointer_defined home p),
        operands_are _ _ _ (input_pointer_defined home p),
        sort_is _ _ _ (uint3_defined home p),
        operands_are _ _ _ (uint3_defined home p),
        sort_is _ _ _ (uint_defined home p),
        operands_are _ _ _ (uint_defined home p),
      ) refl

  pub built_in_ok : mark_fits c 11 (ins Decorate ((b home p + 1) ∷ 11 ∷ 28 ∷ [])) ≡ true
  unfolding mark_fits
  built_in_ok = rw (built_in_marked home p, triple_ok) (always (is_input c (b home p + 1)))

  -- ---- no two sets and bindings

  array_apart : (place : ℕ) (os : List ℕ) → completed c place (ins Decorate (a home p ∷ os)) ≡ None
  unfolding completed
  array_apart place os = rw (sort_is _ _ _ (array_defined home p)) refl

  wrapper_apart : (place : ℕ) (os : List ℕ) → completed c place (ins Decorate ((a home p + 1) ∷ os)) ≡ None
  unfolding completed
  wrapper_apart place os = rw (sort_is _ _ _ (wrapper_defined home p)) refl

  input_apart : (place : ℕ) (os : List ℕ) → completed c place (ins Decorate ((b home p + 1) ∷ os)) ≡ None
  unfolding completed
  input_apart place os = rw (sort_is _ _ _ (input_defined home p), operands_are _ _ _ (input_defined home p)) refl

  set_apart : (os : List ℕ) → completed c 9 (ins Decorate (b home p ∷ os)) ≡ None
  unfolding completed
  set_apart os = rw (sort_is _ _ _ (buffer_defined home p), operands_are _ _ _ (buffer_defined home p), set_marked home p, binding_marked home p) refl

  not_complete : (place : ℕ) (op : Op) (os : List ℕ) → is_decoration op ≡ false → completed c place (ins op os) ≡ None
  unfolding completed
  not_complete place Decorate os h = absurd cc
  not_complete place op os h = refl

  pub array_alone : (before : List Instruction) (place : ℕ) (os : List ℕ) → clashes c before place (ins Decorate (a home p ∷ os)) ≡ false
  unfolding clashes
  array_alone before place os = rw (array_apart place os) refl

  pub wrapper_alone : (before : List Instruction) (place : ℕ) (os : List ℕ) → clashes c before place (ins Decorate ((a home p + 1) ∷ os)) ≡ false
  unfolding clashes
  wrapper_alone before place os = rw (wrapper_apart place os) refl

  pub input_alone : (before : List Instruction) (place : ℕ) (os : List ℕ) → clashes c before place (ins Decorate ((b home p + 1) ∷ os)) ≡ false
  unfolding clashes
  input_alone before place os = rw (input_apart place os) refl

  pub set_alone : (before : List Instruction) (os : List ℕ) → clashes c before 9 (ins Decorate (b home p ∷ os)) ≡ false
  unfolding clashes
  set_alone before os = rw (set_apart os) refl

  pub plain_alone : (before : List Instruction) (place : ℕ) (op : Op) (os : List ℕ) → is_decoration op ≡ false → clashes c before place (ins op os) ≡ false
  unfolding clashes
  plain_alone before place op os h = rw (not_complete place op os h) refl

  none_taken : (pair : ℕ × ℕ) → is_taken c (take 10 c) 0 pair ≡ false
  none_taken pair =
      rw (
        not_complete 0 _ _ refl,
        not_complete 1 _ _ refl,
        not_complete 2 _ _ refl,
        not_complete 3 _ _ refl,
        not_complete 4 _ _ refl,
        not_complete 5 _ _ refl,
        array_apart 6 _,
        wrapper_apart 7 _,
        not_complete 8 _ _ refl,
        set_apart _,
      ) refl

  pub binding_alone : (os : List ℕ) → clashes c (take 10 c) 10 (ins Decorate (b home p ∷ os)) ≡ false
  unfolding clashes
  binding_alone os = by_pair (completed c 10 (ins Decorate (b home p ∷ os)))
    where
      by_pair : (o : Option (ℕ × ℕ)) → taken_in (is_taken c (take 10 c) 0) o ≡ false
      by_pair None = refl
      by_pair (Some pair) = none_taken pair
