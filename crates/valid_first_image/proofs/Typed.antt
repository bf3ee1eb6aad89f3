-- Every instruction of a shader's image meets the rule on types of its opcode.
use Rattle.std.proofs.Common.{◌≡◌, ℕ, suc, ◌+◌, inl, inr, true, false, not, ◌||◌, List, [], ◌∷◌, ◌++◌, length, drop, take, Some, None, refl, sym, ap, ◌∙◌, subst, arith}
use Rattle.std.specs.Prelude.{is_some, slice_index}
use Rattle.std.proofs.lemmas.Option.{slice_get_cases}
use Rattle.spirv_words.specs.declared.opcodes.Op.{Op}
use Rattle.spirv_words.specs.declared.opcodes.Op.TheVariants.{Constant, Variable, Load, Store, AccessChain, IAdd}
use Rattle.spirv_words.specs.declared.images.Instruction.{Instruction}
use Rattle.spirv_words.specs.Machine.{if_some}
use Rattle.first_form.specs.declared.shader.Shader.{Shader}
use Rattle.first_image.specs.Templates.{ins, Tables}
use Rattle.first_image.specs.Sections.{beginning, plain_types, constants_code}
use Rattle.first_image.specs.Image.{preamble, tables}
use Rattle.first_image.specs.Emitted.{entry_end}
use Rattle.image_places.specs.Places.{FaultAt}
use Rattle.image_lookup.specs.Sorts.{sort_of, is_value_sort}
use Rattle.image_lookup.specs.Lookups.{operand, is_value}
use Rattle.image_declarations.specs.Decorations.{mark, member_mark, literal_of}
use Rattle.image_declarations.specs.Holdings.{is_wrapper}
use Rattle.image_operands.specs.Operators.{is_bool_sort, is_int_sort, is_bool, is_int}
use Rattle.image_operands.specs.Memory.{is_wrapping, part_at}
use Rattle.image_operands.specs.Marks.{clashes}
use Rattle.image_types.specs.declared.functions.Context.{Context}
use Rattle.image_types.specs.Functions.{outside, is_void_sort, is_void, return_fits}
use Rattle.image_types.specs.Parts.{is_type_sort, is_type}
use Rattle.image_types.specs.Rules.{rule_of}
use Rattle.image_types.specs.Checking.{meets, fits, context_at, is_wrong, has_wrong_types}
use Rattle.valid_first_image.proofs.Walks.{AllAt, all_on, all_get}
use Rattle.valid_first_image.proofs.Ordered.{not_both}
use Rattle.valid_first_image.proofs.Sections.{ks, a, n, b, e, code, body, after_constants, after_place, body_place}
use Rattle.valid_first_image.proofs.Definitions.{Def, opening, inner, constant_defined, void_defined, bool_defined, int_defined, uint_defined, int2_defined, int3_defined, int4_defined, uint2_defined, uint3_defined, uint4_defined, array_defined, wrapper_defined, word_pointer_defined, triple_pointer_defined, cell_pointer_defined, input_pointer_defined, wrapper_pointer_defined, entry_type_defined, buffer_defined, input_defined, local_defined, parameter_defined, outside_context, within, inner_context, end_context}
use Rattle.valid_first_image.proofs.Forms.{used, IsValue, Form, component, loading, adding, cell, storing, body_forms}
use Rattle.valid_first_image.proofs.Fitting.{Points, vector_ok, pointer_ok, function_type_ok, runtime_array_ok, struct_ok, wrapping_ok, buffer_ok, input_ok, local_ok, function_ok, load_ok, store_ok, component_ok, element_ok, member_ok, chain_ok, sum_ok}
use Rattle.valid_first_image.proofs.Facts.{wrapper_ok, bool_data, int_data, uint_data, int2_data, int3_data, int4_data, uint2_data, uint3_data, uint4_data, array_unbounded}
use Rattle.valid_first_image.proofs.Marked.{stride_marked, offset_marked, set_marked, binding_marked, built_in_marked}
use Rattle.valid_first_image.proofs.Decorated as decorated
use Rattle.valid_first_image.proofs.Decorated.{is_decoration, sort_is, operands_are, points}

module _ (home : List ℕ) (p : Shader) where
  abbrev c : List Instruction
  c = code home p

  -- ---- what ids stand for

  void_is : is_void c 1 ≡ true
  void_is = ap is_void_sort (sort_is home p _ _ _ (void_defined home p))

  bool_is : is_bool c 2 ≡ true
  bool_is = ap is_bool_sort (sort_is home p _ _ _ (bool_defined home p))

  int_is : is_int c 3 ≡ true
  int_is = ap is_int_sort (sort_is home p _ _ _ (int_defined home p))

  uint_is : is_int c 4 ≡ true
  uint_is = ap is_int_sort (sort_is home p _ _ _ (uint_defined home p))

  type_is : (x q : ℕ) (i : Instruction) → Def home p x q i → is_type_sort (sort_of i.op) ≡ true → is_type c x ≡ true
  type_is x q i d h = ap is_type_sort (sort_is home p x q i d) ∙ h

  value_is : (x q : ℕ) (i : Instruction) → Def home p x q i → is_value_sort (sort_of i.op) ≡ true → is_value c x ≡ true
  value_is x q i d h = ap is_value_sort (sort_is home p x q i d) ∙ h

  first_is : (x q : ℕ) (i : Instruction) → Def home p x q i → operand c x 0 ≡ slice_index i.operands 0
  first_is x q i d = ap (λ os. slice_index os 0) (operands_are home p x q i d)

  word_pointer : Points c (n home p + 2) 7 4
  word_pointer = points home p _ _ _ _ (word_pointer_defined home p)

  triple_pointer : Points c (n home p + 7) 7 9
  triple_pointer = points home p _ _ _ _ (triple_pointer_defined home p)

  cell_pointer : Points c (n home p + 10) 12 4
  cell_pointer = points home p _ _ _ _ (cell_pointer_defined home p)

  input_pointer : Points c (n home p + 13) 1 9
  input_pointer = points home p _ _ _ _ (input_pointer_defined home p)

  wrapper_pointer : Points c (n home p + 15) 12 (a home p + 1)
  wrapper_pointer = points home p _ _ _ _ (wrapper_pointer_defined home p)

  array_marked : is_some (mark c 0 (a home p) 6) ≡ true
  array_marked = ap is_some (stride_marked home p)

  member_marked : is_some (member_mark c 0 (a home p + 1) 0) ≡ true
  member_marked = ap is_some (offset_marked home p)

  wrapper_is : is_wrapper c (a home p + 1) ≡ true
  wrapper_is = wrapper_ok c (after_place home p + 28) (a home p + 1) (n home p + 15) (b home p) (buffer_defined home p).stands wrapper_pointer

  wrapping_is : is_wrapping c (a home p + 1) ≡ true
  wrapping_is =
      wrapping_ok c (a home p + 1) (a home p) (sort_is home p _ _ _ (wrapper_defined home p)) (operands_are home p _ _ _ (wrapper_defined home p)) (sort_is home p _ _ _ (array_defined home p))
      (ap literal_of (offset_marked home p))

  -- ---- instructions with right types

  pub record Right (h : ℕ) (i : Instruction) : Type 0 where
    pub fine : is_wrong c h i ≡ false

  right : (h : ℕ) (i : Instruction) → clashes c (take h c) h i ≡ false → meets (rule_of i.op) c (context_at c h) h i (drop (suc h) c) ≡ true → Right h i
  unfolding fits
  right h i alone m = record { fine = ap (λ x. x || not (fits c (context_at c h) h i (drop (suc h) c))) alone ∙ ap not m }

  plain : (h : ℕ) (op : Op) (os : List ℕ) → is_decoration op ≡ false → meets (rule_of op) c (context_at c h) h (ins op os) (drop (suc h) c) ≡ true → Right h (ins op os)
  plain h op os d m = right h (ins op os) (decorated.plain_alone home p (take h c) h op os d) m

  -- ---- in front of the statements

  preamble_right : AllAt Right 2 (preamble home p)
  preamble_right = (
    plain _ _ _ refl (decorated.entry_ok home p _),
    (
      plain _ _ _ refl (decorated.mode_ok home p _),
      (
        plain _ _ _ refl refl,
        (
          plain _ _ _ refl refl,
          (
            right 6 _ (decorated.array_alone home p _ _ _) (decorated.array_mark_ok home p),
            (
              right 7 _ (decorated.wrapper_alone home p _ _ _) (decorated.block_mark_ok home p),
              (
                plain 8 _ _ refl (decorated.member_ok home p),
                (
                  right 9 _ (decorated.set_alone home p _ _) (decorated.set_ok home p),
                  (
                    right 10 _ (decorated.binding_alone home p _) (decorated.binding_ok home p),
                    (
                      right 11 _ (decorated.input_alone home p _ _ _) (decorated.built_in_ok home p),
                      tt,
                    ),
                  ),
                ),
              ),
            ),
          ),
        ),
      ),
    ),
  )

  plain_types_right : AllAt Right 12 plain_types
  plain_types_right = (
    plain _ _ _ refl (refl),
    (
      plain _ _ _ refl (refl),
      (
        plain _ _ _ refl (refl),
        (
          plain _ _ _ refl (refl),
          (
            plain _ _ _ refl (vector_ok c _ 3 _ int_is),
            (
              plain _ _ _ refl (vector_ok c _ 3 _ int_is),
              (
                plain _ _ _ refl (vector_ok c _ 3 _ int_is),
                (
                  plain _ _ _ refl (vector_ok c _ 4 _ uint_is),
                  (
                    plain _ _ _ refl (vector_ok c _ 4 _ uint_is),
                    (
                      plain _ _ _ refl (vector_ok c _ 4 _ uint_is),
                      (
                        plain _ _ _ refl (bool_is),
                        (
                          plain _ _ _ refl (bool_is),
                          tt,
                        ),
                      ),
                    ),
                  ),
                ),
              ),
            ),
          ),
        ),
      ),
    ),
  )

  constants_right : (ks : List ℕ) (h id : ℕ) → AllAt Right h (constants_code id ks)
  constants_right [] h id = tt
  constants_right (k ∷ ks) h id = (plain h Constant (4 ∷ id ∷ k ∷ []) refl uint_is, constants_right ks (h + 1) (id + 1))

  -- the variables outside of functions, by their numbers
  buffer_right : (h : ℕ) → after_place home p + 28 ≡ h → Right h (ins Variable ((n home p + 15) ∷ b home p ∷ 12 ∷ []))
  buffer_right h z =
      let o : context_at c h ≡ outside = ap (context_at c) (sym z) ∙ outside_context home p 28 _ refl in
      plain h Variable _ refl
      (buffer_ok c (b home p) (n home p + 15) (a home p + 1) (context_at c h) (ap (λ (x : Context). x.inside) o) wrapper_pointer (ap is_some (set_marked home p)) (ap is_some (binding_marked home p)) wrapping_is)

  input_right : (h : ℕ) → after_place home p + 29 ≡ h → Right h (ins Variable ((n home p + 13) ∷ (b home p + 1) ∷ 1 ∷ []))
  input_right h z =
      let o : context_at c h ≡ outside = ap (context_at c) (sym z) ∙ outside_context home p 29 _ refl in
      plain h Variable _ refl
      (input_ok c (b home p + 1) (n home p + 13) 9 (context_at c h) (ap (λ (x : Context). x.inside) o) input_pointer (ap is_some (built_in_marked home p)))

  opening_right : AllAt Right (after_place home p) (opening home p)
  opening_right = (
    plain _ _ _ refl (runtime_array_ok c (a home p) 4 (uint_data home p) array_marked),
    (
      plain _ _ _ refl (struct_ok c (a home p + 1) (a home p) wrapper_is (array_unbounded home p) member_marked),
      (
        plain _ _ _ refl (pointer_ok c _ _ 2 (type_is _ _ _ (bool_defined home p) refl)),
        (
          plain _ _ _ refl (pointer_ok c _ _ 3 (type_is _ _ _ (int_defined home p) refl)),
          (
            plain _ _ _ refl (pointer_ok c _ _ 4 (type_is _ _ _ (uint_defined home p) refl)),
            (
              plain _ _ _ refl (pointer_ok c _ _ 5 (type_is _ _ _ (int2_defined home p) refl)),
              (
                plain _ _ _ refl (pointer_ok c _ _ 6 (type_is _ _ _ (int3_defined home p) refl)),
                (
                  plain _ _ _ refl (pointer_ok c _ _ 7 (type_is _ _ _ (int4_defined home p) refl)),
                  (
                    plain _ _ _ refl (pointer_ok c _ _ 8 (type_is _ _ _ (uint2_defined home p) refl)),
                    (
                      plain _ _ _ refl (pointer_ok c _ _ 9 (type_is _ _ _ (uint3_defined home p) refl)),
                      (
                        plain _ _ _ refl (pointer_ok c _ _ 10 (type_is _ _ _ (uint4_defined home p) refl)),
                        (
                          plain _ _ _ refl (pointer_ok c _ _ 3 (type_is _ _ _ (int_defined home p) refl)),
                          (
                            plain _ _ _ refl (pointer_ok c _ _ 4 (type_is _ _ _ (uint_defined home p) refl)),
                            (
                              plain _ _ _ refl (pointer_ok c _ _ 3 (type_is _ _ _ (int_defined home p) refl)),
                              (
                                plain _ _ _ refl (pointer_ok c _ _ 4 (type_is _ _ _ (uint_defined home p) refl)),
                                (
                                  plain _ _ _ refl (pointer_ok c _ _ 9 (type_is _ _ _ (uint3_defined home p) refl)),
                                  (
                                    plain _ _ _ refl (pointer_ok c _ _ 4 (type_is _ _ _ (uint_defined home p) refl)),
                                    (
                                      plain _ _ _ refl (pointer_ok c _ _ (a home p + 1) (type_is _ _ _ (wrapper_defined home p) refl)),
                                      (
                                        plain _ _ _ refl (function_type_ok c _ 1 void_is),
                                        (
                                          plain _ _ _ refl (bool_data home p),
                                          (
                                            plain _ _ _ refl (int_data home p),
                                            (
                                              plain _ _ _ refl (uint_data home p),
                                              (
                                                plain _ _ _ refl (int2_data home p),
                                                (
                                                  plain _ _ _ refl (int3_data home p),
                                                  (
                                                    plain _ _ _ refl (int4_data home p),
                                                    (
                                                      plain _ _ _ refl (uint2_data home p),
                                                      (
                                                        plain _ _ _ refl (uint3_data home p),
                                                        (
                                                          plain _ _ _ refl (uint4_data home p),
                                                          (
                                                            buffer_right _ (omega arith),
                                                            (
                                                              input_right _ (omega arith),
                                                              (
                                                                plain _ _ _ refl (function_ok c _ (n home p + 16) 1 _ (sort_is home p _ _ _ (entry_type_defined home p)) (operands_are home p _ _ _ (entry_type_defined home p))),
                                                                (
                                                                  plain _ _ _ refl (refl),
                                                                  tt,
                                                                ),
                                                              ),
                                                            ),
                                                          ),
                                                        ),
                                                      ),
                                                    ),
                                                  ),
                                                ),
                                              ),
                                            ),
                                          ),
                                        ),
                                      ),
                                    ),
                                  ),
                                ),
                              ),
                            ),
                          ),
                        ),
                      ),
                    ),
                  ),
                ),
              ),
            ),
          ),
        ),
      ),
    ),
  )

  inner_right : AllAt Right (after_place home p + 32) (inner home p)
  inner_right = (
    plain _ _ _ refl (local_ok c _ (n home p + 7) 9 _ (ap (λ (x : Context). x.inside) (inner_context home p)) triple_pointer (uint3_data home p)),
    (
      plain _ _ _ refl (load_ok c 9 _ (b home p + 1) (n home p + 13) 1 (value_is _ _ _ (input_defined home p) refl) (first_is _ _ _ (input_defined home p)) input_pointer (uint3_data home p)),
      (
        plain _ _ _ refl (store_ok c (e home p + 2) (e home p + 3) (n home p + 7) 7 9 (value_is _ _ _ (local_defined home p) refl) (first_is _ _ _ (local_defined home p)) triple_pointer
            (value_is _ _ _ (parameter_defined home p) refl) (first_is _ _ _ (parameter_defined home p)) (uint3_data home p)),
        tt,
      ),
    ),
  )

  -- ---- the statements

  abbrev t : Tables
  t = tables p

  -- the local that the statements read
  read_local : Def home p (t.pointer 0) (after_place home p + 32) (ins Variable ((n home p + 7) ∷ (e home p + 2) ∷ 7 ∷ []))
  read_local = let z : e home p + 2 ≡ t.pointer 0 = omega arith in subst (λ x. Def home p x (after_place home p + 32) (ins Variable ((n home p + 7) ∷ (e home p + 2) ∷ 7 ∷ []))) z (local_defined home p)

  is_a_value : (h x type : ℕ) → IsValue home p h x type → is_value c x ≡ true
  is_a_value h x type v = value_is x v.place v.by v.is_defined v.value

  has_first : (h x type : ℕ) → IsValue home p h x type → operand c x 0 ≡ type
  has_first h x type v = first_is x v.place v.by v.is_defined ∙ v.typed

  zero_value : used home p 0 → is_value c (t.constant 0) ≡ true
  zero_value u = value_is _ _ _ (constant_defined home p 0 u) refl

  zero_int : used home p 0 → is_int c (operand c (t.constant 0) 0) ≡ true
  zero_int u = ap (is_int c) (first_is _ _ _ (constant_defined home p 0 u)) ∙ uint_is

  component_part : used home p 0 → part_at c 9 (t.constant 0) ≡ Some 4
  component_part u =
      component_ok c 4 9 (t.constant 0) (sort_is home p _ _ _ (uint3_defined home p)) (ap (λ os. slice_index os 1) (operands_are home p _ _ _ (uint3_defined home p))) (zero_value u) (zero_int u)

  member_part : used home p 0 → part_at c (a home p + 1) (t.constant 0) ≡ Some (a home p)
  member_part u =
      member_ok c (a home p) (a home p + 1) (t.constant 0) (sort_is home p _ _ _ (wrapper_defined home p)) (operands_are home p _ _ _ (wrapper_defined home p))
      (sort_is home p _ _ _ (constant_defined home p 0 u)) (ap (λ os. slice_index os 2) (operands_are home p _ _ _ (constant_defined home p 0 u))) (zero_int u)

  element_part : (h x : ℕ) → IsValue home p h x 4 → part_at c (a home p) x ≡ Some 4
  element_part h x v =
      element_ok c 4 (a home p) x (sort_is home p _ _ _ (array_defined home p)) (ap (λ os. slice_index os 1) (operands_are home p _ _ _ (array_defined home p)))
      (is_a_value h x 4 v) (ap (is_int c) (has_first h x 4 v) ∙ uint_is)

  form_right : (h : ℕ) (i : Instruction) → Form home p h i → Right h i
  form_right h i (component id s u) =
      subst (Right h) (sym s)
      (plain h AccessChain _ refl
      (chain_ok c (n home p + 2) id (t.pointer 0) (n home p + 7) 7 9 4 (t.constant 0 ∷ []) (value_is _ _ _ read_local refl) (first_is _ _ _ read_local) triple_pointer word_pointer
      (ap (λ o. if_some o None (λ part. Some part)) (component_part u))))
  form_right h i (loading id q s v) =
      subst (Right h) (sym s) (plain h Load _ refl (load_ok c 4 id q (n home p + 2) 7 (is_a_value h q _ v) (has_first h q _ v) word_pointer (uint_data home p)))
  form_right h i (adding id l r s v w) =
      subst (Right h) (sym s) (plain h IAdd _ refl (sum_ok c 4 id l r (sort_is home p _ _ _ (uint_defined home p)) (is_a_value h l _ v) (has_first h l _ v) (is_a_value h r _ w) (has_first h r _ w)))
  form_right h i (cell id x s u v) =
      subst (Right h) (sym s)
      (plain h AccessChain _ refl
      (chain_ok c (n home p + 10) id (b home p) (n home p + 15) 12 (a home p + 1) 4 (t.constant 0 ∷ x ∷ []) (value_is _ _ _ (buffer_defined home p) refl) (first_is _ _ _ (buffer_defined home p))
      wrapper_pointer cell_pointer
      (ap (λ o. if_some o None (λ part. if_some (part_at c part x) None (λ part. Some part))) (member_part u) ∙ ap (λ o. if_some o None (λ part. Some part)) (element_part h x v))))
  form_right h i (storing q x s v w) =
      subst (Right h) (sym s)
      (plain h Store _ refl (store_ok c q x (n home p + 10) 12 4 (is_a_value h q _ v) (has_first h q _ v) cell_pointer (is_a_value h x _ w) (has_first h x _ w) uint_is))

  forms_right : (is : List Instruction) (h : ℕ) → AllAt (Form home p) h is → AllAt Right h is
  forms_right [] h f = tt
  forms_right (i ∷ is) h f = (form_right h i f.0, forms_right is (h + 1) f.1)

  returns_nothing : (context : Context) → context ≡ within home p → return_fits c context ≡ true
  unfolding return_fits
  returns_nothing context s = ap (λ (x : Context). is_void c x.result_type) s ∙ void_is

  end_right : AllAt Right (body_place home p + length (body home p).instructions) entry_end
  end_right = (plain _ _ _ refl (returns_nothing _ (end_context home p)), (plain _ _ _ refl refl, tt))

  -- ---- the whole image

  after_constants_right : AllAt Right (after_place home p) (after_constants home p)
  after_constants_right =
      let z : body_place home p ≡ after_place home p + 32 + 3 = omega arith in
      let rest = (body home p).instructions ++ entry_end in
      let body_right = all_on Right (body home p).instructions entry_end (body_place home p) (forms_right (body home p).instructions (body_place home p) (body_forms home p)) end_right in
      all_on Right (opening home p) (inner home p ++ rest) (after_place home p) opening_right
      (all_on Right (inner home p) rest (after_place home p + 32) inner_right (subst (λ h. AllAt Right h rest) z body_right))

  code_right : AllAt Right 0 c
  code_right =
      all_on Right beginning (preamble home p ++ (plain_types ++ (constants_code 13 (ks home p) ++ after_constants home p))) 0 (plain _ _ _ refl refl, (plain _ _ _ refl refl, tt))
      (all_on Right (preamble home p) (plain_types ++ (constants_code 13 (ks home p) ++ after_constants home p)) 2 preamble_right
      (all_on Right plain_types (constants_code 13 (ks home p) ++ after_constants home p) 12 plain_types_right
      (all_on Right (constants_code 13 (ks home p)) (after_constants home p) 24 (constants_right (ks home p) 24 13) after_constants_right)))

  types_right : (h : ℕ) → has_wrong_types c h ≡ false
  unfolding has_wrong_types
  types_right h = elim (slice_get_cases c h).1 [
    | inl at ↦ (let z : 0 + h ≡ h = omega arith in ap (λ o. if_some o false (is_wrong c h)) at.2 ∙ (subst (λ h. Right h at.0) z (all_get Right c 0 h at.0 code_right at.2)).fine)
    | inr at ↦ ap (λ o. if_some o false (is_wrong c h)) at.1
  ]

  pub types_fit : (place : ℕ) → FaultAt c (has_wrong_types c) place → ⊥
  types_fit place f = not_both (has_wrong_types c f.number) (types_right f.number) f.is_wrong
