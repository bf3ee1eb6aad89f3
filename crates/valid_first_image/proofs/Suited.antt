-- No operand of a shader's image is a wrong id: each is an id that is defined before it, or a literal.
use Rattle.std.proofs.Common.{lit<, ◌^◌, ◌≡◌, ℕ, true, ◌+◌, ◌<◌, ◌≤◌, List, [], ◌∷◌, ◌++◌, Some, refl, sym, subst, arith}
use Rattle.std.specs.Prelude.{slice_get}
use Rattle.spirv_words.specs.declared.images.Instruction.{Instruction}
use Rattle.spirv_words.specs.Strings.{IsText}
use Rattle.first_form.specs.declared.shader.Shader.{Shader}
use Rattle.first_image.specs.Templates.{Tables}
use Rattle.first_image.specs.Sections.{beginning, plain_types, constants_code}
use Rattle.first_image.specs.Image.{preamble, tables}
use Rattle.first_image.specs.Emitted.{entry_end}
use Rattle.image_rules.specs.Ids.{WrongId}
use Rattle.valid_first_image.proofs.Walks.{AllAt, all_on, all_get}
use Rattle.valid_first_image.proofs.Ordered.{not_both}
use Rattle.valid_first_image.proofs.Named.{Placed, is_fixed, mentioned, Suiting, ids_right}
use Rattle.valid_first_image.proofs.Texts.{strings_small, entry_suits, name_suits}
use Rattle.valid_first_image.proofs.Small.{constants_small}
use Rattle.first_form.specs.Shaders.{IsShader}
use Rattle.first_image.proofs.SpelledImages.{free_name}
use Rattle.std.specs.List.{AllByRecursion}
use Rattle.valid_first_image.proofs.Sections.{ks, b, e, code, body, after_constants, after_place, body_place, code_numbered}
use Rattle.valid_first_image.proofs.Definitions.{image, Def, Uses, Inside, At, inner, opening, inner_at, body_at, uses_type, uses_inside, uses_buffer, uses_input, constant_defined, constant_before, void_defined, bool_defined, int_defined, uint_defined, int2_defined, int3_defined, int4_defined, uint2_defined, uint3_defined, uint4_defined, array_defined, wrapper_defined, word_pointer_defined, triple_pointer_defined, cell_pointer_defined, input_pointer_defined, wrapper_pointer_defined, entry_type_defined, buffer_defined, input_defined, entry_defined, local_defined, parameter_defined}
use Rattle.valid_first_image.proofs.Forms.{used, IsValue, Form, component, loading, adding, cell, storing, body_forms}

text_joined : (a b : List ℕ) → IsText a → IsText b → IsText (a ++ b)
text_joined [] b p q = q
text_joined (x ∷ a) b p q = (p.0, p.1, text_joined a b p.2 q)

module _ (home : List ℕ) (p : Shader) where
  -- the operands of an instruction suit their roles
  abbrev pub Suits : ℕ → Instruction → Type 0
  Suits h i = Suiting (image home p) (code_numbered home p) h i 0 i.operands

  abbrev Named : ℕ → Type 0
  Named x = Placed (image home p) (code_numbered home p) x

  type : (h x q : ℕ) (i : Instruction) → Def home p x q i → is_fixed i.op ≡ true → q < h → Uses home p h x
  type = uses_type home p

  named : (x q : ℕ) (i : Instruction) → Def home p x q i → Named x
  named = mentioned (image home p) (code_numbered home p)

  local_used : (h : ℕ) → Inside home p h → after_place home p + 32 < h → Uses home p h (e home p + 2)
  local_used h u lt = uses_inside home p h _ _ _ (local_defined home p) (inner_at home p).0.1 u lt

  parameter_used : (h : ℕ) → Inside home p h → after_place home p + 33 < h → Uses home p h (e home p + 3)
  parameter_used h u lt =
      let z : after_place home p + 32 + 1 ≡ after_place home p + 33 = omega arith in
      uses_inside home p h _ _ _ (parameter_defined home p) (subst (Inside home p) z (inner_at home p).1.0.1) u lt

  -- ---- in front of the statements

  preamble_suits : IsText home → IsShader p → AllAt Suits 2 (preamble home p)
  preamble_suits text shader =
      let g = shader.group in
      let entry_text = (free_name p.entry shader.entry).0 in
      let buffer_text = (free_name p.buffer shader.buffer).0 in
      let array = named _ _ _ (array_defined home p) in
      let wrapper = named _ _ _ (wrapper_defined home p) in
      let buffer = named _ _ _ (buffer_defined home p) in
      let input = named _ _ _ (input_defined home p) in
      let entry = named _ _ _ (entry_defined home p) in (
        entry_suits (image home p) (code_numbered home p) 2 (e home p) (b home p) p.entry entry_text entry buffer input,
        (
          (entry, (lit< tt, (omega (arith, g.most_x), (omega (arith, g.most_y), (omega (arith, g.most_z), tt))))),
          (
            name_suits (image home p) (code_numbered home p) _ (b home p) _ (strings_small _ (text_joined home (46 ∷ p.buffer) text (lit< tt, lit< tt, buffer_text))) buffer,
            (
              name_suits (image home p) (code_numbered home p) _ (e home p) _ (strings_small _ (text_joined home (46 ∷ p.entry) text (lit< tt, lit< tt, entry_text))) entry,
              (
                (array, (lit< tt, (lit< tt, tt))),
                (
                  (wrapper, (lit< tt, tt)),
                  (
                    (wrapper, (lit< tt, (lit< tt, (lit< tt, tt)))),
                    (
                      (buffer, (lit< tt, (lit< tt, tt))),
                      (
                        (buffer, (lit< tt, (lit< tt, tt))),
                        (
                          (input, (lit< tt, (lit< tt, tt))),
                          tt,
                        ),
                      ),
                    ),
                  ),
                ),
              ),
            ),
          ),
        ),
      )

  plain_types_suit : AllAt Suits 12 plain_types
  plain_types_suit = (
    (refl, tt),
    (
      (refl, tt),
      (
        (refl, (lit< tt, (lit< tt, tt))),
        (
          (refl, (lit< tt, (lit< tt, tt))),
          (
            (refl, (type _ _ _ _ (int_defined home p) refl (omega arith), (lit< tt, tt))),
            (
              (refl, (type _ _ _ _ (int_defined home p) refl (omega arith), (lit< tt, tt))),
              (
                (refl, (type _ _ _ _ (int_defined home p) refl (omega arith), (lit< tt, tt))),
                (
                  (refl, (type _ _ _ _ (uint_defined home p) refl (omega arith), (lit< tt, tt))),
                  (
                    (refl, (type _ _ _ _ (uint_defined home p) refl (omega arith), (lit< tt, tt))),
                    (
                      (refl, (type _ _ _ _ (uint_defined home p) refl (omega arith), (lit< tt, tt))),
                      (
                        (type _ _ _ _ (bool_defined home p) refl (omega arith), (refl, tt)),
                        (
                          (type _ _ _ _ (bool_defined home p) refl (omega arith), (refl, tt)),
                          tt,
                        ),
                      ),
                    ),
                  ),
                ),
              ),
            ),
          ),
        ),
      ),
    ),
  )

  constants_suit : (ks : List ℕ) (h id : ℕ) → AllByRecursion (λ c. c < 2 ^ 32) ks → 24 ≤ h → AllAt Suits h (constants_code id ks)
  constants_suit [] h id small le = tt
  constants_suit (c ∷ ks) h id small le = ((type _ _ _ _ (uint_defined home p) refl (omega arith), (refl, (small.0, tt))), constants_suit ks (h + 1) (id + 1) small.1 (omega arith))

  before_entry_suits : AllAt Suits (after_place home p) (opening home p)
  before_entry_suits = (
    (refl, (type _ _ _ _ (uint_defined home p) refl (omega arith), tt)),
    (
      (refl, (type _ _ _ _ (array_defined home p) refl (omega arith), tt)),
      (
        (refl, (lit< tt, (type _ _ _ _ (bool_defined home p) refl (omega arith), tt))),
        (
          (refl, (lit< tt, (type _ _ _ _ (int_defined home p) refl (omega arith), tt))),
          (
            (refl, (lit< tt, (type _ _ _ _ (uint_defined home p) refl (omega arith), tt))),
            (
              (refl, (lit< tt, (type _ _ _ _ (int2_defined home p) refl (omega arith), tt))),
              (
                (refl, (lit< tt, (type _ _ _ _ (int3_defined home p) refl (omega arith), tt))),
                (
                  (refl, (lit< tt, (type _ _ _ _ (int4_defined home p) refl (omega arith), tt))),
                  (
                    (refl, (lit< tt, (type _ _ _ _ (uint2_defined home p) refl (omega arith), tt))),
                    (
                      (refl, (lit< tt, (type _ _ _ _ (uint3_defined home p) refl (omega arith), tt))),
                      (
                        (refl, (lit< tt, (type _ _ _ _ (uint4_defined home p) refl (omega arith), tt))),
                        (
                          (refl, (lit< tt, (type _ _ _ _ (int_defined home p) refl (omega arith), tt))),
                          (
                            (refl, (lit< tt, (type _ _ _ _ (uint_defined home p) refl (omega arith), tt))),
                            (
                              (refl, (lit< tt, (type _ _ _ _ (int_defined home p) refl (omega arith), tt))),
                              (
                                (refl, (lit< tt, (type _ _ _ _ (uint_defined home p) refl (omega arith), tt))),
                                (
                                  (refl, (lit< tt, (type _ _ _ _ (uint3_defined home p) refl (omega arith), tt))),
                                  (
                                    (refl, (lit< tt, (type _ _ _ _ (uint_defined home p) refl (omega arith), tt))),
                                    (
                                      (refl, (lit< tt, (type _ _ _ _ (wrapper_defined home p) refl (omega arith), tt))),
                                      (
                                        (refl, (type _ _ _ _ (void_defined home p) refl (omega arith), tt)),
                                        (
                                          (type _ _ _ _ (bool_defined home p) refl (omega arith), (refl, tt)),
                                          (
                                            (type _ _ _ _ (int_defined home p) refl (omega arith), (refl, tt)),
                                            (
                                              (type _ _ _ _ (uint_defined home p) refl (omega arith), (refl, tt)),
                                              (
                                                (type _ _ _ _ (int2_defined home p) refl (omega arith), (refl, tt)),
                                                (
                                                  (type _ _ _ _ (int3_defined home p) refl (omega arith), (refl, tt)),
                                                  (
                                                    (type _ _ _ _ (int4_defined home p) refl (omega arith), (refl, tt)),
                                                    (
                                                      (type _ _ _ _ (uint2_defined home p) refl (omega arith), (refl, tt)),
                                                      (
                                                        (type _ _ _ _ (uint3_defined home p) refl (omega arith), (refl, tt)),
                                                        (
                                                          (type _ _ _ _ (uint4_defined home p) refl (omega arith), (refl, tt)),
                                                          (
                                                            (type _ _ _ _ (wrapper_pointer_defined home p) refl (omega arith), (refl, (lit< tt, tt))),
                                                            (
                                                              (type _ _ _ _ (input_pointer_defined home p) refl (omega arith), (refl, (lit< tt, tt))),
                                                              (
                                                                (type _ _ _ _ (void_defined home p) refl (omega arith), (refl, (lit< tt, (type _ _ _ _ (entry_type_defined home p) refl (omega arith), tt)))),
                                                                (
                                                                  (refl, tt),
                                                                  tt,
                                                                ),
                                                              ),
                                                            ),
                                                          ),
                                                        ),
                                                      ),
                                                    ),
                                                  ),
                                                ),
                                              ),
                                            ),
                                          ),
                                        ),
                                      ),
                                    ),
                                  ),
                                ),
                              ),
                            ),
                          ),
                        ),
                      ),
                    ),
                  ),
                ),
              ),
            ),
          ),
        ),
      ),
    ),
  )

  inner_suits : AllAt Suits (after_place home p + 32) (inner home p)
  inner_suits = (
    (type _ _ _ _ (triple_pointer_defined home p) refl (omega arith), (refl, (lit< tt, tt))),
    (
      (type _ _ _ _ (uint3_defined home p) refl (omega arith), (refl, (uses_input home p _, tt))),
      (
        (local_used _ (inner_at home p).1.1.0.1 (omega arith), (parameter_used _ (inner_at home p).1.1.0.1 (omega arith), tt)),
        tt,
      ),
    ),
  )

  -- ---- the statements

  abbrev t : Tables
  t = tables p

  pointer_0 : t.pointer 0 ≡ e home p + 2
  pointer_0 = omega arith

  constant_used : (h c : ℕ) → used home p c → after_place home p ≤ h → Uses home p h (t.constant c)
  constant_used h c u le = uses_type home p h _ _ _ (constant_defined home p c u) refl (omega (arith, constant_before home p c u))

  value_used : (h x type : ℕ) → Inside home p h → IsValue home p h x type → Uses home p h x
  value_used h x type u v = v.usable h u v.before

  form_suits : (h : ℕ) (i : Instruction) → body_place home p ≤ h → (slice_get (code home p) h ≡ Some i) × Inside home p h → Form home p h i → Suits h i
  form_suits h i le at (component id s u) =
      subst (Suits h) (sym s)
      (type _ _ _ _ (word_pointer_defined home p) refl (omega arith), (refl, (subst (Uses home p h) (sym pointer_0) (local_used h at.1 (omega arith)), (constant_used h 0 u (omega arith), tt))))
  form_suits h i le at (loading id q s v) = subst (Suits h) (sym s) (type _ _ _ _ (uint_defined home p) refl (omega arith), (refl, (value_used h q _ at.1 v, tt)))
  form_suits h i le at (adding id l r s v w) = subst (Suits h) (sym s) (type _ _ _ _ (uint_defined home p) refl (omega arith), (refl, (value_used h l _ at.1 v, (value_used h r _ at.1 w, tt))))
  form_suits h i le at (cell id x s u v) =
      subst (Suits h) (sym s)
      (type _ _ _ _ (cell_pointer_defined home p) refl (omega arith), (refl, (uses_buffer home p h, (constant_used h 0 u (omega arith), (value_used h x _ at.1 v, tt)))))
  form_suits h i le at (storing q x s v w) = subst (Suits h) (sym s) (value_used h q _ at.1 v, (value_used h x _ at.1 w, tt))

  forms_suit : (is : List Instruction) (h : ℕ) → body_place home p ≤ h → At home p h is → AllAt (Form home p) h is → AllAt Suits h is
  forms_suit [] h le at f = tt
  forms_suit (i ∷ is) h le at f = (form_suits h i le at.0 f.0, forms_suit is (h + 1) (omega arith) at.1 f.1)

  -- ---- the whole image

  body_suits : AllAt Suits (body_place home p) ((body home p).instructions ++ entry_end)
  body_suits =
      all_on Suits (body home p).instructions entry_end (body_place home p)
      (forms_suit (body home p).instructions (body_place home p) (omega arith) (body_at home p) (body_forms home p)) (tt, (tt, tt))

  after_constants_suit : AllAt Suits (after_place home p) (after_constants home p)
  after_constants_suit =
      let z : body_place home p ≡ after_place home p + 32 + 3 = omega arith in
      let rest = (body home p).instructions ++ entry_end in
      all_on Suits (opening home p) (inner home p ++ rest) (after_place home p) before_entry_suits
      (all_on Suits (inner home p) rest (after_place home p + 32) inner_suits (subst (λ h. AllAt Suits h rest) z body_suits))

  pub code_suits : IsText home → IsShader p → AllAt Suits 0 (code home p)
  code_suits text shader =
      all_on Suits beginning (preamble home p ++ (plain_types ++ (constants_code 13 (ks home p) ++ after_constants home p))) 0 ((lit< tt, tt), ((lit< tt, (lit< tt, tt)), tt))
      (all_on Suits (preamble home p) (plain_types ++ (constants_code 13 (ks home p) ++ after_constants home p)) 2 (preamble_suits text shader)
      (all_on Suits plain_types (constants_code 13 (ks home p) ++ after_constants home p) 12 plain_types_suit
      (all_on Suits (constants_code 13 (ks home p)) (after_constants home p) 24 (constants_suit (ks home p) 24 13 (constants_small p shader) (omega arith)) after_constants_suit)))

  pub names_nothing_wrong : IsText home → IsShader p → (place : ℕ) → WrongId (image home p) place → ⊥
  names_nothing_wrong text shader place w =
      let z : 0 + w.number ≡ w.number = omega arith in
      let s : Suits w.number w.instruction = subst (λ h. Suits h w.instruction) z (all_get Suits (code home p) 0 w.number w.instruction (code_suits text shader) w.stands) in
      not_both _ (ids_right (image home p) (code_numbered home p) w.number w.instruction w.stands s w.operand w.within) w.is_wrong
