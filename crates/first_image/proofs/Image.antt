-- The image of a shader, section by section: its ids, its decorations, and what the ids that the code names stand for.
use Rattle.std.proofs.Common.{◌≡◌, ℕ, ◌+◌, ◌<◌, Bool, true, false, cond, List, [], ◌∷◌, ◌++◌, length, Some, refl, ap, ◌∙◌, subst, arith}
use Rattle.std.specs.Prelude.{slice_get, nat_eq}
use Rattle.std.proofs.lemmas.Bool.{ne_eqb, eq-eqb}
use Rattle.behavior.specs.Values.{Word}
use Rattle.behavior.specs.Meanings.{Ids}
use Rattle.spirv_words.specs.declared.opcodes.Op.TheVariants.{TypeRuntimeArray, TypeStruct, TypePointer, TypeFunction, Constant, Variable, Function, Return, FunctionEnd}
use Rattle.spirv_words.specs.declared.images.Instruction.{Instruction}
use Rattle.spirv_words.specs.Machine.{Words, Unbounded, Fields, NoField, Field, PointerTo, Input, Plain, Path, InBuffer, if_some, or_zero, IsType, IsValue, on_shape, global_variable, Globals, declared, decoration, offset, result_of, place_of, definition_of}
use Rattle.spirv_words.specs.Runs.{undeclared, setting, start_place}
use Rattle.first_form.specs.declared.shader.Shader.{Shader}
use Rattle.first_image.specs.Templates.{ins, Piece, statements_code}
use Rattle.first_image.specs.Sections.{beginning, plain_types, constants_code, pointer_types, nulls}
use Rattle.first_image.specs.Image.{position, constants, array_id, pointers_id, nulls_id, buffer_id, entry_id, tables, preamble, buffer_types, more_types, variables, entry_code, image_code}
use Rattle.first_image.proofs.Lists.{contains, position_low}
use Rattle.first_image.proofs.Standing.{HasAt, has_front, has_back, has_all}
use Rattle.first_image.proofs.Acts.{row}
use Rattle.first_image.proofs.Relation.{IsLinked}
use Rattle.first_image.proofs.Numbered.{Numbered, numbered_on, place_found, definition_found, statements_numbered}
use Rattle.first_image.proofs.Links.{declared_on, stays_ids, stays_shapes, shape_before, found_shape, found_id}
use Rattle.first_image.proofs.Constants.{constants_numbered, constants_plain, constants_hold, constants_stand}

-- ---- the ids of each section

pub plain_types_numbered : Numbered 1 plain_types 13
plain_types_numbered = (refl, (refl, (refl, (refl, (refl, (refl, (refl, (refl, (refl, (refl, (refl, (refl, refl))))))))))))

buffer_types_numbered : (a : ℕ) → Numbered a (buffer_types a) (a + 2)
buffer_types_numbered a = (refl, (refl, omega arith))

pub pointer_types_numbered : (n : ℕ) → Numbered n (pointer_types n) (n + 15)
pointer_types_numbered n = (refl, (refl, (omega arith, (omega arith, (omega arith, (omega arith, (omega arith, (omega arith, (omega arith, (omega arith, (omega arith, (omega arith, (omega arith, (omega arith, (omega arith, omega arith)))))))))))))))

more_types_numbered : (a n : ℕ) → Numbered (n + 15) (more_types a n) (n + 17)
more_types_numbered a n = (refl, (omega arith, omega arith))

pub nulls_numbered : (k : ℕ) → Numbered k (nulls k) (k + 9)
nulls_numbered k = (refl, (refl, (omega arith, (omega arith, (omega arith, (omega arith, (omega arith, (omega arith, (omega arith, omega arith)))))))))

variables_numbered : (n b : ℕ) → Numbered b (variables n b) (b + 2)
variables_numbered n b = (refl, (refl, omega arith))

-- ---- a test of a decoration

pick_true : {A : Type 0} (b : Bool) (x y z : A) → b ≡ true → x ≡ z → cond b x y ≡ z
pick_true b x y z e f = ap (λ b. cond b x y) e ∙ f

pick_false : {A : Type 0} (b : Bool) (x y z : A) → b ≡ false → y ≡ z → cond b x y ≡ z
pick_false b x y z e f = ap (λ b. cond b x y) e ∙ f

this_id : {A : Type 0} (n : ℕ) (x y z : A) → x ≡ z → cond (nat_eq n n) x y ≡ z
this_id n x y z f = pick_true (nat_eq n n) x y z (eq-eqb n n refl) f

other_id : {A : Type 0} (n m : ℕ) (x y z : A) → n < m → y ≡ z → cond (nat_eq n m) x y ≡ z
other_id n m x y z lt f = pick_false (nat_eq n m) x y z (ne_eqb n m (λ e. absurd (omega arith))) f

-- ---- the image

module _ (home : List ℕ) (p : Shader) where
  abbrev ks : List ℕ
  ks = constants p

  abbrev a : ℕ
  a = array_id p

  abbrev n : ℕ
  n = pointers_id p

  abbrev k : ℕ
  k = nulls_id p

  abbrev b : ℕ
  b = buffer_id p

  abbrev e : ℕ
  e = entry_id p

  abbrev code : List Instruction
  code = image_code home p

  abbrev body : Piece
  body = statements_code (tables p) p.statements (e + 4) 0

  -- what stands before the constants, and between them and the entry; the code is the four parts one after the other
  abbrev before_constants : List Instruction
  before_constants = beginning ++ (preamble home p ++ plain_types)

  abbrev before_entry : List Instruction
  before_entry = buffer_types a ++ (pointer_types n ++ (more_types a n ++ (nulls k ++ variables n b)))

  abbrev after_constants : List Instruction
  after_constants = before_entry ++ entry_code p

  -- ---- its ids

  before_entry_numbered : Numbered a before_entry e
  before_entry_numbered =
      numbered_on (buffer_types a) (pointer_types n ++ (more_types a n ++ (nulls k ++ variables n b))) a n e (buffer_types_numbered a)
      (numbered_on (pointer_types n) (more_types a n ++ (nulls k ++ variables n b)) n (n + 15) e (pointer_types_numbered n)
      (numbered_on (more_types a n) (nulls k ++ variables n b) (n + 15) k e (more_types_numbered a n)
      (numbered_on (nulls k) (variables n b) k b e (nulls_numbered k) (variables_numbered n b))))

  body_numbered : Numbered (e + 4) (body.instructions ++ ins Return [] ∷ ins FunctionEnd [] ∷ []) body.id
  body_numbered = numbered_on body.instructions (ins Return [] ∷ ins FunctionEnd [] ∷ []) (e + 4) body.id body.id (statements_numbered (tables p) p.statements (e + 4) 0) refl

  rest_numbered : Numbered (e + 1 + 1 + 1 + 1) (body.instructions ++ ins Return [] ∷ ins FunctionEnd [] ∷ []) body.id
  rest_numbered = subst (λ j. Numbered j (body.instructions ++ ins Return [] ∷ ins FunctionEnd [] ∷ []) body.id) (omega arith) body_numbered

  entry_numbered : Numbered e (entry_code p) body.id
  entry_numbered = (refl, (refl, (omega arith, (omega arith, rest_numbered))))

  after_constants_numbered : Numbered a after_constants body.id
  after_constants_numbered = numbered_on before_entry (entry_code p) a e body.id before_entry_numbered entry_numbered

  code_numbered : Numbered 1 code body.id
  code_numbered =
      numbered_on before_constants (constants_code 13 ks ++ after_constants) 1 13 body.id plain_types_numbered
      (numbered_on (constants_code 13 ks) after_constants 13 a body.id (constants_numbered 13 ks) after_constants_numbered)

  pub found_place : (q r : ℕ) (i : Instruction) → slice_get code q ≡ Some i → result_of i.op i.operands ≡ Some r → place_of code r 0 ≡ Some q
  found_place q r i h f = place_found code 1 body.id q 0 r i code_numbered h f ∙ ap (λ q. Some q) (omega arith)

  pub found_definition : (q r : ℕ) (i : Instruction) → slice_get code q ≡ Some i → result_of i.op i.operands ≡ Some r → definition_of code r ≡ Some i
  found_definition q r i h f = definition_found code 1 body.id q r i code_numbered h f

  -- ---- where its sections stand

  abbrev constants_place : ℕ
  constants_place = 0 + length before_constants

  abbrev after_place : ℕ
  after_place = constants_place + length (constants_code 13 ks)

  abbrev pub entry_place : ℕ
  entry_place = after_place + length before_entry

  has_constants : HasAt code constants_place (constants_code 13 ks ++ after_constants)
  has_constants = has_back code 0 before_constants (constants_code 13 ks ++ after_constants) (has_all code [])

  pub has_entry : HasAt code entry_place (entry_code p)
  has_entry = has_back code after_place before_entry (entry_code p) (has_back code constants_place (constants_code 13 ks) after_constants has_constants)

  -- the run starts behind the entry's first instruction
  pub starts : start_place code ≡ entry_place + 1
  starts = ap (λ o. or_zero o + 1) (found_place entry_place e (ins Function (1 ∷ e ∷ 0 ∷ (n + 16) ∷ [])) has_entry.0 refl)

  -- ---- its declarations

  abbrev globals : Globals
  globals = declared code code undeclared

  -- those before the constants, and those up to where they end
  abbrev first_globals : Globals
  first_globals = declared code before_constants undeclared

  abbrev constant_globals : Globals
  constant_globals = declared code (constants_code 13 ks) first_globals

  globals_are : globals ≡ declared code after_constants constant_globals
  globals_are = declared_on code (constants_code 13 ks) after_constants first_globals (constants_plain 13 ks)

  uint_before : constant_globals.shapes 4 ≡ Some (Words false)
  uint_before = stays_shapes code (constants_code 13 ks) 13 a 4 first_globals (constants_numbered 13 ks) (omega arith)

  -- the type uint
  pub uint_found : globals.shapes 4 ≡ Some (Words false)
  uint_found = ap (λ g. g.shapes 4) globals_are ∙ stays_shapes code after_constants a body.id 4 constant_globals after_constants_numbered (omega arith) ∙ uint_before

  -- the decorations, each found past those of other ids
  stride_found : decoration code a 6 ≡ Some 4
  stride_found = this_id a _ _ _ refl

  offset_found : offset code (a + 1) 0 ≡ Some 0
  offset_found = this_id (a + 1) _ _ _ refl

  set_found : decoration code b 34 ≡ Some 0
  set_found = other_id a b _ _ _ (omega arith) (this_id b _ _ _ refl)

  binding_found : decoration code b 33 ≡ Some 0
  binding_found = other_id a b _ _ _ (omega arith) (this_id b _ _ _ (this_id b _ _ _ refl))

  built_in_found : decoration code (b + 1) 11 ≡ Some 28
  built_in_found =
      other_id a (b + 1) _ _ _ (omega arith) (other_id b (b + 1) _ _ _ (omega arith) (other_id b (b + 1) _ _ _ (omega arith) (this_id (b + 1) _ _ _ refl)))

  -- the runtime array, the wrapper, and the pointer to the wrapper
  array_found : (declared code after_constants constant_globals).shapes a ≡ Some (Unbounded 4 (Words false))
  array_found =
      let rest = ins TypeStruct ((a + 1) ∷ a ∷ []) ∷ (pointer_types n ++ (more_types a n ++ (nulls k ++ (variables n b ++ entry_code p)))) in
      found_shape code [] rest (ins TypeRuntimeArray (a ∷ 4 ∷ [])) a a body.id constant_globals refl refl refl after_constants_numbered (Unbounded 4 (Words false))
      (ap (λ o. on_shape o (λ s. Unbounded (or_zero (decoration code a 6)) s)) uint_before ∙ ap (λ o. IsType (Unbounded (or_zero o) (Words false))) stride_found)

  wrapper_found : (declared code after_constants constant_globals).shapes (a + 1) ≡ Some row
  wrapper_found =
      let before = ins TypeRuntimeArray (a ∷ 4 ∷ []) ∷ [] in
      let rest = pointer_types n ++ (more_types a n ++ (nulls k ++ (variables n b ++ entry_code p))) in
      let i = ins TypeStruct ((a + 1) ∷ a ∷ []) in
      found_shape code before rest i (a + 1) a body.id constant_globals refl refl refl after_constants_numbered row
      (ap (λ o. IsType (Fields (if_some o NoField (λ s. Field (or_zero (offset code (a + 1) 0)) s NoField))))
      (shape_before code before rest i (a + 1) a body.id constant_globals refl refl refl after_constants_numbered a (Unbounded 4 (Words false)) (omega arith) array_found)
      ∙ ap (λ o. IsType (Fields (Field (or_zero o) (Unbounded 4 (Words false)) NoField))) offset_found)

  pointer_found : (declared code after_constants constant_globals).shapes (n + 15) ≡ Some (PointerTo row)
  pointer_found =
      let before = buffer_types a ++ pointer_types n in
      let rest = ins TypeFunction ((n + 16) ∷ 1 ∷ []) ∷ (nulls k ++ (variables n b ++ entry_code p)) in
      let i = ins TypePointer ((n + 15) ∷ 12 ∷ (a + 1) ∷ []) in
      found_shape code before rest i (n + 15) a body.id constant_globals refl refl refl after_constants_numbered (PointerTo row)
      (ap (λ o. on_shape o (λ s. PointerTo s))
      (shape_before code before rest i (n + 15) a body.id constant_globals refl refl refl after_constants_numbered (a + 1) row (omega arith) wrapper_found))

  -- the buffer's variable
  pub buffer_found : globals.ids b ≡ Some (InBuffer 0 0 0 row)
  buffer_found =
      let before = buffer_types a ++ (pointer_types n ++ (more_types a n ++ nulls k)) in
      let rest = ins Variable ((n + 13) ∷ (b + 1) ∷ 1 ∷ []) ∷ entry_code p in
      let i = ins Variable ((n + 15) ∷ b ∷ 12 ∷ []) in
      ap (λ g. g.ids b) globals_are
      ∙ found_id code before rest i b a body.id constant_globals refl refl refl after_constants_numbered (InBuffer 0 0 0 row)
      (ap (λ o. global_variable code b 12 o)
      (shape_before code before rest i b a body.id constant_globals refl refl refl after_constants_numbered (n + 15) (PointerTo row) (omega arith) pointer_found)
      ∙ ap (λ o. IsValue (InBuffer (or_zero o) (or_zero (decoration code b 33)) 0 row)) set_found
      ∙ ap (λ o. IsValue (InBuffer 0 (or_zero o) 0 row)) binding_found)

  -- the variable of the invocation's global id
  pub input_found : globals.ids (b + 1) ≡ Some (Path (Input 28) [])
  input_found =
      let before = buffer_types a ++ (pointer_types n ++ (more_types a n ++ (nulls k ++ ins Variable ((n + 15) ∷ b ∷ 12 ∷ []) ∷ []))) in
      ap (λ g. g.ids (b + 1)) globals_are
      ∙ found_id code before (entry_code p) (ins Variable ((n + 13) ∷ (b + 1) ∷ 1 ∷ [])) (b + 1) a body.id constant_globals refl refl refl after_constants_numbered (Path (Input 28) [])
      (ap (λ o. IsValue (Path (Input (or_zero o)) [])) built_in_found)

  -- the constants
  abbrev pub used : ℕ → Bool
  used c = contains c ks

  pub constant_found : (c : ℕ) → used c ≡ true → globals.ids (13 + position c ks) ≡ Some (Plain (Word c))
  constant_found c u =
      ap (λ g. g.ids (13 + position c ks)) globals_are
      ∙ stays_ids code after_constants a body.id (13 + position c ks) constant_globals after_constants_numbered (omega (arith, position_low c ks u))
      ∙ constants_hold code c 13 ks first_globals u

  pub constant_below : (c : ℕ) → used c ≡ true → 13 + position c ks < a
  constant_below c u = omega (arith, position_low c ks u)

  -- ---- what a body asks of it

  pub linked : (ids : Ids) (lengths : ℕ → ℕ → ℕ) → IsLinked (setting code ids lengths) (tables p) used
  linked ids lengths = record {
    places = λ q r i h f. found_place q r i h f;
    definitions = λ q r i h f. found_definition q r i h f;
    signed_is = λ id. refl;
    word = uint_found;
    constant_typed = λ c u.
        let id = 13 + position c ks in
        let at_constant = constants_stand code c 13 constants_place ks (has_front code constants_place (constants_code 13 ks) after_constants has_constants) u in
        record { by = ins Constant (4 ∷ id ∷ c ∷ []); defined = found_definition at_constant.0 id (ins Constant (4 ∷ id ∷ c ∷ [])) at_constant.1 refl; typed = refl };
  }
