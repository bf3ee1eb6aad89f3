-- What values outside of functions stand for in a valid image.
use Rattle.std.proofs.Common.{◌≡◌, ◌≢◌, ℕ, ◌⊎◌, inl, inr, Bool, true, false, not, ◌&&◌, nat_eq, List, [], Option, Some, None, slice_index, refl, sym, ap, subst, ◌∙◌}
use Rattle.std.proofs.lemmas.Bool.{ne_eqb, eq-eqb, and_from}
use Rattle.std.proofs.Math.Logic.{⊎_elim}
use Rattle.behavior.specs.Values.{Value, Truth, Word}
use Rattle.spirv_words.specs.declared.opcodes.Op.{Op}
use Rattle.spirv_words.specs.declared.opcodes.Op.TheVariants.{ConstantTrue, ConstantFalse, Constant, ConstantNull, Variable}
use Rattle.spirv_words.specs.declared.images.Instruction.{Instruction}
use Rattle.spirv_words.specs.declared.images.Image.{Image}
use Rattle.spirv_words.specs.Machine.{Input, Operand, Plain, Path, InBuffer, IsValue, meaning_of, global_variable, null, is_function, result_of, place_of, zero_of, or_zero, decoration}
use Rattle.image_lookup.specs.Sorts.{sort_of, is_value_sort}
use Rattle.image_lookup.specs.Lookups.{operand, operands}
use Rattle.image_places.specs.Places.{function_of}
use Rattle.image_rules.specs.Order.{section}
use Rattle.image_declarations.specs.Holdings.{is_data}
use Rattle.image_declarations.specs.Reach.{is_buffer_class}
use Rattle.image_operands.specs.Marks.{is_variable, is_variable_sort, is_buffer}
use Rattle.image_scopes.specs.Scopes.{IsGlobal}
use Rattle.image_scopes.proofs.Beginning.{begin}
use Rattle.spirv_check.specs.Valid.{Valid}
use Rattle.image_facts.specs.Operands.{globals_of, shape, type_id, Suits}
use Rattle.image_facts.proofs.Rules.{right-rule}
use Rattle.image_facts.proofs.Outside.{outside-follows, some-section}
use Rattle.image_facts.proofs.Made.{IsMade, made}
use Rattle.image_facts.proofs.Sorts.{sort-is, operands-are}
use Rattle.image_facts.proofs.Shapes.{declares, IsDeclared, layout, valued, constant-means}
use Rattle.image_facts.proofs.Data.{data-shape}
use Rattle.image_facts.proofs.Values.{true-means, false-means, null-means, variable-means, storage-cases, IsOutside, outside-class}
use Rattle.image_facts.proofs.Globals.{IsBufferStanding, buffer-stands, global-stands}
use Rattle.image_facts.proofs.Buffers.{buffer-spaced}
use Rattle.run_plans.specs.Plans.{set_of, binding_of}
use Rattle.run_laws.proofs.Outer.{IsWhole, IsOuter, More}

abbrev defines_value : Op → Bool
defines_value op = is_value_sort (sort_of op) && not (nat_eq (section op) 0)

outer_op : (op : Op) → defines_value op ≡ true
    → (op ≡ ConstantTrue) ⊎ ((op ≡ ConstantFalse) ⊎ ((op ≡ Constant) ⊎ ((op ≡ ConstantNull) ⊎ (op ≡ Variable))))
outer_op ConstantTrue e = inl refl
outer_op ConstantFalse e = inr (inl refl)
outer_op Constant e = inr (inr (inl refl))
outer_op ConstantNull e = inr (inr (inr (inl refl)))
outer_op Variable e = inr (inr (inr (inr refl)))
outer_op op e = cc

same_operand : {a b : Operand} → Some a ≡ Some b → a ≡ b
same_operand e = cc

module _ (image : Image) (v : Valid image) where
  declared_as : (x p : ℕ) (op : Op) (m : IsMade image.instructions x p) → m.instruction.op ≡ op → place_of image.instructions x 0 ≡ Some p
      → function_of image.instructions p ≡ 0 → is_function op ≡ false → IsDeclared image.instructions x op
  declared_as x p op m o there z f =
      let os = operands-are image.instructions x m.instruction m.defines in
      let same : m.instruction ≡ declares op (operands image.instructions x) =
      ap (λ (q : Op). declares q m.instruction.operands) o ∙ ap (declares op) (sym os) in
      record {
        place = p;
        there = there;
        stands = m.stands ∙ ap (λ y. Some y) same;
        result = ap (λ (y : Instruction). result_of y.op y.operands) (sym same) ∙ m.result;
        outside = z;
        plain = f;
      }

  -- a constant stands for a value
  constant_outer : (x : ℕ) (op : Op) (value : Value) (o : Operand) → IsDeclared image.instructions x op
      → meaning_of image.instructions (globals_of image.instructions) op (operands image.instructions x) ≡ IsValue (Plain value)
      → (globals_of image.instructions).ids x ≡ Some o → IsOuter image.instructions o
  constant_outer x op value o d means e =
      subst (λ (y : Operand). IsOuter image.instructions y) (same_operand (sym (valued image v x op (Plain value) d means) ∙ e)) tt

  buffer_outer : (x : ℕ) (o : Operand) → is_buffer image.instructions x ≡ true → (globals_of image.instructions).ids x ≡ Some o → IsOuter image.instructions o
  buffer_outer x o h e =
      let b = buffer-stands image v x h in
      let whole : IsOuter image.instructions (InBuffer (set_of image.instructions x) (binding_of image.instructions x) 0 b.form) = record {
        variable = x;
        buffer = h;
        its_set = refl;
        its_binding = refl;
        form = b.pointee;
        first = refl;
        spaced = buffer-spaced image v x b.form h b.pointee;
      } in
      subst (λ (y : Operand). IsOuter image.instructions y) (same_operand (sym b.is ∙ e)) whole

  input_outer : (x n : ℕ) (o : Operand) → IsGlobal image.instructions x → (globals_of image.instructions).ids x ≡ Some (Path (Input n) [])
      → (globals_of image.instructions).ids x ≡ Some o → IsOuter image.instructions o
  input_outer x n o g is e =
      let s = global-stands image v x g in
      let suits : Suits image.instructions (Path (Input n) []) (type_id image.instructions x) =
      subst (λ (y : Operand). Suits image.instructions y (type_id image.instructions x)) (same_operand (sym s.1 ∙ is)) s.2 in
      subst (λ (y : Operand). IsOuter image.instructions y) (same_operand (sym is ∙ e)) suits.class.1

  variable_outer : (x : ℕ) (o : Operand) (d : IsDeclared image.instructions x Variable) → is_variable image.instructions x ≡ true → IsGlobal image.instructions x
      → (globals_of image.instructions).ids x ≡ Some o → IsOuter image.instructions o
  variable_outer x o d var g e =
      let code : List Instruction = image.instructions in
      let h : IsOutside image v x =
      record { holder = record { place = d.place; there = d.there; stands = d.stands; result = d.result }; outside = d.outside } in
      let means = variable-means code (globals_of code) (operands code x) x (layout image v x Variable d) d.result in
      let buffer : is_buffer_class (operand code x 2) ≡ true → IsOuter code o = λ c. buffer_outer x o (and_from (is_variable code x) (is_buffer_class (operand code x 2)) var c) e in
      ⊎_elim
      (λ f. input_outer x (or_zero (decoration code x 11)) o g
      (valued image v x Variable (Path (Input (or_zero (decoration code x 11))) []) d
      (means.0 ∙ ap (λ (c : ℕ). global_variable code x c (shape code (type_id code x))) f)) e)
      (λ q. ⊎_elim
      (λ f. buffer (ap is_buffer_class f))
      (λ q. ⊎_elim
      (λ f. absurd (outside-class image v x h f))
      (λ f. buffer (ap is_buffer_class f)) q) q)
      (storage-cases (operand code x 2) means.1)

  outer_is : (x : ℕ) (o : Operand) → IsGlobal image.instructions x → (globals_of image.instructions).ids x ≡ Some o → IsOuter image.instructions o
  outer_is x o g e =
      let code : List Instruction = image.instructions in
      let m = made code x g.place g.there in
      let op : Op = m.instruction.op in
      let some : section op ≢ 0 = some-section _ _ (outside-follows image v g.place m.instruction m.stands g.outside) in
      let value : is_value_sort (sort_of op) ≡ true = ap is_value_sort (sym (sort-is code x m.instruction m.defines)) ∙ g.value in
      let a : defines_value op ≡ true = and_from (is_value_sort (sort_of op)) (not (nat_eq (section op) 0)) value (ap not (ne_eqb (section op) 0 some)) in
      ⊎_elim
      (λ f. let d = declared_as x g.place ConstantTrue m f g.there g.outside refl in
      constant_outer x ConstantTrue (Truth true) o d (true-means code (globals_of code) (operands code x) (layout image v x ConstantTrue d)) e)
      (λ q. ⊎_elim
      (λ f. let d = declared_as x g.place ConstantFalse m f g.there g.outside refl in
      constant_outer x ConstantFalse (Truth false) o d (false-means code (globals_of code) (operands code x) (layout image v x ConstantFalse d)) e)
      (λ q. ⊎_elim
      (λ f. let d = declared_as x g.place Constant m f g.there g.outside refl in
      constant_outer x Constant (Word (operand code x 2)) o d (constant-means code (globals_of code) (operands code x) (layout image v x Constant d)) e)
      (λ q. ⊎_elim
      (λ f. let d = declared_as x g.place ConstantNull m f g.there g.outside refl in
      let t : ℕ = type_id code x in
      let h : is_data code t ≡ true = right-rule image v d.place (declares ConstantNull (operands code x)) d.stands in
      let s = data-shape image v t h in
      constant_outer x ConstantNull (zero_of s.form) o d
      (null-means code (globals_of code) (operands code x) (layout image v x ConstantNull d) ∙ ap null s.is) e)
      (λ f. variable_outer x o (declared_as x g.place Variable m f g.there g.outside refl)
      (ap is_variable_sort (sort-is code x m.instruction m.defines ∙ ap sort_of f)) g e)
      q) q) q) (outer_op op a)

  pub more : More image.instructions
  more = record { outer = outer_is; begins = begin image v }
