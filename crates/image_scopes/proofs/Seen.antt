-- Which values are seen where they are named.
use Rattle.std.proofs.Common.{◌≡◌, ℕ, zero, suc, ◌<◌, ◌⊎◌, inl, inr, Bool, true, false, ◌&&◌, nat_eq, cond, List, [], drop, slice_get, slice_index, Some, refl, sym, ap, ◌∙◌, arith}
use Rattle.std.specs.Prelude.{nat_lt, nat_le, slice_index_or}
use Rattle.std.proofs.lemmas.Bool.{eqb-true, ltb-true, and_parts}
use Rattle.std.proofs.lemmas.Option.{get_or_from_slice_get}
use Rattle.spirv_words.specs.declared.opcodes.Op.{Op}
use Rattle.spirv_words.specs.declared.opcodes.Op.TheVariants.{Variable, Label}
use Rattle.spirv_words.specs.declared.images.Instruction.{Instruction}
use Rattle.spirv_words.specs.declared.images.Image.{Image}
use Rattle.spirv_words.specs.Machine.{place_of}
use Rattle.image_lookup.specs.declared.sorts.Sort.{Sort}
use Rattle.image_lookup.specs.declared.sorts.Sort.TheVariants.{PointerType}
use Rattle.image_lookup.specs.Sorts.{is_value_sort}
use Rattle.image_lookup.specs.Lookups.{sort, is_value}
use Rattle.image_places.specs.declared.roles.Role.TheVariants.{Literal, Use}
use Rattle.image_places.specs.Roles.{text_end, role_of}
use Rattle.image_places.specs.Places.{op_at, function_of, block_of}
use Rattle.image_rules.specs.declared.table.Scope.{Scope}
use Rattle.image_rules.specs.declared.table.Scope.TheVariants.{InFunction}
use Rattle.image_rules.specs.Ids.{holds, definition_at, role_in}
use Rattle.image_operands.specs.Memory.{is_pointer_sort, is_pointer}
use Rattle.image_types.specs.Rules.{rule_of}
use Rattle.image_types.specs.Functions.{variable_fits}
use Rattle.image_types.specs.Parts.{is_type}
use Rattle.image_types.specs.Checking.{meets, context_at}
use Rattle.spirv_check.specs.Valid.{Valid}
use Rattle.image_scopes.specs.Scopes.{IsRun, IsSeen, IsGlobal}
use Rattle.image_scopes.proofs.Kept.{before_end, meets_rule}
use Rattle.image_scopes.proofs.Ordered.{Running, running, op_is, one_function}
use Rattle.image_scopes.proofs.Front.{IsFront, behind_variables, behind_parameters}
use Rattle.image_scopes.proofs.Values.{DefinedAt, defined_at, value_sort, outside, argument, local, within, lies, type_outside}
use Rattle.image_scopes.proofs.Used.{used_is_defined}

-- ---- what a Label or a variable names is no value

not_used : (c : Bool) (n : ℕ) → cond c Literal (slice_index_or [] n Literal) ≡ Use → ⊥
not_used true n e = cc
not_used false n e = cc

label_uses : (j end : ℕ) → role_of Label end j ≡ Use → ⊥
label_uses zero end e = cc
label_uses (suc j) end e = not_used (nat_le 2 (suc j) && nat_lt (suc j) end) j e

variable_uses : (j end : ℕ) → role_of Variable end j ≡ Use → j ≡ 0
variable_uses zero end e = refl
variable_uses (suc zero) end e = cc
variable_uses (suc (suc j)) end e = absurd (not_used (nat_le 2 (suc (suc j)) && nat_lt (suc (suc j)) end) j e)

pointer_is_no_value : (s : Sort) → is_pointer_sort s ≡ true → is_value_sort s ≡ true → ⊥
pointer_is_no_value PointerType p e = cc
pointer_is_no_value s p e = cc

same_op : (a b : Op) → Some a ≡ Some b → a ≡ b
same_op a b e = cc

label_by : (op : Op) (os : List ℕ) → op ≡ Label → (j : ℕ) → role_of op (text_end op os) j ≡ Use → ⊥
label_by op os e j role = label_uses j (text_end Label os) (ap (λ (o : Op). role_of o (text_end o os) j) (sym e) ∙ role)

variable_by : (op : Op) (os : List ℕ) → op ≡ Variable → (j : ℕ) → role_of op (text_end op os) j ≡ Use → j ≡ 0
variable_by op os e j role = variable_uses j (text_end Variable os) (ap (λ (o : Op). role_of o (text_end o os) j) (sym e) ∙ role)

module _ (image : Image) (v : Valid image) where
  variable_pointer : (k : ℕ) (i : Instruction) → slice_get image.instructions k ≡ Some i → i.op ≡ Variable → is_pointer image.instructions (slice_index i.operands 0) ≡ true
  unfolding variable_fits
  variable_pointer k i stands e =
      let is : List Instruction = image.instructions in
      let m : meets (rule_of Variable) is (context_at is k) k i (drop (suc k) is) ≡ true =
      ap (λ (o : Op). meets (rule_of o) is (context_at is k) k i (drop (suc k) is)) (sym e) ∙ meets_rule image v k i stands in
      (and_parts _ _ (and_parts _ _ m).0).0

  -- a Label and a variable use no value
  front_uses : (k : ℕ) (i : Instruction) → slice_get image.instructions k ≡ Some i → IsFront image.instructions k → (j x : ℕ) → slice_get i.operands j ≡ Some x
      → role_in i j ≡ Use → is_value image.instructions x ≡ true → ⊥
  front_uses k i stands front j x at role value =
      let here : op_at image.instructions k ≡ Some i.op = op_is image.instructions k i stands in
      elim front [
        | inl l ↦ (let e : i.op ≡ Label = same_op i.op Label (sym here ∙ l) in label_by i.op i.operands e j role)
        | inr r ↦ (let e : i.op ≡ Variable = same_op i.op Variable (sym here ∙ r) in
            let first : j ≡ 0 = variable_by i.op i.operands e j role in
            let same : slice_index i.operands 0 ≡ x = get_or_from_slice_get i.operands 0 x 0 (ap (slice_get i.operands) (sym first) ∙ at) in
            pointer_is_no_value (sort image.instructions x)
            (ap (λ (y : ℕ). is_pointer image.instructions y) (sym same) ∙ variable_pointer k i stands e) value)
      ]

  -- ---- what is seen

  -- a value whose definition holds at an instruction that is run, and is used there
  seen_by : (k : ℕ) (run : IsRun image.instructions k) (x p : ℕ) → place_of image.instructions x 0 ≡ Some p → is_value image.instructions x ≡ true
      → holds (definition_at image.instructions p).scope k (function_of image.instructions (suc k)) (block_of image.instructions (suc k)) ≡ true
      → (IsFront image.instructions k → ⊥) → p < k
  seen_by k run x p there value holding apart =
      let is : List Instruction = image.instructions in
      let f : ℕ = function_of is (suc k) in
      let b : ℕ = block_of is (suc k) in
      let d : DefinedAt is x p = defined_at is x p there in
      let in_it : (own : ℕ) → (definition_at is p).scope ≡ InFunction own → own ≡ f = λ (own : ℕ) e.
      eqb-true own f (sym (ap (λ (s : Scope). holds s k f b) e) ∙ holding) in
      elim (lies image v p d.instruction d.stands (value_sort is x p d.instruction there d.stands value)) [
        | outside none first far ↦ first k (running image v k run).inside (omega (arith, before_end image v k run.instruction run.stands))
        | argument some op none scope ↦ behind_parameters image v k run p (in_it (function_of is p) scope) op none
        | local some op front scope ↦ elim (behind_variables image v k run p (in_it (function_of is p) scope) op front) [ inl l ↦ l | inr r ↦ absurd (apart r) ]
        | within some block scope ↦ ltb-true p k (and_parts (nat_eq (block_of is p) b) (nat_lt p k) (sym (ap (λ (s : Scope). holds s k f b) scope) ∙ holding)).1
      ]

  -- a value that is used is seen
  pub used_is_seen : (k : ℕ) (run : IsRun image.instructions k) (j x : ℕ) → slice_get run.instruction.operands j ≡ Some x → role_in run.instruction j ≡ Use
      → is_value image.instructions x ≡ true → IsSeen image.instructions k x
  used_is_seen k run j x at role value =
      let u = used_is_defined image v k run.instruction run.stands j x at role in
      record {
        value = value;
        place = u.0;
        there = u.1;
        before = seen_by k run x u.0 u.1 value u.2 (λ front. front_uses k run.instruction run.stands front j x at role value);
        holds = u.2;
      }

  -- a value that is defined outside of functions is seen in all of them
  pub global_is_seen : (k : ℕ) (run : IsRun image.instructions k) (x : ℕ) → IsGlobal image.instructions x → IsSeen image.instructions k x
  global_is_seen k run x g =
      let is : List Instruction = image.instructions in
      let d : DefinedAt is x g.place = defined_at is x g.place g.there in
      elim (lies image v g.place d.instruction d.stands (value_sort is x g.place d.instruction g.there d.stands g.value)) [
        | outside none first far ↦ (let before : g.place < k = first k (running image v k run).inside (omega (arith, before_end image v k run.instruction run.stands)) in
            record { value = g.value; place = g.place; there = g.there; before = before; holds = far k (function_of is (suc k)) (block_of is (suc k)) before })
        | argument some op none scope ↦ absurd (some g.outside)
        | local some op front scope ↦ absurd (some g.outside)
        | within some block scope ↦ absurd (some g.outside)
      ]

  -- a value that is seen is defined outside of functions, or in this one
  pub seen_is_near : (k : ℕ) (run : IsRun image.instructions k) (x : ℕ) (s : IsSeen image.instructions k x)
      → IsGlobal image.instructions x ⊎ (function_of image.instructions s.place ≡ function_of image.instructions k)
  seen_is_near k run x s =
      let is : List Instruction = image.instructions in
      let f : ℕ = function_of is (suc k) in
      let b : ℕ = block_of is (suc k) in
      let p : ℕ = s.place in
      let d : DefinedAt is x p = defined_at is x p s.there in
      let r : Running is k = running image v k run in
      let in_it : (own : ℕ) → (definition_at is p).scope ≡ InFunction own → own ≡ f = λ (own : ℕ) e.
      eqb-true own f (sym (ap (λ (t : Scope). holds t k f b) e) ∙ s.holds) in
      elim (lies image v p d.instruction d.stands (value_sort is x p d.instruction s.there d.stands s.value)) [
        | outside none first far ↦ inl (record { value = s.value; place = p; there = s.there; outside = none })
        | argument some op none scope ↦ inr (in_it (function_of is p) scope ∙ r.same)
        | local some op front scope ↦ inr (in_it (function_of is p) scope ∙ r.same)
        | within some block scope ↦ (let same : block_of is p ≡ b =
            eqb-true (block_of is p) b (and_parts (nat_eq (block_of is p) b) (nat_lt p k) (sym (ap (λ (t : Scope). holds t k f b) scope) ∙ s.holds)).0 in
            let less : p < k = s.before in
            inr (one_function image v p (suc k) (omega arith) same run.in_block ∙ r.same))
      ]

  -- ---- types

  -- a type that is used is defined before, outside of functions
  pub type_is_before : (k : ℕ) (i : Instruction) → slice_get image.instructions k ≡ Some i → (j x : ℕ) → slice_get i.operands j ≡ Some x → role_in i j ≡ Use
      → is_type image.instructions x ≡ true → (p : ℕ) × (place_of image.instructions x 0 ≡ Some p) × (p < k) × (function_of image.instructions p ≡ 0)
  type_is_before k i stands j x at role type =
      let is : List Instruction = image.instructions in
      let u = used_is_defined image v k i stands j x at role in
      let t = type_outside image v x u.0 u.1 type in
      (u.0, u.1, ltb-true u.0 k (sym (ap (λ (s : Scope). holds s k (function_of is (suc k)) (block_of is (suc k))) t.1) ∙ u.2), t.0)
