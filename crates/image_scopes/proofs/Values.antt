-- Where values are defined, and how far their definitions hold.
use Rattle.std.proofs.Common.{◌≡◌, ℕ, suc, ◌+◌, ◌-◌, ◌<◌, ◌≤◌, inl, inr, Bool, true, false, not, ◌&&◌, nat_eq, cond, List, [], ◌∷◌, length, slice_get, Option, Some, None, refl, sym, ap, ◌∙◌, arith}
use Rattle.std.specs.Prelude.{nat_lt}
use Rattle.std.proofs.lemmas.Bool.{ltb-true, or_parts, eqb-true, eq-eqb, ne_eqb, lt-ltb, cases_eq, cond-true, cond-false}
use Rattle.spirv_words.specs.declared.opcodes.Op.{Op}
use Rattle.spirv_words.specs.declared.opcodes.Op.TheVariants.{FunctionParameter, Variable, ConstantTrue, ConstantFalse, Constant, ConstantNull, TypeVoid, TypeBool, TypeInt, TypeVector, TypeArray, TypeRuntimeArray, TypeStruct, TypePointer, TypeFunction}
use Rattle.spirv_words.specs.declared.images.Instruction.{Instruction}
use Rattle.spirv_words.specs.declared.images.Image.{Image}
use Rattle.spirv_words.specs.Machine.{result_of, is_some_number, place_of}
use Rattle.image_lookup.specs.Sorts.{sort_of, is_value_sort}
use Rattle.image_lookup.specs.Lookups.{sort_in, sort, is_value}
use Rattle.image_lookup.proofs.Found.{definition-found}
use Rattle.image_places.specs.Places.{op_at, under_function, under_label, function_of, block_of}
use Rattle.image_rules.specs.Order.{section, may_stand}
use Rattle.image_rules.specs.declared.table.Scope.{Scope}
use Rattle.image_rules.specs.declared.table.Scope.TheVariants.{Everywhere, After, InFunction, InBlock}
use Rattle.image_rules.specs.Ids.{scope_of, scope_at, holds, definition_at}
use Rattle.image_rules.specs.Blocks.{in_front, is_broken, has_ended}
use Rattle.image_types.specs.Parts.{is_type_sort, is_type}
use Rattle.spirv_check.specs.Valid.{Valid}
use Rattle.image_scopes.proofs.Kept.{block_right}
use Rattle.image_scopes.proofs.Ordered.{op_is, inside_stands, in_functions, before_functions}

-- ---- the instruction that defines an id

pub record DefinedAt (code : List Instruction) (x p : ℕ) : Type 0 where
  pub instruction : Instruction
  pub stands : slice_get code p ≡ Some instruction
  pub result : result_of instruction.op instruction.operands ≡ Some x

is_number : (o : Option ℕ) (x : ℕ) → is_some_number o x ≡ true → o ≡ Some x
is_number None x e = cc
is_number (Some y) x e = ap (λ (n : ℕ). Some n) (eqb-true y x e)

-- counted from a number on
defined_behind : (code : List Instruction) (x from p : ℕ) → place_of code x from ≡ Some p
    → (from ≤ p) × ((i : Instruction) × (slice_get code (p - from) ≡ Some i) × (result_of i.op i.operands ≡ Some x))
defined_behind [] x from p e = cc
defined_behind (i ∷ is) x from p e =
    let P : Bool → Type 0 = λ b. is_some_number (result_of i.op i.operands) x ≡ b → cond b (Some from) (place_of is x (from + 1)) ≡ Some p
    → (from ≤ p) × ((j : Instruction) × (slice_get (i ∷ is) (p - from) ≡ Some j) × (result_of j.op j.operands ≡ Some x)) in
    elim (is_some_number (result_of i.op i.operands) x) as (λ b. P b) [
      | true ↦ λ t g. (let same : from ≡ p = cc in let z : p - from ≡ 0 = omega arith in
          (omega arith, (i, ap (slice_get (i ∷ is)) z, is_number (result_of i.op i.operands) x t)))
      | false ↦ λ t g. (let r = defined_behind is x (from + 1) p g in
          let s : p - from ≡ suc (p - (from + 1)) = omega (arith, r.0) in
          (omega (arith, r.0), (r.1.0, ap (slice_get (i ∷ is)) s ∙ r.1.1, r.1.2)))
    ] refl e

pub defined_at : (code : List Instruction) (x p : ℕ) → place_of code x 0 ≡ Some p → DefinedAt code x p
defined_at code x p e =
    let r = defined_behind code x 0 p e in
    let z : p ≡ p - 0 = omega arith in
    record { instruction = r.1.0; stands = ap (slice_get code) z ∙ r.1.1; result = r.1.2 }

-- what it defines
pub sort_is : (code : List Instruction) (x p : ℕ) (i : Instruction) → place_of code x 0 ≡ Some p → slice_get code p ≡ Some i → sort code x ≡ sort_of i.op
unfolding sort
sort_is code x p i there stands = ap sort_in (sym (definition-found code x p there) ∙ stands)

pub value_sort : (code : List Instruction) (x p : ℕ) (i : Instruction) → place_of code x 0 ≡ Some p → slice_get code p ≡ Some i → is_value code x ≡ true
    → is_value_sort (sort_of i.op) ≡ true
value_sort code x p i there stands value = sym (ap is_value_sort (sort_is code x p i there stands)) ∙ value

-- ---- opcodes that define values

-- it opens and closes nothing, and its results hold in their block
record Computes (op : Op) : Type 0 where
  no_section : section op ≡ 0
  scope : (h f b : ℕ) → scope_of op h f b ≡ InBlock b h
  same_function : (h b : ℕ) → under_function (Some op) h b ≡ b
  same_block : (h b : ℕ) → under_label (Some op) h b ≡ b
  stands : (b : ℕ) → may_stand op b ≡ true → nat_eq b 0 ≡ true → ⊥

record Declares (op : Op) : Type 0 where
  some_section : nat_eq (section op) 0 ≡ false
  early : nat_lt (section op) 14 ≡ true
  scope : (h f b : ℕ) → scope_of op h f b ≡ After h
  stands : (b : ℕ) → may_stand op b ≡ true → ⊥

data Value (op : Op) : Type 0 where
  constant : Declares op → Value op
  parameter : op ≡ FunctionParameter → Value op
  variable : op ≡ Variable → Value op
  computed : Computes op → Value op

value_kind : (op : Op) → is_value_sort (sort_of op) ≡ true → Value op
value_kind ConstantTrue e = constant (record { some_section = refl; early = refl; scope = λ h f b. refl; stands = λ b h. cc })
value_kind ConstantFalse e = constant (record { some_section = refl; early = refl; scope = λ h f b. refl; stands = λ b h. cc })
value_kind Constant e = constant (record { some_section = refl; early = refl; scope = λ h f b. refl; stands = λ b h. cc })
value_kind ConstantNull e = constant (record { some_section = refl; early = refl; scope = λ h f b. refl; stands = λ b h. cc })
value_kind FunctionParameter e = parameter refl
value_kind Variable e = variable refl
value_kind op e = computed (record { no_section = cc; scope = λ h f b. cc; same_function = λ h b. cc; same_block = λ h b. cc; stands = λ b h z. cc })

type_kind : (op : Op) → is_type_sort (sort_of op) ≡ true → Declares op
type_kind TypeVoid e = record { some_section = refl; early = refl; scope = λ h f b. refl; stands = λ b h. cc }
type_kind TypeBool e = record { some_section = refl; early = refl; scope = λ h f b. refl; stands = λ b h. cc }
type_kind TypeInt e = record { some_section = refl; early = refl; scope = λ h f b. refl; stands = λ b h. cc }
type_kind TypeVector e = record { some_section = refl; early = refl; scope = λ h f b. refl; stands = λ b h. cc }
type_kind TypeArray e = record { some_section = refl; early = refl; scope = λ h f b. refl; stands = λ b h. cc }
type_kind TypeRuntimeArray e = record { some_section = refl; early = refl; scope = λ h f b. refl; stands = λ b h. cc }
type_kind TypeStruct e = record { some_section = refl; early = refl; scope = λ h f b. refl; stands = λ b h. cc }
type_kind TypePointer e = record { some_section = refl; early = refl; scope = λ h f b. refl; stands = λ b h. cc }
type_kind TypeFunction e = record { some_section = refl; early = refl; scope = λ h f b. refl; stands = λ b h. cc }
type_kind op e = cc

-- where the definition of a value stands, and how far it holds
pub data Lies (code : List Instruction) (q : ℕ) : Type 0 where
  outside : (none : function_of code q ≡ 0) (first : (j : ℕ) → (function_of code j ≡ 0 → ⊥) → j ≤ length code → q < j)
      (holds : (k f b : ℕ) → q < k → holds (definition_at code q).scope k f b ≡ true) → Lies code q
  argument : (some : function_of code q ≡ 0 → ⊥) (op : op_at code q ≡ Some FunctionParameter) (none : block_of code q ≡ 0)
      (scope : (definition_at code q).scope ≡ InFunction (function_of code q)) → Lies code q
  local : (some : function_of code q ≡ 0 → ⊥) (op : op_at code q ≡ Some Variable) (front : in_front code q ≡ true)
      (scope : (definition_at code q).scope ≡ InFunction (function_of code q)) → Lies code q
  within : (some : function_of code q ≡ 0 → ⊥) (block : block_of code q ≡ 0 → ⊥)
      (scope : (definition_at code q).scope ≡ InBlock (block_of code q) q) → Lies code q

variable_front : (ended : Bool) (f b : ℕ) (front : Bool) (next : Option Op) → (f ≡ 0 → ⊥) → is_broken Variable ended f b front next ≡ false → front ≡ true
variable_front ended f b true next some e = refl
variable_front ended f b false next some e =
    let t : (not (nat_eq f 0) && true) ≡ false = (or_parts ended (not (nat_eq f 0) && not false) e).1 in
    let n : nat_eq f 0 ≡ false = ne_eqb f 0 some in
    let u : true ≡ false = ap (λ (b : Bool). not b && true) (sym n) ∙ t in
    cc

module _ (image : Image) (v : Valid image) (q : ℕ) (i : Instruction) (stands : slice_get image.instructions q ≡ Some i) where
  here : op_at image.instructions q ≡ Some i.op
  here = op_is image.instructions q i stands

  scope_here : (definition_at image.instructions q).scope ≡ scope_of i.op q (function_of image.instructions (suc q)) (block_of image.instructions (suc q))
  scope_here = ap (λ (o : Option Op). scope_at o q (function_of image.instructions (suc q)) (block_of image.instructions (suc q))) here

  function_next : function_of image.instructions (suc q) ≡ under_function (Some i.op) (suc q) (function_of image.instructions q)
  function_next = ap (λ (o : Option Op). under_function o (suc q) (function_of image.instructions q)) here

  block_next : block_of image.instructions (suc q) ≡ under_label (Some i.op) (suc q) (block_of image.instructions q)
  block_next = ap (λ (o : Option Op). under_label o (suc q) (block_of image.instructions q)) here

  -- in place of its opcode, the one that it is
  named : (op : Op) → i.op ≡ op → (definition_at image.instructions q).scope
      ≡ scope_of op q (under_function (Some op) (suc q) (function_of image.instructions q)) (under_label (Some op) (suc q) (block_of image.instructions q))
  named op e =
      let f : Op → ℕ = λ (o : Op). under_function (Some o) (suc q) (function_of image.instructions q) in
      let b : Op → ℕ = λ (o : Op). under_label (Some o) (suc q) (block_of image.instructions q) in
      scope_here ∙ (ap (λ (n : ℕ). scope_of i.op q n (block_of image.instructions (suc q))) function_next
      ∙ (ap (λ (n : ℕ). scope_of i.op q (f i.op) n) block_next ∙ ap (λ (o : Op). scope_of o q (f o) (b o)) e))

  early_first : (op : Op) → op_at image.instructions q ≡ Some op → nat_lt (section op) 14 ≡ true → function_of image.instructions q ≡ 0
      → (j : ℕ) → (function_of image.instructions j ≡ 0 → ⊥) → j ≤ length image.instructions → q < j
  early_first op at early none j some end = before_functions image v q j op at none (ltb-true (section op) 14 early) some end

  lies_constant : Declares i.op → Lies image.instructions q
  lies_constant d = elim (cases_eq (function_of image.instructions q) 0) [
    | inl none ↦ outside none (early_first i.op here d.early none)
        (λ k f b less. ap (λ (s : Scope). holds s k f b) (scope_here ∙ d.scope q (function_of image.instructions (suc q)) (block_of image.instructions (suc q))) ∙ lt-ltb q k less)
    | inr some ↦ absurd (d.stands (block_of image.instructions q) (inside_stands image v q i.op here some))
  ]

  lies_parameter : i.op ≡ FunctionParameter → Lies image.instructions q
  lies_parameter e =
      let at : op_at image.instructions q ≡ Some FunctionParameter = here ∙ ap (λ (o : Op). Some o) e in
      let some : function_of image.instructions q ≡ 0 → ⊥ = in_functions image v q FunctionParameter at refl in
      argument some at (eqb-true _ 0 (inside_stands image v q FunctionParameter at some)) (named FunctionParameter e)

  lies_variable : i.op ≡ Variable → Lies image.instructions q
  lies_variable e =
      let at : op_at image.instructions q ≡ Some Variable = here ∙ ap (λ (o : Op). Some o) e in
      let is : List Instruction = image.instructions in
      let f : ℕ = function_of is q in
      elim (cases_eq f 0) [
        | inl none ↦ outside none (early_first Variable at refl none)
            (λ k g b less. ap (λ (s : Scope). holds s k g b) (named Variable e ∙ cond-true (nat_eq f 0) Everywhere (InFunction f) (eq-eqb f 0 none)))
        | inr some ↦ local some at
            (variable_front (has_ended is q) f (block_of is q) (in_front is q) (op_at is (suc q)) some
            (ap (λ (o : Op). is_broken o (has_ended is q) f (block_of is q) (in_front is q) (op_at is (suc q))) (sym e) ∙ block_right image v q i stands))
            (named Variable e ∙ cond-false (nat_eq f 0) Everywhere (InFunction f) (ne_eqb f 0 some))
      ]

  lies_computed : Computes i.op → Lies image.instructions q
  lies_computed c =
      let is : List Instruction = image.instructions in
      let some : function_of is q ≡ 0 → ⊥ = in_functions image v q i.op here c.no_section in
      within some (λ e. c.stands (block_of is q) (inside_stands image v q i.op here some) (eq-eqb (block_of is q) 0 e))
      (scope_here ∙ c.scope q (function_of is (suc q)) (block_of is (suc q))
      ∙ ap (λ (n : ℕ). InBlock n q) (block_next ∙ c.same_block (suc q) (block_of is q)))

  -- a value is defined outside of functions, or it is a parameter, a variable, or a result in a block
  pub lies : is_value_sort (sort_of i.op) ≡ true → Lies image.instructions q
  lies e = elim (value_kind i.op e) [
    | constant d ↦ lies_constant d
    | parameter p ↦ lies_parameter p
    | variable p ↦ lies_variable p
    | computed c ↦ lies_computed c
  ]

  -- a type is defined outside of functions, and holds behind its definition
  pub type_lies : is_type_sort (sort_of i.op) ≡ true
      → (function_of image.instructions q ≡ 0) × ((definition_at image.instructions q).scope ≡ After q)
  type_lies e =
      let d : Declares i.op = type_kind i.op e in
      let scope : (definition_at image.instructions q).scope ≡ After q =
      scope_here ∙ d.scope q (function_of image.instructions (suc q)) (block_of image.instructions (suc q)) in
      elim (cases_eq (function_of image.instructions q) 0) [
        | inl none ↦ (none, scope)
        | inr some ↦ absurd (d.stands (block_of image.instructions q) (inside_stands image v q i.op here some))
      ]

pub type_outside : (image : Image) → Valid image → (x p : ℕ) → place_of image.instructions x 0 ≡ Some p → is_type image.instructions x ≡ true
    → (function_of image.instructions p ≡ 0) × ((definition_at image.instructions p).scope ≡ After p)
type_outside image v x p there type =
    let d : DefinedAt image.instructions x p = defined_at image.instructions x p there in
    type_lies image v p d.instruction d.stands (sym (ap is_type_sort (sort_is image.instructions x p d.instruction there d.stands)) ∙ type)
