-- The parameters of functions, and the Label behind them.
use Rattle.std.proofs.Common.{◌≡◌, ℕ, zero, suc, ◌+◌, ◌-◌, ◌<◌, ◌≤◌, ◌⊎◌, inl, inr, Bool, true, false, ◌&&◌, nat_eq, cond, List, [], ◌∷◌, length, drop, slice_get, slice_index, Option, Some, None, refl, sym, ap, subst, ◌∙◌, add-one, arith}
use Rattle.std.specs.Prelude.{nat_lt}
use Rattle.std.specs.Option.{option_map}
use Rattle.std.proofs.lemmas.Bool.{eqb-true, leb-true, and_parts, cases_eq, cases_lt}
use Rattle.std.proofs.lemmas.Option.{slice_get_within, slice_get_past}
use Rattle.spirv_words.specs.declared.opcodes.Op.{Op}
use Rattle.spirv_words.specs.declared.opcodes.Op.TheVariants.{Function, FunctionParameter, Variable, Label}
use Rattle.spirv_words.specs.declared.images.Instruction.{Instruction}
use Rattle.spirv_words.specs.declared.images.Image.{Image}
use Rattle.spirv_words.specs.Machine.{place_of, result_of}
use Rattle.spirv_words.specs.Layouts as layouts
use Rattle.image_lookup.specs.Sorts.{sort_of, is_value_sort}
use Rattle.image_lookup.specs.Lookups.{sort_in, sort, operands_in, operands, operand}
use Rattle.image_lookup.proofs.Found.{definition-none}
use Rattle.image_declarations.specs.Reach.{is_id}
use Rattle.image_places.specs.Places.{op_at, under_function, under_label, function_of, block_of}
use Rattle.image_rules.specs.Order.{section, reached, may_stand, is_misplaced}
use Rattle.image_rules.specs.declared.table.Scope.{Scope}
use Rattle.image_rules.specs.declared.table.Scope.TheVariants.{InFunction}
use Rattle.image_rules.specs.Ids.{holds, definition_at}
use Rattle.image_rules.specs.Blocks.{is_label}
use Rattle.image_types.specs.declared.functions.Context.{Context}
use Rattle.image_types.specs.Rules.{rule_of}
use Rattle.image_types.specs.Functions.{after, is_function_sort, is_function, is_parameter, leading_parameters, function_fits, parameter_fits}
use Rattle.image_types.specs.Checking.{meets, context_at}
use Rattle.image_calls.specs.Arguments.{parameter_types}
use Rattle.spirv_check.specs.Valid.{Valid}
use Rattle.image_scopes.specs.Scopes.{IsRun, IsSeen, IsGlobal}
use Rattle.image_scopes.specs.Facts.{ParameterAt, Begun, Within}
use Rattle.image_scopes.proofs.Kept.{before_end, in_order, meets_rule, operands_fit}
use Rattle.image_scopes.proofs.Standing.{opened, block_within}
use Rattle.image_scopes.proofs.Ordered.{op_is, inside_stands, no_block_outside, function_outside}
use Rattle.image_scopes.proofs.Values.{DefinedAt, defined_at, sort_is, value_sort, outside, argument, local, within as within_block, lies}
use Rattle.image_scopes.proofs.Used.{result_is_here}
use Rattle.image_scopes.proofs.Onward.{ItemAt, item_at, open_at_end, named}
use Rattle.image_scopes.proofs.Contexts.{context_next, FunctionAt, function_at, operands_is, within}

-- ---- lists

get_behind : (q j : ℕ) (xs : List Instruction) → slice_get (drop q xs) j ≡ slice_get xs (q + j)
get_behind zero j xs = let e : j ≡ 0 + j = omega arith in ap (slice_get xs) e
get_behind (suc q) j [] = let e : suc q + j ≡ suc (q + j) = omega arith in sym (ap (slice_get []) e)
get_behind (suc q) j (x ∷ xs) = let e : suc (q + j) ≡ suc q + j = omega arith in get_behind q j xs ∙ ap (slice_get (x ∷ xs)) e

is_the_parameter : (op : Op) → is_parameter op ≡ true → op ≡ FunctionParameter
is_the_parameter FunctionParameter e = refl
is_the_parameter op e = cc

leading_further : (x : Instruction) (xs : List Instruction) (j : ℕ) → x.op ≡ FunctionParameter → j < leading_parameters xs + 1
    → ((m : ℕ) → m < leading_parameters xs → (i : Instruction) × (slice_get xs m ≡ Some i) × (i.op ≡ FunctionParameter))
    → (i : Instruction) × (slice_get (x ∷ xs) j ≡ Some i) × (i.op ≡ FunctionParameter)
leading_further x xs zero e h go = (x, refl, e)
leading_further x xs (suc j) e h go = go j (omega arith)

-- the parameters that stand first
leading_at : (is : List Instruction) (j : ℕ) → j < leading_parameters is → (i : Instruction) × (slice_get is j ≡ Some i) × (i.op ≡ FunctionParameter)
leading_at [] j h = absurd (omega arith)
leading_at (x ∷ xs) j h =
    elim (is_parameter x.op) as (λ b. is_parameter x.op ≡ b → j < cond b (leading_parameters xs + 1) 0 → (i : Instruction) × (slice_get (x ∷ xs) j ≡ Some i) × (i.op ≡ FunctionParameter)) [
      | true ↦ λ t g. leading_further x xs j (is_the_parameter x.op t) g (λ m less. leading_at xs m less)
      | false ↦ λ t g. absurd (omega arith)
    ] refl h

-- ---- a function

callee_sort : (op : Op) → is_function_sort (sort_of op) ≡ true → op ≡ Function
callee_sort Function e = refl
callee_sort op e = cc

some_place : (code : List Instruction) (f : ℕ) (o : Option ℕ) → place_of code f 0 ≡ o → is_function code f ≡ true → (p : ℕ) × (place_of code f 0 ≡ Some p)
unfolding sort
some_place code f None e h = let no_sort : false ≡ true = sym (ap (λ (i : Option Instruction). is_function_sort (sort_in i)) (definition-none code f 0 e)) ∙ h in cc
some_place code f (Some p) e h = (p, e)

-- what stands behind parameters, before a Label
begins_block : (op : Op) → may_stand op 0 ≡ true → (op ≡ Label) ⊎ (op ≡ FunctionParameter)
begins_block Label e = inl refl
begins_block FunctionParameter e = inr refl
begins_block Variable e = cc
begins_block op e = absurd (never (nat_eq (section op) 0) e) where
  never : (b : Bool) → (b && false) ≡ true → ⊥
  never true e = cc
  never false e = cc

parameter_operands : (os : List ℕ) → layouts.fits FunctionParameter os ≡ true → (t : ℕ) × (r : ℕ) × (os ≡ t ∷ r ∷ [])
parameter_operands (t ∷ r ∷ []) e = (t, r, refl)
parameter_operands os e = cc

label_operand : (os : List ℕ) → layouts.fits Label os ≡ true → (r : ℕ) × (os ≡ r ∷ [])
label_operand (r ∷ []) e = (r, refl)
label_operand os e = cc

no_type : (n : ℕ) → is_id None n ≡ true → ⊥
no_type n e = cc

clash : (a b : Op) → a ≡ FunctionParameter → b ≡ Variable → a ≡ b → ⊥
clash a b e f same = let no_way : FunctionParameter ≡ Variable = sym e ∙ (same ∙ f) in cc

same_op : (a b : Op) → Some a ≡ Some b → a ≡ b
same_op a b e = cc

abbrev result_in : Option Instruction → Option ℕ
result_in None = None
result_in (Some i) = result_of i.op i.operands

-- behind so many parameters of the function at a place
record Entered (code : List Instruction) (p j q : ℕ) : Type 0 where
  function : function_of code q ≡ suc p
  block : block_of code q ≡ 0
  count : (context_at code q).parameters ≡ j

module _ (image : Image) (v : Valid image) (p result f type : ℕ)
    (stands : slice_get image.instructions p ≡ Some (record { op = Function; operands = result ∷ f ∷ 0 ∷ type ∷ [] })) where
  abbrev this : Instruction
  this = record { op = Function; operands = result ∷ f ∷ 0 ∷ type ∷ [] }

  abbrev types : List ℕ
  types = drop 2 (operands image.instructions type)

  at_function : op_at image.instructions p ≡ Some Function
  at_function = op_is image.instructions p this stands

  there : place_of image.instructions f 0 ≡ Some p
  there = result_is_here image v p this stands f refl

  of_type : operand image.instructions f 3 ≡ type
  of_type = ap (λ (l : List ℕ). slice_index l 3) (operands_is image.instructions f p this there stands)

  types_are : parameter_types image.instructions f ≡ types
  types_are = ap (λ (t : ℕ). drop 2 (operands image.instructions t)) of_type

  enough : length types ≤ leading_parameters (drop (suc p) image.instructions)
  unfolding function_fits
  enough = leb-true (length types) (leading_parameters (drop (suc p) image.instructions)) (and_parts _ _ (meets_rule image v p this stands)).1

  parameter_there : (j : ℕ) → j < length types → (i : Instruction) × (slice_get image.instructions (suc p + j) ≡ Some i) × (i.op ≡ FunctionParameter)
  parameter_there j h =
      let i = leading_at (drop (suc p) image.instructions) j (omega (arith, enough)) in
      (i.0, sym (get_behind (suc p) j image.instructions) ∙ i.1, i.2)

  first_entered : Entered image.instructions p 0 (suc p)
  first_entered =
      let is : List Instruction = image.instructions in
      let c : context_at is (suc p) ≡ after (context_at is p) this = context_next is p this (before_end image v p this stands) stands in
      record {
        function = ap (λ (o : Option Op). under_function o (suc p) (function_of is p)) at_function;
        block = ap (λ (o : Option Op). under_label o (suc p) (block_of is p)) at_function ∙ no_block_outside image v p (function_outside image v p at_function);
        count = ap (λ (x : Context). x.parameters) c;
      }

  more_entered : (j q : ℕ) (i : Instruction) → slice_get image.instructions q ≡ Some i → i.op ≡ FunctionParameter → Entered image.instructions p j q
      → Entered image.instructions p (suc j) (suc q)
  more_entered j q i at e before =
      let is : List Instruction = image.instructions in
      let here : op_at is q ≡ Some FunctionParameter = op_is is q i at ∙ ap (λ (o : Op). Some o) e in
      let c : context_at is (suc q) ≡ after (context_at is q) (record { op = FunctionParameter; operands = i.operands }) =
      context_next is q i (before_end image v q i at) at ∙ ap (λ (o : Op). after (context_at is q) (record { op = o; operands = i.operands })) e in
      record {
        function = ap (λ (o : Option Op). under_function o (suc q) (function_of is q)) here ∙ before.function;
        block = ap (λ (o : Option Op). under_label o (suc q) (block_of is q)) here ∙ before.block;
        count = ap (λ (x : Context). x.parameters) c ∙ (ap (λ (n : ℕ). n + 1) before.count ∙ add-one j);
      }

  entered : (j q : ℕ) → j ≤ length types → q ≡ suc p + j → Entered image.instructions p j q
  entered zero q h e =
      let s : suc p ≡ q = omega arith in
      subst (λ (n : ℕ). Entered image.instructions p 0 n) s first_entered
  entered (suc j) q h e =
      let i = parameter_there j (omega arith) in
      let s : suc (suc p + j) ≡ q = omega arith in
      subst (λ (n : ℕ). Entered image.instructions p (suc j) n) s
      (more_entered j (suc p + j) i.0 i.1 i.2 (entered j (suc p + j) (omega arith) refl))

  inside_end : (q : ℕ) → q ≤ length image.instructions → function_of image.instructions q ≡ suc p → q < length image.instructions
  inside_end q h e =
      let is : List Instruction = image.instructions in
      elim (cases_lt q (length is)) [
        | inl l ↦ l
        | inr g ↦ (let none : op_at is q ≡ None = ap (option_map (λ (i : Instruction). i.op)) (slice_get_past is q g) in
            let no_function : function_of is q ≡ 0 = open_at_end (function_of is q) (block_of is q) (reached is q)
            (ap (λ (o : Option Op). is_misplaced o (function_of is q) (block_of is q) (reached is q)) (sym none) ∙ in_order image v q h) in
            absurd (omega arith))
      ]

  type_in : (q : ℕ) (w : Within image.instructions q) → function_of image.instructions q ≡ suc p → (context_at image.instructions q).type_id ≡ type
  type_in q w e =
      let is : List Instruction = image.instructions in
      let o : function_of is q ≡ suc w.place = w.opened in
      let same : w.place ≡ p = omega arith in
      let s : Some (record { op = Function; operands = w.result ∷ w.function ∷ 0 ∷ w.type ∷ [] }) ≡ Some this = sym w.stands ∙ (ap (slice_get is) same ∙ stands) in
      let t : w.type ≡ type = ap (λ (o : Option Instruction). slice_index (operands_in o) 3) s in
      w.of_type ∙ t

  -- the type of a parameter is the one that the function's type has at its place
  typed : (j q : ℕ) (i : Instruction) → slice_get image.instructions q ≡ Some i → i.op ≡ FunctionParameter → Entered image.instructions p j q
      → is_id (slice_get types j) (slice_index i.operands 0) ≡ true
  unfolding parameter_fits
  typed j q i at e here =
      let is : List Instruction = image.instructions in
      let h : q ≤ length is = omega (arith, before_end image v q i at) in
      let w : Within is q = within image v q p h here.function in
      let c : Context = context_at is q in
      let same_type : c.type_id ≡ type = type_in q w here.function in
      let m : meets (rule_of FunctionParameter) is c q i (drop (suc q) is) ≡ true =
      ap (λ (o : Op). meets (rule_of o) is c q i (drop (suc q) is)) (sym e) ∙ meets_rule image v q i at in
      ap (λ (n : ℕ). is_id (slice_get types n) (slice_index i.operands 0)) (sym here.count)
      ∙ (ap (λ (t : ℕ). is_id (slice_get (drop 2 (operands is t)) c.parameters) (slice_index i.operands 0)) (sym same_type) ∙ m)

  -- the parameter with this number
  parameter_at : (j t : ℕ) → slice_get types j ≡ Some t → (r : ℕ) × ParameterAt image.instructions p j t r
  parameter_at j t at =
      let is : List Instruction = image.instructions in
      let h : j < length types = slice_get_within types j t at in
      let q : ℕ = suc p + j in
      let i = parameter_there j h in
      let fits : layouts.fits FunctionParameter i.0.operands ≡ true = ap (λ (o : Op). layouts.fits o i.0.operands) (sym i.2) ∙ operands_fit image v q i.0 i.1 in
      let o = parameter_operands i.0.operands fits in
      let typed_here : is_id (slice_get types j) (slice_index i.0.operands 0) ≡ true = typed j q i.0 i.1 i.2 (entered j q (omega arith) refl) in
      let same : nat_eq t o.0 ≡ true =
      sym (ap (λ (x : Option ℕ). is_id x (slice_index i.0.operands 0)) at ∙ ap (λ (l : List ℕ). nat_eq t (slice_index l 0)) o.2) ∙ typed_here in
      let same_type : o.0 ≡ t = sym (eqb-true t o.0 same) in
      let operands_are : i.0.operands ≡ t ∷ o.1 ∷ [] = o.2 ∙ ap (λ (n : ℕ). n ∷ o.1 ∷ []) same_type in
      let whole : slice_get is q ≡ Some (record { op = FunctionParameter; operands = t ∷ o.1 ∷ [] }) =
      i.1 ∙ named i.0 FunctionParameter (t ∷ o.1 ∷ []) i.2 operands_are in
      let it : Instruction = record { op = FunctionParameter; operands = t ∷ o.1 ∷ [] } in
      let found : place_of is o.1 0 ≡ Some q = result_is_here image v q it whole o.1 refl in (
        o.1,
        record {
          stands = whole;
          value = ap is_value_sort (sort_is is o.1 q it found whole);
          type = ap (λ (l : List ℕ). slice_index l 0) (operands_is is o.1 q it found whole);
          there = found;
        },
      )

  -- ---- the Label behind the parameters

  abbrev last : ℕ
  last = suc p + length types

  last_entered : Entered image.instructions p (length types) last
  last_entered = entered (length types) last (omega arith) refl

  last_behind : (n : ℕ) → (n ≡ 0 → ⊥) → ((j : ℕ) → j < n → suc p + j < length image.instructions) → suc p + n ≤ length image.instructions
  last_behind zero some h = absurd (some refl)
  last_behind (suc n) some h = omega (arith, h n (omega arith))

  last_within : last ≤ length image.instructions
  last_within = elim (cases_eq (length types) 0) [
    | inl none ↦ (let h : p < length image.instructions = before_end image v p this stands in omega arith)
    | inr some ↦ last_behind (length types) some (λ j h. before_end image v (suc p + j) (parameter_there j h).0 (parameter_there j h).1)
  ]

  last_label : ItemAt image.instructions last → (i : Instruction) × (slice_get image.instructions last ≡ Some i) × (i.op ≡ Label)
  last_label s =
      let is : List Instruction = image.instructions in
      let i : Instruction = s.instruction in
      let e : Entered is p (length types) last = last_entered in
      let some : function_of is last ≡ 0 → ⊥ = λ z. (let f : function_of is last ≡ suc p = e.function in omega arith) in
      let may : may_stand i.op 0 ≡ true = ap (may_stand i.op) (sym e.block) ∙ inside_stands image v last i.op (op_is is last i s.stands) some in
      elim (begins_block i.op may) [
        | inl l ↦ (i, s.stands, l)
        | inr r ↦ absurd (no_type (slice_index i.operands 0)
            (ap (λ (o : Option ℕ). is_id o (slice_index i.operands 0)) (sym (slice_get_past types (length types) (omega arith)))
            ∙ typed (length types) last i s.stands r e))
      ]

  abbrev Parameter : ℕ → Type 0
  Parameter x = (j : ℕ) × (j < length types) × (place_of image.instructions x 0 ≡ Some (suc p + j))

  between : (x q : ℕ) → place_of image.instructions x 0 ≡ Some q → p < q → q < last → Parameter x
  between x q found lo hi =
      let j : ℕ = q - suc p in
      let same : q ≡ suc p + j = omega arith in
      (j, omega arith, found ∙ ap (λ (n : ℕ). Some n) same)

  no_variable : (q : ℕ) → p < q → q < last → op_at image.instructions q ≡ Some Variable → ⊥
  no_variable q lo hi op =
      let j : ℕ = q - suc p in
      let same : suc p + j ≡ q = omega arith in
      let i = parameter_there j (omega arith) in
      clash i.0.op Variable i.2 refl
      (same_op i.0.op Variable (sym (op_is image.instructions (suc p + j) i.0 i.1) ∙ (ap (op_at image.instructions) same ∙ op)))

  -- at it nothing is seen but what is defined outside functions, and the parameters
  seen_last : op_at image.instructions last ≡ Some Label → (x : ℕ) (s : IsSeen image.instructions last x) → IsGlobal image.instructions x ⊎ Parameter x
  seen_last at x s =
      let is : List Instruction = image.instructions in
      let q : ℕ = s.place in
      let before : q < last = s.before in
      let f' : ℕ = function_of is (suc last) in
      let b' : ℕ = block_of is (suc last) in
      let is_f : f' ≡ suc p = ap (λ (o : Option Op). under_function o (suc last) (function_of is last)) at ∙ last_entered.function in
      let is_b : b' ≡ suc last = ap (λ (o : Option Op). under_label o (suc last) (block_of is last)) at in
      let d : DefinedAt is x q = defined_at is x q s.there in
      let in_it : (definition_at is q).scope ≡ InFunction (function_of is q) → p < q = λ e.
      (opened is p q (eqb-true (function_of is q) f' (sym (ap (λ (t : Scope). holds t last f' b') e) ∙ s.holds) ∙ is_f)).before in
      elim (lies image v q d.instruction d.stands (value_sort is x q d.instruction s.there d.stands s.value)) [
        | outside none first far ↦ inl (record { value = s.value; place = q; there = s.there; outside = none })
        | argument some op none scope ↦ inr (between x q s.there (in_it scope) before)
        | local some op front scope ↦ absurd (no_variable q (in_it scope) before op)
        | within_block some block scope ↦ (let own : block_of is q ≡ b' =
            eqb-true (block_of is q) b' (and_parts (nat_eq (block_of is q) b') (nat_lt q last) (sym (ap (λ (t : Scope). holds t last f' b') scope) ∙ s.holds)).0 in
            absurd (omega (arith, block_within is q)))
      ]

  last_runs : (r : IsRun image.instructions last) × (is_label r.instruction.op ≡ true)
  last_runs =
      let is : List Instruction = image.instructions in
      let e : function_of is last ≡ suc p = last_entered.function in
      let i = last_label (item_at is last (inside_end last last_within e)) in
      let at : op_at is last ≡ Some Label = op_is is last i.0 i.1 ∙ ap (λ (o : Op). Some o) i.2 in
      let f : function_of is (suc last) ≡ function_of is last = ap (λ (o : Option Op). under_function o (suc last) (function_of is last)) at in
      let b : block_of is (suc last) ≡ suc last = ap (λ (o : Option Op). under_label o (suc last) (block_of is last)) at in (
        record {
          instruction = i.0;
          stands = i.1;
          in_function = λ z. (let no_place : suc p ≡ 0 = sym (f ∙ e) ∙ z in omega arith);
          in_block = λ z. (let no_place : suc last ≡ 0 = sym b ∙ z in omega arith);
        },
        ap is_label i.2,
      )

  seen_there : (x : ℕ) → IsSeen image.instructions last x → IsGlobal image.instructions x ⊎ Parameter x
  seen_there x s =
      let is : List Instruction = image.instructions in
      let i = last_label (item_at is last (inside_end last last_within last_entered.function)) in
      seen_last (op_is is last i.0 i.1 ∙ ap (λ (o : Op). Some o) i.2) x s

  -- what is called begins at the Label behind its parameters
  pub function_begins : Begun image.instructions f
  function_begins =
      let is : List Instruction = image.instructions in
      let back : types ≡ parameter_types is f = sym types_are in
      let Run : List ℕ → Type 0 = λ (ts : List ℕ). (r : IsRun is (suc p + length ts)) × (is_label r.instruction.op ≡ true) in
      let In : List ℕ → Type 0 = λ (ts : List ℕ). function_of is (suc p + length ts) ≡ suc p in
      let Seen : List ℕ → Type 0 = λ (ts : List ℕ). (x : ℕ) → IsSeen is (suc p + length ts) x
      → IsGlobal is x ⊎ ((j : ℕ) × (j < length ts) × (place_of is x 0 ≡ Some (suc p + j))) in
      let Parameters : List ℕ → Type 0 = λ (ts : List ℕ). (j t : ℕ) → slice_get ts j ≡ Some t → (r : ℕ) × ParameterAt is p j t r in
      let runs : Run (parameter_types is f) = subst Run back last_runs in
      record {
        place = p;
        there = there;
        result = result;
        type = type;
        stands = stands;
        gives = ap (λ (l : List ℕ). slice_index l 0) (operands_is is f p this there stands);
        of_type = of_type;
        parameter = subst Parameters back parameter_at;
        run = runs.0;
        label = runs.1;
        in_it = subst In back last_entered.function;
        seen = subst Seen back seen_there;
      }

module _ (image : Image) (v : Valid image) (f : ℕ) (callee : is_function image.instructions f ≡ true) where
  pub function_place : (p : ℕ) × (place_of image.instructions f 0 ≡ Some p)
  function_place = some_place image.instructions f (place_of image.instructions f 0) refl callee

  function_op : (p : ℕ) → place_of image.instructions f 0 ≡ Some p → op_at image.instructions p ≡ Some Function
  function_op p found =
      let is : List Instruction = image.instructions in
      let d : DefinedAt is f p = defined_at is f p found in
      op_is is p d.instruction d.stands
      ∙ ap (λ (o : Op). Some o) (callee_sort d.instruction.op (sym (ap is_function_sort (sort_is is f p d.instruction found d.stands)) ∙ callee))

  its_id : (p : ℕ) → place_of image.instructions f 0 ≡ Some p → (a : FunctionAt image.instructions p) → a.function ≡ f
  its_id p found a =
      let is : List Instruction = image.instructions in
      let d : DefinedAt is f p = defined_at is f p found in
      let s : Some d.instruction ≡ Some (record { op = Function; operands = a.result ∷ a.function ∷ 0 ∷ a.type ∷ [] }) = sym d.stands ∙ a.stands in
      let R : Option Instruction → Option ℕ = λ (o : Option Instruction). result_in o in
      let r : Some f ≡ Some a.function = sym d.result ∙ ap R s in
      cc

  -- a function, its parameters and its first Label
  pub function : Begun image.instructions f
  function =
      let is : List Instruction = image.instructions in
      let p = function_place in
      let a : FunctionAt is p.0 = function_at image v p.0 (function_op p.0 p.1) in
      function_begins image v p.0 a.result f a.type
      (a.stands ∙ ap (λ (n : ℕ). Some (record { op = Function; operands = a.result ∷ n ∷ 0 ∷ a.type ∷ [] })) (its_id p.0 p.1 a))

  -- as many parameters follow as its type has
  pub enough_parameters : (b : Begun image.instructions f) → length (parameter_types image.instructions f) ≤ leading_parameters (drop (suc b.place) image.instructions)
  enough_parameters b =
      let ts : length (parameter_types image.instructions f) ≡ length (drop 2 (operands image.instructions b.type)) =
      ap (λ (t : ℕ). length (drop 2 (operands image.instructions t))) b.of_type in
      omega (arith, enough image v b.place b.result f b.type b.stands)
