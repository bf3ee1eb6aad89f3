-- The function in which an instruction stands, and what the rules on types and calls know of it.
use Rattle.std.proofs.Common.{◌≡◌, ℕ, zero, suc, ◌-◌, ◌<◌, ◌≤◌, inl, inr, true, false, not, nat_eq, List, [], ◌∷◌, length, drop, slice_get, slice_index, Option, Some, None, refl, sym, ap, subst, ◌∙◌, add-one, arith}
use Rattle.std.proofs.lemmas.Bool.{eqb-true, eq-eqb, and_parts, or_parts, not-false, false_from_ne_true, cases_eq}
use Rattle.std.proofs.lemmas.Option.{get_or_from_slice_get}
use Rattle.spirv_words.specs.declared.opcodes.Op.{Op}
use Rattle.spirv_words.specs.declared.opcodes.Op.TheVariants.{Function, FunctionEnd, FunctionCall, Return, ReturnValue}
use Rattle.spirv_words.specs.declared.images.Instruction.{Instruction}
use Rattle.spirv_words.specs.declared.images.Image.{Image}
use Rattle.spirv_words.specs.Machine.{place_of}
use Rattle.spirv_words.specs.Runs.{entry_of}
use Rattle.spirv_words.specs.Layouts as layouts
use Rattle.image_lookup.specs.declared.sorts.Sort.{Sort}
use Rattle.image_lookup.specs.declared.sorts.Sort.TheVariants.{Callee}
use Rattle.image_lookup.specs.Lookups.{sort, operands_in, operands, operand}
use Rattle.image_lookup.proofs.Found.{definition-found}
use Rattle.image_declarations.specs.Holdings.{has_type, is_data}
use Rattle.image_places.specs.Places.{op_at, under_function, function_of}
use Rattle.image_types.specs.declared.functions.Context.{Context}
use Rattle.image_types.specs.Rules.{rule_of}
use Rattle.image_types.specs.Functions.{after_op, after, is_void, is_function_sort, is_function, call_fits, return_fits, return_value_fits}
use Rattle.image_types.specs.Checking.{meets, context_at}
use Rattle.image_types.proofs.Walk.{context-more}
use Rattle.call_graph.specs.Edges.{Leads}
use Rattle.image_calls.specs.Edges.{open_by, open_after, edge_of, calls}
use Rattle.image_calls.specs.Arguments.{parameter_types, are_arguments, fit_by, arguments_fit, is_entry, is_bad}
use Rattle.image_calls.specs.Calls.{LeadsBack, inside_at}
use Rattle.image_calls.proofs.Callers.{inside-more}
use Rattle.spirv_check.specs.Valid.{Valid}
use Rattle.image_scopes.specs.Scopes.{IsRun}
use Rattle.image_scopes.specs.Facts.{Within, Calls}
use Rattle.image_scopes.proofs.Kept.{before_end, meets_rule, operands_fit, call_right}
use Rattle.image_scopes.proofs.Standing.{Opened, opened}
use Rattle.image_scopes.proofs.Ordered.{running, op_is, op_before_end}
use Rattle.image_scopes.proofs.Values.{sort_is}
use Rattle.image_scopes.proofs.Used.{result_is_here}
use Rattle.image_scopes.proofs.Onward.{ItemAt, item_at, named}

-- ---- one instruction further

pub context_next : (code : List Instruction) (k : ℕ) (i : Instruction) → k < length code → slice_get code k ≡ Some i
    → context_at code (suc k) ≡ after (context_at code k) i
context_next code k i h at = ap (context_at code) (sym (add-one k)) ∙ context-more code k i h (sym (get_or_from_slice_get code k i i at))

pub inside_next : (code : List Instruction) (k : ℕ) (i : Instruction) → k < length code → slice_get code k ≡ Some i
    → inside_at code (suc k) ≡ open_after i (inside_at code k)
inside_next code k i h at = ap (inside_at code) (sym (add-one k)) ∙ inside-more code k i h (sym (get_or_from_slice_get code k i i at))

-- what the rules know in the function that an instruction opens
pub record InIt (code : List Instruction) (i : Instruction) (k : ℕ) : Type 0 where
  pub inside : (context_at code k).inside ≡ true
  pub gives : (context_at code k).result_type ≡ slice_index i.operands 0
  pub of_type : (context_at code k).type_id ≡ slice_index i.operands 3
  pub caller : inside_at code k ≡ Some (slice_index i.operands 1)

record Kept (op : Op) (os : List ℕ) (c : Context) (inside : Option ℕ) : Type 0 where
  inside_too : (after_op op os c).inside ≡ c.inside
  gives : (after_op op os c).result_type ≡ c.result_type
  of_type : (after_op op os c).type_id ≡ c.type_id
  caller : open_by op os inside ≡ inside

keeps : (op : Op) (os : List ℕ) (c : Context) (inside : Option ℕ) → (op ≡ Function → ⊥) → (op ≡ FunctionEnd → ⊥) → Kept op os c inside
keeps Function os c inside f e = absurd (f refl)
keeps FunctionEnd os c inside f e = absurd (e refl)
keeps op os c inside f e = record { inside_too = refl; gives = refl; of_type = refl; caller = refl }

begun : (code : List Instruction) (p : ℕ) (i : Instruction) → slice_get code p ≡ Some i → p < length code → i.op ≡ Function → InIt code i (suc p)
begun code p i at h e =
    let c : context_at code (suc p) ≡ after_op Function i.operands (context_at code p) =
    context_next code p i h at ∙ ap (λ (o : Op). after_op o i.operands (context_at code p)) e in
    let s : inside_at code (suc p) ≡ open_by Function i.operands (inside_at code p) =
    inside_next code p i h at ∙ ap (λ (o : Op). open_by o i.operands (inside_at code p)) e in
    record {
      inside = ap (λ (x : Context). x.inside) c;
      gives = ap (λ (x : Context). x.result_type) c;
      of_type = ap (λ (x : Context). x.type_id) c;
      caller = s;
    }

continued : (code : List Instruction) (k : ℕ) (i j : Instruction) → slice_get code k ≡ Some j → k < length code
    → (j.op ≡ Function → ⊥) → (j.op ≡ FunctionEnd → ⊥) → InIt code i k → InIt code i (suc k)
continued code k i j at h f e t =
    let c : context_at code (suc k) ≡ after (context_at code k) j = context_next code k j h at in
    let s : inside_at code (suc k) ≡ open_after j (inside_at code k) = inside_next code k j h at in
    let kept : Kept j.op j.operands (context_at code k) (inside_at code k) = keeps j.op j.operands (context_at code k) (inside_at code k) f e in
    record {
      inside = ap (λ (x : Context). x.inside) c ∙ (kept.inside_too ∙ t.inside);
      gives = ap (λ (x : Context). x.result_type) c ∙ (kept.gives ∙ t.gives);
      of_type = ap (λ (x : Context). x.type_id) c ∙ (kept.of_type ∙ t.of_type);
      caller = s ∙ (kept.caller ∙ t.caller);
    }

-- an instruction in an open function neither opens nor closes one
opens_none : (code : List Instruction) (p k : ℕ) (i : Instruction) → slice_get code k ≡ Some i → p < k → function_of code (suc k) ≡ suc p → i.op ≡ Function → ⊥
opens_none code p k i at less f e =
    let s : function_of code (suc k) ≡ suc k =
    ap (λ (o : Option Op). under_function o (suc k) (function_of code k)) (op_is code k i at ∙ ap (λ (o : Op). Some o) e) in
    omega arith

closes_none : (code : List Instruction) (p k : ℕ) (i : Instruction) → slice_get code k ≡ Some i → function_of code (suc k) ≡ suc p → i.op ≡ FunctionEnd → ⊥
closes_none code p k i at f e =
    let s : function_of code (suc k) ≡ 0 =
    ap (λ (o : Option Op). under_function o (suc k) (function_of code k)) (op_is code k i at ∙ ap (λ (o : Op). Some o) e) in
    omega arith

pub in_it : (code : List Instruction) (p k : ℕ) (i : Instruction) → slice_get code p ≡ Some i → i.op ≡ Function → p < k → k ≤ length code
    → ((m : ℕ) → p < m → m ≤ k → function_of code m ≡ suc p) → InIt code i k
in_it code p zero i at e less h open_there = absurd (omega arith)
in_it code p (suc k) i at e less h open_there = elim (cases_eq k p) [
  | inl same ↦ (let s : suc p ≡ suc k = ap suc (sym same) in
      let there : p < length code = omega arith in
      subst (λ (n : ℕ). InIt code i n) s (begun code p i at there e))
  | inr other ↦ (let before : p < k = omega arith in
      let there : k < length code = omega arith in
      let j : ItemAt code k = item_at code k there in
      let f : function_of code (suc k) ≡ suc p = open_there (suc k) less (omega arith) in
      continued code k i j.instruction j.stands there (opens_none code p k j.instruction j.stands before f) (closes_none code p k j.instruction j.stands f)
      (in_it code p k i at e before (omega arith) (λ m lo hi. open_there m lo (omega arith))))
]

-- ---- functions

pub record FunctionAt (code : List Instruction) (p : ℕ) : Type 0 where
  pub result : ℕ
  pub function : ℕ
  pub type : ℕ
  pub stands : slice_get code p ≡ Some (record { op = Function; operands = result ∷ function ∷ 0 ∷ type ∷ [] })

record FunctionOperands (os : List ℕ) : Type 0 where
  result : ℕ
  function : ℕ
  type : ℕ
  are : os ≡ result ∷ function ∷ 0 ∷ type ∷ []

function_operands : (os : List ℕ) → layouts.fits Function os ≡ true → FunctionOperands os
function_operands (t ∷ r ∷ control ∷ type ∷ []) e =
    record { result = t; function = r; type = type; are = ap (λ (n : ℕ). t ∷ r ∷ n ∷ type ∷ []) (eqb-true control 0 e) }
function_operands os e = cc

pub operands_is : (code : List Instruction) (x p : ℕ) (i : Instruction) → place_of code x 0 ≡ Some p → slice_get code p ≡ Some i → operands code x ≡ i.operands
unfolding operands
operands_is code x p i there stands = ap operands_in (sym (definition-found code x p there) ∙ stands)

same_op : (a b : Op) → Some a ≡ Some b → a ≡ b
same_op a b e = cc

fit_callee : (code : List Instruction) (s : Sort) (ts vs : List ℕ) → is_function_sort s ≡ true → fit_by code s ts vs ≡ true → are_arguments code ts vs ≡ true
fit_callee code Callee ts vs callee e = e
fit_callee code s ts vs other e = cc

module _ (image : Image) (v : Valid image) where
  pub function_at : (p : ℕ) → op_at image.instructions p ≡ Some Function → FunctionAt image.instructions p
  function_at p at =
      let i : ItemAt image.instructions p = item_at image.instructions p (op_before_end image.instructions p Function at) in
      let e : i.instruction.op ≡ Function = same_op i.instruction.op Function (sym (op_is image.instructions p i.instruction i.stands) ∙ at) in
      let fits : layouts.fits Function i.instruction.operands ≡ true =
      ap (λ (o : Op). layouts.fits o i.instruction.operands) (sym e) ∙ operands_fit image v p i.instruction i.stands in
      let o : FunctionOperands i.instruction.operands = function_operands i.instruction.operands fits in
      record {
        result = o.result;
        function = o.function;
        type = o.type;
        stands = i.stands ∙ named i.instruction Function (o.result ∷ o.function ∷ 0 ∷ o.type ∷ []) e o.are;
      }

  -- the function that is open
  pub within : (k p : ℕ) → k ≤ length image.instructions → function_of image.instructions k ≡ suc p → Within image.instructions k
  within k p h e =
      let is : List Instruction = image.instructions in
      let o : Opened is p k = opened is p k e in
      let f : FunctionAt is p = function_at p o.op in
      let i : Instruction = record { op = Function; operands = f.result ∷ f.function ∷ 0 ∷ f.type ∷ [] } in
      let t : InIt is i k = in_it is p k i f.stands refl o.before h o.throughout in
      let there : place_of is f.function 0 ≡ Some p = result_is_here image v p i f.stands f.function refl in
      record {
        place = p;
        result = f.result;
        function = f.function;
        type = f.type;
        opened = e;
        stands = f.stands;
        inside = t.inside;
        gives = t.gives;
        of_type = t.of_type;
        there = there;
        callee = ap is_function_sort (sort_is is f.function p i there f.stands);
        first = ap (λ (l : List ℕ). slice_index l 0) (operands_is is f.function p i there f.stands);
        caller = t.caller;
      }

  some_place : (n : ℕ) → (n ≡ 0 → ⊥) → n ≡ suc (n - 1)
  some_place n h = omega arith

  module _ (k : ℕ) (run : IsRun image.instructions k) where
    pub context : Within image.instructions k
    context =
        let is : List Instruction = image.instructions in
        let inside : function_of is k ≡ 0 → ⊥ = (running image v k run).inside in
        let h : k < length is = before_end image v k run.instruction run.stands in
        within k (function_of is k - 1) (omega arith) (some_place (function_of is k) inside)

    -- the rule of its opcode, by what that is
    pub meets_by : (op : Op) → run.instruction.op ≡ op
        → meets (rule_of op) image.instructions (context_at image.instructions k) k run.instruction (drop (suc k) image.instructions) ≡ true
    meets_by op e =
        let is : List Instruction = image.instructions in
        ap (λ (o : Op). meets (rule_of o) is (context_at is k) k run.instruction (drop (suc k) is)) (sym e)
        ∙ meets_rule image v k run.instruction run.stands

    pub returns_void : run.instruction.op ≡ Return → is_void image.instructions (context_at image.instructions k).result_type ≡ true
    unfolding return_fits
    returns_void e = meets_by Return e

    pub returns_value : (x : ℕ) → run.instruction.op ≡ ReturnValue → run.instruction.operands ≡ x ∷ []
        → (is_data image.instructions (context_at image.instructions k).result_type ≡ true)
        × (has_type image.instructions x (context_at image.instructions k).result_type ≡ true)
    unfolding return_value_fits
    returns_value x e f =
        let is : List Instruction = image.instructions in
        let t : ℕ = (context_at is k).result_type in
        let p = and_parts (is_data is t) (has_type is (slice_index run.instruction.operands 0) t) (meets_by ReturnValue e) in
        (p.0, ap (λ (os : List ℕ). has_type is (slice_index os 0) t) (sym f) ∙ p.1)

  -- ---- calls

  module _ (k t r f : ℕ) (arguments : List ℕ)
      (stands : slice_get image.instructions k ≡ Some (record { op = FunctionCall; operands = t ∷ r ∷ f ∷ arguments })) where
    abbrev this : Instruction
    this = record { op = FunctionCall; operands = t ∷ r ∷ f ∷ arguments }

    callee : (is_function image.instructions f ≡ true) × (operand image.instructions f 0 ≡ t)
    unfolding call_fits
    callee =
        let p = and_parts (is_function image.instructions f) (nat_eq (operand image.instructions f 0) t) (meets_rule image v k this stands) in
        (p.0, eqb-true (operand image.instructions f 0) t p.1)

    not_bad : is_bad image.instructions (entry_of image.instructions) this ≡ false
    not_bad = false_from_ne_true (is_bad image.instructions (entry_of image.instructions) this) (λ e. call_right image v k this stands (inl e))

    arguments_right : are_arguments image.instructions (parameter_types image.instructions f) arguments ≡ true
    unfolding arguments_fit
    arguments_right =
        let is : List Instruction = image.instructions in
        fit_callee is (sort is f) (parameter_types is f) arguments callee.0
        (not-false (arguments_fit is this) (or_parts (not (arguments_fit is this)) (is_entry (entry_of is) f) not_bad).0)

    no_entry : entry_of image.instructions ≡ Some f → ⊥
    no_entry e =
        let is : List Instruction = image.instructions in
        let t : is_entry (Some f) f ≡ false = ap (λ (o : Option ℕ). is_entry o f) (sym e) ∙ (or_parts (not (arguments_fit is this)) (is_entry (entry_of is) f) not_bad).1 in
        let s : nat_eq f f ≡ true = eq-eqb f f refl in
        cc

    never_back : (caller : ℕ) → inside_at image.instructions k ≡ Some caller → Leads (calls None image.instructions) f caller → ⊥
    never_back caller e leads =
        let is : List Instruction = image.instructions in
        let P : Option ℕ → Type 0 = λ (o : Option ℕ). LeadsBack (calls None is) (edge_of this o) in
        call_right image v k this stands (inr (subst P (sym e) leads))

    pub call_at : Calls image.instructions k t r f arguments
    call_at = record { callee = callee.0; gives = callee.1; fit = arguments_right; no_entry = no_entry; never_back = never_back }

  pub call : (k : ℕ) (run : IsRun image.instructions k) (t r f : ℕ) (arguments : List ℕ) → run.instruction.op ≡ FunctionCall
      → run.instruction.operands ≡ t ∷ r ∷ f ∷ arguments → Calls image.instructions k t r f arguments
  call k run t r f arguments e g = call_at k t r f arguments (run.stands ∙ named run.instruction FunctionCall (t ∷ r ∷ f ∷ arguments) e g)
