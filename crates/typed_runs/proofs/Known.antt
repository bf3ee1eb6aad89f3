-- All of it is known of the code of a valid image.
use Rattle.std.proofs.Common.{◌≡◌, ℕ, true, false, List, [], ◌∷◌, Some, slice_get, refl, sym, ap, subst, ◌∙◌}
use Rattle.behavior.specs.Values.{Word}
use Rattle.spirv_words.specs.declared.opcodes.Op.TheVariants.{FunctionParameter, FunctionCall, Branch, BranchConditional, Return, ReturnValue, Constant, ConstantNull}
use Rattle.spirv_words.specs.declared.images.Instruction.{Instruction}
use Rattle.spirv_words.specs.declared.images.Image.{Image}
use Rattle.spirv_words.specs.Machine.{Plain, null}
use Rattle.image_lookup.specs.declared.sorts.Sort.{Sort}
use Rattle.image_lookup.specs.declared.sorts.Sort.TheVariants.{PointerType, Number, Null}
use Rattle.image_lookup.specs.Lookups.{sort, operand, operands, is_value}
use Rattle.image_rules.specs.Blocks.{is_ending}
use Rattle.image_rules.specs.Ids.{role_in}
use Rattle.image_places.specs.declared.roles.Role.TheVariants.{Use}
use Rattle.image_operands.specs.Operators.{is_int}
use Rattle.image_operands.specs.Memory.{is_pointer_sort, number_of}
use Rattle.spirv_check.specs.Valid.{Valid}
use Rattle.image_scopes.specs.Scopes.{IsRun, IsSeen, IsGlobal}
use Rattle.image_scopes.specs.Facts.{Next, Target, Calls}
use Rattle.image_scopes.specs.Runs.{Runs}
use Rattle.image_scopes.proofs.Kept.{meets_rule}
use Rattle.image_scopes.proofs.Ordered.{op_is, in_functions, run_function}
use Rattle.image_scopes.proofs.Shapes.{runs}
use Rattle.image_scopes.proofs.Used.{result_is_here}
use Rattle.image_scopes.proofs.Seen.{used_is_seen}
use Rattle.image_scopes.proofs.Onward.{next, branch, branch_conditional}
use Rattle.image_scopes.proofs.Contexts.{context, returns_void, returns_value, call}
use Rattle.image_scopes.proofs.Entering.{function}
use Rattle.image_scopes.proofs.Beginning.{begin}
use Rattle.image_scopes.proofs.Signatures.{is_data_sort, data_sorted, data_is_not_void, parameter_is_not_void}
use Rattle.image_facts.specs.Operands.{globals_of, type_id, is_local}
use Rattle.image_facts.proofs.Sorts.{sorted, op-null}
use Rattle.image_facts.proofs.Shapes.{IsDeclared, declaration, declared-constant, layout, valued, constant-word, shape-bool, shape-int, shape-vector, shape-pointer}
use Rattle.image_facts.proofs.Data.{shape-array, shape-runtime, shape-struct, data-shape, bool-data, int-data, vector-data, component-data, array-data, data-member, vector-lanes}
use Rattle.image_facts.proofs.Values.{null-means, local-shape}
use Rattle.image_facts.proofs.Globals.{global-stands}
use Rattle.typed_runs.proofs.Facts.{Facts, Holds, Entry}
use Rattle.typed_runs.proofs.Types.{of_int}

data_points : (s : Sort) → is_data_sort s ≡ true → is_pointer_sort s ≡ true → ⊥
data_points PointerType d p = cc
data_points s d p = cc

module _ (image : Image) (v : Valid image) where
  -- ---- instructions

  this : (k : ℕ) (i : Instruction) (run : IsRun image.instructions k) → slice_get image.instructions k ≡ Some i → run.instruction ≡ i
  this k i run e =
      let f : Some run.instruction ≡ Some i = sym run.stands ∙ e in
      cc

  runs_at : (k : ℕ) (i : Instruction) → IsRun image.instructions k → slice_get image.instructions k ≡ Some i → Runs i.op i.operands
  runs_at k i run e = subst (λ (y : Instruction). Runs y.op y.operands) (this k i run e) (runs image v k run)

  used_at : (k : ℕ) (i : Instruction) → IsRun image.instructions k → slice_get image.instructions k ≡ Some i → (j x : ℕ) → slice_get i.operands j ≡ Some x
      → role_in i j ≡ Use → is_value image.instructions x ≡ true → IsSeen image.instructions k x
  used_at k i run e =
      subst (λ (y : Instruction). (j x : ℕ) → slice_get y.operands j ≡ Some x → role_in y j ≡ Use → is_value image.instructions x ≡ true
      → IsSeen image.instructions k x) (this k i run e) (used_is_seen image v k run)

  next_at : (k : ℕ) (i : Instruction) → IsRun image.instructions k → slice_get image.instructions k ≡ Some i → is_ending i.op ≡ false
      → Next image.instructions k i
  next_at k i run e =
      subst (λ (y : Instruction). is_ending y.op ≡ false → Next image.instructions k y) (this k i run e) (next image v k run)

  branch_at : (k l : ℕ) → IsRun image.instructions k → slice_get image.instructions k ≡ Some (record { op = Branch; operands = l ∷ [] })
      → Target image.instructions k l
  branch_at k l run e =
      let t = this k (record { op = Branch; operands = l ∷ [] }) run e in
      branch image v k run l (ap (λ (y : Instruction). y.op) t) (ap (λ (y : Instruction). y.operands) t)

  choice_at : (k c one other : ℕ) → IsRun image.instructions k
      → slice_get image.instructions k ≡ Some (record { op = BranchConditional; operands = c ∷ one ∷ other ∷ [] })
      → Target image.instructions k one × Target image.instructions k other
  choice_at k c one other run e =
      let t = this k (record { op = BranchConditional; operands = c ∷ one ∷ other ∷ [] }) run e in
      branch_conditional image v k run c one other (ap (λ (y : Instruction). y.op) t) (ap (λ (y : Instruction). y.operands) t)

  call_at : (k t r f : ℕ) (arguments : List ℕ) → IsRun image.instructions k
      → slice_get image.instructions k ≡ Some (record { op = FunctionCall; operands = t ∷ r ∷ f ∷ arguments }) → Calls image.instructions k t r f arguments
  call_at k t r f arguments run e =
      let s = this k (record { op = FunctionCall; operands = t ∷ r ∷ f ∷ arguments }) run e in
      call image v k run t r f arguments (ap (λ (y : Instruction). y.op) s) (ap (λ (y : Instruction). y.operands) s)

  entry : Entry image.instructions
  entry =
      let b = begin image v in
      record {
        id = b.entry;
        is_entry = b.is_entry;
        place = b.begun.place;
        there = b.begun.there;
        run = b.run;
        in_it = b.in_it ∙ b.start;
        seen = b.seen;
      }

  -- ---- constants

  declared_is_global : (x : ℕ) (op : _) → IsDeclared image.instructions x op → is_value image.instructions x ≡ true → IsGlobal image.instructions x
  declared_is_global x op d h = record { value = h; place = d.place; there = d.there; outside = d.outside }

  null_word : (x : ℕ) → IsDeclared image.instructions x ConstantNull → is_int image.instructions (type_id image.instructions x) ≡ true
      → (globals_of image.instructions).ids x ≡ Some (Plain (Word 0))
  null_word x d h =
      let t : ℕ = type_id image.instructions x in
      let s = shape-int image v t (of_int (sort image.instructions t) h) in
      valued image v x ConstantNull (Plain (Word 0)) d
      (null-means image.instructions (globals_of image.instructions) (operands image.instructions x) (layout image v x ConstantNull d) ∙ ap null s)

  constant_by : (x n : ℕ) (s : Sort) → sort image.instructions x ≡ s → is_value image.instructions x ≡ true
      → number_of s (operand image.instructions x 2) ≡ Some n → is_int image.instructions (type_id image.instructions x) ≡ true
      → IsGlobal image.instructions x × ((globals_of image.instructions).ids x ≡ Some (Plain (Word n)))
  constant_by x n Number e h c t =
      let f : operand image.instructions x 2 ≡ n = cc in
      (declared_is_global x Constant (declared-constant image v x e) h, constant-word image v x e ∙ ap (λ (w : ℕ). Some (Plain (Word w))) f)
  constant_by x n Null e h c t =
      let d = declaration image v x Null ConstantNull (sorted image.instructions x Null e (λ z. cc)) op-null (λ b. refl) refl in
      let f : 0 ≡ n = cc in
      (declared_is_global x ConstantNull d h, null_word x d t ∙ ap (λ (w : ℕ). Some (Plain (Word w))) f)
  constant_by x n s e h c t = cc

  -- ---- variables of functions

  holds : (x : ℕ) → is_local image.instructions x ≡ true → Holds image.instructions x
  holds x h =
      let l = local-shape image v x h in
      record { form = l.form; is = l.holds; plain = l.plain; begins = l.begins }

  pub known : Facts image.instructions
  known = record {
    meets_rule = λ k i e. meets_rule image v k i e;
    runs = runs_at;
    used = used_at;
    here = λ k i e. result_is_here image v k i e;
    next = next_at;
    in_function = run_function image v;
    branch = branch_at;
    choice = choice_at;
    calls = call_at;
    begun = function image v;
    entry = entry;
    within = context image v;
    returns = λ k run e. returns_void image v k run (ap (λ (y : Instruction). y.op) (this k (record { op = Return; operands = [] }) run e));
    returns_value = λ k x run e.
        (let t = this k (record { op = ReturnValue; operands = x ∷ [] }) run e in
        returns_value image v k run x (ap (λ (y : Instruction). y.op) t) (ap (λ (y : Instruction). y.operands) t));
    parameter = λ f j t c e. parameter_is_not_void image v f c j t e;
    parameter_inside = λ k t r e. in_functions image v k FunctionParameter
        (op_is image.instructions k (record { op = FunctionParameter; operands = t ∷ r ∷ [] }) e) refl;
    not_void = data_is_not_void image v;
    no_pointer = λ t d p. data_points (sort image.instructions t) (data_sorted image v t d) p;
    shape_bool = shape-bool image v;
    shape_int = shape-int image v;
    shape_vector = shape-vector image v;
    shape_array = shape-array image v;
    shape_runtime = shape-runtime image v;
    shape_struct = shape-struct image v;
    shape_pointer = shape-pointer image v;
    data_shape = data-shape image v;
    bool_data = bool-data image v;
    int_data = int-data image v;
    vector_data = vector-data image v;
    vector_lanes = λ t e. (vector-lanes image v t e).0;
    vector_element = λ t e d. component-data image v t e;
    array_element = λ t e d. array-data image v t e;
    struct_member = data-member image v;
    global = global-stands image v;
    constant = λ x n h c t. constant_by x n (sort image.instructions x) refl h c t;
    local = holds;
  }
