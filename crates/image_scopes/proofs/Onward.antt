-- What is run next, and what is seen there.
use Rattle.std.proofs.Common.{◌≡◌, ℕ, zero, suc, ◌<◌, inl, inr, Bool, true, false, not, ◌&&◌, nat_eq, cond, List, [], ◌∷◌, length, slice_get, Option, Some, None, refl, sym, ap, ◌∙◌, arith}
use Rattle.std.specs.Prelude.{nat_lt}
use Rattle.std.specs.Option.{option_map}
use Rattle.std.proofs.lemmas.Bool.{eqb-true, lt-ltb, eq-eqb, ne_eqb, and_parts, and_from, or_parts, not-false, cases_eq, cases_lt}
use Rattle.std.proofs.lemmas.Option.{slice_get_past}
use Rattle.spirv_words.specs.declared.opcodes.Op.{Op}
use Rattle.spirv_words.specs.declared.opcodes.Op.TheVariants.{FunctionEnd, Variable, Label, Branch, BranchConditional}
use Rattle.spirv_words.specs.declared.images.Instruction.{Instruction}
use Rattle.spirv_words.specs.declared.images.Image.{Image}
use Rattle.spirv_words.specs.Machine.{first_of, is_some_number, result_of, place_of}
use Rattle.spirv_words.specs.Layouts as layouts
use Rattle.image_places.specs.Places.{op_at, under_function, under_label, function_of, block_of}
use Rattle.image_rules.specs.Order.{reached, is_misplaced}
use Rattle.image_rules.specs.declared.table.Scope.{Scope}
use Rattle.image_rules.specs.declared.table.Scope.TheVariants.{InFunction}
use Rattle.image_rules.specs.Ids.{holds, definition_at}
use Rattle.image_rules.specs.Blocks.{is_ending, is_ending_at, has_ended, in_front, is_broken, is_label, labels, label_function, are_labels, targets}
use Rattle.spirv_check.specs.Valid.{Valid}
use Rattle.image_scopes.specs.Scopes.{IsRun, IsSeen}
use Rattle.image_scopes.specs.Facts.{Next, Target}
use Rattle.image_scopes.proofs.Kept.{before_end, in_order, block_right, targets_right, operands_fit}
use Rattle.image_scopes.proofs.Standing.{opens, closes, labels as labels_it, stays, turn, block_within}
use Rattle.image_scopes.proofs.Ordered.{Running, running, run_is, op_is, function_outside}
use Rattle.image_scopes.proofs.Front.{IsFront, behind_variables, behind_parameters}
use Rattle.image_scopes.proofs.Values.{DefinedAt, defined_at, value_sort, outside, argument, local, within, lies}
use Rattle.image_scopes.proofs.Used.{result_is_here}

-- ---- the next instruction

pub record ItemAt (code : List Instruction) (k : ℕ) : Type 0 where
  pub instruction : Instruction
  pub stands : slice_get code k ≡ Some instruction

pub item_at : (code : List Instruction) (k : ℕ) → k < length code → ItemAt code k
item_at [] k h = absurd (omega arith)
item_at (i ∷ is) zero h = record { instruction = i; stands = refl }
item_at (i ∷ is) (suc k) h = let s : ItemAt is k = item_at is k (omega arith) in record { instruction = s.instruction; stands = s.stands }

-- a function is not open at the end
pub open_at_end : (f b r : ℕ) → is_misplaced None f b r ≡ false → f ≡ 0
open_at_end f b r e = eqb-true f 0 (not-false _ (or_parts (not (nat_eq f 0)) (nat_lt r 4) e).0)

same_op : (a b : Op) → Some a ≡ Some b → a ≡ b
same_op a b e = cc

broken_end : (ended : Bool) (f b : ℕ) (front : Bool) (next : Option Op) → is_broken FunctionEnd ended f b front next ≡ false → ended ≡ true
broken_end ended f b front next e = not-false ended e

broken_label : (ended : Bool) (f b : ℕ) (front : Bool) (next : Option Op) → is_broken Label ended f b front next ≡ false → (b ≡ 0 → ⊥) → ended ≡ true
broken_label true f b front next e some = refl
broken_label false f b front next e some =
    let n : nat_eq b 0 ≡ false = ne_eqb b 0 some in
    let u : true ≡ false = ap (λ (t : Bool). not t && true) (sym n) ∙ e in
    cc

not_label : (op : Op) → (op ≡ Label → ⊥) → is_label op ≡ false
not_label Label h = absurd (h refl)
not_label op h = refl

is_the_label : (op : Op) → is_label op ≡ true → op ≡ Label
is_the_label Label e = refl
is_the_label op e = cc

clash : (b : Bool) → b ≡ true → b ≡ false → ⊥
clash b t f = cc

module _ (image : Image) (v : Valid image) (k : ℕ) (run : IsRun image.instructions k) where
  more : is_ending run.instruction.op ≡ false → suc k < length image.instructions
  more e =
      let is : List Instruction = image.instructions in
      let h : k < length is = before_end image v k run.instruction run.stands in
      elim (cases_lt (suc k) (length is)) [
        | inl l ↦ l
        | inr g ↦ (let none : op_at is (suc k) ≡ None = ap (option_map (λ (i : Instruction). i.op)) (slice_get_past is (suc k) g) in
            absurd (run.in_function (open_at_end (function_of is (suc k)) (block_of is (suc k)) (reached is (suc k))
            (ap (λ (o : Option Op). is_misplaced o (function_of is (suc k)) (block_of is (suc k)) (reached is (suc k))) (sym none)
            ∙ in_order image v (suc k) (omega arith)))))
      ]

  not_ended : is_ending run.instruction.op ≡ false → has_ended image.instructions (suc k) ≡ false
  not_ended e = ap is_ending_at (run_is image v k run) ∙ e

  unbroken : (i : Instruction) → slice_get image.instructions (suc k) ≡ Some i → (op : Op) → op_at image.instructions (suc k) ≡ Some op
      → is_broken op (has_ended image.instructions (suc k)) (function_of image.instructions (suc k)) (block_of image.instructions (suc k))
      (in_front image.instructions (suc k)) (op_at image.instructions (suc (suc k))) ≡ false
  unbroken i stands op at =
      let is : List Instruction = image.instructions in
      let same : op ≡ i.op = same_op op i.op (sym at ∙ op_is is (suc k) i stands) in
      ap (λ (o : Op). is_broken o (has_ended is (suc k)) (function_of is (suc k)) (block_of is (suc k)) (in_front is (suc k)) (op_at is (suc (suc k)))) same
      ∙ block_right image v (suc k) i stands

  -- nothing but the result is seen for the first time
  seen_before : function_of image.instructions (suc (suc k)) ≡ function_of image.instructions (suc k)
      → block_of image.instructions (suc (suc k)) ≡ block_of image.instructions (suc k) → (x : ℕ) (s : IsSeen image.instructions (suc k) x)
      → s.place < k → IsSeen image.instructions k x
  seen_before same_function same_block x s less =
      let is : List Instruction = image.instructions in
      let p : ℕ = s.place in
      let f : ℕ = function_of is (suc k) in
      let b : ℕ = block_of is (suc k) in
      let f' : ℕ = function_of is (suc (suc k)) in
      let b' : ℕ = block_of is (suc (suc k)) in
      let d : DefinedAt is x p = defined_at is x p s.there in
      let in_it : (own : ℕ) → (definition_at is p).scope ≡ InFunction own → holds (definition_at is p).scope k f b ≡ true = λ (own : ℕ) e.
      ap (λ (t : Scope). holds t k f b) e
      ∙ eq-eqb own f (eqb-true own f' (sym (ap (λ (t : Scope). holds t (suc k) f' b') e) ∙ s.holds) ∙ same_function) in
      let holding : holds (definition_at is p).scope k f b ≡ true =
      elim (lies image v p d.instruction d.stands (value_sort is x p d.instruction s.there d.stands s.value)) [
        | outside none first far ↦ far k f b less
        | argument some op none scope ↦ in_it (function_of is p) scope
        | local some op front scope ↦ in_it (function_of is p) scope
        | within some block scope ↦ ap (λ (t : Scope). holds t k f b) scope
            ∙ and_from (nat_eq (block_of is p) b) (nat_lt p k)
            (eq-eqb (block_of is p) b (eqb-true (block_of is p) b' (and_parts (nat_eq (block_of is p) b') (nat_lt p (suc k))
            (sym (ap (λ (t : Scope). holds t (suc k) f' b') scope) ∙ s.holds)).0 ∙ same_block)) (lt-ltb p k less)
      ] in
      record { value = s.value; place = p; there = s.there; before = less; holds = holding }

  result_by : (x p : ℕ) → place_of image.instructions x 0 ≡ Some p → p ≡ k
      → (result_of run.instruction.op run.instruction.operands ≡ Some x) × (place_of image.instructions x 0 ≡ Some k)
  result_by x p there e =
      let is : List Instruction = image.instructions in
      let here : place_of is x 0 ≡ Some k = there ∙ ap (λ (n : ℕ). Some n) e in
      let d : DefinedAt is x k = defined_at is x k here in
      let o : Some d.instruction ≡ Some run.instruction = sym d.stands ∙ run.stands in
      let same : d.instruction ≡ run.instruction = cc in
      (ap (λ (i : Instruction). result_of i.op i.operands) (sym same) ∙ d.result, here)

  next_by : (i : Instruction) → slice_get image.instructions (suc k) ≡ Some i → (op_at image.instructions (suc k) ≡ Some Label → ⊥)
      → function_of image.instructions (suc (suc k)) ≡ function_of image.instructions (suc k)
      → block_of image.instructions (suc (suc k)) ≡ block_of image.instructions (suc k) → Next image.instructions k run.instruction
  next_by i stands apart f b = record {
    run = record { instruction = i; stands = stands; in_function = λ e. run.in_function (sym f ∙ e); in_block = λ e. run.in_block (sym b ∙ e) };
    same_function = f;
    no_label = not_label i.op (λ e. apart (op_is image.instructions (suc k) i stands ∙ ap (λ (o : Op). Some o) e));
    seen = λ x s. elim (cases_eq s.place k) [
      | inl e ↦ inr (result_by x s.place s.there e)
      | inr other ↦ (let less : s.place < suc k = s.before in inl (seen_before f b x s (omega arith)))
    ];
  }

  -- behind an instruction that ends no block another one is run
  pub next : is_ending run.instruction.op ≡ false → Next image.instructions k run.instruction
  next e =
      let is : List Instruction = image.instructions in
      let i : ItemAt is (suc k) = item_at is (suc k) (more e) in
      let ended : Bool = has_ended is (suc k) in
      let here : (op : Op) → op_at is (suc k) ≡ Some op
      → is_broken op ended (function_of is (suc k)) (block_of is (suc k)) (in_front is (suc k)) (op_at is (suc (suc k))) ≡ false =
      unbroken i.instruction i.stands in
      elim (turn is (suc k)) [
        | opens op f b ↦ absurd (run.in_function (function_outside image v (suc k) op))
        | closes op f b ↦ absurd (clash ended (broken_end ended (function_of is (suc k)) (block_of is (suc k)) (in_front is (suc k)) (op_at is (suc (suc k))) (here FunctionEnd op)) (not_ended e))
        | labels_it op f b ↦ absurd (clash ended (broken_label ended (function_of is (suc k)) (block_of is (suc k)) (in_front is (suc k)) (op_at is (suc (suc k))) (here Label op) run.in_block) (not_ended e))
        | stays op f b ↦ next_by i.instruction i.stands op f b
      ]

-- ---- where a branch leads

pub record LabelAt (code : List Instruction) (id f : ℕ) : Type 0 where
  pub place : ℕ
  pub labels_it : labels (slice_get code place) id ≡ true
  pub in_it : function_of code place ≡ f

pub label_found : (code : List Instruction) (n id f : ℕ) → label_function code n id ≡ f → (f ≡ 0 → ⊥) → LabelAt code id f
label_found code zero id f e some = absurd (some (sym e))
label_found code (suc n) id f e some =
    elim (labels (slice_get code n) id) as (λ b. labels (slice_get code n) id ≡ b → cond b (function_of code n) (label_function code n id) ≡ f → LabelAt code id f) [
      | true ↦ λ t g. record { place = n; labels_it = t; in_it = g }
      | false ↦ λ t g. label_found code n id f g some
    ] refl e

label_of : (o : Option Instruction) (id : ℕ) → labels o id ≡ true
    → (i : Instruction) × (o ≡ Some i) × (i.op ≡ Label) × (first_of i.operands ≡ Some id)
label_of None id e = cc
label_of (Some i) id e = let p = and_parts (is_label i.op) (is_some_number (first_of i.operands) id) e in
    (i, refl, is_the_label i.op p.0, is_number (first_of i.operands) id p.1)
  where
    is_number : (o : Option ℕ) (x : ℕ) → is_some_number o x ≡ true → o ≡ Some x
    is_number None x e = cc
    is_number (Some y) x e = ap (λ (n : ℕ). Some n) (eqb-true y x e)

label_operands : (os : List ℕ) (id : ℕ) → layouts.fits Label os ≡ true → first_of os ≡ Some id → os ≡ id ∷ []
label_operands (r ∷ []) id e f = cc
label_operands os id e f = cc

pub named : (i : Instruction) (op : Op) (os : List ℕ) → i.op ≡ op → i.operands ≡ os → Some i ≡ Some (record { op = op; operands = os })
named i op os e f = ap (λ (o : Op). Some (record { op = o; operands = i.operands })) e ∙ ap (λ (l : List ℕ). Some (record { op = op; operands = l })) f

module _ (image : Image) (v : Valid image) (k : ℕ) (run : IsRun image.instructions k) (l : ℕ) where
  seen_from : (p : ℕ) → op_at image.instructions p ≡ Some Label → function_of image.instructions p ≡ function_of image.instructions k
      → (IsFront image.instructions k → ⊥) → (x : ℕ) → IsSeen image.instructions p x → IsSeen image.instructions k x
  seen_from p at same apart x s =
      let is : List Instruction = image.instructions in
      let q : ℕ = s.place in
      let before : q < p = s.before in
      let f : ℕ = function_of is (suc k) in
      let b : ℕ = block_of is (suc k) in
      let f' : ℕ = function_of is (suc p) in
      let b' : ℕ = block_of is (suc p) in
      let r : Running is k = running image v k run in
      let same' : f' ≡ f = ap (λ (o : Option Op). under_function o (suc p) (function_of is p)) at ∙ (same ∙ sym r.same) in
      let is_b : b' ≡ suc p = ap (λ (o : Option Op). under_label o (suc p) (block_of is p)) at in
      let d : DefinedAt is x q = defined_at is x q s.there in
      let in_it : (own : ℕ) → (definition_at is q).scope ≡ InFunction own → own ≡ f = λ (own : ℕ) e.
      eqb-true own f' (sym (ap (λ (t : Scope). holds t p f' b') e) ∙ s.holds) ∙ same' in
      let seen : q < k → holds (definition_at is q).scope k f b ≡ true → IsSeen is k x = λ less h.
      record { value = s.value; place = q; there = s.there; before = less; holds = h } in
      let held : (own : ℕ) → (definition_at is q).scope ≡ InFunction own → holds (definition_at is q).scope k f b ≡ true = λ (own : ℕ) e.
      ap (λ (t : Scope). holds t k f b) e ∙ eq-eqb own f (in_it own e) in
      elim (lies image v q d.instruction d.stands (value_sort is x q d.instruction s.there d.stands s.value)) [
        | outside none first far ↦ (let less : q < k = first k r.inside (omega (arith, before_end image v k run.instruction run.stands)) in seen less (far k f b less))
        | argument some op none scope ↦ seen (behind_parameters image v k run q (in_it (function_of is q) scope) op none) (held (function_of is q) scope)
        | local some op front scope ↦ elim (behind_variables image v k run q (in_it (function_of is q) scope) op front) [
          | inl less ↦ seen less (held (function_of is q) scope)
          | inr there ↦ absurd (apart there)
        ]
        | within some block scope ↦ (let own : block_of is q ≡ b' =
            eqb-true (block_of is q) b' (and_parts (nat_eq (block_of is q) b') (nat_lt q p) (sym (ap (λ (t : Scope). holds t p f' b') scope) ∙ s.holds)).0 in
            absurd (omega (arith, block_within is q)))
      ]

  -- where a Label of its function stands
  pub target : (IsFront image.instructions k → ⊥)
      → label_function image.instructions (length image.instructions) l ≡ function_of image.instructions k → Target image.instructions k l
  target apart standing =
      let is : List Instruction = image.instructions in
      let r : Running is k = running image v k run in
      let found : LabelAt is l (function_of is k) = label_found is (length is) l (function_of is k) standing r.inside in
      let p : ℕ = found.place in
      let i = label_of (slice_get is p) l found.labels_it in
      let at : op_at is p ≡ Some Label = op_is is p i.0 i.1 ∙ ap (λ (o : Op). Some o) i.2 in
      let fits : layouts.fits Label i.0.operands ≡ true = ap (λ (o : Op). layouts.fits o i.0.operands) (sym i.2) ∙ operands_fit image v p i.0 i.1 in
      let operands : i.0.operands ≡ l ∷ [] = label_operands i.0.operands l fits i.3 in
      let result : result_of i.0.op i.0.operands ≡ Some l = ap (λ (o : Op). result_of o i.0.operands) i.2 ∙ i.3 in
      let f : function_of is (suc p) ≡ function_of is p = ap (λ (o : Option Op). under_function o (suc p) (function_of is p)) at in
      let b : block_of is (suc p) ≡ suc p = ap (λ (o : Option Op). under_label o (suc p) (block_of is p)) at in
      let label : slice_get is p ≡ Some (record { op = Label; operands = l ∷ [] }) = i.1 ∙ named i.0 Label (l ∷ []) i.2 operands in
      record {
        place = p;
        there = result_is_here image v p i.0 i.1 l result;
        label = label;
        run = record {
          instruction = record { op = Label; operands = l ∷ [] };
          stands = label;
          in_function = λ e. r.inside (sym found.in_it ∙ (sym f ∙ e));
          in_block = λ e. (let none : suc p ≡ 0 = sym b ∙ e in omega arith);
        };
        same_function = found.in_it;
        seen = seen_from p at found.in_it apart;
      }

  -- ---- branches

  not_front : (op : Op) → run.instruction.op ≡ op → (op ≡ Label → ⊥) → (op ≡ Variable → ⊥) → IsFront image.instructions k → ⊥
  not_front op e label variable front =
      let here : op_at image.instructions k ≡ Some op = run_is image v k run ∙ ap (λ (o : Op). Some o) e in
      elim front [
        | inl l ↦ label (same_op op Label (sym here ∙ l))
        | inr r ↦ variable (same_op op Variable (sym here ∙ r))
      ]

  targets_are : (op : Op) (os : List ℕ) → run.instruction.op ≡ op → run.instruction.operands ≡ os
      → are_labels (label_function image.instructions (length image.instructions)) (function_of image.instructions k) (targets op os) ≡ true
  targets_are op os e f =
      let standing : ℕ → ℕ = label_function image.instructions (length image.instructions) in
      sym (ap (λ (o : Op). are_labels standing (function_of image.instructions k) (targets o run.instruction.operands)) e
      ∙ ap (λ (l : List ℕ). are_labels standing (function_of image.instructions k) (targets op l)) f)
      ∙ targets_right image v k run.instruction run.stands

no_branch : Branch ≡ Label → ⊥
no_branch e = cc

no_branch_variable : Branch ≡ Variable → ⊥
no_branch_variable e = cc

no_condition : BranchConditional ≡ Label → ⊥
no_condition e = cc

no_condition_variable : BranchConditional ≡ Variable → ⊥
no_condition_variable e = cc

first_label : (standing : ℕ → ℕ) (f id : ℕ) (ids : List ℕ) → are_labels standing f (id ∷ ids) ≡ true → (standing id ≡ f) × (are_labels standing f ids ≡ true)
first_label standing f id ids e =
    let p = and_parts (not (nat_eq f 0) && nat_eq (standing id) f) (are_labels standing f ids) e in
    (eqb-true (standing id) f (and_parts (not (nat_eq f 0)) (nat_eq (standing id) f) p.0).1, p.1)

module _ (image : Image) (v : Valid image) (k : ℕ) (run : IsRun image.instructions k) where
  pub branch : (l : ℕ) → run.instruction.op ≡ Branch → run.instruction.operands ≡ l ∷ [] → Target image.instructions k l
  branch l e f =
      target image v k run l (not_front image v k run l Branch e no_branch no_branch_variable)
      (first_label (label_function image.instructions (length image.instructions)) (function_of image.instructions k) l []
      (targets_are image v k run l Branch (l ∷ []) e f)).0

  pub branch_conditional : (c one other : ℕ) → run.instruction.op ≡ BranchConditional → run.instruction.operands ≡ c ∷ one ∷ other ∷ []
      → Target image.instructions k one × Target image.instructions k other
  branch_conditional c one other e f =
      let standing : ℕ → ℕ = label_function image.instructions (length image.instructions) in
      let a = first_label standing (function_of image.instructions k) one (other ∷ []) (targets_are image v k run one BranchConditional (c ∷ one ∷ other ∷ []) e f) in
      let b = first_label standing (function_of image.instructions k) other [] a.1 in
      let apart : IsFront image.instructions k → ⊥ = not_front image v k run one BranchConditional e no_condition no_condition_variable in
      (target image v k run one apart a.0, target image v k run other apart b.0)
