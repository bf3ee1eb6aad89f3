-- What the order of a valid image says of where instructions stand.
use Rattle.std.proofs.Common.{◌≡◌, ℕ, zero, suc, ◌+◌, ◌<◌, ◌≤◌, ◌⊎◌, inl, inr, Bool, true, false, not, ◌&&◌, nat_eq, cond, List, [], ◌∷◌, length, slice_get, Option, Some, None, refl, sym, ap, subst, ◌∙◌, arith}
use Rattle.std.specs.Prelude.{nat_le}
use Rattle.std.specs.Option.{option_map}
use Rattle.std.proofs.lemmas.Bool.{eqb-true, eq-eqb, ne_eqb, leb-true, not-false, cases_eq, cases_lt, cond-true, cond-false, and_parts}
use Rattle.std.proofs.lemmas.Option.{slice_get_past}
use Rattle.spirv_words.specs.declared.opcodes.Op.{Op}
use Rattle.spirv_words.specs.declared.opcodes.Op.TheVariants.{Function, FunctionParameter, FunctionEnd, Variable, Label}
use Rattle.spirv_words.specs.declared.images.Instruction.{Instruction}
use Rattle.spirv_words.specs.declared.images.Image.{Image}
use Rattle.image_places.specs.Places.{op_at, under_function, function_of, block_of}
use Rattle.image_rules.specs.Order.{section, section_at, reached, may_follow, may_stand, is_misplaced}
use Rattle.spirv_check.specs.Valid.{Valid}
use Rattle.image_scopes.specs.Runs.{may_run}
use Rattle.image_scopes.specs.Scopes.{IsRun}
use Rattle.image_scopes.proofs.Kept.{in_order}
use Rattle.image_scopes.proofs.Standing.{opens, closes, labels, stays, turn, block_within}

nothing : (op : Op) → None ≡ Some op → ⊥
nothing op e = cc

-- where an opcode stands there is an instruction
pub op_before_end : (code : List Instruction) (k : ℕ) (op : Op) → op_at code k ≡ Some op → k < length code
op_before_end code k op at = elim (cases_lt k (length code)) [
  | inl l ↦ l
  | inr g ↦ absurd (nothing op (sym (ap (option_map (λ (i : Instruction). i.op)) (slice_get_past code k g)) ∙ at))
]

pub op_is : (code : List Instruction) (k : ℕ) (i : Instruction) → slice_get code k ≡ Some i → op_at code k ≡ Some i.op
op_is code k i at = ap (option_map (λ (i : Instruction). i.op)) at

-- outside functions a section follows the one that was reached
outside_test : (op : Op) (f b r : ℕ) → f ≡ 0 → is_misplaced (Some op) f b r ≡ false → may_follow r (section op) ≡ true
outside_test op f b r none e = not-false _ (sym (cond-true (nat_eq f 0) _ _ (eq-eqb f 0 none)) ∙ e)

-- in functions an opcode stands that may stand there
inside_test : (op : Op) (f b r : ℕ) → (f ≡ 0 → ⊥) → is_misplaced (Some op) f b r ≡ false → may_stand op b ≡ true
inside_test op f b r some e = not-false _ (sym (cond-false (nat_eq f 0) _ _ (ne_eqb f 0 some)) ∙ e)

follows : (b : Bool) (r n : ℕ) → nat_le n 4 ≡ b → cond b (nat_eq n (r + 1)) (nat_le 4 r && nat_le r n) ≡ true → r ≤ n
follows true r n t e = let s : n ≡ r + 1 = eqb-true n (r + 1) e in omega arith
follows false r n t e = leb-true r n (and_parts (nat_le 4 r) (nat_le r n) e).1

-- sections do not go back
pub follows_on : (r n : ℕ) → may_follow r n ≡ true → r ≤ n
follows_on r n e = follows (nat_le n 4) r n refl e

not_first : (r : ℕ) → may_follow r 0 ≡ true → ⊥
not_first r e = let s : 0 ≡ r + 1 = eqb-true 0 (r + 1) e in absurd (omega arith)

-- what may stand in a block may be run
may_run_there : (op : Op) (b : ℕ) → (op ≡ FunctionEnd → ⊥) → nat_eq b 0 ≡ false → may_stand op b ≡ true → may_run op ≡ true
may_run_there FunctionParameter b end e h = cc
may_run_there FunctionEnd b end e h = absurd (end refl)
may_run_there Label b end e h = refl
may_run_there Variable b end e h = refl
may_run_there op b end e h = subst (λ (t : Bool). (nat_eq (section op) 0 && not t) ≡ true) e h

record SomeOp (o : Option Op) : Type 0 where
  op : Op
  is : o ≡ Some op

some_op : (code : List Instruction) (k : ℕ) → k < length code → SomeOp (op_at code k)
some_op [] k h = absurd (omega arith)
some_op (i ∷ is) zero h = record { op = i.op; is = refl }
some_op (i ∷ is) (suc k) h = let s : SomeOp (op_at is k) = some_op is k (omega arith) in record { op = s.op; is = s.is }

-- an instruction of a function that is a Label, or stands behind one
pub record Running (code : List Instruction) (k : ℕ) : Type 0 where
  pub same : function_of code (suc k) ≡ function_of code k
  pub inside : function_of code k ≡ 0 → ⊥
  pub place : ((op_at code k ≡ Some Label) × (block_of code (suc k) ≡ suc k)) ⊎ ((op_at code k ≡ Some Label → ⊥) × (block_of code (suc k) ≡ block_of code k))

label_is : (a b : Op) → Some a ≡ Some b → a ≡ b
label_is a b e = cc

module _ (image : Image) (v : Valid image) where
  -- outside of functions
  pub outside_follows : (k : ℕ) (op : Op) → op_at image.instructions k ≡ Some op → function_of image.instructions k ≡ 0
      → may_follow (reached image.instructions k) (section op) ≡ true
  outside_follows k op at none =
      let is : List Instruction = image.instructions in
      let h : k ≤ length is = omega (arith, op_before_end is k op at) in
      outside_test op (function_of is k) (block_of is k) (reached is k) none
      (sym (ap (λ (t : Option Op). is_misplaced t (function_of is k) (block_of is k) (reached is k)) at) ∙ in_order image v k h)

  pub inside_stands : (k : ℕ) (op : Op) → op_at image.instructions k ≡ Some op → (function_of image.instructions k ≡ 0 → ⊥)
      → may_stand op (block_of image.instructions k) ≡ true
  inside_stands k op at some =
      let is : List Instruction = image.instructions in
      let h : k ≤ length is = omega (arith, op_before_end is k op at) in
      inside_test op (function_of is k) (block_of is k) (reached is k) some
      (sym (ap (λ (t : Option Op). is_misplaced t (function_of is k) (block_of is k) (reached is k)) at) ∙ in_order image v k h)

  -- what has no section stands in functions alone
  pub in_functions : (k : ℕ) (op : Op) → op_at image.instructions k ≡ Some op → section op ≡ 0 → function_of image.instructions k ≡ 0 → ⊥
  in_functions k op at plain none =
      not_first (reached image.instructions k)
      (ap (may_follow (reached image.instructions k)) (sym plain) ∙ outside_follows k op at none)

  -- functions stand outside of functions
  pub function_outside : (k : ℕ) → op_at image.instructions k ≡ Some Function → function_of image.instructions k ≡ 0
  function_outside k at = elim (cases_eq (function_of image.instructions k) 0) [
    | inl e ↦ e
    | inr some ↦ (let h : false ≡ true = inside_stands k Function at some in cc)
  ]

  -- no block is open outside of functions
  pub no_block_outside : (k : ℕ) → function_of image.instructions k ≡ 0 → block_of image.instructions k ≡ 0
  no_block_outside zero none = refl
  no_block_outside (suc k) none = elim (turn image.instructions k) [
    | opens op f b ↦ absurd (omega arith)
    | closes op f b ↦ b
    | labels op f b ↦ absurd (in_functions k Label op refl (sym f ∙ none))
    | stays op f b ↦ b ∙ no_block_outside k (sym f ∙ none)
  ]

  -- one block is of one function
  pub one_function : (j q : ℕ) → j ≤ q → block_of image.instructions j ≡ block_of image.instructions q → (block_of image.instructions q ≡ 0 → ⊥)
      → function_of image.instructions j ≡ function_of image.instructions q
  one_function j zero h same some = let e : j ≡ 0 = omega arith in ap (function_of image.instructions) e
  one_function j (suc q) h same some = elim (cases_eq j (suc q)) [
    | inl e ↦ ap (function_of image.instructions) e
    | inr other ↦ (let le : j ≤ q = omega arith in
        let w : block_of image.instructions j ≤ j = block_within image.instructions j in
        elim (turn image.instructions q) [
          | opens op f b ↦ absurd (some (b ∙ no_block_outside q (function_outside q op)))
          | closes op f b ↦ absurd (some b)
          | labels op f b ↦ absurd (omega arith)
          | stays op f b ↦ one_function j q le (same ∙ b) (λ e. some (b ∙ e)) ∙ sym f
        ])
  ]

  -- ---- sections

  -- in functions the last section was reached
  pub last_section : (k : ℕ) → (function_of image.instructions k ≡ 0 → ⊥) → 14 ≤ reached image.instructions k
  last_section zero some = absurd (some refl)
  last_section (suc k) some =
      let is : List Instruction = image.instructions in
      let r : ℕ → ℕ = λ (t : ℕ). cond (nat_eq t 0) (section_at (op_at is k)) (reached is k) in
      let on : function_of is (suc k) ≡ function_of is k → 14 ≤ reached is (suc k) = λ f.
      (let e : reached is (suc k) ≡ reached is k = cond-false (nat_eq (function_of is k) 0) _ _ (ne_eqb _ 0 (λ e. some (f ∙ e))) in
      omega (arith, e, last_section k (λ e. some (f ∙ e)))) in
      elim (turn is k) [
        | opens op f b ↦ (let e : reached is (suc k) ≡ 14 = ap r (function_outside k op) ∙ ap section_at op in omega arith)
        | closes op f b ↦ absurd (some f)
        | labels op f b ↦ on f
        | stays op f b ↦ on f
      ]

  -- a section that stands outside functions is reached there
  reached_here : (k : ℕ) (op : Op) → op_at image.instructions k ≡ Some op → function_of image.instructions k ≡ 0
      → reached image.instructions (suc k) ≡ section op
  reached_here k op at none =
      let is : List Instruction = image.instructions in
      ap (λ (t : ℕ). cond (nat_eq t 0) (section_at (op_at is k)) (reached is k)) none ∙ ap section_at at

  one_grows : (k : ℕ) → suc k ≤ length image.instructions → reached image.instructions k ≤ reached image.instructions (suc k)
  one_grows k end =
      let is : List Instruction = image.instructions in
      elim (cases_eq (function_of is k) 0) [
        | inl none ↦ (let s : SomeOp (op_at is k) = some_op is k end in
            let grown : reached is k ≤ section s.op = follows_on (reached is k) (section s.op) (outside_follows k s.op s.is none) in
            omega (arith, reached_here k s.op s.is none))
        | inr some ↦ (let e : reached is (suc k) ≡ reached is k = cond-false (nat_eq (function_of is k) 0) _ _ (ne_eqb _ 0 some) in omega arith)
      ]

  -- sections do not go back
  pub reached_grows : (j k : ℕ) → j ≤ k → k ≤ length image.instructions → reached image.instructions j ≤ reached image.instructions k
  reached_grows j zero h end = let e : j ≡ 0 = omega arith in omega (arith, ap (reached image.instructions) e)
  reached_grows j (suc k) h end = elim (cases_eq j (suc k)) [
    | inl e ↦ omega (arith, ap (reached image.instructions) e)
    | inr other ↦ (let le : j ≤ k = omega arith in
        let so_far : reached image.instructions j ≤ reached image.instructions k = reached_grows j k le (omega arith) in
        let one : reached image.instructions k ≤ reached image.instructions (suc k) = one_grows k end in
        omega arith)
  ]

  -- what stands outside of functions, but for functions, stands before all that stands in them
  pub before_functions : (q j : ℕ) (op : Op) → op_at image.instructions q ≡ Some op → function_of image.instructions q ≡ 0 → section op < 14
      → (function_of image.instructions j ≡ 0 → ⊥) → j ≤ length image.instructions → q < j
  before_functions q j op at none less some end = elim (cases_lt q j) [
    | inl l ↦ l
    | inr g ↦ (let here = reached_here q op at none in
        let last = last_section j some in
        let more : suc q ≤ length image.instructions = op_before_end image.instructions q op at in
        let grown : reached image.instructions j ≤ reached image.instructions (suc q) = reached_grows j (suc q) (omega arith) more in
        absurd (omega arith))
  ]

  -- ---- what is run

  pub run_is : (k : ℕ) (r : IsRun image.instructions k) → op_at image.instructions k ≡ Some r.instruction.op
  run_is k r = op_is image.instructions k r.instruction r.stands

  pub running : (k : ℕ) → IsRun image.instructions k → Running image.instructions k
  running k r =
      let is : List Instruction = image.instructions in
      let inside : function_of is (suc k) ≡ 0 → ⊥ = r.in_function in
      let block : block_of is (suc k) ≡ 0 → ⊥ = r.in_block in
      elim (turn is k) [
        | opens op f b ↦ absurd (block (b ∙ no_block_outside k (function_outside k op)))
        | closes op f b ↦ absurd (inside f)
        | labels op f b ↦ record { same = f; inside = λ e. inside (f ∙ e); place = inl (op, b) }
        | stays op f b ↦ record { same = f; inside = λ e. inside (f ∙ e); place = inr (op, b) }
      ]

  -- an instruction that is run stands in a function
  pub run_function : (k : ℕ) → IsRun image.instructions k → function_of image.instructions k ≡ function_of image.instructions (suc k)
  run_function k r = sym (running k r).same

  may_run_by : (op : Op) (k : ℕ) → op_at image.instructions k ≡ Some op → Running image.instructions k → (op ≡ FunctionEnd → ⊥)
      → (block_of image.instructions (suc k) ≡ 0 → ⊥) → may_run op ≡ true
  may_run_by op k at r no_end block = elim r.place [
    | inl p ↦ (let same : op ≡ Label = label_is op Label (sym at ∙ p.0) in ap may_run same)
    | inr p ↦ may_run_there op (block_of image.instructions k) no_end (ne_eqb _ 0 (λ e. block (p.1 ∙ e))) (inside_stands k op at r.inside)
  ]

  closed_by : (k : ℕ) → op_at image.instructions k ≡ Some FunctionEnd → function_of image.instructions (suc k) ≡ 0
  closed_by k at = ap (λ (o : Option Op). under_function o (suc k) (function_of image.instructions k)) at

  -- its opcode may be run
  pub may_be_run : (k : ℕ) (r : IsRun image.instructions k) → may_run r.instruction.op ≡ true
  may_be_run k r =
      may_run_by r.instruction.op k (run_is k r) (running k r)
      (λ e. r.in_function (closed_by k (run_is k r ∙ ap (λ (o : Op). Some o) e))) r.in_block
