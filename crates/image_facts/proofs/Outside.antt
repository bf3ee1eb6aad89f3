-- What stands outside of functions: declarations, before the first function.
use Rattle.std.proofs.Common.{◌≡◌, ◌≢◌, ℕ, zero, suc, ◌+◌, ◌<◌, ◌≤◌, ◌⊎◌, inl, inr, Bool, true, false, ◌&&◌, not, nat_eq, nat_le, cond, List, [], ◌∷◌, length, slice_get, Option, Some, None, refl, sym, ap, subst, ◌∙◌, arith}
use Rattle.std.specs.Option.{option_map}
use Rattle.std.proofs.lemmas.Bool.{eqb-true, eqb-false, ne_eqb, cases_lt, leb-true}
use Rattle.std.proofs.lemmas.Option.{slice_get_within}
use Rattle.spirv_words.specs.declared.opcodes.Op.{Op}
use Rattle.spirv_words.specs.declared.opcodes.Op.TheVariants.{Function}
use Rattle.spirv_words.specs.declared.images.Instruction.{Instruction}
use Rattle.spirv_words.specs.declared.images.Image.{Image}
use Rattle.spirv_words.specs.Machine.{is_function}
use Rattle.image_places.specs.Places.{op_at, function_of, block_of}
use Rattle.image_rules.specs.Order.{section, section_at, reached, may_follow, may_stand, is_misplaced}
use Rattle.call_graph.proofs.Walks.{second-true}
use Rattle.spirv_check.specs.Valid.{Valid}
use Rattle.image_facts.proofs.Rules.{not-true, not-false, right-order}

pub op-there : (code : List Instruction) (k : ℕ) (i : Instruction) → slice_get code k ≡ Some i → op_at code k ≡ Some i.op
op-there code k i h = ap (option_map (λ x. x.op)) h

-- ---- sections

follows : (b : Bool) (op : Op) (block r : ℕ) → b ≡ true → is_misplaced (Some op) 0 block r ≡ false → may_follow r (section op) ≡ true
follows b op block r e h = not-false (may_follow r (section op)) h

stands : (op : Op) (f block r : ℕ) (b : Bool) → nat_eq f 0 ≡ b → b ≡ false → cond b (not (may_follow r (section op))) (not (may_stand op block)) ≡ false
    → may_stand op block ≡ true
stands op f block r true e n h = cc
stands op f block r false e n h = not-false (may_stand op block) h

-- no section is reached before those that come after
reaches : (r next : ℕ) (b : Bool) → nat_le next 4 ≡ b → cond b (nat_eq next (r + 1)) (nat_le 4 r && nat_le r next) ≡ true → r ≤ next
reaches r next true e h = let f : next ≡ r + 1 = eqb-true next (r + 1) h in omega arith
reaches r next false e h = leb-true r next (second-true (nat_le 4 r) (nat_le r next) h)

last-section : (op : Op) → is_function op ≡ false → nat_le (section op) 13 ≡ true
last-section Function e = cc
last-section op e = refl

pub some-section : (r next : ℕ) → may_follow r next ≡ true → next ≢ 0
some-section r next h z =
    let e : may_follow r 0 ≡ true = subst (λ (n : ℕ). may_follow r n ≡ true) z h in
    let f : 0 ≡ r + 1 = eqb-true 0 (r + 1) e in
    omega arith

function-is : (op : Op) → is_function op ≡ true → op ≡ Function
function-is Function e = refl
function-is op e = cc

pub absurd-none : (code : List Instruction) (k : ℕ) → k < length code → slice_get code k ≡ None → ⊥
absurd-none [] k l e = omega arith
absurd-none (x ∷ code) zero l e = cc
absurd-none (x ∷ code) (suc k) l e = absurd-none code k (omega arith) e

-- no Function stands among the first so many instructions
abbrev pub NoFunction : List Instruction → ℕ → Type 0
NoFunction code k = (j : ℕ) (i : Instruction) → j < k → slice_get code j ≡ Some i → is_function i.op ≡ false

module _ (image : Image) (v : Valid image) where
  in-place : (k : ℕ) (i : Instruction) → slice_get image.instructions k ≡ Some i
      → is_misplaced (Some i.op) (function_of image.instructions k) (block_of image.instructions k) (reached image.instructions k) ≡ false
  in-place k i h =
      let l : k < length image.instructions = slice_get_within image.instructions k i h in
      ap (λ (o : Option Op). is_misplaced o (function_of image.instructions k) (block_of image.instructions k) (reached image.instructions k)) (sym (op-there image.instructions k i h))
      ∙ right-order image v k (omega arith)

  pub outside-follows : (k : ℕ) (i : Instruction) → slice_get image.instructions k ≡ Some i → function_of image.instructions k ≡ 0
      → may_follow (reached image.instructions k) (section i.op) ≡ true
  outside-follows k i h z =
      follows true i.op (block_of image.instructions k) (reached image.instructions k) refl
      (subst (λ (f : ℕ). is_misplaced (Some i.op) f (block_of image.instructions k) (reached image.instructions k) ≡ false) z (in-place k i h))

  pub inside-stands : (k : ℕ) (i : Instruction) → slice_get image.instructions k ≡ Some i → function_of image.instructions k ≢ 0
      → may_stand i.op (block_of image.instructions k) ≡ true
  inside-stands k i h n =
      stands i.op (function_of image.instructions k) (block_of image.instructions k) (reached image.instructions k) (nat_eq (function_of image.instructions k) 0) refl
      (ne_eqb (function_of image.instructions k) 0 n) (in-place k i h)

  -- what may not stand in functions stands outside
  pub must-stand-outside : (k : ℕ) (i : Instruction) → slice_get image.instructions k ≡ Some i → ((block : ℕ) → may_stand i.op block ≡ false)
      → function_of image.instructions k ≡ 0
  must-stand-outside k i h never =
      either (nat_eq (function_of image.instructions k) 0) refl
    where
      either : (b : Bool) → nat_eq (function_of image.instructions k) 0 ≡ b → function_of image.instructions k ≡ 0
      either true e = eqb-true (function_of image.instructions k) 0 e
      either false e =
          let s : may_stand i.op (block_of image.instructions k) ≡ true = inside-stands k i h (eqb-false (function_of image.instructions k) 0 e) in
          let n = never (block_of image.instructions k) in
          cc

  reached-more : (k : ℕ) (i : Instruction) (b : Bool) → slice_get image.instructions k ≡ Some i → nat_eq (function_of image.instructions k) 0 ≡ b
      → reached image.instructions k ≤ reached image.instructions (suc k)
  reached-more k i true h e =
      let f = outside-follows k i h (eqb-true (function_of image.instructions k) 0 e) in
      let at : reached image.instructions (suc k) ≡ section i.op =
      ap (λ (b : Bool). cond b (section_at (op_at image.instructions k)) (reached image.instructions k)) e ∙ ap section_at (op-there image.instructions k i h) in
      omega (arith, at, reaches (reached image.instructions k) (section i.op) (nat_le (section i.op) 4) refl f)
  reached-more k i false h e =
      let at : reached image.instructions (suc k) ≡ reached image.instructions k =
      ap (λ (b : Bool). cond b (section_at (op_at image.instructions k)) (reached image.instructions k)) e in
      omega (arith, at)

  function-reached : (k : ℕ) (i : Instruction) → slice_get image.instructions k ≡ Some i → is_function i.op ≡ true
      → reached image.instructions (suc k) ≡ 14
  function-reached k i h f =
      let is : i.op ≡ Function = function-is i.op f in
      let out : function_of image.instructions k ≡ 0 = must-stand-outside k i h (λ b. ap (λ (o : Op). may_stand o b) is) in
      ap (λ (n : ℕ). cond (nat_eq n 0) (section_at (op_at image.instructions k)) (reached image.instructions k)) out
      ∙ (ap section_at (op-there image.instructions k i h) ∙ ap section is)

  function-passed : (j k : ℕ) (i : Instruction) → slice_get image.instructions j ≡ Some i → is_function i.op ≡ true → j < k
      → k ≤ length image.instructions → 14 ≤ reached image.instructions k
  function-passed j zero i h f l m = absurd (omega arith)
  function-passed j (suc k) i h f l m = either (λ a. function-passed j k i h f a (omega arith)) (cases_lt j k)
    where
      more : (o : Option Instruction) → slice_get image.instructions k ≡ o → reached image.instructions k ≤ reached image.instructions (suc k)
      more (Some x) e = reached-more k x (nat_eq (function_of image.instructions k) 0) e refl
      more None e = absurd (absurd-none image.instructions k m e)

      either : (j < k → 14 ≤ reached image.instructions k) → (j < k) ⊎ (k ≤ j) → 14 ≤ reached image.instructions (suc k)
      either go (inl a) = omega (arith, go a, more (slice_get image.instructions k) refl)
      either go (inr b) =
          let same : j ≡ k = omega arith in
          let r = function-reached j i h f in
          let e : reached image.instructions (suc k) ≡ 14 = subst (λ (n : ℕ). reached image.instructions (suc n) ≡ 14) same r in
          omega (arith, e)

  -- no Function stands before a declaration
  pub before-functions : (k : ℕ) (i : Instruction) → slice_get image.instructions k ≡ Some i → function_of image.instructions k ≡ 0
      → is_function i.op ≡ false → NoFunction image.instructions k
  before-functions k i h z n j x l g = not-true (is_function x.op) (λ f.
      let m : k < length image.instructions = slice_get_within image.instructions k i h in
      let low : nat_le (section i.op) 13 ≡ true = last-section i.op n in
      let high = reaches (reached image.instructions k) (section i.op) (nat_le (section i.op) 4) refl (outside-follows k i h z) in
      omega (arith, function-passed j k x g f l (omega arith), high, leb-true (section i.op) 13 low))
