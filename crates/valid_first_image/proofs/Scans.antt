-- Code that keeps the rules on order and blocks and calls nothing, found by a test of one opcode after the other.
use Rattle.std.proofs.Common.{◌≡◌, ℕ, zero, suc, ◌+◌, Bool, true, false, not, ◌&&◌, ◌||◌, nat_eq, cond, List, [], ◌∷◌, ◌++◌, length, Option, Some, None, refl, ap, sym, ◌∙◌, subst, add-one, arith}
use Rattle.std.specs.Prelude.{slice_get}
use Rattle.std.specs.Option.{option_map}
use Rattle.std.proofs.lemmas.Bool.{and_parts, not-true, ne_eqb}
use Rattle.spirv_words.specs.declared.opcodes.Op.{Op}
use Rattle.spirv_words.specs.declared.opcodes.Op.TheVariants.{Function, FunctionParameter, FunctionEnd, FunctionCall, Variable, LoopMerge, SelectionMerge, Label, Branch, BranchConditional}
use Rattle.spirv_words.specs.declared.images.Instruction.{Instruction}
use Rattle.image_places.specs.Places.{op_at, under_function, under_label, function_of, block_of}
use Rattle.image_rules.specs.Order.{section, section_at, reached, may_follow, may_stand, is_misplaced, out_of_order}
use Rattle.image_rules.specs.Blocks.{is_ending, is_ending_at, has_ended, stays_in_front, in_front, targets, label_function, are_labels, is_broken, is_broken_at, breaks_block}
use Rattle.first_image.proofs.Standing.{HasAt}
use Rattle.valid_first_image.proofs.Walks.{AllAt}

-- what is open after some instructions, 1 for a function and a block, and how far they have come
pub record Scan : Type 0 where
  pub function : ℕ
  pub block : ℕ
  pub reached : ℕ
  pub front : Bool
  pub ended : Bool

abbrev pub flag : ℕ → ℕ
flag zero = 0
flag (suc n) = 1

pub record Shows (code : List Instruction) (k : ℕ) (s : Scan) : Type 0 where
  pub function : flag (function_of code k) ≡ s.function
  pub block : flag (block_of code k) ≡ s.block
  pub reached : reached code k ≡ s.reached
  pub front : in_front code k ≡ s.front
  pub ended : has_ended code k ≡ s.ended

abbrev pub next : Scan → Op → Scan
next s op = record {
  function = under_function (Some op) 1 s.function;
  block = under_label (Some op) 1 s.block;
  reached = cond (nat_eq s.function 0) (section op) s.reached;
  front = stays_in_front (Some op) s.block s.front;
  ended = is_ending op;
}

-- an opcode that neither branches nor calls
abbrev pub is_simple : Op → Bool
is_simple LoopMerge = false
is_simple SelectionMerge = false
is_simple Branch = false
is_simple BranchConditional = false
is_simple FunctionCall = false
is_simple op = true

abbrev pub good : Scan → Op → Bool
good s op = not (is_misplaced (Some op) s.function s.block s.reached) && (not (is_broken op s.ended s.function s.block s.front None) && is_simple op)

abbrev pub runs : Scan → List Instruction → Bool
runs s [] = true
runs s (i ∷ is) = good s i.op && runs (next s i.op) is

abbrev pub ending : Scan → List Instruction → Scan
ending s [] = s
ending s (i ∷ is) = ending (next s i.op) is

both : (a b : Bool) → a ≡ true → b ≡ true → (a && b) ≡ true
both a b e f = ap (λ x. x && b) e ∙ f

pub runs_on : (a b : List Instruction) (s : Scan) → runs s a ≡ true → runs (ending s a) b ≡ true → runs s (a ++ b) ≡ true
runs_on [] b s h g = g
runs_on (i ∷ a) b s h g =
    let p = and_parts (good s i.op) (runs (next s i.op) a) h in
    both (good s i.op) (runs (next s i.op) (a ++ b)) p.0 (runs_on a b (next s i.op) p.1 g)

pub ending_on : (a b : List Instruction) (s : Scan) → ending s (a ++ b) ≡ ending (ending s a) b
ending_on [] b s = refl
ending_on (i ∷ a) b s = ending_on a b (next s i.op)

-- ---- flags tell as much as numbers

flag_zero : (n : ℕ) → nat_eq n 0 ≡ nat_eq (flag n) 0
flag_zero zero = refl
flag_zero (suc n) = ne_eqb (suc n) 0 (λ e. absurd (omega arith))

flag_function : (op : Op) (k f : ℕ) → flag (under_function (Some op) (suc k) f) ≡ under_function (Some op) 1 (flag f)
flag_function Function k f = refl
flag_function FunctionEnd k f = refl
flag_function op k f = refl

flag_block : (op : Op) (k b : ℕ) → flag (under_label (Some op) (suc k) b) ≡ under_label (Some op) 1 (flag b)
flag_block Label k b = refl
flag_block FunctionEnd k b = refl
flag_block op k b = refl

flag_front : (op : Op) (b : ℕ) (before : Bool) → stays_in_front (Some op) b before ≡ stays_in_front (Some op) (flag b) before
flag_front Label b before = flag_zero b
flag_front Variable b before = refl
flag_front op b before = refl

flag_stand : (op : Op) (b : ℕ) → may_stand op b ≡ may_stand op (flag b)
flag_stand Label b = refl
flag_stand FunctionParameter b = flag_zero b
flag_stand Variable b = ap not (flag_zero b)
flag_stand op b = ap (λ x. nat_eq (section op) 0 && not x) (flag_zero b)

flag_misplaced : (op : Op) (f b r : ℕ) → is_misplaced (Some op) f b r ≡ is_misplaced (Some op) (flag f) (flag b) r
flag_misplaced op f b r =
    ap (λ x. cond x (not (may_follow r (section op))) (not (may_stand op b))) (flag_zero f)
    ∙ ap (λ x. cond (nat_eq (flag f) 0) (not (may_follow r (section op))) (not x)) (flag_stand op b)

or_not : (b : Bool) → (b || true) ≡ false → ⊥
or_not true e = cc
or_not false e = cc

flag_broken : (op : Op) (e : Bool) (f b : ℕ) (front : Bool) (follows : Option Op) → is_broken op e (flag f) (flag b) front None ≡ false → is_broken op e f b front follows ≡ false
flag_broken Label e f b front follows h = ap (λ x. not x && not e) (flag_zero b) ∙ h
flag_broken FunctionEnd e f b front follows h = h
flag_broken Variable e f b front follows h = ap (λ x. e || (not x && not front)) (flag_zero f) ∙ h
flag_broken LoopMerge e f b front follows h = absurd (or_not e h)
flag_broken SelectionMerge e f b front follows h = absurd (or_not e h)
flag_broken op e f b front follows h = h

simple_targets : (op : Op) (os : List ℕ) → is_simple op ≡ true → targets op os ≡ []
simple_targets LoopMerge os e = absurd cc
simple_targets SelectionMerge os e = absurd cc
simple_targets Branch os e = absurd cc
simple_targets BranchConditional os e = absurd cc
simple_targets op os e = refl

-- ---- code that passes the test

pub record Kept (code : List Instruction) (k : ℕ) (i : Instruction) : Type 0 where
  pub in_order : out_of_order code k ≡ false
  pub in_blocks : breaks_block code k ≡ false
  pub simple : is_simple i.op ≡ true

module _ (code : List Instruction) where
  op_is : (k : ℕ) (i : Instruction) → slice_get code k ≡ Some i → op_at code k ≡ Some i.op
  op_is k i at = ap (option_map (λ (i : Instruction). i.op)) at

  -- one instruction further
  shows_next : (k : ℕ) (s : Scan) (op : Op) → Shows code k s → op_at code k ≡ Some op → Shows code (suc k) (next s op)
  shows_next k s op h e = record {
    function = ap (λ o. flag (under_function o (suc k) (function_of code k))) e ∙ flag_function op k (function_of code k) ∙ ap (under_function (Some op) 1) h.function;
    block = ap (λ o. flag (under_label o (suc k) (block_of code k))) e ∙ flag_block op k (block_of code k) ∙ ap (under_label (Some op) 1) h.block;
    reached = ap (λ o. cond (nat_eq (function_of code k) 0) (section_at o) (reached code k)) e
        ∙ ap (λ x. cond x (section op) (reached code k)) (flag_zero (function_of code k) ∙ ap (λ n. nat_eq n 0) h.function)
        ∙ ap (λ x. cond (nat_eq s.function 0) (section op) x) h.reached;
    front = ap (λ o. stays_in_front o (block_of code k) (in_front code k)) e ∙ flag_front op (block_of code k) (in_front code k)
        ∙ ap (λ b. stays_in_front (Some op) b (in_front code k)) h.block ∙ ap (stays_in_front (Some op) s.block) h.front;
    ended = ap is_ending_at e;
  }

  shows_one : (k : ℕ) (s : Scan) (op : Op) → Shows code k s → op_at code k ≡ Some op → Shows code (k + 1) (next s op)
  shows_one k s op h e = subst (λ n. Shows code n (next s op)) (sym (add-one k)) (shows_next k s op h e)

  kept : (k : ℕ) (s : Scan) (i : Instruction) → Shows code k s → slice_get code k ≡ Some i → good s i.op ≡ true → Kept code k i
  kept k s i h at e =
      let p = and_parts (not (is_misplaced (Some i.op) s.function s.block s.reached)) (not (is_broken i.op s.ended s.function s.block s.front None) && is_simple i.op) e in
      let q = and_parts (not (is_broken i.op s.ended s.function s.block s.front None)) (is_simple i.op) p.1 in
      let f = function_of code k in
      let b = block_of code k in
      let order : is_misplaced (Some i.op) f b (reached code k) ≡ false =
      flag_misplaced i.op f b (reached code k)
      ∙ ap (λ x. is_misplaced (Some i.op) x (flag b) (reached code k)) h.function
      ∙ ap (λ x. is_misplaced (Some i.op) s.function x (reached code k)) h.block
      ∙ ap (is_misplaced (Some i.op) s.function s.block) h.reached ∙ not-true (is_misplaced (Some i.op) s.function s.block s.reached) p.0 in
      let flags : is_broken i.op (has_ended code k) (flag f) (flag b) (in_front code k) None ≡ false =
      ap (λ x. is_broken i.op x (flag f) (flag b) (in_front code k) None) h.ended
      ∙ ap (λ x. is_broken i.op s.ended x (flag b) (in_front code k) None) h.function
      ∙ ap (λ x. is_broken i.op s.ended s.function x (in_front code k) None) h.block
      ∙ ap (λ x. is_broken i.op s.ended s.function s.block x None) h.front ∙ not-true (is_broken i.op s.ended s.function s.block s.front None) q.0 in
      let blocks : is_broken i.op (has_ended code k) f b (in_front code k) (op_at code (suc k)) ≡ false = flag_broken i.op (has_ended code k) f b (in_front code k) (op_at code (suc k)) flags in
      record {
        in_order = ap (λ o. is_misplaced o f b (reached code k)) (op_is k i at) ∙ order;
        in_blocks = ap (λ o. is_broken_at o code k) at
            ∙ ap (λ ts. is_broken i.op (has_ended code k) f b (in_front code k) (op_at code (suc k)) || not (are_labels (label_function code (length code)) f ts)) (simple_targets i.op i.operands q.1)
            ∙ ap (λ x. x || false) blocks;
        simple = q.1;
      }

  pub all_kept : (is : List Instruction) (k : ℕ) (s : Scan) → HasAt code k is → Shows code k s → runs s is ≡ true → AllAt (Kept code) k is
  all_kept [] k s at h e = tt
  all_kept (i ∷ is) k s at h e =
      let p = and_parts (good s i.op) (runs (next s i.op) is) e in
      (kept k s i h at.0 p.0, all_kept is (k + 1) (next s i.op) at.1 (shows_one k s i.op h (op_is k i at.0)) p.1)

  pub shown : (is : List Instruction) (k : ℕ) (s : Scan) → HasAt code k is → Shows code k s → Shows code (k + length is) (ending s is)
  shown [] k s at h = let e : k ≡ k + 0 = omega arith in subst (λ n. Shows code n s) e h
  shown (i ∷ is) k s at h =
      let e : k + 1 + length is ≡ k + length (i ∷ is) = omega arith in
      subst (λ n. Shows code n (ending s (i ∷ is))) e (shown is (k + 1) (next s i.op) at.1 (shows_one k s i.op h (op_is k i at.0)))
