-- One step of the walk that looks for an instruction out of order.
use Rattle.std.proofs.Common.{◌≡◌, ℕ, suc, ◌+◌, nat_eq, cond, List, Option, Some, slice_get, sym, ap, subst, add-one, ◌∙◌}
use Rattle.spirv_words.specs.declared.opcodes.Op.{Op}
use Rattle.spirv_words.specs.declared.images.Instruction.{Instruction}
use Rattle.image_places.specs.declared.cursor.Cursor.{Cursor}
use Rattle.image_places.specs.Places.{op_at, function_of, cursor_at}
use Rattle.image_rules.specs.Order.{section, section_at, reached, is_misplaced, out_of_order}
use Rattle.image_rules.proofs.Walking.{op_here}

same_test : (o o' : Option Op) (f f' b b' r r' : ℕ) → o ≡ o' → f ≡ f' → b ≡ b' → r ≡ r' → is_misplaced o f b r ≡ is_misplaced o' f' b' r'
same_test o o' f f' b b' r r' oe fe be re =
    ap (λ (t : Option Op). is_misplaced t f b r) oe ∙ ap (λ (t : ℕ). is_misplaced o' t b r) fe
    ∙ ap (λ (t : ℕ). is_misplaced o' f' t r) be ∙ ap (λ (t : ℕ). is_misplaced o' f' b' t) re

-- the test of the code is that of the definition
pub tested : (is : List Instruction) (k : ℕ) (o : Option Op) (x : Cursor) (r : ℕ) → x ≡ cursor_at is k → r ≡ reached is k → op_at is k ≡ o
    → is_misplaced o x.function x.block r ≡ out_of_order is k
tested is k o x r at e here = same_test _ _ _ _ _ _ _ _ (sym here) (ap (λ c. c.function) at) (ap (λ c. c.block) at) e

pub reached_next : (is : List Instruction) (k : ℕ) (i : Instruction) (x : Cursor) (r after : ℕ) → x ≡ cursor_at is k → r ≡ reached is k
    → slice_get is k ≡ Some i → after ≡ cond (nat_eq x.function 0) (section i.op) r → after ≡ reached is (k + 1)
reached_next is k i x r after at e here is_after =
    let step : cond (nat_eq x.function 0) (section i.op) r ≡ reached is (suc k) =
    ap (λ (t : ℕ). cond (nat_eq t 0) (section i.op) r) (ap (λ c. c.function) at)
    ∙ ap (λ (t : Option Op). cond (nat_eq (function_of is k) 0) (section_at t) r) (sym (op_here is k i here))
    ∙ ap (λ (t : ℕ). cond (nat_eq (function_of is k) 0) (section_at (op_at is k)) t) e in
    subst (λ (n : ℕ). after ≡ reached is n) (sym (add-one k)) (is_after ∙ step)
