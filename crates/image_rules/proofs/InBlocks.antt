-- One step of the walks through the blocks.
use Rattle.std.proofs.Common.{◌≡◌, ℕ, suc, ◌+◌, ◌≤◌, Bool, false, ◌&&◌, ◌||◌, not, nat_eq, cond, List, [], ◌∷◌, Option, Some, length, slice_get, refl, sym, ap, subst, add-one, ◌∙◌}
use Rattle.spirv_words.specs.declared.opcodes.Op.{Op}
use Rattle.spirv_words.specs.declared.images.Instruction.{Instruction}
use Rattle.image_places.specs.declared.cursor.Cursor.{Cursor}
use Rattle.image_places.specs.Places.{op_at, function_of, block_of, cursor_at}
use Rattle.image_rules.specs.Blocks.{is_ending, is_ending_at, has_ended, stays_in_front, in_front, targets, labels, label_function, are_labels, is_broken, is_broken_at, breaks_block}
use Rattle.image_rules.proofs.Walking.{op_here}
use Rattle.std.proofs.lemmas.Option.{slice_get_past}

-- the functions of Labels, with one instruction more
pub label_next : (is : List Instruction) (k : ℕ) (i : Instruction) (x : Cursor) (q before after : ℕ) → x ≡ cursor_at is k → slice_get is k ≡ Some i
    → before ≡ label_function is k q → after ≡ cond (labels (Some i) q) x.function before → after ≡ label_function is (k + 1) q
label_next is k i x q before after at here e is_after =
    let step : cond (labels (Some i) q) x.function before ≡ label_function is (suc k) q =
    ap (λ (t : Option Instruction). cond (labels t q) x.function before) (sym here)
    ∙ ap (λ (t : ℕ). cond (labels (slice_get is k) q) t before) (ap (λ c. c.function) at)
    ∙ ap (λ (t : ℕ). cond (labels (slice_get is k) q) (function_of is k) t) e in
    subst (λ (n : ℕ). after ≡ label_function is n q) (sym (add-one k)) (is_after ∙ step)

pub ended_next : (is : List Instruction) (k : ℕ) (i : Instruction) (after : Bool) → slice_get is k ≡ Some i → after ≡ is_ending i.op → after ≡ has_ended is (k + 1)
ended_next is k i after here e =
    subst (λ (n : ℕ). after ≡ has_ended is n) (sym (add-one k)) (e ∙ ap is_ending_at (sym (op_here is k i here)))

pub front_next : (is : List Instruction) (k : ℕ) (i : Instruction) (x : Cursor) (before after : Bool) → x ≡ cursor_at is k → slice_get is k ≡ Some i
    → before ≡ in_front is k → after ≡ stays_in_front (Some i.op) x.block before → after ≡ in_front is (k + 1)
front_next is k i x before after at here e is_after =
    let step : stays_in_front (Some i.op) x.block before ≡ in_front is (suc k) =
    ap (λ (t : Option Op). stays_in_front t x.block before) (sym (op_here is k i here))
    ∙ ap (λ (t : ℕ). stays_in_front (op_at is k) t before) (ap (λ c. c.block) at)
    ∙ ap (λ (t : Bool). stays_in_front (op_at is k) (block_of is k) t) e in
    subst (λ (n : ℕ). after ≡ in_front is n) (sym (add-one k)) (is_after ∙ step)

-- two maps that say the same of each id
same_labels : (f g : ℕ → ℕ) (function : ℕ) (ids : List ℕ) → ((id : ℕ) → f id ≡ g id) → are_labels f function ids ≡ are_labels g function ids
same_labels f g function [] e = refl
same_labels f g function (id ∷ ids) e =
    ap (λ (t : ℕ). not (nat_eq function 0) && nat_eq t function && are_labels f function ids) (e id)
    ∙ ap (λ (t : Bool). not (nat_eq function 0) && nat_eq (g id) function && t) (same_labels f g function ids e)

same_break : (i : Instruction) (e e' : Bool) (f f' b b' : ℕ) (r r' : Bool) (o o' : Option Op) (g g' : ℕ → ℕ)
    → e ≡ e' → f ≡ f' → b ≡ b' → r ≡ r' → o ≡ o' → ((id : ℕ) → g id ≡ g' id)
    → (is_broken i.op e f b r o || not (are_labels g f (targets i.op i.operands))) ≡ (is_broken i.op e' f' b' r' o' || not (are_labels g' f' (targets i.op i.operands)))
same_break i e e' f f' b b' r r' o o' g g' ee fe be re oe ge =
    ap (λ (t : Bool). is_broken i.op t f b r o || not (are_labels g f (targets i.op i.operands))) ee
    ∙ ap (λ (t : ℕ). is_broken i.op e' t b r o || not (are_labels g t (targets i.op i.operands))) fe
    ∙ ap (λ (t : ℕ). is_broken i.op e' f' t r o || not (are_labels g f' (targets i.op i.operands))) be
    ∙ ap (λ (t : Bool). is_broken i.op e' f' b' t o || not (are_labels g f' (targets i.op i.operands))) re
    ∙ ap (λ (t : Option Op). is_broken i.op e' f' b' r' t || not (are_labels g f' (targets i.op i.operands))) oe
    ∙ ap (λ (t : Bool). is_broken i.op e' f' b' r' o' || not t) (same_labels g g' f' (targets i.op i.operands) ge)

-- the test of the code is that of the definition
pub tested : (is : List Instruction) (k : ℕ) (i : Instruction) (x : Cursor) (e r : Bool) (o : Option Op) (g : ℕ → ℕ)
    → x ≡ cursor_at is k → slice_get is k ≡ Some i → e ≡ has_ended is k → r ≡ in_front is k → o ≡ op_at is (suc k)
    → ((id : ℕ) → g id ≡ label_function is (length is) id)
    → (is_broken i.op e x.function x.block r o || not (are_labels g x.function (targets i.op i.operands))) ≡ breaks_block is k
tested is k i x e r o g at here ended front next standing =
    same_break i e (has_ended is k) x.function (function_of is k) x.block (block_of is k) r (in_front is k) o (op_at is (suc k)) g (label_function is (length is))
    ended (ap (λ c. c.function) at) (ap (λ c. c.block) at) front next standing
    ∙ ap (λ (t : Option Instruction). is_broken_at t is k) (sym here)

-- nothing stands at the end
pub end_is_right : (is : List Instruction) (k : ℕ) → length is ≤ k → breaks_block is k ≡ false
end_is_right is k h = ap (λ (t : Option Instruction). is_broken_at t is k) (slice_get_past is k h)

-- the opcode behind, by the number of a cursor
pub behind : (xs is : List Instruction) (k n : ℕ) (x : Cursor) (o : Option Op) → xs ≡ is → x ≡ cursor_at is k → o ≡ op_at xs (x.number + 1) → o ≡ op_at is (suc k)
behind xs is k n x o same at e =
    e ∙ (ap (λ (zs : List Instruction). op_at zs (x.number + 1)) same
    ∙ (ap (λ (t : ℕ). op_at is (t + 1)) (ap (λ c. c.number) at)
    ∙ ap (op_at is) (add-one k)))

pub standing_in : (xs is : List Instruction) (g : ℕ → ℕ) → xs ≡ is → ((id : ℕ) → g id ≡ label_function xs (length xs) id) → (id : ℕ) → g id ≡ label_function is (length is) id
standing_in xs is g same e id = e id ∙ ap (λ (zs : List Instruction). label_function zs (length zs) id) same
