-- The definitions of ids, with one instruction more.
use Rattle.std.proofs.Common.{◌≡◌, ℕ, zero, suc, ◌+◌, Bool, true, false, cond, List, [], ◌∷◌, Option, Some, None, take, slice_get, refl, sym, ap, subst, add-one, arith, ◌∙◌}
use Rattle.std.specs.Option.{option_map}
use Rattle.spirv_words.specs.declared.opcodes.Op.{Op}
use Rattle.spirv_words.specs.declared.images.Instruction.{Instruction}
use Rattle.spirv_words.specs.Machine.{result_of, is_some_number, place_of}
use Rattle.image_places.specs.declared.cursor.Cursor.{Cursor}
use Rattle.image_places.specs.Places.{op_at, function_of, block_of, cursor_at}
use Rattle.image_rules.specs.declared.table.Definition.{Definition}
use Rattle.image_rules.specs.declared.table.Scope.{Scope}
use Rattle.image_rules.specs.Ids.{scope_of, scope_at, definition_at, or_second}
use Rattle.image_rules.proofs.Walking.{op_here}

-- an instruction in front: it is the first definition, or those behind it count
in_front : (b c : Bool) (from n m : ℕ) (o p : Option ℕ) → p ≡ or_second o (cond c (Some n) None) → n ≡ m
    → cond b (Some from) p ≡ or_second (cond b (Some from) o) (cond c (Some m) None)
in_front true c from n m o p e s = refl
in_front false c from n m o p e s = e ∙ ap (λ (t : ℕ). or_second o (cond c (Some t) None)) s

pub place_more : (is : List Instruction) (k : ℕ) (i : Instruction) (q from : ℕ) → slice_get is k ≡ Some i
    → place_of (take (suc k) is) q from ≡ or_second (place_of (take k is) q from) (cond (is_some_number (result_of i.op i.operands) q) (Some (from + k)) None)
place_more [] k i q from e = cc
place_more (x ∷ xs) zero i q from e =
    let same : x ≡ i = cc in
    let here : from ≡ from + 0 = omega arith in
    ap (λ (y : Instruction). cond (is_some_number (result_of y.op y.operands) q) (Some from) None) same
    ∙ ap (λ (n : ℕ). cond (is_some_number (result_of i.op i.operands) q) (Some n) None) here
place_more (x ∷ xs) (suc k) i q from e =
    let same : from + 1 + k ≡ from + suc k = omega arith in
    in_front (is_some_number (result_of x.op x.operands) q) (is_some_number (result_of i.op i.operands) q) from (from + 1 + k) (from + suc k)
    (place_of (take k xs) q (from + 1)) (place_of (take (suc k) xs) q (from + 1)) (place_more xs k i q (from + 1) e) same

mapped : (f : ℕ → Definition) (a b : Option ℕ) → option_map f (or_second a b) ≡ or_second (option_map f a) (option_map f b)
mapped f None b = refl
mapped f (Some n) b = refl

mapped_test : (f : ℕ → Definition) (b : Bool) (n : ℕ) → option_map f (cond b (Some n) None) ≡ cond b (Some (f n)) None
mapped_test f true n = refl
mapped_test f false n = refl

abbrev made : ℕ → Scope → Definition
made n s = record { number = n; scope = s }

-- the definition that the code makes of an instruction
pub made_here : (is : List Instruction) (k : ℕ) (i : Instruction) (x : Cursor) (n : ℕ) (s : Scope) → x ≡ cursor_at is (suc k) → slice_get is k ≡ Some i
    → n ≡ k → s ≡ scope_of i.op n x.function x.block → made n s ≡ definition_at is k
made_here is k i x n s at here e is_scope =
    let scope_is : s ≡ scope_at (op_at is k) k (function_of is (suc k)) (block_of is (suc k)) =
    is_scope ∙ (ap (λ (t : ℕ). scope_of i.op t x.function x.block) e
    ∙ (ap (λ (t : ℕ). scope_of i.op k t x.block) (ap (λ c. c.function) at)
    ∙ (ap (λ (t : ℕ). scope_of i.op k (function_of is (suc k)) t) (ap (λ c. c.block) at)
    ∙ ap (λ (t : Option Op). scope_at t k (function_of is (suc k)) (block_of is (suc k))) (sym (op_here is k i here))))) in
    ap (λ (t : ℕ). made t s) e ∙ ap (λ (t : Scope). made k t) scope_is

pub defined_next : (is : List Instruction) (k : ℕ) (i : Instruction) (x : Cursor) (n : ℕ) (s : Scope) (q : ℕ) (before after : Option Definition)
    → x ≡ cursor_at is (suc k) → slice_get is k ≡ Some i → n ≡ k → s ≡ scope_of i.op n x.function x.block
    → before ≡ option_map (definition_at is) (place_of (take k is) q 0)
    → after ≡ or_second before (cond (is_some_number (result_of i.op i.operands) q) (Some (made n s)) None)
    → after ≡ option_map (definition_at is) (place_of (take (k + 1) is) q 0)
defined_next is k i x n s q before after at here e is_scope was is_after =
    let b = is_some_number (result_of i.op i.operands) q in
    let f = definition_at is in
    let zero_on : 0 + k ≡ k = omega arith in
    let more : place_of (take (suc k) is) q 0 ≡ or_second (place_of (take k is) q 0) (cond b (Some k) None) =
    place_more is k i q 0 here ∙ ap (λ (t : ℕ). or_second (place_of (take k is) q 0) (cond b (Some t) None)) zero_on in
    let whole : option_map f (place_of (take (suc k) is) q 0) ≡ or_second (option_map f (place_of (take k is) q 0)) (cond b (Some (f k)) None) =
    ap (option_map f) more ∙ (mapped f (place_of (take k is) q 0) (cond b (Some k) None)
    ∙ ap (or_second (option_map f (place_of (take k is) q 0))) (mapped_test f b k)) in
    let code : or_second before (cond b (Some (made n s)) None) ≡ or_second (option_map f (place_of (take k is) q 0)) (cond b (Some (f k)) None) =
    ap (λ (t : Option Definition). or_second t (cond b (Some (made n s)) None)) was
    ∙ ap (λ (t : Definition). or_second (option_map f (place_of (take k is) q 0)) (cond b (Some t) None)) (made_here is k i x n s at here e is_scope) in
    subst (λ (m : ℕ). after ≡ option_map f (place_of (take m is) q 0)) (sym (add-one k)) (is_after ∙ (code ∙ sym whole))
