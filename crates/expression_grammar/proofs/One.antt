-- From one index on, tokens spell at most one expression behind which no expression goes on.
use Rattle.std.proofs.Common.{true, false, ◌≡◌, ℕ, suc, max, List, drop, length, sym, ◌∙◌, ap, arith, inl}
use Rattle.slang_tree.specs.declared.expressions.ExprTree.{ExprTree}
use Rattle.slang_reading.specs.Lexed.{Lexed}
use Rattle.slang_reading.specs.Reading.{Outcome, Done, Stop, Past, first}
use Rattle.slang_reading.proofs.Exact.{Meets}
use Rattle.slang_grammar.specs.Descent.{Limits}
use Rattle.slang_grammar.specs.Expressions.{loosest, ExprAt}
use Rattle.slang_grammar.specs.ExpressionsDescent.{Value, leveled}
use Rattle.expression_grammar.specs.Heights.{expr_height}
use Rattle.expression_grammar.specs.Sizes.{expr_list, expr_name}
use Rattle.expression_grammar.specs.Ends.{goes_on}
use Rattle.expression_grammar.proofs.Read.{exact_arguments, reads_expr}

-- an outcome is one answer at most
one_answer : {A : Type 0} (a b : A) (to end : ℕ) (o : Outcome A) → Meets ⊥ a to o → Meets ⊥ b end o → (a ≡ b) × (to ≡ end)
one_answer a b to end (Done c at seen) m n = (sym m.0 ∙ n.0, sym m.1 ∙ n.1)
one_answer a b to end (Stop seen) m n = absurd m
one_answer a b to end (Past code place seen) m n = absurd m

-- limits that each of two expressions of a text keeps
abbrev most : List Lexed → ExprTree → ExprTree → Limits
most ts x y = record {
  turns = max (length ts) (max (max (expr_height x) (expr_height y)) (max (expr_list x) (expr_list y)));
  items = max (expr_list x) (expr_list y);
  names = max (expr_name x) (expr_name y);
  free = true;
}

pub one_expression : (ts : List Lexed) (at to end : ℕ) (x y : ExprTree) → ExprAt ts x at to → ExprAt ts y at end → goes_on (first (drop to ts)) ≡ false → goes_on (first (drop end ts)) ≡ false → (x ≡ y) × (to ≡ end)
one_expression ts at to end x y s u q r =
    let limits = most ts x y in
    let d = max (expr_height x) (expr_height y) in
    let exact = exact_arguments ts limits (omega arith) in
    let a = reads_expr ⊥ ts limits exact s q d 0 (inl (record { nodes = omega arith; lists = omega arith; names = omega arith }, record { nodes = omega arith; items = omega arith })) in
    let b = reads_expr ⊥ ts limits exact u r d 0 (inl (record { nodes = omega arith; lists = omega arith; names = omega arith }, record { nodes = omega arith; items = omega arith })) in
    let c = one_answer {A = Value} (x, expr_height x) (y, expr_height y) to end (leveled limits d (suc loosest) ts at 0) a.is b.is in
    (ap (λ (v : Value). v.0) c.0, c.1)
