-- Types, expressions and operands: no node of what is read is too deep, where as many fit as were given.
use Rattle.std.proofs.Common.{Bool, true, false, ◌≡◌, ℕ, zero, suc, ◌≤◌, ◌++◌, List, [], ◌∷◌, map, Option, Some, None, refl, arith, if◌then◌else◌}
use Rattle.slang_names.specs.declared.codes.ModuleCode.TheVariants as code
use Rattle.slang_tree.specs.declared.types.TypeTree.{TypeTree}
use Rattle.slang_tree.specs.declared.expressions.ExprTree.{ExprTree}
use Rattle.slang_tree.specs.Nesting.{Deep, before, first_of, deep_type, deep_expr}
use Rattle.slang_reading.specs.Lexed.{Lexed}
use Rattle.slang_reading.specs.Reading.{Refuse, Pass, place_of, next}
use Rattle.slang_reading.proofs.Exact.{Post, PostChoice, post_bind, post_next, post_weaken}
use Rattle.slang_grammar.specs.Heights.{height}
use Rattle.slang_grammar.specs.Descent.{Limits}
use Rattle.slang_grammar.specs.TypesDescent.{Type_, types}
use Rattle.slang_grammar.specs.ExpressionsDescent.{Value, chain_rest, leveled, expressions}
use Rattle.slang_grammar.specs.Expressions.{loosest}
use Rattle.slang_grammar.proofs.TypesTall.{tall_types}
use Rattle.expression_grammar.specs.Heights.{expr_height}
use Rattle.expression_grammar.proofs.Tall.{tall_postfix, tall_leveled}
use Rattle.statement_grammar.specs.StatementsDescent.{operand_begins, operand_past, no_values, operands}
use Rattle.statement_grammar.proofs.Shared.{post_both}
use Rattle.nesting_laws.proofs.Depths.{Clear, none_parts, none_both}
use Rattle.nesting_laws.proofs.Types.{type_tells}
use Rattle.nesting_laws.proofs.Expressions.{expr_tells}
use Rattle.nesting_laws.proofs.TypesLow.{low_types}
use Rattle.nesting_laws.proofs.ExpressionsLow.{low_leveled, low_operands}

pub clear_before : (d : ℕ) (f g : Deep) → Clear d f → Clear d g → Clear d (before f g)
clear_before d f g a b = λ n l. none_both (f n) (g n) (a n l) (b n l)

pub clear_less : (d top : ℕ) (f : Deep) → d ≤ top → Clear d f → Clear top f
clear_less d top f q a = λ n l. a n (omega (arith, q, l))

module _ {A : Type 0} (f : A → Deep) (d : ℕ) where
  abbrev pub All : List A → Type 0
  All xs = Clear d (first_of (map f xs))

  pub clear_none : All []
  unfolding first_of
  clear_none = λ n l. refl

  pub clear_more : (xs : List A) (x : A) → All xs → Clear d (f x) → All (xs ++ x ∷ [])
  unfolding first_of
  clear_more [] x a b = λ n l. none_both (f x n) None (b n l) refl
  clear_more (y ∷ ys) x a b = λ n l. let p = none_parts (f y n) (first_of (map f ys) n) (a n l) in
      none_both (f y n) (first_of (map f (ys ++ x ∷ [])) n) p.0 (clear_more ys x (λ n l. (none_parts (f y n) (first_of (map f ys) n) (a n l)).1) b n l)

  pub clear_one : (x : A) → Clear d (f x) → All (x ∷ [])
  unfolding first_of
  clear_one x b = λ n l. none_both (f x n) None (b n l) refl

-- as many nodes as the height that stands beside the tree
type_clear : (d : ℕ) (x : TypeTree) (h : ℕ) → height x ≡ h → h ≤ d → Clear d (deep_type x)
type_clear d x h e l = λ n q. (type_tells x).0 n (omega (arith, e, l, q))

expr_clear : (d : ℕ) (x : ExprTree) (h : ℕ) → expr_height x ≡ h → h ≤ d → Clear d (deep_expr x)
expr_clear d x h e l = λ n q. (expr_tells x).0 n (omega (arith, e, l, q))

module _ (ts : List Lexed) (limits : Limits) (is_free : limits.free ≡ false) where
  pub clear_types : (d at seen : ℕ) → Post (λ (x : Type_) (to : ℕ). Clear d (deep_type x.0)) (types limits d ts at seen)
  clear_types d at seen = post_weaken (λ (x : Type_) (to : ℕ). (height x.0 ≡ x.1) × (x.1 ≤ d)) (λ x to. Clear d (deep_type x.0)) (λ x to r. type_clear d x.0 x.1 r.0 r.1) (types limits d ts at seen)
      (post_both (λ (x : Type_) (to : ℕ). height x.0 ≡ x.1) (λ x to. x.1 ≤ d) (types limits d ts at seen) (tall_types ts limits d at seen) (low_types ts limits is_free d at seen))

  abbrev IsExpr : ℕ → Value → ℕ → Type 0
  IsExpr d x to = Clear d (deep_expr x.0)

  abbrev Known : ℕ → Value → ℕ → Type 0
  Known d x to = (expr_height x.0 ≡ x.1) × (x.1 ≤ d)

  pub clear_expressions : (d at seen : ℕ) → Post (λ (x : Value) (to : ℕ). Clear d (deep_expr x.0)) (expressions limits d ts at seen)
  clear_expressions d at seen = post_weaken (Known d) (IsExpr d) (λ x to r. expr_clear d x.0 x.1 r.0 r.1) (expressions limits d ts at seen)
      (post_both (λ (x : Value) (to : ℕ). expr_height x.0 ≡ x.1) (λ x to. x.1 ≤ d) (expressions limits d ts at seen) (tall_leveled ts limits d (suc loosest) at seen) (low_leveled ts limits is_free d (suc loosest) at seen))

  pub tall_operands : (d at seen : ℕ) → Post (λ (x : Value) (to : ℕ). expr_height x.0 ≡ x.1) (operands limits d ts at seen)
  unfolding operands
  tall_operands zero at seen = post_bind ts (λ x to. ⊥) (λ (x : Value) (to : ℕ). expr_height x.0 ≡ x.1) (next operand_past) (chain_rest limits zero no_values) at seen
      (post_next ts (λ (x : Value) (to : ℕ). ⊥) operand_past at seen (λ x e. by x (operand_begins x))) (λ x mid seen1 r. absurd r)
    where
      by : (x : Option Lexed) (b : Bool) → PostChoice ts (λ (x : Value) (to : ℕ). ⊥) at x (if b then Pass code.TooNested (place_of x) else Refuse)
      by (Some t) true = tt
      by None true = tt
      by (Some t) false = tt
      by None false = tt
  tall_operands (suc d) at seen = tall_postfix ts limits d (leveled limits d) (λ l at seen. tall_leveled ts limits d l at seen) at seen

  pub clear_operands : (d at seen : ℕ) → Post (λ (x : Value) (to : ℕ). Clear d (deep_expr x.0)) (operands limits d ts at seen)
  clear_operands d at seen = post_weaken (Known d) (IsExpr d) (λ x to r. expr_clear d x.0 x.1 r.0 r.1) (operands limits d ts at seen)
      (post_both (λ (x : Value) (to : ℕ). expr_height x.0 ≡ x.1) (λ x to. x.1 ≤ d) (operands limits d ts at seen) (tall_operands d at seen) (low_operands ts limits is_free d at seen))
