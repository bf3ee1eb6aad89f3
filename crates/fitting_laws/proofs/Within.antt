-- What is within the limits where its parts are.
use Rattle.std.proofs.Common.{false, ◌≡◌, ℕ, suc, ◌+◌, ◌≤◌, max, List, [], ◌∷◌, ◌++◌, length, map, arith}
use Rattle.slang_names.specs.declared.places.Place.{Place}
use Rattle.slang_tree.specs.declared.types.TypeTree.{TypeTree}
use Rattle.slang_tree.specs.declared.expressions.ExprTree.{ExprTree}
use Rattle.slang_tree.specs.declared.statements.Initializer.{Initializer}
use Rattle.slang_tree.specs.declared.statements.Initializer.TheVariants as i
use Rattle.slang_tree.specs.declared.statements.ListTree.{ListTree}
use Rattle.slang_reading.specs.Lexed.{Lexed}
use Rattle.slang_reading.proofs.Exact.{Post, post_weaken}
use Rattle.slang_grammar.specs.Descent.{Limits}
use Rattle.slang_grammar.specs.Heights.{greatest}
use Rattle.slang_grammar.specs.Sizes.{TypeFits}
use Rattle.slang_grammar.specs.TypesDescent.{Type_, types}
use Rattle.slang_grammar.specs.ExpressionsDescent.{Value, expressions}
use Rattle.slang_grammar.proofs.TypesFitting.{greatest_last}
use Rattle.expression_grammar.specs.Sizes.{Fits}
use Rattle.statement_grammar.specs.Statements.{listed}
use Rattle.statement_grammar.specs.StatementsDescent.{operands}
use Rattle.statement_fits.specs.Sizes.{Count, in_initializer, in_list, nodes, lists, names, Keeps}
use Rattle.statement_fits.proofs.Fitting.{less, in_expression, in_braces, in_items}
use Rattle.fitting_laws.proofs.Types.{fitting_types}
use Rattle.fitting_laws.proofs.Expressions.{fitting_expressions, fitting_operands}

module _ (limits : Limits) where
  pub nothing_keeps : (d : ℕ) → Keeps limits d (λ count. 0)
  nothing_keeps d = record { depth = omega arith; long = omega arith; short = omega arith }

  pub more_room : (d top : ℕ) (f : Count → ℕ) → d ≤ top → Keeps limits d f → Keeps limits top f
  more_room d top f l w = let h = w.depth in record { depth = omega (arith, h, l); long = w.long; short = w.short }

  pub both_keep : (d : ℕ) (f g : Count → ℕ) → Keeps limits d f → Keeps limits d g → Keeps limits d (λ count. max (f count) (g count))
  both_keep d f g v w = record { depth = omega (arith, v.depth, w.depth); long = omega (arith, v.long, w.long); short = omega (arith, v.short, w.short) }

  -- a node over what is within one node less
  pub node_keeps : (d : ℕ) (f g : Count → ℕ) → ((count : Count) → g count ≡ count.over (f count)) → Keeps limits d f → Keeps limits (suc d) g
  node_keeps d f g h w =
      let a : g nodes ≡ f nodes + 1 = h nodes in
      let b : g lists ≡ f lists = h lists in
      let c : g names ≡ f names = h names in
      record { depth = omega (arith, a, w.depth); long = omega (arith, b, w.long); short = omega (arith, c, w.short) }

  pub value_keeps : (d : ℕ) (x : ExprTree) → Fits limits d x → Keeps limits d (λ count. count.of_value x)
  value_keeps d x f = record { depth = f.nodes; long = f.lists; short = f.names }

  pub type_keeps : (d : ℕ) (x : TypeTree) → TypeFits limits d x → Keeps limits d (λ count. count.of_type x)
  type_keeps d x f = record { depth = f.nodes; long = f.lists; short = f.names }

  -- ---- lists

  module _ {A : Type 0} (f : Count → A → ℕ) (d : ℕ) where
    abbrev pub All : List A → Type 0
    All xs = Keeps limits d (λ count. greatest (map (f count) xs))

    pub keep_none : All []
    keep_none = nothing_keeps d

    pub keep_more : (xs : List A) (x : A) → All xs → Keeps limits d (λ count. f count x) → All (xs ++ x ∷ [])
    keep_more xs x v w = less limits d (λ count. greatest (map (f count) (xs ++ x ∷ []))) (λ count. max (greatest (map (f count) xs)) (f count x)) (λ count. omega (arith, greatest_last (f count) xs x))
        (both_keep d (λ count. greatest (map (f count) xs)) (λ count. f count x) v w)

    pub keep_one : (x : A) → Keeps limits d (λ count. f count x) → All (x ∷ [])
    keep_one x w = both_keep d (λ count. f count x) (λ count. 0) w (nothing_keeps d)

  -- ---- what locals begin with

  pub expression_keeps : (d : ℕ) (x : ExprTree) → Keeps limits d (λ count. count.of_value x) → Keeps limits d (λ count. in_initializer count (i.Expression x))
  expression_keeps d x w = less limits d (λ count. in_initializer count (i.Expression x)) (λ count. count.of_value x) (λ count. omega (arith, in_expression limits count x)) w

  pub braces_keep : (d : ℕ) (x : ListTree) → Keeps limits d (λ count. in_list count x) → Keeps limits d (λ count. in_initializer count (i.List x))
  braces_keep d x w = less limits d (λ count. in_initializer count (i.List x)) (λ count. in_list count x) (λ count. omega (arith, in_braces limits count x)) w

  pub items_keep : (d : ℕ) (p : Place) (list : List Initializer) → length list ≤ limits.items → All in_initializer d list → Keeps limits (suc d) (λ count. in_list count (listed p list))
  items_keep d p list l w =
      let a : in_list nodes (listed p list) ≡ greatest (map (in_initializer nodes) list) + 1 = in_items limits nodes p list in
      let b : in_list lists (listed p list) ≡ max (length list) (greatest (map (in_initializer lists) list)) = in_items limits lists p list in
      let c : in_list names (listed p list) ≡ greatest (map (in_initializer names) list) = in_items limits names p list in
      record { depth = omega (arith, a, w.depth); long = omega (arith, b, l, w.long); short = omega (arith, c, w.short) }

  -- ---- types, expressions and operands that are read

  module _ (ts : List Lexed) (is_free : limits.free ≡ false) (d at seen : ℕ) where
    pub keep_types : Post (λ (x : Type_) (to : ℕ). Keeps limits d (λ count. count.of_type x.0)) (types limits d ts at seen)
    keep_types = post_weaken (λ (x : Type_) (to : ℕ). TypeFits limits d x.0) (λ (x : Type_) (to : ℕ). Keeps limits d (λ count. count.of_type x.0)) (λ x to f. type_keeps d x.0 f) (types limits d ts at seen) (fitting_types ts limits is_free d at seen)

    pub keep_expressions : Post (λ (x : Value) (to : ℕ). Keeps limits d (λ count. count.of_value x.0)) (expressions limits d ts at seen)
    keep_expressions = post_weaken (λ (x : Value) (to : ℕ). Fits limits d x.0) (λ (x : Value) (to : ℕ). Keeps limits d (λ count. count.of_value x.0)) (λ x to f. value_keeps d x.0 f) (expressions limits d ts at seen) (fitting_expressions ts limits is_free d at seen)

    pub keep_operands : Post (λ (x : Value) (to : ℕ). Keeps limits d (λ count. count.of_value x.0)) (operands limits d ts at seen)
    keep_operands = post_weaken (λ (x : Value) (to : ℕ). Fits limits d x.0) (λ (x : Value) (to : ℕ). Keeps limits d (λ count. count.of_value x.0)) (λ x to f. value_keeps d x.0 f) (operands limits d ts at seen) (fitting_operands ts limits is_free d at seen)
