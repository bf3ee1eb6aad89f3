-- Trees of which no list and no name is too long.
use Rattle.std.proofs.Common.{true, false, ◌≡◌, ◌+◌, ◌≤◌, max, List, [], ◌∷◌, ◌++◌, length, map, length-append, arith, rules}
use Rattle.std.specs.Prelude.{nat_le}
use Rattle.std.proofs.lemmas.Bool.Decides.{nat_tests}
use Rattle.std.proofs.lemmas.List.{length-map}
use Rattle.slang_names.specs.declared.places.Place.{Place}
use Rattle.slang_names.specs.declared.numbers.Number.{Number}
use Rattle.slang_tree.specs.declared.types.Identifier.{Identifier}
use Rattle.slang_tree.specs.declared.types.Builtin.{Builtin}
use Rattle.slang_tree.specs.declared.types.Resource.{Resource}
use Rattle.slang_tree.specs.declared.types.Term.{Term}
use Rattle.slang_tree.specs.declared.types.TypeTree.{TypeTree, the_lemmas}
use Rattle.slang_tree.specs.declared.types.TypeNode.TheVariants as n
use Rattle.slang_tree.specs.declared.types.GenericArgument.{GenericArgument}
use Rattle.slang_tree.specs.declared.types.GenericArgument.TheVariants as g
use Rattle.slang_tree.specs.declared.expressions.UnaryOperator.{UnaryOperator}
use Rattle.slang_tree.specs.declared.expressions.BinaryOperator.{BinaryOperator}
use Rattle.slang_tree.specs.declared.expressions.ExprTree.{ExprTree}
use Rattle.slang_tree.specs.declared.expressions.ExprTree as tree
use Rattle.slang_tree.specs.declared.expressions.ExprNode.TheVariants as e
use Rattle.slang_reading.specs.Lexed.{Lexed}
use Rattle.slang_grammar.specs.Types.{typed}
use Rattle.slang_grammar.specs.Expressions.{valued}
use Rattle.slang_grammar.specs.Descent.{Limits, is_short}
use Rattle.slang_grammar.specs.Heights.{greatest}
use Rattle.slang_grammar.specs.Sizes.{longest_list, argument_list, term_name, longest_name, argument_name}
use Rattle.slang_grammar.proofs.TypesFitting.{greatest_last}
use Rattle.expression_grammar.specs.Sizes.{expr_list, expr_name}
use Rattle.expression_grammar.proofs.Sizes.{list_name, name_name, list_construct, name_construct, list_paren, name_paren, list_member, name_member, list_index, name_index, list_call, name_call, list_unary, name_unary, list_cast, name_cast, list_binary, name_binary, list_choice, name_choice}
use Rattle.nesting_laws.proofs.TypesLow.{or_is}

pub short_enough : (limits : Limits) (t : Lexed) → limits.free ≡ false → is_short limits t ≡ true → length t.bytes ≤ limits.names
short_enough limits t e q = let f = or_is limits.free (nat_le (length t.bytes) limits.names) e q in grind (arith, nat_tests, f)

list_builtin : (p : Place) (b : Builtin) → longest_list (typed p (n.Builtin b)) ≡ 0
list_builtin p b = search (rules, the_lemmas)

name_builtin : (p : Place) (b : Builtin) → longest_name (typed p (n.Builtin b)) ≡ 0
name_builtin p b = search (rules, the_lemmas)

list_this : (p : Place) → longest_list (typed p n.ThisType) ≡ 0
list_this p = search (rules, the_lemmas)

name_this : (p : Place) → longest_name (typed p n.ThisType) ≡ 0
name_this p = search (rules, the_lemmas)

list_named : (p : Place) (id : Identifier) (args : List GenericArgument) → longest_list (typed p (n.Named id args)) ≡ max (length args) (greatest (map argument_list args))
list_named p id args = search (rules, the_lemmas, length-map)

name_named : (p : Place) (id : Identifier) (args : List GenericArgument) → longest_name (typed p (n.Named id args)) ≡ max (length id.name) (greatest (map argument_name args))
name_named p id args = search (rules, the_lemmas)

list_resource : (p : Place) (r : Resource) (x : TypeTree) → longest_list (typed p (n.Resource r x)) ≡ longest_list x
list_resource p r x = search (rules, the_lemmas)

name_resource : (p : Place) (r : Resource) (x : TypeTree) → longest_name (typed p (n.Resource r x)) ≡ longest_name x
name_resource p r x = search (rules, the_lemmas)

list_projection : (p : Place) (x : TypeTree) (id : Identifier) → longest_list (typed p (n.Projection x id)) ≡ longest_list x
list_projection p x id = search (rules, the_lemmas)

name_projection : (p : Place) (x : TypeTree) (id : Identifier) → longest_name (typed p (n.Projection x id)) ≡ max (longest_name x) (length id.name)
name_projection p x id = search (rules, the_lemmas)

list_array : (p : Place) (x : TypeTree) (l : Term) → longest_list (typed p (n.Array x l)) ≡ longest_list x
list_array p x l = search (rules, the_lemmas)

name_array : (p : Place) (x : TypeTree) (l : Term) → longest_name (typed p (n.Array x l)) ≡ max (longest_name x) (term_name l)
name_array p x l = search (rules, the_lemmas)

list_term : (x : TypeTree) → argument_list (g.Term x) ≡ longest_list x
list_term x = search (rules, the_lemmas)

name_term : (x : TypeTree) → argument_name (g.Term x) ≡ longest_name x
name_term x = search (rules, the_lemmas)

list_number : (p : Place) (v : Number) → argument_list (g.Number p v) ≡ 0
list_number p v = search (rules, the_lemmas)

name_number : (p : Place) (v : Number) → argument_name (g.Number p v) ≡ 0
name_number p v = search (rules, the_lemmas)

-- ---- what stands alone

list_value : (p : Place) (v : Number) → expr_list (valued p (e.Number v)) ≡ 0
list_value p v = search (rules, tree.the_lemmas)

name_value : (p : Place) (v : Number) → expr_name (valued p (e.Number v)) ≡ 0
name_value p v = search (rules, tree.the_lemmas)

list_true : (p : Place) → expr_list (valued p e.True) ≡ 0
list_true p = search (rules, tree.the_lemmas)

name_true : (p : Place) → expr_name (valued p e.True) ≡ 0
name_true p = search (rules, tree.the_lemmas)

list_false : (p : Place) → expr_list (valued p e.False) ≡ 0
list_false p = search (rules, tree.the_lemmas)

name_false : (p : Place) → expr_name (valued p e.False) ≡ 0
name_false p = search (rules, tree.the_lemmas)

list_this_value : (p : Place) → expr_list (valued p e.ThisValue) ≡ 0
list_this_value p = search (rules, tree.the_lemmas)

name_this_value : (p : Place) → expr_name (valued p e.ThisValue) ≡ 0
name_this_value p = search (rules, tree.the_lemmas)

list_this_type : (p : Place) → expr_list (valued p e.ThisType) ≡ 0
list_this_type p = search (rules, tree.the_lemmas)

name_this_type : (p : Place) → expr_name (valued p e.ThisType) ≡ 0
name_this_type p = search (rules, tree.the_lemmas)

module _ (limits : Limits) where
  -- no list and no name in it is too long
  abbrev pub Small : TypeTree → Type 0
  Small x = (longest_list x ≤ limits.items) × (longest_name x ≤ limits.names)

  abbrev pub SmallArgument : GenericArgument → Type 0
  SmallArgument x = (argument_list x ≤ limits.items) × (argument_name x ≤ limits.names)

  -- nor is the list
  abbrev pub SmallArguments : List GenericArgument → Type 0
  SmallArguments xs = (length xs ≤ limits.items) × (greatest (map argument_list xs) ≤ limits.items) × (greatest (map argument_name xs) ≤ limits.names)

  pub small_builtin : (p : Place) (b : Builtin) → Small (typed p (n.Builtin b))
  small_builtin p b = (omega (arith, list_builtin p b), omega (arith, name_builtin p b))

  pub small_this : (p : Place) → Small (typed p n.ThisType)
  small_this p = (omega (arith, list_this p), omega (arith, name_this p))

  pub small_named : (p : Place) (id : Identifier) (args : List GenericArgument) → length id.name ≤ limits.names → SmallArguments args → Small (typed p (n.Named id args))
  small_named p id args s a = let a0 = a.0 in let a1 = a.1 in let a2 = a.2 in (omega (arith, a0, a1, list_named p id args), omega (arith, s, a2, name_named p id args))

  pub small_resource : (p : Place) (r : Resource) (x : TypeTree) → Small x → Small (typed p (n.Resource r x))
  small_resource p r x s = let s0 = s.0 in let s1 = s.1 in (omega (arith, s0, list_resource p r x), omega (arith, s1, name_resource p r x))

  pub small_projection : (p : Place) (x : TypeTree) (id : Identifier) → length id.name ≤ limits.names → Small x → Small (typed p (n.Projection x id))
  small_projection p x id k s = let s0 = s.0 in let s1 = s.1 in (omega (arith, s0, list_projection p x id), omega (arith, s1, k, name_projection p x id))

  pub small_array : (p : Place) (x : TypeTree) (l : Term) → term_name l ≤ limits.names → Small x → Small (typed p (n.Array x l))
  small_array p x l k s = let s0 = s.0 in let s1 = s.1 in (omega (arith, s0, list_array p x l), omega (arith, s1, k, name_array p x l))

  pub small_term : (x : TypeTree) → Small x → SmallArgument (g.Term x)
  small_term x s = let s0 = s.0 in let s1 = s.1 in (omega (arith, s0, list_term x), omega (arith, s1, name_term x))

  pub small_number : (p : Place) (v : Number) → SmallArgument (g.Number p v)
  small_number p v = (omega (arith, list_number p v), omega (arith, name_number p v))

  pub small_none : SmallArguments []
  small_none = (omega arith, omega arith, omega arith)

  pub small_one : (x : GenericArgument) → 1 ≤ limits.items → SmallArgument x → SmallArguments (x ∷ [])
  small_one x l s = let s0 = s.0 in let s1 = s.1 in (omega (arith, l), omega (arith, s0), omega (arith, s1))

  pub small_more : (xs : List GenericArgument) (x : GenericArgument) → length xs + 1 ≤ limits.items → SmallArguments xs → SmallArgument x → SmallArguments (xs ++ x ∷ [])
  small_more xs x l a s = let a1 = a.1 in let a2 = a.2 in let s0 = s.0 in let s1 = s.1 in
      (omega (arith, l, length-append xs (x ∷ [])), omega (arith, a1, s0, greatest_last argument_list xs x), omega (arith, a2, s1, greatest_last argument_name xs x))

  -- ---- expressions

  abbrev pub SmallExpr : ExprTree → Type 0
  SmallExpr x = (expr_list x ≤ limits.items) × (expr_name x ≤ limits.names)

  abbrev pub SmallValues : List ExprTree → Type 0
  SmallValues xs = (length xs ≤ limits.items) × (greatest (map expr_list xs) ≤ limits.items) × (greatest (map expr_name xs) ≤ limits.names)

  pub small_value : (p : Place) (v : Number) → SmallExpr (valued p (e.Number v))
  small_value p v = (omega (arith, list_value p v), omega (arith, name_value p v))

  pub small_true : (p : Place) → SmallExpr (valued p e.True)
  small_true p = (omega (arith, list_true p), omega (arith, name_true p))

  pub small_false : (p : Place) → SmallExpr (valued p e.False)
  small_false p = (omega (arith, list_false p), omega (arith, name_false p))

  pub small_this_value : (p : Place) → SmallExpr (valued p e.ThisValue)
  small_this_value p = (omega (arith, list_this_value p), omega (arith, name_this_value p))

  pub small_this_type_value : (p : Place) → SmallExpr (valued p e.ThisType)
  small_this_type_value p = (omega (arith, list_this_type p), omega (arith, name_this_type p))

  module _ (p : Place) where
    pub small_name : (id : Identifier) (args : List GenericArgument) → length id.name ≤ limits.names → SmallArguments args → SmallExpr (valued p (e.Name id args))
    small_name id args k a = let a0 = a.0 in let a1 = a.1 in let a2 = a.2 in (omega (arith, a0, a1, list_name p id args), omega (arith, k, a2, name_name p id args))

    pub small_construct : (b : Builtin) (args : List ExprTree) → SmallValues args → SmallExpr (valued p (e.Construct b args))
    small_construct b args a = let a0 = a.0 in let a1 = a.1 in let a2 = a.2 in (omega (arith, a0, a1, list_construct p b args), omega (arith, a2, name_construct p b args))

    pub small_paren : (x : ExprTree) → SmallExpr x → SmallExpr (valued p (e.Paren x))
    small_paren x a = let a0 = a.0 in let a1 = a.1 in (omega (arith, a0, list_paren p x), omega (arith, a1, name_paren p x))

    pub small_member : (x : ExprTree) (id : Identifier) (args : List GenericArgument) → length id.name ≤ limits.names → SmallExpr x → SmallArguments args → SmallExpr (valued p (e.Member x id args))
    small_member x id args k s a = let s0 = s.0 in let s1 = s.1 in let a0 = a.0 in let a1 = a.1 in let a2 = a.2 in
        (omega (arith, s0, a0, a1, list_member p x id args), omega (arith, s1, k, a2, name_member p x id args))

    pub small_index : (x y : ExprTree) → SmallExpr x → SmallExpr y → SmallExpr (valued p (e.Index x y))
    small_index x y a b = let a0 = a.0 in let a1 = a.1 in let b0 = b.0 in let b1 = b.1 in (omega (arith, a0, b0, list_index p x y), omega (arith, a1, b1, name_index p x y))

    pub small_call : (x : ExprTree) (args : List ExprTree) → SmallExpr x → SmallValues args → SmallExpr (valued p (e.Call x args))
    small_call x args s a = let s0 = s.0 in let s1 = s.1 in let a0 = a.0 in let a1 = a.1 in let a2 = a.2 in
        (omega (arith, s0, a0, a1, list_call p x args), omega (arith, s1, a2, name_call p x args))

    pub small_unary : (op : UnaryOperator) (x : ExprTree) → SmallExpr x → SmallExpr (valued p (e.Unary op x))
    small_unary op x a = let a0 = a.0 in let a1 = a.1 in (omega (arith, a0, list_unary p op x), omega (arith, a1, name_unary p op x))

    pub small_cast : (b : Builtin) (x : ExprTree) → SmallExpr x → SmallExpr (valued p (e.Cast b x))
    small_cast b x a = let a0 = a.0 in let a1 = a.1 in (omega (arith, a0, list_cast p b x), omega (arith, a1, name_cast p b x))

    pub small_binary : (op : BinaryOperator) (x y : ExprTree) → SmallExpr x → SmallExpr y → SmallExpr (valued p (e.Binary op x y))
    small_binary op x y a b = let a0 = a.0 in let a1 = a.1 in let b0 = b.0 in let b1 = b.1 in (omega (arith, a0, b0, list_binary p op x y), omega (arith, a1, b1, name_binary p op x y))

    pub small_choice : (x y z : ExprTree) → SmallExpr x → SmallExpr y → SmallExpr z → SmallExpr (valued p (e.Choice x y z))
    small_choice x y z a b c = let a0 = a.0 in let a1 = a.1 in let b0 = b.0 in let b1 = b.1 in let c0 = c.0 in let c1 = c.1 in
        (omega (arith, a0, b0, c0, list_choice p x y z), omega (arith, a1, b1, c1, name_choice p x y z))

  pub small_no_values : SmallValues []
  small_no_values = (omega arith, omega arith, omega arith)

  pub small_one_value : (x : ExprTree) → 1 ≤ limits.items → SmallExpr x → SmallValues (x ∷ [])
  small_one_value x l s = let s0 = s.0 in let s1 = s.1 in (omega (arith, l), omega (arith, s0), omega (arith, s1))

  pub small_more_values : (xs : List ExprTree) (x : ExprTree) → length xs + 1 ≤ limits.items → SmallValues xs → SmallExpr x → SmallValues (xs ++ x ∷ [])
  small_more_values xs x l a s = let a1 = a.1 in let a2 = a.2 in let s0 = s.0 in let s1 = s.1 in
      (omega (arith, l, length-append xs (x ∷ [])), omega (arith, a1, s0, greatest_last expr_list xs x), omega (arith, a2, s1, greatest_last expr_name xs x))
