-- An expression breaks no limit exactly where it is within the limits.
use Rattle.std.proofs.Common.{◌≡◌, ℕ, zero, suc, ◌+◌, ◌≤◌, ◌<◌, List, [], ◌∷◌, ◌++◌, length, length-append, Some, refl, sym, ◌∙◌, ap, arith, rules}
use Rattle.slang_names.specs.declared.places.Place.{Place}
use Rattle.slang_names.specs.declared.codes.ModuleCode.TheVariants as code
use Rattle.slang_names.specs.declared.numbers.Number.{Number}
use Rattle.slang_tree.specs.declared.types.Identifier.{Identifier}
use Rattle.slang_tree.specs.declared.types.GenericArgument.{GenericArgument}
use Rattle.slang_tree.specs.declared.expressions.ExprTree.{ExprTree, the_lemmas}
use Rattle.slang_tree.specs.declared.expressions.ExprNode.TheVariants as n
use Rattle.slang_reading.specs.Lexed.{Lexed}
use Rattle.slang_reading.specs.Reading.{first}
use Rattle.slang_reading.specs.Kinds.{span}
use Rattle.slang_grammar.specs.Expressions as ex
use Rattle.slang_grammar.specs.Expressions.{valued, NameAt, ExprAt, LevelAt, BinaryAt, UnaryAt, PostfixAt, ChainAt, ValuesAt, MoreValuesAt, PrimaryAt}
use Rattle.slang_grammar.specs.Descent.{Limits}
use Rattle.slang_grammar.specs.Sizes.{ArgumentsFit}
use Rattle.expression_grammar.specs.Heights.{expr_height}
use Rattle.expression_grammar.specs.Sizes.{expr_list, expr_name, Fits, ListFits}
use Rattle.expression_grammar.proofs.Heights.{height_value, height_true, height_false, height_this_value, height_this_type, height_name, height_construct, height_paren, height_member, height_index, height_call, height_unary, height_cast, height_binary, height_choice, greatest_longer}
use Rattle.expression_grammar.proofs.Sizes.{positive, list_name, name_name, list_construct, name_construct, list_paren, name_paren, list_member, name_member, list_index, name_index, list_call, name_call, list_unary, name_unary, list_cast, name_cast, list_binary, name_binary, list_choice, name_choice, greatest_last}
use Rattle.expression_grammar.proofs.Fitting.{name_arguments, construct_values, paren_value, member_value, member_arguments, index_value, index_inside, call_value, call_values, unary_value, cast_value, binary_left, binary_right, choice_first, choice_second, choice_third, name_short, member_short, more_room, last_fits, last_in, chain_fits, binary_fits, more_fits}
use Rattle.expression_limits.specs.Breaks.{Break, arises, arises_over, item_behind, item_with, name_there}
use Rattle.expression_limits.specs.Expressions.{given_breaks, name_breaks, expr_breaks, level_breaks, binary_breaks, unary_breaks, chain_breaks, values_breaks, more_values_breaks, primary_breaks}
use Rattle.expression_limits.proofs.Clear.{clear_append, clear_left, clear_right, clear_less, less_clear, clear_most, most_clear, arises_none}
use Rattle.expression_limits.proofs.TypesClear.{fit_arguments, arguments_fits}
use Rattle.expression_limits.proofs.Expressions.{unary_zero, level_zero, expr_zero}

-- ---- the sizes of leaves

list_value : (p : Place) (v : Number) → expr_list (valued p (n.Number v)) ≡ 0
list_value p v = search (rules, the_lemmas)

name_value : (p : Place) (v : Number) → expr_name (valued p (n.Number v)) ≡ 0
name_value p v = search (rules, the_lemmas)

list_true : (p : Place) → expr_list (valued p n.True) ≡ 0
list_true p = search (rules, the_lemmas)

name_true : (p : Place) → expr_name (valued p n.True) ≡ 0
name_true p = search (rules, the_lemmas)

list_false : (p : Place) → expr_list (valued p n.False) ≡ 0
list_false p = search (rules, the_lemmas)

name_false : (p : Place) → expr_name (valued p n.False) ≡ 0
name_false p = search (rules, the_lemmas)

list_this_value : (p : Place) → expr_list (valued p n.ThisValue) ≡ 0
list_this_value p = search (rules, the_lemmas)

name_this_value : (p : Place) → expr_name (valued p n.ThisValue) ≡ 0
name_this_value p = search (rules, the_lemmas)

list_this_type : (p : Place) → expr_list (valued p n.ThisType) ≡ 0
list_this_type p = search (rules, the_lemmas)

name_this_type : (p : Place) → expr_name (valued p n.ThisType) ≡ 0
name_this_type p = search (rules, the_lemmas)

-- one more value within the limits
longer_fits : (limits : Limits) (d : ℕ) (xs : List ExprTree) (x : ExprTree) → length xs < limits.items → Fits limits d x → ListFits limits d xs → ListFits limits d (xs ++ x ∷ [])
longer_fits limits d xs x lt a f = record {
  nodes = let h = a.nodes in let l = f.nodes in omega (arith, h, l, greatest_longer xs x);
  items = omega (arith, lt, length-append xs (x ∷ []));
  lists = let h = a.lists in let l = f.lists in omega (arith, h, l, greatest_last expr_list xs x);
  names = let h = a.names in let l = f.names in omega (arith, h, l, greatest_last expr_name xs x);
}

module _ (ts : List Lexed) (limits : Limits) where
  no_nodes : {A : Type 0} (x : ExprTree) → Fits limits zero x → A
  no_nodes x f = absurd (let l = f.nodes in let p = positive x in omega (arith, l, p))

  -- a node over what stands before it
  clear_over : (d from : ℕ) (x : ExprTree) → Fits limits d x → arises_over ts (expr_height x) from (suc d) ≡ []
  clear_over d from x f = clear_less ts (expr_height x) (suc d) code.TooNested from (let h = f.nodes in omega (arith, h))

  clear_item : (count from d : ℕ) (x : ExprTree) (bs : List Break) → count < limits.items → Fits limits d x → bs ≡ [] → item_with ts limits count from d bs ≡ []
  clear_item count from zero x bs lt f e = no_nodes x f
  clear_item count from (suc d) x bs lt f e = clear_append (item_behind ts limits count from) bs (clear_less ts count limits.items code.TooLong from lt) e

  -- ---- what is within the limits breaks none

  fit_given : {id : Identifier} {args : List GenericArgument} {end : Place} {from to : ℕ} → (s : NameAt ts id args end from to) → (d : ℕ) → ArgumentsFit limits d args → given_breaks ts limits s d ≡ []
  fit_given (ex.alone i none) d f = refl
  fit_given (ex.generic i a p) d f = fit_arguments ts limits a d f

  fit_name : {id : Identifier} {args : List GenericArgument} {end : Place} {from to : ℕ} → (s : NameAt ts id args end from to) → (d : ℕ) → length id.name ≤ limits.names → ArgumentsFit limits d args → name_breaks ts limits s (suc d) ≡ []
  fit_name {id = id} {from = from} s d h f = clear_append (name_there ts limits id from) (given_breaks ts limits s d) (clear_most ts (length id.name) limits.names code.TooLong from h) (fit_given s d f)

  mutual
    pub fit_expr : {x : ExprTree} {from to : ℕ} → (s : ExprAt ts x from to) → (d : ℕ) → Fits limits d x → expr_breaks ts limits s d ≡ []
    fit_expr (ex.plain v) d f = fit_level v d f
    fit_expr {x = x} (ex.choice v s y c z) zero f = no_nodes x f
    fit_expr (ex.choice {mid = mid} {x = x} {y = y} {z = z} v s u c w) (suc d) f =
        let place = span x.place z.place in
        let one = choice_first limits d place x y z f in
        let over = arises_over ts (expr_height x) mid (suc d) in
        let second = expr_breaks ts limits u d in
        let third = expr_breaks ts limits w d in
        clear_append (level_breaks ts limits v (suc d)) (over ++ (second ++ third)) (fit_level v (suc d) (more_room limits d x one))
        (clear_append over (second ++ third) (clear_over d mid x one)
        (clear_append second third (fit_expr u d (choice_second limits d place x y z f)) (fit_expr w d (choice_third limits d place x y z f))))

    fit_level : {l : ℕ} {x : ExprTree} {from to : ℕ} → (s : LevelAt ts l x from to) → (d : ℕ) → Fits limits d x → level_breaks ts limits s d ≡ []
    fit_level (ex.unary u) d f = fit_unary u d f
    fit_level {x = x} (ex.binary v b) zero f = no_nodes x f
    fit_level (ex.binary v b) (suc d) f = clear_append (level_breaks ts limits v (suc d)) (binary_breaks ts limits b (suc d)) (fit_level v (suc d) (binary_fits b limits d f)) (fit_binary b d f)

    fit_binary : {l : ℕ} {x y : ExprTree} {from to : ℕ} → (s : BinaryAt ts l x y from to) → (d : ℕ) → Fits limits (suc d) y → binary_breaks ts limits s (suc d) ≡ []
    fit_binary ex.operand d f = refl
    fit_binary {x = x} {from = from} (ex.operator {z = z} {op = op} s e v b) d f =
        let place = span x.place z.place in
        let here = binary_fits b limits d f in
        let over = arises_over ts (expr_height x) from (suc d) in
        let right = level_breaks ts limits v d in
        clear_append (over ++ right) (binary_breaks ts limits b (suc d))
        (clear_append over right (clear_over d from x (binary_left limits d place op x z here)) (fit_level v d (binary_right limits d place op x z here))) (fit_binary b d f)

    fit_unary : {x : ExprTree} {from to : ℕ} → (s : UnaryAt ts x from to) → (d : ℕ) → Fits limits d x → unary_breaks ts limits s d ≡ []
    fit_unary {x = x} (ex.simple p) zero f = no_nodes x f
    fit_unary {x = x} (ex.prefix s e u) zero f = no_nodes x f
    fit_unary {x = x} (ex.cast s t e r u) zero f = no_nodes x f
    fit_unary (ex.simple (ex.postfix p c)) (suc d) f = clear_append (primary_breaks ts limits p (suc d)) (chain_breaks ts limits c (suc d)) (fit_primary p d (chain_fits c limits d f)) (fit_chain c d f)
    fit_unary (ex.prefix {p = p} {x = x} {op = op} s e u) (suc d) f = fit_unary u d (unary_value limits d (span p x.place) op x f)
    fit_unary (ex.cast {p = p} {x = x} {b = b} s t e r u) (suc d) f = fit_unary u d (cast_value limits d (span p x.place) b x f)

    fit_chain : {x y : ExprTree} {from to : ℕ} → (s : ChainAt ts x y from to) → (d : ℕ) → Fits limits (suc d) y → chain_breaks ts limits s (suc d) ≡ []
    fit_chain ex.whole d f = refl
    fit_chain {x = x} {from = from} (ex.member {end = end} {id = id} {args = args} s r c) d f =
        let place = span x.place end in
        let here = chain_fits c limits d f in
        let over = arises_over ts (expr_height x) from (suc d) in
        let name = name_breaks ts limits r (suc d) in
        clear_append (over ++ name) (chain_breaks ts limits c (suc d))
        (clear_append over name (clear_over d from x (member_value limits d place x id args here)) (fit_name r d (member_short limits d place x id args here) (member_arguments limits d place x id args here))) (fit_chain c d f)
    fit_chain {x = x} {from = from} (ex.index {end = end} {i = i} s v r c) d f =
        let place = span x.place end in
        let here = chain_fits c limits d f in
        let over = arises_over ts (expr_height x) from (suc d) in
        let own = expr_breaks ts limits v d in
        clear_append (over ++ own) (chain_breaks ts limits c (suc d))
        (clear_append over own (clear_over d from x (index_value limits d place x i here)) (fit_expr v d (index_inside limits d place x i here))) (fit_chain c d f)
    fit_chain {x = x} {from = from} (ex.call {end = end} {args = args} s v c) d f =
        let place = span x.place end in
        let here = chain_fits c limits d f in
        let over = arises_over ts (expr_height x) from (suc d) in
        let own = values_breaks ts limits v d in
        clear_append (over ++ own) (chain_breaks ts limits c (suc d))
        (clear_append over own (clear_over d from x (call_value limits d place x args here)) (fit_values v d (call_values limits d place x args here))) (fit_chain c d f)

    fit_values : {args : List ExprTree} {end : Place} {from to : ℕ} → (s : ValuesAt ts args end from to) → (d : ℕ) → ListFits limits d args → values_breaks ts limits s d ≡ []
    fit_values (ex.no_values s) d f = refl
    fit_values {from = from} (ex.values {x = x} v r s) d f =
        let front = more_fits r limits d f in
        let one = last_fits limits d [] x front in
        clear_append (item_with ts limits 0 from d (expr_breaks ts limits v d)) (more_values_breaks ts limits r d) (clear_item 0 from d x (expr_breaks ts limits v d) (last_in limits d [] x front) one (fit_expr v d one)) (fit_more r d f)

    fit_more : {xs ys : List ExprTree} {from to : ℕ} → (s : MoreValuesAt ts xs ys from to) → (d : ℕ) → ListFits limits d ys → more_values_breaks ts limits s d ≡ []
    fit_more ex.end d f = refl
    fit_more {xs = xs} {from = from} (ex.more {x = x} s v r) d f =
        let front = more_fits r limits d f in
        let one = last_fits limits d xs x front in
        clear_append (item_with ts limits (length xs) (from + 1) d (expr_breaks ts limits v d)) (more_values_breaks ts limits r d)
        (clear_item (length xs) (from + 1) d x (expr_breaks ts limits v d) (last_in limits d xs x front) one (fit_expr v d one)) (fit_more r d f)

    fit_primary : {x : ExprTree} {from to : ℕ} → (s : PrimaryAt ts x from to) → (d : ℕ) → Fits limits (suc d) x → primary_breaks ts limits s (suc d) ≡ []
    fit_primary (ex.number s) d f = refl
    fit_primary (ex.true_word s) d f = refl
    fit_primary (ex.false_word s) d f = refl
    fit_primary (ex.this_value s) d f = refl
    fit_primary (ex.this_type s) d f = refl
    fit_primary (ex.name {end = end} {id = id} {args = args} r) d f = fit_name r d (name_short limits d (span id.place end) id args f) (name_arguments limits d (span id.place end) id args f)
    fit_primary (ex.construct {p = p} {end = end} {b = b} {args = args} s e o v) d f = fit_values v d (construct_values limits d (span p end) b args f)
    fit_primary (ex.paren {p = p} {end = end} {x = x} s v r) d f = fit_expr v d (paren_value limits d (span p end) x f)

  -- ---- what breaks none is within them

  none_first : {A : Type 0} (bs : List Break) (b : Break) → first bs ≡ Some b → bs ≡ [] → A
  none_first bs b e f = absurd (let c = sym e ∙ ap first f in cc)

  over_clear : (d from : ℕ) (x : ExprTree) → arises_over ts (expr_height x) from (suc d) ≡ [] → expr_height x ≤ d
  over_clear d from x e = let h = less_clear ts (expr_height x) (suc d) code.TooNested from e in omega (arith, h)

  item_clear : (count from d : ℕ) (bs : List Break) → item_with ts limits count from d bs ≡ [] → (count < limits.items) × (bs ≡ [])
  item_clear count from d bs c =
      let e = clear_right (arises ts from d) (item_behind ts limits count from ++ bs) c in
      (less_clear ts count limits.items code.TooLong from (clear_left (item_behind ts limits count from) bs e), clear_right (item_behind ts limits count from) bs e)

  given_fits : {id : Identifier} {args : List GenericArgument} {end : Place} {from to : ℕ} → (s : NameAt ts id args end from to) → (d : ℕ) → given_breaks ts limits s d ≡ [] → ArgumentsFit limits d args
  given_fits (ex.alone i none) d c = record { nodes = omega arith; items = omega arith; lists = omega arith; names = omega arith }
  given_fits (ex.generic i a p) d c = arguments_fits ts limits a d c

  name_fits : {id : Identifier} {args : List GenericArgument} {end : Place} {from to : ℕ} → (s : NameAt ts id args end from to) → (d : ℕ) → name_breaks ts limits s (suc d) ≡ [] → (length id.name ≤ limits.names) × ArgumentsFit limits d args
  name_fits {id = id} {from = from} s d c =
      (most_clear ts (length id.name) limits.names code.TooLong from (clear_left (name_there ts limits id from) (given_breaks ts limits s d) c), given_fits s d (clear_right (name_there ts limits id from) (given_breaks ts limits s d) c))

  mutual
    pub expr_fits : {x : ExprTree} {from to : ℕ} → (s : ExprAt ts x from to) → (d : ℕ) → expr_breaks ts limits s d ≡ [] → Fits limits d x
    expr_fits (ex.plain v) d c = level_fits v d c
    expr_fits (ex.choice v s y q z) zero c = none_first (expr_breaks ts limits (ex.choice v s y q z) zero) _ (expr_zero ts limits (ex.choice v s y q z)) c
    expr_fits (ex.choice {mid = mid} {x = x} {y = y} {z = z} v s u q w) (suc d) c =
        let place = span x.place z.place in
        let left = level_breaks ts limits v (suc d) in
        let over = arises_over ts (expr_height x) mid (suc d) in
        let second = expr_breaks ts limits u d in
        let third = expr_breaks ts limits w d in
        let c1 = clear_right left (over ++ (second ++ third)) c in
        let c2 = clear_right over (second ++ third) c1 in
        let f = level_fits v (suc d) (clear_left left (over ++ (second ++ third)) c) in
        let g = expr_fits u d (clear_left second third c2) in
        let h = expr_fits w d (clear_right second third c2) in
        let low = over_clear d mid x (clear_left over (second ++ third) c1) in
        let n2 = g.nodes in let n3 = h.nodes in
        let l1 = f.lists in let l2 = g.lists in let l3 = h.lists in
        let m1 = f.names in let m2 = g.names in let m3 = h.names in
        record { nodes = omega (arith, low, n2, n3, height_choice place x y z); lists = omega (arith, l1, l2, l3, list_choice place x y z); names = omega (arith, m1, m2, m3, name_choice place x y z) }

    level_fits : {l : ℕ} {x : ExprTree} {from to : ℕ} → (s : LevelAt ts l x from to) → (d : ℕ) → level_breaks ts limits s d ≡ [] → Fits limits d x
    level_fits (ex.unary u) d c = unary_fits u d c
    level_fits (ex.binary v b) zero c = none_first (level_breaks ts limits (ex.binary v b) zero) _ (level_zero ts limits (ex.binary v b)) c
    level_fits (ex.binary v b) (suc d) c =
        let left = level_breaks ts limits v (suc d) in
        let rest = binary_breaks ts limits b (suc d) in
        binary_within b d (clear_right left rest c) (level_fits v (suc d) (clear_left left rest c))

    binary_within : {l : ℕ} {x y : ExprTree} {from to : ℕ} → (s : BinaryAt ts l x y from to) → (d : ℕ) → binary_breaks ts limits s (suc d) ≡ [] → Fits limits (suc d) x → Fits limits (suc d) y
    binary_within ex.operand d c f = f
    binary_within {x = x} {from = from} (ex.operator {z = z} {op = op} s e v b) d c f =
        let place = span x.place z.place in
        let over = arises_over ts (expr_height x) from (suc d) in
        let right = level_breaks ts limits v d in
        let rest = binary_breaks ts limits b (suc d) in
        let c1 = clear_left (over ++ right) rest c in
        let low = over_clear d from x (clear_left over right c1) in
        let g = level_fits v d (clear_right over right c1) in
        let n2 = g.nodes in
        let l1 = f.lists in let l2 = g.lists in
        let m1 = f.names in let m2 = g.names in
        binary_within b d (clear_right (over ++ right) rest c)
        (record { nodes = omega (arith, low, n2, height_binary place op x z); lists = omega (arith, l1, l2, list_binary place op x z); names = omega (arith, m1, m2, name_binary place op x z) })

    unary_fits : {x : ExprTree} {from to : ℕ} → (s : UnaryAt ts x from to) → (d : ℕ) → unary_breaks ts limits s d ≡ [] → Fits limits d x
    unary_fits (ex.simple p) zero c = none_first (unary_breaks ts limits (ex.simple p) zero) _ (unary_zero ts limits (ex.simple p)) c
    unary_fits {from = from} (ex.prefix s e u) zero c = arises_none ts from (unary_breaks ts limits u zero) c
    unary_fits {from = from} (ex.cast s t e r u) zero c = arises_none ts from (unary_breaks ts limits u zero) c
    unary_fits (ex.simple (ex.postfix p q)) (suc d) c =
        let first_part = primary_breaks ts limits p (suc d) in
        let rest = chain_breaks ts limits q (suc d) in
        chain_within q d (clear_right first_part rest c) (primary_fits p d (clear_left first_part rest c))
    unary_fits (ex.prefix {p = p} {x = x} {op = op} s e u) (suc d) c =
        let place = span p x.place in
        let f = unary_fits u d c in
        let n1 = f.nodes in let l1 = f.lists in let m1 = f.names in
        record { nodes = omega (arith, n1, height_unary place op x); lists = omega (arith, l1, list_unary place op x); names = omega (arith, m1, name_unary place op x) }
    unary_fits (ex.cast {p = p} {x = x} {b = b} s t e r u) (suc d) c =
        let place = span p x.place in
        let f = unary_fits u d c in
        let n1 = f.nodes in let l1 = f.lists in let m1 = f.names in
        record { nodes = omega (arith, n1, height_cast place b x); lists = omega (arith, l1, list_cast place b x); names = omega (arith, m1, name_cast place b x) }

    chain_within : {x y : ExprTree} {from to : ℕ} → (s : ChainAt ts x y from to) → (d : ℕ) → chain_breaks ts limits s (suc d) ≡ [] → Fits limits (suc d) x → Fits limits (suc d) y
    chain_within ex.whole d c f = f
    chain_within {x = x} {from = from} (ex.member {end = end} {id = id} {args = args} s r q) d c f =
        let place = span x.place end in
        let over = arises_over ts (expr_height x) from (suc d) in
        let own = name_breaks ts limits r (suc d) in
        let rest = chain_breaks ts limits q (suc d) in
        let c1 = clear_left (over ++ own) rest c in
        let low = over_clear d from x (clear_left over own c1) in
        let u = name_fits r d (clear_right over own c1) in
        let short = u.0 in
        let g = u.1 in
        let n2 = g.nodes in let i2 = g.items in
        let l1 = f.lists in let l2 = g.lists in
        let m1 = f.names in let m2 = g.names in
        chain_within q d (clear_right (over ++ own) rest c)
        (record { nodes = omega (arith, low, n2, height_member place x id args); lists = omega (arith, l1, i2, l2, list_member place x id args); names = omega (arith, m1, short, m2, name_member place x id args) })
    chain_within {x = x} {from = from} (ex.index {end = end} {i = i} s v r q) d c f =
        let place = span x.place end in
        let over = arises_over ts (expr_height x) from (suc d) in
        let own = expr_breaks ts limits v d in
        let rest = chain_breaks ts limits q (suc d) in
        let c1 = clear_left (over ++ own) rest c in
        let low = over_clear d from x (clear_left over own c1) in
        let g = expr_fits v d (clear_right over own c1) in
        let n2 = g.nodes in
        let l1 = f.lists in let l2 = g.lists in
        let m1 = f.names in let m2 = g.names in
        chain_within q d (clear_right (over ++ own) rest c)
        (record { nodes = omega (arith, low, n2, height_index place x i); lists = omega (arith, l1, l2, list_index place x i); names = omega (arith, m1, m2, name_index place x i) })
    chain_within {x = x} {from = from} (ex.call {end = end} {args = args} s v q) d c f =
        let place = span x.place end in
        let over = arises_over ts (expr_height x) from (suc d) in
        let own = values_breaks ts limits v d in
        let rest = chain_breaks ts limits q (suc d) in
        let c1 = clear_left (over ++ own) rest c in
        let low = over_clear d from x (clear_left over own c1) in
        let g = values_fits v d (clear_right over own c1) in
        let n2 = g.nodes in let i2 = g.items in
        let l1 = f.lists in let l2 = g.lists in
        let m1 = f.names in let m2 = g.names in
        chain_within q d (clear_right (over ++ own) rest c)
        (record { nodes = omega (arith, low, n2, height_call place x args); lists = omega (arith, l1, i2, l2, list_call place x args); names = omega (arith, m1, m2, name_call place x args) })

    values_fits : {args : List ExprTree} {end : Place} {from to : ℕ} → (s : ValuesAt ts args end from to) → (d : ℕ) → values_breaks ts limits s d ≡ [] → ListFits limits d args
    values_fits (ex.no_values s) d c = record { nodes = omega arith; items = omega arith; lists = omega arith; names = omega arith }
    values_fits {from = from} (ex.values {x = x} v r s) d c =
        let own = expr_breaks ts limits v d in
        let one = item_with ts limits 0 from d own in
        let rest = more_values_breaks ts limits r d in
        let u = item_clear 0 from d own (clear_left one rest c) in
        more_within r d (clear_right one rest c) (longer_fits limits d [] x u.0 (expr_fits v d u.1) (record { nodes = omega arith; items = omega arith; lists = omega arith; names = omega arith }))

    more_within : {xs ys : List ExprTree} {from to : ℕ} → (s : MoreValuesAt ts xs ys from to) → (d : ℕ) → more_values_breaks ts limits s d ≡ [] → ListFits limits d xs → ListFits limits d ys
    more_within ex.end d c f = f
    more_within {xs = xs} {from = from} (ex.more {x = x} s v r) d c f =
        let own = expr_breaks ts limits v d in
        let one = item_with ts limits (length xs) (from + 1) d own in
        let rest = more_values_breaks ts limits r d in
        let u = item_clear (length xs) (from + 1) d own (clear_left one rest c) in
        more_within r d (clear_right one rest c) (longer_fits limits d xs x u.0 (expr_fits v d u.1) f)

    primary_fits : {x : ExprTree} {from to : ℕ} → (s : PrimaryAt ts x from to) → (d : ℕ) → primary_breaks ts limits s (suc d) ≡ [] → Fits limits (suc d) x
    primary_fits (ex.number {p = p} {v = v} s) d c = record { nodes = omega (arith, height_value p v); lists = omega (arith, list_value p v); names = omega (arith, name_value p v) }
    primary_fits (ex.true_word {p = p} s) d c = record { nodes = omega (arith, height_true p); lists = omega (arith, list_true p); names = omega (arith, name_true p) }
    primary_fits (ex.false_word {p = p} s) d c = record { nodes = omega (arith, height_false p); lists = omega (arith, list_false p); names = omega (arith, name_false p) }
    primary_fits (ex.this_value {p = p} s) d c = record { nodes = omega (arith, height_this_value p); lists = omega (arith, list_this_value p); names = omega (arith, name_this_value p) }
    primary_fits (ex.this_type {p = p} s) d c = record { nodes = omega (arith, height_this_type p); lists = omega (arith, list_this_type p); names = omega (arith, name_this_type p) }
    primary_fits (ex.name {end = end} {id = id} {args = args} r) d c =
        let place = span id.place end in
        let u = name_fits r d c in
        let short = u.0 in
        let g = u.1 in
        let n1 = g.nodes in let i1 = g.items in let l1 = g.lists in let m1 = g.names in
        record { nodes = omega (arith, n1, height_name place id args); lists = omega (arith, i1, l1, list_name place id args); names = omega (arith, short, m1, name_name place id args) }
    primary_fits (ex.construct {p = p} {end = end} {b = b} {args = args} s e o v) d c =
        let place = span p end in
        let g = values_fits v d c in
        let n1 = g.nodes in let i1 = g.items in let l1 = g.lists in let m1 = g.names in
        record { nodes = omega (arith, n1, height_construct place b args); lists = omega (arith, i1, l1, list_construct place b args); names = omega (arith, m1, name_construct place b args) }
    primary_fits (ex.paren {p = p} {end = end} {x = x} s v r) d c =
        let place = span p end in
        let g = expr_fits v d c in
        let n1 = g.nodes in let l1 = g.lists in let m1 = g.names in
        record { nodes = omega (arith, n1, height_paren place x); lists = omega (arith, l1, list_paren place x); names = omega (arith, m1, name_paren place x) }
