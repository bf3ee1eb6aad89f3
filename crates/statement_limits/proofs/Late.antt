-- With room for a node, none is too deep at the first token of a type or an expression.
use Rattle.std.proofs.Common.{Bool, true, false, ◌≡◌, ℕ, zero, suc, ◌+◌, ◌≤◌, ◌<◌, List, [], ◌++◌, length, refl, subst, ◌∙◌, arith}
use Rattle.std.specs.Prelude.{All, nat_le, nat_lt}
use Rattle.std.proofs.lemmas.List.{append-nil}
use Rattle.std.proofs.lemmas.List.Elements.{All-nil, All-cons, All-append, All-weaker}
use Rattle.slang_names.specs.declared.codes.ModuleCode.{ModuleCode}
use Rattle.slang_names.specs.declared.codes.ModuleCode.TheVariants as code
use Rattle.slang_names.specs.declared.places.Place.{Place}
use Rattle.slang_tree.specs.declared.types.Identifier.{Identifier}
use Rattle.slang_tree.specs.declared.types.Term.{Term}
use Rattle.slang_tree.specs.declared.types.TypeTree.{TypeTree}
use Rattle.slang_tree.specs.declared.types.GenericArgument.{GenericArgument}
use Rattle.slang_tree.specs.declared.expressions.ExprTree.{ExprTree}
use Rattle.slang_reading.specs.Lexed.{Lexed}
use Rattle.slang_grammar.specs.Types as t
use Rattle.slang_grammar.specs.Types.{TermAt, TypeAt, TypeNameAt, ProjectionsAt}
use Rattle.slang_grammar.specs.Heights.{height}
use Rattle.slang_grammar.specs.Expressions as ex
use Rattle.slang_grammar.specs.Expressions.{NameAt, ExprAt, LevelAt, BinaryAt, UnaryAt, PostfixAt, ChainAt, ValuesAt, MoreValuesAt, PrimaryAt}
use Rattle.slang_grammar.specs.Descent.{Limits}
use Rattle.expression_grammar.specs.Heights.{expr_height}
use Rattle.expression_limits.specs.Breaks.{Break, inside, broken, unless, arises, arises_over, item_behind, item_with, name_there}
use Rattle.expression_limits.specs.Types.{term_breaks, type_breaks, type_name_breaks, projections_breaks, arguments_breaks}
use Rattle.expression_limits.specs.Expressions.{given_breaks, name_breaks, expr_breaks, level_breaks, binary_breaks, unary_breaks, postfix_breaks, chain_breaks, values_breaks, more_values_breaks, primary_breaks}
use Rattle.expression_limits.proofs.Moves.{type_moves, type_name_moves, projections_move, name_moves, operator_moves, expr_moves, level_moves, primary_moves, values_move}
use Rattle.expression_limits.proofs.Order.{StandsIn, Ordered}
use Rattle.expression_limits.proofs.TypesOrder.{ordered_type, ordered_arguments}
use Rattle.expression_limits.proofs.ExpressionsOrder.{ordered_expr}
use Rattle.statement_limits.proofs.Order.{Late, late_none, late_append, late_behind, Known, known_none, known_limits, known_name}

-- all of them are known behind that token
abbrev Behind : ℕ → List Break → Type 0
Behind low bs = All (λ (c : Break). low < c.at) bs

behind_none : (low : ℕ) → Behind low []
behind_none low = All-nil (λ (c : Break). low < c.at)

behind_append : (low : ℕ) (xs ys : List Break) → Behind low xs → Behind low ys → Behind low (xs ++ ys)
behind_append low xs ys h k = All-append (λ (c : Break). low < c.at) xs ys h k

module _ (ts : List Lexed) where
  behind_unless : (low at : ℕ) (test : Bool) (k : ModuleCode) → low < at → Behind low (unless ts test k at)
  behind_unless low at true k l = behind_none low
  behind_unless low at false k l = All-cons (λ (c : Break). low < c.at) (broken ts k at) [] l (behind_none low)

  behind_arises : (low at d : ℕ) → low < at → Behind low (arises ts at d)
  behind_arises low at zero l = All-cons (λ (c : Break). low < c.at) (broken ts code.TooNested at) [] l (behind_none low)
  behind_arises low at (suc d) l = behind_none low

  behind_ordered : (low from to : ℕ) (bs : List Break) → low < from → Ordered ts from to bs → Behind low bs
  behind_ordered low from to bs l o = All-weaker (StandsIn ts from to) (λ (c : Break). low < c.at) (λ c s. let u = s.0 in omega (arith, l, u)) bs o.all

  -- what is too long is no node
  pub late_long : (from at : ℕ) (test : Bool) → Late from (unless ts test code.TooLong at)
  late_long from at true = late_none from
  late_long from at false = All-cons (λ (c : Break). from ≡ c.at → c.code ≡ code.TooNested → ⊥) (broken ts code.TooLong at) [] (λ e f. absurd (differ f)) (late_none from)
    where
      differ : code.TooLong ≡ code.TooNested → ⊥
      differ f = cc

  module _ (limits : Limits) where
    behind_name : (low at : ℕ) (id : Identifier) → low < at → Behind low (name_there ts limits id at)
    behind_name low at id l = behind_unless low at (nat_le (length id.name) limits.names) code.TooLong l

    -- ---- types

    behind_term : {x : Term} {at : ℕ} → (s : TermAt ts x at) → (low : ℕ) → low < at → Behind low (term_breaks ts limits s)
    behind_term (t.number_term s) low l = behind_none low
    behind_term {at = at} (t.name_term {id = id} s) low l = behind_name low at id l

    behind_projections : {x y : TypeTree} {from to : ℕ} → (s : ProjectionsAt ts x y from to) → (d low : ℕ) → low < from → Behind low (projections_breaks ts limits s d)
    behind_projections t.whole d low l = behind_none low
    behind_projections {x = x} {from = from} (t.project {id = id} s i r) d low l =
        behind_append low (arises_over ts (height x) from d ++ name_there ts limits id (from + 1)) (projections_breaks ts limits r d)
        (behind_append low (arises_over ts (height x) from d) (name_there ts limits id (from + 1)) (behind_unless low from (nat_lt (height x) d) code.TooNested l) (behind_name low (from + 1) id (omega (arith, l))))
        (behind_projections r d low (omega (arith, l)))

    late_type_name : {x : TypeTree} {from to : ℕ} → (s : TypeNameAt ts x from to) → (d : ℕ) → Late from (type_name_breaks ts limits s (suc d))
    late_type_name {from = from} (t.builtin s q) d = late_none from
    late_type_name {from = from} (t.this_type s) d = late_none from
    late_type_name {from = from} (t.name {id = id} i) d = late_long from from (nat_le (length id.name) limits.names)
    late_type_name {from = from} {to = to} (t.generic {id = id} i a) d =
        late_append from (name_there ts limits id from) (arguments_breaks ts limits a d) (late_long from from (nat_le (length id.name) limits.names))
        (late_behind from (arguments_breaks ts limits a d) (behind_ordered from (from + 1) to (arguments_breaks ts limits a d) (omega arith) (ordered_arguments ts limits a d)))
    late_type_name {from = from} (t.resource {at = at} s q o x c) d =
        late_behind from (type_breaks ts limits x d) (behind_ordered from (from + 1 + 1) at (type_breaks ts limits x d) (omega arith) (ordered_type ts limits x d))

    pub late_type : {x : TypeTree} {from to : ℕ} → (s : TypeAt ts x from to) → (d : ℕ) → Late from (type_breaks ts limits s (suc d))
    late_type {from = from} (t.plain n r) d =
        let u = type_name_moves ts n in
        late_append from (type_name_breaks ts limits n (suc d)) (projections_breaks ts limits r (suc d)) (late_type_name n d)
        (late_behind from (projections_breaks ts limits r (suc d)) (behind_projections r (suc d) from u))
    late_type {from = from} (t.array {at = at} {y = y} n r o l c) d =
        let u = type_name_moves ts n in
        let v = projections_move ts r in
        let over = arises_over ts (height y) at (suc d) in
        let more = projections_breaks ts limits r (suc d) in
        late_append from (type_name_breaks ts limits n (suc d)) (more ++ (over ++ term_breaks ts limits l)) (late_type_name n d)
        (late_behind from (more ++ (over ++ term_breaks ts limits l)) (behind_append from more (over ++ term_breaks ts limits l) (behind_projections r (suc d) from u)
        (behind_append from over (term_breaks ts limits l) (behind_unless from at (nat_lt (height y) (suc d)) code.TooNested (omega (arith, u, v))) (behind_term l from (omega (arith, u, v))))))

    -- ---- expressions

    behind_given : {id : Identifier} {args : List GenericArgument} {end : Place} {from to : ℕ} → (s : NameAt ts id args end from to) → (d low : ℕ) → low ≤ from → Behind low (given_breaks ts limits s d)
    behind_given (ex.alone i none) d low l = behind_none low
    behind_given {from = from} {to = to} (ex.generic i a f) d low l = behind_ordered low (from + 1) to (arguments_breaks ts limits a d) (omega (arith, l)) (ordered_arguments ts limits a d)

    behind_name_at : {id : Identifier} {args : List GenericArgument} {end : Place} {from to : ℕ} → (s : NameAt ts id args end from to) → (d low : ℕ) → low < from → Behind low (name_breaks ts limits s d)
    behind_name_at {id = id} {from = from} s d low l = behind_append low (name_there ts limits id from) (given_breaks ts limits s (inside d)) (behind_name low from id l) (behind_given s (inside d) low (omega (arith, l)))

    behind_expr : {x : ExprTree} {from to : ℕ} → (s : ExprAt ts x from to) → (d low : ℕ) → low < from → Behind low (expr_breaks ts limits s d)
    behind_expr {from = from} {to = to} s d low l = behind_ordered low from to (expr_breaks ts limits s d) l (ordered_expr ts limits s d)

    behind_more : {xs ys : List ExprTree} {from to : ℕ} → (s : MoreValuesAt ts xs ys from to) → (d low : ℕ) → low ≤ from → Behind low (more_values_breaks ts limits s d)
    behind_more ex.end d low l = behind_none low
    behind_more {xs = xs} {from = from} (ex.more s v r) d low l =
        let u = expr_moves ts v in
        let one = item_with ts limits (length xs) (from + 1) d (expr_breaks ts limits v d) in
        let more = more_values_breaks ts limits r d in
        behind_append low one more
        (behind_append low (arises ts (from + 1) d) (item_behind ts limits (length xs) (from + 1) ++ expr_breaks ts limits v d) (behind_arises low (from + 1) d (omega (arith, l)))
        (behind_append low (item_behind ts limits (length xs) (from + 1)) (expr_breaks ts limits v d) (behind_unless low (from + 1) (nat_lt (length xs) limits.items) code.TooLong (omega (arith, l)))
        (behind_expr v d low (omega (arith, l)))))
        (behind_more r d low (omega (arith, l, u)))

    behind_values : {args : List ExprTree} {end : Place} {from to : ℕ} → (s : ValuesAt ts args end from to) → (d low : ℕ) → low < from → Behind low (values_breaks ts limits s d)
    behind_values (ex.no_values s) d low l = behind_none low
    behind_values {from = from} (ex.values v r s) d low l =
        let u = expr_moves ts v in
        let one = item_with ts limits 0 from d (expr_breaks ts limits v d) in
        behind_append low one (more_values_breaks ts limits r d)
        (behind_append low (arises ts from d) (item_behind ts limits 0 from ++ expr_breaks ts limits v d) (behind_arises low from d l)
        (behind_append low (item_behind ts limits 0 from) (expr_breaks ts limits v d) (behind_unless low from (nat_lt 0 limits.items) code.TooLong l) (behind_expr v d low l)))
        (behind_more r d low (omega (arith, l, u)))

    behind_chain : {x y : ExprTree} {from to : ℕ} → (s : ChainAt ts x y from to) → (d low : ℕ) → low < from → Behind low (chain_breaks ts limits s d)
    behind_chain ex.whole d low l = behind_none low
    behind_chain {x = x} {from = from} (ex.member s n c) d low l =
        let u = name_moves ts n in
        let over = arises_over ts (expr_height x) from d in
        behind_append low (over ++ name_breaks ts limits n d) (chain_breaks ts limits c d)
        (behind_append low over (name_breaks ts limits n d) (behind_unless low from (nat_lt (expr_height x) d) code.TooNested l) (behind_name_at n d low (omega (arith, l))))
        (behind_chain c d low (omega (arith, l, u)))
    behind_chain {x = x} {from = from} (ex.index s i r c) d low l =
        let u = expr_moves ts i in
        let over = arises_over ts (expr_height x) from d in
        behind_append low (over ++ expr_breaks ts limits i (inside d)) (chain_breaks ts limits c d)
        (behind_append low over (expr_breaks ts limits i (inside d)) (behind_unless low from (nat_lt (expr_height x) d) code.TooNested l) (behind_expr i (inside d) low (omega (arith, l))))
        (behind_chain c d low (omega (arith, l, u)))
    behind_chain {x = x} {from = from} (ex.call s v c) d low l =
        let u = values_move ts v in
        let over = arises_over ts (expr_height x) from d in
        behind_append low (over ++ values_breaks ts limits v (inside d)) (chain_breaks ts limits c d)
        (behind_append low over (values_breaks ts limits v (inside d)) (behind_unless low from (nat_lt (expr_height x) d) code.TooNested l) (behind_values v (inside d) low (omega (arith, l))))
        (behind_chain c d low (omega (arith, l, u)))

    behind_primary : {x : ExprTree} {from to : ℕ} → (s : PrimaryAt ts x from to) → (d low : ℕ) → low < from → Behind low (primary_breaks ts limits s d)
    behind_primary {from = from} (ex.number s) d low l = behind_arises low from d l
    behind_primary {from = from} (ex.true_word s) d low l = behind_arises low from d l
    behind_primary {from = from} (ex.false_word s) d low l = behind_arises low from d l
    behind_primary {from = from} (ex.this_value s) d low l = behind_arises low from d l
    behind_primary {from = from} (ex.this_type s) d low l = behind_arises low from d l
    behind_primary {from = from} (ex.name n) d low l = behind_append low (arises ts from d) (name_breaks ts limits n d) (behind_arises low from d l) (behind_name_at n d low l)
    behind_primary {from = from} (ex.construct s e o v) d low l =
        behind_append low (arises ts from d) (values_breaks ts limits v (inside d)) (behind_arises low from d l) (behind_values v (inside d) low (omega (arith, l)))
    behind_primary {from = from} (ex.paren s v r) d low l =
        behind_append low (arises ts from d) (expr_breaks ts limits v (inside d)) (behind_arises low from d l) (behind_expr v (inside d) low (omega (arith, l)))

    behind_unary : {x : ExprTree} {from to : ℕ} → (s : UnaryAt ts x from to) → (d low : ℕ) → low < from → Behind low (unary_breaks ts limits s d)
    behind_unary (ex.simple (ex.postfix p c)) d low l =
        let u = primary_moves ts p in
        behind_append low (primary_breaks ts limits p d) (chain_breaks ts limits c d) (behind_primary p d low l) (behind_chain c d low (omega (arith, l, u)))
    behind_unary {from = from} (ex.prefix s e u) d low l =
        behind_append low (arises ts from d) (unary_breaks ts limits u (inside d)) (behind_arises low from d l) (behind_unary u (inside d) low (omega (arith, l)))
    behind_unary {from = from} (ex.cast s t e r u) d low l =
        behind_append low (arises ts from d) (unary_breaks ts limits u (inside d)) (behind_arises low from d l) (behind_unary u (inside d) low (omega (arith, l)))

    mutual
      behind_level : {l : ℕ} {x : ExprTree} {from to : ℕ} → (s : LevelAt ts l x from to) → (d low : ℕ) → low < from → Behind low (level_breaks ts limits s d)
      behind_level (ex.unary u) d low l = behind_unary u d low l
      behind_level (ex.binary v b) d low l =
          let u = level_moves ts v in
          behind_append low (level_breaks ts limits v d) (binary_breaks ts limits b d) (behind_level v d low l) (behind_binary b d low (omega (arith, l, u)))

      behind_binary : {l : ℕ} {x y : ExprTree} {from to : ℕ} → (s : BinaryAt ts l x y from to) → (d low : ℕ) → low < from → Behind low (binary_breaks ts limits s d)
      behind_binary ex.operand d low l = behind_none low
      behind_binary {x = x} {from = from} (ex.operator s e v b) d low l =
          let u = operator_moves ts s in
          let w = level_moves ts v in
          let over = arises_over ts (expr_height x) from d in
          behind_append low (over ++ level_breaks ts limits v (inside d)) (binary_breaks ts limits b d)
          (behind_append low over (level_breaks ts limits v (inside d)) (behind_unless low from (nat_lt (expr_height x) d) code.TooNested l) (behind_level v (inside d) low (omega (arith, l, u))))
          (behind_binary b d low (omega (arith, l, u, w)))

    late_primary : {x : ExprTree} {from to : ℕ} → (s : PrimaryAt ts x from to) → (d : ℕ) → Late from (primary_breaks ts limits s (suc d))
    late_primary {from = from} (ex.number s) d = late_none from
    late_primary {from = from} (ex.true_word s) d = late_none from
    late_primary {from = from} (ex.false_word s) d = late_none from
    late_primary {from = from} (ex.this_value s) d = late_none from
    late_primary {from = from} (ex.this_type s) d = late_none from
    late_primary {from = from} (ex.name {id = id} n) d =
        late_append from (name_there ts limits id from) (given_breaks ts limits n d) (late_long from from (nat_le (length id.name) limits.names))
        (late_behind from (given_breaks ts limits n d) (behind_given n d from (omega arith)))
    late_primary {from = from} (ex.construct s e o v) d = late_behind from (values_breaks ts limits v d) (behind_values v d from (omega arith))
    late_primary {from = from} (ex.paren s v r) d = late_behind from (expr_breaks ts limits v d) (behind_expr v d from (omega arith))

    late_unary : {x : ExprTree} {from to : ℕ} → (s : UnaryAt ts x from to) → (d : ℕ) → Late from (unary_breaks ts limits s (suc d))
    late_unary {from = from} (ex.simple (ex.postfix p c)) d =
        late_append from (primary_breaks ts limits p (suc d)) (chain_breaks ts limits c (suc d)) (late_primary p d) (late_behind from (chain_breaks ts limits c (suc d)) (behind_chain c (suc d) from (primary_moves ts p)))
    late_unary {from = from} (ex.prefix s e u) d = late_behind from (unary_breaks ts limits u d) (behind_unary u d from (omega arith))
    late_unary {from = from} (ex.cast s t e r u) d = late_behind from (unary_breaks ts limits u d) (behind_unary u d from (omega arith))

    late_level : {l : ℕ} {x : ExprTree} {from to : ℕ} → (s : LevelAt ts l x from to) → (d : ℕ) → Late from (level_breaks ts limits s (suc d))
    late_level (ex.unary u) d = late_unary u d
    late_level {from = from} (ex.binary v b) d =
        late_append from (level_breaks ts limits v (suc d)) (binary_breaks ts limits b (suc d)) (late_level v d) (late_behind from (binary_breaks ts limits b (suc d)) (behind_binary b (suc d) from (level_moves ts v)))

    pub late_expr : {x : ExprTree} {from to : ℕ} → (s : ExprAt ts x from to) → (d : ℕ) → Late from (expr_breaks ts limits s (suc d))
    late_expr (ex.plain v) d = late_level v d
    late_expr {from = from} (ex.choice {mid = mid} {x = x} v s y c z) d =
        let l = level_moves ts v in
        let u = expr_moves ts y in
        let over = arises_over ts (expr_height x) mid (suc d) in
        let one = expr_breaks ts limits y d in
        let other = expr_breaks ts limits z d in
        late_append from (level_breaks ts limits v (suc d)) (over ++ (one ++ other)) (late_level v d)
        (late_behind from (over ++ (one ++ other)) (behind_append from over (one ++ other) (behind_unless from mid (nat_lt (expr_height x) (suc d)) code.TooNested l)
        (behind_append from one other (behind_expr y d from (omega (arith, l))) (behind_expr z d from (omega (arith, l, u))))))

    -- ---- types, expressions and their parts, in order

    pub known_term : {x : Term} {at : ℕ} → (s : TermAt ts x at) → Known ts at (at + 1) (term_breaks ts limits s)
    known_term {at = at} (t.number_term s) = known_none ts at (at + 1) (omega arith)
    known_term {at = at} (t.name_term {id = id} s) = known_name ts at (nat_le (length id.name) limits.names)

    pub known_type : {x : TypeTree} {from to : ℕ} → (s : TypeAt ts x from to) → (d : ℕ) → Known ts from to (type_breaks ts limits s d)
    known_type {from = from} {to = to} s d = let u = type_moves ts s in known_limits ts from to (omega (arith, u)) (ordered_type ts limits s d)

    pub known_expr : {x : ExprTree} {from to : ℕ} → (s : ExprAt ts x from to) → (d : ℕ) → Known ts from to (expr_breaks ts limits s d)
    known_expr {from = from} {to = to} s d = let u = expr_moves ts s in known_limits ts from to (omega (arith, u)) (ordered_expr ts limits s d)

    -- an operand as an expression of any level
    raised : {x : ExprTree} {from to : ℕ} → (l : ℕ) → UnaryAt ts x from to → LevelAt ts l x from to
    raised zero u = ex.unary u
    raised (suc l) u = ex.binary (raised l u) ex.operand

    raised_breaks : {x : ExprTree} {from to : ℕ} → (l : ℕ) → (u : UnaryAt ts x from to) → (d : ℕ) → level_breaks ts limits (raised l u) d ≡ unary_breaks ts limits u d
    unfolding raised
    raised_breaks zero u d = refl
    raised_breaks (suc l) u d = append-nil (level_breaks ts limits (raised l u) d) ∙ raised_breaks l u d

    pub known_postfix : {x : ExprTree} {from to : ℕ} → (s : PostfixAt ts x from to) → (d : ℕ) → Known ts from to (postfix_breaks ts limits s d)
    known_postfix {from = from} {to = to} s d = subst (λ bs. Known ts from to bs) (raised_breaks 10 (ex.simple s) d) (known_expr (ex.plain (raised 10 (ex.simple s))) d)
