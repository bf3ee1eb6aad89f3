-- Short texts and the first limit that they break. The token at index n lies at n to n + 1.
use Rattle.std.proofs.Common.{◌≡◌, ℕ, zero, suc, ◌+◌, false, List, [], ◌∷◌, ◌++◌, codes, drop, Option, Some, None, refl, sym, ◌∙◌, ap, true}
use Rattle.slang_names.specs.declared.places.Place.{Place}
use Rattle.slang_names.specs.declared.codes.ModuleCode.{ModuleCode}
use Rattle.slang_names.specs.declared.codes.ModuleCode.TheVariants as code
use Rattle.slang_tree.specs.declared.types.Identifier.{Identifier}
use Rattle.slang_tree.specs.declared.types.TypeTree.{TypeTree}
use Rattle.slang_tree.specs.declared.types.TypeNode.TheVariants as n
use Rattle.slang_tree.specs.declared.types.GenericArgument.TheVariants as g
use Rattle.slang_tree.specs.declared.expressions.BinaryOperator.TheVariants as o
use Rattle.slang_tree.specs.declared.expressions.ExprTree.{ExprTree}
use Rattle.slang_tree.specs.declared.expressions.ExprNode.TheVariants as e
use Rattle.slang_tokens.specs.declared.tokens.Kind.{Kind}
use Rattle.slang_tokens.specs.declared.tokens.Kind.TheVariants as k
use Rattle.slang_tokens.specs.declared.tokens.Mark.{Mark}
use Rattle.slang_tokens.specs.declared.tokens.Mark.TheVariants as m
use Rattle.slang_reading.specs.Lexed.{Lexed}
use Rattle.slang_reading.specs.Reading.{first}
use Rattle.slang_reading.specs.Kinds.{sees}
use Rattle.slang_grammar.proofs.Heights.{height_named}
use Rattle.slang_grammar.proofs.TypesRead.{less_there}
use Rattle.expression_grammar.proofs.Heights.{height_name}
use Rattle.slang_grammar.specs.Types as t
use Rattle.slang_grammar.specs.Types.{typed, TypeAt}
use Rattle.slang_grammar.specs.Expressions as ex
use Rattle.slang_grammar.specs.Expressions.{valued, NoArguments, LevelAt, UnaryAt, ExprAt}
use Rattle.slang_grammar.specs.Descent.{Limits}
use Rattle.expression_limits.specs.Breaks.{Break, arises_over}
use Rattle.expression_limits.specs.Types.{type_break}
use Rattle.expression_limits.specs.Expressions.{expr_break}

abbrev lies : ℕ → ℕ → Place
lies from to = record { start = from; end = to }

abbrev token : Kind → List ℕ → ℕ → Lexed
token kind bytes at = record { kind = kind; place = lies at (at + 1); bytes = bytes }

abbrev mark : Mark → ℕ → Lexed
mark x = token (k.Mark x) []

abbrev named_token : List ℕ → ℕ → Lexed
named_token bytes = token k.Name bytes

-- each token at its index
abbrev placed : ℕ → List (ℕ → Lexed) → List Lexed
placed at [] = []
placed at (t ∷ ts) = t at ∷ placed (at + 1) ts

-- with so many items in a list and bytes in a name
abbrev within : ℕ → ℕ → Limits
within items names = record { turns = 12; items = items; names = names; free = false }

-- that code at the token of that index
abbrev break_at : ModuleCode → ℕ → Break
break_at c at = record { code = c; place = lies at (at + 1); at = at }

abbrev told : ModuleCode → ℕ → Option Break
told c at = Some (break_at c at)

abbrev a_name : List ℕ
a_name = codes "a"

abbrev b_name : List ℕ
b_name = codes "bb"

abbrev name_at : List ℕ → ℕ → Identifier
name_at bytes at = record { place = lies at (at + 1); name = bytes }

-- ---- types

abbrev type_at : List ℕ → ℕ → TypeTree
type_at bytes at = typed (lies at (at + 1)) (n.Named (name_at bytes at) [])

-- a<bb>
abbrev generic_tokens : List Lexed
generic_tokens = placed 0 (named_token a_name ∷ mark m.Less ∷ named_token b_name ∷ mark m.Greater ∷ [])

abbrev generic : TypeAt generic_tokens (typed (lies 0 4) (n.Named (name_at a_name 0) (g.Term (type_at b_name 2) ∷ []))) 0 4
generic = t.plain (t.generic (record { is = refl }) (t.arguments (record { bytes = []; is = refl }) (t.type_argument (t.plain (t.name (record { is = refl })) t.whole)) t.end (record { bytes = []; is = refl }))) t.whole

generic_fits : type_break generic_tokens (within 1 2) generic 2 ≡ None
generic_fits = refl

argument_too_deep : type_break generic_tokens (within 1 2) generic 1 ≡ told code.TooNested 2
argument_too_deep = refl

name_too_long : type_break generic_tokens (within 1 1) generic 2 ≡ told code.TooLong 2
name_too_long = refl

too_many_arguments : type_break generic_tokens (within 0 2) generic 2 ≡ told code.TooLong 2
too_many_arguments = refl

nesting_goes_first : type_break generic_tokens (within 0 1) generic 1 ≡ told code.TooNested 2
nesting_goes_first = refl

nothing_fits : type_break generic_tokens (within 0 0) generic 0 ≡ told code.TooNested 0
nothing_fits = refl

-- a.bb
abbrev projected_tokens : List Lexed
projected_tokens = placed 0 (named_token a_name ∷ mark m.Dot ∷ named_token b_name ∷ [])

abbrev projected : TypeAt projected_tokens (typed (lies 0 3) (n.Projection (type_at a_name 0) (name_at b_name 2))) 0 3
projected = t.plain (t.name (record { is = refl })) (t.project (record { bytes = []; is = refl }) (record { is = refl }) t.whole)

-- what a projection breaks, over a type of that height
abbrev over_type : List Break → ℕ → ℕ → Option Break
over_type bs d h = first (arises_over projected_tokens h 1 d ++ bs ++ [])

projection_too_deep : type_break projected_tokens (within 1 2) projected 1 ≡ told code.TooNested 1
projection_too_deep = ap (over_type [] 1) (height_named (lies 0 1) (name_at a_name 0) [])

projection_too_long : type_break projected_tokens (within 1 1) projected 2 ≡ told code.TooLong 2
projection_too_long = ap (over_type (break_at code.TooLong 2 ∷ []) 2) (height_named (lies 0 1) (name_at a_name 0) [])

-- ---- expressions

abbrev value_at : List ℕ → ℕ → ExprTree
value_at bytes at = valued (lies at (at + 1)) (e.Name (name_at bytes at) [])

no_arguments : (ts : List Lexed) (at : ℕ) → sees m.Less (first (drop at ts)) ≡ false → NoArguments ts at
no_arguments ts at h = record { none = λ args end to s f. differ (sym h ∙ less_there s) }
  where
    differ : false ≡ true → ⊥
    differ e = cc

-- with operators of one more level, of which there are none
abbrev looser : {ts : List Lexed} {l from to : ℕ} {x : ExprTree} → LevelAt ts l x from to → LevelAt ts (suc l) x from to
looser v = ex.binary v ex.operand

abbrev whole : {ts : List Lexed} {from to : ℕ} {x : ExprTree} → UnaryAt ts x from to → ExprAt ts x from to
whole u = ex.plain (looser (looser (looser (looser (looser (looser (looser (looser (looser (looser (ex.unary u)))))))))))

-- and what that breaks, so many levels up
abbrev loosened : ℕ → List Break → List Break
loosened zero bs = bs
loosened (suc l) bs = loosened l bs ++ []

-- a + bb
abbrev sum_tokens : List Lexed
sum_tokens = placed 0 (named_token a_name ∷ mark m.Plus ∷ named_token b_name ∷ [])

abbrev sum : ExprAt sum_tokens (valued (lies 0 3) (e.Binary o.Add (value_at a_name 0) (value_at b_name 2))) 0 3
sum = ex.plain (looser (looser (looser (looser (looser (looser (looser (looser (ex.binary
    (looser (ex.unary (ex.simple (ex.postfix (ex.name (ex.alone (record { is = refl }) (no_arguments sum_tokens 1 refl))) ex.whole))))
    (ex.operator (ex.mark (record { bytes = []; is = refl }) refl) refl (looser (ex.unary (ex.simple (ex.postfix (ex.name (ex.alone (record { is = refl }) (no_arguments sum_tokens 3 refl))) ex.whole)))) ex.operand))))))))))

-- what a sum breaks, over a first operand of that height
abbrev over_operand : List Break → ℕ → ℕ → Option Break
over_operand bs d h = first (loosened 8 (arises_over sum_tokens h 1 d ++ bs ++ []))

sum_too_deep : expr_break sum_tokens (within 1 2) sum 1 ≡ told code.TooNested 1
sum_too_deep = ap (over_operand (break_at code.TooNested 2 ∷ []) 1) (height_name (lies 0 1) (name_at a_name 0) [])

name_in_sum : expr_break sum_tokens (within 1 1) sum 2 ≡ told code.TooLong 2
name_in_sum = ap (over_operand (break_at code.TooLong 2 ∷ []) 2) (height_name (lies 0 1) (name_at a_name 0) [])

-- a(a, bb)
abbrev call_tokens : List Lexed
call_tokens = placed 0 (named_token a_name ∷ mark m.OpenParen ∷ named_token a_name ∷ mark m.Comma ∷ named_token b_name ∷ mark m.CloseParen ∷ [])

abbrev call : ExprAt call_tokens (valued (lies 0 6) (e.Call (value_at a_name 0) (value_at a_name 2 ∷ value_at b_name 4 ∷ []))) 0 6
call = whole (ex.simple (ex.postfix (ex.name (ex.alone (record { is = refl }) (no_arguments call_tokens 1 refl))) (ex.call (record { bytes = []; is = refl })
    (ex.values (whole (ex.simple (ex.postfix (ex.name (ex.alone (record { is = refl }) (no_arguments call_tokens 3 refl))) ex.whole)))
    (ex.more (record { bytes = []; is = refl }) (whole (ex.simple (ex.postfix (ex.name (ex.alone (record { is = refl }) (no_arguments call_tokens 5 refl))) ex.whole))) ex.end) (record { bytes = []; is = refl })) ex.whole)))

-- what a call breaks, over a callee of that height
abbrev over_callee : List Break → ℕ → ℕ → Option Break
over_callee bs d h = first (loosened 10 (arises_over call_tokens h 1 d ++ bs ++ []))

call_fits : expr_break call_tokens (within 2 2) call 2 ≡ None
call_fits = ap (over_callee [] 2) (height_name (lies 0 1) (name_at a_name 0) [])

call_too_deep : expr_break call_tokens (within 2 2) call 1 ≡ told code.TooNested 1
call_too_deep = ap (over_callee (break_at code.TooNested 2 ∷ break_at code.TooNested 2 ∷ break_at code.TooNested 4 ∷ break_at code.TooNested 4 ∷ []) 1) (height_name (lies 0 1) (name_at a_name 0) [])

too_many_values : expr_break call_tokens (within 1 1) call 2 ≡ told code.TooLong 4
too_many_values = ap (over_callee (break_at code.TooLong 4 ∷ break_at code.TooLong 4 ∷ []) 2) (height_name (lies 0 1) (name_at a_name 0) [])
