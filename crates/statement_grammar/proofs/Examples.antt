-- Short texts and their trees, computed by the descent. The token at index n lies at n to n + 1.
use Rattle.std.proofs.Common.{◌≡◌, ℕ, ◌+◌, false, List, [], ◌∷◌, codes, Some, None, refl}
use Rattle.slang_names.specs.declared.places.Place.{Place}
use Rattle.slang_names.specs.declared.numbers.NumberKind.TheVariants as sign
use Rattle.slang_tree.specs.declared.types.Identifier.{Identifier}
use Rattle.slang_tree.specs.declared.expressions.BinaryOperator.TheVariants as o
use Rattle.slang_tree.specs.declared.expressions.ExprTree.{ExprTree}
use Rattle.slang_tree.specs.declared.expressions.ExprNode.TheVariants as n
use Rattle.slang_names.specs.declared.codes.ModuleCode.TheVariants as code
use Rattle.slang_tree.specs.declared.types.TypeTree.{TypeTree}
use Rattle.slang_tree.specs.declared.types.TypeNode.TheVariants as t
use Rattle.slang_tree.specs.declared.types.GenericArgument.TheVariants as g
use Rattle.slang_tree.specs.declared.statements.AttributeNode.TheVariants as a
use Rattle.slang_tree.specs.declared.statements.ChangeNode.TheVariants as c
use Rattle.slang_tree.specs.declared.statements.StatTree.{StatTree}
use Rattle.slang_tree.specs.declared.statements.StatNode.TheVariants as s
use Rattle.slang_tokens.specs.declared.tokens.Kind.{Kind}
use Rattle.slang_tokens.specs.declared.tokens.Kind.TheVariants as k
use Rattle.slang_tokens.specs.declared.tokens.Mark.{Mark}
use Rattle.slang_tokens.specs.declared.tokens.Mark.TheVariants as m
use Rattle.slang_tokens.specs.declared.tokens.Word.{Word}
use Rattle.slang_tokens.specs.declared.tokens.Word.TheVariants as w
use Rattle.slang_reading.specs.Lexed.{Lexed}
use Rattle.slang_reading.specs.Reading.{Done, Stop, Past, bind, next, attempt, foresee, turns}
use Rattle.slang_grammar.specs.Descent.{Limits, expect, name, bracketed}
use Rattle.slang_grammar.specs.TypesDescent.{type_argument, argument, argument_more, arguments, name_rest, resource_rest, type_name, project_rest, project, length_rest, array, type_rest, types}
use Rattle.slang_grammar.specs.Types.{typed}
use Rattle.slang_grammar.specs.Expressions.{valued}
use Rattle.slang_grammar.specs.ExpressionsDescent.{arguments_ahead, given, repeats, shift_ahead, cast_ahead, value, value_more, values, construct, named, paren, member_name, index, call, chain, chain_rest, postfix, prefix, unary, operand, greater, operator, level, choice, choice_rest, leveled, expressions}
use Rattle.statement_grammar.specs.AttributeTables.{attribute_of}
use Rattle.statement_grammar.specs.Attributes.{attributed}
use Rattle.statement_grammar.specs.AttributesDescent.{attribute_rest, attribute, attributes}
use Rattle.statement_grammar.specs.AttributesDescent.{named as attributes_named}
use Rattle.statement_grammar.specs.Statements.{declared, local_name, local_of, changed, stated}
use Rattle.statement_grammar.specs.LocalsAhead.{name_ahead, length_ahead, rest_ahead, named_ahead, builtin_ahead, local_ahead}
use Rattle.statement_grammar.specs.StatementsDescent.{length_more, declared_name, operands, one_name, name_more, names_rest, variable, constant, assign, shift_last, shift_assign, change_rest, step_before, place_change, change, simple, maybe, condition, stat_more, stats, block_rest, simple_stat, if_else, if_rest, while_rest, loop_rest, stat, statements}

abbrev lies : ℕ → ℕ → Place
lies from to = record { start = from; end = to }

abbrev token : Kind → List ℕ → ℕ → Lexed
token kind bytes at = record { kind = kind; place = lies at (at + 1); bytes = bytes }

abbrev word : Word → ℕ → Lexed
word x = token (k.Word x) []

abbrev mark : Mark → ℕ → Lexed
mark x = token (k.Mark x) []

abbrev unsigned : ℕ → ℕ → Lexed
unsigned v = token (k.Number (record { value = v; kind = sign.Uint })) []

abbrev named_token : List ℕ → ℕ → Lexed
named_token bytes = token k.Name bytes

-- each token at its index
abbrev placed : ℕ → List (ℕ → Lexed) → List Lexed
placed at [] = []
placed at (t ∷ ts) = t at ∷ placed (at + 1) ts

abbrev some_limits : Limits
some_limits = record { turns = 12; items = 256; names = 64; free = false }

abbrev variable_at : List ℕ → ℕ → ExprTree
variable_at bytes at = valued (lies at (at + 1)) (n.Name (record { place = lies at (at + 1); name = bytes }) [])

abbrev a_name : List ℕ
a_name = codes "a"

abbrev b_name : List ℕ
b_name = codes "b"

abbrev x_name : List ℕ
x_name = codes "x"

-- a - b - x
abbrev minuses : List Lexed
minuses = placed 0 (named_token a_name ∷ mark m.Minus ∷ named_token b_name ∷ mark m.Minus ∷ named_token x_name ∷ [])

-- (a - b) - x
minus_groups_left : expressions some_limits 3 minuses 0 0 ≡
    Done (valued (lies 0 5) (n.Binary o.Subtract (valued (lies 0 3) (n.Binary o.Subtract (variable_at a_name 0) (variable_at b_name 2))) (variable_at x_name 4)), 3) 5 6
unfolding arguments_ahead given repeats shift_ahead cast_ahead value value_more values construct named paren member_name index call chain chain_rest postfix prefix unary operand greater operator level choice choice_rest leveled bind next attempt foresee turns expect
minus_groups_left = refl

abbrev number_at : ℕ → ℕ → ExprTree
number_at v at = valued (lies at (at + 1)) (n.Number (record { value = v; kind = sign.Uint }))

-- x = v; at an index
abbrev assigns : ℕ → ℕ → StatTree
assigns v at = stated (lies at (at + 4)) (s.Change (changed (lies at (at + 3)) (c.Assign (variable_at x_name at) (number_at v (at + 2)))))

-- if (a) if (b) x = 1u; else x = 2u;
abbrev two_ifs : List Lexed
two_ifs = placed 0 (word w.If ∷ mark m.OpenParen ∷ named_token a_name ∷ mark m.CloseParen ∷ word w.If ∷ mark m.OpenParen ∷ named_token b_name ∷ mark m.CloseParen
    ∷ named_token x_name ∷ mark m.Equal ∷ unsigned 1 ∷ mark m.Semicolon ∷ word w.Else ∷ named_token x_name ∷ mark m.Equal ∷ unsigned 2 ∷ mark m.Semicolon ∷ [])

-- the `else` belongs to the second
else_is_of_the_nearest : statements some_limits 4 two_ifs 0 0 ≡
    Done (stated (lies 0 17) (s.If (variable_at a_name 2) (stated (lies 4 17) (s.IfElse (variable_at b_name 6) (assigns 1 8) (assigns 2 13))))) 17 18
unfolding statements stat simple_stat if_rest if_else condition simple change place_change change_rest assign operands local_ahead named_ahead rest_ahead name_ahead project array name given repeats chain chain_rest postfix unary operator level choice_rest leveled bind next attempt foresee turns expect shift_ahead named
else_is_of_the_nearest = refl

abbrev of_name : List ℕ → ℕ → Identifier
of_name bytes at = record { place = lies at (at + 1); name = bytes }

abbrev named_type : List ℕ → ℕ → TypeTree
named_type bytes at = typed (lies at (at + 1)) (t.Named (of_name bytes at) [])

-- a<b> x; declares x
type_and_name : statements some_limits 4 (placed 0 (named_token a_name ∷ mark m.Less ∷ named_token b_name ∷ mark m.Greater ∷ named_token x_name ∷ mark m.Semicolon ∷ [])) 0 0 ≡
    Done (stated (lies 0 6) (s.Local (local_of (lies 0 5) false (typed (lies 0 4) (t.Named (of_name a_name 0) (g.Term (named_type b_name 2) ∷ []))) (local_name (declared (of_name x_name 4) [] (lies 4 5)) None ∷ [])))) 6 6
unfolding statements stat simple_stat simple local_ahead named_ahead rest_ahead name_ahead arguments argument type_argument types type_name name_rest type_rest project array name variable names_rest one_name declared_name bind next foresee turns expect
type_and_name = refl

-- a < b; is no statement: wrong is the semicolon, up to which `a<b` may be a type
no_comparison : statements some_limits 4 (placed 0 (named_token a_name ∷ mark m.Less ∷ named_token b_name ∷ mark m.Semicolon ∷ [])) 0 0 ≡ Stop 4
unfolding statements stat simple_stat simple local_ahead named_ahead rest_ahead name_ahead arguments argument type_argument types type_name name_rest type_rest project array name change place_change change_rest operands given arguments_ahead chain_rest postfix bind next foresee turns expect named
no_comparison = refl

-- int(1u); is no call
no_call : statements some_limits 4 (placed 0 (word w.Int ∷ mark m.OpenParen ∷ unsigned 1 ∷ mark m.CloseParen ∷ mark m.Semicolon ∷ [])) 0 0 ≡ Stop 5
unfolding statements stat simple_stat simple local_ahead builtin_ahead change place_change change_rest operands construct values value value_more given chain_rest postfix unary operator level choice_rest leveled repeats bind next attempt foresee turns expect
no_call = refl

-- x >>= 1u; is one assignment
shift_assigns : statements some_limits 4 (placed 0 (named_token x_name ∷ mark m.Greater ∷ mark m.Greater ∷ mark m.Equal ∷ unsigned 1 ∷ mark m.Semicolon ∷ [])) 0 0 ≡
    Done (stated (lies 0 6) (s.Change (changed (lies 0 5) (c.Update o.ShiftRight (variable_at x_name 0) (number_at 1 4))))) 6 6
unfolding statements stat simple_stat simple local_ahead named_ahead rest_ahead name_ahead project array name change place_change change_rest shift_assign shift_last assign operands given chain_rest postfix unary operator level choice_rest leveled repeats bind next attempt foresee turns expect named shift_ahead
shift_assigns = refl

abbrev loop_name : List ℕ
loop_name = codes "loop"

-- [loop] while (a) ; has an attribute, which no other statement has
loop_attribute : statements some_limits 4 (placed 0 (mark m.OpenBracket ∷ named_token loop_name ∷ mark m.CloseBracket ∷ word w.While ∷ mark m.OpenParen ∷ named_token a_name ∷ mark m.CloseParen ∷ mark m.Semicolon ∷ [])) 0 0 ≡
    Done (stated (lies 0 8) (s.While (attributed (lies 0 3) (a.Named (of_name loop_name 1) []) ∷ []) (variable_at a_name 5) (stated (lies 7 8) s.Empty))) 8 8
unfolding statements stat loop_rest attributes attribute attributes_named attribute_rest attribute_of while_rest condition given chain_rest postfix unary operator level choice_rest leveled repeats bind next attempt foresee turns expect named shift_ahead
loop_attribute = refl

-- an attribute of that name is not known
unknown_attribute : statements some_limits 4 (placed 0 (mark m.OpenBracket ∷ named_token a_name ∷ mark m.CloseBracket ∷ word w.While ∷ [])) 0 0 ≡ Past code.Unsupported (lies 1 2) 2
unfolding statements stat loop_rest attributes attribute attributes_named attribute_rest attribute_of bind next turns expect
unknown_attribute = refl
