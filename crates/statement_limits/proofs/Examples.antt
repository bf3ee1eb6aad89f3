-- Short texts and what they break first. The token at index n lies at n to n + 1.
use Rattle.std.proofs.Common.{◌≡◌, ℕ, suc, ◌+◌, false, List, [], ◌∷◌, codes, Option, Some, None, refl}
use Rattle.slang_names.specs.declared.places.Place.{Place}
use Rattle.slang_names.specs.declared.codes.ModuleCode.{ModuleCode}
use Rattle.slang_names.specs.declared.codes.ModuleCode.TheVariants as code
use Rattle.slang_names.specs.declared.numbers.Number.{Number}
use Rattle.slang_names.specs.declared.numbers.NumberKind.TheVariants as sign
use Rattle.slang_tree.specs.declared.types.Identifier.{Identifier}
use Rattle.slang_tree.specs.declared.types.TypeNode.TheVariants as n
use Rattle.slang_tree.specs.declared.expressions.ExprTree.{ExprTree}
use Rattle.slang_tree.specs.declared.expressions.ExprNode.TheVariants as e
use Rattle.slang_tree.specs.declared.statements.Attribute.{Attribute}
use Rattle.slang_tree.specs.declared.statements.AttributeNode.TheVariants as an
use Rattle.slang_tree.specs.declared.statements.Literal.{Literal}
use Rattle.slang_tree.specs.declared.statements.Literal.TheVariants as l
use Rattle.slang_tree.specs.declared.statements.Initializer.TheVariants as i
use Rattle.slang_tree.specs.declared.statements.StatTree.{StatTree}
use Rattle.slang_tree.specs.declared.statements.StatNode.TheVariants as s
use Rattle.slang_tokens.specs.declared.tokens.Kind.{Kind}
use Rattle.slang_tokens.specs.declared.tokens.Kind.TheVariants as k
use Rattle.slang_tokens.specs.declared.tokens.Mark.{Mark}
use Rattle.slang_tokens.specs.declared.tokens.Mark.TheVariants as m
use Rattle.slang_tokens.specs.declared.tokens.Word.{Word}
use Rattle.slang_tokens.specs.declared.tokens.Word.TheVariants as w
use Rattle.slang_reading.specs.Lexed.{Lexed}
use Rattle.slang_grammar.specs.Types as ty
use Rattle.slang_grammar.specs.Types.{typed}
use Rattle.slang_grammar.specs.Expressions as ex
use Rattle.slang_grammar.specs.Expressions.{valued, LevelAt, ExprAt}
use Rattle.slang_grammar.specs.Standing.{Stands}
use Rattle.slang_grammar.specs.Descent.{Limits}
use Rattle.statement_grammar.specs.declared.attributes.Target.TheVariants as target
use Rattle.statement_grammar.specs.AttributeTables.{attribute_of}
use Rattle.statement_grammar.specs.Attributes as a
use Rattle.statement_grammar.specs.Attributes.{attributed, AttributeAt, AttributesAt}
use Rattle.statement_grammar.specs.AttributesDescent.{loops, items}
use Rattle.statement_grammar.specs.Statements as t
use Rattle.statement_grammar.specs.Statements.{declared, listed, local_name, local_of, stated, LocalAt, StatAt}
use Rattle.expression_limits.specs.Breaks.{Break}
use Rattle.slang_reading.specs.Reading.{first}
use Rattle.statement_limits.specs.Attributes.{attributes_breaks, misfit_breaks}
use Rattle.statement_limits.specs.Locals.{local_breaks}
use Rattle.statement_limits.specs.Statements.{stat_break, stat_breaks}

abbrev lies : ℕ → ℕ → Place
lies from to = record { start = from; end = to }

abbrev token : Kind → List ℕ → ℕ → Lexed
token kind bytes at = record { kind = kind; place = lies at (at + 1); bytes = bytes }

abbrev word : Word → ℕ → Lexed
word x = token (k.Word x) []

abbrev mark : Mark → ℕ → Lexed
mark x = token (k.Mark x) []

abbrev one : Number
one = record { value = 1; kind = sign.Uint }

abbrev number : ℕ → Lexed
number = token (k.Number one) []

abbrev named_token : List ℕ → ℕ → Lexed
named_token bytes = token k.Name bytes

-- each token at its index
abbrev placed : ℕ → List (ℕ → Lexed) → List Lexed
placed at [] = []
placed at (t ∷ ts) = t at ∷ placed (at + 1) ts

-- with so many items in a list and bytes in a name
abbrev within : ℕ → ℕ → Limits
within items names = record { turns = 12; items = items; names = names; free = false }

-- that code at the token of that index
abbrev told : ModuleCode → ℕ → Option Break
told c at = Some (record { code = c; place = lies at (at + 1); at = at })

-- a rule on the attribute of the one name, broken at the other token
abbrev disobeyed : ℕ → ℕ → Option Break
disobeyed name at = Some (record { code = code.Unsupported; place = lies name (name + 1); at = at })

abbrev name_at : List ℕ → ℕ → Identifier
name_at bytes at = record { place = lies at (at + 1); name = bytes }

abbrev value_at : ℕ → ExprTree
value_at at = valued (lies at (at + 1)) (e.Number one)

-- with operators of one more level, of which there are none
abbrev looser : {ts : List Lexed} {l from to : ℕ} {x : ExprTree} → LevelAt ts l x from to → LevelAt ts (suc l) x from to
looser v = ex.binary v ex.operand

abbrev a_value : {ts : List Lexed} {at : ℕ} → Stands ts at (k.Number one) (lies at (at + 1)) → ExprAt ts (value_at at) at (at + 1)
a_value s = ex.plain (looser (looser (looser (looser (looser (looser (looser (looser (looser (looser (ex.unary (ex.simple (ex.postfix (ex.number s) ex.whole)))))))))))))

-- ---- statements

abbrev empty_at : ℕ → StatTree
empty_at at = stated (lies at (at + 1)) s.Empty

-- { ; }
abbrev block_tokens : List Lexed
block_tokens = placed 0 (mark m.OpenBrace ∷ mark m.Semicolon ∷ mark m.CloseBrace ∷ [])

abbrev block : StatAt block_tokens (stated (lies 0 3) (s.Block (empty_at 1 ∷ []))) 0 3
block = t.block (record { bytes = []; is = refl }) (t.more (t.empty (record { bytes = []; is = refl })) (t.end (record { bytes = []; is = refl })))

block_fits : stat_break block_tokens (within 1 1) block 2 ≡ None
block_fits = refl

statement_too_deep : stat_break block_tokens (within 1 1) block 1 ≡ told code.TooNested 1
statement_too_deep = refl

block_too_deep : stat_break block_tokens (within 1 1) block 0 ≡ told code.TooNested 0
block_too_deep = refl

-- ---- locals

abbrev a_name : List ℕ
a_name = codes "a"

abbrev b_name : List ℕ
b_name = codes "bb"

-- a bb = {1, 1}
abbrev local_tokens : List Lexed
local_tokens = placed 0 (named_token a_name ∷ named_token b_name ∷ mark m.Equal ∷ mark m.OpenBrace ∷ number ∷ mark m.Comma ∷ number ∷ mark m.CloseBrace ∷ [])

abbrev local : LocalAt local_tokens (local_of (lies 0 8) false (typed (lies 0 1) (n.Named (name_at a_name 0) []))
    (local_name (declared (name_at b_name 1) [] (lies 1 2)) (Some (i.List (listed (lies 3 8) (i.Expression (value_at 4) ∷ i.Expression (value_at 6) ∷ [])))) ∷ [])) 0 8
local = t.variable (ty.plain (ty.name (record { is = refl })) ty.whole)
    (t.begun (t.declared_name (record { is = refl }) (t.end (record { is = refl }))) (record { bytes = []; is = refl })
    (t.braces (t.items (record { bytes = []; is = refl }) (t.expression (a_value (record { bytes = []; is = refl })))
    (t.more (record { bytes = []; is = refl }) (t.expression (a_value (record { bytes = []; is = refl }))) t.end) (record { bytes = []; is = refl }))))
    (t.end (record { is = refl }))

local_fits : first (local_breaks local_tokens (within 2 2) local 2) ≡ None
local_fits = refl

too_many_items : first (local_breaks local_tokens (within 1 2) local 2) ≡ told code.TooLong 6
too_many_items = refl

declared_too_long : first (local_breaks local_tokens (within 1 1) local 2) ≡ told code.TooLong 1
declared_too_long = refl

item_too_deep : first (local_breaks local_tokens (within 1 2) local 1) ≡ told code.TooNested 4
item_too_deep = refl

type_too_deep : first (local_breaks local_tokens (within 1 2) local 0) ≡ told code.TooNested 0
type_too_deep = refl

-- ---- attributes

abbrev named : List ℕ → List Literal → Place → ℕ → Attribute
named bytes list p at = attributed p (an.Named (name_at bytes at) list)

-- [name] while (1) ;
abbrev loop_tokens : List ℕ → List Lexed
loop_tokens bytes = placed 0 (mark m.OpenBracket ∷ named_token bytes ∷ mark m.CloseBracket ∷ word w.While ∷ mark m.OpenParen ∷ number ∷ mark m.CloseParen ∷ mark m.Semicolon ∷ [])

abbrev loop : (bytes : List ℕ) → StatAt (loop_tokens bytes) (stated (lies 0 8) (s.While (named bytes [] (lies 0 3) 1 ∷ []) (value_at 5) (empty_at 7))) 0 8
loop bytes = t.while_loop (a.more (a.named (record { bytes = []; is = refl }) (record { is = refl }) (a.no_literals (record { bytes = []; is = refl }))) (a.end (record { is = refl })))
    (record { bytes = []; is = refl }) (t.condition (record { bytes = []; is = refl }) (a_value (record { bytes = []; is = refl })) (record { bytes = []; is = refl })) (t.empty (record { bytes = []; is = refl }))

loop_fits : stat_break (loop_tokens (codes "unroll")) (within 0 6) (loop (codes "unroll")) 2 ≡ None
unfolding attribute_of
loop_fits = refl

-- a name that is too long is known before it is known that it is no attribute's
attribute_too_long : stat_break (loop_tokens b_name) (within 0 1) (loop b_name) 2 ≡ told code.TooLong 1
attribute_too_long = refl

no_attribute : stat_break (loop_tokens b_name) (within 0 2) (loop b_name) 2 ≡ disobeyed 1 1
unfolding attribute_of
no_attribute = refl

of_no_loop : stat_break (loop_tokens (codes "mutating")) (within 0 8) (loop (codes "mutating")) 2 ≡ disobeyed 1 1
unfolding attribute_of
of_no_loop = refl

body_too_deep : stat_break (loop_tokens (codes "loop")) (within 0 8) (loop (codes "loop")) 1 ≡ told code.TooNested 5
unfolding attribute_of
body_too_deep = refl

-- all that it breaks
what_it_breaks : stat_breaks (loop_tokens b_name) (within 0 1) (loop b_name) 1
    ≡ record { code = code.TooLong; place = lies 1 2; at = 1 } ∷ record { code = code.Unsupported; place = lies 1 2; at = 1 }
    ∷ record { code = code.TooNested; place = lies 5 6; at = 5 } ∷ record { code = code.TooNested; place = lies 7 8; at = 7 } ∷ []
unfolding attribute_of
what_it_breaks = refl

-- [loop][loop]
abbrev twice_tokens : List Lexed
twice_tokens = placed 0 (mark m.OpenBracket ∷ named_token (codes "loop") ∷ mark m.CloseBracket ∷ mark m.OpenBracket ∷ named_token (codes "loop") ∷ mark m.CloseBracket ∷ [])

abbrev twice : AttributesAt twice_tokens [] (named (codes "loop") [] (lies 0 3) 1 ∷ named (codes "loop") [] (lies 3 6) 4 ∷ []) 0 6
twice = a.more (a.named (record { bytes = []; is = refl }) (record { is = refl }) (a.no_literals (record { bytes = []; is = refl })))
    (a.more (a.named (record { bytes = []; is = refl }) (record { is = refl }) (a.no_literals (record { bytes = []; is = refl }))) (a.end (record { is = refl })))

second_of_its_name : first (attributes_breaks twice_tokens (within 0 4) loops twice []) ≡ disobeyed 4 4
unfolding attribute_of
second_of_its_name = refl

-- [name(1, 1)]
abbrev numbers_tokens : List ℕ → List Lexed
numbers_tokens bytes = placed 0 (mark m.OpenBracket ∷ named_token bytes ∷ mark m.OpenParen ∷ number ∷ mark m.Comma ∷ number ∷ mark m.CloseParen ∷ mark m.CloseBracket ∷ [])

abbrev number_at : ℕ → Literal
number_at at = l.Number (lies at (at + 1)) one

abbrev numbers : (bytes : List ℕ) → AttributesAt (numbers_tokens bytes) [] (named bytes (number_at 3 ∷ number_at 5 ∷ []) (lies 0 8) 1 ∷ []) 0 8
numbers bytes = a.more (a.named (record { bytes = []; is = refl }) (record { is = refl })
    (a.literals (record { bytes = []; is = refl }) (a.number (record { bytes = []; is = refl }))
    (a.more (record { bytes = []; is = refl }) (a.number (record { bytes = []; is = refl })) a.end)
    (record { bytes = []; is = refl }) (record { bytes = []; is = refl }))) (a.end (record { is = refl }))

-- two numbers where three are wanted are known by the parenthesis behind them
too_few_numbers : first (attributes_breaks (numbers_tokens (codes "numthreads")) (within 0 16) items (numbers (codes "numthreads")) []) ≡ disobeyed 1 6
unfolding attribute_of
too_few_numbers = refl

no_numbers_wanted : first (attributes_breaks (numbers_tokens (codes "loop")) (within 0 16) loops (numbers (codes "loop")) []) ≡ disobeyed 1 2
unfolding attribute_of
no_numbers_wanted = refl

no_text : first (attributes_breaks (numbers_tokens (codes "shader")) (within 0 16) items (numbers (codes "shader")) []) ≡ disobeyed 1 3
unfolding attribute_of
no_text = refl

-- of a function, where what stands before the token at 8 is none
of_no_other : first (misfit_breaks (numbers_tokens (codes "numthreads")) (numbers (codes "numthreads")) target.Other 8) ≡ disobeyed 1 8
unfolding attribute_of
of_no_other = refl

-- [[vk::binding(1, 1)]]
abbrev binding_tokens : List Lexed
binding_tokens = placed 0 (mark m.OpenBracket ∷ mark m.OpenBracket ∷ named_token (codes "vk") ∷ mark m.DoubleColon ∷ named_token (codes "binding") ∷ mark m.OpenParen ∷ number ∷ mark m.Comma ∷ number
    ∷ mark m.CloseParen ∷ mark m.CloseBracket ∷ mark m.CloseBracket ∷ [])

abbrev binding : AttributesAt binding_tokens [] (attributed (lies 0 12) (an.Binding one one) ∷ []) 0 12
binding = a.more (a.binding (record { bytes = []; is = refl }) (record { bytes = []; is = refl }) (record {
  places = (lies 2 3, lies 3 4, lies 4 5, lies 5 6, lies 6 7, lies 7 8, lies 8 9, lies 9 10, lies 10 11);
  vulkan = record { is = refl };
  of = record { bytes = []; is = refl };
  name = record { is = refl };
  begin = record { bytes = []; is = refl };
  binding = record { bytes = []; is = refl };
  comma = record { bytes = []; is = refl };
  set = record { bytes = []; is = refl };
  close = record { bytes = []; is = refl };
  bracket = record { bytes = []; is = refl };
  last = record { bytes = []; is = refl };
})) (a.end (record { is = refl }))

binding_fits : first (attributes_breaks binding_tokens (within 0 0) items binding []) ≡ None
binding_fits = refl

-- its name is all that stands before the parenthesis
binding_of_no_loop : first (attributes_breaks binding_tokens (within 0 0) loops binding []) ≡ Some (record { code = code.Unsupported; place = lies 2 5; at = 4 })
binding_of_no_loop = refl

binding_of_no_function : first (misfit_breaks binding_tokens binding target.Function 12) ≡ Some (record { code = code.Unsupported; place = lies 2 5; at = 12 })
binding_of_no_function = refl
