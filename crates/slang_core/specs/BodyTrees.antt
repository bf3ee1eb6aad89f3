-- What bodies spell, as trees.
use Rattle.std.specs.Prelude.{ℕ, Bool, if◌then◌else◌}
use Rattle.slang_core.specs.declared.bodies.Call.{Call, fold-Call}
use Rattle.slang_core.specs.declared.bodies.Expr.{Expr, fold-Expr}
use Rattle.slang_core.specs.declared.bodies.Given.{Given, fold-Given}
use Rattle.slang_core.specs.declared.bodies.PlaceTerm.{PlaceTerm, fold-PlaceTerm}
use Rattle.slang_core.specs.declared.bodies.Stat.{Stat, fold-Stat}
use Rattle.slang_core.specs.declared.bodies.Call.TheOpen.{Call-F, Expr-F, Given-F, PlaceTerm-F}
use Rattle.slang_core.specs.declared.bodies.Call.TheOpen as part
use Rattle.slang_core.specs.declared.bodies.Stat.TheOpen.{Stat-F}
use Rattle.slang_core.specs.declared.bodies.Stat.TheOpen as stat
use Rattle.slang_core.specs.declared.bodies.BinaryOp.{BinaryOp}
use Rattle.slang_core.specs.declared.bodies.Body.{Body}
use Rattle.slang_core.specs.declared.bodies.Conversions.{Conversions}
use Rattle.slang_core.specs.declared.bodies.UnaryOp.{UnaryOp}
use Rattle.slang_core.specs.declared.bodies.UnaryOp.TheVariants.{Negate, Complement, Not}
use Rattle.slang_core.specs.declared.bodies.BinaryOp.TheVariants.{Add, Subtract, Multiply, Divide, Remainder, BitAnd, BitOr, BitXor, ShiftLeft, ShiftRight, Equal, NotEqual, Less, LessEqual, Greater, GreaterEqual}
use Rattle.slang_core.specs.TypeTrees.{ref_tree, value_tree, arg_tree}
use Rattle.slang_core.specs.EvidenceTrees.{evidence_part}
use Rattle.slang_core.specs.DeclarationTrees.{term_tree}
use Rattle.form_grammar.specs.Trees.{Tree, nothing, byte, number, text, ◌▸◌, tagged, nested, many, chain, list_of}

abbrev pub unary_tree : UnaryOp → Tree
unary_tree Negate = byte 0
unary_tree Complement = byte 1
unary_tree Not = byte 2

abbrev pub binary_tree : BinaryOp → Tree
binary_tree Add = byte 0
binary_tree Subtract = byte 1
binary_tree Multiply = byte 2
binary_tree Divide = byte 3
binary_tree Remainder = byte 4
binary_tree BitAnd = byte 5
binary_tree BitOr = byte 6
binary_tree BitXor = byte 7
binary_tree ShiftLeft = byte 8
binary_tree ShiftRight = byte 9
binary_tree Equal = byte 10
binary_tree NotEqual = byte 11
binary_tree Less = byte 12
binary_tree LessEqual = byte 13
binary_tree Greater = byte 14
binary_tree GreaterEqual = byte 15

abbrev pub bool_tree : Bool → Tree
bool_tree b = byte (if b then 1 else 0)

abbrev pub call_layer : Call-F Tree Tree Tree Tree → Tree
call_layer (part.Direct r args bounds given) = tagged 0 (ref_tree r ▸ list_of arg_tree args ▸ list_of evidence_part bounds ▸ many (chain given))
call_layer (part.Required e r name given) = tagged 1 (evidence_part e ▸ ref_tree r ▸ text name ▸ many (chain given))

abbrev pub expr_layer : Expr-F Tree Tree Tree Tree → Tree
expr_layer (part.Int n) = tagged 0 (number n)
expr_layer (part.Uint n) = tagged 1 (number n)
expr_layer part.False = tagged 2 nothing
expr_layer part.True = tagged 3 nothing
expr_layer (part.Read p) = tagged 4 (nested p)
expr_layer (part.Unary op x) = tagged 5 (unary_tree op ▸ nested x)
expr_layer (part.Binary op x y) = tagged 6 (binary_tree op ▸ nested x ▸ nested y)
expr_layer (part.And x y) = tagged 7 (nested x ▸ nested y)
expr_layer (part.Or x y) = tagged 8 (nested x ▸ nested y)
expr_layer (part.Choose x y z) = tagged 9 (nested x ▸ nested y ▸ nested z)
expr_layer (part.Convert x) = tagged 10 (nested x)
expr_layer (part.Vector t xs) = tagged 11 (term_tree t ▸ list_of (λ x. nested x) xs)
expr_layer (part.Repeat n x) = tagged 12 (byte n ▸ nested x)
expr_layer (part.Swizzle ns x) = tagged 13 (list_of (λ n. byte n) ns ▸ nested x)
expr_layer (part.Field n x) = tagged 14 (number n ▸ nested x)
expr_layer (part.Element x y) = tagged 15 (nested x ▸ nested y)
expr_layer (part.Call c) = tagged 16 c
expr_layer (part.List t xs) = tagged 17 (term_tree t ▸ list_of (λ x. nested x) xs)
expr_layer (part.Zero t) = tagged 18 (term_tree t)
expr_layer (part.Fixed v) = tagged 19 (value_tree v)

abbrev pub given_layer : Given-F Tree Tree Tree Tree → Tree
given_layer (part.Expr x) = tagged 0 (nested x)
given_layer (part.Place p) = tagged 1 (nested p)

abbrev pub place_layer : PlaceTerm-F Tree Tree Tree Tree → Tree
place_layer (part.Local n) = tagged 0 (number n)
place_layer part.This = tagged 1 nothing
place_layer (part.Global r) = tagged 2 (ref_tree r)
place_layer (part.FieldOf n p) = tagged 3 (number n ▸ nested p)
place_layer (part.Component n p) = tagged 4 (byte n ▸ nested p)
place_layer (part.ElementOf p x) = tagged 5 (nested p ▸ nested x)

-- what an expression spells
abbrev pub expr_tree : Expr → Tree
expr_tree = fold-Expr Tree Tree Tree Tree call_layer expr_layer given_layer place_layer

-- what a place spells
abbrev pub place_tree : PlaceTerm → Tree
place_tree = fold-PlaceTerm Tree Tree Tree Tree call_layer expr_layer given_layer place_layer

-- what a call spells
abbrev pub call_tree : Call → Tree
call_tree = fold-Call Tree Tree Tree Tree call_layer expr_layer given_layer place_layer

-- what an argument spells
abbrev pub given_tree : Given → Tree
given_tree = fold-Given Tree Tree Tree Tree call_layer expr_layer given_layer place_layer

abbrev pub stat_layer : Stat-F Tree → Tree
stat_layer (stat.Block ss) = tagged 0 (list_of (λ s. nested s) ss)
stat_layer (stat.Local n x) = tagged 1 (number n ▸ nested (expr_tree x))
stat_layer (stat.Assign p x) = tagged 2 (nested (place_tree p) ▸ nested (expr_tree x))
stat_layer (stat.Change op c p x) = tagged 3 (binary_tree op ▸ bool_tree c.read ▸ bool_tree c.result ▸ nested (place_tree p) ▸ nested (expr_tree x))
stat_layer (stat.If x s t) = tagged 4 (nested (expr_tree x) ▸ nested s ▸ nested t)
stat_layer (stat.Loop x s t) = tagged 5 (nested (expr_tree x) ▸ nested s ▸ nested t)
stat_layer stat.Return = tagged 6 nothing
stat_layer (stat.ReturnValue x) = tagged 7 (nested (expr_tree x))
stat_layer stat.Break = tagged 8 nothing
stat_layer stat.Continue = tagged 9 nothing
stat_layer (stat.Run c) = tagged 10 (call_tree c)

-- what a statement spells
abbrev pub stat_tree : Stat → Tree
stat_tree = fold-Stat Tree stat_layer

-- what a body spells
abbrev pub body_tree : Body → Tree
body_tree b = list_of term_tree b.locals ▸ list_of (λ s. nested (stat_tree s)) b.statements
