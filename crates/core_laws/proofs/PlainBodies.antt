-- Bodies are of the form exactly where they are plain.
use Rattle.std.proofs.Common.{◌≡◌, Bool, true, false, refl, sym, ap, subst, ◌∙◌, arith}
use Rattle.slang_core.specs.declared.bodies.Body.{Body}
use Rattle.slang_core.specs.declared.bodies.UnaryOp.{UnaryOp}
use Rattle.slang_core.specs.declared.bodies.UnaryOp.TheVariants.{Negate, Complement, Not}
use Rattle.slang_core.specs.declared.bodies.BinaryOp.{BinaryOp}
use Rattle.slang_core.specs.declared.bodies.BinaryOp.TheVariants.{Add, Subtract, Multiply, Divide, Remainder, BitAnd, BitOr, BitXor, ShiftLeft, ShiftRight, Equal, NotEqual, Less, LessEqual, Greater, GreaterEqual}
use Rattle.slang_core.specs.declared.bodies.Call.{Call, roll-Call, out-Call, map-Call, roll-out-Call, ind-Call, fold-roll-Call}
use Rattle.slang_core.specs.declared.bodies.Expr.{Expr, roll-Expr, map-Expr, ind-Expr, fold-roll-Expr}
use Rattle.slang_core.specs.declared.bodies.Given.{Given, roll-Given, map-Given, fold-roll-Given}
use Rattle.slang_core.specs.declared.bodies.PlaceTerm.{PlaceTerm, roll-PlaceTerm, map-PlaceTerm, ind-PlaceTerm, fold-roll-PlaceTerm}
use Rattle.slang_core.specs.declared.bodies.Stat.{Stat, roll-Stat, map-Stat, ind-Stat, fold-roll-Stat}
use Rattle.slang_core.specs.declared.bodies.Call.TheOpen.{Call-F, Expr-F, Given-F, PlaceTerm-F}
use Rattle.slang_core.specs.declared.bodies.Call.TheOpen as part
use Rattle.slang_core.specs.declared.bodies.Stat.TheOpen.{Stat-F}
use Rattle.slang_core.specs.declared.bodies.Stat.TheOpen as stat
use Rattle.slang_core.specs.TypeTrees.{arg_tree}
use Rattle.slang_core.specs.EvidenceTrees.{evidence_part}
use Rattle.slang_core.specs.DeclarationTrees.{term_tree}
use Rattle.slang_core.specs.BodyTrees.{unary_tree, binary_tree, bool_tree, call_layer, expr_layer, given_layer, place_layer, stat_layer, call_tree, expr_tree, given_tree, place_tree, stat_tree, body_tree}
use Rattle.form_grammar.specs.Trees.{Tree, byte, nested}
use Rattle.form_grammar.specs.Grammar as form
use Rattle.form_grammar.specs.Grammar.{Form, Class}
use Rattle.core_laws.specs.Plain.{HasLanes}
use Rattle.core_laws.proofs.Agrees.{Agrees, Fine, nothing_is, num_is, name_is, byte_is, any_byte, pair_is, part_is, tag_is, chain_is, fine_each, fine_parts, list_is, ref_is, value_is, value_lanes}
use Rattle.core_laws.proofs.PlainTypes.{arg_is, term_is, evidence_part_is}

unary_is : (o : UnaryOp) → Agrees (unary_tree o) form.unary
unary_is Negate = byte_is 0 0 2 (omega arith) (omega arith) (omega arith)
unary_is Complement = byte_is 1 0 2 (omega arith) (omega arith) (omega arith)
unary_is Not = byte_is 2 0 2 (omega arith) (omega arith) (omega arith)

binary_is : (o : BinaryOp) → Agrees (binary_tree o) form.binary
binary_is Add = byte_is 0 0 15 (omega arith) (omega arith) (omega arith)
binary_is Subtract = byte_is 1 0 15 (omega arith) (omega arith) (omega arith)
binary_is Multiply = byte_is 2 0 15 (omega arith) (omega arith) (omega arith)
binary_is Divide = byte_is 3 0 15 (omega arith) (omega arith) (omega arith)
binary_is Remainder = byte_is 4 0 15 (omega arith) (omega arith) (omega arith)
binary_is BitAnd = byte_is 5 0 15 (omega arith) (omega arith) (omega arith)
binary_is BitOr = byte_is 6 0 15 (omega arith) (omega arith) (omega arith)
binary_is BitXor = byte_is 7 0 15 (omega arith) (omega arith) (omega arith)
binary_is ShiftLeft = byte_is 8 0 15 (omega arith) (omega arith) (omega arith)
binary_is ShiftRight = byte_is 9 0 15 (omega arith) (omega arith) (omega arith)
binary_is Equal = byte_is 10 0 15 (omega arith) (omega arith) (omega arith)
binary_is NotEqual = byte_is 11 0 15 (omega arith) (omega arith) (omega arith)
binary_is Less = byte_is 12 0 15 (omega arith) (omega arith) (omega arith)
binary_is LessEqual = byte_is 13 0 15 (omega arith) (omega arith) (omega arith)
binary_is Greater = byte_is 14 0 15 (omega arith) (omega arith) (omega arith)
binary_is GreaterEqual = byte_is 15 0 15 (omega arith) (omega arith) (omega arith)

conv_is : (b : Bool) → Agrees (bool_tree b) form.conv
conv_is false = byte_is 0 0 1 (omega arith) (omega arith) (omega arith)
conv_is true = byte_is 1 0 1 (omega arith) (omega arith) (omega arith)

abbrev Row : (Type 0 → Type 0 → Type 0 → Type 0 → Type 0) → Type 0
Row F = F (Fine call_tree form.call) (Fine expr_tree form.expr_form) (Fine given_tree form.given) (Fine place_tree form.place_form)

abbrev Open : (Type 0 → Type 0 → Type 0 → Type 0 → Type 0) → Type 0
Open F = F Call Expr Given PlaceTerm

abbrev call_firsts : Row Call-F → Open Call-F
call_firsts y = map-Call (Fine call_tree form.call) (Fine expr_tree form.expr_form) (Fine given_tree form.given) (Fine place_tree form.place_form) Call Expr Given PlaceTerm (λ e. e.0) (λ e. e.0) (λ e. e.0) (λ e. e.0) y

abbrev call_shown : Open Call-F → Tree
call_shown x = call_layer (map-Call Call Expr Given PlaceTerm Tree Tree Tree Tree call_tree expr_tree given_tree place_tree x)

abbrev expr_firsts : Row Expr-F → Open Expr-F
expr_firsts y = map-Expr (Fine call_tree form.call) (Fine expr_tree form.expr_form) (Fine given_tree form.given) (Fine place_tree form.place_form) Call Expr Given PlaceTerm (λ e. e.0) (λ e. e.0) (λ e. e.0) (λ e. e.0) y

abbrev expr_shown : Open Expr-F → Tree
expr_shown x = expr_layer (map-Expr Call Expr Given PlaceTerm Tree Tree Tree Tree call_tree expr_tree given_tree place_tree x)

abbrev given_firsts : Row Given-F → Open Given-F
given_firsts y = map-Given (Fine call_tree form.call) (Fine expr_tree form.expr_form) (Fine given_tree form.given) (Fine place_tree form.place_form) Call Expr Given PlaceTerm (λ e. e.0) (λ e. e.0) (λ e. e.0) (λ e. e.0) y

abbrev given_shown : Open Given-F → Tree
given_shown x = given_layer (map-Given Call Expr Given PlaceTerm Tree Tree Tree Tree call_tree expr_tree given_tree place_tree x)

abbrev place_firsts : Row PlaceTerm-F → Open PlaceTerm-F
place_firsts y = map-PlaceTerm (Fine call_tree form.call) (Fine expr_tree form.expr_form) (Fine given_tree form.given) (Fine place_tree form.place_form) Call Expr Given PlaceTerm (λ e. e.0) (λ e. e.0) (λ e. e.0) (λ e. e.0) y

abbrev place_shown : Open PlaceTerm-F → Tree
place_shown x = place_layer (map-PlaceTerm Call Expr Given PlaceTerm Tree Tree Tree Tree call_tree expr_tree given_tree place_tree x)

-- what a call spells is tagged
layer_lanes : (x : Open Call-F) → HasLanes (call_shown x)
layer_lanes (part.Direct r xs es gs) = tt
layer_lanes (part.Required v r n gs) = tt

call_lanes : (c : Call) → HasLanes (call_tree c)
call_lanes c =
    let rolled = fold-roll-Call Tree Tree Tree Tree call_layer expr_layer given_layer place_layer in
    subst HasLanes (sym (rolled (out-Call c)) ∙ ap call_tree (roll-out-Call c)) (layer_lanes (out-Call c))

call_layer_is : (y : Row Call-F) → Agrees (call_shown (call_firsts y)) form.call
call_layer_is (part.Direct r xs es gs) =
    tag_is tt refl (pair_is (ref_is r) (pair_is (list_is arg_tree _ arg_is xs) (pair_is (list_is evidence_part _ evidence_part_is es) (chain_is form.given _ (fine_each given_tree form.given gs)))))
call_layer_is (part.Required v r n gs) = tag_is tt refl (pair_is (evidence_part_is v) (pair_is (ref_is r) (pair_is (name_is n) (chain_is form.given _ (fine_each given_tree form.given gs)))))

given_layer_is : (y : Row Given-F) → Agrees (given_shown (given_firsts y)) form.given
given_layer_is (part.Expr x) = tag_is tt refl (part_is x.1)
given_layer_is (part.Place p) = tag_is tt refl (part_is p.1)

place_layer_is : (y : Row PlaceTerm-F) → Agrees (place_shown (place_firsts y)) form.place_form
place_layer_is (part.Local n) = tag_is tt refl (num_is n)
place_layer_is part.This = tag_is tt refl nothing_is
place_layer_is (part.Global r) = tag_is tt refl (ref_is r)
place_layer_is (part.FieldOf n p) = tag_is tt refl (pair_is (num_is n) (part_is p.1))
place_layer_is (part.Component n p) = tag_is tt refl (pair_is (any_byte n) (part_is p.1))
place_layer_is (part.ElementOf p x) = tag_is tt refl (pair_is (part_is p.1) (part_is x.1))

expr_layer_is : (y : Row Expr-F) → Agrees (expr_shown (expr_firsts y)) form.expr_form
expr_layer_is (part.Int n) = tag_is tt refl (num_is n)
expr_layer_is (part.Uint n) = tag_is tt refl (num_is n)
expr_layer_is part.False = tag_is tt refl nothing_is
expr_layer_is part.True = tag_is tt refl nothing_is
expr_layer_is (part.Read p) = tag_is tt refl (part_is p.1)
expr_layer_is (part.Unary o x) = tag_is tt refl (pair_is (unary_is o) (part_is x.1))
expr_layer_is (part.Binary o x y) = tag_is tt refl (pair_is (binary_is o) (pair_is (part_is x.1) (part_is y.1)))
expr_layer_is (part.And x y) = tag_is tt refl (pair_is (part_is x.1) (part_is y.1))
expr_layer_is (part.Or x y) = tag_is tt refl (pair_is (part_is x.1) (part_is y.1))
expr_layer_is (part.Choose x y z) = tag_is tt refl (pair_is (part_is x.1) (pair_is (part_is y.1) (part_is z.1)))
expr_layer_is (part.Convert x) = tag_is tt refl (part_is x.1)
expr_layer_is (part.Vector t xs) = tag_is tt refl (pair_is (term_is t) (chain_is (form.part Class.Expr) _ (fine_parts expr_tree Class.Expr xs)))
expr_layer_is (part.Repeat n x) = tag_is tt refl (pair_is (any_byte n) (part_is x.1))
expr_layer_is (part.Swizzle ns x) = tag_is tt refl (pair_is (list_is (λ n. byte n) _ any_byte ns) (part_is x.1))
expr_layer_is (part.Field n x) = tag_is tt refl (pair_is (num_is n) (part_is x.1))
expr_layer_is (part.Element x y) = tag_is tt refl (pair_is (part_is x.1) (part_is y.1))
expr_layer_is (part.Call c) = tag_is (call_lanes c.0) refl c.1
expr_layer_is (part.List t xs) = tag_is tt refl (pair_is (term_is t) (chain_is (form.part Class.Expr) _ (fine_parts expr_tree Class.Expr xs)))
expr_layer_is (part.Zero t) = tag_is tt refl (term_is t)
expr_layer_is (part.Fixed v) = tag_is (value_lanes v) refl (value_is v)

abbrev CallIs : Call → Type 0
CallIs t = Agrees (call_tree t) form.call

call_case : (x : Open Call-F) (y : Row Call-F) → call_firsts y ≡ x → CallIs (roll-Call x)
call_case x y is =
    subst (λ z. Agrees z form.call) (sym (fold-roll-Call Tree Tree Tree Tree call_layer expr_layer given_layer place_layer x)) (subst (λ z. Agrees (call_shown z) form.call) is (call_layer_is y))

abbrev ExprIs : Expr → Type 0
ExprIs t = Agrees (expr_tree t) form.expr_form

expr_case : (x : Open Expr-F) (y : Row Expr-F) → expr_firsts y ≡ x → ExprIs (roll-Expr x)
expr_case x y is =
    subst (λ z. Agrees z form.expr_form) (sym (fold-roll-Expr Tree Tree Tree Tree call_layer expr_layer given_layer place_layer x)) (subst (λ z. Agrees (expr_shown z) form.expr_form) is (expr_layer_is y))

abbrev GivenIs : Given → Type 0
GivenIs t = Agrees (given_tree t) form.given

given_case : (x : Open Given-F) (y : Row Given-F) → given_firsts y ≡ x → GivenIs (roll-Given x)
given_case x y is =
    subst (λ z. Agrees z form.given) (sym (fold-roll-Given Tree Tree Tree Tree call_layer expr_layer given_layer place_layer x)) (subst (λ z. Agrees (given_shown z) form.given) is (given_layer_is y))

abbrev PlaceIs : PlaceTerm → Type 0
PlaceIs t = Agrees (place_tree t) form.place_form

place_case : (x : Open PlaceTerm-F) (y : Row PlaceTerm-F) → place_firsts y ≡ x → PlaceIs (roll-PlaceTerm x)
place_case x y is =
    subst (λ z. Agrees z form.place_form) (sym (fold-roll-PlaceTerm Tree Tree Tree Tree call_layer expr_layer given_layer place_layer x)) (subst (λ z. Agrees (place_shown z) form.place_form) is (place_layer_is y))

expr_is : (x : Expr) → ExprIs x
expr_is = ind-Expr CallIs ExprIs GivenIs PlaceIs (λ x y is. call_case x y is) (λ x y is. expr_case x y is) (λ x y is. given_case x y is) (λ x y is. place_case x y is)

place_is : (x : PlaceTerm) → PlaceIs x
place_is = ind-PlaceTerm CallIs ExprIs GivenIs PlaceIs (λ x y is. call_case x y is) (λ x y is. expr_case x y is) (λ x y is. given_case x y is) (λ x y is. place_case x y is)

call_is : (x : Call) → CallIs x
call_is = ind-Call CallIs ExprIs GivenIs PlaceIs (λ x y is. call_case x y is) (λ x y is. expr_case x y is) (λ x y is. given_case x y is) (λ x y is. place_case x y is)

-- ---- statements

abbrev stat_firsts : Stat-F (Fine stat_tree form.stat_form) → Stat-F Stat
stat_firsts y = map-Stat (Fine stat_tree form.stat_form) Stat (λ e. e.0) y

abbrev stat_shown : Stat-F Stat → Tree
stat_shown x = stat_layer (map-Stat Stat Tree stat_tree x)

stat_layer_is : (y : Stat-F (Fine stat_tree form.stat_form)) → Agrees (stat_shown (stat_firsts y)) form.stat_form
stat_layer_is (stat.Block xs) = tag_is tt refl (chain_is (form.part Class.Stat) _ (fine_parts stat_tree Class.Stat xs))
stat_layer_is (stat.Local n x) = tag_is tt refl (pair_is (num_is n) (part_is (expr_is x)))
stat_layer_is (stat.Assign p x) = tag_is tt refl (pair_is (part_is (place_is p)) (part_is (expr_is x)))
stat_layer_is (stat.Change o c p x) = tag_is tt refl (pair_is (binary_is o) (pair_is (conv_is c.read) (pair_is (conv_is c.result) (pair_is (part_is (place_is p)) (part_is (expr_is x))))))
stat_layer_is (stat.If x s t) = tag_is tt refl (pair_is (part_is (expr_is x)) (pair_is (part_is s.1) (part_is t.1)))
stat_layer_is (stat.Loop x s t) = tag_is tt refl (pair_is (part_is (expr_is x)) (pair_is (part_is s.1) (part_is t.1)))
stat_layer_is stat.Return = tag_is tt refl nothing_is
stat_layer_is (stat.ReturnValue x) = tag_is tt refl (part_is (expr_is x))
stat_layer_is stat.Break = tag_is tt refl nothing_is
stat_layer_is stat.Continue = tag_is tt refl nothing_is
stat_layer_is (stat.Run c) = tag_is (call_lanes c) refl (call_is c)

abbrev StatIs : Stat → Type 0
StatIs t = Agrees (stat_tree t) form.stat_form

stat_case : (x : Stat-F Stat) (y : Stat-F (Fine stat_tree form.stat_form)) → stat_firsts y ≡ x → StatIs (roll-Stat x)
stat_case x y is = subst (λ z. Agrees z form.stat_form) (sym (fold-roll-Stat Tree stat_layer x)) (subst (λ z. Agrees (stat_shown z) form.stat_form) is (stat_layer_is y))

stat_is : (t : Stat) → StatIs t
stat_is = ind-Stat StatIs (λ x y is. stat_case x y is)

stat_part_is : (t : Stat) → Agrees (nested (stat_tree t)) (form.part Class.Stat)
stat_part_is t = part_is (stat_is t)

pub body_is : (b : Body) → Agrees (body_tree b) form.body
body_is b = pair_is (list_is term_tree _ term_is b.locals) (list_is (λ s. nested (stat_tree s)) _ stat_part_is b.statements)
