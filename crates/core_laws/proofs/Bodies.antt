-- The trees of bodies tell the bodies.
use Rattle.std.proofs.Common.{◌≡◌, ℕ, Bool, true, false, List, [], ◌∷◌, get_or, refl, sym, ap, subst, ◌∙◌, arith}
use Rattle.slang_core.specs.declared.bodies.Body.{Body}
use Rattle.slang_core.specs.declared.bodies.Conversions.{Conversions}
use Rattle.slang_core.specs.declared.bodies.UnaryOp.{UnaryOp}
use Rattle.slang_core.specs.declared.bodies.UnaryOp.TheVariants.{Negate, Complement, Not}
use Rattle.slang_core.specs.declared.bodies.BinaryOp.{BinaryOp}
use Rattle.slang_core.specs.declared.bodies.BinaryOp.TheVariants.{Add, Subtract, Multiply, Divide, Remainder, BitAnd, BitOr, BitXor, ShiftLeft, ShiftRight, Equal, NotEqual, Less, LessEqual, Greater, GreaterEqual}
use Rattle.slang_core.specs.declared.bodies.Call.{Call, roll-Call, out-Call, map-Call, roll-out-Call, ind-Call, fold-roll-Call}
use Rattle.slang_core.specs.declared.bodies.Expr.{Expr, roll-Expr, out-Expr, map-Expr, roll-out-Expr, ind-Expr, fold-roll-Expr}
use Rattle.slang_core.specs.declared.bodies.Given.{Given, roll-Given, out-Given, map-Given, roll-out-Given, fold-roll-Given}
use Rattle.slang_core.specs.declared.bodies.PlaceTerm.{PlaceTerm, roll-PlaceTerm, out-PlaceTerm, map-PlaceTerm, roll-out-PlaceTerm, ind-PlaceTerm, fold-roll-PlaceTerm}
use Rattle.slang_core.specs.declared.bodies.Stat.{Stat, roll-Stat, out-Stat, map-Stat, roll-out-Stat, ind-Stat, fold-roll-Stat}
use Rattle.slang_core.specs.declared.bodies.Call.TheOpen.{Call-F, Expr-F, Given-F, PlaceTerm-F}
use Rattle.slang_core.specs.declared.bodies.Call.TheOpen as part
use Rattle.slang_core.specs.declared.bodies.Stat.TheOpen.{Stat-F}
use Rattle.slang_core.specs.declared.bodies.Stat.TheOpen as stat
use Rattle.slang_names.specs.declared.names.Ref.{Ref}
use Rattle.slang_names.specs.declared.places.Value.{Value}
use Rattle.slang_core.specs.declared.types.Arg.{Arg}
use Rattle.slang_core.specs.declared.types.TypeTerm.{TypeTerm}
use Rattle.slang_core.specs.declared.evidence.Evidence.{Evidence}
use Rattle.slang_core.specs.TypeTrees.{arg_tree}
use Rattle.slang_core.specs.EvidenceTrees.{evidence_part}
use Rattle.slang_core.specs.DeclarationTrees.{term_tree}
use Rattle.slang_core.specs.BodyTrees.{unary_tree, binary_tree, bool_tree, call_layer, expr_layer, given_layer, place_layer, stat_layer, call_tree, expr_tree, given_tree, place_tree, stat_tree, body_tree}
use Rattle.form_grammar.specs.Trees.{Tree, byte, nested}
use Rattle.core_laws.proofs.Parts.{Tells, Told, behind_tag, tags, left, right, texts, numbers, bytes, un_nested, items, told_chain, told_nested, list_tells, bytes_tell, value_tells, ref_tells}
use Rattle.core_laws.proofs.Types.{arg_tells}
use Rattle.core_laws.proofs.Evidences.{evidence_part_tells}
use Rattle.core_laws.proofs.Decls.{term_tells}

unary_tells : (a : UnaryOp) → Tells unary_tree a
unary_tells Negate Negate e = refl
unary_tells Complement Complement e = refl
unary_tells Not Not e = refl
unary_tells _ _ e = absurd cc

-- the operator of a byte
abbrev binary_of : Tree → BinaryOp
binary_of (byte n) =
    get_or (Add ∷ (Subtract ∷ (Multiply ∷ (Divide ∷ (Remainder ∷ (BitAnd ∷ (BitOr ∷ (BitXor ∷ (ShiftLeft ∷ (ShiftRight ∷ (Equal ∷ (NotEqual ∷ (Less ∷ (LessEqual ∷ (Greater ∷ (GreaterEqual ∷ [])))))))))))))))) n Add
binary_of _ = Add

binary_back : (a : BinaryOp) → binary_of (binary_tree a) ≡ a
binary_back Add = refl
binary_back Subtract = refl
binary_back Multiply = refl
binary_back Divide = refl
binary_back Remainder = refl
binary_back BitAnd = refl
binary_back BitOr = refl
binary_back BitXor = refl
binary_back ShiftLeft = refl
binary_back ShiftRight = refl
binary_back Equal = refl
binary_back NotEqual = refl
binary_back Less = refl
binary_back LessEqual = refl
binary_back Greater = refl
binary_back GreaterEqual = refl

binary_tells : (a : BinaryOp) → Tells binary_tree a
binary_tells a b e = sym (binary_back a) ∙ (ap binary_of e ∙ binary_back b)

bool_tells : (a : Bool) → Tells bool_tree a
bool_tells true true e = refl
bool_tells false false e = refl
bool_tells _ _ e = absurd cc

abbrev Row : (Type 0 → Type 0 → Type 0 → Type 0 → Type 0) → Type 0
Row F = F (Told call_tree) (Told expr_tree) (Told given_tree) (Told place_tree)

abbrev Open : (Type 0 → Type 0 → Type 0 → Type 0 → Type 0) → Type 0
Open F = F Call Expr Given PlaceTerm

abbrev call_firsts : Row Call-F → Open Call-F
call_firsts y = map-Call (Told call_tree) (Told expr_tree) (Told given_tree) (Told place_tree) Call Expr Given PlaceTerm (λ e. e.0) (λ e. e.0) (λ e. e.0) (λ e. e.0) y

abbrev expr_firsts : Row Expr-F → Open Expr-F
expr_firsts y = map-Expr (Told call_tree) (Told expr_tree) (Told given_tree) (Told place_tree) Call Expr Given PlaceTerm (λ e. e.0) (λ e. e.0) (λ e. e.0) (λ e. e.0) y

abbrev given_firsts : Row Given-F → Open Given-F
given_firsts y = map-Given (Told call_tree) (Told expr_tree) (Told given_tree) (Told place_tree) Call Expr Given PlaceTerm (λ e. e.0) (λ e. e.0) (λ e. e.0) (λ e. e.0) y

abbrev place_firsts : Row PlaceTerm-F → Open PlaceTerm-F
place_firsts y = map-PlaceTerm (Told call_tree) (Told expr_tree) (Told given_tree) (Told place_tree) Call Expr Given PlaceTerm (λ e. e.0) (λ e. e.0) (λ e. e.0) (λ e. e.0) y

abbrev call_shown : Open Call-F → Tree
call_shown x = call_layer (map-Call Call Expr Given PlaceTerm Tree Tree Tree Tree call_tree expr_tree given_tree place_tree x)

abbrev expr_shown : Open Expr-F → Tree
expr_shown x = expr_layer (map-Expr Call Expr Given PlaceTerm Tree Tree Tree Tree call_tree expr_tree given_tree place_tree x)

abbrev given_shown : Open Given-F → Tree
given_shown x = given_layer (map-Given Call Expr Given PlaceTerm Tree Tree Tree Tree call_tree expr_tree given_tree place_tree x)

abbrev place_shown : Open PlaceTerm-F → Tree
place_shown x = place_layer (map-PlaceTerm Call Expr Given PlaceTerm Tree Tree Tree Tree call_tree expr_tree given_tree place_tree x)

call_direct : (r : Ref) (xs : List Arg) (es : List Evidence) (gs : List (Told given_tree)) (w : Open Call-F) → call_shown (call_firsts (part.Direct r xs es gs)) ≡ call_shown w → call_firsts (part.Direct r xs es gs) ≡ w
call_direct r xs es gs (part.Direct s ys fs hs) e =
    let t = behind_tag e in
    let a = ref_tells r s (left t) in
    let b = list_tells arg_tree arg_tells xs ys (left (right t)) in
    let c = list_tells evidence_part evidence_part_tells es fs (left (right (right t))) in
    let d = told_chain given_tree gs hs (items (right (right (right t)))) in
    λ i. part.Direct (a i) (b i) (c i) (d i)
call_direct r xs es gs _ e = absurd (omega (arith, tags e))

call_required : (v : Evidence) (r : Ref) (n : List ℕ) (gs : List (Told given_tree)) (w : Open Call-F) → call_shown (call_firsts (part.Required v r n gs)) ≡ call_shown w → call_firsts (part.Required v r n gs) ≡ w
call_required v r n gs (part.Required w s m hs) e =
    let t = behind_tag e in
    let a = evidence_part_tells v w (left t) in
    let b = ref_tells r s (left (right t)) in
    let c = texts (left (right (right t))) in
    let d = told_chain given_tree gs hs (items (right (right (right t)))) in
    λ i. part.Required (a i) (b i) (c i) (d i)
call_required v r n gs _ e = absurd (omega (arith, tags e))

call_layer_tells : (y : Row Call-F) (w : Open Call-F) → call_shown (call_firsts y) ≡ call_shown w → call_firsts y ≡ w
call_layer_tells (part.Direct r xs es gs) w e = call_direct r xs es gs w e
call_layer_tells (part.Required v r n gs) w e = call_required v r n gs w e

given_layer_tells : (y : Row Given-F) (w : Open Given-F) → given_shown (given_firsts y) ≡ given_shown w → given_firsts y ≡ w
given_layer_tells (part.Expr x) (part.Expr z) e = let a = x.1 z (un_nested (behind_tag e)) in λ i. part.Expr (a i)
given_layer_tells (part.Place x) (part.Place z) e = let a = x.1 z (un_nested (behind_tag e)) in λ i. part.Place (a i)
given_layer_tells _ _ e = absurd (omega (arith, tags e))

place_layer_tells : (y : Row PlaceTerm-F) (w : Open PlaceTerm-F) → place_shown (place_firsts y) ≡ place_shown w → place_firsts y ≡ w
place_layer_tells (part.Local n) (part.Local m) e = let a = numbers (behind_tag e) in λ i. part.Local (a i)
place_layer_tells part.This part.This e = refl
place_layer_tells (part.Global r) (part.Global s) e = let a = ref_tells r s (behind_tag e) in λ i. part.Global (a i)
place_layer_tells (part.FieldOf n p) (part.FieldOf m q) e = let t = behind_tag e in let a = numbers (left t) in let b = p.1 q (un_nested (right t)) in λ i. part.FieldOf (a i) (b i)
place_layer_tells (part.Component n p) (part.Component m q) e = let t = behind_tag e in let a = bytes (left t) in let b = p.1 q (un_nested (right t)) in λ i. part.Component (a i) (b i)
place_layer_tells (part.ElementOf p x) (part.ElementOf q z) e = let t = behind_tag e in let a = p.1 q (un_nested (left t)) in let b = x.1 z (un_nested (right t)) in λ i. part.ElementOf (a i) (b i)
place_layer_tells _ _ e = absurd (omega (arith, tags e))

expr_int : (n : ℕ) (w : Open Expr-F) → expr_shown (expr_firsts (part.Int n)) ≡ expr_shown w → expr_firsts (part.Int n) ≡ w
expr_int n (part.Int n2) e = let t = behind_tag e in let a = numbers t in λ i. part.Int (a i)
expr_int n _ e = absurd (omega (arith, tags e))

expr_uint : (n : ℕ) (w : Open Expr-F) → expr_shown (expr_firsts (part.Uint n)) ≡ expr_shown w → expr_firsts (part.Uint n) ≡ w
expr_uint n (part.Uint n2) e = let t = behind_tag e in let a = numbers t in λ i. part.Uint (a i)
expr_uint n _ e = absurd (omega (arith, tags e))

expr_false : (w : Open Expr-F) → expr_shown (expr_firsts part.False) ≡ expr_shown w → expr_firsts part.False ≡ w
expr_false part.False e = refl
expr_false _ e = absurd (omega (arith, tags e))

expr_true : (w : Open Expr-F) → expr_shown (expr_firsts part.True) ≡ expr_shown w → expr_firsts part.True ≡ w
expr_true part.True e = refl
expr_true _ e = absurd (omega (arith, tags e))

expr_read : (p : Told place_tree) (w : Open Expr-F) → expr_shown (expr_firsts (part.Read p)) ≡ expr_shown w → expr_firsts (part.Read p) ≡ w
expr_read p (part.Read p2) e = let t = behind_tag e in let a = p.1 p2 (un_nested t) in λ i. part.Read (a i)
expr_read p _ e = absurd (omega (arith, tags e))

expr_unary : (o : UnaryOp) (x : Told expr_tree) (w : Open Expr-F) → expr_shown (expr_firsts (part.Unary o x)) ≡ expr_shown w → expr_firsts (part.Unary o x) ≡ w
expr_unary o x (part.Unary o2 x2) e = let t = behind_tag e in let a = unary_tells o o2 (left t) in let b = x.1 x2 (un_nested (right t)) in λ i. part.Unary (a i) (b i)
expr_unary o x _ e = absurd (omega (arith, tags e))

expr_binary : (o : BinaryOp) (x : Told expr_tree) (y : Told expr_tree) (w : Open Expr-F) → expr_shown (expr_firsts (part.Binary o x y)) ≡ expr_shown w → expr_firsts (part.Binary o x y) ≡ w
expr_binary o x y (part.Binary o2 x2 y2) e = let t = behind_tag e in let a = binary_tells o o2 (left t) in let b = x.1 x2 (un_nested (left (right t))) in let c = y.1 y2 (un_nested (right (right t))) in λ i. part.Binary (a i) (b i) (c i)
expr_binary o x y _ e = absurd (omega (arith, tags e))

expr_and : (x : Told expr_tree) (y : Told expr_tree) (w : Open Expr-F) → expr_shown (expr_firsts (part.And x y)) ≡ expr_shown w → expr_firsts (part.And x y) ≡ w
expr_and x y (part.And x2 y2) e = let t = behind_tag e in let a = x.1 x2 (un_nested (left t)) in let b = y.1 y2 (un_nested (right t)) in λ i. part.And (a i) (b i)
expr_and x y _ e = absurd (omega (arith, tags e))

expr_or : (x : Told expr_tree) (y : Told expr_tree) (w : Open Expr-F) → expr_shown (expr_firsts (part.Or x y)) ≡ expr_shown w → expr_firsts (part.Or x y) ≡ w
expr_or x y (part.Or x2 y2) e = let t = behind_tag e in let a = x.1 x2 (un_nested (left t)) in let b = y.1 y2 (un_nested (right t)) in λ i. part.Or (a i) (b i)
expr_or x y _ e = absurd (omega (arith, tags e))

expr_choose : (x : Told expr_tree) (y : Told expr_tree) (z : Told expr_tree) (w : Open Expr-F) → expr_shown (expr_firsts (part.Choose x y z)) ≡ expr_shown w → expr_firsts (part.Choose x y z) ≡ w
expr_choose x y z (part.Choose x2 y2 z2) e = let t = behind_tag e in let a = x.1 x2 (un_nested (left t)) in let b = y.1 y2 (un_nested (left (right t))) in let c = z.1 z2 (un_nested (right (right t))) in λ i. part.Choose (a i) (b i) (c i)
expr_choose x y z _ e = absurd (omega (arith, tags e))

expr_convert : (x : Told expr_tree) (w : Open Expr-F) → expr_shown (expr_firsts (part.Convert x)) ≡ expr_shown w → expr_firsts (part.Convert x) ≡ w
expr_convert x (part.Convert x2) e = let t = behind_tag e in let a = x.1 x2 (un_nested t) in λ i. part.Convert (a i)
expr_convert x _ e = absurd (omega (arith, tags e))

expr_vector : (k : TypeTerm) (xs : List (Told expr_tree)) (w : Open Expr-F) → expr_shown (expr_firsts (part.Vector k xs)) ≡ expr_shown w → expr_firsts (part.Vector k xs) ≡ w
expr_vector k xs (part.Vector k2 xs2) e = let t = behind_tag e in let a = term_tells k k2 (left t) in let b = told_nested expr_tree xs xs2 (items (right t)) in λ i. part.Vector (a i) (b i)
expr_vector k xs _ e = absurd (omega (arith, tags e))

expr_repeat : (n : ℕ) (x : Told expr_tree) (w : Open Expr-F) → expr_shown (expr_firsts (part.Repeat n x)) ≡ expr_shown w → expr_firsts (part.Repeat n x) ≡ w
expr_repeat n x (part.Repeat n2 x2) e = let t = behind_tag e in let a = bytes (left t) in let b = x.1 x2 (un_nested (right t)) in λ i. part.Repeat (a i) (b i)
expr_repeat n x _ e = absurd (omega (arith, tags e))

expr_swizzle : (ns : List ℕ) (x : Told expr_tree) (w : Open Expr-F) → expr_shown (expr_firsts (part.Swizzle ns x)) ≡ expr_shown w → expr_firsts (part.Swizzle ns x) ≡ w
expr_swizzle ns x (part.Swizzle ns2 x2) e = let t = behind_tag e in let a = bytes_tell ns ns2 (left t) in let b = x.1 x2 (un_nested (right t)) in λ i. part.Swizzle (a i) (b i)
expr_swizzle ns x _ e = absurd (omega (arith, tags e))

expr_field : (n : ℕ) (x : Told expr_tree) (w : Open Expr-F) → expr_shown (expr_firsts (part.Field n x)) ≡ expr_shown w → expr_firsts (part.Field n x) ≡ w
expr_field n x (part.Field n2 x2) e = let t = behind_tag e in let a = numbers (left t) in let b = x.1 x2 (un_nested (right t)) in λ i. part.Field (a i) (b i)
expr_field n x _ e = absurd (omega (arith, tags e))

expr_element : (x : Told expr_tree) (y : Told expr_tree) (w : Open Expr-F) → expr_shown (expr_firsts (part.Element x y)) ≡ expr_shown w → expr_firsts (part.Element x y) ≡ w
expr_element x y (part.Element x2 y2) e = let t = behind_tag e in let a = x.1 x2 (un_nested (left t)) in let b = y.1 y2 (un_nested (right t)) in λ i. part.Element (a i) (b i)
expr_element x y _ e = absurd (omega (arith, tags e))

expr_call : (c : Told call_tree) (w : Open Expr-F) → expr_shown (expr_firsts (part.Call c)) ≡ expr_shown w → expr_firsts (part.Call c) ≡ w
expr_call c (part.Call c2) e = let t = behind_tag e in let a = c.1 c2 t in λ i. part.Call (a i)
expr_call c _ e = absurd (omega (arith, tags e))

expr_list : (k : TypeTerm) (xs : List (Told expr_tree)) (w : Open Expr-F) → expr_shown (expr_firsts (part.List k xs)) ≡ expr_shown w → expr_firsts (part.List k xs) ≡ w
expr_list k xs (part.List k2 xs2) e = let t = behind_tag e in let a = term_tells k k2 (left t) in let b = told_nested expr_tree xs xs2 (items (right t)) in λ i. part.List (a i) (b i)
expr_list k xs _ e = absurd (omega (arith, tags e))

expr_zero : (k : TypeTerm) (w : Open Expr-F) → expr_shown (expr_firsts (part.Zero k)) ≡ expr_shown w → expr_firsts (part.Zero k) ≡ w
expr_zero k (part.Zero k2) e = let t = behind_tag e in let a = term_tells k k2 t in λ i. part.Zero (a i)
expr_zero k _ e = absurd (omega (arith, tags e))

expr_fixed : (v : Value) (w : Open Expr-F) → expr_shown (expr_firsts (part.Fixed v)) ≡ expr_shown w → expr_firsts (part.Fixed v) ≡ w
expr_fixed v (part.Fixed v2) e = let t = behind_tag e in let a = value_tells v v2 t in λ i. part.Fixed (a i)
expr_fixed v _ e = absurd (omega (arith, tags e))

expr_layer_tells : (y : Row Expr-F) (w : Open Expr-F) → expr_shown (expr_firsts y) ≡ expr_shown w → expr_firsts y ≡ w
expr_layer_tells (part.Int n) w e = expr_int n w e
expr_layer_tells (part.Uint n) w e = expr_uint n w e
expr_layer_tells part.False w e = expr_false w e
expr_layer_tells part.True w e = expr_true w e
expr_layer_tells (part.Read p) w e = expr_read p w e
expr_layer_tells (part.Unary o x) w e = expr_unary o x w e
expr_layer_tells (part.Binary o x y) w e = expr_binary o x y w e
expr_layer_tells (part.And x y) w e = expr_and x y w e
expr_layer_tells (part.Or x y) w e = expr_or x y w e
expr_layer_tells (part.Choose x y z) w e = expr_choose x y z w e
expr_layer_tells (part.Convert x) w e = expr_convert x w e
expr_layer_tells (part.Vector k xs) w e = expr_vector k xs w e
expr_layer_tells (part.Repeat n x) w e = expr_repeat n x w e
expr_layer_tells (part.Swizzle ns x) w e = expr_swizzle ns x w e
expr_layer_tells (part.Field n x) w e = expr_field n x w e
expr_layer_tells (part.Element x y) w e = expr_element x y w e
expr_layer_tells (part.Call c) w e = expr_call c w e
expr_layer_tells (part.List k xs) w e = expr_list k xs w e
expr_layer_tells (part.Zero k) w e = expr_zero k w e
expr_layer_tells (part.Fixed v) w e = expr_fixed v w e

abbrev CallTells : Call → Type 0
CallTells t = Tells call_tree t

abbrev ExprTells : Expr → Type 0
ExprTells t = Tells expr_tree t

abbrev GivenTells : Given → Type 0
GivenTells t = Tells given_tree t

abbrev PlaceTells : PlaceTerm → Type 0
PlaceTells t = Tells place_tree t

call_step : (y : Row Call-F) → CallTells (roll-Call (call_firsts y))
call_step y u e =
    let rolled = fold-roll-Call Tree Tree Tree Tree call_layer expr_layer given_layer place_layer in
    ap roll-Call (call_layer_tells y (out-Call u) (sym (rolled (call_firsts y)) ∙ (e ∙ (ap call_tree (sym (roll-out-Call u)) ∙ rolled (out-Call u))))) ∙ roll-out-Call u

expr_step : (y : Row Expr-F) → ExprTells (roll-Expr (expr_firsts y))
expr_step y u e =
    let rolled = fold-roll-Expr Tree Tree Tree Tree call_layer expr_layer given_layer place_layer in
    ap roll-Expr (expr_layer_tells y (out-Expr u) (sym (rolled (expr_firsts y)) ∙ (e ∙ (ap expr_tree (sym (roll-out-Expr u)) ∙ rolled (out-Expr u))))) ∙ roll-out-Expr u

given_step : (y : Row Given-F) → GivenTells (roll-Given (given_firsts y))
given_step y u e =
    let rolled = fold-roll-Given Tree Tree Tree Tree call_layer expr_layer given_layer place_layer in
    ap roll-Given (given_layer_tells y (out-Given u) (sym (rolled (given_firsts y)) ∙ (e ∙ (ap given_tree (sym (roll-out-Given u)) ∙ rolled (out-Given u))))) ∙ roll-out-Given u

place_step : (y : Row PlaceTerm-F) → PlaceTells (roll-PlaceTerm (place_firsts y))
place_step y u e =
    let rolled = fold-roll-PlaceTerm Tree Tree Tree Tree call_layer expr_layer given_layer place_layer in
    ap roll-PlaceTerm (place_layer_tells y (out-PlaceTerm u) (sym (rolled (place_firsts y)) ∙ (e ∙ (ap place_tree (sym (roll-out-PlaceTerm u)) ∙ rolled (out-PlaceTerm u))))) ∙ roll-out-PlaceTerm u

call_case : (x : Open Call-F) (y : Row Call-F) → call_firsts y ≡ x → CallTells (roll-Call x)
call_case x y is = subst (λ z. CallTells (roll-Call z)) is (call_step y)

expr_case : (x : Open Expr-F) (y : Row Expr-F) → expr_firsts y ≡ x → ExprTells (roll-Expr x)
expr_case x y is = subst (λ z. ExprTells (roll-Expr z)) is (expr_step y)

given_case : (x : Open Given-F) (y : Row Given-F) → given_firsts y ≡ x → GivenTells (roll-Given x)
given_case x y is = subst (λ z. GivenTells (roll-Given z)) is (given_step y)

place_case : (x : Open PlaceTerm-F) (y : Row PlaceTerm-F) → place_firsts y ≡ x → PlaceTells (roll-PlaceTerm x)
place_case x y is = subst (λ z. PlaceTells (roll-PlaceTerm z)) is (place_step y)

pub expr_tells : (x : Expr) → ExprTells x
expr_tells = ind-Expr CallTells ExprTells GivenTells PlaceTells (λ x y is. call_case x y is) (λ x y is. expr_case x y is) (λ x y is. given_case x y is) (λ x y is. place_case x y is)

pub place_tells : (x : PlaceTerm) → PlaceTells x
place_tells = ind-PlaceTerm CallTells ExprTells GivenTells PlaceTells (λ x y is. call_case x y is) (λ x y is. expr_case x y is) (λ x y is. given_case x y is) (λ x y is. place_case x y is)

pub call_tells : (x : Call) → CallTells x
call_tells = ind-Call CallTells ExprTells GivenTells PlaceTells (λ x y is. call_case x y is) (λ x y is. expr_case x y is) (λ x y is. given_case x y is) (λ x y is. place_case x y is)

-- ---- statements

abbrev stat_firsts : Stat-F (Told stat_tree) → Stat-F Stat
stat_firsts y = map-Stat (Told stat_tree) Stat (λ e. e.0) y

abbrev stat_shown : Stat-F Stat → Tree
stat_shown x = stat_layer (map-Stat Stat Tree stat_tree x)

conversions_tell : (c d : Conversions) → bool_tree c.read ≡ bool_tree d.read → bool_tree c.result ≡ bool_tree d.result → c ≡ d
conversions_tell c d p q = let a = bool_tells c.read d.read p in let b = bool_tells c.result d.result q in λ i. record { read = a i; result = b i }

stat_layer_tells : (y : Stat-F (Told stat_tree)) (w : Stat-F Stat) → stat_shown (stat_firsts y) ≡ stat_shown w → stat_firsts y ≡ w
stat_layer_tells (stat.Block xs) (stat.Block ys) e = let a = told_nested stat_tree xs ys (items (behind_tag e)) in λ i. stat.Block (a i)
stat_layer_tells (stat.Local n x) (stat.Local m z) e = let t = behind_tag e in let a = numbers (left t) in let b = expr_tells x z (un_nested (right t)) in λ i. stat.Local (a i) (b i)
stat_layer_tells (stat.Assign p x) (stat.Assign q z) e = let t = behind_tag e in let a = place_tells p q (un_nested (left t)) in let b = expr_tells x z (un_nested (right t)) in λ i. stat.Assign (a i) (b i)
stat_layer_tells (stat.Change o c p x) (stat.Change v d q z) e =
    let t = behind_tag e in
    let r = right (right (right t)) in
    let f = binary_tells o v (left t) in
    let g = conversions_tell c d (left (right t)) (left (right (right t))) in
    let a = place_tells p q (un_nested (left r)) in
    let b = expr_tells x z (un_nested (right r)) in
    λ i. stat.Change (f i) (g i) (a i) (b i)
stat_layer_tells (stat.If x s t) (stat.If z u v) e = let r = behind_tag e in let a = expr_tells x z (un_nested (left r)) in let b = s.1 u (un_nested (left (right r))) in let c = t.1 v (un_nested (right (right r))) in λ i. stat.If (a i) (b i) (c i)
stat_layer_tells (stat.Loop x s t) (stat.Loop z u v) e = let r = behind_tag e in let a = expr_tells x z (un_nested (left r)) in let b = s.1 u (un_nested (left (right r))) in let c = t.1 v (un_nested (right (right r))) in λ i. stat.Loop (a i) (b i) (c i)
stat_layer_tells stat.Return stat.Return e = refl
stat_layer_tells (stat.ReturnValue x) (stat.ReturnValue z) e = let a = expr_tells x z (un_nested (behind_tag e)) in λ i. stat.ReturnValue (a i)
stat_layer_tells stat.Break stat.Break e = refl
stat_layer_tells stat.Continue stat.Continue e = refl
stat_layer_tells (stat.Run x) (stat.Run z) e = let a = call_tells x z (behind_tag e) in λ i. stat.Run (a i)
stat_layer_tells _ _ e = absurd (omega (arith, tags e))

abbrev StatTells : Stat → Type 0
StatTells t = Tells stat_tree t

stat_step : (y : Stat-F (Told stat_tree)) → StatTells (roll-Stat (stat_firsts y))
stat_step y u e =
    let rolled = fold-roll-Stat Tree stat_layer in
    ap roll-Stat (stat_layer_tells y (out-Stat u) (sym (rolled (stat_firsts y)) ∙ (e ∙ (ap stat_tree (sym (roll-out-Stat u)) ∙ rolled (out-Stat u))))) ∙ roll-out-Stat u

pub stat_tells : (t : Stat) → StatTells t
stat_tells = ind-Stat StatTells (λ x y is. subst (λ z. StatTells (roll-Stat z)) is (stat_step y))

nested_stat_tells : (t : Stat) → Tells (λ s. nested (stat_tree s)) t
nested_stat_tells t u e = stat_tells t u (un_nested e)

pub body_tells : (b : Body) → Tells body_tree b
body_tells b c e =
    let p = list_tells term_tree term_tells b.locals c.locals (left e) in
    let q = list_tells (λ s. nested (stat_tree s)) nested_stat_tells b.statements c.statements (right e) in
    λ i. record { locals = p i; statements = q i }
