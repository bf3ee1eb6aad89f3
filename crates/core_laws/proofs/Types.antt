-- The tree of a type tells the type.
use Rattle.std.proofs.Common.{◌≡◌, refl, sym, ap, subst, ◌∙◌}
use Rattle.slang_core.specs.declared.types.TypeTerm.{TypeTerm, roll-TypeTerm, out-TypeTerm, map-TypeTerm, roll-out-TypeTerm, ind-TypeTerm, fold-roll-TypeTerm}
use Rattle.slang_core.specs.declared.types.Arg.{Arg, roll-Arg, out-Arg, map-Arg, roll-out-Arg, ind-Arg, fold-roll-Arg}
use Rattle.slang_core.specs.declared.types.Arg.TheOpen.{TypeTerm-F, Arg-F}
use Rattle.slang_core.specs.declared.types.Arg.TheOpen as term
use Rattle.slang_core.specs.TypeTrees.{type_tree, arg_tree, arg_layer, term_layer}
use Rattle.form_grammar.specs.Trees.{Tree}
use Rattle.core_laws.proofs.Parts.{Tells, Told, told_chain, value_tells, scalar_tells, ref_tells}

abbrev firsts : TypeTerm-F (Told arg_tree) (Told type_tree) → TypeTerm-F Arg TypeTerm
firsts y = map-TypeTerm (Told arg_tree) (Told type_tree) Arg TypeTerm (λ e. e.0) (λ e. e.0) y

abbrev arg_firsts : Arg-F (Told arg_tree) (Told type_tree) → Arg-F Arg TypeTerm
arg_firsts y = map-Arg (Told arg_tree) (Told type_tree) Arg TypeTerm (λ e. e.0) (λ e. e.0) y

abbrev shown : TypeTerm-F Arg TypeTerm → Tree
shown x = term_layer (map-TypeTerm Arg TypeTerm Tree Tree arg_tree type_tree x)

abbrev arg_shown : Arg-F Arg TypeTerm → Tree
arg_shown x = arg_layer (map-Arg Arg TypeTerm Tree Tree arg_tree type_tree x)

term_layer_tells : (y : TypeTerm-F (Told arg_tree) (Told type_tree)) (w : TypeTerm-F Arg TypeTerm) → shown (firsts y) ≡ shown w → firsts y ≡ w
term_layer_tells term.Void term.Void e = refl
term_layer_tells term.Bool term.Bool e = refl
term_layer_tells term.Int term.Int e = refl
term_layer_tells term.Uint term.Uint e = refl
term_layer_tells (term.Vector s n) (term.Vector t m) e = let a = scalar_tells s t cc in cc
term_layer_tells (term.Array t v) (term.Array u w) e = let a = t.1 u cc in let b = value_tells v w cc in cc
term_layer_tells (term.Struct r xs) (term.Struct s ys) e = let a = ref_tells r s cc in let b = told_chain arg_tree xs ys cc in cc
term_layer_tells (term.Parameter n) (term.Parameter m) e = cc
term_layer_tells (term.Projection t r n) (term.Projection u s m) e = let a = t.1 u cc in let b = ref_tells r s cc in cc
term_layer_tells (term.StructuredBuffer t) (term.StructuredBuffer u) e = let a = t.1 u cc in cc
term_layer_tells (term.RwStructuredBuffer t) (term.RwStructuredBuffer u) e = let a = t.1 u cc in cc
term_layer_tells (term.ConstantBuffer t) (term.ConstantBuffer u) e = let a = t.1 u cc in cc
term_layer_tells (term.ParameterBlock t) (term.ParameterBlock u) e = let a = t.1 u cc in cc
term_layer_tells _ _ e = absurd cc

arg_layer_tells : (y : Arg-F (Told arg_tree) (Told type_tree)) (w : Arg-F Arg TypeTerm) → arg_shown (arg_firsts y) ≡ arg_shown w → arg_firsts y ≡ w
arg_layer_tells (term.Term t) (term.Term u) e = let a = t.1 u cc in cc
arg_layer_tells (term.Fixed v) (term.Fixed w) e = let a = value_tells v w cc in cc
arg_layer_tells _ _ e = absurd cc

abbrev ArgTells : Arg → Type 0
ArgTells t = Tells arg_tree t

abbrev TypeTells : TypeTerm → Type 0
TypeTells t = Tells type_tree t

term_step : (y : TypeTerm-F (Told arg_tree) (Told type_tree)) → TypeTells (roll-TypeTerm (firsts y))
term_step y u e =
    let rolled = fold-roll-TypeTerm Tree Tree arg_layer term_layer in
    ap roll-TypeTerm (term_layer_tells y (out-TypeTerm u) (sym (rolled (firsts y)) ∙ (e ∙ (ap type_tree (sym (roll-out-TypeTerm u)) ∙ rolled (out-TypeTerm u))))) ∙ roll-out-TypeTerm u

arg_step : (y : Arg-F (Told arg_tree) (Told type_tree)) → ArgTells (roll-Arg (arg_firsts y))
arg_step y u e =
    let rolled = fold-roll-Arg Tree Tree arg_layer term_layer in
    ap roll-Arg (arg_layer_tells y (out-Arg u) (sym (rolled (arg_firsts y)) ∙ (e ∙ (ap arg_tree (sym (roll-out-Arg u)) ∙ rolled (out-Arg u))))) ∙ roll-out-Arg u

pub type_tells : (t : TypeTerm) → TypeTells t
type_tells = ind-TypeTerm ArgTells TypeTells (λ x y is. subst (λ z. ArgTells (roll-Arg z)) is (arg_step y)) (λ x y is. subst (λ z. TypeTells (roll-TypeTerm z)) is (term_step y))

pub arg_tells : (t : Arg) → ArgTells t
arg_tells = ind-Arg ArgTells TypeTells (λ x y is. subst (λ z. ArgTells (roll-Arg z)) is (arg_step y)) (λ x y is. subst (λ z. TypeTells (roll-TypeTerm z)) is (term_step y))
