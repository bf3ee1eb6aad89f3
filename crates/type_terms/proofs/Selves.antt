-- Each type is the same as itself.
use Rattle.std.proofs.Common.{◌≡◌, ℕ, Bool, true, false, ◌&&◌, nat_eq, bytes_eq, List, [], ◌∷◌, map, refl, sym, ap, subst, ◌∙◌}
use Rattle.std.proofs.lemmas.Bool.{and_from, eq-eqb}
use Rattle.slang_core.specs.declared.types.TypeTerm.{TypeTerm, roll-TypeTerm, out-TypeTerm, map-TypeTerm, out-roll-TypeTerm, ind-TypeTerm, fold-roll-TypeTerm}
use Rattle.slang_core.specs.declared.types.Arg.{Arg, roll-Arg, out-Arg, map-Arg, out-roll-Arg, ind-Arg, fold-roll-Arg}
use Rattle.slang_core.specs.declared.types.Arg.TheOpen.{TypeTerm-F, Arg-F}
use Rattle.slang_core.specs.declared.types.Arg.TheOpen as t
use Rattle.type_terms.specs.Types.{same, same_arg, same_layer, same_arg_layer, same_term, same_arg_step, same_ref, same_value, same_scalar, all_same}
use Rattle.type_terms.proofs.Sames.{bytes_self, ref_self, value_self, scalar_self, tests, arg_tests}

abbrev Own : {A : Type 0} → (A → A → Bool) → Type 0
Own {A = A} test = (a : A) × (test a a ≡ true)

args_self : (xs : List (Own same_arg)) → all_same (map same_arg (map (λ e. e.0) xs)) (map (λ e. e.0) xs) ≡ true
args_self [] = refl
args_self (x ∷ xs) = and_from (same_arg x.0 x.0) (all_same (map same_arg (map (λ e. e.0) xs)) (map (λ e. e.0) xs)) x.1 (args_self xs)

abbrev firsts : TypeTerm-F (Own same_arg) (Own same) → TypeTerm-F Arg TypeTerm
firsts y = map-TypeTerm (Own same_arg) (Own same) Arg TypeTerm (λ e. e.0) (λ e. e.0) y

abbrev arg_firsts : Arg-F (Own same_arg) (Own same) → Arg-F Arg TypeTerm
arg_firsts y = map-Arg (Own same_arg) (Own same) Arg TypeTerm (λ e. e.0) (λ e. e.0) y

layer_self : (y : TypeTerm-F (Own same_arg) (Own same)) → same_layer (tests (firsts y)) (firsts y) ≡ true
layer_self t.Void = refl
layer_self t.Bool = refl
layer_self t.Int = refl
layer_self t.Uint = refl
layer_self (t.Vector a m) = and_from (same_scalar a a) (nat_eq m m) (scalar_self a) (eq-eqb m m refl)
layer_self (t.Array a m) = and_from (same a.0 a.0) (same_value m m) a.1 (value_self m)
layer_self (t.Struct q xs) = and_from (same_ref q q) (all_same (map same_arg (map (λ e. e.0) xs)) (map (λ e. e.0) xs)) (ref_self q) (args_self xs)
layer_self (t.Parameter m) = eq-eqb m m refl
layer_self (t.Projection a q m) = and_from (same a.0 a.0) (same_ref q q && bytes_eq m m) a.1 (and_from (same_ref q q) (bytes_eq m m) (ref_self q) (bytes_self m))
layer_self (t.StructuredBuffer a) = a.1
layer_self (t.RwStructuredBuffer a) = a.1
layer_self (t.ConstantBuffer a) = a.1
layer_self (t.ParameterBlock a) = a.1

arg_layer_self : (y : Arg-F (Own same_arg) (Own same)) → same_arg_layer (arg_tests (arg_firsts y)) (arg_firsts y) ≡ true
arg_layer_self (t.Term a) = a.1
arg_layer_self (t.Fixed m) = value_self m

abbrev ArgSelf : Arg → Type 0
ArgSelf a = same_arg a a ≡ true

abbrev TypeSelf : TypeTerm → Type 0
TypeSelf a = same a a ≡ true

term_step : (y : TypeTerm-F (Own same_arg) (Own same)) → TypeSelf (roll-TypeTerm (firsts y))
term_step y =
    let rolled = fold-roll-TypeTerm (Arg → Bool) (TypeTerm → Bool) same_arg_step same_term (firsts y) in
    ap (λ f. f (roll-TypeTerm (firsts y))) rolled ∙ (ap (same_layer (tests (firsts y))) (out-roll-TypeTerm (firsts y)) ∙ layer_self y)

arg_step : (y : Arg-F (Own same_arg) (Own same)) → ArgSelf (roll-Arg (arg_firsts y))
arg_step y =
    let rolled = fold-roll-Arg (Arg → Bool) (TypeTerm → Bool) same_arg_step same_term (arg_firsts y) in
    ap (λ f. f (roll-Arg (arg_firsts y))) rolled ∙ (ap (same_arg_layer (arg_tests (arg_firsts y))) (out-roll-Arg (arg_firsts y)) ∙ arg_layer_self y)

pub type_self : (a : TypeTerm) → TypeSelf a
type_self = ind-TypeTerm ArgSelf TypeSelf (λ x y is. subst (λ z. ArgSelf (roll-Arg z)) is (arg_step y)) (λ x y is. subst (λ z. TypeSelf (roll-TypeTerm z)) is (term_step y))
