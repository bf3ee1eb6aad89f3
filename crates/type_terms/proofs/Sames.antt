-- Types are the same where they are equal.
use Rattle.std.proofs.Common.{◌≡◌, ℕ, Bool, true, false, ◌&&◌, nat_eq, bytes_eq, List, [], ◌∷◌, map, refl, sym, ap, subst, ◌∙◌}
use Rattle.std.proofs.lemmas.Bool.{and_parts, and_from, eqb-true, eq-eqb}
use Rattle.slang_names.specs.declared.names.Ref.{Ref}
use Rattle.slang_names.specs.declared.places.Value.{Value}
use Rattle.slang_names.specs.declared.places.Value.TheVariants as v
use Rattle.slang_core.specs.declared.types.Scalar.{Scalar}
use Rattle.slang_core.specs.declared.types.Scalar.TheVariants as s
use Rattle.slang_core.specs.declared.types.TypeTerm.{TypeTerm, roll-TypeTerm, out-TypeTerm, map-TypeTerm, roll-out-TypeTerm, ind-TypeTerm, fold-roll-TypeTerm}
use Rattle.slang_core.specs.declared.types.Arg.{Arg, roll-Arg, out-Arg, map-Arg, roll-out-Arg, ind-Arg, fold-roll-Arg}
use Rattle.slang_core.specs.declared.types.Arg.TheOpen.{TypeTerm-F, Arg-F}
use Rattle.slang_core.specs.declared.types.Arg.TheOpen as t
use Rattle.type_terms.specs.Types.{same, same_arg, same_layer, same_arg_layer, same_term, same_arg_step, same_ref, same_value, same_scalar, all_same}

-- ---- leaves

bytes_one : (a b : List ℕ) → bytes_eq a b ≡ true → a ≡ b
bytes_one [] [] e = refl
bytes_one [] (y ∷ ys) e = absurd cc
bytes_one (x ∷ xs) [] e = absurd cc
bytes_one (x ∷ xs) (y ∷ ys) e =
    let p = and_parts (nat_eq x y) (bytes_eq xs ys) e in
    ap (λ z. z ∷ xs) (eqb-true x y p.0) ∙ ap (λ z. y ∷ z) (bytes_one xs ys p.1)

pub bytes_self : (a : List ℕ) → bytes_eq a a ≡ true
bytes_self [] = refl
bytes_self (x ∷ xs) = and_from (nat_eq x x) (bytes_eq xs xs) (eq-eqb x x refl) (bytes_self xs)

ref_one : (a b : Ref) → same_ref a b ≡ true → a ≡ b
ref_one a b e =
    let p = and_parts (bytes_eq a.module b.module) (bytes_eq a.path b.path) e in
    let m = bytes_one a.module b.module p.0 in
    let n = bytes_one a.path b.path p.1 in
    λ i. record { «module» = m i; path = n i }

pub ref_self : (a : Ref) → same_ref a a ≡ true
ref_self a = and_from (bytes_eq a.module a.module) (bytes_eq a.path a.path) (bytes_self a.module) (bytes_self a.path)

value_one : (a b : Value) → same_value a b ≡ true → a ≡ b
value_one (v.Number m) (v.Number n) e = ap v.Number (eqb-true m n e)
value_one (v.Parameter m) (v.Parameter n) e = ap v.Parameter (eqb-true m n e)
value_one (v.Number m) (v.Parameter n) e = absurd cc
value_one (v.Parameter m) (v.Number n) e = absurd cc

pub value_self : (a : Value) → same_value a a ≡ true
value_self (v.Number n) = eq-eqb n n refl
value_self (v.Parameter n) = eq-eqb n n refl

scalar_one : (a b : Scalar) → same_scalar a b ≡ true → a ≡ b
scalar_one s.Int s.Int e = refl
scalar_one s.Uint s.Uint e = refl
scalar_one s.Int s.Uint e = absurd cc
scalar_one s.Uint s.Int e = absurd cc

pub scalar_self : (a : Scalar) → same_scalar a a ≡ true
scalar_self s.Int = refl
scalar_self s.Uint = refl

-- ---- what the test tells

abbrev One : {A : Type 0} → (A → A → Bool) → A → Type 0
One {A = A} test a = (b : A) → test a b ≡ true → a ≡ b

abbrev Told : {A : Type 0} → (A → A → Bool) → Type 0
Told {A = A} test = (a : A) × One test a

args_one : (xs : List (Told same_arg)) (ys : List Arg) → all_same (map same_arg (map (λ e. e.0) xs)) ys ≡ true → map (λ e. e.0) xs ≡ ys
args_one [] [] e = refl
args_one [] (y ∷ ys) e = absurd cc
args_one (x ∷ xs) [] e = absurd cc
args_one (x ∷ xs) (y ∷ ys) e =
    let p = and_parts (same_arg x.0 y) (all_same (map same_arg (map (λ e. e.0) xs)) ys) e in
    ap (λ z. z ∷ map (λ e. e.0) xs) (x.1 y p.0) ∙ ap (λ z. y ∷ z) (args_one xs ys p.1)

abbrev firsts : TypeTerm-F (Told same_arg) (Told same) → TypeTerm-F Arg TypeTerm
firsts y = map-TypeTerm (Told same_arg) (Told same) Arg TypeTerm (λ e. e.0) (λ e. e.0) y

abbrev arg_firsts : Arg-F (Told same_arg) (Told same) → Arg-F Arg TypeTerm
arg_firsts y = map-Arg (Told same_arg) (Told same) Arg TypeTerm (λ e. e.0) (λ e. e.0) y

abbrev pub tests : TypeTerm-F Arg TypeTerm → TypeTerm-F (Arg → Bool) (TypeTerm → Bool)
tests x = map-TypeTerm Arg TypeTerm (Arg → Bool) (TypeTerm → Bool) same_arg same x

abbrev pub arg_tests : Arg-F Arg TypeTerm → Arg-F (Arg → Bool) (TypeTerm → Bool)
arg_tests x = map-Arg Arg TypeTerm (Arg → Bool) (TypeTerm → Bool) same_arg same x

layer_one : (y : TypeTerm-F (Told same_arg) (Told same)) (w : TypeTerm-F Arg TypeTerm) → same_layer (tests (firsts y)) w ≡ true → firsts y ≡ w
layer_one t.Void t.Void e = refl
layer_one t.Bool t.Bool e = refl
layer_one t.Int t.Int e = refl
layer_one t.Uint t.Uint e = refl
layer_one (t.Vector a m) (t.Vector b n) e =
    let p = and_parts (same_scalar a b) (nat_eq m n) e in
    let x = scalar_one a b p.0 in let y = eqb-true m n p.1 in cc
layer_one (t.Array a m) (t.Array b n) e =
    let p = and_parts (same a.0 b) (same_value m n) e in
    let x = a.1 b p.0 in let y = value_one m n p.1 in cc
layer_one (t.Struct q xs) (t.Struct r ys) e =
    let p = and_parts (same_ref q r) (all_same (map same_arg (map (λ e. e.0) xs)) ys) e in
    let x = ref_one q r p.0 in let y = args_one xs ys p.1 in cc
layer_one (t.Parameter m) (t.Parameter n) e = let x = eqb-true m n e in cc
layer_one (t.Projection a q m) (t.Projection b r n) e =
    let p = and_parts (same a.0 b) (same_ref q r && bytes_eq m n) e in
    let o = and_parts (same_ref q r) (bytes_eq m n) p.1 in
    let x = a.1 b p.0 in let y = ref_one q r o.0 in let z = bytes_one m n o.1 in cc
layer_one (t.StructuredBuffer a) (t.StructuredBuffer b) e = let x = a.1 b e in cc
layer_one (t.RwStructuredBuffer a) (t.RwStructuredBuffer b) e = let x = a.1 b e in cc
layer_one (t.ConstantBuffer a) (t.ConstantBuffer b) e = let x = a.1 b e in cc
layer_one (t.ParameterBlock a) (t.ParameterBlock b) e = let x = a.1 b e in cc
layer_one _ _ e = absurd cc

arg_layer_one : (y : Arg-F (Told same_arg) (Told same)) (w : Arg-F Arg TypeTerm) → same_arg_layer (arg_tests (arg_firsts y)) w ≡ true → arg_firsts y ≡ w
arg_layer_one (t.Term a) (t.Term b) e = let x = a.1 b e in cc
arg_layer_one (t.Fixed m) (t.Fixed n) e = let x = value_one m n e in cc
arg_layer_one _ _ e = absurd cc

abbrev ArgOne : Arg → Type 0
ArgOne a = One same_arg a

abbrev TypeOne : TypeTerm → Type 0
TypeOne a = One same a

term_step : (y : TypeTerm-F (Told same_arg) (Told same)) → TypeOne (roll-TypeTerm (firsts y))
term_step y u e =
    let rolled = fold-roll-TypeTerm (Arg → Bool) (TypeTerm → Bool) same_arg_step same_term (firsts y) in
    ap roll-TypeTerm (layer_one y (out-TypeTerm u) (sym (ap (λ f. f u) rolled) ∙ e)) ∙ roll-out-TypeTerm u

arg_step : (y : Arg-F (Told same_arg) (Told same)) → ArgOne (roll-Arg (arg_firsts y))
arg_step y u e =
    let rolled = fold-roll-Arg (Arg → Bool) (TypeTerm → Bool) same_arg_step same_term (arg_firsts y) in
    ap roll-Arg (arg_layer_one y (out-Arg u) (sym (ap (λ f. f u) rolled) ∙ e)) ∙ roll-out-Arg u

pub type_one : (a : TypeTerm) → TypeOne a
type_one = ind-TypeTerm ArgOne TypeOne (λ x y is. subst (λ z. ArgOne (roll-Arg z)) is (arg_step y)) (λ x y is. subst (λ z. TypeOne (roll-TypeTerm z)) is (term_step y))
