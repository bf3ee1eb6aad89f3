-- The trees of lists, options and leaves tell what spells them.
use Rattle.std.proofs.Common.{◌≡◌, ℕ, List, [], ◌∷◌, Option, Some, None, map, refl, ap, ◌∙◌}
use Rattle.slang_names.specs.declared.names.Ref.{Ref}
use Rattle.slang_names.specs.declared.places.Value.{Value}
use Rattle.slang_names.specs.declared.places.Value.TheVariants.{Number, Parameter}
use Rattle.slang_core.specs.declared.types.Scalar.{Scalar}
use Rattle.slang_core.specs.declared.types.Scalar.TheVariants as scalar
use Rattle.slang_core.specs.TypeTrees.{option_of, ref_tree, value_tree, scalar_tree}
use Rattle.form_grammar.specs.Trees.{Tree, byte, number, text, ◌▸◌, tagged, nested, many, ◌⨾◌, chain, list_of}

-- the tree tells the value
abbrev pub Tells : {A : Type 0} → (A → Tree) → A → Type 0
Tells {A = A} view a = (b : A) → view a ≡ view b → a ≡ b

-- values whose trees tell them
abbrev pub Told : {A : Type 0} → (A → Tree) → Type 0
Told {A = A} view = (a : A) × Tells view a

pub behind_tag : {k m : ℕ} {x y : Tree} → tagged k x ≡ tagged m y → x ≡ y
behind_tag e = cc

pub tags : {k m : ℕ} {x y : Tree} → tagged k x ≡ tagged m y → k ≡ m
tags e = cc

pub left : {a b x y : Tree} → a ▸ b ≡ x ▸ y → a ≡ x
left e = cc

pub right : {a b x y : Tree} → a ▸ b ≡ x ▸ y → b ≡ y
right e = cc

pub texts : {a b : List ℕ} → text a ≡ text b → a ≡ b
texts e = cc

pub numbers : {a b : ℕ} → number a ≡ number b → a ≡ b
numbers e = cc

pub bytes : {a b : ℕ} → byte a ≡ byte b → a ≡ b
bytes e = cc

pub un_nested : {s t : Tree} → nested s ≡ nested t → s ≡ t
un_nested e = cc

pub items : {s t : Tree} → many s ≡ many t → s ≡ t
items e = cc

pub heads : {x y a b : Tree} → x ⨾ a ≡ y ⨾ b → (x ≡ y) × (a ≡ b)
heads e = (cc, cc)

pub told_chain : {A : Type 0} (view : A → Tree) (xs : List (Told view)) (ys : List A) → chain (map view (map (λ e. e.0) xs)) ≡ chain (map view ys) → map (λ e. e.0) xs ≡ ys
told_chain view [] [] e = refl
told_chain view [] (y ∷ ys) e = absurd cc
told_chain view (x ∷ xs) [] e = absurd cc
told_chain view (x ∷ xs) (y ∷ ys) e =
    let h = heads e in
    ap (λ z. z ∷ map (λ e. e.0) xs) (x.1 y h.0) ∙ ap (λ z. y ∷ z) (told_chain view xs ys h.1)

pub list_tells : {A : Type 0} (view : A → Tree) → ((a : A) → Tells view a) → (xs ys : List A) → list_of view xs ≡ list_of view ys → xs ≡ ys
list_tells view each [] [] e = refl
list_tells view each [] (y ∷ ys) e = absurd cc
list_tells view each (x ∷ xs) [] e = absurd cc
list_tells view each (x ∷ xs) (y ∷ ys) e =
    let h : chain (map view (x ∷ xs)) ≡ chain (map view (y ∷ ys)) = cc in
    let i = heads h in
    ap (λ z. z ∷ xs) (each x y i.0) ∙ ap (λ z. y ∷ z) (list_tells view each xs ys (ap many i.1))

pub option_tells : {A : Type 0} (view : A → Tree) → ((a : A) → Tells view a) → (x y : Option A) → option_of view x ≡ option_of view y → x ≡ y
option_tells view each None None e = refl
option_tells view each None (Some y) e = absurd cc
option_tells view each (Some x) None e = absurd cc
option_tells view each (Some x) (Some y) e = ap Some (each x y cc)

pub value_tells : (v : Value) → Tells value_tree v
value_tells (Number m) (Number n) e = cc
value_tells (Parameter m) (Parameter n) e = cc
value_tells _ _ e = absurd cc

pub scalar_tells : (s : Scalar) → Tells scalar_tree s
scalar_tells scalar.Int scalar.Int e = refl
scalar_tells scalar.Uint scalar.Uint e = refl
scalar_tells _ _ e = absurd cc

pub ref_tells : (r : Ref) → Tells ref_tree r
ref_tells r s e = let a : r.module ≡ s.module = cc in let b : r.path ≡ s.path = cc in λ i. record { «module» = a i; path = b i }

-- the same where each item is nested
pub told_nested : {A : Type 0} (view : A → Tree) (xs : List (Told view)) (ys : List A) → chain (map (λ t. nested t) (map view (map (λ e. e.0) xs))) ≡ chain (map (λ t. nested t) (map view ys)) → map (λ e. e.0) xs ≡ ys
told_nested view [] [] e = refl
told_nested view [] (y ∷ ys) e = absurd cc
told_nested view (x ∷ xs) [] e = absurd cc
told_nested view (x ∷ xs) (y ∷ ys) e =
    let h = heads e in
    ap (λ z. z ∷ map (λ e. e.0) xs) (x.1 y (un_nested h.0)) ∙ ap (λ z. y ∷ z) (told_nested view xs ys h.1)

pub bytes_tell : (xs ys : List ℕ) → list_of (λ n. byte n) xs ≡ list_of (λ n. byte n) ys → xs ≡ ys
bytes_tell = list_tells (λ n. byte n) (λ a b e. cc)

pub names_tell : (xs ys : List (List ℕ)) → list_of (λ n. text n) xs ≡ list_of (λ n. text n) ys → xs ≡ ys
names_tell = list_tells (λ n. text n) (λ a b e. cc)
