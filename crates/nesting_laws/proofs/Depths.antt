-- How many nodes stand on the longest path, and whether one is too deep.
use Rattle.std.proofs.Common.{Bool, true, false, ◌≡◌, ℕ, ◌+◌, ◌≤◌, max, List, [], ◌∷◌, map, Option, Some, None, refl, ◌∙◌, ap, arith, if◌then◌else◌}
use Rattle.std.specs.Prelude.{nat_lt}
use Rattle.std.proofs.lemmas.Bool.Decides.{nat_tests}
use Rattle.slang_names.specs.declared.places.Place.{Place}
use Rattle.slang_tree.specs.Nesting.{Deep, nothing, or_else, before, first_of, node}
use Rattle.slang_grammar.specs.Heights.{greatest}

-- no node is too deep where so many and those around are at most 64
abbrev pub Clear : ℕ → Deep → Type 0
Clear h f = (around : ℕ) → h + around ≤ 64 → f around ≡ None

-- of what stands in a node, and of a node
abbrev pub Part : ℕ → Deep → Type 0
Part h f = Clear h f × ((around : ℕ) → around ≤ 64 → f around ≡ None → h + around ≤ 64)

abbrev pub Tree : ℕ → Deep → Type 0
Tree h f = Clear h f × ((around : ℕ) → f around ≡ None → h + around ≤ 64)

pub part_tree : (h : ℕ) (f : Deep) → Tree h f → Part h f
part_tree h f a = (a.0, λ n l e. a.1 n e)

pub none_parts : (p q : Option Place) → or_else p q ≡ None → (p ≡ None) × (q ≡ None)
none_parts (Some p) q e = cc
none_parts None q e = (refl, e)

pub none_both : (p q : Option Place) → p ≡ None → q ≡ None → or_else p q ≡ None
none_both p q e f = ap (λ x. or_else x q) e ∙ f

pub part_nothing : Part 0 nothing
part_nothing = (λ n l. refl, λ n l e. omega (arith, l))

pub part_before : (h k : ℕ) (f g : Deep) → Part h f → Part k g → Part (max h k) (before f g)
part_before h k f g a b = (
  λ n l. none_both (f n) (g n) (a.0 n (omega (arith, l))) (b.0 n (omega (arith, l))),
  λ n l e. let p = none_parts (f n) (g n) e in let x = a.1 n l p.0 in let y = b.1 n l p.1 in omega (arith, x, y),
)

module _ {A : Type 0} (h : A → ℕ) (f : A → Deep) where
  pub part_all : ((a : A) → Part (h a) (f a)) → (xs : List A) → Part (greatest (map h xs)) (first_of (map f xs))
  unfolding first_of
  part_all r [] = part_nothing
  part_all r (x ∷ xs) = part_before (h x) (greatest (map h xs)) (f x) (first_of (map f xs)) (r x) (part_all r xs)

  module _ (P : A → Type 0) (r : (a : A) → P a → Part (h a) (f a)) where
    abbrev firsts : List ((a : A) × P a) → List A
    firsts xs = map (λ e. e.0) xs

    pub part_list : (xs : List ((a : A) × P a)) → Part (greatest (map h (firsts xs))) (first_of (map f (firsts xs)))
    unfolding first_of
    part_list [] = part_nothing
    part_list (x ∷ xs) = part_before (h x.0) (greatest (map h (firsts xs))) (f x.0) (first_of (map f (firsts xs))) (r x.0 x.1) (part_list xs)

outside : (h n : ℕ) → h + 1 + n ≤ 64 → nat_lt n 64 ≡ false → ⊥
outside h n l q = grind (arith, nat_tests, q, l)

inside : (n : ℕ) → nat_lt n 64 ≡ true → n + 1 ≤ 64
inside n q = grind (arith, nat_tests, q)

pub clear_node : (place : Place) (h : ℕ) (f : Deep) → Clear h f → Clear (h + 1) (node place f)
clear_node place h f a n l = by (nat_lt n 64) refl
  where
    by : (b : Bool) → nat_lt n 64 ≡ b → (if b then f (n + 1) else Some place) ≡ None
    by true q = a (n + 1) (omega (arith, l))
    by false q = absurd (outside h n l q)

pub tree_node : (place : Place) (h : ℕ) (f : Deep) → Part h f → Tree (h + 1) (node place f)
tree_node place h f a = (clear_node place h f a.0, λ n. by n (nat_lt n 64) refl)
  where
    by : (n : ℕ) (b : Bool) → nat_lt n 64 ≡ b → (if b then f (n + 1) else Some place) ≡ None → h + 1 + n ≤ 64
    by n true q e = let x = a.1 (n + 1) (inside n q) e in omega (arith, x)
    by n false q e = cc
