-- The names of lists, one item further.
use Rattle.std.proofs.Common.{◌≡◌, ℕ, ◌+◌, ◌<◌, List, [], ◌∷◌, ◌++◌, map, take, length, get_or, refl, sym, ◌∙◌, ap, append_assoc}
use Rattle.std.proofs.lemmas.List.{map_more}
use Rattle.slang_tree.specs.declared.statements.StatTree.{StatTree}
use Rattle.declared_names.specs.declared.listed.Declaration.{Declaration as Listed}
use Rattle.declared_names.specs.Declarations.{Declaration}
use Rattle.declared_names.specs.Views.{declaration_of, declarations_of}
use Rattle.repeated_names.specs.Twice.{Group, Named, in_group, stat_names, all_names, node_names, group_of}

append_nil : {A : Type 0} (xs : List A) → xs ++ [] ≡ xs
append_nil [] = refl
append_nil (x ∷ xs) = ap (λ ys. x ∷ ys) (append_nil xs)

in_group_end : (fs : List (Group → List Named)) (f : Group → List Named) (g : Group) → in_group (fs ++ f ∷ []) g ≡ in_group fs g ++ f g
in_group_end [] f g = append_nil (f g)
in_group_end (x ∷ xs) f g = ap (λ ys. x g ++ ys) (in_group_end xs f g) ∙ sym (append_assoc (x g) (in_group xs g) (f g))

pub stats_more : (xs : List StatTree) (i : ℕ) (x : StatTree) (g : Group) → i < length xs → x ≡ get_or xs i x →
    in_group (map stat_names (take (i + 1) xs)) g ≡ in_group (map stat_names (take i xs)) g ++ stat_names x g
stats_more xs i x g h e = ap (λ fs. in_group fs g) (map_more stat_names xs i x h) ∙ in_group_end (map stat_names (take i xs)) (stat_names (get_or xs i x)) g ∙
    ap (λ y. in_group (map stat_names (take i xs)) g ++ stat_names y g) (sym e)

all_names_end : (xs : List Declaration) (x : Declaration) → all_names (xs ++ x ∷ []) ≡ all_names xs ++ node_names (group_of x.owner) x.node
all_names_end [] x = append_nil (node_names (group_of x.owner) x.node)
all_names_end (y ∷ ys) x = ap (λ zs. node_names (group_of y.owner) y.node ++ zs) (all_names_end ys x) ∙ sym (append_assoc (node_names (group_of y.owner) y.node) (all_names ys) (node_names (group_of x.owner) x.node))

pub declarations_more : (xs : List Listed) (i : ℕ) (x : Listed) → i < length xs → x ≡ get_or xs i x →
    all_names (declarations_of (take (i + 1) xs)) ≡ all_names (declarations_of (take i xs)) ++ node_names (group_of (declaration_of x).owner) (declaration_of x).node
declarations_more xs i x h e = ap all_names (map_more declaration_of xs i x h) ∙ all_names_end (declarations_of (take i xs)) (declaration_of (get_or xs i x)) ∙
    ap (λ y. all_names (declarations_of (take i xs)) ++ node_names (group_of (declaration_of y).owner) (declaration_of y).node) (sym e)
