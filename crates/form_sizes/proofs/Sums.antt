-- What is taken for a sum has no more bytes than are counted of its tree.
use Rattle.std.proofs.Common.{◌≡◌, ℕ, zero, suc, ◌+◌, ◌≤◌, true, ◌&&◌, List, [], ◌∷◌, Option, Some, None, refl, subst, arith}
use Rattle.std.specs.Str.{bytes_eq}
use Rattle.std.specs.Prelude.{codes}
use Rattle.std.proofs.lemmas.Bool.{and_parts}
use Rattle.std.proofs.lemmas.List.Sums.{sum_by-cons, sum_by-append}
use Rattle.slang_names.specs.declared.places.Place.{Place}
use Rattle.slang_names.specs.declared.numbers.NumberKind.{NumberKind}
use Rattle.slang_names.specs.declared.numbers.NumberKind.TheVariants as kind
use Rattle.slang_tree.specs.declared.expressions.BinaryOperator.TheVariants as o
use Rattle.slang_tree.specs.declared.expressions.ExprNode.{ExprNode, out-ExprNode}
use Rattle.slang_tree.specs.declared.expressions.ExprNode.TheOpen.{ExprNode-F}
use Rattle.slang_tree.specs.declared.expressions.ExprNode.TheOpen as e
use Rattle.slang_tree.specs.declared.expressions.ExprNode.TheVariants as n
use Rattle.slang_tree.specs.declared.expressions.ExprTree.{ExprTree}
use Rattle.slang_grammar.specs.Expressions.{valued}
use Rattle.first_form.specs.declared.shader.Sum.{Sum}
use Rattle.first_form.specs.declared.shader.Item.{Item}
use Rattle.first_form.specs.declared.shader.Item.TheVariants.{Number as Written, X}
use Rattle.first_form.specs.Finding.{◌>>=◌, if_there}
use Rattle.first_form.specs.Sizes.{item_bytes, sum_bytes}
use Rattle.tree_form.specs.Forms.{is_empty, is_named, literal_by, item_by, item_of, added_by, added, alone, and_last, sum_of, index_by, index_of}
use Rattle.tree_form.proofs.WithinSums.{some_is, bind_some, if_some}
use Rattle.form_sizes.proofs.Lexemes.{least_number}
use Rattle.form_sizes.proofs.Weights.{weight, weight_open, weight_out, weight_name}

-- ---- items

named_bytes : (word : List ℕ) (p : Place) (node : ExprNode) → is_named word node ≡ true → 1 ≤ weight (valued p node)
named_bytes word p (n.Name id arguments) h = let a = weight_name p id arguments in omega (arith, a)
named_bytes word p _ h = absurd cc

literal_bytes : (k : NumberKind) (value : ℕ) (item : Item) → literal_by k value ≡ Some item → item_bytes item ≤ least_number k
literal_bytes kind.Uint value item h =
    let a = if_some _ (Some (Written value)) item h in
    subst (λ i. item_bytes i ≤ 2) (some_is (Written value) item a.1) (omega arith)
literal_bytes kind.Int value item h = absurd cc

item_by_bytes : (parameter : List ℕ) (node : ExprNode-F ExprNode ExprTree) (item : Item) → item_by parameter node ≡ Some item → item_bytes item ≤ weight_open node
item_by_bytes parameter (e.Number number) item h = literal_bytes number.kind number.value item h
item_by_bytes parameter (e.Member value id arguments) item h =
    let a = if_some (is_named parameter value.node && bytes_eq id.name (codes "x") && is_empty arguments) (Some X) item h in
    let b = and_parts (is_named parameter value.node && bytes_eq id.name (codes "x")) (is_empty arguments) a.0 in
    let d = and_parts (is_named parameter value.node) (bytes_eq id.name (codes "x")) b.0 in
    let f = named_bytes parameter value.place value.node d.0 in
    subst (λ i. item_bytes i ≤ weight value + 2) (some_is X item a.1) (omega (arith, f))
item_by_bytes parameter _ item h = absurd cc

item_of_bytes : (parameter : List ℕ) (tree : ExprTree) (item : Item) → item_of parameter tree.node ≡ Some item → item_bytes item ≤ weight tree
item_of_bytes parameter tree item h =
    let a = item_by_bytes parameter (out-ExprNode tree.node) item h in let b = weight_out tree.place tree.node in omega (arith, a, b)

-- ---- sums

added_by_weight : (node : ExprNode-F ExprNode ExprTree) (x : ExprTree × ExprTree) → added_by node ≡ Some x → weight_open node ≡ weight x.0 + 1 + weight x.1
added_by_weight (e.Binary o.Add left right) x h = subst (λ y. weight left + 1 + weight right ≡ weight y.0 + 1 + weight y.1) (some_is (left, right) x h) refl
added_by_weight _ x h = absurd cc

added_weight : (tree : ExprTree) (x : ExprTree × ExprTree) → added tree.node ≡ Some x → weight tree ≡ weight x.0 + 1 + weight x.1
added_weight tree x h = let a = added_by_weight (out-ExprNode tree.node) x h in let b = weight_out tree.place tree.node in omega (arith, a, b)

and_last_bytes : (sum : Sum) (item : Item) → sum_bytes (and_last sum item) ≡ sum_bytes sum + 1 + item_bytes item
and_last_bytes sum item =
    let a = sum_by-append (λ (i : Item). 1 + item_bytes i) sum.rest (item ∷ []) in let b = sum_by-cons (λ (i : Item). 1 + item_bytes i) item [] in omega (arith, a, b)

module _ (parameter : List ℕ) where
  sum_by_bytes : (n : ℕ) (tree : ExprTree) (parts : Option (ExprTree × ExprTree)) (sum : Sum) → added tree.node ≡ parts
      → ((left : ExprTree) (s : Sum) → sum_of parameter n left ≡ Some s → sum_bytes s ≤ weight left)
      → if_there parts (λ x. sum_of parameter n x.0 >>= λ s. item_of parameter x.1.node >>= λ item. Some (and_last s item)) (item_of parameter tree.node >>= λ item. Some (alone item)) ≡ Some sum
      → sum_bytes sum ≤ weight tree
  sum_by_bytes n tree (Some x) sum is below h =
      let a = bind_some (sum_of parameter n x.0) (λ s. item_of parameter x.1.node >>= λ item. Some (and_last s item)) sum h in
      let b = bind_some (item_of parameter x.1.node) (λ item. Some (and_last a.0 item)) sum a.2 in
      let left = below x.0 a.0 a.1 in let right = item_of_bytes parameter x.1 b.0 b.1 in
      let w = added_weight tree x is in let made = and_last_bytes a.0 b.0 in
      subst (λ s. sum_bytes s ≤ weight tree) (some_is (and_last a.0 b.0) sum b.2) (omega (arith, left, right, w, made))
  sum_by_bytes n tree None sum is below h =
      let a = bind_some (item_of parameter tree.node) (λ item. Some (alone item)) sum h in
      let one = item_of_bytes parameter tree a.0 a.1 in
      subst (λ s. sum_bytes s ≤ weight tree) (some_is (alone a.0) sum a.2) (omega (arith, one))

  pub sum_of_bytes : (n : ℕ) (tree : ExprTree) (sum : Sum) → sum_of parameter n tree ≡ Some sum → sum_bytes sum ≤ weight tree
  unfolding sum_of
  sum_of_bytes zero tree sum h = absurd cc
  sum_of_bytes (suc n) tree sum h = sum_by_bytes n tree (added tree.node) sum refl (sum_of_bytes n) h

-- ---- what stands in brackets behind a name

index_by_bytes : (buffer : List ℕ) (node : ExprNode-F ExprNode ExprTree) (inner : ExprTree) → index_by buffer node ≡ Some inner → 3 + weight inner ≤ weight_open node
index_by_bytes buffer (e.Index value index) inner h =
    let a = if_some (is_named buffer value.node) (Some index) inner h in
    let b = named_bytes buffer value.place value.node a.0 in
    subst (λ i. 3 + weight i ≤ weight value + 2 + weight index) (some_is index inner a.1) (omega (arith, b))
index_by_bytes buffer _ inner h = absurd cc

pub index_of_bytes : (buffer : List ℕ) (tree : ExprTree) (inner : ExprTree) → index_of buffer tree.node ≡ Some inner → 3 + weight inner ≤ weight tree
index_of_bytes buffer tree inner h =
    let a = index_by_bytes buffer (out-ExprNode tree.node) inner h in let b = weight_out tree.place tree.node in omega (arith, a, b)
