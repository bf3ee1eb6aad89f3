-- What is taken for a shader has no more bytes than are counted of its file.
use Rattle.std.proofs.Common.{◌≡◌, ℕ, ◌+◌, ◌≤◌, cond, List, [], ◌∷◌, Option, Some, None, subst, arith}
use Rattle.std.specs.List.{sum_by}
use Rattle.std.proofs.lemmas.List.Sums.{sum_by-cons}
use Rattle.slang_tree.specs.declared.expressions.ExprTree.{ExprTree}
use Rattle.slang_tree.specs.declared.statements.ChangeNode.{ChangeNode}
use Rattle.slang_tree.specs.declared.statements.ChangeNode.TheVariants as c
use Rattle.slang_tree.specs.declared.statements.StatNode.{StatNode}
use Rattle.slang_tree.specs.declared.statements.StatNode.TheVariants as s
use Rattle.slang_tree.specs.declared.statements.StatTree.{StatTree}
use Rattle.slang_tree.specs.declared.declarations.Function.{Function}
use Rattle.slang_tree.specs.declared.file.Item as declared
use Rattle.slang_tree.specs.declared.file.ItemNode.{ItemNode}
use Rattle.slang_tree.specs.declared.file.ItemNode.TheVariants as d
use Rattle.slang_tree.specs.declared.file.File.{File}
use Rattle.first_form.specs.declared.shader.Shader.{Shader}
use Rattle.first_form.specs.declared.shader.Statement.{Statement}
use Rattle.first_form.specs.declared.shader.Sum.{Sum}
use Rattle.first_form.specs.Sizes.{statement_bytes}
use Rattle.first_form.specs.Finding.{◌>>=◌}
use Rattle.tree_form.specs.Forms.{is_empty, assigned_by, assigned, index_of, sum_of, statement_of, statements_of, group_of, has_no_access, parameter_of, is_plain, function_in, function_of, Entry, entry_of, buffer_of, buffer_first, only_entry, are_names, head_in, is_alone, head_of, shader_by, form_of}
use Rattle.tree_form.proofs.WithinSums.{some_is, bind_some, if_some}
use Rattle.form_sizes.proofs.Weights.{weight}
use Rattle.form_sizes.proofs.Statements.{change_weight, stat_node_weight, stat_weight}
use Rattle.form_sizes.proofs.Files.{function_weight, item_node_weight, item_weight}
use Rattle.form_sizes.proofs.Sums.{sum_of_bytes, index_of_bytes}

-- ---- statements

assigned_by_bytes : (node : ChangeNode) (x : ExprTree × ExprTree) → assigned_by node ≡ Some x → weight x.0 + 1 + weight x.1 ≤ change_weight node
assigned_by_bytes (c.Assign place value) x h = subst (λ y. weight y.0 + 1 + weight y.1 ≤ weight place + 1 + weight value) (some_is (place, value) x h) (omega arith)
assigned_by_bytes _ x h = absurd cc

assigned_bytes : (node : StatNode) (x : ExprTree × ExprTree) → assigned node ≡ Some x → weight x.0 + 1 + weight x.1 + 1 ≤ stat_node_weight node
assigned_bytes (s.Change change) x h = let a = assigned_by_bytes change.node x h in omega (arith, a)
assigned_bytes _ x h = absurd cc

module _ (buffer parameter : List ℕ) where
  abbrev with_value : ExprTree → Sum → Option Statement
  with_value tree index = sum_of parameter 32 tree >>= λ value. Some (record { index = index; value = value })

  statement_of_bytes : (tree : StatTree) (s : Statement) → statement_of buffer parameter tree ≡ Some s → statement_bytes s ≤ stat_weight tree
  unfolding statement_of
  statement_of_bytes tree s e =
      let a = bind_some (assigned tree.node) (λ x. index_of buffer x.0.node >>= λ inner. sum_of parameter 32 inner >>= with_value x.1) s e in
      let b = bind_some (index_of buffer a.0.0.node) (λ inner. sum_of parameter 32 inner >>= with_value a.0.1) s a.2 in
      let c = bind_some (sum_of parameter 32 b.0) (with_value a.0.1) s b.2 in
      let d = bind_some (sum_of parameter 32 a.0.1) (λ value. Some (record { index = c.0; value = value })) s c.2 in
      let made : Statement = record { index = c.0; value = d.0 } in
      let whole = assigned_bytes tree.node a.0 a.1 in
      let place = index_of_bytes buffer a.0.0 b.0 b.1 in
      let index = sum_of_bytes parameter 32 b.0 c.0 c.1 in
      let value = sum_of_bytes parameter 32 a.0.1 d.0 d.1 in
      subst (λ (x : Statement). statement_bytes x ≤ stat_weight tree) {x = made} (some_is made s d.2) (omega (arith, whole, place, index, value))

  statements_of_bytes : (trees : List StatTree) (list : List Statement) → statements_of buffer parameter trees ≡ Some list → sum_by statement_bytes list ≤ sum_by stat_weight trees
  unfolding statements_of
  statements_of_bytes [] list e = subst (λ xs. sum_by statement_bytes xs ≤ 0) (some_is [] list e) (omega arith)
  statements_of_bytes (tree ∷ trees) list e =
      let a = bind_some (statement_of buffer parameter tree) (λ s. statements_of buffer parameter trees >>= λ others. Some (s ∷ others)) list e in
      let b = bind_some (statements_of buffer parameter trees) (λ others. Some (a.0 ∷ others)) list a.2 in
      let here = statement_of_bytes tree a.0 a.1 in
      let later = statements_of_bytes trees b.0 b.1 in
      let sum = sum_by-cons statement_bytes a.0 b.0 in
      let all = sum_by-cons stat_weight tree trees in
      subst (λ xs. sum_by statement_bytes xs ≤ sum_by stat_weight (tree ∷ trees)) (some_is (a.0 ∷ b.0) list b.2) (omega (arith, here, later, sum, all))

-- ---- the entry and its function

function_in_bytes : (node : ItemNode) (f : Function) → function_in node ≡ Some f → function_weight f ≤ item_node_weight node
function_in_bytes (d.Function g) f e = let a = if_some (is_plain g) (Some g) f e in subst (λ h. function_weight h ≤ function_weight g) (some_is g f a.1) (omega arith)
function_in_bytes _ f e = absurd cc

entry_of_bytes : (item : declared.Item) (entry : Entry) → entry_of item ≡ Some entry → sum_by stat_weight entry.statements ≤ item_weight item
unfolding entry_of
entry_of_bytes item entry e =
    let a = bind_some (function_of item) (λ f. group_of item.attributes >>= λ group. parameter_of f.parameters >>= λ parameter. Some (record { name = f.name.name; parameter = parameter; group = group; statements = f.body.statements })) entry e in
    let b = bind_some (group_of item.attributes) (λ group. parameter_of a.0.parameters >>= λ parameter. Some (record { name = a.0.name.name; parameter = parameter; group = group; statements = a.0.body.statements })) entry a.2 in
    let c = bind_some (parameter_of a.0.parameters) (λ parameter. Some (record { name = a.0.name.name; parameter = parameter; group = b.0; statements = a.0.body.statements })) entry b.2 in
    let made : Entry = record { name = a.0.name.name; parameter = c.0; group = b.0; statements = a.0.body.statements } in
    let f = if_some (has_no_access item.access) (function_in item.node) a.0 a.1 in
    subst (λ (x : Entry). sum_by stat_weight x.statements ≤ item_weight item) {x = made} (some_is made entry c.2) (function_in_bytes item.node a.0 f.1)

only_entry_bytes : (items : List declared.Item) (entry : Entry) → only_entry items ≡ Some entry → sum_by stat_weight entry.statements ≤ sum_by item_weight items
only_entry_bytes [] entry e = absurd cc
only_entry_bytes (x ∷ xs) entry e =
    let a = entry_of_bytes x entry (if_some (is_empty xs) (entry_of x) entry e).1 in let b = sum_by-cons item_weight x xs in omega (arith, a, b)

-- the items behind the buffer
buffer_first_bytes : (items : List declared.Item) (b : List ℕ × List declared.Item) → buffer_first items ≡ Some b → sum_by item_weight b.1 ≤ sum_by item_weight items
buffer_first_bytes [] b e = absurd cc
buffer_first_bytes (x ∷ xs) b e =
    let a = bind_some (buffer_of x) (λ name. Some (name, xs)) b e in
    let d = sum_by-cons item_weight x xs in
    subst (λ y. sum_by item_weight y.1 ≤ sum_by item_weight (x ∷ xs)) (some_is (a.0, xs) b a.2) (omega (arith, d))

abbrev if_names : List ℕ → Entry → Option (List ℕ × Entry)
if_names buffer entry = cond (are_names buffer entry.name entry.parameter) (Some (buffer, entry)) None

head_in_bytes : (items : List declared.Item) (h : List ℕ × Entry) → head_in items ≡ Some h → sum_by stat_weight h.1.statements ≤ sum_by item_weight items
unfolding head_in
head_in_bytes items h e =
    let a = bind_some (buffer_first items) (λ b. only_entry b.1 >>= if_names b.0) h e in
    let b = bind_some (only_entry a.0.1) (if_names a.0.0) h a.2 in
    let c = if_some (are_names a.0.0 b.0.name b.0.parameter) (Some (a.0.0, b.0)) h b.2 in
    let f = buffer_first_bytes items a.0 a.1 in
    let g = only_entry_bytes a.0.1 b.0 b.1 in
    subst (λ y. sum_by stat_weight y.1.statements ≤ sum_by item_weight items) (some_is (a.0.0, b.0) h c.1) (omega (arith, f, g))

-- ---- the whole

pub form_bytes : (file : File) (shader : Shader) → form_of file ≡ Some shader → sum_by statement_bytes shader.statements ≤ sum_by item_weight file.items
unfolding form_of
form_bytes file shader e =
    let a = bind_some (head_of file) (λ h. statements_of h.0 h.1.parameter h.1.statements >>= λ list. Some (shader_by h.0 h.1 list)) shader e in
    let b = bind_some (statements_of a.0.0 a.0.1.parameter a.0.1.statements) (λ list. Some (shader_by a.0.0 a.0.1 list)) shader a.2 in
    let f = if_some (is_alone file) (head_in file.items) a.0 a.1 in
    let g = head_in_bytes file.items a.0 f.1 in
    let h = statements_of_bytes a.0.0 a.0.1.parameter a.0.1.statements b.0 b.1 in
    subst (λ (x : Shader). sum_by statement_bytes x.statements ≤ sum_by item_weight file.items) (some_is (shader_by a.0.0 a.0.1 b.0) shader b.2) (omega (arith, g, h))
