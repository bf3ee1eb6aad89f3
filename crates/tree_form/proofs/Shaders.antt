-- What the tree of a file is taken for is a shader of the first form.
use Rattle.std.proofs.Common.{◌≡◌, ◌≢◌, ℕ, ◌*◌, true, cond, leb, not, ◌&&◌, List, [], ◌∷◌, Option, Some, None, sym, ◌∙◌, subst}
use Rattle.std.specs.List.{AllByRecursion}
use Rattle.std.specs.Str.{bytes_eq}
use Rattle.std.proofs.lemmas.Bool.{and_parts, leb-true, not-true, false≢true}
use Rattle.std.proofs.lemmas.Slice.Eq.{bytes_eq-Decides}
use Rattle.slang_tree.specs.declared.expressions.ExprTree.{ExprTree}
use Rattle.slang_tree.specs.declared.statements.Attribute.{Attribute}
use Rattle.slang_tree.specs.declared.statements.AttributeNode.{AttributeNode}
use Rattle.slang_tree.specs.declared.statements.AttributeNode.TheVariants as a
use Rattle.slang_tree.specs.declared.statements.Literal.{Literal}
use Rattle.slang_tree.specs.declared.statements.StatTree.{StatTree}
use Rattle.slang_tree.specs.declared.file.Item as declared
use Rattle.slang_tree.specs.declared.file.File.{File}
use Rattle.first_form.specs.declared.shader.Shader.{Shader}
use Rattle.first_form.specs.declared.shader.GroupSize.{GroupSize}
use Rattle.first_form.specs.declared.shader.Statement.{Statement}
use Rattle.first_form.specs.declared.shader.Sum.{Sum}
use Rattle.first_form.specs.Words.{is_free_name}
use Rattle.first_form.specs.Shaders.{IsGroup, IsStatement, IsShader}
use Rattle.first_form.specs.Finding.{◌>>=◌}
use Rattle.first_form.specs.Shaders.{is_group}
use Rattle.tree_form.specs.Forms.{is_empty, plain_first, group_in, threads_of, behind_stage, only_threads, group_of, assigned, index_of, sum_of, statement_of, statements_of, parameter_of, function_of, Entry, entry_of, buffer_first, only_entry, are_names, head_in, is_alone, head_of, shader_by, form_of}
use Rattle.tree_form.proofs.WithinSums.{some_is, bind_some, if_some, sum_is}

-- ---- the size of a group

group_is : (g : GroupSize) → is_group g ≡ true → IsGroup g
group_is g h =
    let a = and_parts (leb 1 g.x && leb g.x 1024 && leb 1 g.y && leb g.y 1024 && leb 1 g.z && leb g.z 64) (leb (g.x * g.y * g.z) 1024) h in
    let b = and_parts (leb 1 g.x && leb g.x 1024 && leb 1 g.y && leb g.y 1024 && leb 1 g.z) (leb g.z 64) a.0 in
    let c = and_parts (leb 1 g.x && leb g.x 1024 && leb 1 g.y && leb g.y 1024) (leb 1 g.z) b.0 in
    let d = and_parts (leb 1 g.x && leb g.x 1024 && leb 1 g.y) (leb g.y 1024) c.0 in
    let f = and_parts (leb 1 g.x && leb g.x 1024) (leb 1 g.y) d.0 in
    let i = and_parts (leb 1 g.x) (leb g.x 1024) f.0 in
    record {
      some_x = leb-true 1 g.x i.0;
      most_x = leb-true g.x 1024 i.1;
      some_y = leb-true 1 g.y f.1;
      most_y = leb-true g.y 1024 d.1;
      some_z = leb-true 1 g.z c.1;
      most_z = leb-true g.z 64 b.1;
      most = leb-true (g.x * g.y * g.z) 1024 a.1;
    }

abbrev group_by : ℕ → ℕ → ℕ → GroupSize
group_by x y z = record { x = x; y = y; z = z }

abbrev if_group : ℕ → ℕ → (ℕ × List Literal) → Option GroupSize
if_group x y z = cond (is_empty z.1 && is_group (group_by x y z.0)) (Some (group_by x y z.0)) None

group_in_is : (literals : List Literal) (g : GroupSize) → group_in literals ≡ Some g → IsGroup g
unfolding group_in
group_in_is literals g e =
    let x = bind_some (plain_first literals) (λ x. plain_first x.1 >>= λ y. plain_first y.1 >>= if_group x.0 y.0) g e in
    let y = bind_some (plain_first x.0.1) (λ y. plain_first y.1 >>= if_group x.0.0 y.0) g x.2 in
    let z = bind_some (plain_first y.0.1) (if_group x.0.0 y.0.0) g y.2 in
    let made = group_by x.0.0 y.0.0 z.0.0 in
    let i = if_some (is_empty z.0.1 && is_group made) (Some made) g z.2 in
    subst IsGroup {x = made} (some_is made g i.1) (group_is made (and_parts (is_empty z.0.1) (is_group made) i.0).1)

threads_are : (node : AttributeNode) (g : GroupSize) → threads_of node ≡ Some g → IsGroup g
threads_are (a.Named id literals) g e = group_in_is literals g (if_some _ (group_in literals) g e).1
threads_are (a.Binding binding set) g e = absurd cc

only_threads_are : (attributes : List Attribute) (g : GroupSize) → only_threads attributes ≡ Some g → IsGroup g
only_threads_are [] g e = absurd cc
only_threads_are (x ∷ xs) g e = threads_are x.node g (if_some (is_empty xs) (threads_of x.node) g e).1

group_of_is : (attributes : List Attribute) (g : GroupSize) → group_of attributes ≡ Some g → IsGroup g
unfolding group_of
group_of_is attributes g e = let a = bind_some (behind_stage attributes) only_threads g e in only_threads_are a.0 g a.2

-- ---- statements

module _ (buffer parameter : List ℕ) where
  abbrev with_value : ExprTree → Sum → Option Statement
  with_value tree index = sum_of parameter 32 tree >>= λ value. Some (record { index = index; value = value })

  statement_is : (tree : StatTree) (s : Statement) → statement_of buffer parameter tree ≡ Some s → IsStatement s
  unfolding statement_of
  statement_is tree s e =
      let a = bind_some (assigned tree.node) (λ x. index_of buffer x.0.node >>= λ inner. sum_of parameter 32 inner >>= with_value x.1) s e in
      let b = bind_some (index_of buffer a.0.0.node) (λ inner. sum_of parameter 32 inner >>= with_value a.0.1) s a.2 in
      let c = bind_some (sum_of parameter 32 b.0) (with_value a.0.1) s b.2 in
      let d = bind_some (sum_of parameter 32 a.0.1) (λ value. Some (record { index = c.0; value = value })) s c.2 in
      let made : Statement = record { index = c.0; value = d.0 } in
      subst IsStatement {x = made} (some_is made s d.2) (record { index = sum_is parameter b.0 c.0 c.1; value = sum_is parameter a.0.1 d.0 d.1 })

  statements_are : (trees : List StatTree) (list : List Statement) → statements_of buffer parameter trees ≡ Some list → AllByRecursion IsStatement list
  unfolding statements_of
  statements_are [] list e = subst (AllByRecursion IsStatement) (some_is [] list e) tt
  statements_are (tree ∷ trees) list e =
      let a = bind_some (statement_of buffer parameter tree) (λ s. statements_of buffer parameter trees >>= λ others. Some (s ∷ others)) list e in
      let b = bind_some (statements_of buffer parameter trees) (λ others. Some (a.0 ∷ others)) list a.2 in
      subst (AllByRecursion IsStatement) (some_is (a.0 ∷ b.0) list b.2) (statement_is tree a.0 a.1, statements_are trees b.0 b.1)

-- ---- what stands before the statements

entry_group_is : (item : declared.Item) (entry : Entry) → entry_of item ≡ Some entry → IsGroup entry.group
unfolding entry_of
entry_group_is item entry e =
    let a = bind_some (function_of item) (λ f. group_of item.attributes >>= λ group. parameter_of f.parameters >>= λ parameter. Some (record { name = f.name.name; parameter = parameter; group = group; statements = f.body.statements })) entry e in
    let b = bind_some (group_of item.attributes) (λ group. parameter_of a.0.parameters >>= λ parameter. Some (record { name = a.0.name.name; parameter = parameter; group = group; statements = a.0.body.statements })) entry a.2 in
    let c = bind_some (parameter_of a.0.parameters) (λ parameter. Some (record { name = a.0.name.name; parameter = parameter; group = b.0; statements = a.0.body.statements })) entry b.2 in
    let made : Entry = record { name = a.0.name.name; parameter = c.0; group = b.0; statements = a.0.body.statements } in
    subst (λ (x : Entry). IsGroup x.group) {x = made} (some_is made entry c.2) (group_of_is item.attributes b.0 b.1)

only_group_is : (items : List declared.Item) (entry : Entry) → only_entry items ≡ Some entry → IsGroup entry.group
only_group_is [] entry e = absurd cc
only_group_is (x ∷ xs) entry e = entry_group_is x entry (if_some (is_empty xs) (entry_of x) entry e).1

record IsHead (h : List ℕ × Entry) : Type 0 where
  names : are_names h.0 h.1.name h.1.parameter ≡ true
  group : IsGroup h.1.group

abbrev if_names : List ℕ → Entry → Option (List ℕ × Entry)
if_names buffer entry = cond (are_names buffer entry.name entry.parameter) (Some (buffer, entry)) None

head_in_is : (items : List declared.Item) (h : List ℕ × Entry) → head_in items ≡ Some h → IsHead h
unfolding head_in
head_in_is items h e =
    let a = bind_some (buffer_first items) (λ b. only_entry b.1 >>= if_names b.0) h e in
    let b = bind_some (only_entry a.0.1) (if_names a.0.0) h a.2 in
    let c = if_some (are_names a.0.0 b.0.name b.0.parameter) (Some (a.0.0, b.0)) h b.2 in
    subst IsHead (some_is (a.0.0, b.0) h c.1) (record { names = c.0; group = only_group_is a.0.1 b.0 b.1 })

head_is : (file : File) (h : List ℕ × Entry) → head_of file ≡ Some h → IsHead h
head_is file h e = head_in_is file.items h (if_some (is_alone file) (head_in file.items) h e).1

-- ---- names

not_same : (a b : List ℕ) → not (bytes_eq a b) ≡ true → a ≢ b
not_same a b h e = false≢true (sym (not-true (bytes_eq a b) h) ∙ (bytes_eq-Decides a b).1 e)

shader_by_is : (buffer : List ℕ) (entry : Entry) (list : List Statement) → IsHead (buffer, entry) → AllByRecursion IsStatement list → IsShader (shader_by buffer entry list)
shader_by_is buffer entry list h each =
    let n = entry.name in
    let p = entry.parameter in
    let a = and_parts (is_free_name buffer && is_free_name n && is_free_name p && not (bytes_eq buffer n) && not (bytes_eq buffer p)) (not (bytes_eq n p)) h.names in
    let b = and_parts (is_free_name buffer && is_free_name n && is_free_name p && not (bytes_eq buffer n)) (not (bytes_eq buffer p)) a.0 in
    let c = and_parts (is_free_name buffer && is_free_name n && is_free_name p) (not (bytes_eq buffer n)) b.0 in
    let d = and_parts (is_free_name buffer && is_free_name n) (is_free_name p) c.0 in
    let f = and_parts (is_free_name buffer) (is_free_name n) d.0 in
    record {
      buffer = f.0;
      entry = f.1;
      parameter = d.1;
      buffer_is_not_entry = not_same buffer n c.1;
      buffer_is_not_parameter = not_same buffer p b.1;
      entry_is_not_parameter = not_same n p a.1;
      group = h.group;
      statements = each;
    }

-- ---- the whole

pub form_is_shader : (file : File) (shader : Shader) → form_of file ≡ Some shader → IsShader shader
unfolding form_of
form_is_shader file shader e =
    let a = bind_some (head_of file) (λ h. statements_of h.0 h.1.parameter h.1.statements >>= λ list. Some (shader_by h.0 h.1 list)) shader e in
    let b = bind_some (statements_of a.0.0 a.0.1.parameter a.0.1.statements) (λ list. Some (shader_by a.0.0 a.0.1 list)) shader a.2 in
    subst IsShader (some_is (shader_by a.0.0 a.0.1 b.0) shader b.2) (shader_by_is a.0.0 a.0.1 b.0 (head_is file a.0 a.1) (statements_are a.0.0 a.0.1.parameter a.0.1.statements b.0 b.1))
