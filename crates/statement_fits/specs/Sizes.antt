-- How many nodes stand on a path of a statement, how long its lists and its names are, and what it is to keep the limits.
-- Nodes are statements, blocks, lists in braces, expressions and types.
use Rattle.std.specs.Prelude.{ℕ, ◌+◌, max, ◌≤◌, ◌≡◌, true, ◌||◌, List, length, map, Option, Some, None}
use Rattle.slang_tree.specs.declared.types.Identifier.{Identifier}
use Rattle.slang_tree.specs.declared.types.TypeTree.{TypeTree}
use Rattle.slang_tree.specs.declared.expressions.ExprTree.{ExprTree}
use Rattle.slang_tree.specs.declared.statements.Attribute.{Attribute}
use Rattle.slang_tree.specs.declared.statements.AttributeNode.{AttributeNode}
use Rattle.slang_tree.specs.declared.statements.AttributeNode.TheVariants as a
use Rattle.slang_tree.specs.declared.statements.DeclaredName.{DeclaredName}
use Rattle.slang_tree.specs.declared.statements.Initializer.{Initializer, fold-Initializer}
use Rattle.slang_tree.specs.declared.statements.ListTree.{ListTree, fold-ListTree}
use Rattle.slang_tree.specs.declared.statements.Initializer.TheOpen.{Initializer-F, ListTree-F}
use Rattle.slang_tree.specs.declared.statements.Initializer.TheOpen as l
use Rattle.slang_tree.specs.declared.statements.LocalName.{LocalName}
use Rattle.slang_tree.specs.declared.statements.Local.{Local}
use Rattle.slang_tree.specs.declared.statements.Change.{Change}
use Rattle.slang_tree.specs.declared.statements.ChangeNode.{ChangeNode}
use Rattle.slang_tree.specs.declared.statements.ChangeNode.TheVariants as c
use Rattle.slang_tree.specs.declared.statements.LoopStart.{LoopStart}
use Rattle.slang_tree.specs.declared.statements.LoopStart.TheVariants as b
use Rattle.slang_tree.specs.declared.statements.StatTree.{StatTree, fold-StatTree}
use Rattle.slang_tree.specs.declared.statements.StatNode.TheOpen.{StatNode-F, StatTree-F}
use Rattle.slang_tree.specs.declared.statements.StatNode.TheOpen as s
use Rattle.slang_tree.specs.declared.statements.Block.{Block}
use Rattle.slang_grammar.specs.Descent.{Limits}
use Rattle.slang_grammar.specs.Heights.{greatest, height}
use Rattle.slang_grammar.specs.Sizes.{term_name, longest_list, longest_name}
use Rattle.expression_grammar.specs.Heights.{expr_height}
use Rattle.expression_grammar.specs.Sizes.{expr_list, expr_name}
use Rattle.statement_grammar.specs.AttributeRules.{all_true, stat_obeys}

-- What is counted: of a type, a value, an attribute, a declared name, a name; of a list that is so long, without its items; of
-- a list in braces with so many items, of which the most is that; and of a statement or a block, of whose parts the most is
-- that.
pub record Count : Type 0 where
  pub of_type : TypeTree → ℕ
  pub of_value : ExprTree → ℕ
  pub of_attribute : Attribute → ℕ
  pub of_name : DeclaredName → ℕ
  pub of_identifier : Identifier → ℕ
  pub of_length : ℕ → ℕ
  pub of_list : ℕ → ℕ → ℕ
  pub over : ℕ → ℕ

abbrev pub optional : {X : Type 0} → (X → ℕ) → Option X → ℕ
optional f (Some x) = f x
optional f None = 0

module _ (count : Count) where
  -- ---- what locals begin with

  abbrev pub initializer_step : Initializer-F ℕ ℕ → ℕ
  initializer_step (l.Expression x) = count.of_value x
  initializer_step (l.List x) = x

  abbrev pub list_step : ListTree-F ℕ ℕ → ℕ
  list_step x = count.of_list (length x.items) (greatest x.items)

  abbrev pub in_initializer : Initializer → ℕ
  in_initializer = fold-Initializer ℕ ℕ initializer_step list_step

  abbrev pub in_list : ListTree → ℕ
  in_list = fold-ListTree ℕ ℕ initializer_step list_step

  -- ---- locals and changes

  abbrev pub in_local_name : LocalName → ℕ
  in_local_name x = max (count.of_name x.name) (optional in_initializer x.value)

  abbrev pub in_local : Local → ℕ
  in_local x = max (count.of_type x.kind) (greatest (map in_local_name x.names))

  abbrev pub in_change_node : ChangeNode → ℕ
  in_change_node (c.Assign x y) = max (count.of_value x) (count.of_value y)
  in_change_node (c.Update op x y) = max (count.of_value x) (count.of_value y)
  in_change_node (c.StepBefore step x) = count.of_value x
  in_change_node (c.StepBehind x step) = count.of_value x
  in_change_node (c.Call x) = count.of_value x

  abbrev pub in_change : Change → ℕ
  in_change x = in_change_node x.node

  -- ---- statements

  abbrev pub in_start : LoopStart → ℕ
  in_start b.Nothing = 0
  in_start (b.Local x) = in_local x
  in_start (b.Change x) = in_change x

  abbrev pub in_attributes : List Attribute → ℕ
  in_attributes list = greatest (map count.of_attribute list)

  abbrev pub in_head : LoopStart → Option ExprTree → Option Change → ℕ
  in_head start condition step = max (in_start start) (max (optional count.of_value condition) (optional in_change step))

  abbrev pub stat_step : StatNode-F ℕ ℕ → ℕ
  stat_step (s.Block list) = greatest list
  stat_step (s.Local x) = in_local x
  stat_step (s.Change x) = in_change x
  stat_step s.Empty = 0
  stat_step (s.If x y) = max (count.of_value x) y
  stat_step (s.IfElse x y z) = max (count.of_value x) (max y z)
  stat_step (s.For list start condition step body) = max (in_attributes list) (max (in_head start condition step) body)
  stat_step (s.While list x body) = max (in_attributes list) (max (count.of_value x) body)
  stat_step (s.Return x) = optional count.of_value x
  stat_step s.Break = 0
  stat_step s.Continue = 0

  abbrev pub stat_tree_step : StatTree-F ℕ ℕ → ℕ
  stat_tree_step x = count.over x.node

  abbrev pub in_stat : StatTree → ℕ
  in_stat = fold-StatTree ℕ ℕ stat_step stat_tree_step

  abbrev pub in_block : Block → ℕ
  in_block x = count.over (greatest (map in_stat x.statements))

-- how many nodes stand on the longest path
abbrev pub nodes : Count
nodes = record { of_type = height; of_value = expr_height; of_attribute = λ x. 0; of_name = λ x. 0; of_identifier = λ x. 0; of_length = λ n. 0; of_list = λ n most. most + 1; over = λ most. most + 1 }

-- how many items or arguments the longest list has
abbrev pub lists : Count
lists = record { of_type = longest_list; of_value = expr_list; of_attribute = λ x. 0; of_name = λ x. 0; of_identifier = λ x. 0; of_length = λ n. n; of_list = λ n most. max n most; over = λ most. most }

abbrev pub attribute_name : AttributeNode → ℕ
attribute_name (a.Named id list) = length id.name
attribute_name (a.Binding b s) = 0

-- how many bytes the longest name has
abbrev pub names : Count
names = record {
  of_type = longest_name;
  of_value = expr_name;
  of_attribute = λ x. attribute_name x.node;
  of_name = λ x. max (length x.name.name) (greatest (map term_name x.lengths));
  of_identifier = λ x. length x.name;
  of_length = λ n. 0;
  of_list = λ n most. most;
  over = λ most. most;
}

-- ---- limits

-- at most so many nodes stand on a path, and no list and no name is longer than the limit
pub record Keeps (limits : Limits) (d : ℕ) (most : Count → ℕ) : Type 0 where
  pub depth : most nodes ≤ d
  pub long : most lists ≤ limits.items
  pub short : most names ≤ limits.names

-- it keeps them, and its attributes obey the rules, where the limits are not free
pub record StatFits (limits : Limits) (d : ℕ) (x : StatTree) : Type 0 where
  pub sizes : Keeps limits d (λ count. in_stat count x)
  pub rules : (limits.free || stat_obeys x) ≡ true

pub record BlockFits (limits : Limits) (d : ℕ) (x : Block) : Type 0 where
  pub sizes : Keeps limits d (λ count. in_block count x)
  pub rules : (limits.free || all_true (map stat_obeys x.statements)) ≡ true
