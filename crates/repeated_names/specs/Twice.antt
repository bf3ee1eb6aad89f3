-- Names that are declared for the second time in their group.
use Rattle.std.specs.Prelude.{ℕ, Bool, true, false, ◌&&◌, ◌||◌, cond, nat_eq, bytes_eq, List, [], ◌∷◌, ◌++◌, map, Option, Some, None}
use Rattle.slang_names.specs.declared.places.Place.{Place}
use Rattle.slang_names.specs.declared.codes.ModuleCode.TheVariants as k
use Rattle.slang_tree.specs.declared.types.Identifier.{Identifier}
use Rattle.slang_tree.specs.declared.statements.Local.{Local}
use Rattle.slang_tree.specs.declared.statements.LoopStart.{LoopStart}
use Rattle.slang_tree.specs.declared.statements.LoopStart.TheVariants as b
use Rattle.slang_tree.specs.declared.statements.Block.{Block}
use Rattle.slang_tree.specs.declared.statements.StatTree.{StatTree, fold-StatTree}
use Rattle.slang_tree.specs.declared.statements.StatNode.{StatNode, fold-StatNode}
use Rattle.slang_tree.specs.declared.statements.StatNode.TheOpen.{StatNode-F, StatTree-F}
use Rattle.slang_tree.specs.declared.statements.StatNode.TheOpen as s
use Rattle.slang_tree.specs.declared.declarations.Parameter.{Parameter}
use Rattle.slang_tree.specs.declared.declarations.Function.{Function}
use Rattle.plans.specs.Plans.{Verdict, Good, Wrong}
use Rattle.declared_names.specs.Declarations.{Declaration, Node, a_struct, an_alias, a_function, some_fields, a_constant, a_global, an_unbuilt}

-- the names of the module; the members of a struct; the parameters of a function, or the locals of a block or a `for`, told
-- by the byte at which it begins
pub data Group : Type 0 where
  of_module : Group
  of_struct : ℕ → Group
  from_byte : ℕ → Group

abbrev pub same_group : Group → Group → Bool
same_group of_module of_module = true
same_group (of_struct m) (of_struct n) = nat_eq m n
same_group (from_byte m) (from_byte n) = nat_eq m n
same_group a b = false

pub record Named : Type 0 where
  pub group : Group
  pub name : Identifier

abbrev pub named : Group → Identifier → Named
named g n = record { group = g; name = n }

abbrev pub all_of : {A : Type 0} → List (List A) → List A
all_of [] = []
all_of (x ∷ xs) = x ++ all_of xs

abbrev pub in_group : List (Group → List Named) → Group → List Named
in_group [] g = []
in_group (x ∷ xs) g = x g ++ in_group xs g

-- ---- the locals of statements, in the block around or in their own

abbrev pub local_names : Local → Group → List Named
local_names x g = map (λ n. named g n.name.name) x.names

abbrev pub start_names : LoopStart → Group → List Named
start_names b.Nothing g = []
start_names (b.Local x) g = local_names x g
start_names (b.Change x) g = []

abbrev pub stat_names_step : StatNode-F (Place → Group → List Named) (Group → List Named) → Place → Group → List Named
stat_names_step (s.Block xs) = λ p g. in_group xs (from_byte p.start)
stat_names_step (s.Local x) = λ p g. local_names x g
stat_names_step (s.If e x) = λ p g. x g
stat_names_step (s.IfElse e x y) = λ p g. x g ++ y g
stat_names_step (s.For attrs st e ch x) = λ p g. start_names st (from_byte p.start) ++ x (from_byte p.start)
stat_names_step (s.While attrs e x) = λ p g. x g
stat_names_step other = λ p g. []

abbrev pub stat_names_tree : StatTree-F (Place → Group → List Named) (Group → List Named) → Group → List Named
stat_names_tree x = x.node x.place

abbrev pub stat_names : StatTree → Group → List Named
stat_names = fold-StatTree (Place → Group → List Named) (Group → List Named) stat_names_step stat_names_tree

abbrev pub stat_node_names : StatNode → Place → Group → List Named
stat_node_names = fold-StatNode (Place → Group → List Named) (Group → List Named) stat_names_step stat_names_tree

abbrev pub block_names : Block → List Named
block_names x = in_group (map stat_names x.statements) (from_byte x.place.start)

-- ---- all names of a file, in text order

abbrev pub parameter_name : Group → Parameter → Named
parameter_name g x = named g x.name.name

abbrev pub function_names : Group → Function → List Named
function_names g x = named g x.name ∷ map (parameter_name (from_byte x.place.start)) x.parameters ++ block_names x.body

abbrev pub group_of : Option ℕ → Group
group_of None = of_module
group_of (Some s) = of_struct s

abbrev pub node_names : Group → Node → List Named
node_names g (a_struct s name place plain) = named g name ∷ []
node_names g (an_alias x) = named g x.name ∷ []
node_names g (a_function attrs x) = function_names g x
node_names g (some_fields x) = map (λ n. named g n.name) x.names
node_names g (a_constant x) = named g x.name ∷ []
node_names g (a_global attrs x) = named g x.name ∷ []
node_names g (an_unbuilt p) = []

abbrev pub all_names : List Declaration → List Named
all_names [] = []
all_names (x ∷ xs) = node_names (group_of x.owner) x.node ++ all_names xs

-- ---- the first that is there already

abbrev pub same_named : Named → Named → Bool
same_named a b = same_group a.group b.group && bytes_eq a.name.name b.name.name

abbrev pub is_among : Named → List Named → Bool
is_among x [] = false
is_among x (y ∷ ys) = same_named y x || is_among x ys

-- those before are listed from the last to the first
abbrev pub first_twice : List Named → List Named → Option Place
first_twice before [] = None
first_twice before (x ∷ xs) = cond (is_among x before) (Some x.name.place) (first_twice (x ∷ before) xs)

abbrev pub refused_twice : {A : Type 0} → Option Place → A → Verdict A
refused_twice None x = Good x
refused_twice (Some p) x = Wrong p k.Twice

-- 132: a name for the second time
abbrev pub twice_line : List Declaration → Verdict (Unit {0})
twice_line xs = refused_twice (first_twice [] (all_names xs)) tt
