-- The shader that the tree of a file is, where it is of the first form. Places count for nothing.
use Rattle.std.specs.Prelude.{ℕ, zero, suc, ◌^◌, Bool, true, false, not, ◌&&◌, ◌==◌, nat_lt, if◌then◌else◌, List, [], ◌∷◌, ◌++◌, length, codes, Option, Some, None}
use Rattle.std.specs.Str.{bytes_eq}
use Rattle.slang_names.specs.declared.places.Access.{Access}
use Rattle.slang_names.specs.declared.places.Mode.{Mode}
use Rattle.slang_names.specs.declared.places.Mode.TheVariants as mode
use Rattle.slang_names.specs.declared.numbers.Number.{Number}
use Rattle.slang_names.specs.declared.numbers.NumberKind.{NumberKind}
use Rattle.slang_names.specs.declared.numbers.NumberKind.TheVariants as kind
use Rattle.slang_tree.specs.declared.types.Identifier.{Identifier}
use Rattle.slang_tree.specs.declared.types.Builtin.TheVariants as b
use Rattle.slang_tree.specs.declared.types.Resource.TheVariants as r
use Rattle.slang_tree.specs.declared.types.TypeNode.{TypeNode, out-TypeNode}
use Rattle.slang_tree.specs.declared.types.TypeNode.TheVariants as t
use Rattle.slang_tree.specs.declared.types.TypeTree.{TypeTree}
use Rattle.slang_tree.specs.declared.types.GenericArgument.{GenericArgument}
use Rattle.slang_tree.specs.declared.types.GenericArgument.TheOpen.{TypeNode-F}
use Rattle.slang_tree.specs.declared.types.GenericArgument.TheOpen as u
use Rattle.slang_tree.specs.declared.expressions.BinaryOperator.TheVariants as o
use Rattle.slang_tree.specs.declared.expressions.ExprNode.{ExprNode, out-ExprNode}
use Rattle.slang_tree.specs.declared.expressions.ExprNode.TheOpen.{ExprNode-F}
use Rattle.slang_tree.specs.declared.expressions.ExprNode.TheOpen as e
use Rattle.slang_tree.specs.declared.expressions.ExprNode.TheVariants as n
use Rattle.slang_tree.specs.declared.expressions.ExprTree.{ExprTree}
use Rattle.slang_tree.specs.declared.statements.Literal.{Literal}
use Rattle.slang_tree.specs.declared.statements.Literal.TheVariants as l
use Rattle.slang_tree.specs.declared.statements.Attribute.{Attribute}
use Rattle.slang_tree.specs.declared.statements.AttributeNode.{AttributeNode}
use Rattle.slang_tree.specs.declared.statements.AttributeNode.TheVariants as a
use Rattle.slang_tree.specs.declared.statements.ChangeNode.{ChangeNode}
use Rattle.slang_tree.specs.declared.statements.ChangeNode.TheVariants as c
use Rattle.slang_tree.specs.declared.statements.StatNode.{StatNode}
use Rattle.slang_tree.specs.declared.statements.StatNode.TheVariants as s
use Rattle.slang_tree.specs.declared.statements.StatTree.{StatTree}
use Rattle.slang_tree.specs.declared.declarations.Parameter.{Parameter}
use Rattle.slang_tree.specs.declared.declarations.Function.{Function}
use Rattle.slang_tree.specs.declared.file.ModuleLine.{ModuleLine}
use Rattle.slang_tree.specs.declared.file.Item as declared
use Rattle.slang_tree.specs.declared.file.ItemNode.{ItemNode}
use Rattle.slang_tree.specs.declared.file.ItemNode.TheVariants as d
use Rattle.slang_tree.specs.declared.file.File.{File}
use Rattle.first_form.specs.declared.shader.Shader.{Shader}
use Rattle.first_form.specs.declared.shader.GroupSize.{GroupSize}
use Rattle.first_form.specs.declared.shader.Statement.{Statement}
use Rattle.first_form.specs.declared.shader.Sum.{Sum}
use Rattle.first_form.specs.declared.shader.Item.{Item}
use Rattle.first_form.specs.declared.shader.Item.TheVariants.{Number as Written, X}
use Rattle.first_form.specs.Words.{is_free_name}
use Rattle.first_form.specs.Finding.{◌>>=◌, if_there}
use Rattle.first_form.specs.Shaders.{is_group}

abbrev pub is_empty : {A : Type 0} → List A → Bool
is_empty xs = length xs == 0

-- ---- types

abbrev pub is_void : TypeNode → Bool
is_void (t.Builtin b.Void) = true
is_void _ = false

abbrev pub is_uint : TypeNode → Bool
is_uint (t.Builtin b.Uint) = true
is_uint _ = false

abbrev pub is_uint3 : TypeNode → Bool
is_uint3 (t.Builtin b.Uint3) = true
is_uint3 _ = false

abbrev pub is_buffer_by : TypeNode-F GenericArgument TypeNode TypeTree → Bool
is_buffer_by (u.Resource r.RwStructuredBuffer inner) = is_uint inner.node
is_buffer_by _ = false

-- `RWStructuredBuffer<uint>`
abbrev pub is_buffer : TypeNode → Bool
is_buffer node = is_buffer_by (out-TypeNode node)

-- ---- attributes

abbrev pub is_compute : Literal → Bool
is_compute (l.String place text) = bytes_eq text (codes "compute")
is_compute (l.Number place number) = false

abbrev pub are_compute : List Literal → Bool
are_compute [] = false
are_compute (x ∷ xs) = is_compute x && is_empty xs

-- `[shader("compute")]`
abbrev pub is_stage : AttributeNode → Bool
is_stage (a.Named id literals) = bytes_eq id.name (codes "shader") && are_compute literals
is_stage (a.Binding binding set) = false

abbrev pub plain_by : NumberKind → ℕ → Option ℕ
plain_by kind.Int value = Some value
plain_by kind.Uint value = None

-- the value of a number without suffix
abbrev pub plain : Literal → Option ℕ
plain (l.Number place number) = plain_by number.kind number.value
plain (l.String place text) = None

abbrev pub plain_first : List Literal → Option (ℕ × List Literal)
plain_first [] = None
plain_first (x ∷ xs) = plain x >>= λ n. Some (n, xs)

-- three numbers that may be the size of a group
unfoldable pub group_in : List Literal → Option GroupSize
group_in literals = do
  x ← plain_first literals
  y ← plain_first x.1
  z ← plain_first y.1
  if is_empty z.1 && is_group (record { x = x.0; y = y.0; z = z.0 }) then Some (record { x = x.0; y = y.0; z = z.0 }) else None

-- `[numthreads(X, Y, Z)]`
abbrev pub threads_of : AttributeNode → Option GroupSize
threads_of (a.Named id literals) = if bytes_eq id.name (codes "numthreads") then group_in literals else None
threads_of (a.Binding binding set) = None

-- the attributes behind the stage
abbrev pub behind_stage : List Attribute → Option (List Attribute)
behind_stage [] = None
behind_stage (x ∷ xs) = if is_stage x.node then Some xs else None

abbrev pub only_threads : List Attribute → Option GroupSize
only_threads [] = None
only_threads (x ∷ xs) = if is_empty xs then threads_of x.node else None

-- the stage and the size of a group, in this order
unfoldable pub group_of : List Attribute → Option GroupSize
group_of attributes = do
  others ← behind_stage attributes
  only_threads others

-- ---- sums

-- the name alone
abbrev pub is_named : List ℕ → ExprNode → Bool
is_named word (n.Name id arguments) = bytes_eq id.name word && is_empty arguments
is_named word _ = false

abbrev pub literal_by : NumberKind → ℕ → Option Item
literal_by kind.Uint value = if nat_lt value (2 ^ 32) then Some (Written value) else None
literal_by kind.Int value = None

-- a number with the suffix `u`
abbrev pub literal_of : Number → Option Item
literal_of number = literal_by number.kind number.value

abbrev pub item_by : List ℕ → ExprNode-F ExprNode ExprTree → Option Item
item_by parameter (e.Number number) = literal_of number
item_by parameter (e.Member value id arguments) =
    if is_named parameter value.node && bytes_eq id.name (codes "x") && is_empty arguments then Some X else None
item_by parameter _ = None

-- a number, or the parameter's first component
abbrev pub item_of : List ℕ → ExprNode → Option Item
item_of parameter node = item_by parameter (out-ExprNode node)

abbrev pub added_by : ExprNode-F ExprNode ExprTree → Option (ExprTree × ExprTree)
added_by (e.Binary o.Add left right) = Some (left, right)
added_by _ = None

-- what stands before the last `+` and behind it
abbrev pub added : ExprNode → Option (ExprTree × ExprTree)
added node = added_by (out-ExprNode node)

abbrev pub alone : Item → Sum
alone item = record { first = item; rest = [] }

abbrev pub and_last : Sum → Item → Sum
and_last sum item = record { first = sum.first; rest = sum.rest ++ item ∷ [] }

-- at most so many items, added from left to right
unfoldable pub sum_of : List ℕ → ℕ → ExprTree → Option Sum
sum_of parameter zero tree = None
sum_of parameter (suc n) tree = if_there (added tree.node) (λ x. sum_of parameter n x.0 >>= λ sum. item_of parameter x.1.node >>= λ item. Some (and_last sum item)) (item_of parameter tree.node >>= λ item. Some (alone item))

-- ---- statements

abbrev pub assigned_by : ChangeNode → Option (ExprTree × ExprTree)
assigned_by (c.Assign place value) = Some (place, value)
assigned_by _ = None

-- the place and the value of an assignment
abbrev pub assigned : StatNode → Option (ExprTree × ExprTree)
assigned (s.Change change) = assigned_by change.node
assigned _ = None

abbrev pub index_by : List ℕ → ExprNode-F ExprNode ExprTree → Option ExprTree
index_by buffer (e.Index value index) = if is_named buffer value.node then Some index else None
index_by buffer _ = None

-- what stands in the brackets behind the name
abbrev pub index_of : List ℕ → ExprNode → Option ExprTree
index_of buffer node = index_by buffer (out-ExprNode node)

-- `BUFFER[SUM] = SUM;`
unfoldable pub statement_of : List ℕ → List ℕ → StatTree → Option Statement
statement_of buffer parameter tree = do
  x ← assigned tree.node
  inner ← index_of buffer x.0.node
  index ← sum_of parameter 32 inner
  value ← sum_of parameter 32 x.1
  Some (record { index = index; value = value })

-- all of them
unfoldable pub statements_of : List ℕ → List ℕ → List StatTree → Option (List Statement)
statements_of buffer parameter [] = Some []
statements_of buffer parameter (tree ∷ trees) = do
  statement ← statement_of buffer parameter tree
  others ← statements_of buffer parameter trees
  Some (statement ∷ others)

-- ---- declarations

abbrev pub has_no_access : Option Access → Bool
has_no_access None = true
has_no_access (Some access) = false

-- `RWStructuredBuffer<uint> BUFFER;`
abbrev pub buffer_in : ItemNode → Option (List ℕ)
buffer_in (d.Global global) = if is_buffer global.kind.node then Some global.name.name else None
buffer_in _ = None

abbrev pub buffer_of : declared.Item → Option (List ℕ)
buffer_of item = if is_empty item.attributes && has_no_access item.access then buffer_in item.node else None

abbrev pub is_in : Mode → Bool
is_in mode.In = true
is_in _ = false

abbrev pub is_thread_id : Option Identifier → Bool
is_thread_id (Some id) = bytes_eq id.name (codes "SV_DispatchThreadID")
is_thread_id None = false

-- `uint3 P : SV_DispatchThreadID`
abbrev pub is_thread : Parameter → Bool
is_thread p = is_in p.mode && is_uint3 p.kind.node && is_empty p.name.lengths && is_thread_id p.semantic

-- the name of the one parameter
abbrev pub parameter_of : List Parameter → Option (List ℕ)
parameter_of [] = None
parameter_of (p ∷ ps) = if is_thread p && is_empty ps then Some p.name.name.name else None

-- neither static nor generic, and without a result
abbrev pub is_plain : Function → Bool
is_plain f = not f.is_static && is_void f.result.node && is_empty f.generics && is_empty f.wheres

abbrev pub function_in : ItemNode → Option Function
function_in (d.Function f) = if is_plain f then Some f else None
function_in _ = None

-- the function of an item without an access word
abbrev pub function_of : declared.Item → Option Function
function_of item = if has_no_access item.access then function_in item.node else None

-- an entry, with the trees of its statements
pub record Entry : Type 0 where
  pub name : List ℕ
  pub parameter : List ℕ
  pub group : GroupSize
  pub statements : List StatTree

unfoldable pub entry_of : declared.Item → Option Entry
entry_of item = do
  f ← function_of item
  group ← group_of item.attributes
  parameter ← parameter_of f.parameters
  Some (record { name = f.name.name; parameter = parameter; group = group; statements = f.body.statements })

-- ---- files

-- the buffer that is declared first, and the items behind it
abbrev pub buffer_first : List declared.Item → Option (List ℕ × List declared.Item)
buffer_first [] = None
buffer_first (x ∷ xs) = buffer_of x >>= λ name. Some (name, xs)

abbrev pub only_entry : List declared.Item → Option Entry
only_entry [] = None
only_entry (x ∷ xs) = if is_empty xs then entry_of x else None

-- three different names that are no words of the language
abbrev pub are_names : List ℕ → List ℕ → List ℕ → Bool
are_names a b c =
    is_free_name a && is_free_name b && is_free_name c && not (bytes_eq a b) && not (bytes_eq a c) && not (bytes_eq b c)

-- a buffer and an entry
unfoldable pub head_in : List declared.Item → Option (List ℕ × Entry)
head_in items = do
  buffer ← buffer_first items
  entry ← only_entry buffer.1
  if are_names buffer.0 entry.name entry.parameter then Some (buffer.0, entry) else None

abbrev pub is_unnamed : Option ModuleLine → Bool
is_unnamed None = true
is_unnamed (Some line) = false

-- no module line and no imports
abbrev pub is_alone : File → Bool
is_alone file = is_unnamed file.module && is_empty file.imports

abbrev pub head_of : File → Option (List ℕ × Entry)
head_of file = if is_alone file then head_in file.items else None

abbrev pub shader_by : List ℕ → Entry → List Statement → Shader
shader_by buffer entry list = record { buffer = buffer; entry = entry.name; parameter = entry.parameter; group = entry.group; statements = list }

-- the shader that the file is
unfoldable pub form_of : File → Option Shader
form_of file = do
  h ← head_of file
  list ← statements_of h.0 h.1.parameter h.1.statements
  Some (shader_by h.0 h.1 list)
