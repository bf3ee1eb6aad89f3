-- The whole image of a shader of the first form.
use Rattle.std.specs.Prelude.{ℕ, suc, ◌+◌, cond, nat_eq, nat_lt, List, [], ◌∷◌, ◌++◌, length}
use Rattle.spirv_words.specs.declared.opcodes.Op.TheVariants.{Name, EntryPoint, ExecutionMode, Decorate, MemberDecorate, TypeRuntimeArray, TypeStruct, TypePointer, TypeFunction, Function, FunctionEnd, Label, Variable, Load, Store, Return}
use Rattle.spirv_words.specs.declared.images.Instruction.{Instruction}
use Rattle.spirv_words.specs.declared.images.Image.{Image}
use Rattle.spirv_words.specs.Strings.{string_words}
use Rattle.first_form.specs.declared.shader.Shader.{Shader}
use Rattle.first_form.specs.declared.shader.Statement.{Statement}
use Rattle.first_form.specs.declared.shader.Sum.{Sum}
use Rattle.first_form.specs.declared.shader.Item.{Item}
use Rattle.first_form.specs.declared.shader.Item.TheVariants.{Number, X}
use Rattle.first_image.specs.Templates.{ins, Tables, statements_code}
use Rattle.first_image.specs.Sections.{beginning, plain_types, constants_code, pointer_types, nulls}

-- ---- the constants that the instructions name, ascending and each once

abbrev pub insert : ℕ → List ℕ → List ℕ
insert n [] = n ∷ []
insert n (k ∷ ks) = cond (nat_eq n k) (k ∷ ks) (cond (nat_lt n k) (n ∷ k ∷ ks) (k ∷ insert n ks))

-- where a number stands in such a list
abbrev pub position : ℕ → List ℕ → ℕ
position n [] = 0
position n (k ∷ ks) = cond (nat_eq n k) 0 (suc (position n ks))

-- the x component has the number 0
abbrev pub item_constants : Item → List ℕ → List ℕ
item_constants (Number n) ks = insert n ks
item_constants X ks = insert 0 ks

abbrev pub items_constants : List Item → List ℕ → List ℕ
items_constants [] ks = ks
items_constants (i ∷ is) ks = item_constants i (items_constants is ks)

abbrev pub sum_constants : Sum → List ℕ → List ℕ
sum_constants s ks = item_constants s.first (items_constants s.rest ks)

-- the buffer's one member has the number 0
abbrev pub statement_constants : Statement → List ℕ → List ℕ
statement_constants s ks = insert 0 (sum_constants s.index (sum_constants s.value ks))

abbrev pub statements_constants : List Statement → List ℕ → List ℕ
statements_constants [] ks = ks
statements_constants (s ∷ ss) ks = statement_constants s (statements_constants ss ks)

abbrev pub constants : Shader → List ℕ
constants p = statements_constants p.statements []

-- ---- the ids

-- the buffer's runtime array, the wrapper behind it, then the pointers and the wrapper's pointer, the entry's type, the
-- nulls, the buffer's variable, the built-in value's variable, and the entry
abbrev pub array_id : Shader → ℕ
array_id p = 13 + length (constants p)

abbrev pub pointers_id : Shader → ℕ
pointers_id p = array_id p + 2

abbrev pub nulls_id : Shader → ℕ
nulls_id p = pointers_id p + 17

abbrev pub buffer_id : Shader → ℕ
buffer_id p = nulls_id p + 9

abbrev pub entry_id : Shader → ℕ
entry_id p = buffer_id p + 2

abbrev pub tables : Shader → Tables
tables p = record {
  word = 4;
  word_pointer = pointers_id p + 2;
  cell_pointer = pointers_id p + 10;
  buffer = buffer_id p;
  constant = λ k. 13 + position k (constants p);
  pointer = λ i. entry_id p + 2 + i;
  temporaries = entry_id p + 3;
}

-- ---- the sections of this form

-- a name of a module's declaration
abbrev pub qualified : List ℕ → List ℕ → List ℕ
qualified home name = home ++ 46 ∷ name

-- the entry with the variables that it uses, the size of a group, the names, and the decorations
abbrev pub preamble : List ℕ → Shader → List Instruction
preamble home p =
    let a = array_id p in
    let b = buffer_id p in
    let e = entry_id p in
    ins EntryPoint (5 ∷ e ∷ (string_words p.entry ++ b ∷ (b + 1) ∷ [])) ∷
    ins ExecutionMode (e ∷ 17 ∷ p.group.x ∷ p.group.y ∷ p.group.z ∷ []) ∷
    ins Name (b ∷ string_words (qualified home p.buffer)) ∷ ins Name (e ∷ string_words (qualified home p.entry)) ∷
    ins Decorate (a ∷ 6 ∷ 4 ∷ []) ∷ ins Decorate ((a + 1) ∷ 2 ∷ []) ∷ ins MemberDecorate ((a + 1) ∷ 0 ∷ 35 ∷ 0 ∷ []) ∷
    ins Decorate (b ∷ 34 ∷ 0 ∷ []) ∷ ins Decorate (b ∷ 33 ∷ 0 ∷ []) ∷ ins Decorate ((b + 1) ∷ 11 ∷ 28 ∷ []) ∷ []

-- the buffer: a runtime array of uints in a wrapper
abbrev pub buffer_types : ℕ → List Instruction
buffer_types a = ins TypeRuntimeArray (a ∷ 4 ∷ []) ∷ ins TypeStruct ((a + 1) ∷ a ∷ []) ∷ []

-- the pointer to the wrapper, and the entry's type, which has no parameter and no result
abbrev pub more_types : ℕ → ℕ → List Instruction
more_types a n = ins TypePointer ((n + 15) ∷ 12 ∷ (a + 1) ∷ []) ∷ ins TypeFunction ((n + 16) ∷ 1 ∷ []) ∷ []

-- the buffer's variable, and that of the invocation's global id
abbrev pub variables : ℕ → ℕ → List Instruction
variables n b = ins Variable ((n + 15) ∷ b ∷ 12 ∷ []) ∷ ins Variable ((n + 13) ∷ (b + 1) ∷ 1 ∷ []) ∷ []

-- the entry: a variable for its parameter, in which the global id is stored, and then the statements
abbrev pub entry_code : Shader → List Instruction
entry_code p =
    let n = pointers_id p in
    let e = entry_id p in
    ins Function (1 ∷ e ∷ 0 ∷ (n + 16) ∷ []) ∷ ins Label ((e + 1) ∷ []) ∷ ins Variable ((n + 7) ∷ (e + 2) ∷ 7 ∷ []) ∷
    ins Load (9 ∷ (e + 3) ∷ (buffer_id p + 1) ∷ []) ∷ ins Store ((e + 2) ∷ (e + 3) ∷ []) ∷
    ((statements_code (tables p) p.statements (e + 4) 0).instructions ++ ins Return [] ∷ ins FunctionEnd [] ∷ [])

abbrev pub image_code : List ℕ → Shader → List Instruction
image_code home p =
    beginning ++ (preamble home p ++ (plain_types ++ (constants_code 13 (constants p) ++ (buffer_types (array_id p) ++
    (pointer_types (pointers_id p) ++ (more_types (array_id p) (pointers_id p) ++ (nulls (nulls_id p) ++
    (variables (pointers_id p) (buffer_id p) ++ entry_code p))))))))

-- the image of a shader that a module declares
abbrev pub image_of : List ℕ → Shader → Image
image_of home p = record {
  bound = (statements_code (tables p) p.statements (entry_id p + 4) 0).id;
  instructions = image_code home p;
}
