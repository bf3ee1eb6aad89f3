-- What the emitter's types stand for.
use Rattle.std.specs.Prelude.{ℕ, ◌+◌, List, [], ◌∷◌, ◌++◌, length}
use Rattle.spirv_words.specs.declared.opcodes.Op.TheVariants.{Name, EntryPoint, ExecutionMode, Decorate, MemberDecorate, Function, FunctionEnd, Label, Variable, Load, Store, Return}
use Rattle.spirv_words.specs.declared.images.Instruction.{Instruction}
use Rattle.spirv_words.specs.declared.images.Image.{Image}
use Rattle.spirv_words.specs.Strings.{string_words}
use Rattle.first_form.specs.declared.shader.Shader.{Shader}
use Rattle.first_form.specs.declared.shader.Statement.{Statement}
use Rattle.first_image.specs.declared.output.Output.{Output}
use Rattle.first_image.specs.Templates.{ins, Tables, Code, Piece, statements_code}
use Rattle.first_image.specs.Image.{position, qualified, buffer_types, more_types, variables}
use Rattle.first_image.specs.Sections.{plain_types, constants_code, pointer_types, nulls}

-- ---- the ids, from the constants

abbrev pub array_at : List ℕ → ℕ
array_at ks = 13 + length ks

abbrev pub pointers_at : List ℕ → ℕ
pointers_at ks = array_at ks + 2

abbrev pub nulls_at : List ℕ → ℕ
nulls_at ks = pointers_at ks + 17

abbrev pub buffer_at : List ℕ → ℕ
buffer_at ks = nulls_at ks + 9

abbrev pub entry_at : List ℕ → ℕ
entry_at ks = buffer_at ks + 2

abbrev pub tables_at : List ℕ → Tables
tables_at ks = record {
  word = 4;
  word_pointer = pointers_at ks + 2;
  cell_pointer = pointers_at ks + 10;
  buffer = buffer_at ks;
  constant = λ k. 13 + position k ks;
  pointer = λ i. entry_at ks + 2 + i;
  temporaries = entry_at ks + 3;
}

-- ---- the output after some code

abbrev pub emitted : Output → Code → Output
emitted o c = record { instructions = o.instructions ++ c.instructions; next = c.id }

abbrev pub emitted_piece : Output → Piece → Output
emitted_piece o p = record { instructions = o.instructions ++ p.instructions; next = p.id }

-- a value that is there already
abbrev pub known : ℕ → ℕ → ℕ → Code
known value id temp = record { instructions = []; value = value; id = id; temp = temp }

-- ---- parts of sections

abbrev pub decorations : ℕ → ℕ → List Instruction
decorations a b =
    ins Decorate (a ∷ 6 ∷ 4 ∷ []) ∷ ins Decorate ((a + 1) ∷ 2 ∷ []) ∷ ins MemberDecorate ((a + 1) ∷ 0 ∷ 35 ∷ 0 ∷ []) ∷
    ins Decorate (b ∷ 34 ∷ 0 ∷ []) ∷ ins Decorate (b ∷ 33 ∷ 0 ∷ []) ∷ ins Decorate ((b + 1) ∷ 11 ∷ 28 ∷ []) ∷ []

abbrev pub entry_start : ℕ → ℕ → ℕ → List Instruction
entry_start n b e =
    ins Function (1 ∷ e ∷ 0 ∷ (n + 16) ∷ []) ∷ ins Label ((e + 1) ∷ []) ∷ ins Variable ((n + 7) ∷ (e + 2) ∷ 7 ∷ []) ∷
    ins Load (9 ∷ (e + 3) ∷ (b + 1) ∷ []) ∷ ins Store ((e + 2) ∷ (e + 3) ∷ []) ∷ []

abbrev pub entry_end : List Instruction
entry_end = ins Return [] ∷ ins FunctionEnd [] ∷ []

-- the image of what stands before an entry, and an entry with these statements
abbrev pub image_with : List ℕ → List Instruction → List Statement → Image
image_with ks before ss =
    let body = statements_code (tables_at ks) ss (entry_at ks + 4) 0 in
    record { bound = body.id; instructions = before ++ (entry_start (pointers_at ks) (buffer_at ks) (entry_at ks) ++ (body.instructions ++ entry_end)) }

-- the preamble
abbrev pub preamble_at : List ℕ → List ℕ → Shader → List Instruction
preamble_at ks home p =
    let b = buffer_at ks in
    let e = entry_at ks in
    ins EntryPoint (5 ∷ e ∷ (string_words p.entry ++ b ∷ (b + 1) ∷ [])) ∷
    ins ExecutionMode (e ∷ 17 ∷ p.group.x ∷ p.group.y ∷ p.group.z ∷ []) ∷
    ins Name (b ∷ string_words (qualified home p.buffer)) ∷ ins Name (e ∷ string_words (qualified home p.entry)) ∷
    decorations (array_at ks) b

-- the types, constants and variables
abbrev pub declared_at : List ℕ → List Instruction
declared_at ks =
    plain_types ++ (constants_code 13 ks ++ (buffer_types (array_at ks) ++ (pointer_types (pointers_at ks) ++
    (more_types (array_at ks) (pointers_at ks) ++ (nulls (nulls_at ks) ++ variables (pointers_at ks) (buffer_at ks))))))
