-- The instructions of expressions and statements.
use Rattle.std.specs.Prelude.{ℕ, ◌+◌, List, [], ◌∷◌, ◌++◌}
use Rattle.spirv_words.specs.declared.opcodes.Op.{Op}
use Rattle.spirv_words.specs.declared.opcodes.Op.TheVariants.{AccessChain, Load, Store, IAdd}
use Rattle.spirv_words.specs.declared.images.Instruction.{Instruction}
use Rattle.first_form.specs.declared.shader.Statement.{Statement}
use Rattle.first_form.specs.declared.shader.Sum.{Sum}
use Rattle.first_form.specs.declared.shader.Item.{Item}
use Rattle.first_form.specs.declared.shader.Item.TheVariants.{Number, X}

abbrev pub ins : Op → List ℕ → Instruction
ins op operands = record { op = op; operands = operands }

-- the ids of what stands before a body: the type uint, the pointers to a uint of a variable and of a buffer, the buffer's
-- variable, the constants by their values, the variables of the locals, and the first of the temporaries
pub record Tables : Type 0 where
  pub word : ℕ
  pub word_pointer : ℕ
  pub cell_pointer : ℕ
  pub buffer : ℕ
  pub constant : ℕ → ℕ
  pub pointer : ℕ → ℕ
  pub temporaries : ℕ

-- the instructions of an expression, the id of its value, the next id and the next temporary
pub record Code : Type 0 where
  pub instructions : List Instruction
  pub value : ℕ
  pub id : ℕ
  pub temp : ℕ

-- the instructions of two expressions, one after the other
pub record Pair : Type 0 where
  pub instructions : List Instruction
  pub left : ℕ
  pub right : ℕ
  pub id : ℕ
  pub temp : ℕ

-- the instructions of a statement
pub record Piece : Type 0 where
  pub instructions : List Instruction
  pub id : ℕ
  pub temp : ℕ

abbrev pub pair_code : Code → (ℕ → ℕ → Code) → Pair
pair_code a second =
    let b = second a.id a.temp in
    record { instructions = a.instructions ++ b.instructions; left = a.value; right = b.value; id = b.id; temp = b.temp }

-- an operator on two values
abbrev pub operator_code : Op → ℕ → Pair → Code
operator_code op type p =
    record { instructions = p.instructions ++ ins op (type ∷ p.id ∷ p.left ∷ p.right ∷ []) ∷ []; value = p.id; id = p.id + 1; temp = p.temp }

-- a component of a local: a pointer to it, and what it holds
abbrev pub component_code : Tables → ℕ → ℕ → ℕ → ℕ → Code
component_code t local k id temp = record {
  instructions = ins AccessChain (t.word_pointer ∷ id ∷ t.pointer local ∷ t.constant k ∷ []) ∷ ins Load (t.word ∷ (id + 1) ∷ id ∷ []) ∷ [];
  value = id + 1;
  id = id + 2;
  temp = temp;
}

abbrev pub item_code : Tables → Item → ℕ → ℕ → Code
item_code t (Number n) id temp = record { instructions = []; value = t.constant n; id = id; temp = temp }
item_code t X id temp = component_code t 0 0 id temp

abbrev pub more_code : Tables → (ℕ → ℕ → Code) → List Item → ℕ → ℕ → Code
more_code t so_far [] = so_far
more_code t so_far (i ∷ is) = more_code t (λ id temp. operator_code IAdd t.word (pair_code (so_far id temp) (item_code t i))) is

abbrev pub sum_code : Tables → Sum → ℕ → ℕ → Code
sum_code t s = more_code t (item_code t s.first) s.rest

-- a write to the buffer: a pointer to the word at the index, the first number being the wrapper's member, and the Store
abbrev pub write_code : Tables → Pair → Piece
write_code t p = record {
  instructions = p.instructions ++ ins AccessChain (t.cell_pointer ∷ p.id ∷ t.buffer ∷ t.constant 0 ∷ p.left ∷ []) ∷ ins Store (p.id ∷ p.right ∷ []) ∷ [];
  id = p.id + 1;
  temp = p.temp;
}

abbrev pub statement_code : Tables → Statement → ℕ → ℕ → Piece
statement_code t s id temp = write_code t (pair_code (sum_code t s.index id temp) (sum_code t s.value))

-- one statement after the other
abbrev pub sequence_code : Piece → (ℕ → ℕ → Piece) → Piece
sequence_code a second =
    let b = second a.id a.temp in
    record { instructions = a.instructions ++ b.instructions; id = b.id; temp = b.temp }

abbrev pub statements_code : Tables → List Statement → ℕ → ℕ → Piece
statements_code t [] id temp = record { instructions = []; id = id; temp = temp }
statements_code t (s ∷ ss) id temp = sequence_code (statement_code t s id temp) (statements_code t ss)
