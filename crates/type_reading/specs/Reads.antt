-- What it is to read a type from the tokens.
use Rattle.std.specs.Prelude.{◌≡◌, ℕ, List, Result, Ok, Err, length, take, ◌++◌}
use Rattle.slang_tree.specs.declared.types.TypeTree.{TypeTree}
use Rattle.slang_reading.specs.declared.faults.Fault.{Fault}
use Rattle.slang_reading.specs.declared.faults.Fault.TheVariants as f
use Rattle.slang_reading.specs.Lexed.{Lexed}
use Rattle.slang_reading.specs.Cursor.{Cursor}
use Rattle.slang_reading.specs.Reading.{Parser, pure, ◌>>=◌}
use Rattle.slang_grammar.specs.Types.{TypeAt}
use Rattle.slang_grammar.specs.Descent.{Limits}
use Rattle.slang_grammar.specs.TypesDescent.{types}

-- it answers that type and stands behind it, unless memory runs out
abbrev pub Answers : TypeTree → ℕ → Result TypeTree Fault → Cursor → Type 0
Answers x to (Ok y) new = (y ≡ x) × (new.at ≡ to)
Answers x to (Err (f.Memory e)) new = Unit {0}
Answers x to (Err f.Stopped) new = ⊥
Answers x to (Err (f.Past code place)) new = ⊥

-- some type begins with the tokens before that index
abbrev pub SomeTypeBegins : List Lexed → ℕ → Type 0
SomeTypeBegins ts at = (more : List Lexed) × (x : TypeTree) × TypeAt (take at ts ++ more) x 0 (length (take at ts ++ more))

-- the type without the number of nodes on its longest path
unfoldable pub one_type : Limits → ℕ → Parser TypeTree
one_type limits d = types limits d >>= (λ x. pure x.0)
