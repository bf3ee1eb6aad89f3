-- Where the parts of a value stand among its words.
use Rattle.std.specs.Prelude.{ℕ, zero, suc, ◌+◌, ◌*◌, cond, nat_lt, List, [], ◌∷◌}
use Rattle.behavior.specs.Values.{Value, Way, Found, Outside, Wrong}
use Rattle.spirv_words.specs.Machine.{Shape, Shapes, Repeated, Fields, NoField, Field}
use Rattle.flat_values.specs.Flat.{flat, width, IsOf}
use Rattle.flat_values.specs.Ranges.{Stands, written}

-- where a path leads: to the place of a first word, with the shape of what stands there; out of a range; or into a thing
-- that has no parts
pub data Piece : Type 0 where
  At : (place : ℕ) (of : Shape) → Piece
  OutOfRange : Piece
  NoPart : Piece

abbrev pub member : Shapes → ℕ → ℕ → Piece
member NoField i from = OutOfRange
member (Field offset of rest) zero from = At from of
member (Field offset of rest) (suc i) from = member rest i (from + width of)

-- one part of what stands from a place on
abbrev pub piece_of : Shape → ℕ → ℕ → Piece
piece_of (Repeated n stride of) i from = cond (nat_lt i n) (At (from + i * width of) of) OutOfRange
piece_of (Fields fs) i from = member fs i from
piece_of shape i from = NoPart

abbrev pub then_piece : Piece → (ℕ → Shape → Piece) → Piece
then_piece (At place of) go = go place of
then_piece OutOfRange go = OutOfRange
then_piece NoPart go = NoPart

-- the part at a path of member numbers and indices
abbrev pub piece : Shape → List ℕ → ℕ → Piece
piece s [] from = At from s
piece s (i ∷ path) from = then_piece (piece_of s i from) (λ place of. piece of path place)

-- a part was found, and it stands among these words where the shape says; or both say that there is none
abbrev pub IsPart : Way → Piece → List ℕ → Type 0
IsPart (Found w) (At place of) ws = IsOf w of × Stands (flat w) place ws
IsPart Outside OutOfRange ws = Unit {0}
IsPart Wrong NoPart ws = Unit {0}
IsPart way p ws = ⊥

-- a part was replaced: the whole is of the same shape, and stands where it did once that part's words are written
abbrev pub IsReplaced : Way → Piece → Value → Shape → ℕ → List ℕ → Type 0
IsReplaced (Found w) (At place of) new s from ws = IsOf new of → IsOf w s × Stands (flat w) from (written ws place (flat new))
IsReplaced Outside OutOfRange new s from ws = Unit {0}
IsReplaced Wrong NoPart new s from ws = Unit {0}
IsReplaced way p new s from ws = ⊥
