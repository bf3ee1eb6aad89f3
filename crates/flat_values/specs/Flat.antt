-- Values as words in a row: a bool is 0 or 1, a word is itself, and the parts of a whole stand one after another.
use Rattle.std.specs.Prelude.{ℕ, zero, suc, ◌+◌, ◌*◌, ◌^◌, ◌<◌, cond, List, [], ◌∷◌, ◌++◌}
use Rattle.behavior.specs.Values.{Value, Values, Truth, Word, Whole, NoMore, Then}
use Rattle.spirv_words.specs.Machine.{Shape, Shapes, Nothing, Truths, Words, Repeated, Unbounded, Fields, PointerTo, NoField, Field}

-- the words of a value
abbrev mutual
  pub flat : Value → List ℕ
  flat (Truth b) = cond b 1 0 ∷ []
  flat (Word w) = w ∷ []
  flat (Whole vs) = flats vs

  pub flats : Values → List ℕ
  flats NoMore = []
  flats (Then v vs) = flat v ++ flats vs

-- how many words the values of a shape have; a shape that no value has gets some number
abbrev mutual
  pub width : Shape → ℕ
  width Nothing = 0
  width Truths = 1
  width (Words signed) = 1
  width (Repeated n stride of) = n * width of
  width (Unbounded stride of) = 0
  width (Fields fs) = widths fs
  width (PointerTo of) = 0

  pub widths : Shapes → ℕ
  widths NoField = 0
  widths (Field offset of rest) = width of + widths rest

-- a value is of a shape: its words are of 32 bits, and each whole has as many parts as the shape says. No value is void,
-- without an end, or a pointer.
abbrev mutual
  pub IsOf : Value → Shape → Type 0
  IsOf (Truth b) Truths = Unit {0}
  IsOf (Word w) (Words signed) = w < 2 ^ 32
  IsOf (Whole vs) (Repeated n stride of) = AllOf vs n of
  IsOf (Whole vs) (Fields fs) = FieldsOf vs fs
  IsOf v s = ⊥

  pub AllOf : Values → ℕ → Shape → Type 0
  AllOf NoMore zero of = Unit {0}
  AllOf (Then v vs) (suc n) of = IsOf v of × AllOf vs n of
  AllOf vs n of = ⊥

  pub FieldsOf : Values → Shapes → Type 0
  FieldsOf NoMore NoField = Unit {0}
  FieldsOf (Then v vs) (Field offset of rest) = IsOf v of × FieldsOf vs rest
  FieldsOf vs fs = ⊥

-- shapes that values have: bools, words, and arrays and structs of these
abbrev mutual
  pub IsData : Shape → Type 0
  IsData Truths = Unit {0}
  IsData (Words signed) = Unit {0}
  IsData (Repeated n stride of) = IsData of
  IsData (Fields fs) = AreData fs
  IsData s = ⊥

  pub AreData : Shapes → Type 0
  AreData NoField = Unit {0}
  AreData (Field offset of rest) = IsData of × AreData rest
