-- Values by their shape, whatever their words are; and how far shapes go in a buffer.
use Rattle.std.specs.Prelude.{◌≡◌, ℕ, zero, suc, ◌%◌, ◌<◌, ◌≤◌, Bool, true, false, ◌||◌, max}
use Rattle.behavior.specs.Values.{Value, Values, Truth, Word, Whole, NoMore, Then}
use Rattle.spirv_words.specs.Machine.{Shape, Shapes, Nothing, Truths, Words, Repeated, Unbounded, Fields, PointerTo, NoField, Field}
use Rattle.image_declarations.specs.Types.{end_of, span}

-- a value has as many parts, at any depth, as the shape says, and a bool or a word where the shape has one. No value is
-- void, without an end, or a pointer.
abbrev mutual
  pub IsLike : Value → Shape → Type 0
  IsLike (Truth b) Truths = Unit {0}
  IsLike (Word w) (Words signed) = Unit {0}
  IsLike (Whole vs) (Repeated n stride of) = AllLike vs n of
  IsLike (Whole vs) (Fields fs) = FieldsLike vs fs
  IsLike v s = ⊥

  pub AllLike : Values → ℕ → Shape → Type 0
  AllLike NoMore zero of = Unit {0}
  AllLike (Then v vs) (suc n) of = IsLike v of × AllLike vs n of
  AllLike vs n of = ⊥

  pub FieldsLike : Values → Shapes → Type 0
  FieldsLike NoMore NoField = Unit {0}
  FieldsLike (Then v vs) (Field offset of rest) = IsLike v of × FieldsLike vs rest
  FieldsLike vs fs = ⊥

-- ---- buffers

-- the end of the last scalar of a shape in a buffer, in bytes; 0 where it has none, and where it has no end
abbrev mutual
  pub reach : Shape → ℕ
  reach Nothing = 0
  reach Truths = 4
  reach (Words signed) = 4
  reach (Repeated n stride of) = span n stride (reach of)
  reach (Unbounded stride of) = 0
  reach (Fields fs) = reaches fs
  reach (PointerTo of) = 0

  pub reaches : Shapes → ℕ
  reaches NoField = 0
  reaches (Field offset of rest) = max (end_of offset (reach of)) (reaches rest)

-- it holds an array without length
abbrev mutual
  pub is_endless : Shape → Bool
  is_endless (Repeated n stride of) = is_endless of
  is_endless (Unbounded stride of) = true
  is_endless (Fields fs) = are_endless fs
  is_endless s = false

  pub are_endless : Shapes → Bool
  are_endless NoField = false
  are_endless (Field offset of rest) = is_endless of || are_endless rest

-- a stride is a multiple of 4 above 0, and not below the end of an element
pub record IsStride (stride : ℕ) (of : Shape) : Type 0 where
  pub whole_words : stride % 4 ≡ 0
  pub some : 0 < stride
  pub far : reach of ≤ stride

-- members and elements stand at whole words, and no element reaches into the next; an array without length stands first
abbrev mutual
  pub IsSpaced : Shape → Type 0
  IsSpaced Truths = Unit {0}
  IsSpaced (Words signed) = Unit {0}
  IsSpaced (Repeated n stride of) = IsStride stride of × IsSpaced of × (is_endless of ≡ false)
  IsSpaced (Unbounded stride of) = IsStride stride of × IsSpaced of × (is_endless of ≡ false)
  IsSpaced (Fields fs) = AreSpaced fs
  IsSpaced s = ⊥

  pub AreSpaced : Shapes → Type 0
  AreSpaced NoField = Unit {0}
  AreSpaced (Field offset of rest) = (offset % 4 ≡ 0) × IsSpaced of × (is_endless of ≡ true → offset ≡ 0) × AreSpaced rest
