-- How parts of a text are read: private contracts of the reader.
use Rattle.std.specs.Prelude.{◌≡◌, ℕ, ◌*◌, ◌<◌, ◌≤◌, ◌^◌, ◌==◌, if◌then◌else◌, Option, Some, None, List, [], ◌∷◌, ◌++◌, length}
use Rattle.std.specs.Fmt.{decimal}
use Rattle.run_buffers.specs.declared.fields.Separator.{Separator}
use Rattle.run_buffers.specs.declared.fields.Separator.TheVariants.{Space, LineFeed, BehindCount}
use Rattle.run_buffers.specs.declared.fields.Field.{Field}
use Rattle.run_buffers.specs.declared.fields.Step.{Step}
use Rattle.run_buffers.specs.declared.fields.Step.TheVariants.{Digit, End, Wrong}

-- Reading stops before so many bytes. Those before begin what a part can be and are not all of it, and no part begins
-- with them and the next one.
pub record Stops {A : Type 0} (spell : A → List ℕ) (Can : A → Type 0) (bytes : List ℕ) (left : ℕ) : Type 0 where
  pub front : List ℕ
  pub back : List ℕ
  pub parts : bytes ≡ front ++ back
  pub left_is : left ≡ length back
  pub value : A
  pub more : List ℕ
  pub can : Can value
  pub begins : spell value ≡ front ++ more
  pub proper : 0 < length more
  pub wrong : (b : ℕ) (rest : List ℕ) (other : A) (tail : List ℕ) → back ≡ b ∷ rest → Can other → spell other ≡ front ++ b ∷ tail → ⊥

-- some number of the range begins with these digits
pub record Begins (low high : ℕ) (front : List ℕ) : Type 0 where
  pub number : ℕ
  pub more : List ℕ
  pub low_le : low ≤ number
  pub le_high : number ≤ high
  pub is : decimal number ≡ front ++ more

-- some power of ten takes numbers from `first` to below `past` into the range
abbrev pub Reaches : ℕ → ℕ → ℕ → ℕ → Type 0
Reaches first past low high = (k : ℕ) × (first * 10 ^ k ≤ high) × (low < past * 10 ^ k)

-- the byte behind a number
abbrev pub behind : Separator → ℕ → ℕ
behind Space n = 32
behind LineFeed n = 10
behind BehindCount n = if n == 0 then 10 else 32

-- a number with the byte behind it
abbrev pub field : Separator → ℕ → List ℕ
field separator n = decimal n ++ behind separator n ∷ []

abbrev pub IsWithin : ℕ → ℕ → ℕ → Type 0
IsWithin low high n = (low ≤ n) × (n ≤ high)

-- the digits so far
abbrev pub shown : Option ℕ → List ℕ
shown None = []
shown (Some v) = decimal v

-- what one more byte makes of the digits so far
abbrev pub IsStep : Field → Option ℕ → ℕ → Step → Type 0
IsStep f value b (Digit v) = (v ≤ f.high) × (decimal v ≡ shown value ++ b ∷ []) × Begins f.low f.high (decimal v)
IsStep f value b (End n) = IsWithin f.low f.high n × (field f.separator n ≡ shown value ++ b ∷ [])
IsStep f value b Wrong = (other : ℕ) (tail : List ℕ) → IsWithin f.low f.high other → field f.separator other ≡ shown value ++ b ∷ tail → ⊥
