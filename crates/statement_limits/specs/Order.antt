-- Of limits and rules on attributes that are broken, which goes first.
use Rattle.std.specs.Prelude.{◌≡◌, ◌≤◌, ◌<◌, ◌⊎◌, All, ℕ, List, drop}
use Rattle.slang_names.specs.declared.codes.ModuleCode.TheVariants as code
use Rattle.slang_reading.specs.Lexed.{Lexed}
use Rattle.slang_reading.specs.Reading.{first, place_of}
use Rattle.expression_limits.specs.Breaks.{Break}

-- b is told rather than c: it is known at an earlier token, or at the same one, and then it is no list or name that is too
-- long where c is a node that is too deep
abbrev pub GoesFirst : Break → Break → Type 0
GoesFirst b c = (b.at ≤ c.at) × (b.at ≡ c.at → c.code ≡ code.TooNested → b.code ≡ code.TooLong → ⊥)

-- b is a rule on an attribute, or a limit that is broken at the place of its token
abbrev pub LiesThere : List Lexed → Break → Type 0
LiesThere ts b = (b.code ≡ code.Unsupported) ⊎ (((b.code ≡ code.TooNested) ⊎ (b.code ≡ code.TooLong)) × (b.place ≡ place_of (first (drop b.at ts))))

-- b is known at a token from one index up to another, and goes first of all those
pub record IsKnownFirst (ts : List Lexed) (from to : ℕ) (b : Break) (bs : List Break) : Type 0 where
  pub begins : from ≤ b.at
  pub ends : b.at < to
  pub lies : LiesThere ts b
  pub leads : All (GoesFirst b) bs
