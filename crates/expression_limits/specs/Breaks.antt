-- Limits that are broken, each at the token where it is.
use Rattle.std.specs.Prelude.{◌≡◌, ◌≤◌, ◌<◌, ◌⊎◌, All, ℕ, zero, suc, Bool, true, false, nat_le, nat_lt, List, [], ◌∷◌, ◌++◌, length, drop}
use Rattle.slang_names.specs.declared.places.Place.{Place}
use Rattle.slang_names.specs.declared.codes.ModuleCode.{ModuleCode}
use Rattle.slang_names.specs.declared.codes.ModuleCode.TheVariants as code
use Rattle.slang_tree.specs.declared.types.Identifier.{Identifier}
use Rattle.slang_reading.specs.Lexed.{Lexed}
use Rattle.slang_reading.specs.Reading.{first, place_of}
use Rattle.slang_grammar.specs.Descent.{Limits}

-- the code of a limit that is broken, the place of the token that breaks it, and the index of that token
pub record Break : Type 0 where
  pub code : ModuleCode
  pub place : Place
  pub at : ℕ

-- b is told rather than c: its token comes first, or it is the same and b is of the nesting where one of them is
abbrev pub GoesFirst : Break → Break → Type 0
GoesFirst b c = (b.at ≤ c.at) × (b.at ≡ c.at → (b.code ≡ code.TooNested) ⊎ (c.code ≡ code.TooLong))

-- b stands at a token from one index up to another, at its place, and goes first of all those
pub record IsFirst (ts : List Lexed) (from to : ℕ) (b : Break) (bs : List Break) : Type 0 where
  pub begins : from ≤ b.at
  pub ends : b.at < to
  pub place : b.place ≡ place_of (first (drop b.at ts))
  pub leads : All (GoesFirst b) bs

-- how many nodes may stand on a path inside of a node, where so many may stand on one with it
abbrev pub inside : ℕ → ℕ
inside zero = zero
inside (suc d) = d

module _ (ts : List Lexed) where
  abbrev pub broken : ModuleCode → ℕ → Break
  broken c at = record { code = c; place = place_of (first (drop at ts)); at = at }

  -- no break where that holds
  abbrev pub unless : Bool → ModuleCode → ℕ → List Break
  unless true c at = []
  unless false c at = broken c at ∷ []

  -- a node that arises at that token, where so many may still stand on a path
  abbrev pub arises : ℕ → ℕ → List Break
  arises at zero = broken code.TooNested at ∷ []
  arises at (suc d) = []

  -- a node that arises there over a part that is so many nodes high
  abbrev pub arises_over : ℕ → ℕ → ℕ → List Break
  arises_over height at d = unless (nat_lt height d) code.TooNested at

  module _ (limits : Limits) where
    -- an item that begins at that token behind so many others
    abbrev pub item_behind : ℕ → ℕ → List Break
    item_behind count at = unless (nat_lt count limits.items) code.TooLong at

    -- an item that begins with a node at that token, behind so many others, and breaks that itself
    abbrev pub item_with : ℕ → ℕ → ℕ → List Break → List Break
    item_with count at d bs = arises at d ++ (item_behind count at ++ bs)

    -- a name that stands there
    abbrev pub name_there : Identifier → ℕ → List Break
    name_there id at = unless (nat_le (length id.name) limits.names) code.TooLong at
