-- How many words the types of an image take, as far as 32 bits tell.
use Rattle.std.specs.Prelude.{◌≡◌, ℕ, ◌+◌, ◌^◌, ◌<◌, min, cond, nat_eq, nat_lt, List, [], ◌∷◌, Option, Some, None}
use Rattle.std.specs.Option.{option_map}
use Rattle.std.specs.HashMap.{get}
use Rattle.spirv_words.specs.Machine.{Shape, Plain, Globals, Meaning, IsType, IsValue, Unknown, zero_of, number_at, if_some}
use Rattle.flat_values.specs.Flat.{width}
use Rattle.run_rooms.specs.declared.widths.TypeWords.{TypeWords}
use Rattle.run_rooms.specs.declared.widths.Declared.{Declared}
use Rattle.run_rooms.specs.declared.widths.Declared.TheVariants.{AType, AValue, NoMeaning}
use Rattle.run_rooms.specs.declared.widths.Widths.{Widths}

-- what is told of a type: more words than 2^32 are told as so many
abbrev pub measure : Shape → TypeWords
measure s = record { words = min (width s) (2 ^ 32); null = number_at (Some (Plain (zero_of s))) }

-- the same of a declaration
abbrev pub measured : Meaning → Declared
measured (IsType s) = AType (measure s)
measured (IsValue o) = AValue (number_at (Some o))
measured Unknown = NoMeaning

-- the words of members, up to the first whose type is not known
abbrev pub members_words : (ℕ → Option TypeWords) → List ℕ → ℕ
members_words known [] = 0
members_words known (t ∷ ts) = if_some (known t) 0 (λ m. m.words + members_words known ts)

abbrev pub number_in : Option (Option ℕ) → Option ℕ
number_in None = None
number_in (Some n) = n

-- what is known of types and numbers is what declarations make of them
pub record Measures (w : Widths) (g : Globals) : Type 0 where
  pub types : (t : ℕ) → get nat_eq w.types t ≡ option_map measure (g.shapes t)
  pub numbers : (x : ℕ) → number_in (get nat_eq w.numbers x) ≡ number_at (g.ids x)

-- 32 bits tell the words of all types
abbrev pub AreNarrow : Widths → Type 0
AreNarrow w = (t : ℕ) (m : TypeWords) → get nat_eq w.types t ≡ Some m → m.words < 2 ^ 32

-- the words of each type are told as they are
pub record Tells (w : Widths) (g : Globals) : Type 0 where
  pub measures : Measures w g
  pub narrow : AreNarrow w

-- a number of 32 bits
abbrev pub in_word : ℕ → Option ℕ
in_word n = cond (nat_lt n (2 ^ 32)) (Some n) None
