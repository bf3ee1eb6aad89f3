-- Which bytes are the text of which buffers, and where bytes that are no text are refused.
use Rattle.std.specs.Prelude.{◌≡◌, ℕ, ◌+◌, ◌<◌, ◌≤◌, ◌^◌, ◌⊎◌, ⊤, List, [], ◌∷◌, ◌++◌, length}
use Rattle.std.specs.List.{AllByRecursion}
use Rattle.std.specs.Fmt.{decimal}
use Rattle.run_buffers.specs.declared.buffer.Buffer.{Buffer}

-- a space, or a line feed where nothing is left
abbrev pub separator : List ℕ → ℕ
separator [] = 10
separator (n ∷ ns) = 32

-- numbers in decimal, one space between two, and a line feed at the end
abbrev pub line : List ℕ → List ℕ
line [] = []
line (n ∷ ns) = decimal n ++ separator ns ∷ line ns

-- the set, the binding, how many words, and the words
abbrev pub line_of : Buffer → List ℕ
line_of b = line (b.set ∷ b.binding ∷ length b.words ∷ b.words)

-- the text of buffers
abbrev pub text_of : List Buffer → List ℕ
text_of [] = []
text_of (b ∷ bs) = line_of b ++ text_of bs

abbrev pub IsWord : ℕ → Type 0
IsWord n = n < 2 ^ 32

-- every number has 32 bits
abbrev pub IsNarrow : Buffer → Type 0
IsNarrow b = IsWord b.set × IsWord b.binding × AllByRecursion IsWord b.words

-- by set, and then by binding
abbrev pub IsBefore : Buffer → Buffer → Type 0
IsBefore a b = (a.set < b.set) ⊎ ((a.set ≡ b.set) × (a.binding < b.binding))

-- each stands before the next
abbrev pub IsAscending : List Buffer → Type 0
IsAscending [] = ⊤
IsAscending (a ∷ []) = ⊤
IsAscending (a ∷ b ∷ bs) = IsBefore a b × IsAscending (b ∷ bs)

abbrev pub words_in : List Buffer → ℕ
words_in [] = 0
words_in (b ∷ bs) = length b.words + words_in bs

-- which buffers have a text
pub record Fits (bs : List Buffer) : Type 0 where
  pub narrow : AllByRecursion IsNarrow bs
  pub ascending : IsAscending bs
  pub few_words : words_in bs ≤ 1048576

-- the bytes are the text of the buffers, and no longer than a text may be
pub record IsTextOf (bytes : List ℕ) (bs : List Buffer) : Type 0 where
  pub fits : Fits bs
  pub is : bytes ≡ text_of bs
  pub short : length bytes ≤ 16777216

-- some text begins with these bytes, of which there are no more than a text may have
pub record GoesOn (front : List ℕ) : Type 0 where
  pub buffers : List Buffer
  pub more : List ℕ
  pub fits : Fits buffers
  pub is : text_of buffers ≡ front ++ more
  pub short : length front ≤ 16777216

-- The bytes are refused at that place: some text goes on with those before and none with the one that stands there, or
-- the bytes end there, and some text goes on with them but they are none.
pub data RefusedAt (bytes : List ℕ) (place : ℕ) : Type 0 where
  WrongByte : (front : List ℕ) (b : ℕ) (back : List ℕ) → bytes ≡ front ++ b ∷ back → place ≡ length front → GoesOn front → (GoesOn (front ++ b ∷ []) → ⊥) → RefusedAt bytes place
  EndsEarly : GoesOn bytes → ((bs : List Buffer) → IsTextOf bytes bs → ⊥) → place ≡ length bytes → RefusedAt bytes place
