-- How lines are read: private contracts of the reader.
use Rattle.std.specs.Prelude.{◌≡◌, ℕ, ◌+◌, ◌-◌, ◌==◌, nat_lt, if◌then◌else◌, Option, Some, None, List, [], ◌∷◌, ◌++◌, length, Result, Ok, Err}
use Rattle.std.specs.List.{AllByRecursion}
use Rattle.run_buffers.specs.declared.buffer.Buffer.{Buffer}
use Rattle.run_buffers.specs.declared.fields.Separator.{Separator}
use Rattle.run_buffers.specs.declared.fields.Separator.TheVariants.{Space, LineFeed, BehindCount}
use Rattle.run_buffers.specs.declared.lines.Room.{Room}
use Rattle.run_buffers.specs.declared.lines.Header.{Header}
use Rattle.run_buffers.specs.declared.lines.Stop.{Stop}
use Rattle.run_buffers.specs.declared.lines.Stop.TheVariants.{At, Memory}
use Rattle.run_buffers.specs.Texts.{IsWord, text_of}
use Rattle.run_buffers.specs.Parts.{field, IsWithin}

-- what holds of the number of bytes that are left, where memory was there
abbrev pub OfStop : Stop → (ℕ → Type 0) → Type 0
OfStop (At left) P = P left
OfStop (Memory e) P = Unit {0}

abbrev pub IfStopped : {A : Type 0} → Result A Stop → (ℕ → Type 0) → Type 0
IfStopped (Ok a) P = Unit {0}
IfStopped (Err stop) P = OfStop stop P

-- the numbers before the words
abbrev pub header : Header → List ℕ
header h = field Space h.set ++ (field Space h.binding ++ field BehindCount h.count)

-- what may still come: a set and a binding from these on, and at most so many words
pub record Ahead : Type 0 where
  pub set : ℕ
  pub binding : ℕ
  pub words : ℕ

abbrev pub ahead_of : Room → Ahead
ahead_of room = record { set = room.set; binding = room.binding; words = room.words }

-- the least binding that a line with this set may have
abbrev pub lowest_binding : Ahead → ℕ → ℕ
lowest_binding ahead set = if set == ahead.set then ahead.binding else 0

abbrev pub MayHead : Ahead → Header → Type 0
MayHead ahead h = IsWithin ahead.set 4294967295 h.set × IsWithin (lowest_binding ahead h.set) 4294967295 h.binding × IsWithin 0 ahead.words h.count

abbrev pub header_of : Buffer → Header
header_of b = record { set = b.set; binding = b.binding; count = length b.words }

-- so many words
abbrev pub AreWords : ℕ → List ℕ → Type 0
AreWords count ws = (length ws ≡ count) × AllByRecursion IsWord ws

-- the buffer may be that of the next line
abbrev pub MayFollow : Ahead → Buffer → Type 0
MayFollow ahead b = MayHead ahead (header_of b) × AllByRecursion IsWord b.words

-- what may come behind a buffer
abbrev pub ahead_behind : Ahead → Buffer → Option Ahead
ahead_behind ahead b =
    if nat_lt b.binding 4294967295 then Some (record { set = b.set; binding = b.binding + 1; words = ahead.words - length b.words })
    else (if nat_lt b.set 4294967295 then Some (record { set = b.set + 1; binding = 0; words = ahead.words - length b.words }) else None)

-- the buffers may come, one behind the other
abbrev pub FitsIn : Option Ahead → List Buffer → Type 0
FitsIn ahead [] = Unit {0}
FitsIn None (b ∷ bs) = ⊥
FitsIn (Some ahead) (b ∷ bs) = MayFollow ahead b × FitsIn (ahead_behind ahead b) bs

-- Reading stops before so many bytes. Some text goes on with those before, none with them and the next one, and where
-- none is left they are no text.
pub record Breaks (Can : List Buffer → Type 0) (bytes : List ℕ) (left : ℕ) : Type 0 where
  pub front : List ℕ
  pub back : List ℕ
  pub parts : bytes ≡ front ++ back
  pub left_is : left ≡ length back
  pub value : List Buffer
  pub more : List ℕ
  pub can : Can value
  pub begins : text_of value ≡ front ++ more
  pub wrong : (b : ℕ) (rest : List ℕ) (other : List Buffer) (tail : List ℕ) → back ≡ b ∷ rest → Can other → text_of other ≡ front ++ b ∷ tail → ⊥
  pub unfinished : (other : List Buffer) → back ≡ [] → Can other → text_of other ≡ front → ⊥

-- what stands behind a word that so many words follow
abbrev pub separator_before : ℕ → Separator
separator_before more = if more == 0 then LineFeed else Space

-- the byte behind a number that so many words follow
abbrev pub byte_before : ℕ → ℕ
byte_before more = if more == 0 then 10 else 32
