-- What a stored form spells: a tree of bytes, numbers, texts and lists, and its one spelling.
use Rattle.std.specs.Prelude.{ℕ, zero, suc, ◌+◌, ◌/◌, ◌%◌, List, [], ◌∷◌, ◌++◌, length, map, nat_lt, if◌then◌else◌}

pub data Tree : Type 0 where
  nothing : Tree
  byte : ℕ → Tree
  number : ℕ → Tree
  text : List ℕ → Tree
  ◌▸◌ : Tree → Tree → Tree
  tagged : ℕ → Tree → Tree
  nested : Tree → Tree
  many : Tree → Tree
  end : Tree
  ◌⨾◌ : Tree → Tree → Tree

infixr 20 ◌▸◌
infixr 30 ◌⨾◌
-- at most so many digits of a number by 128, the lowest first; all but the last have 128 added
abbrev pub digits : ℕ → ℕ → List ℕ
digits zero n = []
digits (suc most) n = if nat_lt n 128 then n ∷ [] else (n % 128 + 128) ∷ digits most (n / 128)

-- a number below 2 ^ 64, which has at most ten digits
abbrev pub spelled_number : ℕ → List ℕ
spelled_number n = digits 10 n

-- these trees before that chain
abbrev pub onto : List Tree → Tree → Tree
onto [] t = t
onto (x ∷ xs) t = x ⨾ onto xs t

abbrev pub chain : List Tree → Tree
chain xs = onto xs end

-- a list, by what its items spell
abbrev pub list_of : {A : Type 0} → (A → Tree) → List A → Tree
list_of view xs = many (chain (map view xs))

-- how many items stand in a chain
abbrev pub size : Tree → ℕ
size (x ⨾ xs) = suc (size xs)
size _ = 0

-- the bytes of a tree
abbrev pub spelling : Tree → List ℕ
spelling nothing = []
spelling (byte b) = b ∷ []
spelling (number n) = spelled_number n
spelling (text bytes) = spelled_number (length bytes) ++ bytes
spelling (x ▸ y) = spelling x ++ spelling y
spelling (tagged tag x) = tag ∷ spelling x
spelling (nested x) = spelling x
spelling (many xs) = spelled_number (size xs) ++ spelling xs
spelling end = []
spelling (x ⨾ xs) = spelling x ++ spelling xs
