-- Which trees are of a form, and which bytes are stored modules.
use Rattle.std.specs.Prelude.{◌≡◌, ℕ, zero, suc, ◌<◌, ◌≤◌, ◌^◌, ⊤, ◌++◌, List, length, IsSomeAnd}
use Rattle.form_grammar.specs.Trees.{Tree, nothing, byte, number, text, ◌▸◌, tagged, nested, many, end, ◌⨾◌, size, spelling}
use Rattle.form_grammar.specs.Grammar.{Form, unit, exactly, range, num, name, ◌▹◌, list, part, chosen, grammar, module_form}

abbrev mutual
  -- the tree is of the form
  pub IsForm : Tree → Form → Type 0
  IsForm nothing unit = ⊤
  IsForm (byte b) (exactly code n) = b ≡ n
  IsForm (byte b) (range low high) = (low ≤ b) × (b ≤ high)
  IsForm (number n) num = n < 2 ^ 32
  IsForm (text bytes) name = (0 < length bytes) × (length bytes < 256)
  IsForm (x ▸ y) (f ▹ g) = IsForm x f × IsForm y g
  IsForm (tagged k x) f = IsSomeAnd (chosen f k) (λ g. IsForm x g)
  IsForm (many xs) (list f) = (size xs < 2 ^ 32) × AreForm xs f
  IsForm (nested x) (part c) = IsForm x (grammar c)
  IsForm _ _ = ⊥

  -- each tree of the chain is of the form
  pub AreForm : Tree → Form → Type 0
  AreForm end f = ⊤
  AreForm (x ⨾ xs) f = IsForm x f × AreForm xs f
  AreForm _ _ = ⊥

-- the bytes are a whole stored module
abbrev pub IsStored : List ℕ → Type 0
IsStored bytes = (x : Tree) × IsForm x module_form × (bytes ≡ spelling x)

-- these bytes are a stored module but for its end
abbrev pub IsCut : List ℕ → Type 0
IsCut front = (more : List ℕ) × (0 < length more) × IsStored (front ++ more)

-- some stored module begins with these bytes
abbrev pub GoesOn : List ℕ → Type 0
GoesOn front = (more : List ℕ) × IsStored (front ++ more)

-- no list has more than 65,536 items, and at most so many productions stand in one another
abbrev pub Fits : Tree → ℕ → Type 0
Fits (x ▸ y) depth = Fits x depth × Fits y depth
Fits (tagged k x) depth = Fits x depth
Fits (nested x) zero = ⊥
Fits (nested x) (suc depth) = Fits x depth
Fits (many xs) depth = (size xs ≤ 65536) × Fits xs depth
Fits (x ⨾ xs) depth = Fits x depth × Fits xs depth
Fits _ depth = ⊤
