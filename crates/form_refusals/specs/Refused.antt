-- Where bytes are refused as a stored module, and by which code.
use Rattle.std.specs.Prelude.{◌≡◌, ℕ, ◌+◌, ◌<◌, ◌≤◌, ◌⊎◌, List, [], ◌∷◌, ◌++◌, length}
use Rattle.slang_names.specs.declared.form_codes.FormCode.{FormCode}
use Rattle.slang_names.specs.declared.form_codes.FormCode.TheVariants.{Short, BadMagic, BadVersion, NotCanonical, Trailing, NotTyped, FormLimit, WrongName}
use Rattle.form_grammar.specs.declared.codes.Stop.{Stop}
use Rattle.form_grammar.specs.Trees.{Tree, spelling}
use Rattle.form_grammar.specs.Grammar.{module_form}
use Rattle.form_laws.specs.Forms.{IsForm, Fits, IsStored, IsCut, GoesOn}
use Rattle.form_laws.specs.Limits.{LimitAt}

-- the most bytes of a stored module
abbrev pub most_bytes : ℕ
most_bytes = 16777216

-- the bytes are the spelling of a module within the limits
abbrev pub Spells : Tree → List ℕ → Type 0
Spells x bytes = IsForm x module_form × Fits x 128 × (bytes ≡ spelling x) × (length bytes ≤ most_bytes)

-- A limit is passed at that byte: of bytes, of a list's items, or of nesting.
abbrev pub PassesAt : List ℕ → ℕ → Type 0
PassesAt bytes place = (place < length bytes) × ((place ≡ most_bytes) ⊎ ((s : Stop) × (place + s.left ≡ length bytes) × LimitAt bytes s))

-- the part of a module whose byte behind the front has the code
abbrev pub IsBlamed : FormCode → List ℕ → Type 0
IsBlamed BadMagic front = length front < 4
IsBlamed BadVersion front = length front ≡ 4
IsBlamed NotCanonical front = (4 < length front) × (IsStored front → ⊥)
IsBlamed Trailing front = IsStored front
IsBlamed Short front = ⊥
IsBlamed NotTyped front = ⊥
IsBlamed FormLimit front = ⊥
IsBlamed WrongName front = ⊥

-- with the byte behind the front no stored module begins so, and it has the code
abbrev pub IsWrong : FormCode → List ℕ → List ℕ → Type 0
IsWrong code front back = (b : ℕ) × (rest : List ℕ) × (back ≡ b ∷ rest) × (GoesOn (front ++ b ∷ []) → ⊥) × IsBlamed code front

-- The bytes end too early; or a limit is passed at the byte, which goes first; or the byte is wrong.
abbrev pub Is : FormCode → List ℕ → List ℕ → Type 0
Is Short front back = (back ≡ []) × IsCut front
Is FormLimit front back = PassesAt (front ++ back) (length front)
Is code front back = (PassesAt (front ++ back) (length front) → ⊥) × IsWrong code front back

-- Some stored module begins with the bytes before the place, none of them passes a limit, and there the code stands.
pub record RefusedAt (bytes : List ℕ) (place : ℕ) (code : FormCode) : Type 0 where
  pub front : List ℕ
  pub back : List ℕ
  pub parts : bytes ≡ front ++ back
  pub at : length front ≡ place
  pub before : GoesOn front
  pub within : (k : ℕ) → k < place → PassesAt bytes k → ⊥
  pub here : Is code front back
