-- What it means that a byte is the first after which no stored module goes on.
use Rattle.std.specs.Prelude.{◌≡◌, ℕ, ◌<◌, ⊤, List, [], ◌∷◌, ◌++◌, length}
use Rattle.slang_names.specs.declared.form_codes.FormCode.{FormCode}
use Rattle.slang_names.specs.declared.form_codes.FormCode.TheVariants.{Short, BadMagic, BadVersion, NotCanonical, Trailing, NotTyped, FormLimit, WrongName}
use Rattle.form_grammar.specs.declared.codes.Stop.{Stop}
use Rattle.form_laws.specs.Forms.{GoesOn, IsCut}

abbrev pub IsBytes : List ℕ → Type 0
IsBytes [] = ⊤
IsBytes (b ∷ bytes) = (b < 256) × IsBytes bytes

-- a code that blames the byte, and neither the end nor a limit
abbrev pub IsWrong : FormCode → Type 0
IsWrong Short = ⊥
IsWrong FormLimit = ⊥
IsWrong BadMagic = ⊤
IsWrong BadVersion = ⊤
IsWrong NotCanonical = ⊤
IsWrong Trailing = ⊤
IsWrong NotTyped = ⊤
IsWrong WrongName = ⊤

-- Reading the bytes stops there. Those before are a stored module but for its end; where the code says that
-- they end too early, they are all; and with a byte that is blamed no stored module begins so.
pub record StopsAt (bytes : List ℕ) (s : Stop) : Type 0 where
  pub front : List ℕ
  pub back : List ℕ
  pub parts : bytes ≡ front ++ back
  pub left : s.left ≡ length back
  pub before : IsCut front
  pub ends : s.code ≡ Short → back ≡ []
  pub here : IsWrong s.code → (b : ℕ) × (rest : List ℕ) × (back ≡ b ∷ rest) × (GoesOn (front ++ b ∷ []) → ⊥)
