-- Where a tree passes a limit first.
use Rattle.std.specs.Prelude.{◌≡◌, ℕ, zero, suc, ◌<◌, ◌≤◌, ◌⊎◌, List, [], ◌∷◌, ◌++◌, length}
use Rattle.form_grammar.specs.Trees.{Tree, ◌▸◌, tagged, nested, many, ◌⨾◌, size, spelling, spelled_number}
use Rattle.form_grammar.specs.declared.codes.Stop.{Stop}
use Rattle.form_grammar.specs.Grammar.{module_form}
use Rattle.form_laws.specs.Forms.{IsForm, Fits}

-- Behind the front the tree passes a limit first: there a production begins that is nested too deep, whatever
-- its bytes are, or the last byte stands of a count over 65,536.
abbrev pub Over : Tree → ℕ → List ℕ → List ℕ → Type 0
Over (x ▸ y) depth front last = Over x depth front last ⊎ ((rest : List ℕ) × (front ≡ spelling x ++ rest) × Fits x depth × Over y depth rest last)
Over (tagged k x) depth front last = (rest : List ℕ) × (front ≡ k ∷ rest) × Over x depth rest last
Over (nested x) zero front last = (front ≡ []) × (last ≡ [])
Over (nested x) (suc depth) front last = Over x depth front last
Over (many xs) depth front last =
    ((b : ℕ) × (65536 < size xs) × (last ≡ b ∷ []) × (spelled_number (size xs) ≡ front ++ (b ∷ [])))
    ⊎ ((rest : List ℕ) × (front ≡ spelled_number (size xs) ++ rest) × (size xs ≤ 65536) × Over xs depth rest last)
Over (x ⨾ xs) depth front last = Over x depth front last ⊎ ((rest : List ℕ) × (front ≡ spelling x ++ rest) × Fits x depth × Over xs depth rest last)
Over _ depth front last = ⊥

-- Reading the bytes stops there at a limit: some module begins with the bytes before, passes the limit behind
-- them and none earlier, and goes on with the byte that stands there where that byte tells it.
pub record LimitAt (bytes : List ℕ) (s : Stop) : Type 0 where
  pub front : List ℕ
  pub b : ℕ
  pub back : List ℕ
  pub parts : bytes ≡ front ++ (b ∷ back)
  pub left : s.left ≡ length (b ∷ back)
  pub last : List ℕ
  pub tells : (last ≡ []) ⊎ (last ≡ b ∷ [])
  pub core : Tree
  pub more : List ℕ
  pub form : IsForm core module_form
  pub over : Over core 128 front last
  pub spelled : spelling core ≡ front ++ (last ++ more)
