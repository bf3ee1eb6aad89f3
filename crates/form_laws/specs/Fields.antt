-- What one number at a place is read as.
use Rattle.std.specs.Prelude.{◌≡◌, ℕ, ◌<◌, ◌+◌, ◌^◌, List, [], ◌∷◌, ◌++◌, length, drop, Result, Ok, Err}
use Rattle.form_grammar.specs.declared.codes.FieldFault.{FieldFault}
use Rattle.form_grammar.specs.declared.codes.FieldFault.TheVariants as fault
use Rattle.form_grammar.specs.Trees.{spelled_number}

-- some number's spelling begins with these bytes
abbrev pub NumberGoesOn : List ℕ → Type 0
NumberGoesOn l = (n : ℕ) × (more : List ℕ) × (n < 2 ^ 32) × (spelled_number n ≡ l ++ more)

-- these bytes are a number's spelling but for its end
abbrev pub NumberIsCut : List ℕ → Type 0
NumberIsCut l = (n : ℕ) × (more : List ℕ) × (n < 2 ^ 32) × (0 < length more) × (spelled_number n ≡ l ++ more)

-- The number is spelled there up to that place; or the bytes end within a spelling; or the place is of the
-- first byte with which no spelling goes on.
abbrev pub NumAt : List ℕ → ℕ → Result (ℕ × ℕ) FieldFault → Type 0
NumAt bytes at (Ok r) = (rest : List ℕ) × (drop at bytes ≡ spelled_number r.0 ++ rest) × (r.1 + length rest ≡ length bytes) × (r.0 < 2 ^ 32)
NumAt bytes at (Err fault.Short) = NumberIsCut (drop at bytes)
NumAt bytes at (Err (fault.Wrong place)) =
    (front : List ℕ) × (b : ℕ) × (back : List ℕ) × (drop at bytes ≡ front ++ (b ∷ back)) × (place ≡ at + length front) × NumberGoesOn front × (NumberGoesOn (front ++ (b ∷ [])) → ⊥)
