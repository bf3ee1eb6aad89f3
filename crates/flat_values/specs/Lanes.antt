-- Operations on each word of a list.
use Rattle.std.specs.Prelude.{◌≡◌, ℕ, ◌^◌, ◌<◌, List, [], ◌∷◌, Option, Some, None}
use Rattle.behavior.specs.Values.{Way, Found, Outside}
use Rattle.spirv_words.specs.Machine.{Shape, Words, Repeated, if_some}
use Rattle.flat_values.specs.Flat.{flat, IsOf}

-- the results of all words; none if there is none for one of them
abbrev pub each_of : (ℕ → Option ℕ) → List ℕ → Option (List ℕ)
each_of f [] = Some []
each_of f (w ∷ ws) = if_some (f w) None (λ x. if_some (each_of f ws) None (λ xs. Some (x ∷ xs)))

-- the same for the words of two lists, one by one
abbrev pub both_of : (ℕ → ℕ → Option ℕ) → List ℕ → List ℕ → Option (List ℕ)
both_of f [] vs = Some []
both_of f (w ∷ ws) [] = Some []
both_of f (w ∷ ws) (v ∷ vs) = if_some (f w v) None (λ x. if_some (both_of f ws vs) None (λ xs. Some (x ∷ xs)))

-- words and vectors of words, which operators take
abbrev pub IsOfWords : Shape → Type 0
IsOfWords (Words signed) = Unit {0}
IsOfWords (Repeated n stride of) = IsOfWords of
IsOfWords s = ⊥

-- both are words, or vectors of as many words: a shift's amount may be of the other kind of word than what is shifted
abbrev pub AreAlike : Shape → Shape → Type 0
AreAlike (Words a) (Words b) = Unit {0}
AreAlike (Repeated n stride of) (Repeated n' stride' of') = (n ≡ n') × AreAlike of of'
AreAlike s t = ⊥

-- an operation on words gives words
abbrev pub GivesWords : Option ℕ → Type 0
GivesWords None = Unit {0}
GivesWords (Some w) = w < 2 ^ 32

-- a value of the shape with these words; or it is undefined, and there are none
abbrev pub IsOutcome : Way → Option (List ℕ) → Shape → Type 0
IsOutcome (Found v) (Some ws) s = IsOf v s × (flat v ≡ ws)
IsOutcome Outside None s = Unit {0}
IsOutcome way o s = ⊥
