-- Which words are no command.
use Rattle.std.proofs.Common.{◌≡◌, ◌≢◌, ℕ, List, [], ◌∷◌, length, map, None, refl}
use Rattle.slang_cli.specs.Commands.{compile_words}

-- a compile has three words behind its verb
pub other_count : {A : Type 0} (f : A → List ℕ) (words : List A) → length words ≢ 3 → None ≡ compile_words (map f words)
other_count f [] ne = refl
other_count f (a ∷ []) ne = refl
other_count f (a ∷ b ∷ []) ne = refl
other_count f (a ∷ b ∷ c ∷ []) ne = absurd (ne refl)
other_count f (a ∷ b ∷ c ∷ d ∷ more) ne = refl
