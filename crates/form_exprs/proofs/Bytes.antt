-- Bytes, each by its tree.
use Rattle.std.proofs.Common.{◌≡◌, ℕ, List, [], ◌∷◌, map, refl, ap}
use Rattle.form_grammar.specs.Trees.{byte, chain, spelling}

pub spelled_bytes : (bytes : List ℕ) → spelling (chain (map (λ n. byte n) bytes)) ≡ bytes
spelled_bytes [] = refl
spelled_bytes (b ∷ bytes) = ap (λ rest. b ∷ rest) (spelled_bytes bytes)
