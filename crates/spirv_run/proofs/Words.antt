-- Words are numbers of 32 bits.
use Rattle.std.proofs.Common.{ℕ, suc, List, [], ◌∷◌, get_or, Fits, w32, arith}
use Rattle.std.specs.List.{AllByRecursion}
use Rattle.run_buffers.specs.Texts.{IsWord}

pub all_words : (ws : List ℕ) → ((i : ℕ) → Fits w32 (get_or ws i 0)) → AllByRecursion IsWord ws
all_words [] h = tt
all_words (w ∷ ws) h = (let f : Fits w32 w = h 0 in omega arith, all_words ws (λ i. h (suc i)))
