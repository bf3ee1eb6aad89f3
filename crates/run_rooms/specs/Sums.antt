-- Words that stand one behind the other.
use Rattle.std.specs.Prelude.{ℕ, zero, suc, ◌+◌, cond, nat_eq}

-- how many words a function has before an instruction, where each instruction is in a function and has so many
abbrev pub before : (ℕ → ℕ) → (ℕ → ℕ) → ℕ → ℕ → ℕ
before home words function zero = 0
before home words function (suc k) = before home words function k + cond (nat_eq (home k) function) (words k) 0
