-- What actions leave in the words; nothing where a range is not inside of them.
use Rattle.std.specs.Prelude.{◌≡◌, ℕ, ◌+◌, Bool, true, false, ◌&&◌, ◌||◌, cond, nat_lt, nat_le, List, [], ◌∷◌, length, map, Option, Some, None, slice_index}
use Rattle.spirv_words.specs.Machine.{if_some}
use Rattle.flat_values.specs.declared.operators.Unary.{Unary}
use Rattle.flat_values.specs.Operators.{unary_of}
use Rattle.flat_values.specs.Ranges.{range_at, written, copied, cleared}
use Rattle.run_actions.specs.declared.actions.Move.{Move}

-- the word at a place, if there is one
abbrev pub with_word : {A : Type 0} → List ℕ → ℕ → A → (ℕ → A) → A
with_word ws i none go = cond (nat_lt i (length ws)) (go (slice_index ws i)) none

-- a range is inside
abbrev pub has : List ℕ → ℕ → ℕ → Bool
has ws place count = nat_le (place + count) (length ws)

abbrev pub put_at : List ℕ → ℕ → ℕ → Option (List ℕ)
put_at ws to word = cond (nat_lt to (length ws)) (Some (written ws to (word ∷ []))) None

-- two words, one behind the other
abbrev pub put_both_at : List ℕ → ℕ → ℕ → ℕ → Option (List ℕ)
put_both_at ws to first second = cond (nat_lt (to + 1) (length ws)) (Some (written ws to (first ∷ second ∷ []))) None

abbrev pub clear_at : List ℕ → ℕ → ℕ → Option (List ℕ)
clear_at ws place count = cond (has ws place count) (Some (cleared ws place count)) None

abbrev pub copy_at : List ℕ → ℕ → ℕ → ℕ → Option (List ℕ)
copy_at ws from to count = cond (has ws from count && has ws to count) (Some (copied ws from to count)) None

-- copies, one after another
abbrev pub gather_at : List Move → List ℕ → Option (List ℕ)
gather_at [] ws = Some ws
gather_at (m ∷ ms) ws = if_some (copy_at ws m.from m.to m.count) None (λ vs. gather_at ms vs)

-- no word of a range is overwritten before it is read
abbrev pub is_apart : ℕ → ℕ → ℕ → Bool
is_apart from to count = nat_le to from || nat_le (from + count) to

abbrev pub one_at : Unary → List ℕ → ℕ → ℕ → ℕ → Option (List ℕ)
one_at op ws from to count =
    cond (has ws from count && (has ws to count && is_apart from to count)) (Some (written ws to (map (unary_of op) (range_at ws from count)))) None

-- whether it was done, and what it left
abbrev pub Did : Option (List ℕ) → Bool → List ℕ → Type 0
Did None done now = done ≡ false
Did (Some ws) done now = (done ≡ true) × (now ≡ ws)
