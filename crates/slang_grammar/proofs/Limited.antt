-- Limits that are not passed, or that may be: E holds where a limit may be passed.
use Rattle.std.proofs.Common.{Bool, true, false, ◌≡◌, ℕ, ◌<◌, ◌≤◌, length, ◌||◌, ◌⊎◌, inl, inr, arith}
use Rattle.std.specs.Prelude.{nat_le, nat_lt}
use Rattle.std.proofs.lemmas.Bool.Decides.{nat_tests}
use Rattle.slang_reading.specs.Lexed.{Lexed}
use Rattle.slang_grammar.specs.Descent.{Limits, fits_in, is_short}

free_false : (a b : Bool) → (a || b) ≡ false → b ≡ false
free_false true b e = cc
free_false false b e = e

pub in_limit : (limits : Limits) (count most : ℕ) → count < most → fits_in limits count most ≡ false → ⊥
in_limit limits count most h e = let f = free_false limits.free (nat_lt count most) e in grind (arith, nat_tests, f, h)

pub short_limit : (limits : Limits) (t : Lexed) → length t.bytes ≤ limits.names → is_short limits t ≡ false → ⊥
short_limit limits t h e = let f = free_false limits.free (nat_le (length t.bytes) limits.names) e in grind (arith, nat_tests, f, h)

pub room_limit : (d : ℕ) → 0 < d → nat_lt 0 d ≡ false → ⊥
room_limit d h e = grind (arith, nat_tests, e, h)

-- what is within the limits runs out of no turns
pub record Turns (limits : Limits) (d : ℕ) : Type 0 where
  pub nodes : d ≤ limits.turns
  pub items : limits.items ≤ limits.turns

module _ (E : Type 0) (limits : Limits) where
  pub excuse_in : (count most : ℕ) → (count < most) ⊎ E → fits_in limits count most ≡ false → E
  excuse_in count most a e = elim a [ inl h ↦ absurd (in_limit limits count most h e) | inr x ↦ x ]

  pub excuse_short : (t : Lexed) → (length t.bytes ≤ limits.names) ⊎ E → is_short limits t ≡ false → E
  excuse_short t a e = elim a [ inl h ↦ absurd (short_limit limits t h e) | inr x ↦ x ]

  pub excuse_room : (d : ℕ) → (0 < d) ⊎ E → nat_lt 0 d ≡ false → E
  excuse_room d a e = elim a [ inl h ↦ absurd (room_limit d h e) | inr x ↦ x ]
