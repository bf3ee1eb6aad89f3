-- Whether a declaration of locals begins, from what the parser without trees does.
use Rattle.std.proofs.Common.{Bool, true, false, ◌≡◌, ℕ, sym, ◌∙◌, ap}
use Rattle.slang_reading.specs.Reading.{Done, Stop}
use Rattle.slang_reading.specs.Cursor.{Cursor, moved, run}
use Rattle.slang_grammar.specs.Descent.{Limits}
use Rattle.ahead_reading.specs.Knowing.{Foresees}
use Rattle.statement_grammar.specs.LocalsAhead.{local_ahead}
use Rattle.statement_reading.specs.Told.{Told}
use Rattle.statement_reading.specs.Treeless.{local_taken}
use Rattle.statement_reading.proofs.Treeless.{same_local}

module _ (limits : Limits) (old mid new : Cursor) (at : ℕ) (start : at ≡ old.at) (back : new ≡ moved mid at) (kept : mid.tokens ≡ old.tokens) where
  same : run (local_ahead limits) old ≡ run (local_taken limits) old
  same = same_local old.tokens limits old.at old.seen

  seen_is : mid.seen ≡ new.seen
  seen_is = sym (ap (λ (c : Cursor). c.seen) back)

  at_is : new.at ≡ old.at
  at_is = ap (λ (c : Cursor). c.at) back ∙ start

  tokens_are : new.tokens ≡ old.tokens
  tokens_are = ap (λ (c : Cursor). c.tokens) back ∙ kept

  pub foretold : (b : Bool) → Told (local_taken limits) old b mid → Foresees (local_ahead limits) old b new
  foretold true t = ((tt, mid.at, same ∙ (t ∙ ap (λ n. Done tt mid.at n) seen_is)), at_is, tokens_are)
  foretold false t = (same ∙ (t ∙ ap Stop seen_is), at_is, tokens_are)
