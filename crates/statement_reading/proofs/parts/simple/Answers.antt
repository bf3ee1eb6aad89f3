use Rattle.std.proofs.Common.{false, ◌≡◌, ℕ, ◌+◌, max, drop, Result, Ok, Err, sym, ◌∙◌, ap}
use Rattle.slang_tokens.specs.declared.tokens.Word.TheVariants as w
use Rattle.slang_reading.specs.declared.faults.Fault.{Fault}
use Rattle.slang_reading.specs.declared.faults.Fault.TheVariants as f
use Rattle.slang_reading.specs.Reading.{first, chosen, next, foresee}
use Rattle.slang_reading.specs.Kinds.{sees_word}
use Rattle.slang_reading.specs.Cursor.{Cursor, looked, run, Runs}
use Rattle.slang_grammar.specs.Descent.{Limits}
use Rattle.type_reading.specs.Limited.{limits_of}
use Rattle.statement_grammar.specs.LocalsAhead.{local_ahead}
use Rattle.statement_grammar.specs.StatementsDescent.{Simple, either, simple_by, simple}
use Rattle.statement_reading.specs.Meant.{answer}
use Rattle.statement_reading.proofs.parts.simple.Goals as goal

module _ (limits : Limits) (d : ℕ) (old mid new : Cursor) (after : mid ≡ looked old) (is : false ≡ sees_word w.Const (first (drop old.at old.tokens))) where
  same : run (simple limits d) old ≡ run (foresee (local_ahead limits) (either limits d)) mid
  unfolding simple next
  same =
      ap (λ b. chosen (first (drop old.at old.tokens)) (simple_by limits d (first (drop old.at old.tokens)) b) old.tokens old.at (max old.seen (old.at + 1))) (sym is)
      ∙ ap (run (foresee (local_ahead limits) (either limits d))) (sym after)

  tokens_are : mid.tokens ≡ old.tokens
  tokens_are = ap (λ (c : Cursor). c.tokens) after

  without_const : (r : Result Simple Fault) → Runs (foresee (local_ahead limits) (either limits d)) mid r new → Runs (simple limits d) old r new
  without_const (Ok x) h = (same ∙ h.0, h.1 ∙ tokens_are)
  without_const (Err (f.Memory e)) h = (tt, h.1 ∙ tokens_are)
  without_const (Err f.Stopped) h = (same ∙ h.0, h.1 ∙ tokens_are)
  without_const (Err (f.Past code place)) h = (same ∙ h.0, h.1 ∙ tokens_are)

pub returns-then-not-sees_word : goal.returns-then-not-sees_word
returns-then-not-sees_word c =
    without_const (limits_of c.args.limits) c.args.depth c.args.tokens.now c.sees_word.new.self c.either.new.tokens c.if-not-sees_word.ensures.after c.if-not-sees_word.ensures.is (answer c.either.result) c.either.ensures
