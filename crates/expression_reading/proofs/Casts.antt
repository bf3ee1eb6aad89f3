-- What stands behind an opening parenthesis before an operand.
use Rattle.std.proofs.Common.{◌≡◌, ℕ, ◌+◌, max, List, drop, Option, Some, None, Result, Ok, Err, option_map, sym, ◌∙◌, ap}
use Rattle.slang_tokens.specs.declared.tokens.Kind.{Kind}
use Rattle.slang_tokens.specs.declared.tokens.Kind.TheVariants as k
use Rattle.slang_tokens.specs.declared.tokens.Mark.TheVariants as m
use Rattle.slang_tokens.specs.declared.tokens.Token.{Token}
use Rattle.slang_names.specs.declared.places.Place.{Place}
use Rattle.slang_reading.specs.declared.faults.Fault.{Fault}
use Rattle.slang_reading.specs.declared.faults.Fault.TheVariants as f
use Rattle.slang_reading.specs.Lexed.{Lexed, token_of}
use Rattle.slang_reading.specs.Reading.{Parser, attempt, next, chosen, first}
use Rattle.slang_reading.specs.Cursor.{Cursor, looked, taken, run, Runs}
use Rattle.slang_grammar.specs.Descent.{Limits}
use Rattle.slang_grammar.specs.ExpressionsDescent.{Value, cast_ahead, cast_by, unary_by, unary_at, unary}

-- what does from there what another does from here
same_run : {A : Type 0} (p q : Parser A) (c mid new : Cursor) (r : Result A Fault) → run p c ≡ run q mid → mid.tokens ≡ c.tokens → Runs q mid r new → Runs p c r new
same_run p q c mid new (Ok a) e s r = (e ∙ r.0, r.1 ∙ s)
same_run p q c mid new (Err (f.Memory x)) e s r = (tt, r.1 ∙ s)
same_run p q c mid new (Err f.Stopped) e s r = (e ∙ r.0, r.1 ∙ s)
same_run p q c mid new (Err (f.Past code place)) e s r = (e ∙ r.0, r.1 ∙ s)

module _ (limits : Limits) (d : ℕ) (inner : ℕ → Parser Value) where
  casts_at : (o : Option Lexed) (token : Token) (ts : List Lexed) (at seen : ℕ) → Some token ≡ option_map token_of o → token.kind ≡ k.Mark m.OpenParen →
      chosen o (unary_at limits d inner o) ts at seen ≡ attempt cast_ahead (cast_by limits d inner token.place) ts (at + 1) seen
  casts_at None token ts at seen e opens = absurd cc
  casts_at (Some t) token ts at seen e opens =
      let same : token ≡ token_of t = cc in
      ap (λ (kind : Kind). chosen (Some t) (unary_by limits d inner t kind) ts at seen) (sym (ap (λ (x : Token). x.kind) same) ∙ opens)
      ∙ ap (λ (p : Place). attempt cast_ahead (cast_by limits d inner p) ts (at + 1) seen) (sym (ap (λ (x : Token). x.place) same))

  pub casts_runs : (token : Token) (old mid new : Cursor) (r : Result Value Fault) → Some token ≡ option_map token_of (first (drop old.at old.tokens)) → token.kind ≡ k.Mark m.OpenParen →
      mid ≡ taken (looked old) → Runs (attempt cast_ahead (cast_by limits d inner token.place)) mid r new → Runs (unary limits d inner) old r new
  unfolding unary next
  casts_runs token old mid new r e opens b h =
      same_run (unary limits d inner) (attempt cast_ahead (cast_by limits d inner token.place)) old mid new r
      (casts_at (first (drop old.at old.tokens)) token old.tokens old.at (max old.seen (old.at + 1)) e opens ∙ ap (run (attempt cast_ahead (cast_by limits d inner token.place))) (sym b))
      (ap (λ (c : Cursor). c.tokens) b) h
