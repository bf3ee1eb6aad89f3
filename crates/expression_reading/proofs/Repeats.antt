-- A loop of the code whose turn tells whether it was one, beside what it reads.
use Rattle.std.proofs.Common.{◌≡◌, ℕ, zero, suc, ◌+◌, ◌-◌, ◌<◌, Bool, true, false, Option, Some, None, Ok, Err, refl, sym, ◌∙◌, ap, arith}
use Rattle.slang_names.specs.declared.codes.ModuleCode.TheVariants as code
use Rattle.slang_reading.specs.declared.faults.Fault.{Fault}
use Rattle.slang_reading.specs.declared.faults.Fault.TheVariants as f
use Rattle.slang_reading.specs.Reading.{Done, Parser, and_then, bind, past, place_of}
use Rattle.slang_reading.specs.Cursor.{Cursor, run, Fails, Runs}
use Rattle.slang_reading.proofs.Loops.{Keeps}
use Rattle.slang_grammar.specs.ExpressionsDescent.{again, repeats}
use Rattle.expression_reading.specs.Leading.{turned}

module _ {A : Type 0} (more : A → Parser (Option A)) where
  -- behind a turn
  abbrev after_one : ℕ → A → Parser A
  after_one zero b = past code.TooLong (place_of None)
  after_one (suc n) b = repeats more n b

  one_turn : (n : ℕ) (a : A) (c : Cursor) → run (repeats more n a) c ≡ run (bind (more a) (again (after_one n) a)) c
  unfolding repeats
  one_turn zero a c = refl
  one_turn (suc n) a c = refl

  no_turn : (n : ℕ) (a : A) (c new : Cursor) → Runs (more a) c (Ok None) new → run (repeats more n a) c ≡ Done a new.at new.seen
  unfolding bind
  no_turn n a c new r = one_turn n a c ∙ ap (λ o. and_then o (λ x at seen. again (after_one n) a x c.tokens at seen)) r.0

  more_turn : (n : ℕ) (a b : A) (c after : Cursor) → Runs (more a) c (Ok (Some b)) after → run (repeats more n a) c ≡ run (after_one n b) after
  unfolding bind
  more_turn n a b c after r =
      one_turn n a c ∙ (ap (λ o. and_then o (λ x at seen. again (after_one n) a x c.tokens at seen)) r.0 ∙ ap (λ ts. after_one n b ts after.at after.seen) (sym r.1))

  fail_turn : (n : ℕ) (a : A) (x : Fault) (c after : Cursor) → Fails x (run (more a) c) after → Fails x (run (repeats more n a) c) after
  unfolding bind
  fail_turn n a (f.Memory m) c after r = tt
  fail_turn n a f.Stopped c after r = one_turn n a c ∙ ap (λ o. and_then o (λ x at seen. again (after_one n) a x c.tokens at seen)) r
  fail_turn n a (f.Past k p) c after r = one_turn n a c ∙ ap (λ o. and_then o (λ x at seen. again (after_one n) a x c.tokens at seen)) r

turn_left : (n i : ℕ) → i < n → n - i ≡ suc (n - (i + 1))
turn_left n i h = omega arith

module _ {A : Type 0} (more : A → Parser (Option A)) (whole : Parser A) (start : Cursor) where
  pub repeat_ends : (n : ℕ) (a b : A) (m : Bool) (c new : Cursor) → Keeps (repeats more n a) c whole start → Runs (more a) c (turned (Ok (b, m))) new → m ≡ false → (m ≡ false → b ≡ a) →
      Runs whole start (Ok b) new
  repeat_ends n a b true c new k r e h = absurd cc
  repeat_ends n a b false c new k r e h = (sym k.does ∙ (no_turn more n a c new r ∙ ap (λ a. Done a new.at new.seen) (sym (h refl))), r.1 ∙ k.tokens)

  pub repeat_full : (n : ℕ) (a b : A) (m : Bool) (c new : Cursor) → n ≡ 0 → Keeps (repeats more n a) c whole start → Runs (more a) c (turned (Ok (b, m))) new → m ≡ true →
      Runs whole start (Err (f.Past code.TooLong (record { start = 0; end = 0 }))) new
  repeat_full n a b true c new z k r e = (sym k.does ∙ (more_turn more n a b c new r ∙ ap (λ n. run (after_one more n b) new) z), r.1 ∙ k.tokens)
  repeat_full n a b false c new z k r e = absurd cc

  pub repeat_goes_on : (n i : ℕ) (a b : A) (m : Bool) (c after : Cursor) → i < n → Keeps (repeats more (n - i) a) c whole start → Runs (more a) c (turned (Ok (b, m))) after → m ≡ true →
      Keeps (repeats more (n - (i + 1)) b) after whole start
  repeat_goes_on n i a b true c after h k r e =
      record { does = sym (more_turn more (n - i) a b c after r ∙ ap (λ n. run (after_one more n b) after) (turn_left n i h)) ∙ k.does; tokens = r.1 ∙ k.tokens }
  repeat_goes_on n i a b false c after h k r e = absurd cc

  pub repeat_fails : (n : ℕ) (a : A) (x : Fault) (c after : Cursor) → Keeps (repeats more n a) c whole start → Runs (more a) c (Err x) after → Runs whole start (Err x) after
  repeat_fails n a x c after k r = (go x (fail_turn more n a x c after r.0), r.1 ∙ k.tokens)
    where
      go : (x : Fault) → Fails x (run (repeats more n a) c) after → Fails x (run whole start) after
      go (f.Memory m) d = tt
      go f.Stopped d = sym k.does ∙ d
      go (f.Past code place) d = sym k.does ∙ d
