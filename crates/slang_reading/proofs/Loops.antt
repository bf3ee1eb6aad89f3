-- A loop of the code, beside the turns that it makes.
use Rattle.std.proofs.Common.{Bool, true, false, ◌≡◌, ℕ, zero, suc, ◌+◌, ◌-◌, ◌<◌, max, drop, Option, Result, Ok, Err, sym, ◌∙◌, ap, arith}
use Rattle.slang_names.specs.declared.places.Place.{Place}
use Rattle.slang_names.specs.declared.codes.ModuleCode.TheVariants as code
use Rattle.slang_reading.specs.declared.faults.Fault.{Fault}
use Rattle.slang_reading.specs.declared.faults.Fault.TheVariants as f
use Rattle.slang_reading.specs.Lexed.{Lexed}
use Rattle.slang_reading.specs.Reading.{Done, Past, Parser, and_then, bind, ◌>>=◌, first, Leave, Pass, place_of, chosen, next, turn, turns}
use Rattle.slang_reading.specs.Cursor.{Cursor, looked, run, Fails, Runs}

module _ {A : Type 0} (goes : Option Lexed → Bool) (more : A → Parser A) where
  stop_turn : (n : ℕ) (a : A) (c new : Cursor) → new ≡ looked c → false ≡ goes (first (drop c.at c.tokens)) → run (turns goes more n a) c ≡ Done a new.at new.seen
  unfolding turns next
  stop_turn zero a c new e d =
      ap (λ b. chosen (first (drop c.at c.tokens)) (turn b (Pass code.TooLong (place_of (first (drop c.at c.tokens)))) a) c.tokens c.at (max c.seen (c.at + 1))) (sym d)
      ∙ ap (λ (n : Cursor). Done a n.at n.seen) (sym e)
  stop_turn (suc n) a c new e d =
      ap (λ b. chosen (first (drop c.at c.tokens)) (turn b (Leave (more a >>= turns goes more n)) a) c.tokens c.at (max c.seen (c.at + 1))) (sym d)
      ∙ ap (λ (n : Cursor). Done a n.at n.seen) (sym e)

  full_turn : (n : ℕ) (a : A) (c new : Cursor) → n ≡ 0 → new ≡ looked c → true ≡ goes (first (drop c.at c.tokens)) → run (turns goes more n a) c ≡ Past code.TooLong (place_of (first (drop c.at c.tokens))) new.seen
  unfolding turns next
  full_turn zero a c new z e d =
      ap (λ b. chosen (first (drop c.at c.tokens)) (turn b (Pass code.TooLong (place_of (first (drop c.at c.tokens)))) a) c.tokens c.at (max c.seen (c.at + 1))) (sym d)
      ∙ ap (λ (n : Cursor). Past code.TooLong (place_of (first (drop c.at c.tokens))) n.seen) (sym e)
  full_turn (suc n) a c new z e d = absurd (omega arith)

  one_turn : (n : ℕ) (a : A) (c new : Cursor) → new ≡ looked c → true ≡ goes (first (drop c.at c.tokens)) → run (turns goes more (suc n) a) c ≡ run (bind (more a) (turns goes more n)) new
  unfolding turns next
  one_turn n a c new e d =
      ap (λ b. chosen (first (drop c.at c.tokens)) (turn b (Leave (more a >>= turns goes more n)) a) c.tokens c.at (max c.seen (c.at + 1))) (sym d)
      ∙ ap (run (bind (more a) (turns goes more n))) (sym e)

  turn_left : (n i : ℕ) → i < n → n - i ≡ suc (n - (i + 1))
  turn_left n i h = omega arith

  more_turn : (n i : ℕ) (a b : A) (c new after : Cursor) → i < n → new ≡ looked c → true ≡ goes (first (drop c.at c.tokens)) → Runs (more a) new (Ok b) after →
      run (turns goes more (n - i) a) c ≡ run (turns goes more (n - (i + 1)) b) after
  unfolding bind
  more_turn n i a b c new after h e d r =
      ap (λ n. run (turns goes more n a) c) (turn_left n i h) ∙ (one_turn (n - (i + 1)) a c new e d
      ∙ (ap (λ o. and_then o (λ a at seen. turns goes more (n - (i + 1)) a new.tokens at seen)) r.0 ∙ ap (λ ts. turns goes more (n - (i + 1)) b ts after.at after.seen) (sym r.1)))

  fail_turn : (n i : ℕ) (a : A) (x : Fault) (c new after : Cursor) → i < n → new ≡ looked c → true ≡ goes (first (drop c.at c.tokens)) → Fails x (run (more a) new) after →
      Fails x (run (turns goes more (n - i) a) c) after
  unfolding bind
  fail_turn n i a (f.Memory m) c new after h e d r = tt
  fail_turn n i a f.Stopped c new after h e d r =
      ap (λ n. run (turns goes more n a) c) (turn_left n i h) ∙ (one_turn (n - (i + 1)) a c new e d ∙ ap (λ o. and_then o (λ a at seen. turns goes more (n - (i + 1)) a new.tokens at seen)) r)
  fail_turn n i a (f.Past k p) c new after h e d r =
      ap (λ n. run (turns goes more n a) c) (turn_left n i h) ∙ (one_turn (n - (i + 1)) a c new e d ∙ ap (λ o. and_then o (λ a at seen. turns goes more (n - (i + 1)) a new.tokens at seen)) r)

-- what is left to do from here is what the whole is from the start
pub record Keeps {A : Type 0} (left : Parser A) (here : Cursor) (whole : Parser A) (start : Cursor) : Type 0 where
  pub does : run left here ≡ run whole start
  pub tokens : here.tokens ≡ start.tokens

module _ {A : Type 0} (goes : Option Lexed → Bool) (more : A → Parser A) (whole : Parser A) (start : Cursor) where
  pub loop_ends : (n : ℕ) (a : A) (c new : Cursor) → Keeps (turns goes more n a) c whole start → new ≡ looked c → false ≡ goes (first (drop c.at c.tokens)) → Runs whole start (Ok a) new
  loop_ends n a c new k e d = (sym k.does ∙ stop_turn goes more n a c new e d, ap (λ (n : Cursor). n.tokens) e ∙ k.tokens)

  pub loop_full : (n : ℕ) (a : A) (c new : Cursor) (p : Place) → n ≡ 0 → Keeps (turns goes more n a) c whole start → new ≡ looked c → true ≡ goes (first (drop c.at c.tokens)) →
      p ≡ place_of (first (drop c.at c.tokens)) → Runs whole start (Err (f.Past code.TooLong p)) new
  loop_full n a c new p z k e d q =
      (sym k.does ∙ (full_turn goes more n a c new z e d ∙ ap (λ p. Past code.TooLong p new.seen) (sym q)), ap (λ (n : Cursor). n.tokens) e ∙ k.tokens)

  pub loop_goes_on : (n i : ℕ) (a b : A) (c new after : Cursor) → i < n → Keeps (turns goes more (n - i) a) c whole start → new ≡ looked c → true ≡ goes (first (drop c.at c.tokens)) →
      Runs (more a) new (Ok b) after → Keeps (turns goes more (n - (i + 1)) b) after whole start
  loop_goes_on n i a b c new after h k e d r =
      record { does = sym (more_turn goes more n i a b c new after h e d r) ∙ k.does; tokens = r.1 ∙ (ap (λ (n : Cursor). n.tokens) e ∙ k.tokens) }

  pub loop_fails : (n i : ℕ) (a : A) (x : Fault) (c new after : Cursor) → i < n → Keeps (turns goes more (n - i) a) c whole start → new ≡ looked c → true ≡ goes (first (drop c.at c.tokens)) →
      Runs (more a) new (Err x) after → Runs whole start (Err x) after
  loop_fails n i a x c new after h k e d r = (go x (fail_turn goes more n i a x c new after h e d r.0), r.1 ∙ (ap (λ (n : Cursor). n.tokens) e ∙ k.tokens))
    where
      go : (x : Fault) → Fails x (run (turns goes more (n - i) a) c) after → Fails x (run whole start) after
      go (f.Memory m) d = tt
      go f.Stopped d = sym k.does ∙ d
      go (f.Past code place) d = sym k.does ∙ d

-- one after the other
pub runs_bind : {A B : Type 0} (p : Parser A) (g : A → Parser B) (a : A) (old mid new : Cursor) (r : Result B Fault) → Runs p old (Ok a) mid → Runs (g a) mid r new → Runs (bind p g) old r new
unfolding bind
runs_bind p g a old mid new (Ok b) h k =
    (ap (λ o. and_then o (λ a at seen. g a old.tokens at seen)) h.0 ∙ (ap (λ ts. g a ts mid.at mid.seen) (sym h.1) ∙ k.0), k.1 ∙ h.1)
runs_bind p g a old mid new (Err e) h k = (go e k.0, k.1 ∙ h.1)
  where
    same : and_then (run p old) (λ a at seen. g a old.tokens at seen) ≡ run (g a) mid
    same = ap (λ o. and_then o (λ a at seen. g a old.tokens at seen)) h.0 ∙ ap (λ ts. g a ts mid.at mid.seen) (sym h.1)

    go : (e : Fault) → Fails e (run (g a) mid) new → Fails e (and_then (run p old) (λ a at seen. g a old.tokens at seen)) new
    go (f.Memory m) d = tt
    go f.Stopped d = same ∙ d
    go (f.Past code place) d = same ∙ d
