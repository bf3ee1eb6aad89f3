-- What is foreseen by a scan.
use Rattle.std.proofs.Common.{Bool, true, false, ◌≡◌, ◌≤◌, ◌<◌, ℕ, ◌+◌, max, List, [], ◌∷◌, length, drop, Option, Some, None, Ok, Err, refl, sym, ◌∙◌, ap, if◌then◌else◌, arith, length-drop}
use Rattle.slang_names.specs.declared.places.Place.{Place}
use Rattle.slang_names.specs.declared.codes.ModuleCode.{ModuleCode}
use Rattle.slang_reading.specs.declared.faults.Fault.TheVariants as f
use Rattle.slang_reading.specs.Lexed.{Lexed}
use Rattle.slang_reading.specs.Reading.{Outcome, Done, Stop, Past, and_then, bind, pure, first, Leave, Refuse, chosen, next}
use Rattle.slang_reading.specs.Cursor.{Cursor, looked, moved, run, Runs}
use Rattle.slang_grammar.specs.Descent as descent
use Rattle.slang_grammar.specs.Expressions.{follows}
use Rattle.slang_grammar.specs.TypesDescent.{Arguments, arguments, types}
use Rattle.slang_grammar.specs.ExpressionsDescent.{freed, arguments_ahead}
use Rattle.type_reading.specs.declared.steps.Open.{Open}
use Rattle.type_reading.specs.declared.steps.Awaited.{Awaited}
use Rattle.type_reading.specs.declared.steps.Awaited.TheVariants.{Begins}
use Rattle.type_reading.specs.Scanning.{Move, Go, Wrong, Finish, move, after, scan, scanned, erased, arguments_taken}
use Rattle.ahead_reading.specs.Knowing.{Foresees}

-- ---- where a scan ends

end_of : (r : List Lexed) (at n to far : ℕ) (go : List Open → Awaited → Outcome (Unit {0})) → ((s : List Open) (w : Awaited) → go s w ≡ Done tt to far → (0 < length r) × (to ≤ at + 1 + length r)) →
    (v : Move) (t : Lexed) → after v go (at + 1) n ≡ Done tt to far → (0 < length (t ∷ r)) × (to ≤ at + length (t ∷ r))
end_of r at n to far go h (Go s w) t e = let i = h s w e in (omega arith, omega (arith, i.1))
end_of r at n to far go h Wrong t e = absurd (let c = e in cc)
end_of r at n to far go h Finish t e = let p : at + 1 ≡ to = cc in (omega arith, omega (arith, p))

scan_end : (r : List Lexed) (s : List Open) (w : Awaited) (at seen to far : ℕ) → scan r s w at seen ≡ Done tt to far → (0 < length r) × (to ≤ at + length r)
scan_end [] s w at seen to far e = absurd (let c = e in cc)
scan_end (t ∷ r) s w at seen to far e =
    end_of r at (max seen (at + 1)) to far (λ s w. scan r s w (at + 1) (max seen (at + 1))) (λ s w e. scan_end r s w (at + 1) (max seen (at + 1)) to far e) (move s w t.kind) t e

pub scanned_within : (ts : List Lexed) (at seen to far : ℕ) → scanned ts at seen ≡ Done tt to far → to ≤ length ts
scanned_within ts at seen to far e = let h = scan_end (drop at ts) [] Begins at seen to far e in omega (arith, h.0, h.1, length-drop at ts)

-- a scan passes no limit
past_of : (at n : ℕ) (go : List Open → Awaited → Outcome (Unit {0})) (c : ModuleCode) (p : Place) (far : ℕ) → ((s : List Open) (w : Awaited) → go s w ≡ Past c p far → ⊥) → (v : Move) → after v go at n ≡ Past c p far → ⊥
past_of at n go c p far h (Go s w) e = h s w e
past_of at n go c p far h Wrong e = cc
past_of at n go c p far h Finish e = cc

no_past : (r : List Lexed) (s : List Open) (w : Awaited) (at seen : ℕ) (c : ModuleCode) (p : Place) (far : ℕ) → scan r s w at seen ≡ Past c p far → ⊥
no_past [] s w at seen c p far e = cc
no_past (t ∷ r) s w at seen c p far e =
    past_of (at + 1) (max seen (at + 1)) (λ s w. scan r s w (at + 1) (max seen (at + 1))) c p far (λ s w e. no_past r s w (at + 1) (max seen (at + 1)) c p far e) (move s w t.kind) e

pub never_past : (ts : List Lexed) (at seen : ℕ) (c : ModuleCode) (p : Place) (n : ℕ) → scanned ts at seen ≡ Past c p n → ⊥
never_past ts at seen c p n e = no_past (drop at ts) [] Begins at seen c p n e

-- ---- and what follows there

abbrev Ahead : Type 0
Ahead = Outcome (Arguments × Place)

module _ (limits : descent.Limits) (old : Cursor) where
  -- what is read ahead behind the arguments
  abbrev rest : Arguments × Place → ℕ → ℕ → Ahead
  rest a to seen = next (λ x. if follows x then Leave (pure a) else Refuse) old.tokens to seen

  ahead_is : run (arguments_ahead limits) old ≡ and_then (arguments (freed limits) true limits.turns (types (freed limits) limits.turns) old.tokens old.at old.seen) rest
  unfolding arguments_ahead bind
  ahead_is = refl

  at_next : (a : Arguments × Place) (to seen : ℕ) (b : Bool) → follows (first (drop to old.tokens)) ≡ b →
      rest a to seen ≡ chosen (first (drop to old.tokens)) (if b then Leave (pure a) else Refuse) old.tokens to (max seen (to + 1))
  unfolding next
  at_next a to seen b e = ap (λ (b : Bool). chosen (first (drop to old.tokens)) (if b then Leave (pure a) else Refuse) old.tokens to (max seen (to + 1))) e

  refused : (x : Option Lexed) (ts : List Lexed) (at seen : ℕ) → chosen {A = Arguments × Place} x Refuse ts at seen ≡ Stop seen
  refused (Some t) ts at seen = refl
  refused None ts at seen = refl

  done : (o : Ahead) (to seen : ℕ) → erased o ≡ Done tt to seen → (a : Arguments × Place) × (o ≡ Done a to seen)
  done (Done a at n) to seen e = let p : at ≡ to = cc in let q : n ≡ seen = cc in (a, ap (λ i. Done a i n) p ∙ ap (λ i. Done a to i) q)
  done (Stop n) to seen e = absurd cc
  done (Past c p n) to seen e = absurd cc

  stop : (o : Ahead) (seen : ℕ) → erased o ≡ Stop seen → o ≡ Stop seen
  stop (Done a at n) seen e = absurd cc
  stop (Stop n) seen e = let p : n ≡ seen = cc in ap Stop p
  stop (Past c p n) seen e = absurd cc

  pub foresees : (b : Bool) (mid seen new : Cursor) → Runs (arguments_taken (freed limits)) old (Ok tt) mid → b ≡ follows (first (drop mid.at mid.tokens)) → seen ≡ looked mid → new ≡ moved seen old.at →
      Foresees (arguments_ahead limits) old b new
  foresees b mid seen new r e l m = go b (sym (ap (λ (ts : List Lexed). follows (first (drop mid.at ts))) r.1) ∙ sym e)
    where
      is : new ≡ moved (looked mid) old.at
      is = m ∙ ap (λ (c : Cursor). moved c old.at) l

      far : new.seen ≡ max mid.seen (mid.at + 1)
      far = ap (λ (c : Cursor). c.seen) is

      back : new.at ≡ old.at
      back = ap (λ (c : Cursor). c.at) is

      kept : new.tokens ≡ old.tokens
      kept = ap (λ (c : Cursor). c.tokens) is ∙ r.1

      read : (a : Arguments × Place) × (arguments (freed limits) true limits.turns (types (freed limits) limits.turns) old.tokens old.at old.seen ≡ Done a mid.at mid.seen)
      read = done (arguments (freed limits) true limits.turns (types (freed limits) limits.turns) old.tokens old.at old.seen) mid.at mid.seen r.0

      here : run (arguments_ahead limits) old ≡ rest read.0 mid.at mid.seen
      here = ahead_is ∙ ap (λ (o : Ahead). and_then o rest) read.1

      go : (b : Bool) → follows (first (drop mid.at old.tokens)) ≡ b → Foresees (arguments_ahead limits) old b new
      go true q = ((read.0, mid.at, here ∙ (at_next read.0 mid.at mid.seen true q ∙ ap (λ n. Done read.0 mid.at n) (sym far))), back, kept)
      go false q = (here ∙ (at_next read.0 mid.at mid.seen false q ∙ (refused (first (drop mid.at old.tokens)) old.tokens mid.at (max mid.seen (mid.at + 1)) ∙ ap Stop (sym far))), back, kept)

  pub foresees_not : (mid new : Cursor) → Runs (arguments_taken (freed limits)) old (Err f.Stopped) mid → new ≡ moved mid old.at → Foresees (arguments_ahead limits) old false new
  foresees_not mid new r m =
      let read = stop (arguments (freed limits) true limits.turns (types (freed limits) limits.turns) old.tokens old.at old.seen) mid.seen r.0 in
      (ahead_is ∙ (ap (λ (o : Ahead). and_then o rest) read ∙ ap Stop (sym (ap (λ (c : Cursor). c.seen) m))), ap (λ (c : Cursor). c.at) m, ap (λ (c : Cursor). c.tokens) m ∙ r.1)
