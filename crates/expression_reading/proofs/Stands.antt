-- Generic arguments ahead, by their scan.
use Rattle.std.proofs.Common.{◌≡◌, ℕ, ◌+◌, ◌≤◌, max, Bool, true, false, List, [], ◌∷◌, length, drop, Ok, Err, refl, sym, ◌∙◌, ap, if◌then◌else◌}
use Rattle.slang_names.specs.declared.places.Place.{Place}
use Rattle.slang_names.specs.declared.codes.ModuleCode.{ModuleCode}
use Rattle.slang_reading.specs.declared.faults.Fault.TheVariants as f
use Rattle.slang_reading.specs.Lexed.{Lexed}
use Rattle.slang_reading.specs.Reading.{Outcome, Done, Stop, Past, Parser, Leave, Refuse, and_then, bind, pure, first, chosen, next}
use Rattle.slang_reading.specs.Cursor.{Cursor, looked, moved, run, Runs}
use Rattle.slang_grammar.specs.Descent.{Limits}
use Rattle.slang_grammar.specs.TypesDescent.{Arguments, arguments, types}
use Rattle.slang_grammar.specs.Expressions.{follows}
use Rattle.slang_grammar.specs.ExpressionsDescent.{freed, arguments_ahead}
use Rattle.type_reading.specs.declared.steps.Open.{Open}
use Rattle.type_reading.specs.declared.steps.Awaited.{Awaited}
use Rattle.type_reading.specs.declared.steps.Awaited.TheVariants.{Begins}
use Rattle.type_reading.specs.Scanning.{Move, Go, Wrong, Finish, move, after, scan, scanned, erased}
use Rattle.type_reading.specs.declared.limits.Limits as given
use Rattle.ahead_reading.specs.declared.scans.Scans.{Scans}
use Rattle.ahead_reading.specs.Knowing.{Knows, Ready, Foresees}

-- a scan passes no limit
after_not_past : (m : Move) (go : List Open → Awaited → Outcome (Unit {0})) (at seen : ℕ) (code : ModuleCode) (place : Place) (n : ℕ) →
    ((s : List Open) (w : Awaited) → go s w ≡ Past code place n → ⊥) → after m go at seen ≡ Past code place n → ⊥
after_not_past (Go s w) go at seen code place n h e = h s w e
after_not_past Wrong go at seen code place n h e = absurd cc
after_not_past Finish go at seen code place n h e = absurd cc

never_past : (ts : List Lexed) (s : List Open) (w : Awaited) (at seen : ℕ) (code : ModuleCode) (place : Place) (n : ℕ) → scan ts s w at seen ≡ Past code place n → ⊥
never_past [] s w at seen code place n e = absurd cc
never_past (t ∷ ts) s w at seen code place n e =
    after_not_past (move s w t.kind) (λ s w. scan ts s w (at + 1) (max seen (at + 1))) (at + 1) (max seen (at + 1)) code place n
    (λ s w. never_past ts s w (at + 1) (max seen (at + 1)) code place n) e

pub scan_not_past : (old mid : Cursor) (code : ModuleCode) (place : Place) → Runs scanned old (Err (f.Past code place)) mid → ⊥
scan_not_past old mid code place r = never_past (drop old.at old.tokens) [] Begins old.at old.seen code place mid.seen r.0

abbrev Stood : Type 0
Stood = Arguments × Place

was_done : (o : Outcome Stood) (to s : ℕ) → erased o ≡ Done tt to s → (a : Stood) × (o ≡ Done a to s)
was_done (Done a at seen) to s e = (a, let p : at ≡ to = cc in let q : seen ≡ s = cc in ap (λ at. Done a at seen) p ∙ ap (λ seen. Done a to seen) q)
was_done (Stop seen) to s e = absurd cc
was_done (Past code place seen) to s e = absurd cc

was_stop : (o : Outcome Stood) (s : ℕ) → erased o ≡ Stop s → o ≡ Stop s
was_stop (Done a at seen) s e = absurd cc
was_stop (Stop seen) s e = let q : seen ≡ s = cc in ap Stop q
was_stop (Past code place seen) s e = absurd cc

module _ (limits : Limits) (old : Cursor) (e : erased (arguments (freed limits) true limits.turns (types (freed limits) limits.turns) old.tokens old.at old.seen) ≡ run scanned old) where
  abbrev here : Outcome Stood
  here = arguments (freed limits) true limits.turns (types (freed limits) limits.turns) old.tokens old.at old.seen

  abbrev behind : Stood → Parser Stood
  behind a = next (λ x. if follows x then Leave (pure a) else Refuse)

  ahead_is : run (arguments_ahead limits) old ≡ and_then here (λ a at seen. behind a old.tokens at seen)
  unfolding arguments_ahead bind
  ahead_is = refl

  pub scan_stopped : (mid new : Cursor) → Runs scanned old (Err f.Stopped) mid → new ≡ moved mid old.at → Foresees (arguments_ahead limits) old false new
  scan_stopped mid new r m = (
    ahead_is ∙ (ap (λ o. and_then o (λ a at seen. behind a old.tokens at seen)) (was_stop here mid.seen (e ∙ r.0)) ∙ ap Stop (sym (ap (λ (c : Cursor). c.seen) m))),
    ap (λ (c : Cursor). c.at) m,
    ap (λ (c : Cursor). c.tokens) m ∙ r.1,
  )

  module _ (mid sight new : Cursor) (r : Runs scanned old (Ok tt) mid) (l : sight ≡ looked mid) (m : new ≡ moved sight old.at) where
    sight_seen : new.seen ≡ max mid.seen (mid.at + 1)
    sight_seen = ap (λ (c : Cursor). c.seen) m ∙ ap (λ (c : Cursor). c.seen) l

    new_tokens : new.tokens ≡ old.tokens
    new_tokens = ap (λ (c : Cursor). c.tokens) m ∙ (ap (λ (c : Cursor). c.tokens) l ∙ r.1)

    stood : (a : Stood) × (here ≡ Done a mid.at mid.seen)
    stood = was_done here mid.at mid.seen (e ∙ r.0)

    ahead_goes : (b : Bool) → b ≡ follows (first (drop mid.at mid.tokens)) →
        run (arguments_ahead limits) old ≡ chosen (first (drop mid.at mid.tokens)) (if b then Leave (pure stood.0) else Refuse) mid.tokens mid.at (max mid.seen (mid.at + 1))
    unfolding next
    ahead_goes b q = ahead_is
        ∙ (ap (λ o. and_then o (λ a at seen. behind a old.tokens at seen)) stood.1
        ∙ (ap (λ ts. behind stood.0 ts mid.at mid.seen) (sym r.1)
        ∙ ap (λ b. chosen (first (drop mid.at mid.tokens)) (if b then Leave (pure stood.0) else Refuse) mid.tokens mid.at (max mid.seen (mid.at + 1))) (sym q)))

    pub scan_ended : (b : Bool) → b ≡ follows (first (drop mid.at mid.tokens)) → Foresees (arguments_ahead limits) old b new
    scan_ended true q =
        ((stood.0, mid.at, ahead_goes true q ∙ ap (λ n. Done stood.0 mid.at n) (sym sight_seen)), ap (λ (c : Cursor). c.at) m, new_tokens)
    scan_ended false q = (ahead_goes false q ∙ ap Stop (sym sight_seen), ap (λ (c : Cursor). c.at) m, new_tokens)

-- what it is to be ready, by its parts
pub ready_length : (limits : given.Limits) (scans : Scans) (ts : List Lexed) → Ready limits scans ts → length ts ≤ limits.turns
unfolding Ready
ready_length limits scans ts r = r.0

pub ready_knows : (limits : given.Limits) (scans : Scans) (ts : List Lexed) → Ready limits scans ts → Knows scans ts
unfolding Ready
ready_knows limits scans ts r = r.1
