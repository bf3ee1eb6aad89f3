-- The loop of the program that scans, token by token.
use Rattle.std.proofs.Common.{Bool, true, false, ◌≡◌, ℕ, ◌+◌, max, List, [], ◌∷◌, drop, reverse, Option, Some, None, Result, Ok, Err, refl, sym, ◌∙◌, ap, if◌then◌else◌}
use Rattle.std.specs.Option.{option_map}
use Rattle.slang_tokens.specs.declared.tokens.Token.{Token}
use Rattle.slang_tokens.specs.declared.tokens.Mark.TheVariants as m
use Rattle.slang_reading.specs.declared.faults.Fault.{Fault}
use Rattle.slang_reading.specs.declared.faults.Fault.TheVariants as f
use Rattle.slang_reading.specs.Lexed.{Lexed, token_of}
use Rattle.slang_reading.specs.Reading.{Outcome, Done, Stop, Parser, first}
use Rattle.slang_reading.specs.Kinds.{sees}
use Rattle.slang_reading.specs.Cursor.{Cursor, looked, taken, run, Runs}
use Rattle.type_reading.specs.declared.steps.Open.{Open}
use Rattle.type_reading.specs.declared.steps.Open.TheVariants.{Many}
use Rattle.type_reading.specs.declared.steps.Awaited.{Awaited}
use Rattle.type_reading.specs.declared.steps.Awaited.TheVariants.{Begins, Item}
use Rattle.type_reading.specs.declared.steps.Step.TheVariants.{Push, Refused}
use Rattle.type_reading.specs.Scanning.{Move, applied, move, scanned}
use Rattle.type_reading.proofs.Beside.{from, behind, step_some, step_none}

shown : (o : Option Lexed) (token : Token) → Some token ≡ option_map token_of o → (t : Lexed) × (o ≡ Some t) × (t.kind ≡ token.kind)
shown (Some t) token e = let p : token ≡ token_of t = cc in (t, refl, sym (ap (λ (x : Token). x.kind) p))
shown None token e = absurd cc

hidden : (o : Option Lexed) → None ≡ option_map token_of o → o ≡ None
hidden (Some t) e = absurd cc
hidden None e = refl

abbrev pub done : ℕ → ℕ → Outcome (Unit {0})
done at seen = Done tt at seen

module _ (cur new : Cursor) (e : new ≡ looked cur) where
  seen_is : new.seen ≡ max cur.seen (cur.at + 1)
  seen_is = ap (λ (c : Cursor). c.seen) e

  -- a token that is taken
  pub scan_step : (s : List Open) (w : Awaited) (v : Move) (token : Token) → Some token ≡ option_map token_of (first (drop cur.at cur.tokens)) → v ≡ move s w token.kind →
      behind cur.tokens v (cur.at + 1) new.seen ≡ from cur.tokens s w cur.at cur.seen
  scan_step s w v token p q = let t = shown (first (drop cur.at cur.tokens)) token p in
      ap (λ v. behind cur.tokens v (cur.at + 1) new.seen) (q ∙ ap (move s w) (sym t.2))
      ∙ (ap (λ n. behind cur.tokens (move s w t.0.kind) (cur.at + 1) n) seen_is ∙ sym (step_some cur.tokens s w cur.at cur.seen t.0 t.1))

  -- behind the last token
  pub scan_over : (s : List Open) (w : Awaited) → None ≡ option_map token_of (first (drop cur.at cur.tokens)) → from cur.tokens s w cur.at cur.seen ≡ Stop new.seen
  scan_over s w p = step_none cur.tokens s w cur.at cur.seen (hidden (first (drop cur.at cur.tokens)) p) ∙ ap Stop (sym seen_is)

  less : (x : Option Lexed) (b : Bool) → first (drop cur.at cur.tokens) ≡ x → b ≡ sees m.Less x →
      run scanned cur ≡ behind cur.tokens (applied (if b then Push Many Item else Refused) []) (cur.at + 1) new.seen
  less (Some t) b p q = step_some cur.tokens [] Begins cur.at cur.seen t p
      ∙ (ap (λ n. behind cur.tokens (move [] Begins t.kind) (cur.at + 1) n) (sym seen_is) ∙ ap (λ b. behind cur.tokens (applied (if b then Push Many Item else Refused) []) (cur.at + 1) new.seen) (sym q))
  less None true p q = absurd cc
  less None false p q = step_none cur.tokens [] Begins cur.at cur.seen p ∙ ap Stop (sym seen_is)

  pub scan_begins : true ≡ sees m.Less (first (drop cur.at cur.tokens)) → from cur.tokens (Many ∷ []) Item (cur.at + 1) new.seen ≡ run scanned cur
  scan_begins q = sym (less (first (drop cur.at cur.tokens)) true refl q)

  pub scan_refused : false ≡ sees m.Less (first (drop cur.at cur.tokens)) → run scanned cur ≡ Stop new.seen
  scan_refused q = less (first (drop cur.at cur.tokens)) false refl q

  -- where the token is taken
  module _ (next : Cursor) (d : next ≡ taken new) where
    pub next_tokens : next.tokens ≡ cur.tokens
    next_tokens = ap (λ (c : Cursor). c.tokens) (d ∙ ap taken e)

    pub moved_on : (s : List Open) (w : Awaited) → from next.tokens s w next.at next.seen ≡ from cur.tokens s w (cur.at + 1) new.seen
    moved_on s w = ap (λ (c : Cursor). from c.tokens s w c.at c.seen) (d ∙ ap taken e) ∙ ap (λ n. from cur.tokens s w (cur.at + 1) n) (sym seen_is)

    pub scan_done : done (cur.at + 1) new.seen ≡ done next.at next.seen
    scan_done = sym (ap (λ (c : Cursor). done c.at c.seen) (d ∙ ap taken e) ∙ ap (λ n. done (cur.at + 1) n) (sym seen_is))

    pub begins_here : (top : Open) (under : List Open) (w : Awaited) → top ≡ Many → under ≡ [] → w ≡ Item → true ≡ sees m.Less (first (drop cur.at cur.tokens)) →
        from next.tokens (top ∷ reverse under) w next.at next.seen ≡ run scanned cur
    begins_here top under w a b i q =
        moved_on (top ∷ reverse under) w
        ∙ (ap (λ t. from cur.tokens (t ∷ reverse under) w (cur.at + 1) new.seen) a
        ∙ (ap (λ u. from cur.tokens (Many ∷ reverse u) w (cur.at + 1) new.seen) b
        ∙ (ap (λ w. from cur.tokens (Many ∷ []) w (cur.at + 1) new.seen) i ∙ scan_begins q)))

-- two parsers with one outcome here
pub runs_alike : (p q : Parser (Unit {0})) (old new : Cursor) (r : Result (Unit {0}) Fault) → run p old ≡ run q old → Runs p old r new → Runs q old r new
runs_alike p q old new (Ok u) e h = (sym e ∙ h.0, h.1)
runs_alike p q old new (Err (f.Memory m)) e h = (tt, h.1)
runs_alike p q old new (Err f.Stopped) e h = (sym e ∙ h.0, h.1)
runs_alike p q old new (Err (f.Past code place)) e h = (sym e ∙ h.0, h.1)
