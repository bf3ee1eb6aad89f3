-- What the outcome of reading a type says of the tokens.
use Rattle.std.proofs.Common.{◌≡◌, ◌≤◌, ℕ, ◌+◌, Result, Ok, Err, sym, ◌∙◌, ap, subst, inl, arith}
use Rattle.slang_tree.specs.declared.types.TypeTree.{TypeTree}
use Rattle.slang_reading.specs.declared.faults.Fault.{Fault}
use Rattle.slang_reading.specs.declared.faults.Fault.TheVariants as f
use Rattle.slang_reading.specs.Reading.{Done, Stop}
use Rattle.slang_reading.specs.Cursor.{Cursor, Runs}
use Rattle.slang_reading.proofs.Exact.{Post, reads_done, reads_not_stopped}
use Rattle.slang_grammar.specs.Types.{TypeAt, Quiet}
use Rattle.slang_grammar.specs.Heights.{height}
use Rattle.slang_grammar.specs.Sizes.{TypeFits}
use Rattle.slang_grammar.specs.Descent.{Limits}
use Rattle.slang_grammar.specs.TypesDescent.{Type_, types}
use Rattle.slang_grammar.proofs.TypesSpelled.{post_types}
use Rattle.slang_grammar.proofs.TypesTall.{tall_types}
use Rattle.slang_grammar.proofs.TypesRead.{reads_type, type_within}
use Rattle.slang_grammar.proofs.TypesWrong.{types_go_on}
use Rattle.type_reading.specs.Reads.{Answers, SomeTypeBegins}

module _ (limits : Limits) (d : ℕ) (old new : Cursor) where
  pub type_spelled : (y : Type_) → Runs (types limits d) old (Ok y) new → TypeAt old.tokens y.0 old.at new.at
  type_spelled y r = subst (Post (λ (y : Type_) (end : ℕ). TypeAt old.tokens y.0 old.at end)) r.0 (post_types old.tokens limits d old.at old.seen)

  pub type_nested : (y : Type_) → Runs (types limits d) old (Ok y) new → y.1 ≤ d → height y.0 ≤ d
  type_nested y r h = let e = subst (Post (λ (y : Type_) (end : ℕ). height y.0 ≡ y.1)) r.0 (tall_types old.tokens limits d old.at old.seen) in omega arith

  pub type_not_stopped : (x : TypeTree) (to : ℕ) → TypeAt old.tokens x old.at to → Quiet old.tokens to → Runs (types limits d) old (Err f.Stopped) new → ⊥
  type_not_stopped x to s q r =
      reads_not_stopped (Unit {0}) (types limits d) old.tokens old.at old.seen (x, height x) to new.seen (reads_type (Unit {0}) tt limits s q d old.seen) r.0

  -- the answer that a type within the limits has
  pub type_done : (x : TypeTree) (to : ℕ) → TypeAt old.tokens x old.at to → Quiet old.tokens to → TypeFits limits d x → d ≤ limits.turns → limits.items ≤ limits.turns →
      (seen : ℕ) × (types limits d old.tokens old.at old.seen ≡ Done (x, height x) to seen)
  type_done x to s q fits nodes items =
      reads_done (types limits d) old.tokens old.at old.seen (x, height x) to (type_within ⊥ limits s q d old.seen (inl (fits, record { nodes = nodes; items = items })))

  same_type : (a b : Type_) (to at seen seen1 : ℕ) → Done a to seen ≡ Done b at seen1 → (b.0 ≡ a.0) × (at ≡ to)
  same_type a b to at seen seen1 e = let p : a ≡ b = cc in let q : to ≡ at = cc in (sym (ap (λ (z : Type_). z.0) p), sym q)

  pub type_answered : (x : TypeTree) (to : ℕ) (y : Type_) → TypeAt old.tokens x old.at to → Quiet old.tokens to → TypeFits limits d x → d ≤ limits.turns → limits.items ≤ limits.turns →
      Runs (types limits d) old (Ok y) new → (y.0 ≡ x) × (new.at ≡ to)
  type_answered x to y s q fits nodes items r =
      let e = type_done x to s q fits nodes items in same_type (x, height x) y to new.at e.0 new.seen (sym e.1 ∙ r.0)

  pub type_unless : (x : TypeTree) (to : ℕ) (e : Fault) → TypeAt old.tokens x old.at to → Quiet old.tokens to → TypeFits limits d x → d ≤ limits.turns → limits.items ≤ limits.turns →
      Runs (types limits d) old (Err e) new → Answers x to (Err e) new
  type_unless x to (f.Memory m) s q fits nodes items r = tt
  type_unless x to f.Stopped s q fits nodes items r = type_not_stopped x to s q r
  type_unless x to (f.Past code place) s q fits nodes items r = let e = type_done x to s q fits nodes items in let c = sym e.1 ∙ r.0 in cc

  pub type_goes_on : (at : ℕ) → old.at ≡ 0 → old.seen ≡ 0 → Runs (types limits d) old (Err f.Stopped) new → new.seen ≡ at + 1 → SomeTypeBegins old.tokens at
  type_goes_on at a s r n = types_go_on old.tokens limits d at (ap (λ i. types limits d old.tokens i 0) (sym a) ∙ (ap (λ i. types limits d old.tokens old.at i) (sym s) ∙ (r.0 ∙ ap Stop n)))

  -- the failure that is answered as a stop was one
  pub stopped_runs : (e : Fault) (o : Result TypeTree Fault) → o ≡ Err e → o ≡ Err f.Stopped → Runs (types limits d) old (Err e) new → Runs (types limits d) old (Err f.Stopped) new
  stopped_runs (f.Memory m) o p q r = let c = sym p ∙ q in absurd cc
  stopped_runs f.Stopped o p q r = r
  stopped_runs (f.Past code place) o p q r = let c = sym p ∙ q in absurd cc
