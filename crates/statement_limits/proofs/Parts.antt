-- Locals and the parts of statements: the first limit that is broken is told.
use Rattle.std.proofs.Common.{Bool, true, false, ◌≡◌, ℕ, ◌+◌, ◌≤◌, List, drop, length, Option, Some, None, refl, ◌∙◌, ap}
use Rattle.slang_tree.specs.declared.types.Identifier.{Identifier}
use Rattle.slang_names.specs.declared.places.Place.{Place}
use Rattle.slang_tree.specs.declared.expressions.ExprTree.{ExprTree}
use Rattle.slang_tree.specs.declared.statements.LocalName.{LocalName}
use Rattle.slang_tree.specs.declared.statements.Local.{Local}
use Rattle.slang_tree.specs.declared.statements.Change.{Change}
use Rattle.slang_tree.specs.declared.statements.LoopStart.{LoopStart}
use Rattle.slang_tree.specs.declared.statements.LoopStart.TheVariants as b
use Rattle.slang_tokens.specs.declared.tokens.Kind.TheVariants as k
use Rattle.slang_tokens.specs.declared.tokens.Mark.TheVariants as m
use Rattle.slang_tokens.specs.declared.tokens.Word.TheVariants as w
use Rattle.slang_reading.specs.Lexed.{Lexed}
use Rattle.slang_reading.specs.Reading.{Outcome, Done, Stop, Past, Parser, ◌>>=◌, Leave, Take, first, pure, foreseen, foresee}
use Rattle.slang_reading.specs.Kinds.{sees, sees_word}
use Rattle.slang_reading.proofs.Viable.{IsPast}
use Rattle.slang_reading.proofs.Fine.{fine_not_past}
use Rattle.slang_reading.proofs.Exact.{Post, reads_pure, reads_bind}
use Rattle.slang_grammar.specs.Standing.{Stands, NameStands}
use Rattle.slang_grammar.specs.Descent.{Limits, expect}
use Rattle.slang_grammar.specs.ExpressionsDescent.{begins, expressions}
use Rattle.slang_grammar.proofs.Shared.{reads_expect, is_there}
use Rattle.expression_grammar.specs.Heights.{expr_height}
use Rattle.expression_grammar.proofs.Read.{reads_excused}
use Rattle.statement_grammar.specs.Statements as t
use Rattle.statement_grammar.specs.Statements.{LocalNameAt, LocalAt, ChangeAt, MaybeAt, StartAt, StepAt, HeadAt, ConditionAt}
use Rattle.statement_grammar.specs.LocalsAhead.{Seen, local_ahead}
use Rattle.statement_grammar.specs.StatementsDescent.{Simple, IsLocal, IsChange, variable, constant, change, either, simple_by, simple, maybe_by, maybe, condition, start_by, start, step_by, step, Head, head}
use Rattle.statement_grammar.proofs.Begins.{Closes, expr_begins, TypeBegins, type_begins}
use Rattle.statement_grammar.proofs.LocalsRead.{declared_begins}
use Rattle.statement_laws.proofs.Parts.{starts_not, change_begins, type_starts, local_starts}
use Rattle.statement_laws.proofs.Ahead.{reads_ahead}
use Rattle.statement_laws.proofs.Never.{change_never}
use Rattle.statement_fits.proofs.Ahead.{fine_local_ahead}
use Rattle.expression_limits.specs.Breaks.{Break}
use Rattle.expression_limits.proofs.Telling.{Told, Tells, tells_reads, tells_bind, tells_then, tells_last, tells_next, tells_foresee_yes}
use Rattle.statement_limits.specs.Locals.{local_breaks, change_breaks}
use Rattle.statement_limits.specs.Statements.{maybe_breaks, start_breaks, step_breaks, head_breaks, condition_breaks}
use Rattle.statement_limits.proofs.Locals.{tells_value, tells_variable, tells_constant}
use Rattle.statement_limits.proofs.Changes.{tells_change}

no_const : {ts : List Lexed} {at : ℕ} → TypeBegins ts at → sees_word w.Const (first (drop at ts)) ≡ false
no_const b = ap (sees_word w.Const) b.is ∙ b.variable

local_name_begins : {ts : List Lexed} {x : LocalName} {end : Place} {from to : ℕ} → LocalNameAt ts x end from to → (id : Identifier) × NameStands ts from id
local_name_begins (t.alone r n) = declared_begins r
local_name_begins (t.begun r s w) = declared_begins r

semicolon_closes : {ts : List Lexed} {at : ℕ} {p : Place} → Stands ts at (k.Mark m.Semicolon) p → Closes ts at
semicolon_closes {p = p} s = record { mark = m.Semicolon; place = p; is = s; closes = refl }

paren_closes : {ts : List Lexed} {at : ℕ} {p : Place} → Stands ts at (k.Mark m.CloseParen) p → Closes ts at
paren_closes {p = p} s = record { mark = m.CloseParen; place = p; is = s; closes = refl }

-- what is looked at ahead reads nothing and passes no limit
tells_foresee_no : (ts : List Lexed) {A B : Type 0} (q : Parser B) (at seen : ℕ) {cs : List Break} (f : Bool → Parser A) (P : B → ℕ → Type 0) (a : A) (to : ℕ) → Post P (q ts at seen) → ((x : B) (mid : ℕ) → P x mid → ⊥) →
    (IsPast (q ts at seen) → ⊥) → ((seen1 : ℕ) → Tells cs (f false) ts at seen1 a to) → Tells cs (foresee q f) ts at seen a to
unfolding foresee
tells_foresee_no ts {B = B} q at seen {cs = cs} f P a to h never x k = record { is = go (q ts at seen) h x }
  where
    go : (o : Outcome B) → Post P o → (IsPast o → ⊥) → Told (first cs) a to (foreseen o f ts at)
    go (Done y mid seen1) p x = absurd (never y mid p)
    go (Stop seen1) p x = (k seen1).is
    go (Past code place seen1) p x = absurd (x tt)

module _ (ts : List Lexed) (limits : Limits) (free : limits.free ≡ false) (long : length ts ≤ limits.turns) (d : ℕ) where
  -- what is looked at ahead passes no limit
  passes : (at seen : ℕ) → IsPast (local_ahead limits ts at seen) → ⊥
  passes at seen p = fine_not_past (λ (a : Seen) (to : ℕ). Unit {0}) (local_ahead limits ts at seen) (fine_local_ahead ts limits long at seen) p

  -- ---- locals and changes

  tells_local : {x : Local} {from to : ℕ} → (s : LocalAt ts x from to) → Closes ts to → (seen : ℕ) → Tells (local_breaks ts limits s d) (simple limits d) ts from seen (IsLocal x) to
  unfolding simple
  tells_local {x = x} {from = from} {to = to} (t.variable r v c) z seen =
      let n = local_name_begins v in
      let a : Simple = IsLocal x in
      tells_next ts (λ t. simple_by limits d t (sees_word w.Const t)) from seen a to (first (drop from ts)) (Leave (foresee (local_ahead limits) (either limits d))) refl
      (ap (simple_by limits d (first (drop from ts))) (no_const (type_begins r)))
      (λ s1. let ahead = reads_ahead (Unit {0}) tt ts limits r n.1 s1 in
      tells_foresee_yes ts (local_ahead limits) from s1 (either limits d) tt a ahead.0 to (reads_excused ⊥ (local_ahead limits) ts from s1 tt ahead.0 ahead.1 (passes from s1))
      (λ s2. tells_last ts (variable limits d) _ from s2 to to x a (tells_variable ts limits free long d r v c z s2) (λ s3. reads_pure ⊥ ts a to s3)))
  tells_local {x = x} {from = from} {to = to} (t.constant {p = p} s r v c) z seen =
      let a : Simple = IsLocal x in
      tells_next ts (λ t. simple_by limits d t (sees_word w.Const t)) from seen a to (Some (record { kind = k.Word w.Const; place = p; bytes = s.bytes })) (Take (constant limits d p >>= (λ y. pure (IsLocal y)))) s.is refl
      (λ s1. tells_last ts (constant limits d p) _ (from + 1) s1 to to x a (tells_constant ts limits free long d p s r v c z s1) (λ s2. reads_pure ⊥ ts a to s2))

  tells_changed : {x : Change} {from to : ℕ} → (s : ChangeAt ts x from to) → Closes ts to → (seen : ℕ) → Tells (change_breaks ts limits s d) (simple limits d) ts from seen (IsChange x) to
  unfolding simple
  tells_changed {x = x} {from = from} {to = to} r z seen =
      let a : Simple = IsChange x in
      tells_next ts (λ t. simple_by limits d t (sees_word w.Const t)) from seen a to (first (drop from ts)) (Leave (foresee (local_ahead limits) (either limits d))) refl
      (ap (simple_by limits d (first (drop from ts))) (no_const (change_begins r)))
      (λ s1. tells_foresee_no ts (local_ahead limits) from s1 (either limits d) (λ (y : Seen) (end : ℕ). ⊥) a to (change_never ts limits r z s1) (λ y end n. n) (passes from s1)
      (λ s2. tells_last ts (change limits d) _ from s2 to to x a (tells_change ts limits free long d r z s2) (λ s3. reads_pure ⊥ ts a to s3)))

  pub tells_local_stat : {x : Local} {p : Place} {from to : ℕ} → (s : LocalAt ts x from to) → Stands ts to (k.Mark m.Semicolon) p → (seen : ℕ) → Tells (local_breaks ts limits s d) (simple limits d) ts from seen (IsLocal x) to
  tells_local_stat r z seen = tells_local r (semicolon_closes z) seen

  pub tells_change_stat : {x : Change} {p : Place} {from to : ℕ} → (s : ChangeAt ts x from to) → Stands ts to (k.Mark m.Semicolon) p → (seen : ℕ) → Tells (change_breaks ts limits s d) (simple limits d) ts from seen (IsChange x) to
  tells_change_stat r z seen = tells_changed r (semicolon_closes z) seen

  -- ---- parts

  pub tells_maybe : {x : Option ExprTree} {p : Place} {from to : ℕ} → (s : MaybeAt ts x from to) → Stands ts to (k.Mark m.Semicolon) p → (seen : ℕ) → Tells (maybe_breaks ts limits s d) (maybe limits d) ts from seen x to
  unfolding maybe
  tells_maybe {from = from} t.absent z seen = tells_next ts (λ x. maybe_by limits d (begins x)) from seen None from (first (drop from ts)) (Leave (pure None)) refl
      (ap (maybe_by limits d) (ap begins z.is)) (λ s1. tells_reads (pure None) ts from s1 None from (reads_pure ⊥ ts None from s1))
  tells_maybe {from = from} {to = to} (t.present {x = x} v) z seen = tells_next ts (λ x. maybe_by limits d (begins x)) from seen (Some x) to (first (drop from ts)) (maybe_by limits d true) refl
      (ap (maybe_by limits d) (expr_begins v))
      (λ s1. tells_last ts (expressions limits d) _ from s1 to to (x, expr_height x) (Some x) (tells_value ts limits free long v (semicolon_closes z) d s1) (λ s2. reads_pure ⊥ ts (Some x) to s2))

  pub tells_condition : {x : ExprTree} {from to : ℕ} → (s : ConditionAt ts x from to) → (seen : ℕ) → Tells (condition_breaks ts limits s d) (condition limits d) ts from seen x to
  unfolding condition
  tells_condition {x = x} {from = from} (t.condition {at = at} {p = p} {q = q} o v c) seen =
      tells_then ts (expect m.OpenParen) _ from seen (from + 1) (at + 1) p x (reads_expect ⊥ ts m.OpenParen p from seen o)
      (λ s1. tells_last ts (expressions limits d) _ (from + 1) s1 at (at + 1) (x, expr_height x) x (tells_value ts limits free long v (paren_closes c) d s1)
      (λ s2. reads_bind ⊥ ts (expect m.CloseParen) _ at s2 (at + 1) (at + 1) q x (reads_expect ⊥ ts m.CloseParen q at s2 c) (λ s3. reads_pure ⊥ ts x (at + 1) s3)))

  tells_start : {x : LoopStart} {p : Place} {from to : ℕ} → (s : StartAt ts x from to) → Stands ts to (k.Mark m.Semicolon) p → (seen : ℕ) → Tells (start_breaks ts limits s d) (start limits d) ts from seen x to
  unfolding start
  tells_start {p = p} {from = from} t.nothing z seen = tells_next ts (λ x. start_by limits d (sees m.Semicolon x)) from seen b.Nothing from (first (drop from ts)) (start_by limits d true) refl
      (ap (start_by limits d) (is_there ts m.Semicolon from p z)) (λ s1. tells_reads (pure b.Nothing) ts from s1 b.Nothing from (reads_pure ⊥ ts b.Nothing from s1))
  tells_start {from = from} {to = to} (t.local {x = x} r) z seen = tells_next ts (λ x. start_by limits d (sees m.Semicolon x)) from seen (b.Local x) to (first (drop from ts)) (start_by limits d false) refl
      (ap (start_by limits d) (starts_not m.Semicolon (local_starts r) (λ q. cc)))
      (λ s1. tells_last ts (simple limits d) _ from s1 to to (IsLocal x) (b.Local x) (tells_local r (semicolon_closes z) s1) (λ s2. reads_pure ⊥ ts (b.Local x) to s2))
  tells_start {from = from} {to = to} (t.change {x = x} r) z seen = tells_next ts (λ x. start_by limits d (sees m.Semicolon x)) from seen (b.Change x) to (first (drop from ts)) (start_by limits d false) refl
      (ap (start_by limits d) (starts_not m.Semicolon (type_starts (change_begins r)) (λ q. cc)))
      (λ s1. tells_last ts (simple limits d) _ from s1 to to (IsChange x) (b.Change x) (tells_changed r (semicolon_closes z) s1) (λ s2. reads_pure ⊥ ts (b.Change x) to s2))

  tells_step : {x : Option Change} {p : Place} {from to : ℕ} → (s : StepAt ts x from to) → Stands ts to (k.Mark m.CloseParen) p → (seen : ℕ) → Tells (step_breaks ts limits s d) (step limits d) ts from seen x to
  unfolding step
  tells_step {p = p} {from = from} t.absent z seen = tells_next ts (λ x. step_by limits d (sees m.CloseParen x)) from seen None from (first (drop from ts)) (step_by limits d true) refl
      (ap (step_by limits d) (is_there ts m.CloseParen from p z)) (λ s1. tells_reads (pure None) ts from s1 None from (reads_pure ⊥ ts None from s1))
  tells_step {from = from} {to = to} (t.present {x = x} r) z seen = tells_next ts (λ x. step_by limits d (sees m.CloseParen x)) from seen (Some x) to (first (drop from ts)) (step_by limits d false) refl
      (ap (step_by limits d) (starts_not m.CloseParen (type_starts (change_begins r)) (λ q. cc)))
      (λ s1. tells_last ts (change limits d) _ from s1 to to x (Some x) (tells_change ts limits free long d r (paren_closes z) s1) (λ s2. reads_pure ⊥ ts (Some x) to s2))

  pub tells_head : {x : LoopStart} {y : Option ExprTree} {z : Option Change} {from to : ℕ} → (s : HeadAt ts x y z from to) → (seen : ℕ) → Tells (head_breaks ts limits s d) (head limits d) ts from seen (x, y, z) to
  unfolding head
  tells_head {x = x} {y = y} {z = z} {from = from} (t.head {mid = mid} {at = at} {to = last} {p = p} {q = q} {r = r} {u = u} o i j v l n c) seen =
      let a : Head limits d = (x, y, z) in
      tells_then ts (expect m.OpenParen) _ from seen (from + 1) (last + 1) p a (reads_expect ⊥ ts m.OpenParen p from seen o)
      (λ s1. tells_bind ts (start limits d) _ (from + 1) s1 mid (last + 1) x a (tells_start i j s1)
      (λ s2. tells_then ts (expect m.Semicolon) _ mid s2 (mid + 1) (last + 1) q a (reads_expect ⊥ ts m.Semicolon q mid s2 j)
      (λ s3. tells_bind ts (maybe limits d) _ (mid + 1) s3 at (last + 1) y a (tells_maybe v l s3)
      (λ s4. tells_then ts (expect m.Semicolon) _ at s4 (at + 1) (last + 1) r a (reads_expect ⊥ ts m.Semicolon r at s4 l)
      (λ s5. tells_last ts (step limits d) _ (at + 1) s5 last (last + 1) z a (tells_step n c s5)
      (λ s6. reads_bind ⊥ ts (expect m.CloseParen) _ last s6 (last + 1) (last + 1) u a (reads_expect ⊥ ts m.CloseParen u last s6 c) (λ s7. reads_pure ⊥ ts a (last + 1) s7)))))))
