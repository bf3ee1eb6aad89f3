-- Locals and the parts of statements: what is spelled within the limits is read.
use Rattle.std.proofs.Common.{true, false, ◌≡◌, ℕ, ◌+◌, List, drop, Option, Some, None, refl, ◌∙◌, ap, max}
use Rattle.slang_tree.specs.declared.types.Identifier.{Identifier}
use Rattle.slang_names.specs.declared.places.Place.{Place}
use Rattle.slang_tree.specs.declared.expressions.ExprTree.{ExprTree}
use Rattle.slang_tree.specs.declared.statements.LocalName.{LocalName}
use Rattle.slang_tree.specs.declared.statements.Local.{Local}
use Rattle.slang_tree.specs.declared.statements.Change.{Change}
use Rattle.slang_tree.specs.declared.statements.LoopStart.{LoopStart}
use Rattle.slang_tree.specs.declared.statements.LoopStart.TheVariants as b
use Rattle.slang_tokens.specs.declared.tokens.Kind.TheVariants as k
use Rattle.slang_tokens.specs.declared.tokens.Mark.TheVariants as m
use Rattle.slang_tokens.specs.declared.tokens.Word.TheVariants as w
use Rattle.slang_reading.specs.Lexed.{Lexed}
use Rattle.slang_reading.specs.Reading.{◌>>=◌, Leave, Take, first, pure, foresee}
use Rattle.slang_reading.specs.Kinds.{sees, sees_word}
use Rattle.slang_reading.proofs.Exact.{Reads, reads_pure, reads_bind, reads_next, reads_foresee_yes, reads_foresee_no}
use Rattle.slang_grammar.specs.Standing.{Stands, NameStands}
use Rattle.slang_grammar.specs.Descent.{Limits, expect}
use Rattle.slang_grammar.specs.ExpressionsDescent.{begins, expressions}
use Rattle.slang_grammar.proofs.Shared.{reads_expect, is_there}
use Rattle.expression_grammar.specs.Heights.{expr_height}
use Rattle.statement_grammar.specs.Statements as t
use Rattle.statement_grammar.specs.Statements.{LocalNameAt, LocalAt, ChangeAt, MaybeAt, StartAt, StepAt, HeadAt, ConditionAt}
use Rattle.statement_grammar.specs.LocalsAhead.{Seen, local_ahead}
use Rattle.statement_grammar.specs.StatementsDescent.{Simple, IsLocal, IsChange, variable, constant, change, either, simple_by, simple, maybe_by, maybe, condition, start_by, start, step_by, step, Head, head}
use Rattle.statement_grammar.proofs.Begins.{Closes, expr_begins, TypeBegins, type_begins}
use Rattle.statement_grammar.proofs.LocalsRead.{declared_begins}
use Rattle.slang_reading.proofs.Viable.{IsPast}
use Rattle.slang_reading.proofs.Fine.{fine_not_past}
use Rattle.expression_grammar.specs.Sizes.{Fits}
use Rattle.expression_grammar.proofs.Read.{reads_excused}
use Rattle.statement_fits.specs.Sizes.{optional, in_local, in_change, in_start, in_head, Keeps}
use Rattle.statement_fits.proofs.Moves.{Enough}
use Rattle.statement_fits.proofs.Fitting.{less, value_fits, max_left, max_right}
use Rattle.statement_fits.proofs.Locals.{value_read, reads_variable, reads_constant}
use Rattle.statement_fits.proofs.Changes.{reads_change}
use Rattle.statement_fits.proofs.Ahead.{fine_local_ahead}
use Rattle.statement_laws.proofs.Parts.{starts_not, change_begins, type_starts, local_starts}
use Rattle.statement_laws.proofs.Ahead.{reads_ahead}
use Rattle.statement_laws.proofs.Never.{change_never}

no_const : {ts : List Lexed} {at : ℕ} → TypeBegins ts at → sees_word w.Const (first (drop at ts)) ≡ false
no_const b = ap (sees_word w.Const) b.is ∙ b.variable

local_name_begins : {ts : List Lexed} {x : LocalName} {end : Place} {from to : ℕ} → LocalNameAt ts x end from to → (id : Identifier) × NameStands ts from id
local_name_begins (t.alone r n) = declared_begins r
local_name_begins (t.begun r s w) = declared_begins r

semicolon_closes : {ts : List Lexed} {at : ℕ} {p : Place} → Stands ts at (k.Mark m.Semicolon) p → Closes ts at
semicolon_closes {p = p} s = record { mark = m.Semicolon; place = p; is = s; closes = refl }

paren_closes : {ts : List Lexed} {at : ℕ} {p : Place} → Stands ts at (k.Mark m.CloseParen) p → Closes ts at
paren_closes {p = p} s = record { mark = m.CloseParen; place = p; is = s; closes = refl }

module _ (ts : List Lexed) (limits : Limits) (d : ℕ) (u : Enough ts limits d) where
  -- what is looked at ahead passes no limit
  passes : (at seen : ℕ) → IsPast (local_ahead limits ts at seen) → ⊥
  passes at seen p = fine_not_past (λ (a : Seen) (to : ℕ). Unit {0}) (local_ahead limits ts at seen) (fine_local_ahead ts limits u.tokens at seen) p

  -- ---- locals and changes

  reads_local : {x : Local} {from to : ℕ} → LocalAt ts x from to → Closes ts to → Keeps limits d (λ count. in_local count x) → (seen : ℕ) → Reads ⊥ (simple limits d) ts from seen (IsLocal x) to
  unfolding simple
  reads_local {x = x} {from = from} {to = to} (t.variable r v c) z f seen =
      let n = local_name_begins v in
      let a : Simple = IsLocal x in
      reads_next ⊥ ts (λ t. simple_by limits d t (sees_word w.Const t)) from seen a to (first (drop from ts)) (Leave (foresee (local_ahead limits) (either limits d))) refl
      (ap (simple_by limits d (first (drop from ts))) (no_const (type_begins r)))
      (λ s1. let ahead = reads_ahead (Unit {0}) tt ts limits r n.1 s1 in
      reads_foresee_yes ts (local_ahead limits) (either limits d) from s1 ⊥ tt a ahead.0 to (reads_excused ⊥ (local_ahead limits) ts from s1 tt ahead.0 ahead.1 (passes from s1))
      (λ s2. reads_bind ⊥ ts (variable limits d) _ from s2 to to x a (reads_variable ts limits d u r v c z f s2) (λ s3. reads_pure ⊥ ts a to s3)))
  reads_local {x = x} {from = from} {to = to} (t.constant {p = p} s r v c) z f seen =
      let a : Simple = IsLocal x in
      reads_next ⊥ ts (λ t. simple_by limits d t (sees_word w.Const t)) from seen a to (Some (record { kind = k.Word w.Const; place = p; bytes = s.bytes })) (Take (constant limits d p >>= (λ y. pure (IsLocal y)))) s.is refl
      (λ s1. reads_bind ⊥ ts (constant limits d p) _ (from + 1) s1 to to x a (reads_constant ts limits d u p r v c z f s1) (λ s2. reads_pure ⊥ ts a to s2))

  reads_changed : {x : Change} {from to : ℕ} → ChangeAt ts x from to → Closes ts to → Keeps limits d (λ count. in_change count x) → (seen : ℕ) → Reads ⊥ (simple limits d) ts from seen (IsChange x) to
  unfolding simple
  reads_changed {x = x} {from = from} {to = to} r z f seen =
      let a : Simple = IsChange x in
      reads_next ⊥ ts (λ t. simple_by limits d t (sees_word w.Const t)) from seen a to (first (drop from ts)) (Leave (foresee (local_ahead limits) (either limits d))) refl
      (ap (simple_by limits d (first (drop from ts))) (no_const (change_begins r)))
      (λ s1. reads_foresee_no ts (local_ahead limits) (either limits d) from s1 ⊥ (λ (y : Seen) (end : ℕ). ⊥) a to (change_never ts limits r z s1) (λ y end n. n) (passes from s1)
      (λ s2. reads_bind ⊥ ts (change limits d) _ from s2 to to x a (reads_change ts limits d u r z f s2) (λ s3. reads_pure ⊥ ts a to s3)))

  pub reads_local_stat : {x : Local} {p : Place} {from to : ℕ} → LocalAt ts x from to → Stands ts to (k.Mark m.Semicolon) p → Keeps limits d (λ count. in_local count x) → (seen : ℕ) → Reads ⊥ (simple limits d) ts from seen (IsLocal x) to
  reads_local_stat r z f seen = reads_local r (semicolon_closes z) f seen

  pub reads_change_stat : {x : Change} {p : Place} {from to : ℕ} → ChangeAt ts x from to → Stands ts to (k.Mark m.Semicolon) p → Keeps limits d (λ count. in_change count x) → (seen : ℕ) → Reads ⊥ (simple limits d) ts from seen (IsChange x) to
  reads_change_stat r z f seen = reads_changed r (semicolon_closes z) f seen

  -- ---- parts

  pub reads_maybe : {x : Option ExprTree} {p : Place} {from to : ℕ} → MaybeAt ts x from to → Stands ts to (k.Mark m.Semicolon) p → Keeps limits d (λ count. optional count.of_value x) → (seen : ℕ) → Reads ⊥ (maybe limits d) ts from seen x to
  unfolding maybe
  reads_maybe {from = from} t.absent z f seen = reads_next ⊥ ts (λ x. maybe_by limits d (begins x)) from seen None from (first (drop from ts)) (Leave (pure None)) refl
      (ap (maybe_by limits d) (ap begins z.is)) (λ s1. reads_pure ⊥ ts None from s1)
  reads_maybe {from = from} {to = to} (t.present {x = x} v) z f seen = reads_next ⊥ ts (λ x. maybe_by limits d (begins x)) from seen (Some x) to (first (drop from ts)) (maybe_by limits d true) refl
      (ap (maybe_by limits d) (expr_begins v))
      (λ s1. reads_bind ⊥ ts (expressions limits d) _ from s1 to to (x, expr_height x) (Some x) (value_read ts limits v (semicolon_closes z) d s1 u (value_fits limits d x f)) (λ s2. reads_pure ⊥ ts (Some x) to s2))

  pub reads_condition : {x : ExprTree} {from to : ℕ} → ConditionAt ts x from to → Fits limits d x → (seen : ℕ) → Reads ⊥ (condition limits d) ts from seen x to
  unfolding condition
  reads_condition {x = x} {from = from} (t.condition {at = at} {p = p} {q = q} o v c) f seen =
      reads_bind ⊥ ts (expect m.OpenParen) _ from seen (from + 1) (at + 1) p x (reads_expect ⊥ ts m.OpenParen p from seen o)
      (λ s1. reads_bind ⊥ ts (expressions limits d) _ (from + 1) s1 at (at + 1) (x, expr_height x) x (value_read ts limits v (paren_closes c) d s1 u f)
      (λ s2. reads_bind ⊥ ts (expect m.CloseParen) _ at s2 (at + 1) (at + 1) q x (reads_expect ⊥ ts m.CloseParen q at s2 c) (λ s3. reads_pure ⊥ ts x (at + 1) s3)))

  reads_start : {x : LoopStart} {p : Place} {from to : ℕ} → StartAt ts x from to → Stands ts to (k.Mark m.Semicolon) p → Keeps limits d (λ count. in_start count x) → (seen : ℕ) → Reads ⊥ (start limits d) ts from seen x to
  unfolding start
  reads_start {p = p} {from = from} t.nothing z f seen = reads_next ⊥ ts (λ x. start_by limits d (sees m.Semicolon x)) from seen b.Nothing from (first (drop from ts)) (start_by limits d true) refl
      (ap (start_by limits d) (is_there ts m.Semicolon from p z)) (λ s1. reads_pure ⊥ ts b.Nothing from s1)
  reads_start {from = from} {to = to} (t.local {x = x} r) z f seen = reads_next ⊥ ts (λ x. start_by limits d (sees m.Semicolon x)) from seen (b.Local x) to (first (drop from ts)) (start_by limits d false) refl
      (ap (start_by limits d) (starts_not m.Semicolon (local_starts r) (λ q. cc)))
      (λ s1. reads_bind ⊥ ts (simple limits d) _ from s1 to to (IsLocal x) (b.Local x) (reads_local r (semicolon_closes z) f s1) (λ s2. reads_pure ⊥ ts (b.Local x) to s2))
  reads_start {from = from} {to = to} (t.change {x = x} r) z f seen = reads_next ⊥ ts (λ x. start_by limits d (sees m.Semicolon x)) from seen (b.Change x) to (first (drop from ts)) (start_by limits d false) refl
      (ap (start_by limits d) (starts_not m.Semicolon (type_starts (change_begins r)) (λ q. cc)))
      (λ s1. reads_bind ⊥ ts (simple limits d) _ from s1 to to (IsChange x) (b.Change x) (reads_changed r (semicolon_closes z) f s1) (λ s2. reads_pure ⊥ ts (b.Change x) to s2))

  reads_step : {x : Option Change} {p : Place} {from to : ℕ} → StepAt ts x from to → Stands ts to (k.Mark m.CloseParen) p → Keeps limits d (λ count. optional (in_change count) x) → (seen : ℕ) → Reads ⊥ (step limits d) ts from seen x to
  unfolding step
  reads_step {p = p} {from = from} t.absent z f seen = reads_next ⊥ ts (λ x. step_by limits d (sees m.CloseParen x)) from seen None from (first (drop from ts)) (step_by limits d true) refl
      (ap (step_by limits d) (is_there ts m.CloseParen from p z)) (λ s1. reads_pure ⊥ ts None from s1)
  reads_step {from = from} {to = to} (t.present {x = x} r) z f seen = reads_next ⊥ ts (λ x. step_by limits d (sees m.CloseParen x)) from seen (Some x) to (first (drop from ts)) (step_by limits d false) refl
      (ap (step_by limits d) (starts_not m.CloseParen (type_starts (change_begins r)) (λ q. cc)))
      (λ s1. reads_bind ⊥ ts (change limits d) _ from s1 to to x (Some x) (reads_change ts limits d u r (paren_closes z) f s1) (λ s2. reads_pure ⊥ ts (Some x) to s2))

  pub reads_head : {x : LoopStart} {y : Option ExprTree} {z : Option Change} {from to : ℕ} → HeadAt ts x y z from to → Keeps limits d (λ count. in_head count x y z) → (seen : ℕ) → Reads ⊥ (head limits d) ts from seen (x, y, z) to
  unfolding head
  reads_head {x = x} {y = y} {z = z} {from = from} (t.head {mid = mid} {at = at} {to = last} {p = p} {q = q} {r = r} {u = u} o i j v l n c) f seen =
      let f1 = less limits d (λ count. in_start count x) (λ count. in_head count x y z) (λ count. max_left (in_start count x) (max (optional count.of_value y) (optional (in_change count) z))) f in
      let rest = less limits d (λ count. max (optional count.of_value y) (optional (in_change count) z)) (λ count. in_head count x y z) (λ count. max_right (in_start count x) (max (optional count.of_value y) (optional (in_change count) z))) f in
      let f2 = less limits d (λ count. optional count.of_value y) (λ count. max (optional count.of_value y) (optional (in_change count) z)) (λ count. max_left (optional count.of_value y) (optional (in_change count) z)) rest in
      let f3 = less limits d (λ count. optional (in_change count) z) (λ count. max (optional count.of_value y) (optional (in_change count) z)) (λ count. max_right (optional count.of_value y) (optional (in_change count) z)) rest in
      let a : Head limits d = (x, y, z) in
      reads_bind ⊥ ts (expect m.OpenParen) _ from seen (from + 1) (last + 1) p a (reads_expect ⊥ ts m.OpenParen p from seen o)
      (λ s1. reads_bind ⊥ ts (start limits d) _ (from + 1) s1 mid (last + 1) x a (reads_start i j f1 s1)
      (λ s2. reads_bind ⊥ ts (expect m.Semicolon) _ mid s2 (mid + 1) (last + 1) q a (reads_expect ⊥ ts m.Semicolon q mid s2 j)
      (λ s3. reads_bind ⊥ ts (maybe limits d) _ (mid + 1) s3 at (last + 1) y a (reads_maybe v l f2 s3)
      (λ s4. reads_bind ⊥ ts (expect m.Semicolon) _ at s4 (at + 1) (last + 1) r a (reads_expect ⊥ ts m.Semicolon r at s4 l)
      (λ s5. reads_bind ⊥ ts (step limits d) _ (at + 1) s5 last (last + 1) z a (reads_step n c f3 s5)
      (λ s6. reads_bind ⊥ ts (expect m.CloseParen) _ last s6 (last + 1) (last + 1) u a (reads_expect ⊥ ts m.CloseParen u last s6 c) (λ s7. reads_pure ⊥ ts a (last + 1) s7)))))))
