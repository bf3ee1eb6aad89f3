-- Locals and the parts of statements: what is spelled is read, but where a limit is passed.
use Rattle.std.proofs.Common.{Bool, true, false, ◌≡◌, ℕ, ◌+◌, List, drop, Option, Some, None, refl, sym, ◌∙◌, ap}
use Rattle.slang_tree.specs.declared.types.Identifier.{Identifier}
use Rattle.slang_names.specs.declared.places.Place.{Place}
use Rattle.slang_tree.specs.declared.expressions.ExprTree.{ExprTree}
use Rattle.slang_tree.specs.declared.statements.LocalName.{LocalName}
use Rattle.slang_tree.specs.declared.statements.Local.{Local}
use Rattle.slang_tree.specs.declared.statements.Change.{Change}
use Rattle.slang_tree.specs.declared.statements.LoopStart.{LoopStart}
use Rattle.slang_tree.specs.declared.statements.LoopStart.TheVariants as b
use Rattle.slang_tokens.specs.declared.tokens.Kind.TheVariants as k
use Rattle.slang_tokens.specs.declared.tokens.Mark.{Mark}
use Rattle.slang_tokens.specs.declared.tokens.Mark.TheVariants as m
use Rattle.slang_tokens.specs.declared.tokens.Word.TheVariants as w
use Rattle.slang_reading.specs.Lexed.{Lexed}
use Rattle.slang_reading.specs.Reading.{◌>>=◌, Leave, Take, first, pure, foresee}
use Rattle.slang_reading.specs.Kinds.{is_word, sees, sees_word}
use Rattle.slang_reading.proofs.Marks.{mark_is, word_is}
use Rattle.slang_reading.proofs.Exact.{Reads, reads_pure, reads_bind, reads_next, reads_foresee_yes, reads_foresee_no}
use Rattle.slang_grammar.specs.Standing.{Stands, NameStands}
use Rattle.slang_grammar.specs.Expressions.{ExprAt, PostfixAt}
use Rattle.slang_grammar.specs.Descent.{Limits, expect}
use Rattle.slang_grammar.specs.ExpressionsDescent.{begins, expressions}
use Rattle.slang_grammar.proofs.Shared.{reads_expect, is_there}
use Rattle.expression_grammar.specs.Heights.{expr_height}
use Rattle.statement_grammar.specs.declared.tables.StatementUse.{StatementUse}
use Rattle.statement_grammar.specs.declared.tables.StatementUse.TheVariants as u
use Rattle.statement_grammar.specs.Tables.{statement_use}
use Rattle.statement_grammar.specs.Statements as t
use Rattle.statement_grammar.specs.Statements.{LocalNameAt, LocalAt, ChangeAt, MaybeAt, StartAt, StepAt, HeadAt, ConditionAt}
use Rattle.statement_grammar.specs.LocalsAhead.{Seen, local_ahead}
use Rattle.statement_grammar.specs.StatementsDescent.{operand_by, operand_begins, Simple, IsLocal, IsChange, variable, constant, change, either, simple_by, simple, maybe_by, maybe, condition, start_by, start, step_by, step, Head, head}
use Rattle.statement_grammar.proofs.Begins.{Closes, operand_simple, postfix_operand, step_begins, expr_begins, TypeBegins, type_begins}
use Rattle.statement_grammar.proofs.LocalsRead.{declared_begins, reads_variable, reads_constant}
use Rattle.statement_laws.proofs.Operands.{reads_whole}
use Rattle.statement_laws.proofs.Behind.{closes_on}
use Rattle.statement_laws.proofs.Changes.{reads_change}
use Rattle.statement_laws.proofs.Ahead.{reads_ahead}
use Rattle.statement_laws.proofs.Never.{change_never}

-- ---- what locals and changes begin with

-- a token of that use begins what stands there
pub record Starts (ts : List Lexed) (at : ℕ) (use_ : StatementUse) : Type 0 where
  pub tok : Lexed
  pub is : first (drop at ts) ≡ Some tok
  pub serves : statement_use tok.kind ≡ use_

-- a mark of another use does not stand there
pub starts_not : {ts : List Lexed} {at : ℕ} {use_ : StatementUse} (mark : Mark) → Starts ts at use_ → (statement_use (k.Mark mark) ≡ use_ → ⊥) → sees mark (first (drop at ts)) ≡ false
starts_not mark s n = ap (sees mark) s.is ∙ by (sees mark (Some s.tok)) refl
  where
    by : (c : Bool) → sees mark (Some s.tok) ≡ c → c ≡ false
    by true q = absurd (n (sym (ap statement_use (mark_is mark s.tok.kind q)) ∙ s.serves))
    by false q = refl

-- no expression begins with `const`
operand_token : {ts : List Lexed} {at : ℕ} (x : Option Lexed) → first (drop at ts) ≡ x → operand_begins x ≡ true → TypeBegins ts at
operand_token (Some tok) e q = record { tok = tok; is = e; simple = operand_simple tok.kind q; variable = by (is_word w.Const tok.kind) refl }
  where
    by : (c : Bool) → is_word w.Const tok.kind ≡ c → c ≡ false
    by true d = let z = sym q ∙ ap operand_by (word_is w.Const tok.kind d) in cc
    by false d = refl
operand_token None e q = cc

postfix_token : {ts : List Lexed} {x : ExprTree} {from to : ℕ} → PostfixAt ts x from to → TypeBegins ts from
postfix_token {ts = ts} {from = from} r = operand_token (first (drop from ts)) refl (postfix_operand r)

-- the token with which a change begins
pub change_begins : {ts : List Lexed} {x : Change} {from to : ℕ} → ChangeAt ts x from to → TypeBegins ts from
change_begins (t.assignment r s v) = postfix_token r
change_begins (t.step_before {p = p} {mark = mark} {step = step} s q r) = record { tok = record { kind = k.Mark mark; place = p; bytes = s.bytes }; is = s.is; simple = step_begins mark step q; variable = refl }
change_begins (t.step_behind r s q) = postfix_token r
change_begins (t.call r q) = postfix_token r

pub type_starts : {ts : List Lexed} {at : ℕ} → TypeBegins ts at → Starts ts at u.Simple
type_starts b = record { tok = b.tok; is = b.is; serves = b.simple }

pub local_starts : {ts : List Lexed} {x : Local} {from to : ℕ} → LocalAt ts x from to → Starts ts from u.Simple
local_starts (t.variable r v c) = type_starts (type_begins r)
local_starts (t.constant {p = p} s r v c) = record { tok = record { kind = k.Word w.Const; place = p; bytes = s.bytes }; is = s.is; serves = refl }

no_const : {ts : List Lexed} {at : ℕ} → TypeBegins ts at → sees_word w.Const (first (drop at ts)) ≡ false
no_const b = ap (sees_word w.Const) b.is ∙ b.variable

local_name_begins : {ts : List Lexed} {x : LocalName} {end : Place} {from to : ℕ} → LocalNameAt ts x end from to → (id : Identifier) × NameStands ts from id
local_name_begins (t.alone r n) = declared_begins r
local_name_begins (t.begun r s w) = declared_begins r

semicolon_closes : {ts : List Lexed} {at : ℕ} {p : Place} → Stands ts at (k.Mark m.Semicolon) p → Closes ts at
semicolon_closes {p = p} s = record { mark = m.Semicolon; place = p; is = s; closes = refl }

paren_closes : {ts : List Lexed} {at : ℕ} {p : Place} → Stands ts at (k.Mark m.CloseParen) p → Closes ts at
paren_closes {p = p} s = record { mark = m.CloseParen; place = p; is = s; closes = refl }

-- E holds, and any limit may be passed
module _ (E : Type 0) (e : E) (ts : List Lexed) (limits : Limits) (d : ℕ) where
  reads_expression : (x : ExprTree) (from to : ℕ) → ExprAt ts x from to → Closes ts to → (d1 seen : ℕ) → Reads E (expressions limits d1) ts from seen (x, expr_height x) to
  reads_expression x from to v c d1 seen = reads_whole E e ts limits v (closes_on c) d1 seen

  -- ---- locals and changes

  reads_local : {x : Local} {from to : ℕ} → LocalAt ts x from to → Closes ts to → (seen : ℕ) → Reads E (simple limits d) ts from seen (IsLocal x) to
  unfolding simple
  reads_local {x = x} {from = from} {to = to} (t.variable r v c) z seen =
      let n = local_name_begins v in
      let a : Simple = IsLocal x in
      reads_next E ts (λ t. simple_by limits d t (sees_word w.Const t)) from seen a to (first (drop from ts)) (Leave (foresee (local_ahead limits) (either limits d))) refl
      (ap (simple_by limits d (first (drop from ts))) (no_const (type_begins r)))
      (λ s1. let ahead = reads_ahead E e ts limits r n.1 s1 in
      reads_foresee_yes ts (local_ahead limits) (either limits d) from s1 E tt a ahead.0 to ahead.1
      (λ s2. reads_bind E ts (variable limits d) _ from s2 to to x a (reads_variable E e ts limits expr_height reads_expression d r v c z s2) (λ s3. reads_pure E ts a to s3)))
  reads_local {x = x} {from = from} {to = to} (t.constant {p = p} s r v c) z seen =
      let a : Simple = IsLocal x in
      reads_next E ts (λ t. simple_by limits d t (sees_word w.Const t)) from seen a to (Some (record { kind = k.Word w.Const; place = p; bytes = s.bytes })) (Take (constant limits d p >>= (λ y. pure (IsLocal y)))) s.is refl
      (λ s1. reads_bind E ts (constant limits d p) _ (from + 1) s1 to to x a (reads_constant E e ts limits expr_height reads_expression d p r v c z s1) (λ s2. reads_pure E ts a to s2))

  reads_changed : {x : Change} {from to : ℕ} → ChangeAt ts x from to → Closes ts to → (seen : ℕ) → Reads E (simple limits d) ts from seen (IsChange x) to
  unfolding simple
  reads_changed {x = x} {from = from} {to = to} r z seen =
      let a : Simple = IsChange x in
      reads_next E ts (λ t. simple_by limits d t (sees_word w.Const t)) from seen a to (first (drop from ts)) (Leave (foresee (local_ahead limits) (either limits d))) refl
      (ap (simple_by limits d (first (drop from ts))) (no_const (change_begins r)))
      (λ s1. reads_foresee_no ts (local_ahead limits) (either limits d) from s1 E (λ (y : Seen) (end : ℕ). ⊥) a to (change_never ts limits r z s1) (λ y end n. n) (λ p. e)
      (λ s2. reads_bind E ts (change limits d) _ from s2 to to x a (reads_change E e ts limits d r z s2) (λ s3. reads_pure E ts a to s3)))

  pub reads_local_stat : {x : Local} {p : Place} {from to : ℕ} → LocalAt ts x from to → Stands ts to (k.Mark m.Semicolon) p → (seen : ℕ) → Reads E (simple limits d) ts from seen (IsLocal x) to
  reads_local_stat r z seen = reads_local r (semicolon_closes z) seen

  pub reads_change_stat : {x : Change} {p : Place} {from to : ℕ} → ChangeAt ts x from to → Stands ts to (k.Mark m.Semicolon) p → (seen : ℕ) → Reads E (simple limits d) ts from seen (IsChange x) to
  reads_change_stat r z seen = reads_changed r (semicolon_closes z) seen

  -- ---- parts

  pub reads_maybe : {x : Option ExprTree} {p : Place} {from to : ℕ} → MaybeAt ts x from to → Stands ts to (k.Mark m.Semicolon) p → (seen : ℕ) → Reads E (maybe limits d) ts from seen x to
  unfolding maybe
  reads_maybe {from = from} t.absent z seen = reads_next E ts (λ x. maybe_by limits d (begins x)) from seen None from (first (drop from ts)) (Leave (pure None)) refl
      (ap (maybe_by limits d) (ap begins z.is)) (λ s1. reads_pure E ts None from s1)
  reads_maybe {from = from} {to = to} (t.present {x = x} v) z seen = reads_next E ts (λ x. maybe_by limits d (begins x)) from seen (Some x) to (first (drop from ts)) (maybe_by limits d true) refl
      (ap (maybe_by limits d) (expr_begins v))
      (λ s1. reads_bind E ts (expressions limits d) _ from s1 to to (x, expr_height x) (Some x) (reads_expression x from to v (semicolon_closes z) d s1) (λ s2. reads_pure E ts (Some x) to s2))

  pub reads_condition : {x : ExprTree} {from to : ℕ} → ConditionAt ts x from to → (seen : ℕ) → Reads E (condition limits d) ts from seen x to
  unfolding condition
  reads_condition {x = x} {from = from} (t.condition {at = at} {p = p} {q = q} o v c) seen =
      reads_bind E ts (expect m.OpenParen) _ from seen (from + 1) (at + 1) p x (reads_expect E ts m.OpenParen p from seen o)
      (λ s1. reads_bind E ts (expressions limits d) _ (from + 1) s1 at (at + 1) (x, expr_height x) x (reads_expression x (from + 1) at v (paren_closes c) d s1)
      (λ s2. reads_bind E ts (expect m.CloseParen) _ at s2 (at + 1) (at + 1) q x (reads_expect E ts m.CloseParen q at s2 c) (λ s3. reads_pure E ts x (at + 1) s3)))

  reads_start : {x : LoopStart} {p : Place} {from to : ℕ} → StartAt ts x from to → Stands ts to (k.Mark m.Semicolon) p → (seen : ℕ) → Reads E (start limits d) ts from seen x to
  unfolding start
  reads_start {p = p} {from = from} t.nothing z seen = reads_next E ts (λ x. start_by limits d (sees m.Semicolon x)) from seen b.Nothing from (first (drop from ts)) (start_by limits d true) refl
      (ap (start_by limits d) (is_there ts m.Semicolon from p z)) (λ s1. reads_pure E ts b.Nothing from s1)
  reads_start {from = from} {to = to} (t.local {x = x} r) z seen = reads_next E ts (λ x. start_by limits d (sees m.Semicolon x)) from seen (b.Local x) to (first (drop from ts)) (start_by limits d false) refl
      (ap (start_by limits d) (starts_not m.Semicolon (local_starts r) (λ q. cc)))
      (λ s1. reads_bind E ts (simple limits d) _ from s1 to to (IsLocal x) (b.Local x) (reads_local r (semicolon_closes z) s1) (λ s2. reads_pure E ts (b.Local x) to s2))
  reads_start {from = from} {to = to} (t.change {x = x} r) z seen = reads_next E ts (λ x. start_by limits d (sees m.Semicolon x)) from seen (b.Change x) to (first (drop from ts)) (start_by limits d false) refl
      (ap (start_by limits d) (starts_not m.Semicolon (type_starts (change_begins r)) (λ q. cc)))
      (λ s1. reads_bind E ts (simple limits d) _ from s1 to to (IsChange x) (b.Change x) (reads_changed r (semicolon_closes z) s1) (λ s2. reads_pure E ts (b.Change x) to s2))

  reads_step : {x : Option Change} {p : Place} {from to : ℕ} → StepAt ts x from to → Stands ts to (k.Mark m.CloseParen) p → (seen : ℕ) → Reads E (step limits d) ts from seen x to
  unfolding step
  reads_step {p = p} {from = from} t.absent z seen = reads_next E ts (λ x. step_by limits d (sees m.CloseParen x)) from seen None from (first (drop from ts)) (step_by limits d true) refl
      (ap (step_by limits d) (is_there ts m.CloseParen from p z)) (λ s1. reads_pure E ts None from s1)
  reads_step {from = from} {to = to} (t.present {x = x} r) z seen = reads_next E ts (λ x. step_by limits d (sees m.CloseParen x)) from seen (Some x) to (first (drop from ts)) (step_by limits d false) refl
      (ap (step_by limits d) (starts_not m.CloseParen (type_starts (change_begins r)) (λ q. cc)))
      (λ s1. reads_bind E ts (change limits d) _ from s1 to to x (Some x) (reads_change E e ts limits d r (paren_closes z) s1) (λ s2. reads_pure E ts (Some x) to s2))

  pub reads_head : {x : LoopStart} {y : Option ExprTree} {z : Option Change} {from to : ℕ} → HeadAt ts x y z from to → (seen : ℕ) → Reads E (head limits d) ts from seen (x, y, z) to
  unfolding head
  reads_head {x = x} {y = y} {z = z} {from = from} (t.head {mid = mid} {at = at} {to = last} {p = p} {q = q} {r = r} {u = u} o i j v l n c) seen =
      let a : Head limits d = (x, y, z) in
      reads_bind E ts (expect m.OpenParen) _ from seen (from + 1) (last + 1) p a (reads_expect E ts m.OpenParen p from seen o)
      (λ s1. reads_bind E ts (start limits d) _ (from + 1) s1 mid (last + 1) x a (reads_start i j s1)
      (λ s2. reads_bind E ts (expect m.Semicolon) _ mid s2 (mid + 1) (last + 1) q a (reads_expect E ts m.Semicolon q mid s2 j)
      (λ s3. reads_bind E ts (maybe limits d) _ (mid + 1) s3 at (last + 1) y a (reads_maybe v l s3)
      (λ s4. reads_bind E ts (expect m.Semicolon) _ at s4 (at + 1) (last + 1) r a (reads_expect E ts m.Semicolon r at s4 l)
      (λ s5. reads_bind E ts (step limits d) _ (at + 1) s5 last (last + 1) z a (reads_step n c s5)
      (λ s6. reads_bind E ts (expect m.CloseParen) _ last s6 (last + 1) (last + 1) u a (reads_expect E ts m.CloseParen u last s6 c) (λ s7. reads_pure E ts a (last + 1) s7)))))))
