-- Changes: what is spelled is read, but where a limit is passed.
use Rattle.std.proofs.Common.{Bool, true, false, ◌≡◌, ℕ, ◌+◌, ◌&&◌, ◌==◌, List, drop, Option, Some, None, refl, sym, ◌∙◌, ap, eq-eqb}
use Rattle.slang_names.specs.declared.places.Place.{Place}
use Rattle.slang_tree.specs.declared.expressions.BinaryOperator.{BinaryOperator}
use Rattle.slang_tree.specs.declared.expressions.BinaryOperator.TheVariants as o
use Rattle.slang_tree.specs.declared.expressions.ExprTree.{ExprTree}
use Rattle.slang_tree.specs.declared.statements.Change.{Change}
use Rattle.slang_tree.specs.declared.statements.ChangeNode.TheVariants as c
use Rattle.slang_tokens.specs.declared.tokens.Kind.{Kind}
use Rattle.slang_tokens.specs.declared.tokens.Kind.TheVariants as k
use Rattle.slang_tokens.specs.declared.tokens.Mark.{Mark}
use Rattle.slang_tokens.specs.declared.tokens.Mark.TheVariants as m
use Rattle.slang_reading.specs.Lexed.{Lexed}
use Rattle.slang_reading.specs.Reading.{Leave, Take, first, pure}
use Rattle.slang_reading.specs.Kinds.{is_mark, span}
use Rattle.slang_reading.proofs.Marks.{mark_sees}
use Rattle.slang_reading.proofs.Exact.{Reads, reads_pure, reads_bind, reads_next}
use Rattle.slang_grammar.specs.Standing.{Stands}
use Rattle.slang_grammar.specs.Expressions.{ExprAt, PostfixAt}
use Rattle.slang_grammar.specs.Descent.{Limits}
use Rattle.slang_grammar.specs.ExpressionsDescent.{joined, expressions}
use Rattle.expression_grammar.specs.Heights.{expr_height}
use Rattle.statement_grammar.specs.Statements as t
use Rattle.statement_grammar.specs.Statements.{changed, assigned, AssignAt, is_call, ChangeAt}
use Rattle.statement_grammar.specs.StatementsDescent.{operand_by, operand_begins, operands, assign, shift_last_by, shift_last, shift_by, shift_assign, called, change_as, change_at, change_rest, step_before, place_change, begin_as, begin_kind, begin_at, change}
use Rattle.statement_grammar.proofs.Begins.{Closes, closer_ends, operand_changes, postfix_operand}
use Rattle.statement_laws.proofs.Operands.{reads_whole, reads_operands}
use Rattle.statement_laws.proofs.Behind.{Behind, closes_behind, step_behind, assign_behind, behind_in, closes_on}

both : (a b : Bool) → a ≡ true → b ≡ true → (a && b) ≡ true
both true b e f = f
both false b e f = cc

-- a mark directly behind that place
is_joined : (ts : List Lexed) (mark : Mark) (at : ℕ) (p q : Place) → Stands ts at (k.Mark mark) q → p.end ≡ q.start → joined mark p (first (drop at ts)) ≡ true
is_joined ts mark at p q s j = ap (joined mark p) s.is ∙
    both (is_mark mark (k.Mark mark)) (p.end == q.start) (mark_sees mark (record { kind = k.Mark mark; place = q; bytes = s.bytes }) refl) (eq-eqb p.end q.start j)

-- E holds, and any limit may be passed
module _ (E : Type 0) (e : E) (ts : List Lexed) (limits : Limits) (d : ℕ) where
  reads_assign : (x : ExprTree) (op : Option BinaryOperator) {y : ExprTree} {from to : ℕ} → ExprAt ts y from to → Closes ts to → (seen : ℕ) →
      Reads E (assign limits d x op) ts from seen (changed (span x.place y.place) (assigned op x y)) to
  unfolding assign
  reads_assign x op {y = y} {from = from} {to = to} v z seen = let a = changed (span x.place y.place) (assigned op x y) in
      reads_bind E ts (expressions limits d) _ from seen to to (y, expr_height y) a (reads_whole E e ts limits v (closes_on z) d seen) (λ s1. reads_pure E ts a to s1)

  reads_shift : (x : ExprTree) (p : Place) (from : ℕ) {y : ExprTree} {q r : Place} {to : ℕ} → Stands ts (from + 1) (k.Mark m.Greater) q → p.end ≡ q.start → Stands ts (from + 1 + 1) (k.Mark m.Equal) r → q.end ≡ r.start →
      ExprAt ts y (from + 1 + 1 + 1) to → Closes ts to → (seen : ℕ) → Reads E (shift_assign limits d x p) ts (from + 1) seen (changed (span x.place y.place) (c.Update o.ShiftRight x y)) to
  unfolding shift_assign shift_last
  reads_shift x p from {y = y} {q = q} {r = r} {to = to} s j u l v z seen = let a = changed (span x.place y.place) (c.Update o.ShiftRight x y) in
      let tok : Lexed = record { kind = k.Mark m.Greater; place = q; bytes = s.bytes } in
      let tok2 : Lexed = record { kind = k.Mark m.Equal; place = r; bytes = u.bytes } in
      reads_next E ts (λ t. shift_by limits d x t (joined m.Greater p t)) (from + 1) seen a to (Some tok) (Take (shift_last limits d x q)) s.is
      (ap (shift_by limits d x (Some tok)) (ap (joined m.Greater p) (sym s.is) ∙ is_joined ts m.Greater (from + 1) p q s j))
      (λ s1. reads_next E ts (λ t. shift_last_by limits d x (joined m.Equal q t)) (from + 1 + 1) s1 a to (Some tok2) (Take (assign limits d x (Some o.ShiftRight))) u.is
      (ap (shift_last_by limits d x) (ap (joined m.Equal q) (sym u.is) ∙ is_joined ts m.Equal (from + 1 + 1) q r u l))
      (λ s2. reads_assign x (Some o.ShiftRight) v z s2))

  -- behind the place of an assignment
  reads_assigned : (x : ExprTree) {y : ExprTree} {op : Option BinaryOperator} {from at to : ℕ} → AssignAt ts op from at → ExprAt ts y at to → Closes ts to → (seen : ℕ) →
      Reads E (change_rest limits d x) ts from seen (changed (span x.place y.place) (assigned op x y)) to
  unfolding change_rest
  reads_assigned x {y = y} {from = from} {to = to} (t.assign {p = p} s) v z seen =
      reads_next E ts (change_at limits d x) from seen (changed (span x.place y.place) (c.Assign x y)) to (Some (record { kind = k.Mark m.Equal; place = p; bytes = s.bytes })) (Take (assign limits d x None)) s.is refl
      (λ s1. reads_assign x None v z s1)
  reads_assigned x {y = y} {from = from} {to = to} (t.update {p = p} {x = mark} {op = op} s q) v z seen = let tok : Lexed = record { kind = k.Mark mark; place = p; bytes = s.bytes } in
      reads_next E ts (change_at limits d x) from seen (changed (span x.place y.place) (c.Update op x y)) to (Some tok) (Take (assign limits d x (Some op))) s.is (ap (change_as limits d x tok) q)
      (λ s1. reads_assign x (Some op) v z s1)
  reads_assigned x {y = y} {from = from} {to = to} (t.shift_right {p = p} s u j w l) v z seen =
      reads_next E ts (change_at limits d x) from seen (changed (span x.place y.place) (c.Update o.ShiftRight x y)) to (Some (record { kind = k.Mark m.Greater; place = p; bytes = s.bytes })) (Take (shift_assign limits d x p)) s.is refl
      (λ s1. reads_shift x p from u j w l v z s1)

  -- a change that begins with a place or is a call
  begins_place : (x : Option Lexed) → operand_begins x ≡ true → begin_at limits d x ≡ Leave (place_change limits d)
  begins_place None q = refl
  begins_place (Some tok) q = by tok.kind q
    where
      by : (kind : Kind) → operand_by kind ≡ true → begin_kind limits d tok kind ≡ Leave (place_change limits d)
      by k.Name q = refl
      by (k.Word word) q = refl
      by (k.Number v) q = refl
      by k.String q = refl
      by (k.Mark mark) q = ap (begin_as limits d tok) (operand_changes mark q)

  reads_place : {x : ExprTree} {from mid to : ℕ} (a : Change) → PostfixAt ts x from mid → Behind ts mid → ((s1 : ℕ) → Reads E (change_rest limits d x) ts mid s1 a to) → (seen : ℕ) → Reads E (change limits d) ts from seen a to
  unfolding change place_change
  reads_place {x = x} {from = from} {mid = mid} {to = to} a r b rest seen =
      reads_next E ts (begin_at limits d) from seen a to (first (drop from ts)) (Leave (place_change limits d)) refl (begins_place (first (drop from ts)) (postfix_operand r))
      (λ s1. reads_bind E ts (operands limits d) _ from s1 mid to (x, expr_height x) a (reads_operands E e ts limits r (behind_in b) d s1) rest)

  pub reads_change : {x : Change} {from to : ℕ} → ChangeAt ts x from to → Closes ts to → (seen : ℕ) → Reads E (change limits d) ts from seen x to
  unfolding change step_before change_rest
  reads_change (t.assignment {x = x} {y = y} {op = op} r s v) z seen = reads_place (changed (span x.place y.place) (assigned op x y)) r (assign_behind s) (λ s1. reads_assigned x s v z s1) seen
  reads_change {from = from} {to = to} (t.step_before {p = p} {x = x} {mark = mark} {step = step} s q r) z seen =
      let a = changed (span p x.place) (c.StepBefore step x) in
      let tok : Lexed = record { kind = k.Mark mark; place = p; bytes = s.bytes } in
      reads_next E ts (begin_at limits d) from seen a to (Some tok) (Take (step_before limits d p step)) s.is (ap (begin_as limits d tok) q)
      (λ s1. reads_bind E ts (operands limits d) _ (from + 1) s1 to to (x, expr_height x) a (reads_operands E e ts limits r (behind_in (closes_behind z)) d s1) (λ s2. reads_pure E ts a to s2))
  reads_change (t.step_behind {at = at} {p = p} {x = x} {mark = mark} {step = step} r s q) z seen =
      let a = changed (span x.place p) (c.StepBehind x step) in
      let tok : Lexed = record { kind = k.Mark mark; place = p; bytes = s.bytes } in
      reads_place a r (step_behind mark p step s q)
      (λ s1. reads_next E ts (change_at limits d x) at s1 a (at + 1) (Some tok) (Take (pure a)) s.is (ap (change_as limits d x tok) q) (λ s2. reads_pure E ts a (at + 1) s2)) seen
  reads_change {to = to} (t.call {x = x} r q) z seen =
      let a = changed x.place (c.Call x) in
      let tok : Lexed = record { kind = k.Mark z.mark; place = z.place; bytes = z.is.bytes } in
      reads_place a r (closes_behind z)
      (λ s1. reads_next E ts (change_at limits d x) to s1 a to (Some tok) (Leave (pure a)) z.is.is (ap (change_as limits d x tok) (closer_ends z.mark z.closes) ∙ ap (called limits d x) q) (λ s2. reads_pure E ts a to s2)) seen
