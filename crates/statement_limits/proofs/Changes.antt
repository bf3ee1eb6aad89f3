-- Changes: the first limit that is broken is told.
use Rattle.std.proofs.Common.{Bool, true, false, ◌≡◌, ℕ, ◌+◌, ◌≤◌, ◌&&◌, ◌==◌, List, ◌++◌, drop, length, Option, Some, None, refl, sym, ◌∙◌, ap, eq-eqb}
use Rattle.slang_names.specs.declared.places.Place.{Place}
use Rattle.slang_tree.specs.declared.expressions.BinaryOperator.{BinaryOperator}
use Rattle.slang_tree.specs.declared.expressions.BinaryOperator.TheVariants as o
use Rattle.slang_tree.specs.declared.expressions.ExprTree.{ExprTree}
use Rattle.slang_tree.specs.declared.statements.Change.{Change}
use Rattle.slang_tree.specs.declared.statements.ChangeNode.TheVariants as c
use Rattle.slang_tokens.specs.declared.tokens.Kind.{Kind}
use Rattle.slang_tokens.specs.declared.tokens.Kind.TheVariants as k
use Rattle.slang_tokens.specs.declared.tokens.Mark.{Mark}
use Rattle.slang_tokens.specs.declared.tokens.Mark.TheVariants as m
use Rattle.slang_reading.specs.Lexed.{Lexed}
use Rattle.slang_reading.specs.Reading.{Leave, Take, first, pure}
use Rattle.slang_reading.specs.Kinds.{is_mark, span}
use Rattle.slang_reading.proofs.Marks.{mark_sees}
use Rattle.slang_reading.proofs.Exact.{Reads, reads_pure, reads_next}
use Rattle.slang_grammar.specs.Standing.{Stands}
use Rattle.slang_grammar.specs.Expressions.{ExprAt, PostfixAt}
use Rattle.slang_grammar.specs.Descent.{Limits}
use Rattle.slang_grammar.specs.ExpressionsDescent.{joined, expressions}
use Rattle.expression_grammar.specs.Heights.{expr_height}
use Rattle.statement_grammar.specs.Statements as t
use Rattle.statement_grammar.specs.Statements.{changed, assigned, AssignAt, is_call, ChangeAt}
use Rattle.statement_grammar.specs.StatementsDescent.{operand_by, operand_begins, operands, assign, shift_last_by, shift_last, shift_by, shift_assign, called, change_as, change_at, change_rest, step_before, place_change, begin_as, begin_kind, begin_at, change}
use Rattle.statement_grammar.proofs.Begins.{Closes, closer_ends, operand_changes, postfix_operand}
use Rattle.statement_laws.proofs.Behind.{Behind, closes_behind, step_behind, assign_behind, behind_in}
use Rattle.expression_limits.specs.Breaks.{Break}
use Rattle.expression_limits.specs.Expressions.{expr_breaks, postfix_breaks}
use Rattle.expression_limits.proofs.Telling.{Tells, tells_bind, tells_last, tells_next}
use Rattle.statement_limits.specs.Locals.{change_breaks}
use Rattle.statement_limits.proofs.Locals.{tells_value}
use Rattle.statement_limits.proofs.Operands.{tells_operands}

both : (a b : Bool) → a ≡ true → b ≡ true → (a && b) ≡ true
both true b e f = f
both false b e f = cc

-- a mark directly behind that place
is_joined : (ts : List Lexed) (mark : Mark) (at : ℕ) (p q : Place) → Stands ts at (k.Mark mark) q → p.end ≡ q.start → joined mark p (first (drop at ts)) ≡ true
is_joined ts mark at p q s j = ap (joined mark p) s.is ∙
    both (is_mark mark (k.Mark mark)) (p.end == q.start) (mark_sees mark (record { kind = k.Mark mark; place = q; bytes = s.bytes }) refl) (eq-eqb p.end q.start j)

module _ (ts : List Lexed) (limits : Limits) (free : limits.free ≡ false) (long : length ts ≤ limits.turns) (d : ℕ) where
  tells_assign : (x : ExprTree) (op : Option BinaryOperator) {y : ExprTree} {from to : ℕ} → (v : ExprAt ts y from to) → Closes ts to → (seen : ℕ) →
      Tells (expr_breaks ts limits v d) (assign limits d x op) ts from seen (changed (span x.place y.place) (assigned op x y)) to
  unfolding assign
  tells_assign x op {y = y} {from = from} {to = to} v z seen = let a = changed (span x.place y.place) (assigned op x y) in
      tells_last ts (expressions limits d) _ from seen to to (y, expr_height y) a (tells_value ts limits free long v z d seen) (λ s1. reads_pure ⊥ ts a to s1)

  tells_shift : (x : ExprTree) (p : Place) (from : ℕ) {y : ExprTree} {q r : Place} {to : ℕ} → Stands ts (from + 1) (k.Mark m.Greater) q → p.end ≡ q.start → Stands ts (from + 1 + 1) (k.Mark m.Equal) r → q.end ≡ r.start →
      (v : ExprAt ts y (from + 1 + 1 + 1) to) → Closes ts to → (seen : ℕ) → Tells (expr_breaks ts limits v d) (shift_assign limits d x p) ts (from + 1) seen (changed (span x.place y.place) (c.Update o.ShiftRight x y)) to
  unfolding shift_assign shift_last
  tells_shift x p from {y = y} {q = q} {r = r} {to = to} s j i l v z seen = let a = changed (span x.place y.place) (c.Update o.ShiftRight x y) in
      let tok : Lexed = record { kind = k.Mark m.Greater; place = q; bytes = s.bytes } in
      let tok2 : Lexed = record { kind = k.Mark m.Equal; place = r; bytes = i.bytes } in
      tells_next ts (λ t. shift_by limits d x t (joined m.Greater p t)) (from + 1) seen a to (Some tok) (Take (shift_last limits d x q)) s.is
      (ap (shift_by limits d x (Some tok)) (ap (joined m.Greater p) (sym s.is) ∙ is_joined ts m.Greater (from + 1) p q s j))
      (λ s1. tells_next ts (λ t. shift_last_by limits d x (joined m.Equal q t)) (from + 1 + 1) s1 a to (Some tok2) (Take (assign limits d x (Some o.ShiftRight))) i.is
      (ap (shift_last_by limits d x) (ap (joined m.Equal q) (sym i.is) ∙ is_joined ts m.Equal (from + 1 + 1) q r i l))
      (λ s2. tells_assign x (Some o.ShiftRight) v z s2))

  -- behind the place of an assignment
  tells_assigned : (x : ExprTree) {y : ExprTree} {op : Option BinaryOperator} {from at to : ℕ} → AssignAt ts op from at → (v : ExprAt ts y at to) → Closes ts to → (seen : ℕ) →
      Tells (expr_breaks ts limits v d) (change_rest limits d x) ts from seen (changed (span x.place y.place) (assigned op x y)) to
  unfolding change_rest
  tells_assigned x {y = y} {from = from} {to = to} (t.assign {p = p} s) v z seen =
      tells_next ts (change_at limits d x) from seen (changed (span x.place y.place) (c.Assign x y)) to (Some (record { kind = k.Mark m.Equal; place = p; bytes = s.bytes })) (Take (assign limits d x None)) s.is refl
      (λ s1. tells_assign x None v z s1)
  tells_assigned x {y = y} {from = from} {to = to} (t.update {p = p} {x = mark} {op = op} s q) v z seen = let tok : Lexed = record { kind = k.Mark mark; place = p; bytes = s.bytes } in
      tells_next ts (change_at limits d x) from seen (changed (span x.place y.place) (c.Update op x y)) to (Some tok) (Take (assign limits d x (Some op))) s.is (ap (change_as limits d x tok) q)
      (λ s1. tells_assign x (Some op) v z s1)
  tells_assigned x {y = y} {from = from} {to = to} (t.shift_right {p = p} s i j w l) v z seen =
      tells_next ts (change_at limits d x) from seen (changed (span x.place y.place) (c.Update o.ShiftRight x y)) to (Some (record { kind = k.Mark m.Greater; place = p; bytes = s.bytes })) (Take (shift_assign limits d x p)) s.is refl
      (λ s1. tells_shift x p from i j w l v z s1)

  -- a change that begins with a place or is a call
  begins_place : (x : Option Lexed) → operand_begins x ≡ true → begin_at limits d x ≡ Leave (place_change limits d)
  begins_place None q = refl
  begins_place (Some tok) q = by tok.kind q
    where
      by : (kind : Kind) → operand_by kind ≡ true → begin_kind limits d tok kind ≡ Leave (place_change limits d)
      by k.Name q = refl
      by (k.Word word) q = refl
      by (k.Number v) q = refl
      by k.String q = refl
      by (k.Mark mark) q = ap (begin_as limits d tok) (operand_changes mark q)

  tells_place : {bs : List Break} {x : ExprTree} {from mid to : ℕ} (a : Change) → (r : PostfixAt ts x from mid) → Behind ts mid → ((s1 : ℕ) → Tells bs (change_rest limits d x) ts mid s1 a to) → (seen : ℕ) →
      Tells (postfix_breaks ts limits r d ++ bs) (change limits d) ts from seen a to
  unfolding change place_change
  tells_place {bs = bs} {x = x} {from = from} {mid = mid} {to = to} a r h rest seen =
      tells_next ts (begin_at limits d) from seen a to (first (drop from ts)) (Leave (place_change limits d)) refl (begins_place (first (drop from ts)) (postfix_operand r))
      (λ s1. tells_bind ts (operands limits d) _ from s1 mid to (x, expr_height x) a (tells_operands ts limits free long r (behind_in h) d s1) rest)

  -- and nothing is broken behind it
  tells_place_last : {x : ExprTree} {from mid to : ℕ} (a : Change) → (r : PostfixAt ts x from mid) → Behind ts mid → ((s1 : ℕ) → Reads ⊥ (change_rest limits d x) ts mid s1 a to) → (seen : ℕ) →
      Tells (postfix_breaks ts limits r d) (change limits d) ts from seen a to
  unfolding change place_change
  tells_place_last {x = x} {from = from} {mid = mid} {to = to} a r h rest seen =
      tells_next ts (begin_at limits d) from seen a to (first (drop from ts)) (Leave (place_change limits d)) refl (begins_place (first (drop from ts)) (postfix_operand r))
      (λ s1. tells_last ts (operands limits d) _ from s1 mid to (x, expr_height x) a (tells_operands ts limits free long r (behind_in h) d s1) rest)

  pub tells_change : {x : Change} {from to : ℕ} → (s : ChangeAt ts x from to) → Closes ts to → (seen : ℕ) → Tells (change_breaks ts limits s d) (change limits d) ts from seen x to
  unfolding change step_before change_rest
  tells_change (t.assignment {x = x} {y = y} {op = op} r s v) z seen = tells_place (changed (span x.place y.place) (assigned op x y)) r (assign_behind s) (λ s1. tells_assigned x s v z s1) seen
  tells_change {from = from} {to = to} (t.step_before {p = p} {x = x} {mark = mark} {step = step} s q r) z seen =
      let a = changed (span p x.place) (c.StepBefore step x) in
      let tok : Lexed = record { kind = k.Mark mark; place = p; bytes = s.bytes } in
      tells_next ts (begin_at limits d) from seen a to (Some tok) (Take (step_before limits d p step)) s.is (ap (begin_as limits d tok) q)
      (λ s1. tells_last ts (operands limits d) _ (from + 1) s1 to to (x, expr_height x) a (tells_operands ts limits free long r (behind_in (closes_behind z)) d s1) (λ s2. reads_pure ⊥ ts a to s2))
  tells_change (t.step_behind {at = at} {p = p} {x = x} {mark = mark} {step = step} r s q) z seen =
      let a = changed (span x.place p) (c.StepBehind x step) in
      let tok : Lexed = record { kind = k.Mark mark; place = p; bytes = s.bytes } in
      tells_place_last a r (step_behind mark p step s q)
      (λ s1. reads_next ⊥ ts (change_at limits d x) at s1 a (at + 1) (Some tok) (Take (pure a)) s.is (ap (change_as limits d x tok) q) (λ s2. reads_pure ⊥ ts a (at + 1) s2)) seen
  tells_change {to = to} (t.call {x = x} r q) z seen =
      let a = changed x.place (c.Call x) in
      let tok : Lexed = record { kind = k.Mark z.mark; place = z.place; bytes = z.is.bytes } in
      tells_place_last a r (closes_behind z)
      (λ s1. reads_next ⊥ ts (change_at limits d x) to s1 a to (Some tok) (Leave (pure a)) z.is.is (ap (change_as limits d x tok) (closer_ends z.mark z.closes) ∙ ap (called limits d x) q) (λ s2. reads_pure ⊥ ts a to s2)) seen
