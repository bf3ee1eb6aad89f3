-- Where an index or a choice fails behind its first value.
use Rattle.std.proofs.Common.{ℕ, ◌+◌, max, Ok, Err}
use Rattle.slang_names.specs.declared.places.Place.{Place}
use Rattle.slang_tree.specs.declared.expressions.ExprNode.TheVariants as n
use Rattle.slang_tokens.specs.declared.tokens.Mark.TheVariants as m
use Rattle.slang_reading.specs.declared.faults.Fault.{Fault}
use Rattle.slang_reading.specs.Reading.{Parser, ◌>>=◌, pure}
use Rattle.slang_reading.specs.Kinds.{span}
use Rattle.slang_reading.specs.Cursor.{Cursor, Runs}
use Rattle.slang_reading.proofs.Loops.{runs_bind}
use Rattle.slang_grammar.specs.Descent.{Limits, expect}
use Rattle.slang_grammar.specs.Expressions.{valued}
use Rattle.slang_grammar.specs.ExpressionsDescent.{Value, index, choice}
use Rattle.expression_reading.proofs.Failing.{fails_bind}

module _ (limits : Limits) (d : ℕ) (inner : ℕ → Parser Value) (x : Value) where
  abbrev second : Value → Parser Value
  second y = inner 11 >>= (λ z. pure (valued (span x.0.place z.0.place) (n.Choice x.0 y.0 z.0), max x.1 (max y.1 z.1) + 1))

  abbrev behind : Value → Parser Value
  behind y = expect m.Colon >>= (λ _. second y)

  pub choice_awaits : (y : Value) (e : Fault) (old mid new : Cursor) → Runs (inner 11) old (Ok y) mid → Runs (expect m.Colon) mid (Err e) new → Runs (choice limits d inner x) old (Err e) new
  unfolding choice
  choice_awaits y e old mid new p q = runs_bind (inner 11) behind y old mid new (Err e) p (fails_bind (expect m.Colon) (λ _. second y) e mid new q)

  pub choice_lacks : (y : Value) (colon : Place) (e : Fault) (old mid far new : Cursor) → Runs (inner 11) old (Ok y) mid → Runs (expect m.Colon) mid (Ok colon) far → Runs (inner 11) far (Err e) new →
      Runs (choice limits d inner x) old (Err e) new
  unfolding choice
  choice_lacks y colon e old mid far new p q r =
      runs_bind (inner 11) behind y old mid new (Err e) p
      (runs_bind (expect m.Colon) (λ _. second y) colon mid far new (Err e) q
      (fails_bind (inner 11) (λ z. pure (valued (span x.0.place z.0.place) (n.Choice x.0 y.0 z.0), max x.1 (max y.1 z.1) + 1)) e far new r))

  pub index_awaits : (i : Value) (e : Fault) (old mid new : Cursor) → Runs (inner 11) old (Ok i) mid → Runs (expect m.CloseBracket) mid (Err e) new → Runs (index limits d inner x) old (Err e) new
  unfolding index
  index_awaits i e old mid new p q =
      let close : Value → Place → Parser Value = λ i end. pure (valued (span x.0.place end) (n.Index x.0 i.0), max x.1 i.1 + 1) in
      runs_bind (inner 11) (λ i. expect m.CloseBracket >>= close i) i old mid new (Err e) p (fails_bind (expect m.CloseBracket) (close i) e mid new q)
