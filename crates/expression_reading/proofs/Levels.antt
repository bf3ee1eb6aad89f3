-- Levels and numbers of nodes that are not 0.
use Rattle.std.proofs.Common.{◌≡◌, ℕ, zero, suc, ◌-◌, ◌==◌, ◌<◌, Result, Ok, Err, refl, arith}
use Rattle.slang_reading.specs.declared.faults.Fault.{Fault}
use Rattle.slang_reading.specs.Reading.{◌>>=◌, Parser}
use Rattle.slang_reading.specs.Cursor.{Cursor, Runs}
use Rattle.slang_reading.proofs.Loops.{runs_bind}
use Rattle.slang_grammar.specs.Descent.{Limits}
use Rattle.slang_grammar.specs.ExpressionsDescent.{Value, repeats, unary, operator, level, at_level, leveled}
use Rattle.expression_reading.proofs.Failing.{fails_bind}

module _ (limits : Limits) (d : ℕ) (inner : ℕ → Parser Value) where
  level_at : (l : ℕ) → 0 < l → level limits d inner l ≡ (level limits d inner (l - 1) >>= repeats (operator limits d inner (l - 1)) limits.turns)
  unfolding level
  level_at zero h = absurd (omega arith)
  level_at (suc l) h = let e : suc l - 1 ≡ l = omega arith in rw e refl

  -- below all levels of operators
  pub level_none : (l : ℕ) (old new : Cursor) (r : Result Value Fault) → l ≡ 0 → Runs (unary limits d inner) old r new → Runs (level limits d inner l) old r new
  unfolding level
  level_none zero old new r e h = h
  level_none (suc l) old new r e h = absurd (omega arith)

  -- the operators of one level behind those that bind more tightly
  pub level_runs : (l : ℕ) (x : Value) (old mid new : Cursor) (r : Result Value Fault) → 0 < l → Runs (level limits d inner (l - 1)) old (Ok x) mid →
      Runs (repeats (operator limits d inner (l - 1)) limits.turns x) mid r new → Runs (level limits d inner l) old r new
  level_runs l x old mid new r h p q =
      rw (level_at l h) (runs_bind (level limits d inner (l - 1)) (repeats (operator limits d inner (l - 1)) limits.turns) x old mid new r p q)

  -- where those that bind more tightly fail, so does the level
  pub level_fails : (l : ℕ) (e : Fault) (old new : Cursor) → 0 < l → Runs (level limits d inner (l - 1)) old (Err e) new → Runs (level limits d inner l) old (Err e) new
  level_fails l e old new h p =
      rw (level_at l h) (fails_bind (level limits d inner (l - 1)) (repeats (operator limits d inner (l - 1)) limits.turns) e old new p)

leveled_at : (limits : Limits) (d l : ℕ) → 0 < d → leveled limits d l ≡ at_level limits (d - 1) (leveled limits (d - 1)) l (l == 11)
unfolding leveled
leveled_at limits zero l h = absurd (omega arith)
leveled_at limits (suc d) l h = let e : suc d - 1 ≡ d = omega arith in rw e refl

pub leveled_runs : (limits : Limits) (d l : ℕ) (old new : Cursor) (r : Result Value Fault) → 0 < d → Runs (at_level limits (d - 1) (leveled limits (d - 1)) l (l == 11)) old r new →
    Runs (leveled limits d l) old r new
leveled_runs limits d l old new r h p = rw (leveled_at limits d l h) p
