use Rattle.std.proofs.Common.{◌≡◌, ℕ, subst, sym, arith, eq-eqb, eqb-true}
use Rattle.std.specs.Fmt.{decimal}
use Rattle.run_buffers.specs.Parts.{Begins}
use Rattle.run_buffers.proofs.Decimals.{begins_zero, zero_from_begins, begins_from_reaches, reaches_from_begins}
use Rattle.run_buffers.proofs.numbers.begins.Goals as goal

pub returns-then-value-eq0-clause-begins : goal.returns-then-value-eq0-clause-begins
returns-then-value-eq0-clause-begins c =
    let z : c.args.value ≡ 0 = omega arith in
    let P = λ (v : ℕ). Begins c.args.low c.args.high (decimal v) in (
      λ yes. subst P (sym z) (begins_zero c.args.low c.args.high (eqb-true c.args.low 0 yes)),
      λ b. eq-eqb c.args.low 0 (zero_from_begins c.args.low c.args.high (omega arith) (subst P z b)),
    )

pub returns-else-value-eq0-clause-begins : goal.returns-else-value-eq0-clause-begins
returns-else-value-eq0-clause-begins c = (
  λ yes. begins_from_reaches c.args.value c.args.low c.args.high (omega arith) c.requires.range (omega arith) (c.reaches.ensures.0 yes),
  λ b. c.reaches.ensures.1 (reaches_from_begins c.args.value c.args.low c.args.high (omega arith) (omega arith) b),
)
