use Rattle.std.proofs.Common.{◌≡◌, ◌∷◌, ◌++◌, [], refl, arith}
use Rattle.std.proofs.lemmas.Result.{err_from_is_err_and}
use Rattle.std.proofs.lemmas.Grind.{common_steps}
use Rattle.spirv_words.proofs.OneInstruction.{one_read, all_read, breaks_off, refused_so}
use Rattle.spirv_words.proofs.reading.body_of.Goals as goal

pub loop-first-preserved : goal.loop-first-preserved
loop-first-preserved c =
    let pushed : c.push.new.self ≡ c.loop-first.instructions ++ c.in_ok-instruction.instruction ∷ [] = grind (arith, common_steps) in (
      one_read _ _ _ _ _ _ _ _ c.loop-first.invariant.0 c.in-Some.ensures.cases.0 c.in_ok-instruction.ensures.spelled c.len.ensures pushed,
      all_read _ _ _ pushed c.loop-first.invariant.1 c.in_ok-instruction.ensures.is_one,
    )

pub returns-in_err-instruction-clause-refused : goal.returns-in_err-instruction-clause-refused
returns-in_err-instruction-clause-refused c =
    let p = err_from_is_err_and c.from_residual.result c.from_residual.ensures.1 in
    rw (p.1, p.2) (refused_so c.in_err-instruction.field-0.0 _ _ (λ at code h.
    breaks_off _ _ _ _ _ at h.0 code _ (c.requires) c.loop-first.invariant.0 c.in-Some.ensures.cases.0 c.loop-first.invariant.1 refl h.1 h.2)
    c.in_err-instruction.ensures.refused)
