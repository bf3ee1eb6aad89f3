use Rattle.std.proofs.Common.{◌≡◌, ◌≤◌, ℕ, List, Some, length, map, true, slice_get, refl, sym, ap, ◌∙◌, subst}
use Rattle.std.proofs.lemmas.Option.{slice_get_read}
use Rattle.spirv_words.specs.declared.images.Instruction.{Instruction}
use Rattle.run_plans.specs.declared.base.Ground.{Ground}
use Rattle.run_plans.specs.Ground.{rooms_of, pair_of}
use Rattle.run_plans.proofs.Acting.{function_next}
use Rattle.run_plans.proofs.Making.{is_made}
use Rattle.run_plans.proofs.Written.{none_written, all_written, written_more}
use Rattle.run_plans.proofs.words.write_all.Goals as goal

buffers_same : (g : Ground) → (rooms_of g).buffers ≡ map pair_of g.buffers
unfolding rooms_of
buffers_same g = refl

pub loop-number-init : goal.loop-number-init
loop-number-init c = (refl, none_written c.args.base.now.places.code (rooms_of c.args.base.now) _ (rooms_of c.args.base.now).total refl c.requires.empty)

pub write_outside-requires-clause-made : goal.write_outside-requires-clause-made
write_outside-requires-clause-made c out value =
    let g = c.args.base.now in
    let code = g.places.code in
    let n = c.loop-number.number in
    let i = c.instruction-item.result in
    let here = slice_get_read c.code-instruction-items.result.now (length c.code-instruction-items.result.now) n i refl c.loop-number-test.true c.instruction-item.is in
    let same : c.code-instruction-items.result.now ≡ code = c.code-instruction-items.ensures ∙ c.declarations.ensures in
    let at : slice_get code n ≡ Some i = subst (λ (is : List Instruction). slice_get is n ≡ Some i) same here in
    is_made code c.requires.ground.valid (rooms_of g) c.requires.ground.rooms g.buffers n i at (sym c.loop-number.invariant.0 ∙ out) value

pub loop-number-preserved : goal.loop-number-preserved
loop-number-preserved c =
    let code = c.args.base.now.places.code in
    let n = c.loop-number.number in
    let i = c.instruction-item.result in
    let L = rooms_of c.args.base.now in
    let here = slice_get_read c.code-instruction-items.result.now (length c.code-instruction-items.result.now) n i refl c.loop-number-test.true c.instruction-item.is in
    let same : c.code-instruction-items.result.now ≡ code = c.code-instruction-items.ensures ∙ c.declarations.ensures in
    let at : slice_get code n ≡ Some i = subst (λ (is : List Instruction). slice_get is n ≡ Some i) same here in (
      function_next code n c.loop-number.function c.function_behind-function.result i at c.loop-number.invariant.0 c.function_behind-function.ensures,
      written_more code c.requires.ground.valid L c.requires.ground.rooms c.args.base.now.buffers (buffers_same c.args.base.now) n i at c.loop-number.words _
          c.loop-number.invariant.1 c.loop-number.function c.loop-number.invariant.0 c.in_ok-write_outside.ensures,
    )

pub returns : goal.returns
returns c =
    let same : c.code-instruction-items.result.now ≡ c.args.base.now.places.code = c.code-instruction-items.ensures ∙ c.declarations.ensures in
    all_written c.args.base.now.places.code (rooms_of c.args.base.now) c.loop-number.number _ c.loop-number.invariant.1
    (subst (λ (is : List Instruction). length is ≤ c.loop-number.number) same c.loop-number-test.false)
