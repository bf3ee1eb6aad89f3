use Rattle.std.proofs.Common.{◌≤◌, List, length, ap, sym, subst, arith}
use Rattle.run_buffers.specs.declared.buffer.Buffer.{Buffer}
use Rattle.run_buffers.proofs.ByPosition.{words_past}
use Rattle.spirv_run.proofs.Bindings.{few_words}
use Rattle.spirv_run.proofs.binding.count_at.Goals as goal

pub overflow_cast-result : goal.overflow_cast-result
overflow_cast-result c = let f = c.as_slice.ensures.fits.few_words in omega (arith, few_words c.args.buffers.now c.args.position)

pub returns-then-position-as_slice : goal.returns-then-position-as_slice
returns-then-position-as_slice c =
    let P : List Buffer → Type 0 = λ bs. length bs ≤ c.args.position in
    sym (ap length (words_past c.args.buffers.now c.args.position (subst P c.as_slice.ensures.buffers c.if-position-as_slice.true)))
