use Rattle.std.proofs.Common.{◌≡◌, ℕ, List, [], MatchOption, subst, sym, ◌∙◌}
use Rattle.run_buffers.specs.declared.buffer.Buffer.{Buffer}
use Rattle.run_buffers.specs.Texts.{Fits}
use Rattle.run_buffers.specs.Memory.{words_at, words_of}
use Rattle.run_buffers.proofs.Finding.{words_found}
use Rattle.run_buffers.proofs.buffers.Buffers.find.Goals as goal

pub returns-clause-words : goal.returns-clause-words
returns-clause-words c =
    let fits = subst Fits (sym c.deref.ensures.value) c.self.invariant in
    let P : List Buffer → Type 0 = λ bs. MatchOption c.find.result (words_of bs c.args.set c.args.binding ≡ []) (λ position. words_of bs c.args.set c.args.binding ≡ words_at bs position) in
    subst P (c.deref.ensures.value ∙ c.self.view_is) (words_found c.deref.result.now c.find.result c.args.set c.args.binding fits.ascending c.find.ensures.found c.find.ensures.first)
