use Rattle.std.proofs.Common.{◌≡◌, ◌++◌, length, take, drop, sym, ap, subst, ◌∙◌, arith}
use Rattle.std.proofs.lemmas.Grind.{common_steps}
use Rattle.run_buffers.specs.Texts.{Fits}
use Rattle.run_buffers.specs.Memory.{slots, words_at, with_word}
use Rattle.run_buffers.proofs.ByPosition.{fits_with_word, same_slots, same_counts}
use Rattle.run_buffers.proofs.buffers.Buffers.set.Goals as goal

pub invariant_of-self : goal.invariant_of-self
invariant_of-self c =
    let old = c.args.self.now in
    let e : take c.self.inside.buffers.len (c.set_word.new.buffers ++ drop (length c.set_word.new.buffers) c.self.inside.buffers.items) ≡ with_word c.args.self.now c.args.position c.args.index c.args.word = grind (arith, common_steps) in
    subst Fits (sym e) (fits_with_word old c.args.position c.args.index c.args.word (subst Fits c.self.view_is c.self.invariant) (omega arith))

pub returns-clause-slots : goal.returns-clause-slots
returns-clause-slots c =
    let e : take c.self.inside.buffers.len (c.set_word.new.buffers ++ drop (length c.set_word.new.buffers) c.self.inside.buffers.items) ≡ with_word c.args.self.now c.args.position c.args.index c.args.word = grind (arith, common_steps) in
    ap slots e ∙ same_slots c.args.self.now c.args.position c.args.index c.args.word

pub returns-clause-counts : goal.returns-clause-counts
returns-clause-counts c = λ p.
    let e : take c.self.inside.buffers.len (c.set_word.new.buffers ++ drop (length c.set_word.new.buffers) c.self.inside.buffers.items) ≡ with_word c.args.self.now c.args.position c.args.index c.args.word = grind (arith, common_steps) in
    ap (λ bs. length (words_at bs p)) e ∙ same_counts c.args.self.now c.args.position c.args.index c.args.word p
