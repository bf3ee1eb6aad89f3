use Rattle.std.proofs.Common.{◌≡◌, ◌∙◌, ◌+◌, ◌<◌, suc, length, Some, slice_get, sym, ap, arith}
use Rattle.std.proofs.lemmas.Option.{slice_get-get_or}
use Rattle.spirv_words.specs.declared.images.Instruction.{Instruction}
use Rattle.image_places.specs.Places.{word_of}
use Rattle.image_lookup.proofs.words.word_of.Goals as goal

pub overflow_add-word : goal.overflow_add-word
overflow_add-word c =
    let code = c.args.code.now in
    let k = c.loop-at.at in
    let lt : k < length code = omega (arith, c.loop-at-test.true, c.requires.within) in
    let there : slice_get code k ≡ Some c.index-code-at.result = slice_get-get_or code k c.index-code-at.result lt ∙ ap (λ (x : Instruction). Some x) (sym c.index-code-at.is) in
    let len = ap (λ (x : Instruction). length x.operands) c.index-code-at.is in
    let next = c.places_grow.ensures.next code k c.index-code-at.result there in
    let grow = c.places_grow.ensures.grow code (suc k) (length code) lt in
    omega (arith, next, grow, c.requires.short, c.len.ensures, len)

pub overflow_add-word-in-loop-at : goal.overflow_add-word-in-loop-at
overflow_add-word-in-loop-at c =
    let code = c.args.code.now in
    let k = c.loop-at.at in
    let lt : k < length code = omega (arith, c.loop-at-test.true, c.requires.within) in
    let there : slice_get code k ≡ Some c.index-code-at.result = slice_get-get_or code k c.index-code-at.result lt ∙ ap (λ (x : Instruction). Some x) (sym c.index-code-at.is) in
    let len = ap (λ (x : Instruction). length x.operands) c.index-code-at.is in
    let next = c.places_grow.ensures.next code k c.index-code-at.result there in
    let grow = c.places_grow.ensures.grow code (suc k) (length code) lt in
    omega (arith, next, grow, c.requires.short, c.len.ensures, len, c.loop-at.invariant)

pub loop-at-preserved : goal.loop-at-preserved
loop-at-preserved c =
    let code = c.args.code.now in
    let k = c.loop-at.at in
    let lt : k < length code = omega (arith, c.loop-at-test.true, c.requires.within) in
    let there : slice_get code k ≡ Some c.index-code-at.result = slice_get-get_or code k c.index-code-at.result lt ∙ ap (λ (x : Instruction). Some x) (sym c.index-code-at.is) in
    let len = ap (λ (x : Instruction). length x.operands) c.index-code-at.is in
    let next = c.places_grow.ensures.next code k c.index-code-at.result there in
    let e : suc k ≡ k + 1 = omega arith in
    let w : c.loop-at.word + (c.len.result + 1) ≡ word_of code (suc k) = omega (arith, next, c.len.ensures, len, c.loop-at.invariant) in
    w ∙ ap (word_of code) e
