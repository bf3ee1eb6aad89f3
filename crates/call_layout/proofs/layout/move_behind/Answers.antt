use Rattle.std.proofs.Common.{◌≡◌, ◌<◌, ℕ, List, length, slice_index, subst, ◌∙◌, arith}
use Rattle.std.proofs.lemmas.Grind.{get_or_default_zero}
use Rattle.call_layout.specs.Moves.{IsLatest}
use Rattle.call_layout.proofs.Moved.{moved, latest-too-long}
use Rattle.call_layout.proofs.layout.move_behind.Goals as goal

-- the latest, told of the same places
same-latest : (words begins slice callers : List ℕ) (f place b : ℕ) → slice ≡ begins → place ≡ slice_index begins f → IsLatest words slice callers place b
    → IsLatest words begins callers (slice_index begins f) b
same-latest words begins slice callers f place b s p h =
    subst (λ (x : ℕ). IsLatest words begins callers x b) p (subst (λ (x : List ℕ). IsLatest words x callers place b) s h)

pub returns-in-None-clause-too_large : goal.returns-in-None-clause-too_large
returns-in-None-clause-too_large c = λ es done n h e.
    let begins = c.args.begins.now.items in
    let f = c.args.function in
    let l : f < length begins = omega (arith, c.if-len-at.false, c.len.ensures) in
    let at : c.index.result.now ≡ slice_index begins f = c.index.ensures ∙ get_or_default_zero begins f c.index.result.now l in
    let is = same-latest c.args.words.now begins c.as_slice.result.now c.args.callers.now f c.index.result.now c.latest-begin.result c.as_slice.ensures.value at c.latest-begin.ensures in
    latest-too-long c.args.words.now begins es done c.args.callers.now f c.latest-begin.result n h is (omega (arith, l, h.as_many)) (omega (arith, c.in-None.ensures))

pub returns-in-Some-clause-moved : goal.returns-in-Some-clause-moved
returns-in-Some-clause-moved c = λ es done n h.
    let begins = c.args.begins.now.items in
    let f = c.args.function in
    let l : f < length begins = omega (arith, c.if-len-at.false, c.len.ensures) in
    let at : c.index.result.now ≡ slice_index begins f = c.index.ensures ∙ get_or_default_zero begins f c.index.result.now l in
    let is = same-latest c.args.words.now begins c.as_slice.result.now c.args.callers.now f c.index.result.now c.latest-begin.result c.as_slice.ensures.value at c.latest-begin.ensures in
    moved c.args.words.now begins es done c.args.callers.now f c.latest-begin.result n h is (omega (arith, l, h.as_many)) (omega (arith, c.in-Some.ensures.0))
