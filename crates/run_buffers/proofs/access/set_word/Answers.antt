use Rattle.std.proofs.Common.{◌≤◌, ℕ, List, length, get_or, set, refl, sym, ap, ◌∙◌, arith}
use Rattle.std.proofs.lemmas.List.{set-get_or}
use Rattle.run_buffers.specs.declared.buffer.Buffer.{Buffer}
use Rattle.run_buffers.specs.Memory.{words_at}
use Rattle.run_buffers.proofs.ByPosition.{word_set, words_within, words_past, no_word, is_there, is_not_there}
use Rattle.run_buffers.proofs.access.set_word.Goals as goal

pub returns-then-index-len-clause-set : goal.returns-then-index-len-clause-set
returns-then-index-len-clause-set c =
    let b = get_or c.args.buffers.now c.args.position c.index-buffers-position.result in
    ap (λ (ws : List ℕ). set c.args.buffers.now c.args.position (let k : Buffer = record { set = b.set; binding = b.binding; words = ws } in k)) c.set.ensures
    ∙ word_set c.args.buffers.now c.args.position c.args.index c.args.word b c.index-buffers-position.result c.if-position-buffers.true refl

pub returns-then-index-len-clause-is_there : goal.returns-then-index-len-clause-is_there
returns-then-index-len-clause-is_there c =
    let b = c.index-buffers-position.result in
    let l = ap length (words_within c.args.buffers.now c.args.position b c.if-position-buffers.true) in
    is_there c.args.buffers.now c.args.position c.args.index (omega (arith, l, c.len.ensures, c.if-index-len.true))

pub returns-else-index-len-clause-set : goal.returns-else-index-len-clause-set
returns-else-index-len-clause-set c =
    let b = c.index-buffers-position.result in
    let l = ap length (words_within c.args.buffers.now c.args.position b c.if-position-buffers.true) in
    let few : length (words_at c.args.buffers.now c.args.position) ≤ c.args.index = omega (arith, l, c.len.ensures, c.if-index-len.false) in
    set-get_or c.args.buffers.now c.args.position b ∙ sym (no_word c.args.buffers.now c.args.position c.args.index c.args.word few)

pub returns-else-index-len-clause-is_there : goal.returns-else-index-len-clause-is_there
returns-else-index-len-clause-is_there c =
    let b = c.index-buffers-position.result in
    let l = ap length (words_within c.args.buffers.now c.args.position b c.if-position-buffers.true) in
    is_not_there c.args.buffers.now c.args.position c.args.index (omega (arith, l, c.len.ensures, c.if-index-len.false))

pub returns-else-position-buffers-clause-set : goal.returns-else-position-buffers-clause-set
returns-else-position-buffers-clause-set c =
    let past = ap length (words_past c.args.buffers.now c.args.position (omega arith)) in
    sym (no_word c.args.buffers.now c.args.position c.args.index c.args.word (omega arith))

pub returns-else-position-buffers-clause-is_there : goal.returns-else-position-buffers-clause-is_there
returns-else-position-buffers-clause-is_there c =
    let past = ap length (words_past c.args.buffers.now c.args.position (omega arith)) in
    is_not_there c.args.buffers.now c.args.position c.args.index (omega arith)
