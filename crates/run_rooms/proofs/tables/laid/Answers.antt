use Rattle.std.proofs.Common.{ℕ, List, length, suc, subst, sym}
use Rattle.std.proofs.lemmas.Result.{err_from_is_err_and}
use Rattle.spirv_words.specs.declared.images.Instruction.{Instruction}
use Rattle.run_rooms.specs.Layout.{IsTable}
use Rattle.run_rooms.specs.Needs.{words_of}
use Rattle.run_rooms.specs.Tables.{AreStarts}
use Rattle.run_rooms.proofs.Whole.{words-table, far-words, starts-fit, laid}
use Rattle.run_rooms.proofs.tables.laid.Goals as goal

pub returns-in_err-words-clause-too_large : goal.returns-in_err-words-clause-too_large
returns-in_err-words-clause-too_large c =
    let p = err_from_is_err_and c.from_residual.result c.from_residual.ensures.1 in
    rw (p.1, p.2) (λ e. far-words c.args.definitions.now c.args.room_sums.now c.args.slot_sums.now c.requires.rooms c.requires.slots c.requires.keeps (c.in_err-words.ensures.too_large e))

pub begins-requires-clause-words : goal.begins-requires-clause-words
begins-requires-clause-words c =
    let code : List Instruction = c.args.definitions.now in
    subst (λ (l : List ℕ). IsTable (words_of code) (suc (length code)) l) (sym c.as_slice.ensures.value)
    (words-table code c.args.room_sums.now c.args.slot_sums.now c.requires.rooms c.requires.slots c.in_ok-words.words.items c.in_ok-words.ensures.words)

pub parts-requires : goal.parts-requires
parts-requires c =
    let code : List Instruction = c.args.definitions.now in
    let s : AreStarts code c.as_slice-2.result.now = subst (λ (l : List ℕ). AreStarts code l) (sym c.as_slice-2.ensures.value) c.in_ok-begins.ensures.starts in
    starts-fit code c.args.room_sums.now c.args.slot_sums.now c.requires.rooms c.requires.slots c.as_slice-2.result.now s

pub returns-clause-laid : goal.returns-clause-laid
returns-clause-laid c =
    let code : List Instruction = c.args.definitions.now in
    let s : AreStarts code c.as_slice-2.result.now = subst (λ (l : List ℕ). AreStarts code l) (sym c.as_slice-2.ensures.value) c.in_ok-begins.ensures.starts in
    laid code c.args.room_sums.now c.args.slot_sums.now c.requires.rooms c.requires.slots c.as_slice-2.result.now s c.requires.keeps c.in_ok-parts.parts.items c.in_ok-parts.ensures
