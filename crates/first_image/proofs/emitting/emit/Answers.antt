use Rattle.std.proofs.Common.{◌≡◌, ◌++◌, [], ◌∙◌, sym, ap, subst}
use Rattle.std.proofs.lemmas.Result.{IfOk-weaker}
use Rattle.spirv_words.specs.Words.{CanBeSpelled}
use Rattle.first_image.specs.Sections.{beginning}
use Rattle.first_image.specs.Image.{statements_constants, image_of}
use Rattle.first_image.specs.Emitted.{image_with, preamble_at, declared_at}
use Rattle.first_image.proofs.WholeImages.{image_from_parts}
use Rattle.first_image.proofs.emitting.emit.Goals as goal

pub returns-clause-image : goal.returns-clause-image
returns-clause-image c =
    let home = c.args.home.now in
    let p = c.args.shader.now in
    let ks = c.in_ok-ids.ids.numbers.items in
    let code = c.emit_declarations.new.code in
    let same = c.in_ok-ids.ensures ∙ ap (λ s. statements_constants s []) c.as_slice.ensures in
    let first = c.in_ok-emit_beginning.ensures ∙ ap (λ l. l ++ beginning) c.new-code.ensures in
    let second = c.in_ok-emit_preamble.ensures ∙ ap (λ l. l ++ preamble_at ks home p) first in
    let third = c.in_ok-emit_declarations.ensures ∙ ap (λ l. l ++ declared_at ks) second in
    IfOk-weaker c.emit_entry.result (λ image. image ≡ image_with ks code c.as_slice-2.result.now) (λ image. image ≡ image_of home p)
    (λ image e. e ∙ ap (image_with ks code) c.as_slice-2.ensures ∙ image_from_parts ks home p code same third)
    c.emit_entry.ensures

pub returns-clause-spelled : goal.returns-clause-spelled
returns-clause-spelled c =
    let home = c.args.home.now in
    let p = c.args.shader.now in
    IfOk-weaker c.emit_entry.result (λ image. image ≡ image_of home p) CanBeSpelled
    (λ image e. subst CanBeSpelled (sym e) (c.image_is_spelled.ensures home p c.requires.home_is_text c.requires.home_is_short c.requires.shader))
    (returns-clause-image c)
