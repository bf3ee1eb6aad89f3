use Rattle.std.proofs.Common.{sym, ◌∙◌, ap, arith, ◌≡◌, true, ◌&&◌, Option, List}
use Rattle.std.specs.Prelude.{nat_eq}
use Rattle.spirv_words.specs.declared.images.Instruction.{Instruction}
use Rattle.spirv_words.specs.Machine.{Shape, is_signed}
use Rattle.image_lookup.specs.Lookups.{operand, is_value}
use Rattle.image_operands.specs.Operators.{is_int}
use Rattle.image_facts.proofs.Shapes.{int-sort}
use Rattle.std.proofs.lemmas.Bool.{and_parts}
use Rattle.run_plans.proofs.Facts.{int_shape, signed_is}
use Rattle.run_plans.proofs.steps.is_signed.Goals as goal

pub returns : goal.returns
returns c =
    let code = c.args.places.now.places.code in
    let x = c.args.id in
    let t = operand code x 0 in
    let parts = and_parts (is_value code x) (is_int code t) c.requires.index in
    let inner : c.operand.result ≡ t = c.operand.ensures ∙ ap (λ (is : List Instruction). operand is x 0) c.declarations-declarations.ensures in
    let same : c.operand-2.result ≡ operand code t 2 =
    c.operand-2.ensures ∙ ap (λ (is : List Instruction). operand is c.operand.result 2) c.declarations-declarations.ensures ∙ ap (λ n. operand code n 2) inner in
    ap (λ n. nat_eq n 1) same
    ∙ sym (signed_is code c.requires.ground.valid x parts.0 ∙ ap (λ (o : Option Shape). is_signed o) (int_shape code c.requires.ground.valid t (int-sort code t parts.1)))
