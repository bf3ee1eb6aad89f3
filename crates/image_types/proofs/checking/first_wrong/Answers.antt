use Rattle.std.proofs.Common.{◌∙◌, ◌||◌, take, List, sym, ap, arith, below_more}
use Rattle.std.proofs.lemmas.Grind.{common_steps}
use Rattle.spirv_words.specs.declared.images.Instruction.{Instruction}
use Rattle.image_types.specs.declared.functions.Context.{Context}
use Rattle.image_types.specs.Functions.{after}
use Rattle.image_operands.specs.Marks.{is_pair, is_taken, completed}
use Rattle.image_types.specs.Checking.{is_wrong}
use Rattle.image_types.proofs.Walk.{wrong-is, taken-more, context-more, context-first, parameters-more}
use Rattle.image_types.proofs.checking.first_wrong.Goals as goal

pub loop-place-init : goal.loop-place-init
loop-place-init c = (
  c.outside-context.ensures ∙ context-first c.args.code.now,
  omega (arith, ap (λ (x : Context). x.parameters) c.outside-context.ensures),
  λ q. grind (arith, common_steps),
  λ k h. absurd (omega arith),
)

pub returns-then-branch : goal.returns-then-branch
returns-then-branch c =
    let code = c.args.code.now in
    let k = c.loop-place.place in
    let i = c.index-code-place.result in (
      c.loop-place-test.true,
      wrong-is code k i c.loop-place-test.true c.index-code-place.is ∙ ap (λ (code : List Instruction). is_wrong code k i) (sym c.requires) ∙ sym c.in_ok-is_wrong.ensures.told ∙ c.if-branch.true,
      c.loop-place.invariant.3,
    )

pub loop-place-preserved : goal.loop-place-preserved
loop-place-preserved c =
    let code = c.args.code.now in
    let k = c.loop-place.place in
    let i = c.index-code-place.result in
    let lt = c.loop-place-test.true in
    let item = c.index-code-place.is in
    let v = c.loop-place.invariant in
    let more = parameters-more c.loop-place.context i in
    let params = ap (λ (x : Context). x.parameters) c.after-context.ensures in (
      c.after-context.ensures ∙ ap (λ (x : Context). after x i) v.0 ∙ sym (context-more code k i lt item),
      omega (arith, more, params, v.1),
      (λ q. c.in_ok-is_wrong.ensures.after q
          ∙ ap (λ (code : List Instruction). is_pair (completed code k i) q || is_taken code (take k code) 0 q) c.requires
          ∙ sym (taken-more code k i lt item q)),
      below_more _ _ v.3 (wrong-is code k i lt item ∙ ap (λ (code : List Instruction). is_wrong code k i) (sym c.requires) ∙ sym c.in_ok-is_wrong.ensures.told ∙ c.if-branch.false),
    )
