use Rattle.std.proofs.Common.{◌≡◌, ℕ, sym, ◌∷◌, ◌++◌, List, Some, [], length, slice_get, arith, refl, ap, ◌∙◌, subst}
use Rattle.std.proofs.lemmas.Grind.{common_steps}
use Rattle.std.proofs.lemmas.Option.{slice_get_read}
use Rattle.spirv_words.specs.declared.images.Instruction.{Instruction}
use Rattle.run_plans.specs.Ground.{rooms_of}
use Rattle.run_plans.specs.declared.kinds.Kind.{Kind}
use Rattle.run_plans.specs.Kinds.{kind_of}
use Rattle.run_plans.specs.Actions.{act_by, action_of}
use Rattle.run_plans.specs.Acted.{IsActed}
use Rattle.run_plans.proofs.Fitting.{is_acted}
use Rattle.run_plans.proofs.Acting.{act_next, act_all, function_next}
use Rattle.run_plans.proofs.actions.actions_of.Goals as goal

pub act_by-requires-clause-acted : goal.act_by-requires-clause-acted
act_by-requires-clause-acted c =
    let code = c.args.places.now.places.code in
    let n = c.loop-number.number in
    let i = c.instruction-item.result in
    let L = rooms_of c.args.places.now in
    let here = slice_get_read c.code-instruction-items.result.now (length c.code-instruction-items.result.now) n i refl c.loop-number-test.true c.instruction-item.is in
    let same : c.code-instruction-items.result.now ≡ code = c.code-instruction-items.ensures ∙ c.declarations.ensures in
    let at : slice_get code n ≡ Some i = subst (λ (is : List Instruction). slice_get is n ≡ Some i) same here in
    subst (λ (os : List ℕ). IsActed code L c.kind_of-kind.result os) (sym c.as_slice-operands.ensures)
    (subst (λ (kind : Kind). IsActed code L kind i.operands) (sym c.kind_of-kind.ensures) (is_acted c.args.places.now n i c.requires.ground at))

pub loop-number-preserved : goal.loop-number-preserved
loop-number-preserved c =
    let code = c.args.places.now.places.code in
    let n = c.loop-number.number in
    let i = c.instruction-item.result in
    let L = rooms_of c.args.places.now in
    let here = slice_get_read c.code-instruction-items.result.now (length c.code-instruction-items.result.now) n i refl c.loop-number-test.true c.instruction-item.is in
    let same : c.code-instruction-items.result.now ≡ code = c.code-instruction-items.ensures ∙ c.declarations.ensures in
    let at : slice_get code n ≡ Some i = subst (λ (is : List Instruction). slice_get is n ≡ Some i) same here in
    let act : c.in_ok-act_by.field-0 ≡ action_of code L n i = c.in_ok-act_by.ensures
    ∙ ap (λ (kind : Kind). act_by code L n kind c.as_slice-operands.result.now) c.kind_of-kind.ensures
    ∙ ap (act_by code L n (kind_of i.op)) c.as_slice-operands.ensures in
    let more : c.push.new.self.items ≡ c.loop-number.actions.items ++ c.in_ok-act_by.field-0 ∷ [] = c.in_ok-push.ensures.items in (
      function_next code n c.loop-number.function c.function_behind-function.result i at c.loop-number.invariant.0 c.function_behind-function.ensures,
      act_next code L n i c.loop-number.actions.items c.push.new.self.items c.in_ok-act_by.field-0
          c.loop-number.invariant.1 at more act,
    )

pub returns : goal.returns
returns c =
    let all : c.loop-number.number ≡ length c.args.places.now.places.code = grind (arith, common_steps) in
    act_all c.args.places.now.places.code (rooms_of c.args.places.now) c.loop-number.number c.loop-number.actions.items c.loop-number.invariant.1 all
