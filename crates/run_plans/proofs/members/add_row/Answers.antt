use Rattle.std.proofs.Common.{◌≡◌, ◌+◌, ◌≤◌, ℕ, List, [], ◌∷◌, Some, length, drop, get_or, slice_get, sym, ap, ◌∙◌, refl, subst, arith}
use Rattle.spirv_words.specs.declared.opcodes.Op.{Op}
use Rattle.spirv_words.specs.declared.opcodes.Op.TheVariants.{TypeStruct}
use Rattle.spirv_words.specs.declared.images.Instruction.{Instruction}
use Rattle.run_plans.proofs.Rows.{rows_more}
use Rattle.run_plans.proofs.members.add_row.Goals as goal

begins : (os : List ℕ) → 1 ≤ length os → os ≡ get_or os 0 0 ∷ drop 1 os
begins [] l = absurd (omega arith)
begins (x ∷ os) l = refl

formed : (i : Instruction) (os : List ℕ) → i.op ≡ TypeStruct → os ≡ i.operands → 1 ≤ length os
    → Some i ≡ Some (record { op = TypeStruct; operands = get_or os 0 0 ∷ drop 1 os })
formed i os e f l =
    ap (λ (o : Op). Some (record { op = o; operands = i.operands })) e
    ∙ ap (λ (os : List ℕ). Some (record { op = TypeStruct; operands = os })) (sym f ∙ begins os l)

pub returns-in_ok-insert-in-TypeStruct-len1-up : goal.returns-in_ok-insert-in-TypeStruct-len1-up
returns-in_ok-insert-in-TypeStruct-len1-up c n at r =
    let i = c.args.instruction.now in
    let os = c.as_slice.result.now in
    let code = c.args.places.now.code in
    rows_more code n (get_or os 0 0) (drop 1 os) c.args.known.now _ c.in_ok-row-in-TypeStruct-len1-up.row
    (at ∙ formed i os c.in-TypeStruct-len1-up.is-0 c.as_slice.ensures c.in-TypeStruct-len1-up.len_at_least)
    c.in_ok-insert-in-TypeStruct-len1-up.ensures.updates.0 c.in_ok-row-in-TypeStruct-len1-up.ensures.row c.in_ok-row-in-TypeStruct-len1-up.ensures.full r
