use Rattle.std.proofs.Common.{◌≡◌, ℕ, cond, nat_eq, slice_index, HashMap, BuildHasherDefault, FoldHasher, ◌+◌, ◌∷◌, drop, length, get_or, ◌<◌, ◌≤◌, sym, ◌∙◌, ap, refl, arith}
use Rattle.std.proofs.lemmas.Grind.{common_steps}
use Rattle.std.proofs.lemmas.List.{at_drop_more, at_drop_all}
use Rattle.image_lookup.specs.Sorts.{sort_of}
use Rattle.spirv_words.specs.declared.images.Instruction.{Instruction}
use Rattle.image_declarations.specs.declared.types.TypeFacts.{TypeFacts}
use Rattle.image_declarations.specs.Types.{type_facts, facts_of, with_facts, known_after, known_by, capped, no_facts}
use Rattle.image_declarations.proofs.Known.{facts-capped, with-capped, stays-capped, known_by-insert}
use Rattle.image_declarations.proofs.types.type_facts.Goals as goal
use Rattle.image_declarations.proofs.types.type_facts.Goals.{in-Some+in_ok-insert-in-Some, in-None}

pub loop-instruction-init : goal.loop-instruction-init
loop-instruction-init c = (λ id. no_facts, refl, λ id. grind (arith, common_steps))

pub loop-instruction-preserved : goal.loop-instruction-preserved
loop-instruction-preserved c =
    let code = c.args.definitions.now in
    let i = c.instruction-item.result in
    let v = c.loop-instruction.invariant in
    let lt : c.loop-instruction.instruction-index < length code = grind (arith, common_steps) in
    let item : i ≡ get_or code c.loop-instruction.instruction-index i = c.instruction-item.is ∙ ap (λ l. get_or l c.loop-instruction.instruction-index i) c.code-instruction-items.ensures in
    let step = at_drop_more (λ is. known_after code is v.0) code c.loop-instruction.instruction-index i lt
    ∙ ap (λ (x : Instruction). known_after code (x ∷ drop (c.loop-instruction.instruction-index + 1) code) v.0) (sym item) in
    let same = facts-capped code v.0 (known_by c.loop-instruction.known) v.2 (sort_of i.op) i.operands in
    let r = slice_index i.operands 0 in
    let o = facts_of code v.0 i in (
      with_facts code i v.0,
      sym step ∙ v.1,
      elim c.match-facts_of.branch [
        | in-Some+in_ok-insert-in-Some w ↦
            with-capped code v.0 (known_by c.loop-instruction.known) v.2 w.in-Some.facts o r (known_by c.match-facts_of.known) (w.in-Some.ensures ∙ same)
            (λ id. ap (λ (m : HashMap ℕ TypeFacts (BuildHasherDefault FoldHasher)). known_by m id) w.known-is
            ∙ known_by-insert c.loop-instruction.known w.insert.new.self w.operand_of.result w.in-Some.facts w.in_ok-insert-in-Some.ensures.updates.0 id
            ∙ ap (λ r. cond (nat_eq r id) w.in-Some.facts (known_by c.loop-instruction.known id)) w.operand_of.ensures)
        | in-None w ↦ λ id.
            ap (λ (m : HashMap ℕ TypeFacts (BuildHasherDefault FoldHasher)). known_by m id) w.known-is
            ∙ stays-capped code v.0 (known_by c.loop-instruction.known) v.2 o r (w.in-None.ensures ∙ same) id
      ],
    )

pub returns : goal.returns
unfolding type_facts
returns c =
    let code = c.args.definitions.now in
    let v = c.loop-instruction.invariant in
    let le : length code ≤ c.loop-instruction.instruction-index = grind (arith, common_steps) in
    let end = sym (at_drop_all (λ is. known_after code is v.0) code c.loop-instruction.instruction-index le) ∙ v.1 in
    λ id. v.2 id ∙ ap (λ (k : ℕ → TypeFacts). capped (k id)) end
