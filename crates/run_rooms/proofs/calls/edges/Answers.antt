use Rattle.std.proofs.Common.{◌≡◌, ◌<◌, ℕ, List, Some, length, get_or, slice_get, slice_index, refl, sym, ap, ◌∙◌, arith}
use Rattle.std.proofs.lemmas.Option.{slice_get_read}
use Rattle.spirv_words.specs.declared.images.Instruction.{Instruction}
use Rattle.run_rooms.proofs.Defined.{function_of-within}
use Rattle.run_rooms.proofs.Listed.{calls-same, calls-more}
use Rattle.run_rooms.proofs.calls.edges.Goals.{in-Some+in_ok-push-in-Some, in-None}
use Rattle.run_rooms.proofs.calls.edges.Goals as goal

pub overflow_cast-homes : goal.overflow_cast-homes
overflow_cast-homes c =
    let code = c.args.definitions.now in
    let k = c.loop-number.number in
    let lt : k < length code = omega (arith, c.loop-number-test.true, ap length c.code-instruction-items.ensures) in
    omega (arith, c.requires.few, c.requires.homes.tells k lt, function_of-within code k, lt)

pub loop-number-preserved : goal.loop-number-preserved
loop-number-preserved c =
    let code : List Instruction = c.args.definitions.now in
    let k : ℕ = c.loop-number.number in
    let i : Instruction = c.instruction-item.result in
    let items : List Instruction = c.code-instruction-items.result.now in
    let e : items ≡ code = c.code-instruction-items.ensures in
    let lt : k < length code = omega (arith, c.loop-number-test.true, ap length e) in
    let at : slice_get code k ≡ Some i = slice_get_read code (length code) k i refl lt (c.instruction-item.is ∙ ap (λ (l : List Instruction). get_or l k i) e) in
    elim c.match-called.branch [
      | in-Some+in_ok-push-in-Some w ↦
          let more = calls-more code k i c.loop-number.edges.items at c.loop-number.invariant (slice_index c.args.homes.now k) w.in-Some.callee
          (sym (c.requires.homes.tells k lt)) (sym w.in-Some.ensures.called) in
          rw (w.edges-is, w.in_ok-push-in-Some.ensures.items) more
      | in-None w ↦
          let same = calls-same code k i c.loop-number.edges.items at c.loop-number.invariant (sym w.in-None.ensures.called) in
          rw (w.edges-is) same
    ]
