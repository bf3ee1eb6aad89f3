use Rattle.std.proofs.Common.{ℕ, Some, [], get_or, ap, ◌∙◌, rules, of_calls, arith}
use Rattle.std.proofs.lemmas.Fn.{always_returns_same}
use Rattle.run_buffers.specs.declared.buffer.Buffer.{Buffer}
use Rattle.run_buffers.specs.Memory.{is_before}
use Rattle.run_buffers.proofs.Finding.{parted, found_at, slot_within}
use Rattle.run_buffers.proofs.access.find.Goals as goal

pub returns-in-Some-clause-first : goal.returns-in-Some-clause-first
returns-in-Some-clause-first c = λ q e.
    let bs = c.args.buffers.now in
    let point = c.partition_point-position.ensures.partitioned (is_before c.args.set c.args.binding) (always_returns_same _ _ _ (λ a r f k. search (rules, of_calls))) (parted c.args.set c.args.binding bs c.requires) in
    ap Some (found_at c.args.set c.args.binding bs c.partition_point-position.result q c.in-Some.buffer.now c.requires point e)

pub returns-in_default-clause-first : goal.returns-in_default-clause-first
returns-in_default-clause-first c = λ q e.
    let bs = c.args.buffers.now in
    let d = c.in-Some.buffer.now in
    let point = c.partition_point-position.ensures.partitioned (is_before c.args.set c.args.binding) (always_returns_same _ _ _ (λ a r f k. search (rules, of_calls))) (parted c.args.set c.args.binding bs c.requires) in
    let same = found_at c.args.set c.args.binding bs c.partition_point-position.result q d c.requires point e in
    let s = slot_within bs q c.args.set c.args.binding d e in
    absurd (c.if-buffer-binding.false (ap (λ (b : Buffer). b.binding) (c.in-Some.ensures.lookup.3.1 d) ∙ (ap (λ (k : ℕ). (get_or bs k d).binding) same ∙ s.2)))

pub returns-in_default-2-clause-first : goal.returns-in_default-2-clause-first
returns-in_default-2-clause-first c = λ q e.
    let bs = c.args.buffers.now in
    let d = c.in-Some.buffer.now in
    let point = c.partition_point-position.ensures.partitioned (is_before c.args.set c.args.binding) (always_returns_same _ _ _ (λ a r f k. search (rules, of_calls))) (parted c.args.set c.args.binding bs c.requires) in
    let same = found_at c.args.set c.args.binding bs c.partition_point-position.result q d c.requires point e in
    let s = slot_within bs q c.args.set c.args.binding d e in
    absurd (c.if-buffer-set.false (ap (λ (b : Buffer). b.set) (c.in-Some.ensures.lookup.3.1 d) ∙ (ap (λ (k : ℕ). (get_or bs k d).set) same ∙ s.1)))

pub returns-in_default-3-clause-first : goal.returns-in_default-3-clause-first
returns-in_default-3-clause-first c = λ q e.
    let bs = c.args.buffers.now in
    let d : Buffer = record { set = 0; binding = 0; words = [] } in
    let point = c.partition_point-position.ensures.partitioned (is_before c.args.set c.args.binding) (always_returns_same _ _ _ (λ a r f k. search (rules, of_calls))) (parted c.args.set c.args.binding bs c.requires) in
    let same = found_at c.args.set c.args.binding bs c.partition_point-position.result q d c.requires point e in
    let s = slot_within bs q c.args.set c.args.binding d e in
    let past = rw c.in_default.is at c.get.ensures.lookup.3 in
    absurd (omega (arith, s.0, same, past))
