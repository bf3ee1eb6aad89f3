use Rattle.std.proofs.Common.{ℕ, ◌⊎◌, inl, inr, ◌-◌, ◌<◌, ◌≤◌, length, arith}
use Rattle.slang_core.specs.ModuleTrees.{module_tree}
use Rattle.form_laws.proofs.Fields.{bytes_from}
use Rattle.form_refusals.specs.Refused.{most_bytes}
use Rattle.module_form.proofs.Decoded.{read_length, stop_left, reads_module, reads_more, reads_long, stops_late, stops_here}
use Rattle.module_form.proofs.decoding.decode.Goals as goal

pub overflow_sub-end : goal.overflow_sub-end
overflow_sub-end c =
    let p = bytes_from c.args.bytes.now (λ i. omega (arith, c.type_inv.bytes i)) in
    omega (arith, read_length c.args.bytes.now (module_tree c.in-Ok.core) c.in-Ok.rest.now p c.in-Ok.ensures)

pub overflow_sub-place : goal.overflow_sub-place
overflow_sub-place c =
    let p = bytes_from c.args.bytes.now (λ i. omega (arith, c.type_inv.bytes i)) in
    stop_left c.args.bytes.now c.in-Err-Refused.stop p (rw c.in-Err-Refused.field-0-is at c.in-Err-Refused.ensures)

pub returns-then-end-ge-MOST : goal.returns-then-end-ge-MOST
returns-then-end-ge-MOST c =
    let p = bytes_from c.args.bytes.now (λ i. omega (arith, c.type_inv.bytes i)) in
    let n = read_length c.args.bytes.now (module_tree c.in-Ok.core) c.in-Ok.rest.now p c.in-Ok.ensures in
    let d = reads_long c.args.bytes.now (module_tree c.in-Ok.core) c.in-Ok.rest.now (length c.args.bytes.now - length c.in-Ok.rest.now) p c.in-Ok.ensures (omega (arith, n)) (omega (arith, c.if-end-ge-MOST.true)) (omega (arith, c.if-len-gt-MOST.true)) in
    record { spelled = d.spelled; refusal = d.refusal; each_module = d.each_module; each_refusal = d.each_refusal }

pub returns-then-rest-gt0 : goal.returns-then-rest-gt0
returns-then-rest-gt0 c =
    let p = bytes_from c.args.bytes.now (λ i. omega (arith, c.type_inv.bytes i)) in
    let n = read_length c.args.bytes.now (module_tree c.in-Ok.core) c.in-Ok.rest.now p c.in-Ok.ensures in
    let d = reads_more c.args.bytes.now (module_tree c.in-Ok.core) c.in-Ok.rest.now (length c.args.bytes.now - length c.in-Ok.rest.now) p c.in-Ok.ensures (omega (arith, c.if-rest-gt0.true)) (omega (arith, n)) (before c.else-len-gt-MOST.either c.if-rest-gt0.true (omega (arith, n))) in
    record { spelled = d.spelled; refusal = d.refusal; each_module = d.each_module; each_refusal = d.each_refusal }
  where
    before : {l r : ℕ} → ((most_bytes < l) × (l - r < most_bytes)) ⊎ (l ≤ most_bytes) → 0 < r → r ≤ l → l - r < most_bytes
    before (inl h) q n = h.1
    before (inr h) q n = omega arith

pub returns-else-rest-gt0 : goal.returns-else-rest-gt0
returns-else-rest-gt0 c =
    let p = bytes_from c.args.bytes.now (λ i. omega (arith, c.type_inv.bytes i)) in
    let d = reads_module c.args.bytes.now c.in-Ok.core c.in-Ok.rest.now p c.in-Ok.ensures (omega (arith, c.if-rest-gt0.false)) (within c.else-len-gt-MOST.either c.if-rest-gt0.false) in
    record { spelled = d.spelled; refusal = d.refusal; each_module = d.each_module; each_refusal = d.each_refusal }
  where
    within : {l r : ℕ} → ((most_bytes < l) × (l - r < most_bytes)) ⊎ (l ≤ most_bytes) → r ≤ 0 → l ≤ most_bytes
    within (inl h) q = absurd (omega (arith, h.0, h.1))
    within (inr h) q = h

pub returns-then-place-ge-MOST : goal.returns-then-place-ge-MOST
returns-then-place-ge-MOST c =
    let p = bytes_from c.args.bytes.now (λ i. omega (arith, c.type_inv.bytes i)) in
    let n = stop_left c.args.bytes.now c.in-Err-Refused.stop p (rw c.in-Err-Refused.field-0-is at c.in-Err-Refused.ensures) in
    let d = stops_late c.args.bytes.now c.in-Err-Refused.stop (length c.args.bytes.now - c.in-Err-Refused.stop.left) p (rw c.in-Err-Refused.field-0-is at c.in-Err-Refused.ensures) (omega (arith, n)) (omega (arith, c.if-place-ge-MOST.true)) (omega (arith, c.if-len-gt-MOST-2.true)) in
    record { spelled = d.spelled; refusal = d.refusal; each_module = d.each_module; each_refusal = d.each_refusal }

pub returns-else-len-gt-MOST-2 : goal.returns-else-len-gt-MOST-2
returns-else-len-gt-MOST-2 c =
    let p = bytes_from c.args.bytes.now (λ i. omega (arith, c.type_inv.bytes i)) in
    let n = stop_left c.args.bytes.now c.in-Err-Refused.stop p (rw c.in-Err-Refused.field-0-is at c.in-Err-Refused.ensures) in
    let d = stops_here c.args.bytes.now c.in-Err-Refused.stop (length c.args.bytes.now - c.in-Err-Refused.stop.left) p (rw c.in-Err-Refused.field-0-is at c.in-Err-Refused.ensures) (omega (arith, n)) (early c.else-len-gt-MOST-2.either) in
    record { spelled = d.spelled; refusal = d.refusal; each_module = d.each_module; each_refusal = d.each_refusal }
  where
    early : {l e : ℕ} → ((most_bytes < l) × (e < most_bytes)) ⊎ (l ≤ most_bytes) → (e < most_bytes) ⊎ (l ≤ most_bytes)
    early (inl h) = inl h.1
    early (inr h) = inr h
