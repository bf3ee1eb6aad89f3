use Rattle.std.proofs.Common.{◌≡◌, ◌+◌, ◌/◌, ◌<◌, ◌^◌, ℕ, min, arith, sym, ap, ◌∙◌, subst}
use Rattle.image_lookup.specs.Lookups.{operand}
use Rattle.image_declarations.specs.Holdings.{extent}
use Rattle.image_facts.specs.Operands.{type_id}
use Rattle.run_plans.proofs.Bounded.{needs_is, buffer_end}
use Rattle.run_plans.proofs.buffers.needed.Goals as goal

pub returns : goal.returns
returns c =
    let code = c.args.declarations.now in
    let of : c.operand.result ≡ operand code (type_id code c.args.id) 2 = grind arith in
    let near = buffer_end code c.requires.valid c.requires.near c.args.id c.requires.buffer in
    let end : c.extent-end.result ≡ min (extent code (operand code (type_id code c.args.id) 2)) (2 ^ 32) =
    c.extent-end.ensures ∙ ap (λ t. min (extent code t) (2 ^ 32)) of in
    ap (λ n. (n + 3) / 4) (end ∙ whole _ near) ∙ sym (needs_is code c.requires.valid c.args.id c.requires.buffer)
  where
    whole : (n : ℕ) → n < 2 ^ 32 → min n (2 ^ 32) ≡ n
    whole n l = omega arith
