use Rattle.std.proofs.Common.{◌≡◌, ℕ, Bool, true, false, Option, Some, None, refl, arith, ap, ◌∙◌, subst}
use Rattle.std.specs.Prelude.{is_some}
use Rattle.run_actions.specs.declared.actions.Action.TheVariants.{Chain, BufferChain}
use Rattle.image_lookup.specs.Lookups.{operand}
use Rattle.image_declarations.specs.Reach.{is_buffer_class}
use Rattle.image_facts.specs.Operands.{type_id, shape}
use Rattle.run_plans.specs.Ground.{rooms_of}
use Rattle.image_operands.specs.Memory.{chain_end}
use Rattle.run_plans.specs.Walks.{IsThere}
use Rattle.run_plans.specs.Steps.{IsWalk, IsWalkIf}
use Rattle.run_plans.proofs.Facts.{shaped}
use Rattle.run_plans.proofs.Chained.{chain_is, buffer_chain_is, no_chain_is}
use Rattle.run_plans.proofs.chains.chain_of.Goals as goal

pub returns-then-in_buffer : goal.returns-then-in_buffer
returns-then-in_buffer c =
    let code = c.args.places.now.places.code in
    let L = rooms_of c.args.places.now in
    let to : c.operand-of.result ≡ operand code (type_id code c.args.pointer) 2 = grind arith in
    let known : is_some (shape code c.operand-of.result) ≡ true = grind arith in
    let inside : is_buffer_class (operand code (type_id code c.args.pointer) 1) ≡ true = grind arith in
    let found = subst (IsWalkIf code L c.is_buffer_class-in_buffer.result c.operand-of.result c.args.indices.now) c.in-Some.is c.in_ok-walk.ensures in
    let walk = subst (λ (b : Bool). IsWalk code L b c.operand-of.result c.args.indices.now found.far c.in-Some.walk.steps)
    c.if-in_buffer.true found.leads in
    ap (λ n. BufferChain n c.slot-to.result c.in-Some.walk.offset c.in-Some.walk.steps) c.slot-pointer.ensures
    ∙ ap (λ n. BufferChain (L.slot c.args.pointer) n c.in-Some.walk.offset c.in-Some.walk.steps) c.slot-to.ensures
    ∙ ap (λ n. BufferChain (L.slot c.args.pointer) (L.slot c.args.to) n c.in-Some.walk.steps) found.cut
    ∙ buffer_chain_is code L c.args.to c.args.pointer c.operand-of.result c.args.indices.now found.far c.in-Some.walk.steps to
    (shaped code c.operand-of.result known) walk inside

pub returns-else-in_buffer : goal.returns-else-in_buffer
returns-else-in_buffer c =
    let code = c.args.places.now.places.code in
    let L = rooms_of c.args.places.now in
    let to : c.operand-of.result ≡ operand code (type_id code c.args.pointer) 2 = grind arith in
    let known : is_some (shape code c.operand-of.result) ≡ true = grind arith in
    let inside : is_buffer_class (operand code (type_id code c.args.pointer) 1) ≡ false = grind arith in
    let found = subst (IsWalkIf code L c.is_buffer_class-in_buffer.result c.operand-of.result c.args.indices.now) c.in-Some.is c.in_ok-walk.ensures in
    let walk = subst (λ (b : Bool). IsWalk code L b c.operand-of.result c.args.indices.now found.far c.in-Some.walk.steps)
    c.if-in_buffer.false found.leads in
    ap (λ n. Chain n c.slot-to.result c.in-Some.walk.offset c.in-Some.walk.steps) c.slot-pointer.ensures
    ∙ ap (λ n. Chain (L.slot c.args.pointer) n c.in-Some.walk.offset c.in-Some.walk.steps) c.slot-to.ensures
    ∙ ap (λ n. Chain (L.slot c.args.pointer) (L.slot c.args.to) n c.in-Some.walk.steps) found.cut
    ∙ chain_is code L c.args.to c.args.pointer c.operand-of.result c.args.indices.now found.far c.in-Some.walk.steps to
    (shaped code c.operand-of.result known) walk inside

pub returns-in-None : goal.returns-in-None
returns-in-None c =
    let code = c.args.places.now.places.code in
    let L = rooms_of c.args.places.now in
    let to : c.operand-of.result ≡ operand code (type_id code c.args.pointer) 2 = grind arith in
    let known : is_some (shape code c.operand-of.result) ≡ true = grind arith in
    let inside : is_buffer_class (operand code (type_id code c.args.pointer) 1) ≡ c.is_buffer_class-in_buffer.result = grind arith in
    let none = subst (IsWalkIf code L c.is_buffer_class-in_buffer.result c.operand-of.result c.args.indices.now) c.in-None.is c.in_ok-walk.ensures in
    no_chain_is code L c.args.to c.args.pointer c.operand-of.result c.args.indices.now c.is_buffer_class-in_buffer.result to
    (shaped code c.operand-of.result known) none inside

some_there : (o : Option ℕ) → is_some o ≡ true → IsThere o
some_there (Some n) e = record { it = n; is = refl }
some_there None e = cc

pub walk_along-requires-clause-leads : goal.walk_along-requires-clause-leads
walk_along-requires-clause-leads c =
    let code = c.args.places.now.places.code in
    let to : c.operand-of.result ≡ operand code (operand code c.args.pointer 0) 2 = grind arith in
    some_there (chain_end code c.operand-of.result c.args.indices.now)
    (ap (λ t. is_some (chain_end code t c.args.indices.now)) to ∙ c.requires.leads)
