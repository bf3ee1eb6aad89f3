use Rattle.std.proofs.Common.{◌≡◌, true, false, arith, List, ap, sym, ◌∙◌}
use Rattle.spirv_words.specs.declared.images.Instruction.{Instruction}
use Rattle.image_lookup.specs.Lookups.{operand, sort}
use Rattle.image_lookup.specs.declared.sorts.Sort.TheVariants.{VectorType, ArrayType, RuntimeArrayType}
use Rattle.image_declarations.specs.Types.{length_of}
use Rattle.image_declarations.specs.Decorations.{stride_of}
use Rattle.run_plans.specs.Ground.{rooms_of}
use Rattle.run_plans.proofs.Facts.{vector_shape, array_shape, runtime_shape}
use Rattle.run_plans.proofs.Walking.{repeated_if, unbounded_if, unbounded_outside}
use Rattle.run_plans.proofs.steps.step_from.Goals as goal

pub returns-in-VectorType-clause-step : goal.returns-in-VectorType-clause-step
returns-in-VectorType-clause-step c =
    let code = c.args.places.now.places.code in
    let t = c.args.type_id in
    repeated_if code (rooms_of c.args.places.now) c.args.in_buffer t (operand code t 2) 4 c.args.id _
    (vector_shape code c.requires.ground.valid t (grind arith)) (grind arith)

pub returns-in-ArrayType-clause-step : goal.returns-in-ArrayType-clause-step
returns-in-ArrayType-clause-step c =
    let code = c.args.places.now.places.code in
    let t = c.args.type_id in
    repeated_if code (rooms_of c.args.places.now) c.args.in_buffer t (length_of code (operand code t 2)) (stride_of code t) c.args.id _
    (array_shape code c.requires.ground.valid t (grind arith)) (grind arith)

pub returns-in-RuntimeArrayType-clause-step : goal.returns-in-RuntimeArrayType-clause-step
returns-in-RuntimeArrayType-clause-step c =
    let code = c.args.places.now.places.code in
    let t = c.args.type_id in
    unbounded_if code (rooms_of c.args.places.now) c.args.in_buffer t c.args.id _ c.if-in_buffer.true
    (runtime_shape code c.requires.ground.valid t (grind arith)) (grind arith)

pub returns-in-RuntimeArrayType-2-clause-step : goal.returns-in-RuntimeArrayType-2-clause-step
returns-in-RuntimeArrayType-2-clause-step c =
    let code = c.args.places.now.places.code in
    let t = c.args.type_id in
    unbounded_outside code (rooms_of c.args.places.now) c.args.in_buffer t c.args.id c.if-in_buffer.false
    (runtime_shape code c.requires.ground.valid t (grind arith))
