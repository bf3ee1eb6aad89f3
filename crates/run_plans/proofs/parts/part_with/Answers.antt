use Rattle.std.proofs.Common.{◌≡◌, ◌<◌, ◌+◌, ◌*◌, ◌^◌, ◌≤◌, ℕ, Some, sym, ap, ◌∙◌, arith}
use Rattle.spirv_words.specs.declared.images.Instruction.{Instruction}
use Rattle.image_lookup.specs.declared.sorts.Sort.TheVariants.{VectorType, ArrayType, StructType}
use Rattle.image_lookup.specs.Lookups.{sort, operand}
use Rattle.image_declarations.specs.Decorations.{stride_of}
use Rattle.image_declarations.specs.Types.{length_of}
use Rattle.run_plans.proofs.Facts.{vector_shape, array_shape, struct_shape}
use Rattle.run_plans.proofs.Placed.{repeated_part, member_part}
use Rattle.run_plans.proofs.Widths.{vector_there, array_there, struct_part, struct_there, element_fits, element_inside, member_inside}
use Rattle.run_plans.proofs.parts.part_with.Goals as goal

pub element-requires-clause-fits : goal.element-requires-clause-fits
element-requires-clause-fits c =
    let code = c.args.places.now.places.code in
    let t = c.args.type_id in
    let n = c.args.number in
    let e : sort code t ≡ VectorType = ap (λ is. sort is t) (sym c.declarations-declarations.ensures) ∙ sym c.in-VectorType.ensures in
    let h = vector_there code t n e c.requires.there in
    element_fits code c.requires.ground.narrow t n (operand code t 2) 4 (vector_shape code c.requires.ground.valid t e) h.0

pub element-requires-in-ArrayType-clause-fits : goal.element-requires-in-ArrayType-clause-fits
element-requires-in-ArrayType-clause-fits c =
    let code = c.args.places.now.places.code in
    let t = c.args.type_id in
    let n = c.args.number in
    let e : sort code t ≡ ArrayType = ap (λ is. sort is t) (sym c.declarations-declarations.ensures) ∙ sym c.in-ArrayType.ensures in
    let h = array_there code t n e c.requires.there in
    element_fits code c.requires.ground.narrow t n (length_of code (operand code t 2)) (stride_of code t) (array_shape code c.requires.ground.valid t e) h.0

pub returns-in-VectorType : goal.returns-in-VectorType
returns-in-VectorType c =
    let code = c.args.places.now.places.code in
    let t = c.args.type_id in
    let n = c.args.number in
    let e : sort code t ≡ VectorType = ap (λ is. sort is t) (sym c.declarations-declarations.ensures) ∙ sym c.in-VectorType.ensures in
    let h = vector_there code t n e c.requires.there in
    let r = vector_shape code c.requires.ground.valid t e in
    record {
      part = repeated_part code t n (operand code t 2) 4 c.element.result.type_id c.element.result.place r h.0 c.element.ensures.of c.element.ensures.behind;
      of = h.1 ∙ ap Some (sym c.element.ensures.of);
      inside = element_inside code c.requires.ground.narrow t n (operand code t 2) 4 r h.0 c.element.result.type_id c.element.result.place
          c.element.ensures.of c.element.ensures.behind;
    }

pub returns-in-ArrayType : goal.returns-in-ArrayType
returns-in-ArrayType c =
    let code = c.args.places.now.places.code in
    let t = c.args.type_id in
    let n = c.args.number in
    let e : sort code t ≡ ArrayType = ap (λ is. sort is t) (sym c.declarations-declarations.ensures) ∙ sym c.in-ArrayType.ensures in
    let h = array_there code t n e c.requires.there in
    let r = array_shape code c.requires.ground.valid t e in
    let part = c.element-in-ArrayType.result in
    record {
      part = repeated_part code t n (length_of code (operand code t 2)) (stride_of code t) part.type_id part.place r h.0
          c.element-in-ArrayType.ensures.of c.element-in-ArrayType.ensures.behind;
      of = h.1 ∙ ap Some (sym c.element-in-ArrayType.ensures.of);
      inside = element_inside code c.requires.ground.narrow t n (length_of code (operand code t 2)) (stride_of code t) r h.0 part.type_id part.place
          c.element-in-ArrayType.ensures.of c.element-in-ArrayType.ensures.behind;
    }

pub member-requires-clause-there : goal.member-requires-clause-there
member-requires-clause-there c =
    let code = c.args.places.now.places.code in
    let t = c.args.type_id in
    let e : sort code t ≡ StructType = ap (λ is. sort is t) (sym c.declarations-declarations.ensures) ∙ sym c.in-StructType.ensures in
    struct_there code t c.args.number e c.requires.there

pub returns-in-StructType : goal.returns-in-StructType
returns-in-StructType c =
    let code = c.args.places.now.places.code in
    let t = c.args.type_id in
    let n = c.args.number in
    let e : sort code t ≡ StructType = ap (λ is. sort is t) (sym c.declarations-declarations.ensures) ∙ sym c.in-StructType.ensures in
    let f = struct_shape code c.requires.ground.valid t e in
    let part = c.member.result in
    record {
      part = member_part code t n part.type_id part.place f c.member.ensures;
      of = struct_part code t n e ∙ c.member.ensures.type;
      inside = member_inside code t n part.type_id part.place f c.member.ensures;
    }
