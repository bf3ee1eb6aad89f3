use Rattle.std.proofs.Common.{◌++◌, ◌∙◌, ap}
use Rattle.first_image.specs.Sections.{plain_types, constants_code, pointer_types, nulls}
use Rattle.first_image.specs.Image.{buffer_types, more_types, variables}
use Rattle.first_image.specs.Emitted.{array_at, pointers_at, nulls_at, buffer_at}
use Rattle.first_image.proofs.Appending.{first, then, regroup_seven}
use Rattle.first_image.proofs.emitting.emit_declarations.Goals as goal

pub returns : goal.returns
returns c =
    let ks = c.args.ids.now.numbers.items in
    let a = array_at ks in
    let n = pointers_at ks in
    let k = nulls_at ks in
    let b = buffer_at ks in
    let l1 = c.emit_plain_types.new.code in
    let l2 = c.emit_constants.new.code in
    let l3 = c.emit_buffer_types.new.code in
    let l4 = c.emit_pointer_types.new.code in
    let l5 = c.emit_more_types.new.code in
    let l6 = c.emit_nulls.new.code in
    let s1 = first {more = plain_types} c.in_ok-emit_plain_types.ensures in
    let s2 = then (constants_code 13 ks) s1 (c.in_ok-emit_constants.ensures ∙ ap (λ x. l1 ++ constants_code 13 x) c.as_slice.ensures.value) in
    let s3 = then (buffer_types a) s2 (c.in_ok-emit_buffer_types.ensures ∙ ap (λ x. l2 ++ buffer_types x) c.array.ensures) in
    let s4 = then (pointer_types n) s3 (c.in_ok-emit_pointer_types.ensures ∙ ap (λ x. l3 ++ pointer_types x) c.pointers.ensures) in
    let s5 = then (more_types a n) s4 (c.in_ok-emit_more_types.ensures ∙ ap (λ x. l4 ++ more_types x c.pointers-2.result) c.array-2.ensures ∙ ap (λ x. l4 ++ more_types a x) c.pointers-2.ensures) in
    let s6 = then (nulls k) s5 (c.in_ok-emit_nulls.ensures ∙ ap (λ x. l5 ++ nulls x) c.nulls.ensures) in
    let s7 = then (variables n b) s6 (c.in_ok-emit_variables.ensures ∙ ap (λ x. l6 ++ variables x c.buffer.result) c.pointers-3.ensures ∙ ap (λ x. l6 ++ variables n x) c.buffer.ensures) in
    s7.is ∙ ap (λ l. c.args.code.now ++ l) (regroup_seven plain_types (constants_code 13 ks) (buffer_types a) (pointer_types n) (more_types a n) (nulls k) (variables n b))
