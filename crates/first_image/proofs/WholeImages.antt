-- The image, from its parts as they are emitted.
use Rattle.std.proofs.Common.{◌≡◌, ℕ, ◌+◌, List, ◌++◌, ap, ◌∙◌, append_assoc}
use Rattle.spirv_words.specs.declared.images.Instruction.{Instruction}
use Rattle.spirv_words.specs.declared.images.Image.{Image}
use Rattle.first_form.specs.declared.shader.Shader.{Shader}
use Rattle.first_image.specs.Templates.{statements_code}
use Rattle.first_image.specs.Sections.{beginning, plain_types, constants_code, pointer_types, nulls}
use Rattle.first_image.specs.Image.{constants, buffer_types, more_types, variables, image_of}
use Rattle.first_image.specs.Emitted.{array_at, pointers_at, nulls_at, buffer_at, entry_at, tables_at, entry_start, entry_end, image_with, preamble_at, declared_at}

regroup : (a b c d e f g h i j : List Instruction) → ((a ++ b) ++ (c ++ (d ++ (e ++ (f ++ (g ++ (h ++ i))))))) ++ j ≡ a ++ (b ++ (c ++ (d ++ (e ++ (f ++ (g ++ (h ++ (i ++ j))))))))
regroup a b c d e f g h i j = simp append_assoc

pub image_from_parts : (ks home : List ℕ) (p : Shader) (code : List Instruction) → ks ≡ constants p → code ≡ (beginning ++ preamble_at ks home p) ++ declared_at ks
    → image_with ks code p.statements ≡ image_of home p
image_from_parts ks home p code same is =
    let whole : List ℕ → Image = λ ks. image_with ks ((beginning ++ preamble_at ks home p) ++ declared_at ks) p.statements in
    let cs = constants p in
    let a = array_at cs in
    let n = pointers_at cs in
    let b = buffer_at cs in
    let body = statements_code (tables_at cs) p.statements (entry_at cs + 4) 0 in
    ap (λ l. image_with ks l p.statements) is ∙ ap whole same
    ∙ ap (λ l. record { bound = body.id; instructions = l })
    (regroup beginning (preamble_at cs home p) plain_types (constants_code 13 cs) (buffer_types a) (pointer_types n) (more_types a n) (nulls (nulls_at cs)) (variables n b)
    (entry_start n b (entry_at cs) ++ (body.instructions ++ entry_end)))
