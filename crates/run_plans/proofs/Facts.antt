-- What is known of the shapes of a valid image's types.
use Rattle.std.proofs.Common.{◌≡◌, ℕ, Bool, true, false, List, Option, Some, None, subst, refl, arith}
use Rattle.std.specs.Prelude.{nat_eq, is_some}
use Rattle.spirv_words.specs.declared.images.Instruction.{Instruction}
use Rattle.spirv_words.specs.Machine.{Shape, Truths, Words, Repeated, Unbounded, Fields, is_signed}
use Rattle.spirv_words.specs.Runs.{signed}
use Rattle.image_lookup.specs.declared.sorts.Sort.TheVariants.{BoolType, IntType, VectorType, ArrayType, RuntimeArrayType, StructType}
use Rattle.image_lookup.specs.Lookups.{sort, operand, is_value}
use Rattle.image_declarations.specs.Decorations.{stride_of}
use Rattle.image_declarations.specs.Types.{length_of}
use Rattle.image_declarations.specs.Holdings.{is_data}
use Rattle.image_facts.specs.Operands.{globals_of, shape, type_id}
use Rattle.image_facts.specs.Shaped.{IsRepeated, IsUnbounded, IsFields, HasData}
use Rattle.image_facts.proofs.Shapes.{shape-bool, shape-int, shape-vector}
use Rattle.image_facts.proofs.Data.{shape-array, shape-runtime, shape-struct, data-shape}
use Rattle.image_facts.proofs.Values.{signed-is}
use Rattle.run_rooms.specs.Valid.{IsOfValid}
use Rattle.run_plans.specs.Walks.{HasShape}

module _ (code : List Instruction) (v : IsOfValid code) where
  pub bool_shape : (t : ℕ) → sort code t ≡ BoolType → shape code t ≡ Some Truths
  bool_shape = subst (λ (c : List Instruction). (t : ℕ) → sort c t ≡ BoolType → shape c t ≡ Some Truths) v.same (shape-bool v.image v.valid)

  pub int_shape : (t : ℕ) → sort code t ≡ IntType → shape code t ≡ Some (Words (nat_eq (operand code t 2) 1))
  int_shape =
      subst (λ (c : List Instruction). (t : ℕ) → sort c t ≡ IntType → shape c t ≡ Some (Words (nat_eq (operand c t 2) 1))) v.same
      (shape-int v.image v.valid)

  pub vector_shape : (t : ℕ) → sort code t ≡ VectorType → IsRepeated code t (operand code t 2) 4
  vector_shape =
      subst (λ (c : List Instruction). (t : ℕ) → sort c t ≡ VectorType → IsRepeated c t (operand c t 2) 4) v.same (shape-vector v.image v.valid)

  pub array_shape : (t : ℕ) → sort code t ≡ ArrayType → IsRepeated code t (length_of code (operand code t 2)) (stride_of code t)
  array_shape =
      subst (λ (c : List Instruction). (t : ℕ) → sort c t ≡ ArrayType → IsRepeated c t (length_of c (operand c t 2)) (stride_of c t)) v.same
      (shape-array v.image v.valid)

  pub runtime_shape : (t : ℕ) → sort code t ≡ RuntimeArrayType → IsUnbounded code t
  runtime_shape =
      subst (λ (c : List Instruction). (t : ℕ) → sort c t ≡ RuntimeArrayType → IsUnbounded c t) v.same (shape-runtime v.image v.valid)

  pub struct_shape : (t : ℕ) → sort code t ≡ StructType → IsFields code t
  struct_shape = subst (λ (c : List Instruction). (t : ℕ) → sort c t ≡ StructType → IsFields c t) v.same (shape-struct v.image v.valid)

  pub data_shape : (t : ℕ) → is_data code t ≡ true → HasData code t
  data_shape = subst (λ (c : List Instruction). (t : ℕ) → is_data c t ≡ true → HasData c t) v.same (data-shape v.image v.valid)

  pub signed_is : (x : ℕ) → is_value code x ≡ true → signed code (globals_of code) x ≡ is_signed (shape code (type_id code x))
  signed_is = signed-is code

-- a type that is told to have a shape has one
pub shaped : (code : List Instruction) (t : ℕ) → is_some (shape code t) ≡ true → HasShape code t
shaped code t e = by_option (shape code t) refl e
  where
    never : false ≡ true → ⊥
    never e = grind arith

    by_option : (o : Option Shape) → shape code t ≡ o → is_some o ≡ true → HasShape code t
    by_option (Some s) same e = (s, same)
    by_option None same e = absurd (never e)
