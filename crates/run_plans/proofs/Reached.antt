-- A type that a buffer has is declared by an instruction whose first operand it is.
use Rattle.std.proofs.Common.{◌≡◌, ℕ, zero, suc, ◌+◌, ◌^◌, ◌<◌, ◌≤◌, Bool, true, false, ◌||◌, not, List, [], ◌∷◌, length, slice_get, slice_index, Option, Some, None, refl, sym, ap, ◌∙◌, subst, arith}
use Rattle.std.specs.Prelude.{nat_lt}
use Rattle.std.proofs.lemmas.Bool.{ltb-true, ltb-false}
use Rattle.std.proofs.lemmas.Option.{slice_get_within}
use Rattle.spirv_words.specs.declared.opcodes.Op.{Op}
use Rattle.spirv_words.specs.declared.opcodes.Op.TheVariants.{TypeVoid, TypeBool, TypeInt, TypeVector, TypeArray, TypeRuntimeArray, TypeStruct, TypePointer, TypeFunction}
use Rattle.spirv_words.specs.declared.images.Instruction.{Instruction}
use Rattle.spirv_words.specs.declared.images.Image.{Image}
use Rattle.spirv_words.specs.Machine.{Standing, First, standing, result_at, result_of}
use Rattle.image_lookup.specs.declared.sorts.Sort.{Sort}
use Rattle.image_lookup.specs.declared.sorts.Sort.TheVariants.{Nothing}
use Rattle.image_lookup.specs.Sorts.{sort_of}
use Rattle.image_lookup.specs.Lookups.{sort}
use Rattle.image_declarations.specs.Holdings.{extent, is_reached}
use Rattle.image_types.specs.Parts.{is_type_sort}
use Rattle.image_facts.proofs.Made.{place-of}
use Rattle.image_facts.proofs.Sorts.{sorted}
use Rattle.image_facts.proofs.Reaching.{Cases, by-cases}
use Rattle.image_facts.proofs.Buffers.{reached-kind}
use Rattle.spirv_check.specs.Valid.{Valid}
use Rattle.run_rooms.specs.Valid.{IsOfValid}
use Rattle.run_plans.specs.Grounds.{is_near, AreNear, IsFar}

standing_first : (op : Op) → is_type_sort (sort_of op) ≡ true → standing op ≡ First
standing_first TypeVoid e = refl
standing_first TypeBool e = refl
standing_first TypeInt e = refl
standing_first TypeVector e = refl
standing_first TypeArray e = refl
standing_first TypeRuntimeArray e = refl
standing_first TypeStruct e = refl
standing_first TypePointer e = refl
standing_first TypeFunction e = refl
standing_first op e = cc

first_by : (os : List ℕ) (t : ℕ) → result_at First os ≡ Some t → (rest : List ℕ) × (os ≡ t ∷ rest)
first_by [] t e = cc
first_by (x ∷ os) t e = let same : x ≡ t = cc in (os, ap (λ y. y ∷ os) same)

-- an instruction has an id as its first operand
record IsFirst (code : List Instruction) (t : ℕ) : Type 0 where
  number : ℕ
  instruction : Instruction
  rest : List ℕ
  stands : slice_get code number ≡ Some instruction
  begins : instruction.operands ≡ t ∷ rest

no_type : (s : Sort) → is_type_sort s ≡ true → Nothing ≡ s → ⊥
no_type Nothing e f = cc
no_type s e f = cc

first_of : (code : List Instruction) (t : ℕ) → is_type_sort (sort code t) ≡ true → IsFirst code t
first_of code t h =
    let z = sorted code t (sort code t) refl (no_type (sort code t) h) in
    let x = z.instruction in
    let p = place-of code t x z.defines in
    let first = standing_first x.op (ap is_type_sort z.of_sort ∙ h) in
    let begins = first_by x.operands t (ap (λ (s : Standing). result_at s x.operands) (sym first) ∙ p.result) in
    record { number = p.place; instruction = x; rest = begins.0; stands = p.stands; begins = begins.1 }

reached_first : (image : Image) → Valid image → (t : ℕ) → is_reached image.instructions t ≡ true → IsFirst image.instructions t
reached_first image v t h =
    first_of image.instructions t
    (by-cases image v (λ t. is_type_sort (sort image.instructions t) ≡ true)
    (record {
      bool = λ t e. ap is_type_sort e;
      int = λ t e. ap is_type_sort e;
      vector = λ t e. ap is_type_sort e;
      array = λ t e p. ap is_type_sort e;
      runtime = λ t e p. ap is_type_sort e;
      struct = λ t e p. ap is_type_sort e;
    })
    t (reached-kind image v t h))

near_cases : (r : Bool) (n : ℕ) → r ≡ true → (not r || nat_lt n (2 ^ 32)) ≡ true → n < 2 ^ 32
near_cases true n e h = ltb-true n (2 ^ 32) h
near_cases false n e h = cc

far_cases : (r : Bool) (n : ℕ) → (not r || nat_lt n (2 ^ 32)) ≡ false → (r ≡ true) × (2 ^ 32 ≤ n)
far_cases true n h = (refl, ltb-false n (2 ^ 32) h)
far_cases false n h = cc

-- all types that buffers have end near, if all that instructions declare do
pub all_near : (code : List Instruction) → IsOfValid code → ((k : ℕ) (i : Instruction) → k < length code → slice_get code k ≡ Some i → is_near code i.operands ≡ true)
    → AreNear code
all_near code v h =
    subst (λ (c : List Instruction). ((k : ℕ) (i : Instruction) → k < length c → slice_get c k ≡ Some i → is_near c i.operands ≡ true) → AreNear c) v.same
    (λ h. record {
      each = λ t r.
          let f = reached_first v.image v.valid t r in
          near_cases (is_reached v.image.instructions t) (extent v.image.instructions t) r
          (ap (is_near v.image.instructions) (sym f.begins) ∙ h f.number f.instruction (slice_get_within v.image.instructions f.number f.instruction f.stands) f.stands);
    }) h

-- and one that does not is far
pub one_far : (code : List Instruction) (os : List ℕ) → is_near code os ≡ false → IsFar code
one_far code [] h = cc
one_far code (t ∷ os) h = let f = far_cases (is_reached code t) (extent code t) h in record { type_id = t; reached = f.0; far = f.1 }

-- never both
pub near_or_far : (code : List Instruction) → AreNear code → IsFar code → ⊥
near_or_far code near far = let l = near.each far.type_id far.reached in let m = far.far in omega arith
