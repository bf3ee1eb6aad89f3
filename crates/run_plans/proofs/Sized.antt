-- How many words values have, and that 32 bits tell it.
use Rattle.std.proofs.Common.{◌≡◌, ℕ, ◌+◌, ◌*◌, ◌^◌, ◌<◌, Bool, true, false, cond, List, [], ◌∷◌, length, drop, slice_index_or, Option, Some, None, refl, ap, suc-mul, arith}
use Rattle.std.specs.Prelude.{nat_eq}
use Rattle.std.specs.List.{list_all}
use Rattle.std.proofs.lemmas.Bool.{and_parts, eqb-true}
use Rattle.spirv_words.specs.declared.images.Instruction.{Instruction}
use Rattle.spirv_words.specs.Machine.{Shape, if_some}
use Rattle.flat_values.specs.Flat.{width}
use Rattle.image_lookup.specs.Lookups.{operand}
use Rattle.image_declarations.specs.Reach.{is_buffer_class}
use Rattle.image_declarations.specs.Holdings.{has_type}
use Rattle.image_operands.specs.Memory.{is_pointer}
use Rattle.image_facts.specs.Operands.{shape}
use Rattle.run_rooms.specs.Rooms.{size_of, slot_size}
use Rattle.run_plans.specs.Acted.{sizes}
use Rattle.run_plans.specs.Grounds.{AreNarrow}
use Rattle.run_plans.proofs.Chained.{dropped}

module _ (code : List Instruction) where
  -- an operand of each type has fewer than 2^32 words
  pub size_small : (t : ℕ) → AreNarrow code → size_of code t < 2 ^ 32
  size_small t n = by_test (is_pointer code t) (is_buffer_class (operand code t 1)) (shape code t) refl
    where
      by_test : (p b : Bool) (o : Option Shape) → shape code t ≡ o → cond p (cond b 2 1) (if_some o 0 width) < 2 ^ 32
      by_test true true o e = omega arith
      by_test true false o e = omega arith
      by_test false b (Some s) e = n.each t s e
      by_test false b None e = omega arith

  -- the words of values from one on are its own and those behind it
  pub sizes_from : (xs : List ℕ) (k : ℕ) → k < length xs → sizes code (drop k xs) ≡ slot_size code (slice_index_or xs k 0) + sizes code (drop (k + 1) xs)
  sizes_from xs k lt = ap (sizes code) (dropped xs k lt)

  -- ---- values of one type

  -- a value of a type has as many words as the type
  pub size_as : (v t : ℕ) → has_type code v t ≡ true → slot_size code v ≡ size_of code t
  size_as v t h = ap (size_of code) (eqb-true (operand code v 0) t (and_parts _ (nat_eq (operand code v 0) t) h).1)

  pub sizes_of_one : (of : ℕ) (vs : List ℕ) → list_all (λ v. has_type code v of) vs ≡ true → sizes code vs ≡ length vs * size_of code of
  sizes_of_one of [] h = none (size_of code of)
    where
      none : (n : ℕ) → 0 ≡ 0 * n
      none n = omega arith
  sizes_of_one of (v ∷ vs) h =
      let both = and_parts (has_type code v of) (list_all (λ v. has_type code v of) vs) h in
      let one = size_as v of both.0 in
      let more = sizes_of_one of vs both.1 in
      let product = suc-mul (length vs) (size_of code of) in
      omega (arith, one, more, product)
