-- The facts of types, one instruction further.
use Rattle.std.proofs.Common.{◌≡◌, ℕ, zero, suc, ◌<◌, ◌+◌, ◌*◌, ◌-◌, ◌^◌, min, max, Bool, true, false, cond, nat_eq, List, [], ◌∷◌, drop, Option, Some, None, slice_index, ◌∙◌, ap, sym, refl, arith, ◌&&◌, ◌||◌}
use Rattle.std.proofs.lemmas.Bool.{ne_eqb}
use Rattle.std.specs.List.{list_any, list_all}
use Rattle.std.specs.Option.{option_map}
use Rattle.std.specs.HashMap.{HashMap, get}
use Rattle.spirv_words.specs.declared.images.Instruction.{Instruction}
use Rattle.spirv_words.specs.Machine.{if_some}
use Rattle.image_lookup.specs.declared.sorts.Sort.{Sort}
use Rattle.image_lookup.specs.declared.sorts.Sort.TheVariants.{VoidType, BoolType, IntType, VectorType, ArrayType, RuntimeArrayType, StructType, PointerType, FunctionType, Number, Null, Holder, Computed, Callee, Block, Nothing}
use Rattle.image_declarations.specs.declared.types.TypeFacts.{TypeFacts}
use Rattle.image_declarations.specs.Decorations.{offset_of, stride_of}
use Rattle.image_declarations.specs.Types.{end_of, span, length_of, fields_extent, facts_by, capped, known_by, facts_in}

abbrev made : Bool → Bool → ℕ → Option TypeFacts
made d u e = Some (record { is_data = d; unbounded = u; extent = e })

same : (d e u v : Bool) (m n : ℕ) → d ≡ e → u ≡ v → m ≡ n → made d u m ≡ made e v n
same d e u v m n p q r = ap (λ d. made d u m) p ∙ ap (λ u. made e u m) q ∙ ap (made e v) r

positive : (k : ℕ) → 0 < k → nat_eq k 0 ≡ false
positive k p = ne_eqb k 0 (never k p)
  where
    never : (k : ℕ) → 0 < k → k ≡ 0 → ⊥
    never k p e = omega arith

end-capped : (o m : ℕ) → min (end_of o (min m (2 ^ 32))) (2 ^ 32) ≡ min (end_of o m) (2 ^ 32)
end-capped o zero = refl
end-capped o (suc n) =
    ap (λ b. min (cond b 0 (o + min (suc n) (2 ^ 32))) (2 ^ 32)) (positive (min (suc n) (2 ^ 32)) (omega arith))
    ∙ capped-sum o (suc n)
    ∙ sym (ap (λ b. min (cond b 0 (o + suc n)) (2 ^ 32)) (positive (suc n) (omega arith)))
  where
    capped-sum : (o m : ℕ) → min (o + min m (2 ^ 32)) (2 ^ 32) ≡ min (o + m) (2 ^ 32)
    capped-sum o m = omega arith

span-capped : (count stride m : ℕ) → min (span count stride (min m (2 ^ 32))) (2 ^ 32) ≡ min (span count stride m) (2 ^ 32)
span-capped count stride m =
    elim (nat_eq count 0) as (λ b. min (cond b 0 (end_of ((count - 1) * stride) (min m (2 ^ 32)))) (2 ^ 32) ≡ min (cond b 0 (end_of ((count - 1) * stride) m)) (2 ^ 32)) [
      | true ↦ refl
      | false ↦ end-capped ((count - 1) * stride) m
    ]

module _ (code : List Instruction) (known shown : ℕ → TypeFacts) (h : (id : ℕ) → shown id ≡ capped (known id)) where
  all-same : (ts : List ℕ) → list_all (λ t. (shown t).is_data) ts ≡ list_all (λ t. (known t).is_data) ts
  all-same [] = refl
  all-same (t ∷ ts) = ap (λ (f : TypeFacts). f.is_data && list_all (λ t. (shown t).is_data) ts) (h t) ∙ ap (λ b. (known t).is_data && b) (all-same ts)

  any-same : (ts : List ℕ) → list_any (λ t. (shown t).unbounded) ts ≡ list_any (λ t. (known t).unbounded) ts
  any-same [] = refl
  any-same (t ∷ ts) = ap (λ (f : TypeFacts). f.unbounded || list_any (λ t. (shown t).unbounded) ts) (h t) ∙ ap (λ b. (known t).unbounded || b) (any-same ts)

  member-capped : (x y r s : ℕ) → min x (2 ^ 32) ≡ min y (2 ^ 32) → min r (2 ^ 32) ≡ min s (2 ^ 32) → min (max x r) (2 ^ 32) ≡ min (max y s) (2 ^ 32)
  member-capped x y r s d e = omega arith

  fields-capped : (id number : ℕ) (ts : List ℕ) → min (fields_extent code shown id number ts) (2 ^ 32) ≡ min (fields_extent code known id number ts) (2 ^ 32)
  fields-capped id number [] = refl
  fields-capped id number (t ∷ ts) =
      ap (λ (f : TypeFacts). min (max (end_of (offset_of code id number) f.extent) (fields_extent code shown id (number + 1) ts)) (2 ^ 32)) (h t)
      ∙ member-capped _ _ _ _ (end-capped (offset_of code id number) (known t).extent) (fields-capped id (number + 1) ts)

  pub facts-capped : (s : Sort) (os : List ℕ) → option_map capped (facts_by code shown s os) ≡ option_map capped (facts_by code known s os)
  facts-capped VoidType os = refl
  facts-capped BoolType os = refl
  facts-capped IntType os = refl
  facts-capped VectorType os = same _ _ _ _ _ _ (ap (λ (f : TypeFacts). f.is_data) (h (slice_index os 1))) refl refl
  facts-capped ArrayType os =
      same _ _ _ _ _ _ (ap (λ (f : TypeFacts). f.is_data) (h (slice_index os 1))) (ap (λ (f : TypeFacts). f.unbounded) (h (slice_index os 1)))
      (ap (λ (f : TypeFacts). min (span (length_of code (slice_index os 2)) (stride_of code (slice_index os 0)) f.extent) (2 ^ 32)) (h (slice_index os 1)) ∙ span-capped (length_of code (slice_index os 2)) (stride_of code (slice_index os 0)) (known (slice_index os 1)).extent)
  facts-capped RuntimeArrayType os = refl
  facts-capped StructType os = same _ _ _ _ _ _ (all-same (drop 1 os)) (any-same (drop 1 os)) (fields-capped (slice_index os 0) 0 (drop 1 os))
  facts-capped PointerType os = refl
  facts-capped FunctionType os = refl
  facts-capped Number os = refl
  facts-capped Null os = refl
  facts-capped Holder os = refl
  facts-capped Computed os = refl
  facts-capped Callee os = refl
  facts-capped Block os = refl
  facts-capped Nothing os = refl

  -- the map takes the facts of a type
  pub with-capped : (f : TypeFacts) (o : Option TypeFacts) (r : ℕ) (after : ℕ → TypeFacts) → Some f ≡ option_map capped o →
      ((id : ℕ) → after id ≡ cond (nat_eq r id) f (shown id)) → (id : ℕ) → after id ≡ capped (if_some o (known id) (λ f. cond (nat_eq r id) f (known id)))
  with-capped f None r after e a id = cc
  with-capped f (Some g) r after e a id =
      let fg : f ≡ capped g = ap (λ o. facts_in o) e in
      a id ∙ elim (nat_eq r id) as (λ b. cond b f (shown id) ≡ capped (cond b g (known id))) [ true ↦ fg | false ↦ h id ]

  -- a map stays, where the instruction declares no such type
  pub stays-capped : (o : Option TypeFacts) (r : ℕ) → None ≡ option_map capped o → (id : ℕ) → shown id ≡ capped (if_some o (known id) (λ f. cond (nat_eq r id) f (known id)))
  stays-capped None r e id = h id
  stays-capped (Some g) r e id = cc

pub known_by-insert : {S : Type 0} (m n : HashMap ℕ TypeFacts S) (r : ℕ) (f : TypeFacts) →
    ((q : ℕ) → get nat_eq n q ≡ cond (nat_eq r q) (Some f) (get nat_eq m q)) → (id : ℕ) → known_by n id ≡ cond (nat_eq r id) f (known_by m id)
known_by-insert m n r f u id =
    ap facts_in (u id) ∙ elim (nat_eq r id) as (λ b. facts_in (cond b (Some f) (get nat_eq m id)) ≡ cond b f (known_by m id)) [ true ↦ refl | false ↦ refl ]
