-- What a path leads to in a buffer lies inside of it.
use Rattle.std.proofs.Common.{◌≡◌, ◌≢◌, ℕ, zero, suc, ◌+◌, ◌-◌, ◌*◌, ◌/◌, ◌%◌, ◌<◌, ◌≤◌, ◌⊎◌, inl, inr, Bool, true, false, cond, nat_eq, List, [], ◌∷◌, Option, Some, None, refl, sym, ap, subst, ◌∙◌, mul_left_comm, suc-mul, arith}
use Rattle.std.specs.Prelude.{nat_lt}
use Rattle.std.proofs.Math.Nat.{mul-le-mul_right, div-mul-le_self}
use Rattle.std.proofs.lemmas.Bool.{eqb-true, ltb-true}
use Rattle.spirv_words.specs.Machine.{Shape, Shapes, Nothing, Truths, Words, Repeated, Unbounded, Fields, PointerTo, if_some}
use Rattle.spirv_words.specs.Step.{Spot, Byte, Beyond, Nowhere, field_at, strides, within, spot}
use Rattle.image_declarations.specs.Types.{end_of, span}
use Rattle.image_facts.specs.Alike.{reach, reaches, is_endless, are_endless, IsSpaced, AreSpaced, IsStride}
use Rattle.run_laws.specs.Laid.{IsInside}
use Rattle.run_laws.proofs.Planning.{IsPlaced, placed}

chosen_spot : (b : Bool) (s : Spot) (n : ℕ) (of : Shape) → cond b s Beyond ≡ Byte n of → (b ≡ true) × (s ≡ Byte n of)
chosen_spot true s n of e = (refl, e)
chosen_spot false s n of e = cc

some_field : (o : Option (ℕ × Shape)) (go : ℕ × Shape → Spot) (n : ℕ) (of : Shape) → if_some o Nowhere go ≡ Byte n of
    → (f : ℕ × Shape) × (o ≡ Some f) × (go f ≡ Byte n of)
some_field (Some f) go n of e = (f, refl, e)
some_field None go n of e = cc

not_both : {A : Type 0} (b : Bool) → b ≡ false → b ≡ true → A
not_both true e f = cc
not_both false e f = cc

whole_with : (a b : ℕ) → a % 4 ≡ 0 → b % 4 ≡ 0 → (a + b) % 4 ≡ 0
whole_with a b e f = omega arith

whole_times : (i stride : ℕ) → stride % 4 ≡ 0 → (i * stride) % 4 ≡ 0
whole_times i stride e =
    let q : ℕ = stride / 4 in
    let f : stride ≡ 4 * q = omega arith in
    let g : i * stride ≡ 4 * (i * q) = ap (λ n. i * n) f ∙ mul_left_comm i 4 q in
    omega arith

-- the last scalar of an element lies before the end of the array
element_ends : (n i stride r : ℕ) → i < n → r ≢ 0 → i * stride + r ≤ span n stride r
element_ends n i stride r h nr =
    let e : span n stride r ≡ (n - 1) * stride + r =
    ap (λ b. cond b 0 (end_of ((n - 1) * stride) r)) (not_zero n (omega arith)) ∙ ap (λ b. cond b 0 ((n - 1) * stride + r)) (not_zero r nr) in
    let l : i ≤ n - 1 = omega arith in
    let m = mul-le-mul_right stride l in
    omega (arith, e, m)
  where
    by : (k : ℕ) (b : Bool) → nat_eq k 0 ≡ b → k ≢ 0 → b ≡ false
    by k true e n = absurd (n (eqb-true k 0 e))
    by k false e n = refl

    not_zero : (k : ℕ) → k ≢ 0 → nat_eq k 0 ≡ false
    not_zero k n = by k (nat_eq k 0) refl n

-- so many strides are as many bytes at most
stride_ends : (words stride i r : ℕ) → i < strides words stride → r ≤ stride → i * stride + r ≤ 4 * words
stride_ends words zero i r h l = absurd (omega arith)
stride_ends words (suc stride) i r h l =
    let m = mul-le-mul_right (suc stride) (less i h) in
    let d = div-mul-le_self (4 * words) (suc stride) in
    let s = suc-mul i (suc stride) in
    omega (arith, m, d, s)
  where
    less : (i : ℕ) → i < (4 * words) / suc stride → suc i ≤ (4 * words) / suc stride
    less i h = h

pub leads_inside : (form : Shape) (path : List ℕ) (from words n : ℕ) (of : Shape) → spot words form path from ≡ Byte n of
    → IsInside from form words → IsInside n of words
leads_inside form [] from words n of e h = subst (λ (k : ℕ). IsInside k of words) (byte_is e) (subst (λ (s : Shape). IsInside from s words) (shape_is e) h)
  where
    byte_is : Byte from form ≡ Byte n of → from ≡ n
    byte_is e = cc

    shape_is : Byte from form ≡ Byte n of → form ≡ of
    shape_is e = cc
leads_inside (Repeated count stride s) (i ∷ path) from words n of e h =
    let c = chosen_spot (nat_lt i count) (spot words s path (from + i * stride)) n of e in
    let sp = h.spaced in
    leads_inside s path (from + i * stride) words n of c.1 (record {
      whole_words = whole_with from (i * stride) h.whole_words (whole_times i stride sp.0.whole_words);
      spaced = sp.1;
      first = λ z. not_both (is_endless s) sp.2 z;
      ends = λ z. (let a = element_ends count i stride (reach s) (ltb-true i count c.0) z in
          let b = h.ends (λ y. (let g : reach (Repeated count stride s) ≡ 0 = y in absurd (omega (arith, a, g)))) in
          omega (arith, a, b));
    })
leads_inside (Unbounded stride s) (i ∷ path) from words n of e h =
    let c = chosen_spot (nat_lt i (strides words stride)) (spot words s path (from + i * stride)) n of e in
    let sp = h.spaced in
    let f = h.first refl in
    leads_inside s path (from + i * stride) words n of c.1 (record {
      whole_words = whole_with from (i * stride) h.whole_words (whole_times i stride sp.0.whole_words);
      spaced = sp.1;
      first = λ z. not_both (is_endless s) sp.2 z;
      ends = λ z. (let a = stride_ends words stride i (reach s) (ltb-true i (strides words stride) c.0) sp.0.far in omega (arith, a, f));
    })
leads_inside (Fields fs) (i ∷ path) from words n of e h =
    let f = some_field (field_at fs i) (λ f. spot words f.1 path (from + f.0)) n of e in
    let p = placed fs i f.0 h.spaced f.1 in
    leads_inside f.0.1 path (from + f.0.0) words n of f.2 (record {
      whole_words = whole_with from f.0.0 h.whole_words p.whole_words;
      spaced = p.spaced;
      first = λ z. (let a = h.first (p.endless z) in let b = p.first z in omega (arith, a, b));
      ends = λ z. (let a = p.ends z in let b = h.ends (λ y. (let g : reaches fs ≡ 0 = y in absurd (omega (arith, a, g, z)))) in omega (arith, a, b));
    })
leads_inside Nothing (i ∷ path) from words n of e h = cc
leads_inside Truths (i ∷ path) from words n of e h = cc
leads_inside (Words b) (i ∷ path) from words n of e h = cc
leads_inside (PointerTo s) (i ∷ path) from words n of e h = cc
