-- The buffers of an image: each variable's is listed, and what is listed is one's.
use Rattle.std.proofs.Common.{◌≡◌, ℕ, zero, suc, ◌+◌, ◌/◌, ◌^◌, ◌<◌, ◌⊎◌, inl, inr, Bool, true, false, ◌&&◌, ◌||◌, cond, List, [], ◌∷◌, length, ◌≤◌, slice_get, Some, None, refl, sym, ap, ◌∙◌, subst, arith}
use Rattle.std.specs.Prelude.{nat_eq}
use Rattle.std.specs.List.{list_any}
use Rattle.std.specs.List.Sorted.{IsPermutation}
use Rattle.std.proofs.lemmas.Bool.{eq-eqb, eqb-true}
use Rattle.std.proofs.lemmas.List.Folds.{list_any-append}
use Rattle.std.proofs.lemmas.List.Sorted.{list_any-IsPermutation}
use Rattle.spirv_words.specs.declared.opcodes.Op.{Op}
use Rattle.spirv_words.specs.declared.opcodes.Op.TheVariants.{Variable}
use Rattle.spirv_words.specs.declared.images.Instruction.{Instruction}
use Rattle.spirv_words.specs.Machine.{second_of}
use Rattle.image_lookup.specs.Lookups.{operand, operands}
use Rattle.image_declarations.specs.Holdings.{extent, is_reached}
use Rattle.image_operands.specs.Marks.{is_buffer, is_variable}
use Rattle.image_facts.specs.Operands.{type_id}
use Rattle.image_facts.proofs.Values.{holder}
use Rattle.image_facts.proofs.Globals.{buffer-stands}
use Rattle.image_facts.proofs.Buffers.{buffer-type-reached}
use Rattle.image_facts.proofs.Reaching.{struct-kind, reach-extent}
use Rattle.run_plans.specs.declared.base.Bound.{Bound}
use Rattle.run_plans.specs.Plans.{needs, needed_words}
use Rattle.run_rooms.specs.Valid.{IsOfValid}
use Rattle.run_plans.specs.Grounds.{AreNear}
use Rattle.run_plans.specs.Buffers.{bound_of, bound_if, listed, bounds_at, bounds_in, Ascends, same_bound, AreBounds}
use Rattle.run_plans.proofs.Placed.{some_same}

-- ---- how many words a buffer needs

pub needs_is : (code : List Instruction) (v : IsOfValid code) (x : ℕ) → is_buffer code x ≡ true
    → needs code x ≡ (extent code (operand code (type_id code x) 2) + 3) / 4
needs_is code v x b = subst (λ (c : List Instruction). is_buffer c x ≡ true → needs c x ≡ (extent c (operand c (type_id c x) 2) + 3) / 4) v.same far b
  where
    far : is_buffer v.image.instructions x ≡ true
        → needs v.image.instructions x ≡ (extent v.image.instructions (operand v.image.instructions (type_id v.image.instructions x) 2) + 3) / 4
    far b =
        let s = buffer-stands v.image v.valid x b in
        let t = operand v.image.instructions (type_id v.image.instructions x) 2 in
        ap needed_words s.pointee
        ∙ ap (λ n. (n + 3) / 4) (reach-extent v.image v.valid t s.form (struct-kind v.image v.valid t s.struct) s.pointee)

-- the struct of a buffer is reached
pub buffer_end : (code : List Instruction) → IsOfValid code → AreNear code → (x : ℕ) → is_buffer code x ≡ true
    → extent code (operand code (type_id code x) 2) < 2 ^ 32
buffer_end code v near x b =
    near.each (operand code (type_id code x) 2)
    (subst (λ (c : List Instruction). is_buffer c x ≡ true → is_reached c (operand c (type_id c x) 2) ≡ true) v.same (buffer-type-reached v.image v.valid x) b)

-- ---- bools

not_false : false ≡ true → ⊥
not_false e = cc

both_true : (a b : Bool) → (a && b) ≡ true → (a ≡ true) × (b ≡ true)
both_true true b e = (refl, e)
both_true false b e = absurd (not_false e)

either_true : (a b : Bool) → (a || b) ≡ true → (a ≡ true) ⊎ (b ≡ true)
either_true true b e = inl refl
either_true false b e = inr e

or_left : (a b : Bool) → a ≡ true → (a || b) ≡ true
or_left a b e = ap (λ a. a || b) e

or_right : (a b : Bool) → b ≡ true → (a || b) ≡ true
or_right true b e = refl
or_right false b e = e

-- ---- the buffers of all variables

pub same_self : (b : Bound) → same_bound b b ≡ true
same_self b =
    ap (λ r. r && (nat_eq b.binding b.binding && nat_eq b.words b.words)) (eq-eqb b.set b.set refl)
    ∙ ap (λ r. r && nat_eq b.words b.words) (eq-eqb b.binding b.binding refl) ∙ eq-eqb b.words b.words refl

abbrev made_of : ℕ → ℕ → ℕ → Bound
made_of s c w = record { set = s; binding = c; words = w }

pub same_is : (a b : Bound) → same_bound a b ≡ true → a ≡ b
same_is a b e =
    let first = both_true (nat_eq a.set b.set) (nat_eq a.binding b.binding && nat_eq a.words b.words) e in
    let second = both_true (nat_eq a.binding b.binding) (nat_eq a.words b.words) first.1 in
    made a.set b.set a.binding b.binding a.words b.words (eqb-true a.set b.set first.0) (eqb-true a.binding b.binding second.0) (eqb-true a.words b.words second.1)
  where
    made : (s t c d w u : ℕ) → s ≡ t → c ≡ d → w ≡ u → made_of s c w ≡ made_of t d u
    made s t c d w u e f g = ap (λ s. made_of s c w) e ∙ ap (λ c. made_of t c w) f ∙ ap (made_of t d) g

module _ (code : List Instruction) (p : Bound → Bool) where
  any_at : (is : List Instruction) (k : ℕ) (i : Instruction) → slice_get is k ≡ Some i → list_any p (bounds_at code i.op i.operands) ≡ true
      → list_any p (bounds_in code is) ≡ true
  any_at [] k i e h = absurd (never e)
    where
      never : slice_get {X = Instruction} [] k ≡ Some i → ⊥
      never e = grind arith
  any_at (j ∷ is) zero i e h =
      let here = ap (λ (i : Instruction). list_any p (bounds_at code i.op i.operands)) (some_same e) ∙ h in
      list_any-append p (bounds_at code j.op j.operands) (bounds_in code is)
      ∙ or_left (list_any p (bounds_at code j.op j.operands)) (list_any p (bounds_in code is)) here
  any_at (j ∷ is) (suc k) i e h =
      list_any-append p (bounds_at code j.op j.operands) (bounds_in code is)
      ∙ or_right (list_any p (bounds_at code j.op j.operands)) (list_any p (bounds_in code is)) (any_at is k i e h)

  of_one : (x : ℕ) → list_any p (listed (bound_if code x)) ≡ true → (x : ℕ) × (is_buffer code x ≡ true) × (p (bound_of code x) ≡ true)
  of_one x h = by_test (is_buffer code x) refl h
    where
      by_test : (b : Bool) → is_buffer code x ≡ b → list_any p (listed (cond b (Some (bound_of code x)) None)) ≡ true
          → (x : ℕ) × (is_buffer code x ≡ true) × (p (bound_of code x) ≡ true)
      by_test true e h = (x, e, one (p (bound_of code x)) h)
        where
          one : (b : Bool) → (b || false) ≡ true → b ≡ true
          one true h = refl
          one false h = h
      by_test false e h = absurd (not_false h)

  of_at : (op : Op) (os : List ℕ) → list_any p (bounds_at code op os) ≡ true → (x : ℕ) × (is_buffer code x ≡ true) × (p (bound_of code x) ≡ true)
  of_at Variable (t ∷ x ∷ rest) h = of_one x h
  of_at op os h = absurd (not_false h)

  of_in : (is : List Instruction) → list_any p (bounds_in code is) ≡ true → (x : ℕ) × (is_buffer code x ≡ true) × (p (bound_of code x) ≡ true)
  of_in [] h = absurd (not_false h)
  of_in (i ∷ is) h =
      either (λ b. of_in is b) (either_true (list_any p (bounds_at code i.op i.operands)) (list_any p (bounds_in code is))
      (sym (list_any-append p (bounds_at code i.op i.operands) (bounds_in code is)) ∙ h))
    where
      either : (list_any p (bounds_in code is) ≡ true → (x : ℕ) × (is_buffer code x ≡ true) × (p (bound_of code x) ≡ true))
          → (list_any p (bounds_at code i.op i.operands) ≡ true) ⊎ (list_any p (bounds_in code is) ≡ true)
          → (x : ℕ) × (is_buffer code x ≡ true) × (p (bound_of code x) ≡ true)
      either more (inl a) = of_at i.op i.operands a
      either more (inr b) = more b

at_variable : (code : List Instruction) (os : List ℕ) (x : ℕ) → second_of os ≡ Some x → is_buffer code x ≡ true
    → bounds_at code Variable os ≡ bound_of code x ∷ []
at_variable code [] x e b = cc
at_variable code (t ∷ []) x e b = cc
at_variable code (t ∷ y ∷ rest) x e b =
    ap (λ y. listed (bound_if code y)) (some_same e) ∙ ap (λ r. listed (cond r (Some (bound_of code x)) None)) b

each_in : (code : List Instruction) (x : ℕ) → is_buffer code x ≡ true → list_any (same_bound (bound_of code x)) (bounds_in code code) ≡ true
each_in code x b =
    let h = holder code x (both_true (is_variable code x) _ b).0 in
    any_at code (same_bound (bound_of code x)) code h.place (record { op = Variable; operands = operands code x }) h.stands
    (ap (list_any (same_bound (bound_of code x))) (at_variable code (operands code x) x h.result b)
    ∙ ap (λ r. r || false) (same_self (bound_of code x)))

-- the same once they are sorted
pub bounds_are : (code : List Instruction) (found sorted : List Bound) → found ≡ bounds_in code code → IsPermutation found sorted
    → Ascends sorted → length sorted ≤ length code → AreBounds code sorted
bounds_are code found sorted e perm up few = record {
  ascending = up;
  few = few;
  each = λ x b. sym (list_any-IsPermutation (same_bound (bound_of code x)) found sorted perm)
      ∙ ap (list_any (same_bound (bound_of code x))) e ∙ each_in code x b;
  of = λ p h. of_in code p code (sym (ap (list_any p) e) ∙ list_any-IsPermutation p found sorted perm ∙ h);
}
