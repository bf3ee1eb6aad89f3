-- Buffers that ascend have numbers.
use Rattle.std.proofs.Common.{◌≡◌, ℕ, zero, suc, ◌<◌, inl, inr, Bool, true, false, ◌&&◌, ◌||◌, cond, List, [], ◌∷◌, length, map, slice_get, Option, Some, None, refl, sym, ap, ◌∙◌, arith}
use Rattle.std.specs.Prelude.{nat_eq}
use Rattle.std.specs.List.{list_any}
use Rattle.std.specs.Option.{option_map}
use Rattle.std.proofs.lemmas.Option.{slice_get-map, slice_get_within}
use Rattle.std.proofs.lemmas.Bool.{eq-eqb, ne_eqb}
use Rattle.spirv_words.specs.declared.images.Instruction.{Instruction}
use Rattle.image_declarations.specs.Decorations.{same_pair}
use Rattle.image_operands.specs.Marks.{is_buffer}
use Rattle.run_plans.specs.declared.base.Bound.{Bound}
use Rattle.run_plans.specs.Plans.{needs, set_of, binding_of, number_in, AreBuffers}
use Rattle.run_plans.specs.Ground.{pair_of}
use Rattle.run_plans.specs.Buffers.{bound_of, IsBefore, same_bound, AreBounds}
use Rattle.run_plans.proofs.Placed.{some_same}
use Rattle.run_plans.proofs.Bounded.{same_is, same_self}

no_item : {A : Type 0} (n : ℕ) (a : A) → slice_get {X = A} [] n ≡ Some a → ⊥
no_item n a e = grind arith

later : (a b c : Bound) → IsBefore a b → IsBefore b c → IsBefore a c
later a b c (inl p) (inl q) = inl (omega arith)
later a b c (inl p) (inr q) = inl (omega (arith, q.0))
later a b c (inr p) (inl q) = inl (omega (arith, p.0))
later a b c (inr p) (inr q) = inr (p.0 ∙ q.0, omega (arith, p.1, q.1))

differ : (a b : Bound) → IsBefore a b → same_pair (pair_of a) (pair_of b) ≡ false
differ a b (inl p) = ap (λ r. r && nat_eq a.binding b.binding) (ne_eqb a.set b.set (λ e. absurd (less a.set b.set p e)))
  where
    less : (m n : ℕ) → m < n → m ≡ n → ⊥
    less m n p e = omega arith
differ a b (inr p) = second (nat_eq a.set b.set) (nat_eq a.binding b.binding) (ne_eqb a.binding b.binding (λ e. absurd (less a.binding b.binding p.1 e)))
  where
    less : (m n : ℕ) → m < n → m ≡ n → ⊥
    less m n p e = omega arith

    second : (r s : Bool) → s ≡ false → (r && s) ≡ false
    second true s e = e
    second false s e = refl

self_pair : (p : ℕ × ℕ) → same_pair p p ≡ true
self_pair p = ap (λ r. r && nat_eq p.1 p.1) (eq-eqb p.0 p.0 refl) ∙ eq-eqb p.1 p.1 refl

abbrev Ascends : List Bound → Type 0
Ascends bs = (n : ℕ) (a b : Bound) → slice_get bs n ≡ Some a → slice_get bs (suc n) ≡ Some b → IsBefore a b

pub behind_first : (a c : Bound) (bs : List Bound) (n : ℕ) → Ascends (a ∷ bs) → slice_get bs n ≡ Some c → IsBefore a c
behind_first a c [] n up e = absurd (no_item n c e)
behind_first a c (b ∷ bs) zero up e = up zero a c refl e
behind_first a c (b ∷ bs) (suc n) up e =
    later a b c (up zero a b refl refl) (behind_first b c bs n (λ m x y p q. up (suc m) x y p q) e)

-- a buffer's number is where it stands
pub number_is : (bs : List Bound) (n : ℕ) (b : Bound) → Ascends bs → slice_get bs n ≡ Some b → number_in (map pair_of bs) (pair_of b) ≡ n
number_is [] n b up e = absurd (no_item n b e)
number_is (a ∷ bs) zero b up e =
    ap (λ r. cond r 0 (suc (number_in (map pair_of bs) (pair_of b))))
    (ap (λ (a : Bound). same_pair (pair_of a) (pair_of b)) (some_same e) ∙ self_pair (pair_of b))
number_is (a ∷ bs) (suc n) b up e =
    ap (λ r. cond r 0 (suc (number_in (map pair_of bs) (pair_of b)))) (differ a b (behind_first a b bs n up e))
    ∙ ap suc (number_is bs n b (λ m x y p q. up (suc m) x y p q) e)

pub record IsAt (p : Bound → Bool) (bs : List Bound) : Type 0 where
  pub number : ℕ
  pub bound : Bound
  pub stands : slice_get bs number ≡ Some bound
  pub passes : p bound ≡ true

found : (p : Bound → Bool) (bs : List Bound) → list_any p bs ≡ true → IsAt p bs
found p [] e = absurd (never e)
  where
    never : false ≡ true → ⊥
    never e = cc
found p (b ∷ bs) e = by_test (λ q. found p bs q) (p b) refl e
  where
    by_test : (list_any p bs ≡ true → IsAt p bs) → (r : Bool) → p b ≡ r → (r || list_any p bs) ≡ true → IsAt p (b ∷ bs)
    by_test go true f e = record { number = 0; bound = b; stands = refl; passes = f }
    by_test go false f e = let more = go e in record { number = suc more.number; bound = more.bound; stands = more.stands; passes = more.passes }

passed_at : (p : Bound → Bool) (bs : List Bound) (n : ℕ) (b : Bound) → slice_get bs n ≡ Some b → p b ≡ true → list_any p bs ≡ true
passed_at p [] n b e h = absurd (no_item n b e)
passed_at p (a ∷ bs) zero b e h = ap (λ r. r || list_any p bs) (ap p (some_same e) ∙ h)
passed_at p (a ∷ bs) (suc n) b e h = second (p a) (list_any p bs) (passed_at p bs n b e h)
  where
    second : (r s : Bool) → s ≡ true → (r || s) ≡ true
    second true s e = refl
    second false s e = e

abbrev pub both_of : ℕ → ℕ → ℕ × ℕ
both_of s c = (s, c)

module _ (code : List Instruction) (bs : List Bound) (are : AreBounds code bs) where
  -- where the buffer of a variable stands
  pub at_variable : (x : ℕ) → is_buffer code x ≡ true → (n : ℕ) × (slice_get bs n ≡ Some (bound_of code x))
  at_variable x b =
      let f = found (same_bound (bound_of code x)) bs (are.each x b) in
      (f.number, f.stands ∙ ap (λ (b : Bound). Some b) (sym (same_is (bound_of code x) f.bound f.passes)))

  pub buffers_are : AreBuffers code (map pair_of bs)
  buffers_are = record {
    each = λ x b.
        let at = at_variable x b in
        ap (slice_get (map pair_of bs)) (number_is bs at.0 (bound_of code x) are.ascending at.1)
        ∙ slice_get-map pair_of bs at.0 ∙ ap (option_map pair_of) at.1;
    of = λ n pair e. of_pair n pair (slice_get bs n) refl (sym (slice_get-map pair_of bs n) ∙ e);
  }
    where
      of_bound : (n : ℕ) (pair : ℕ × ℕ) (b : Bound) → slice_get bs n ≡ Some b → pair_of b ≡ pair
          → (number_in (map pair_of bs) pair ≡ n) × ((x : ℕ) × (is_buffer code x ≡ true) × (pair ≡ (set_of code x, binding_of code x)))
      of_bound n pair b at same =
          let of = are.of (same_bound b) (passed_at (same_bound b) bs n b at (same_self b)) in (
            ap (number_in (map pair_of bs)) (sym same) ∙ number_is bs n b are.ascending at,
            (of.0, of.1, sym same ∙ ap pair_of (same_is b (bound_of code of.0) of.2)),
          )

      of_pair : (n : ℕ) (pair : ℕ × ℕ) (o : Option Bound) → slice_get bs n ≡ o → option_map pair_of o ≡ Some pair
          → (number_in (map pair_of bs) pair ≡ n) × ((x : ℕ) × (is_buffer code x ≡ true) × (pair ≡ (set_of code x, binding_of code x)))
      of_pair n pair (Some b) at e = of_bound n pair b at (some_same e)
      of_pair n pair None at e = absurd (never e)
        where
          never : None ≡ Some pair → ⊥
          never e = cc

  pub need_is : (n : ℕ) (b : Bound) (x : ℕ) → slice_get bs n ≡ Some b → is_buffer code x ≡ true → set_of code x ≡ b.set → binding_of code x ≡ b.binding
      → b.words ≡ needs code x
  need_is n b x at h s c =
      let own = at_variable x h in
      let same : pair_of (bound_of code x) ≡ pair_of b = pairs (set_of code x) b.set (binding_of code x) b.binding s c in
      let number : own.0 ≡ n = sym (number_is bs own.0 (bound_of code x) are.ascending own.1) ∙ ap (number_in (map pair_of bs)) same
      ∙ number_is bs n b are.ascending at in
      ap (λ (b : Bound). b.words) (some_same (sym at ∙ ap (slice_get bs) (sym number) ∙ own.1))
    where
      pairs : (s t c d : ℕ) → s ≡ t → c ≡ d → both_of s c ≡ both_of t d
      pairs s t c d e f = ap (λ s. both_of s c) e ∙ ap (both_of t) f

  -- the number of a variable's buffer is its place, and no more than there are instructions
  pub numbered : (x : ℕ) (h : is_buffer code x ≡ true) → number_in (map pair_of bs) (set_of code x, binding_of code x) ≡ (at_variable x h).0
  numbered x h = let at = at_variable x h in number_is bs at.0 (bound_of code x) are.ascending at.1

  pub number_is_few : (x : ℕ) (h : is_buffer code x ≡ true) → (at_variable x h).0 < length code
  number_is_few x h = let at = at_variable x h in let l = slice_get_within bs at.0 (bound_of code x) at.1 in omega (arith, are.few)
