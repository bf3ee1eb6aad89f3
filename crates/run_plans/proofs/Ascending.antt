-- No two buffers of a valid image have one set and binding, so sorted they ascend.
use Rattle.std.proofs.Common.{◌≡◌, ℕ, zero, suc, ◌+◌, ◌<◌, ◌≤◌, ◌⊎◌, inl, inr, add-one, Bool, true, false, ◌&&◌, cond, List, [], ◌∷◌, ◌++◌, length, get_or, slice_get, Option, Some, None, refl, sym, ap, ◌∙◌, subst, arith}
use Rattle.std.specs.Prelude.{nat_eq}
use Rattle.std.specs.List.{sum_by}
use Rattle.std.specs.List.Sorted.{IsPermutation, IsSorted}
use Rattle.std.specs.declared.cmp.Ordering.{Ordering}
use Rattle.std.specs.declared.cmp.Ordering.TheVariants.{Less, Equal}
use Rattle.std.specs.Ordering.{nat_cmp, ordering_then, is_lt}
use Rattle.std.specs.Cmp.{nat_cmp_is}
use Rattle.std.proofs.lemmas.Bool.{eq-eqb, eqb-true}
use Rattle.std.proofs.lemmas.Option.{slice_get_within, get_or_from_slice_get}
use Rattle.std.proofs.lemmas.List.{length-append}
use Rattle.std.proofs.lemmas.List.Sums.{sum_by-append, sum_by-cons}
use Rattle.std.proofs.lemmas.List.Sorted.{sum_by-IsPermutation}
use Rattle.spirv_words.specs.declared.opcodes.Op.{Op}
use Rattle.spirv_words.specs.declared.opcodes.Op.TheVariants.{Variable}
use Rattle.spirv_words.specs.declared.images.Instruction.{Instruction}
use Rattle.spirv_words.specs.declared.images.Image.{Image}
use Rattle.spirv_words.specs.Machine.{result_of, place_of}
use Rattle.image_declarations.specs.Decorations.{same_pair}
use Rattle.image_operands.specs.Marks.{is_buffer}
use Rattle.image_facts.proofs.Rules.{defined-once}
use Rattle.image_facts.proofs.Pairs.{one-buffer}
use Rattle.spirv_check.specs.Valid.{Valid}
use Rattle.run_plans.specs.declared.base.Bound.{Bound}
use Rattle.run_plans.specs.Plans.{set_of, binding_of}
use Rattle.run_plans.specs.Ground.{pair_of}
use Rattle.run_rooms.specs.Valid.{IsOfValid}
use Rattle.run_plans.specs.Buffers.{bound_of, bound_if, listed, bounds_at, bounds_in, IsBefore, Ascends}
use Rattle.run_plans.proofs.Placed.{some_same}

-- ---- how many buffers have a pair

abbrev has : ℕ × ℕ → Bound → ℕ
has q b = cond (same_pair (pair_of b) q) 1 0

abbrev count : ℕ × ℕ → List Bound → ℕ
count q bs = sum_by (has q) bs

both_same : (p q : ℕ × ℕ) → same_pair p q ≡ true → (p.0 ≡ q.0) × (p.1 ≡ q.1)
both_same p q e = by (nat_eq p.0 q.0) (nat_eq p.1 q.1) refl refl e
  where
    by : (a b : Bool) → nat_eq p.0 q.0 ≡ a → nat_eq p.1 q.1 ≡ b → (a && b) ≡ true → (p.0 ≡ q.0) × (p.1 ≡ q.1)
    by true true f g e = (eqb-true p.0 q.0 f, eqb-true p.1 q.1 g)
    by true false f g e = cc
    by false b f g e = cc

same_both : (p q : ℕ × ℕ) → p.0 ≡ q.0 → p.1 ≡ q.1 → same_pair p q ≡ true
same_both p q e f = ap (λ r. r && nat_eq p.1 q.1) (eq-eqb p.0 q.0 e) ∙ eq-eqb p.1 q.1 f

-- the one buffer of an instruction
record IsOne (code : List Instruction) (op : Op) (os : List ℕ) (q : ℕ × ℕ) : Type 0 where
  id : ℕ
  gives : result_of op os ≡ Some id
  buffer : is_buffer code id ≡ true
  pair : same_pair (pair_of (bound_of code id)) q ≡ true
  alone : count q (bounds_at code op os) ≡ 1

-- a buffer's variable at an instruction from a number on
record IsFound (code : List Instruction) (q : ℕ × ℕ) (from : ℕ) : Type 0 where
  number : ℕ
  behind : from ≤ number
  id : ℕ
  instruction : Instruction
  stands : slice_get code number ≡ Some instruction
  gives : result_of instruction.op instruction.operands ≡ Some id
  buffer : is_buffer code id ≡ true
  pair : same_pair (pair_of (bound_of code id)) q ≡ true

module _ (code : List Instruction) (q : ℕ × ℕ) where
  one_of : (t x : ℕ) (rest : List ℕ) → (count q (bounds_at code Variable (t ∷ x ∷ rest)) ≡ 0) ⊎ IsOne code Variable (t ∷ x ∷ rest) q
  one_of t x rest = by (is_buffer code x) (same_pair (pair_of (bound_of code x)) q) refl refl
    where
      alone : (r : Bool) → same_pair (pair_of (bound_of code x)) q ≡ r → count q (bound_of code x ∷ []) ≡ cond r 1 0
      alone r f = ap (λ r. 0 + cond r 1 0) f ∙ plain r
        where
          plain : (r : Bool) → 0 + cond r 1 0 ≡ cond r 1 0
          plain true = refl
          plain false = refl

      by : (a b : Bool) → is_buffer code x ≡ a → same_pair (pair_of (bound_of code x)) q ≡ b
          → (count q (bounds_at code Variable (t ∷ x ∷ rest)) ≡ 0) ⊎ IsOne code Variable (t ∷ x ∷ rest) q
      by true true e f =
          inr (record {
            id = x;
            gives = refl;
            buffer = e;
            pair = f;
            alone = ap (λ r. count q (listed (cond r (Some (bound_of code x)) None))) e ∙ alone true f;
          })
      by true false e f = inl (ap (λ r. count q (listed (cond r (Some (bound_of code x)) None))) e ∙ alone false f)
      by false b e f = inl (ap (λ r. count q (listed (cond r (Some (bound_of code x)) None))) e)

  one_at : (op : Op) (os : List ℕ) → (count q (bounds_at code op os) ≡ 0) ⊎ IsOne code op os q
  one_at Variable (t ∷ x ∷ rest) = one_of t x rest
  one_at op os = inl refl

  at_most : (op : Op) (os : List ℕ) → (count q (bounds_at code op os) ≡ 0) ⊎ IsOne code op os q → count q (bounds_at code op os) ≤ 1
  at_most op os (inl e) = omega (arith, e)
  at_most op os (inr o) = omega (arith, o.alone)

  split : (i : Instruction) (is : List Instruction) → count q (bounds_in code (i ∷ is)) ≡ count q (bounds_at code i.op i.operands) + count q (bounds_in code is)
  split i is = sum_by-append (has q) (bounds_at code i.op i.operands) (bounds_in code is)

  abbrev StandFrom : List Instruction → ℕ → Type 0
  StandFrom is k = (m : ℕ) → slice_get is m ≡ slice_get code (k + m)

  shifted : (i : Instruction) (is : List Instruction) (k : ℕ) → StandFrom (i ∷ is) k → StandFrom is (suc k)
  shifted i is k same m = same (suc m) ∙ ap (λ n. slice_get code n) (moved k m)
    where
      moved : (k m : ℕ) → k + suc m ≡ suc k + m
      moved k m = omega arith

  here : (i : Instruction) (is : List Instruction) (k : ℕ) → StandFrom (i ∷ is) k → slice_get code k ≡ Some i
  here i is k same = ap (λ n. slice_get code n) (plus_none k) ∙ sym (same 0)
    where
      plus_none : (k : ℕ) → k ≡ k + 0
      plus_none k = omega arith

  found : (is : List Instruction) (k : ℕ) → StandFrom is k → (count q (bounds_in code is) ≡ 0) ⊎ IsFound code q k
  found [] k same = inl refl
  found (i ∷ is) k same = by (one_at i.op i.operands) (found is (suc k) (shifted i is k same))
    where
      by : (count q (bounds_at code i.op i.operands) ≡ 0) ⊎ IsOne code i.op i.operands q
          → (count q (bounds_in code is) ≡ 0) ⊎ IsFound code q (suc k) → (count q (bounds_in code (i ∷ is)) ≡ 0) ⊎ IsFound code q k
      by (inr o) more =
          inr (record {
            number = k;
            behind = omega arith;
            id = o.id;
            instruction = i;
            stands = here i is k same;
            gives = o.gives;
            buffer = o.buffer;
            pair = o.pair;
          })
      by (inl e) (inl f) = inl (split i is ∙ none (count q (bounds_at code i.op i.operands)) (count q (bounds_in code is)) e f)
        where
          none : (a b : ℕ) → a ≡ 0 → b ≡ 0 → a + b ≡ 0
          none a b e f = omega arith
      by (inl e) (inr f) =
          let b = f.behind in
          inr (record {
            number = f.number;
            behind = omega arith;
            id = f.id;
            instruction = f.instruction;
            stands = f.stands;
            gives = f.gives;
            buffer = f.buffer;
            pair = f.pair;
          })

module _ (image : Image) (v : Valid image) (q : ℕ × ℕ) where
  -- a second one would be the same variable, declared at another place
  never_twice : (k : ℕ) (i : Instruction) → slice_get image.instructions k ≡ Some i → IsOne image.instructions i.op i.operands q
      → IsFound image.instructions q (suc k) → ⊥
  never_twice k i at o f =
      let p = both_same (pair_of (bound_of image.instructions o.id)) q o.pair in
      let r = both_same (pair_of (bound_of image.instructions f.id)) q f.pair in
      let same : o.id ≡ f.id = one-buffer image v o.id f.id o.buffer f.buffer (p.0 ∙ sym r.0) (p.1 ∙ sym r.1) in
      let one = defined-once image v k i o.id at o.gives in
      let other = defined-once image v f.number f.instruction f.id f.stands f.gives in
      let equal : k ≡ f.number = some_same (sym one ∙ ap (λ x. place_of image.instructions x 0) same ∙ other) in
      let b = f.behind in
      omega arith

  once : (is : List Instruction) (k : ℕ) → StandFrom image.instructions q is k → count q (bounds_in image.instructions is) ≤ 1
  once [] k same = omega arith
  once (i ∷ is) k same =
      by (one_at image.instructions q i.op i.operands) (found image.instructions q is (suc k) (shifted image.instructions q i is k same))
      (once is (suc k) (shifted image.instructions q i is k same))
    where
      by : (count q (bounds_at image.instructions i.op i.operands) ≡ 0) ⊎ IsOne image.instructions i.op i.operands q
          → (count q (bounds_in image.instructions is) ≡ 0) ⊎ IsFound image.instructions q (suc k)
          → count q (bounds_in image.instructions is) ≤ 1 → count q (bounds_in image.instructions (i ∷ is)) ≤ 1
      by (inl e) f m = sums _ _ _ (split image.instructions q i is) e m
        where
          sums : (a b c : ℕ) → c ≡ a + b → a ≡ 0 → b ≤ 1 → c ≤ 1
          sums a b c p e m = omega arith
      by (inr o) (inl f) m = sums _ _ _ (split image.instructions q i is) o.alone f
        where
          sums : (a b c : ℕ) → c ≡ a + b → a ≡ 1 → b ≡ 0 → c ≤ 1
          sums a b c p e f = omega arith
      by (inr o) (inr f) m = absurd (never_twice k i (here image.instructions q i is k same) o f)

-- ---- sorted

-- two neighbours with one pair are two
two : (bs : List Bound) (n : ℕ) (a b : Bound) → slice_get bs n ≡ Some a → slice_get bs (suc n) ≡ Some b → same_pair (pair_of a) (pair_of b) ≡ true
    → 2 ≤ count (pair_of b) bs
two [] n a b e f s = absurd (never e)
  where
    never : slice_get {X = Bound} [] n ≡ Some a → ⊥
    never e = grind arith
two (x ∷ []) zero a b e f s = absurd (never f)
  where
    never : slice_get {X = Bound} [] 0 ≡ Some b → ⊥
    never e = grind arith
two (x ∷ y ∷ bs) zero a b e f s =
    let first : has (pair_of b) x ≡ 1 = ap (has (pair_of b)) (some_same e) ∙ ap (λ r. cond r 1 0) s in
    let second : has (pair_of b) y ≡ 1 = ap (has (pair_of b)) (some_same f) ∙ ap (λ r. cond r 1 0) (same_both (pair_of b) (pair_of b) refl refl) in
    sums _ _ _ _ _ (sum_by-cons (has (pair_of b)) x (y ∷ bs)) (sum_by-cons (has (pair_of b)) y bs) first second
  where
    sums : (a b c d f : ℕ) → d ≡ a + f → f ≡ b + c → a ≡ 1 → b ≡ 1 → 2 ≤ d
    sums a b c d f p q g h = omega arith
two (x ∷ bs) (suc n) a b e f s = more _ _ _ (sum_by-cons (has (pair_of b)) x bs) (two bs n a b e f s)
  where
    more : (a b c : ℕ) → c ≡ a + b → 2 ≤ b → 2 ≤ c
    more a b c p m = omega arith

less_first : (a b : ℕ) (o : Ordering) → a < b → is_lt (ordering_then (nat_cmp a b) o) ≡ true
less_first a b o lt = ap (λ c. is_lt (ordering_then c o)) (sym (nat_cmp_is a b Less lt))

equal_first : (a b : ℕ) (o : Ordering) → a ≡ b → ordering_then (nat_cmp a b) o ≡ o
equal_first a b o e = ap (λ c. ordering_then c o) (sym (nat_cmp_is a b Equal e))

abbrev pub order : Bound → Bound → Ordering
order a b = ordering_then (nat_cmp a.set b.set) (ordering_then (nat_cmp a.binding b.binding) (nat_cmp a.words b.words))

no_true : true ≡ false → ⊥
no_true e = cc

pub compared : (a b : ℕ) → (a < b) ⊎ ((a ≡ b) ⊎ (b < a))
compared zero zero = inr (inl refl)
compared zero (suc b) = inl (omega arith)
compared (suc a) zero = inr (inr (omega arith))
compared (suc a) (suc b) = up (compared a b)
  where
    up : (a < b) ⊎ ((a ≡ b) ⊎ (b < a)) → (suc a < suc b) ⊎ ((suc a ≡ suc b) ⊎ (suc b < suc a))
    up (inl l) = inl (omega arith)
    up (inr (inl e)) = inr (inl (ap suc e))
    up (inr (inr g)) = inr (inr (omega arith))

before_or_same : (a b : Bound) → is_lt (order b a) ≡ false → IsBefore a b ⊎ (same_pair (pair_of a) (pair_of b) ≡ true)
before_or_same a b h = by_set (compared a.set b.set)
  where
    rest : Ordering
    rest = ordering_then (nat_cmp b.binding a.binding) (nat_cmp b.words a.words)

    by_binding : a.set ≡ b.set → is_lt rest ≡ false → (a.binding < b.binding) ⊎ ((a.binding ≡ b.binding) ⊎ (b.binding < a.binding))
        → IsBefore a b ⊎ (same_pair (pair_of a) (pair_of b) ≡ true)
    by_binding e k (inl l) = inl (inr (e, l))
    by_binding e k (inr (inl f)) = inr (same_both (pair_of a) (pair_of b) e f)
    by_binding e k (inr (inr g)) = absurd (no_true (sym (less_first b.binding a.binding (nat_cmp b.words a.words) g) ∙ k))

    by_set : (a.set < b.set) ⊎ ((a.set ≡ b.set) ⊎ (b.set < a.set)) → IsBefore a b ⊎ (same_pair (pair_of a) (pair_of b) ≡ true)
    by_set (inl l) = inl (inl l)
    by_set (inr (inl e)) =
        by_binding e (sym (ap is_lt (equal_first b.set a.set rest (sym e))) ∙ h) (compared a.binding b.binding)
    by_set (inr (inr g)) = absurd (no_true (sym (less_first b.set a.set rest g) ∙ h))

in_order : (image : Image) → Valid image → (sorted : List Bound) → IsPermutation (bounds_in image.instructions image.instructions) sorted
    → IsSorted order sorted → Ascends sorted
in_order image v sorted perm s n a b e f =
    let low = get_or_from_slice_get sorted n a a e in
    let high : get_or sorted (n + 1) a ≡ b = ap (λ m. get_or sorted m a) (add-one n) ∙ get_or_from_slice_get sorted (suc n) b a f in
    let inside = slice_get_within sorted (suc n) b f in
    by (before_or_same a b (sym (ap (λ x. is_lt (order x (get_or sorted n a))) high ∙ ap (λ x. is_lt (order b x)) low)
    ∙ s n a (omega arith) (omega arith)))
  where
    by : IsBefore a b ⊎ (same_pair (pair_of a) (pair_of b) ≡ true) → IsBefore a b
    by (inl h) = h
    by (inr h) =
        let m = two sorted n a b e f h in
        let all = sum_by-IsPermutation (has (pair_of b)) (bounds_in image.instructions image.instructions) sorted perm in
        let few = once image v (pair_of b) image.instructions 0 (λ m. ap (slice_get image.instructions) (none_before m)) in
        absurd (never _ _ m all few)
      where
        none_before : (m : ℕ) → m ≡ 0 + m
        none_before m = omega arith

        never : (a b : ℕ) → 2 ≤ a → a ≡ b → b ≤ 1 → ⊥
        never a b p e q = omega arith

pub ascends : (code : List Instruction) → IsOfValid code → (sorted : List Bound) → IsPermutation (bounds_in code code) sorted → IsSorted order sorted
    → Ascends sorted
ascends code v sorted = subst (λ (c : List Instruction). IsPermutation (bounds_in c c) sorted → IsSorted order sorted → Ascends sorted) v.same (in_order v.image v.valid sorted)

-- ---- no more than there are instructions

fewer_at : (code : List Instruction) (op : Op) (os : List ℕ) → length (bounds_at code op os) ≤ 1
fewer_at code Variable (t ∷ x ∷ rest) = by (is_buffer code x)
  where
    by : (b : Bool) → length (listed (cond b (Some (bound_of code x)) None)) ≤ 1
    by true = omega arith
    by false = omega arith
fewer_at code op os = omega arith

pub fewer : (code is : List Instruction) → length (bounds_in code is) ≤ length is
fewer code [] = omega arith
fewer code (i ∷ is) =
    let a = fewer_at code i.op i.operands in
    let m = fewer code is in
    sums _ _ _ _ (length-append (bounds_at code i.op i.operands) (bounds_in code is)) a m
  where
    sums : (a b c n : ℕ) → c ≡ a + b → a ≤ 1 → b ≤ n → c ≤ suc n
    sums a b c n p e m = omega arith
