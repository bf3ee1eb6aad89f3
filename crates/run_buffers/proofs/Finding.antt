-- A buffer is found where those before it end.
use Rattle.std.proofs.Common.{◌≡◌, ℕ, zero, suc, ◌<◌, ◌⊎◌, Bool, true, false, cond, ltb, eqb, Option, Some, None, refl, List, [], ◌∷◌, length, get_or, sym, ap, subst, ◌∙◌, ◌&&◌, inl, inr, arith}
use Rattle.std.specs.Prelude.{slice_get, IfSome, MatchOption}
use Rattle.std.specs.List.Sorted.{IsPartitionPoint, IsPartitionedBy}
use Rattle.std.proofs.lemmas.Bool.{cases_lt, cases_eq, ne_eqb, or_cases, or_left, or_right, and_parts, and_from, ltb-true, lt-ltb, eqb-true, eq-eqb}
use Rattle.run_buffers.specs.declared.buffer.Buffer.{Buffer}
use Rattle.run_buffers.specs.Texts.{IsBefore, IsAscending}
use Rattle.run_buffers.specs.Memory.{slots, words_at, words_of, is_before}

abbrev Comes : ℕ → ℕ → Buffer → Type 0
Comes set binding b = (b.set < set) ⊎ ((b.set ≡ set) × (b.binding < binding))

comes_from_test : (set binding : ℕ) (b : Buffer) → is_before set binding b ≡ true → Comes set binding b
comes_from_test set binding b h = elim (or_cases (ltb b.set set) (eqb b.set set && ltb b.binding binding) h) [
  | inl less ↦ inl (ltb-true b.set set less)
  | inr same ↦ let p = and_parts (eqb b.set set) (ltb b.binding binding) same in inr (eqb-true b.set set p.0, ltb-true b.binding binding p.1)
]

test_from_comes : (set binding : ℕ) (b : Buffer) → Comes set binding b → is_before set binding b ≡ true
test_from_comes set binding b (inl less) = or_left (ltb b.set set) (eqb b.set set && ltb b.binding binding) (lt-ltb b.set set less)
test_from_comes set binding b (inr same) = or_right (ltb b.set set) (eqb b.set set && ltb b.binding binding) (and_from (eqb b.set set) (ltb b.binding binding) (eq-eqb b.set set same.0) (lt-ltb b.binding binding same.1))

before_comes : (set binding : ℕ) (a b : Buffer) → IsBefore a b → Comes set binding b → Comes set binding a
before_comes set binding a b (inl p) (inl q) = inl (omega arith)
before_comes set binding a b (inl p) (inr q) = inl (let e = q.0 in omega arith)
before_comes set binding a b (inr p) (inl q) = inl (let e = p.0 in omega arith)
before_comes set binding a b (inr p) (inr q) = let e = p.0 in let f = q.0 in let g = p.1 in let h = q.1 in inr (omega arith, omega arith)

first_before : (a : Buffer) (bs : List Buffer) (j : ℕ) (d : Buffer) → IsAscending (a ∷ bs) → j < length bs → IsBefore a (get_or bs j d)
first_before a [] j d h lt = absurd (omega arith)
first_before a (b ∷ bs) zero d h lt = h.0
first_before a (b ∷ bs) (suc j) d h lt = let c = get_or bs j d in before_comes c.set c.binding a b h.0 (first_before b bs j d h.1 (omega arith))

rest_ascends : (a : Buffer) (bs : List Buffer) → IsAscending (a ∷ bs) → IsAscending bs
rest_ascends a [] h = tt
rest_ascends a (b ∷ bs) h = h.1

pub pair_before : (bs : List Buffer) (i j : ℕ) (d : Buffer) → IsAscending bs → i < j → j < length bs → IsBefore (get_or bs i d) (get_or bs j d)
pair_before [] i j d h lt le = absurd (omega arith)
pair_before (a ∷ bs) i zero d h lt le = absurd (omega arith)
pair_before (a ∷ bs) zero (suc j) d h lt le = first_before a bs j d h (omega arith)
pair_before (a ∷ bs) (suc i) (suc j) d h lt le = pair_before bs i j d (rest_ascends a bs h) (omega arith) (omega arith)

pub parted : (set binding : ℕ) (bs : List Buffer) → IsAscending bs → IsPartitionedBy (is_before set binding) bs
parted set binding bs h i j d le lt holds = elim (cases_lt i j) [
  | inl less ↦ test_from_comes set binding (get_or bs i d) (before_comes set binding (get_or bs i d) (get_or bs j d) (pair_before bs i j d h less lt) (comes_from_test set binding (get_or bs j d) holds))
  | inr more ↦ let e : j ≡ i = omega arith in subst (λ (k : ℕ). is_before set binding (get_or bs k d) ≡ true) e holds
]

same_pair : (x y : ℕ × ℕ) → Some x ≡ Some y → x ≡ y
same_pair x y e = cc

pub slot_within : (bs : List Buffer) (q set binding : ℕ) (d : Buffer) → slice_get (slots bs) q ≡ Some (set, binding) → (q < length bs) × ((get_or bs q d).set ≡ set) × ((get_or bs q d).binding ≡ binding)
slot_within [] q set binding d e = absurd cc
slot_within (b ∷ bs) zero set binding d e = let p = same_pair (b.set, b.binding) (set, binding) e in (omega arith, ap (λ (x : ℕ × ℕ). x.0) p, ap (λ (x : ℕ × ℕ). x.1) p)
slot_within (b ∷ bs) (suc q) set binding d e = let r = slot_within bs q set binding d e in let h = r.0 in (omega arith, r.1, r.2)

pub found_at : (set binding : ℕ) (bs : List Buffer) (p q : ℕ) (d : Buffer) → IsAscending bs → IsPartitionPoint (λ y. is_before set binding y ≡ true) (λ y. is_before set binding y ≡ false) bs p
    → slice_get (slots bs) q ≡ Some (set, binding) → p ≡ q
found_at set binding bs p q d h point e =
    let s = slot_within bs q set binding d e in
    elim (cases_lt q p) [
      | inl less ↦ absurd (elim (comes_from_test set binding (get_or bs q d) (point.0 q d (omega arith) less)) [
        | inl a ↦ let k = s.1 in omega arith
        | inr b ↦ let k = s.2 in let m = b.1 in omega arith
      ])
      | inr more ↦ elim (cases_lt p q) [
        | inl less ↦
            let comes = test_from_comes set binding (get_or bs p d) (let b = pair_before bs p q d h less s.0 in subst (λ (v : ℕ). Comes v binding (get_or bs p d)) s.1 (subst (λ (w : ℕ). Comes (get_or bs q d).set w (get_or bs p d)) s.2 b)) in
            let later = point.1 p d (omega arith) (let k = s.0 in omega arith) in
            absurd (let clash : true ≡ false = sym comes ∙ later in cc)
        | inr same ↦ omega arith
      ]
    ]

-- ---- the words of a set and a binding are those at the position of the buffer that has them

is_slot : (set binding : ℕ) (b : Buffer) (bs : List Buffer) → b.set ≡ set → b.binding ≡ binding → words_of (b ∷ bs) set binding ≡ b.words
is_slot set binding b bs s g = ap (λ (t : Bool). cond t b.words (words_of bs set binding)) (and_from (eqb b.set set) (eqb b.binding binding) (eq-eqb b.set set s) (eq-eqb b.binding binding g))

is_no_slot : (set binding : ℕ) (b : Buffer) (bs : List Buffer) → ((b.set ≡ set) × (b.binding ≡ binding) → ⊥) → words_of (b ∷ bs) set binding ≡ words_of bs set binding
is_no_slot set binding b bs none = elim (cases_eq b.set set) [
  | inl s ↦ elim (cases_eq b.binding binding) [
    | inl g ↦ absurd (none (s, g))
    | inr other ↦ ap (λ (t : Bool). cond t b.words (words_of bs set binding)) (ap (λ (u : Bool). u && eqb b.binding binding) (eq-eqb b.set set s) ∙ ne_eqb b.binding binding other)
  ]
  | inr other ↦ ap (λ (t : Bool). cond t b.words (words_of bs set binding)) (ap (λ (u : Bool). u && eqb b.binding binding) (ne_eqb b.set set other))
]

not_both : (a b : Buffer) (set binding : ℕ) → IsBefore a b → b.set ≡ set → b.binding ≡ binding → (a.set ≡ set) × (a.binding ≡ binding) → ⊥
not_both a b set binding (inl less) s g same = let e = same.0 in omega arith
not_both a b set binding (inr less) s g same = let e = same.1 in let l = less.1 in omega arith

pub words_of_slot : (bs : List Buffer) (p set binding : ℕ) → IsAscending bs → slice_get (slots bs) p ≡ Some (set, binding) → words_of bs set binding ≡ words_at bs p
words_of_slot [] p set binding h e = absurd cc
words_of_slot (b ∷ bs) zero set binding h e =
    let s = same_pair (b.set, b.binding) (set, binding) e in
    is_slot set binding b bs (ap (λ (x : ℕ × ℕ). x.0) s) (ap (λ (x : ℕ × ℕ). x.1) s)
words_of_slot (b ∷ bs) (suc p) set binding h e =
    let s = slot_within bs p set binding b e in
    let before = first_before b bs p b h s.0 in
    is_no_slot set binding b bs (not_both b (get_or bs p b) set binding before s.1 s.2) ∙ words_of_slot bs p set binding (rest_ascends b bs h) e

pub no_words_of : (bs : List Buffer) (set binding : ℕ) → ((p : ℕ) → slice_get (slots bs) p ≡ Some (set, binding) → ⊥) → words_of bs set binding ≡ []
no_words_of [] set binding none = refl
no_words_of (b ∷ bs) set binding none =
    is_no_slot set binding b bs (λ same. none 0 (ap (λ (x : ℕ × ℕ). Some x) (ap (λ (v : ℕ). (v, b.binding)) same.0 ∙ ap (λ (v : ℕ). (set, v)) same.1)))
    ∙ no_words_of bs set binding (λ p e. none (suc p) e)

pub words_found : (bs : List Buffer) (r : Option ℕ) (set binding : ℕ) → IsAscending bs → IfSome r (λ p. slice_get (slots bs) p ≡ Some (set, binding))
    → ((p : ℕ) → slice_get (slots bs) p ≡ Some (set, binding) → r ≡ Some p)
    → MatchOption r (words_of bs set binding ≡ []) (λ p. words_of bs set binding ≡ words_at bs p)
words_found bs None set binding h found first = no_words_of bs set binding (λ p e. let clash = first p e in cc)
words_found bs (Some p) set binding h found first = words_of_slot bs p set binding h found
