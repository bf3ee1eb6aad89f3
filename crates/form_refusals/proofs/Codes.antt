-- Which code a refusal has.
use Rattle.std.proofs.Common.{◌≡◌, ℕ, zero, suc, ◌+◌, ◌<◌, ◌⊎◌, inl, inr, ◌&&◌, List, [], ◌∷◌, length, take, drop, Ok, Err, cond, leb, sym, ap, ◌∙◌, arith}
use Rattle.std.specs.Prelude.{nat_eq, nat_lt, nat_le, ⊤}
use Rattle.std.proofs.lemmas.List.{length-append}
use Rattle.std.proofs.lemmas.Bool.{cases_lt, cases_eq, cases_Bool, lt-ltb, le-ltb, ne_eqb, eq-eqb}
use Rattle.slang_names.specs.declared.form_codes.FormCode.{FormCode}
use Rattle.slang_names.specs.declared.form_codes.FormCode.TheVariants.{Short, BadMagic, BadVersion, NotCanonical, FormLimit}
use Rattle.form_grammar.specs.declared.codes.Stop.{Stop}
use Rattle.form_grammar.specs.Trees.{Tree, nothing, byte, number, text, ◌▸◌, tagged, nested, many, end, ◌⨾◌}
use Rattle.form_grammar.specs.Grammar.{Form, Class, unit, exactly, range, num, name, ◌▹◌, tag, alt, list, part, grammar, interface, body, module_form}
use Rattle.form_grammar.specs.Numbers.{after, digits_at, number_at, text_at, count_at, short}
use Rattle.form_grammar.specs.Reading.{form_at, nested_at, items_at}
use Rattle.form_laws.proofs.Again.{if_true, if_false}
use Rattle.form_laws.specs.Refusals.{IsBytes}
use Rattle.form_laws.proofs.Takes.{IsSound, found, whole, stopped, never, rest_bytes}
use Rattle.form_laws.proofs.Completes.{HasExample, completes}
use Rattle.form_laws.proofs.Refuses.{after_err, found_not, stop_is}
use Rattle.form_laws.proofs.Fields.{at_end, EndsOrWrong, digits_codes, number_codes}

-- a code that no byte has of its own
abbrev pub Ordinary : FormCode → Type 0
Ordinary code = (code ≡ Short) ⊎ ((code ≡ NotCanonical) ⊎ (code ≡ FormLimit))

-- no byte of the form has a code of its own
abbrev pub IsOrdinary : Form → Type 0
IsOrdinary (exactly c n) = ⊥
IsOrdinary (f ▹ g) = IsOrdinary f × IsOrdinary g
IsOrdinary (tag n f) = IsOrdinary f
IsOrdinary (alt n f g) = IsOrdinary f × IsOrdinary g
IsOrdinary (list f) = IsOrdinary f
IsOrdinary _ = ⊤

code_of : (A : Type 0) (t s : Stop) → stopped {A = A} t ≡ stopped s → s.code ≡ t.code
code_of A t s e = ap (λ z. z.code) (sym (stop_is {A = A} t s e))

at_the_end : (A : Type 0) (s : Stop) → stopped {A = A} at_end ≡ stopped s → Ordinary s.code
at_the_end A s e = inl (code_of A at_end s e)

at_wrong : (A : Type 0) (n : ℕ) (s : Stop) → stopped {A = A} (record { code = NotCanonical; left = n }) ≡ stopped s → Ordinary s.code
at_wrong A n s e = inr (inl (code_of A (record { code = NotCanonical; left = n }) s e))

at_limit : (A : Type 0) (n : ℕ) (s : Stop) → stopped {A = A} (record { code = FormLimit; left = n }) ≡ stopped s → Ordinary s.code
at_limit A n s e = inr (inr (code_of A (record { code = FormLimit; left = n }) s e))

from_number : (s : Stop) → EndsOrWrong s → Ordinary s.code
from_number s (inl e) = inl (ap (λ z. z.code) e)
from_number s (inr e) = inr (inl e)

text_ordinary : (bytes : List ℕ) (s : Stop) → text_at bytes ≡ stopped s → Ordinary s.code
unfolding text_at
text_ordinary bytes s e =
    elim (after_err (digits_at 255 bytes) (λ n. cond (nat_lt (length n.1) n.0) short (Ok (take n.0 n.1, drop n.0 n.1))) s e) [
      | inl z ↦ from_number s (digits_codes 255 bytes s z)
      | inr z ↦ elim (cases_lt (length z.0.1) z.0.0) [
        | inl l ↦ at_the_end (List ℕ) s (sym (if_true (nat_lt (length z.0.1) z.0.0) _ _ (lt-ltb (length z.0.1) z.0.0 l)) ∙ z.2)
        | inr l ↦ absurd (found_not _ _ s (sym (if_false (nat_lt (length z.0.1) z.0.0) _ _ (le-ltb (length z.0.1) z.0.0 l)) ∙ z.2))
      ]
    ]

count_ordinary : (bytes : List ℕ) (s : Stop) → count_at bytes ≡ stopped s → Ordinary s.code
unfolding count_at
count_ordinary bytes s e =
    elim (after_err (number_at bytes) (λ n. cond (nat_lt 65536 n.0) (Err (record { code = FormLimit; left = length n.1 + 1 })) (Ok n)) s e) [
      | inl z ↦ from_number s (number_codes bytes s z)
      | inr z ↦ elim (cases_lt 65536 z.0.0) [
        | inl l ↦ at_limit ℕ (length z.0.1 + 1) s (sym (if_true (nat_lt 65536 z.0.0) _ _ (lt-ltb 65536 z.0.0 l)) ∙ z.2)
        | inr l ↦ absurd (found_not _ _ s (sym (if_false (nat_lt 65536 z.0.0) _ _ (le-ltb 65536 z.0.0 l)) ∙ z.2))
      ]
    ]

abbrev NestedOrdinary : ℕ → Type 0
NestedOrdinary d = (c : Class) (bytes : List ℕ) (s : Stop) → nested_at d c bytes ≡ stopped s → Ordinary s.code

module _ (d : ℕ) (inner : NestedOrdinary d) where
  items_ordinary : (f : Form) → ((bytes : List ℕ) (s : Stop) → form_at (nested_at d) f bytes ≡ stopped s → Ordinary s.code)
      → (n : ℕ) (bytes : List ℕ) (s : Stop) → items_at (form_at (nested_at d) f) n bytes ≡ stopped s → Ordinary s.code
  unfolding items_at
  items_ordinary f each zero bytes s e = absurd (found_not end bytes s e)
  items_ordinary f each (suc n) bytes s e =
      elim (after_err (form_at (nested_at d) f bytes) (λ x. after (items_at (form_at (nested_at d) f) n x.1) (λ xs. Ok (x.0 ⨾ xs.0, xs.1))) s e) [
        | inl z ↦ each bytes s z
        | inr z ↦ elim (after_err (items_at (form_at (nested_at d) f) n z.0.1) (λ xs. Ok (z.0.0 ⨾ xs.0, xs.1)) s z.2) [
          | inl y ↦ items_ordinary f each n z.0.1 s y
          | inr y ↦ absurd (found_not _ _ s y.2)
        ]
      ]

  form_ordinary : (f : Form) (bytes : List ℕ) (s : Stop) → IsOrdinary f → form_at (nested_at d) f bytes ≡ stopped s → Ordinary s.code
  unfolding form_at
  form_ordinary unit bytes s k e = absurd (found_not nothing bytes s e)
  form_ordinary (exactly c n) bytes s k e = absurd k
  form_ordinary (range low high) [] s k e = at_the_end Tree s e
  form_ordinary (range low high) (b ∷ bytes) s k e =
      elim (cases_Bool (leb low b && leb b high)) [
        | inl z ↦ absurd (found_not (byte b) bytes s (sym (if_true (nat_le low b && nat_le b high) _ _ z) ∙ e))
        | inr z ↦ at_wrong Tree (length (b ∷ bytes)) s (sym (if_false (nat_le low b && nat_le b high) _ _ z) ∙ e)
      ]
  form_ordinary num bytes s k e =
      elim (after_err (number_at bytes) (λ n. Ok (number n.0, n.1)) s e) [
        | inl z ↦ from_number s (number_codes bytes s z)
        | inr z ↦ absurd (found_not _ _ s z.2)
      ]
  form_ordinary name bytes s k e =
      elim (after_err (text_at bytes) (λ n. Ok (text n.0, n.1)) s e) [
        | inl z ↦ text_ordinary bytes s z
        | inr z ↦ absurd (found_not _ _ s z.2)
      ]
  form_ordinary (f ▹ g) bytes s k e =
      elim (after_err (form_at (nested_at d) f bytes) (λ x. after (form_at (nested_at d) g x.1) (λ y. Ok (x.0 ▸ y.0, y.1))) s e) [
        | inl z ↦ form_ordinary f bytes s k.0 z
        | inr z ↦ elim (after_err (form_at (nested_at d) g z.0.1) (λ y. Ok (z.0.0 ▸ y.0, y.1)) s z.2) [
          | inl y ↦ form_ordinary g z.0.1 s k.1 y
          | inr y ↦ absurd (found_not _ _ s y.2)
        ]
      ]
  form_ordinary (tag n f) [] s k e = at_the_end Tree s e
  form_ordinary (tag n f) (b ∷ bytes) s k e =
      elim (cases_eq b n) [
        | inl z ↦ elim (after_err (form_at (nested_at d) f bytes) (λ x. Ok (tagged b x.0, x.1)) s (sym (if_true (nat_eq b n) _ _ (eq-eqb b n z)) ∙ e)) [
          | inl y ↦ form_ordinary f bytes s k y
          | inr y ↦ absurd (found_not _ _ s y.2)
        ]
        | inr z ↦ at_wrong Tree (length (b ∷ bytes)) s (sym (if_false (nat_eq b n) _ _ (ne_eqb b n z)) ∙ e)
      ]
  form_ordinary (alt n f g) [] s k e = at_the_end Tree s e
  form_ordinary (alt n f g) (b ∷ bytes) s k e =
      elim (cases_eq b n) [
        | inl z ↦ elim (after_err (form_at (nested_at d) f bytes) (λ x. Ok (tagged b x.0, x.1)) s (sym (if_true (nat_eq b n) _ _ (eq-eqb b n z)) ∙ e)) [
          | inl y ↦ form_ordinary f bytes s k.0 y
          | inr y ↦ absurd (found_not _ _ s y.2)
        ]
        | inr z ↦ form_ordinary g (b ∷ bytes) s k.1 (sym (if_false (nat_eq b n) _ _ (ne_eqb b n z)) ∙ e)
      ]
  form_ordinary (list f) bytes s k e =
      elim (after_err (count_at bytes) (λ n. after (items_at (form_at (nested_at d) f) n.0 n.1) (λ xs. Ok (many xs.0, xs.1))) s e) [
        | inl z ↦ count_ordinary bytes s z
        | inr z ↦ elim (after_err (items_at (form_at (nested_at d) f) z.0.0 z.0.1) (λ xs. Ok (many xs.0, xs.1)) s z.2) [
          | inl y ↦ items_ordinary f (λ bytes s q. form_ordinary f bytes s k q) z.0.0 z.0.1 s y
          | inr y ↦ absurd (found_not _ _ s y.2)
        ]
      ]
  form_ordinary (part c) bytes s k e =
      elim (after_err (nested_at d c bytes) (λ x. Ok (nested x.0, x.1)) s e) [
        | inl z ↦ inner c bytes s z
        | inr z ↦ absurd (found_not _ _ s z.2)
      ]

grammar_ordinary : (c : Class) → IsOrdinary (grammar c)
grammar_ordinary Class.Term = search depth 60
grammar_ordinary Class.Evidence = search depth 60
grammar_ordinary Class.Stat = search depth 60
grammar_ordinary Class.Expr = search depth 60
grammar_ordinary Class.Place = search depth 60

nested_ordinary : (d : ℕ) → NestedOrdinary d
unfolding nested_at
nested_ordinary zero c [] s e = at_the_end Tree s e
nested_ordinary zero c (b ∷ bytes) s e = at_limit Tree (length (b ∷ bytes)) s e
nested_ordinary (suc d) c bytes s e = form_ordinary d (nested_ordinary d) (grammar c) bytes s (grammar_ordinary c) e

-- ---- the first bytes of a module

pair_is : {A : Type 0} (p q : A) → whole p ≡ whole q → p ≡ q
pair_is p q e = cc

found_is : {A : Type 0} (x y : A) (a b : List ℕ) → found x a ≡ found y b → (x ≡ y) × (a ≡ b)
found_is x y a b e = let h = pair_is (x, a) (y, b) e in (ap (λ p. p.0) h, ap (λ p. p.1) h)

-- reading stops at the end, at the first byte, or behind it
abbrev At : FormCode → ℕ → Form → List ℕ → Stop → Type 0
At c n g bytes s = (s.code ≡ Short) ⊎ (((s.code ≡ c) × (s.left ≡ length bytes)) ⊎ ((rest : List ℕ) × (bytes ≡ n ∷ rest) × (form_at (nested_at 128) g rest ≡ stopped s)))

head_stops : (c : FormCode) (n : ℕ) (g : Form) (bytes : List ℕ) (s : Stop) → form_at (nested_at 128) (exactly c n ▹ g) bytes ≡ stopped s → At c n g bytes s
unfolding form_at after
head_stops c n g [] s e = inl (code_of Tree at_end s e)
head_stops c n g (b ∷ bytes) s e =
    elim (after_err (form_at (nested_at 128) (exactly c n) (b ∷ bytes)) (λ x. after (form_at (nested_at 128) g x.1) (λ y. Ok (x.0 ▸ y.0, y.1))) s e) [
      | inl z ↦ elim (cases_eq b n) [
        | inl i ↦ absurd (found_not (byte b) bytes s (sym (if_true (nat_eq b n) _ _ (eq-eqb b n i)) ∙ z))
        | inr i ↦
            let t : Stop = record { code = c; left = length (b ∷ bytes) } in
            let w = stop_is {A = Tree} t s (sym (if_false (nat_eq b n) _ _ (ne_eqb b n i)) ∙ z) in
            inr (inl (ap (λ y. y.code) (sym w), ap (λ y. y.left) (sym w)))
      ]
      | inr z ↦ elim (cases_eq b n) [
        | inl i ↦
            let w = found_is (byte b) z.0.0 bytes z.0.1 (sym (if_true (nat_eq b n) _ _ (eq-eqb b n i)) ∙ z.1) in
            elim (after_err (form_at (nested_at 128) g z.0.1) (λ y. Ok (z.0.0 ▸ y.0, y.1)) s z.2) [
              | inl y ↦ inr (inr (z.0.1, ap (λ k. k ∷ bytes) i ∙ ap (λ r. n ∷ r) w.1, y))
              | inr y ↦ absurd (found_not _ _ s y.2)
            ]
        | inr i ↦ absurd (never {A = Tree} (record { code = c; left = length (b ∷ bytes) }) z.0 (sym (if_false (nat_eq b n) _ _ (ne_eqb b n i)) ∙ z.1))
      ]
    ]

-- where a module is refused with a code, by the bytes that stand before
abbrev pub CodeAt : List ℕ → Stop → Type 0
CodeAt bytes s =
    (s.code ≡ Short) ⊎ ((s.code ≡ FormLimit)
    ⊎ (((s.code ≡ BadMagic) × (length bytes < s.left + 4))
    ⊎ (((s.code ≡ BadVersion) × (length bytes ≡ s.left + 4))
    ⊎ ((s.code ≡ NotCanonical) × (s.left + 4 < length bytes)))))

step : (c : FormCode) (n : ℕ) (g : Form) (bytes : List ℕ) (s : Stop) (C : Type 0) → IsBytes bytes → form_at (nested_at 128) (exactly c n ▹ g) bytes ≡ stopped s
    → (s.code ≡ Short → C) → (s.code ≡ c → s.left ≡ length bytes → C)
    → ((rest : List ℕ) → length bytes ≡ suc (length rest) → IsBytes rest → form_at (nested_at 128) g rest ≡ stopped s → C) → C
step c n g bytes s C p e short here more =
    elim (head_stops c n g bytes s e) [
      | inl z ↦ short z
      | inr z ↦ elim z [
        | inl y ↦ here y.0 y.1
        | inr y ↦ more y.0 (ap length y.1) (rest_bytes bytes (n ∷ []) y.0 p y.1) y.2
      ]
    ]

abbrev behind_version : Form
behind_version = list interface ▹ interface ▹ list body

rest_ordinary : IsOrdinary behind_version
rest_ordinary = search depth 80

rest_sound : IsSound behind_version
rest_sound = search depth 80

rest_example : HasExample behind_version
rest_example = search (arith) depth 80

pub module_codes : (bytes : List ℕ) (s : Stop) → IsBytes bytes → form_at (nested_at 128) module_form bytes ≡ stopped s → CodeAt bytes s
module_codes bytes s p e =
    step BadMagic 0x53 _ bytes s (CodeAt bytes s) p e (λ z. inl z) (λ z l. magic z (omega (arith, l)))
    (λ r1 n1 p1 e1. step BadMagic 0x4C _ r1 s (CodeAt bytes s) p1 e1 (λ z. inl z) (λ z l. magic z (omega (arith, l, n1)))
    (λ r2 n2 p2 e2. step BadMagic 0x4D _ r2 s (CodeAt bytes s) p2 e2 (λ z. inl z) (λ z l. magic z (omega (arith, l, n1, n2)))
    (λ r3 n3 p3 e3. step BadMagic 0x4F _ r3 s (CodeAt bytes s) p3 e3 (λ z. inl z) (λ z l. magic z (omega (arith, l, n1, n2, n3)))
    (λ r4 n4 p4 e4. step BadVersion 1 _ r4 s (CodeAt bytes s) p4 e4 (λ z. inl z) (λ z l. inr (inr (inr (inl (z, omega (arith, l, n1, n2, n3, n4))))))
    (λ r5 n5 p5 e5.
    let c = completes 128 behind_version r5 s rest_sound rest_example p5 e5 in
    rest (form_ordinary 128 (nested_ordinary 128) behind_version r5 s rest_ordinary e5) (omega (arith, n1, n2, n3, n4, n5, ap length c.parts, c.left, length-append c.front c.back)))))))
  where
    magic : s.code ≡ BadMagic → length bytes < s.left + 4 → CodeAt bytes s
    magic z l = inr (inr (inl (z, l)))

    rest : Ordinary s.code → s.left + 4 < length bytes → CodeAt bytes s
    rest (inl z) l = inl z
    rest (inr (inl z)) l = inr (inr (inr (inr (z, l))))
    rest (inr (inr z)) l = inr (inl z)
