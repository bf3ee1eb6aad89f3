-- Where the bytes end too early, none is left.
use Rattle.std.proofs.Common.{◌≡◌, ℕ, zero, suc, ◌+◌, inl, inr, ◌&&◌, List, [], ◌∷◌, length, take, drop, Ok, Err, cond, leb, sym, ap, subst, ◌∙◌}
use Rattle.std.specs.Prelude.{nat_eq, nat_lt, nat_le, ⊤}
use Rattle.std.proofs.lemmas.Bool.{cases_lt, cases_eq, cases_Bool, lt-ltb, le-ltb, ne_eqb, eq-eqb}
use Rattle.slang_names.specs.declared.form_codes.FormCode.TheVariants.{Short, NotCanonical, FormLimit}
use Rattle.form_grammar.specs.declared.codes.Stop.{Stop}
use Rattle.form_grammar.specs.Trees.{Tree, nothing, byte, number, text, ◌▸◌, tagged, nested, many, end, ◌⨾◌}
use Rattle.form_grammar.specs.Grammar.{Form, Class, unit, exactly, range, num, name, ◌▹◌, tag, alt, list, part, grammar}
use Rattle.form_grammar.specs.Numbers.{after, digits_at, number_at, text_at, count_at, short}
use Rattle.form_grammar.specs.Reading.{form_at, nested_at, items_at}
use Rattle.form_laws.specs.Refusals.{IsWrong}
use Rattle.form_laws.proofs.Again.{if_true, if_false}
use Rattle.form_laws.proofs.Takes.{stopped}
use Rattle.form_laws.proofs.Refuses.{after_err, found_not, stop_is}
use Rattle.form_laws.proofs.Fields.{at_end, EndsOrWrong, digits_codes, number_codes}

abbrev pub EndsAt : Stop → Type 0
EndsAt s = s.code ≡ Short → s.left ≡ 0

-- no byte of the form is refused as an early end
abbrev pub IsCoded : Form → Type 0
IsCoded (exactly c n) = IsWrong c
IsCoded (f ▹ g) = IsCoded f × IsCoded g
IsCoded (tag n f) = IsCoded f
IsCoded (alt n f g) = IsCoded f × IsCoded g
IsCoded (list f) = IsCoded f
IsCoded _ = ⊤

early : (A : Type 0) (s : Stop) → stopped {A = A} at_end ≡ stopped s → EndsAt s
early A s e c = ap (λ z. z.left) (sym (stop_is {A = A} at_end s e))

blamed : (A : Type 0) (t s : Stop) → stopped {A = A} t ≡ stopped s → IsWrong t.code → EndsAt s
blamed A t s e w c = absurd (subst (λ z. IsWrong z) (ap (λ z. z.code) (stop_is {A = A} t s e) ∙ c) w)

limited : (A : Type 0) (n : ℕ) (s : Stop) → stopped {A = A} (record { code = FormLimit; left = n }) ≡ stopped s → EndsAt s
limited A n s e c = absurd (limit_short (ap (λ z. z.code) (stop_is {A = A} (record { code = FormLimit; left = n }) s e) ∙ c))
  where
    limit_short : FormLimit ≡ Short → ⊥
    limit_short p = absurd cc

from_codes : (s : Stop) → EndsOrWrong s → EndsAt s
from_codes s (inl e) c = ap (λ z. z.left) e
from_codes s (inr e) c = absurd (wrong_short (sym e ∙ c))
  where
    wrong_short : NotCanonical ≡ Short → ⊥
    wrong_short p = absurd cc

text_ends : (bytes : List ℕ) (s : Stop) → text_at bytes ≡ stopped s → EndsAt s
unfolding text_at
text_ends bytes s e =
    elim (after_err (digits_at 255 bytes) (λ n. cond (nat_lt (length n.1) n.0) short (Ok (take n.0 n.1, drop n.0 n.1))) s e) [
      | inl z ↦ from_codes s (digits_codes 255 bytes s z)
      | inr z ↦ elim (cases_lt (length z.0.1) z.0.0) [
        | inl l ↦ early (List ℕ) s (sym (if_true (nat_lt (length z.0.1) z.0.0) _ _ (lt-ltb (length z.0.1) z.0.0 l)) ∙ z.2)
        | inr l ↦ absurd (found_not _ _ s (sym (if_false (nat_lt (length z.0.1) z.0.0) _ _ (le-ltb (length z.0.1) z.0.0 l)) ∙ z.2))
      ]
    ]

count_ends : (bytes : List ℕ) (s : Stop) → count_at bytes ≡ stopped s → EndsAt s
unfolding count_at
count_ends bytes s e =
    elim (after_err (number_at bytes) (λ n. cond (nat_lt 65536 n.0) (Err (record { code = FormLimit; left = length n.1 + 1 })) (Ok n)) s e) [
      | inl z ↦ from_codes s (number_codes bytes s z)
      | inr z ↦ elim (cases_lt 65536 z.0.0) [
        | inl l ↦ limited ℕ (length z.0.1 + 1) s (sym (if_true (nat_lt 65536 z.0.0) _ _ (lt-ltb 65536 z.0.0 l)) ∙ z.2)
        | inr l ↦ absurd (found_not _ _ s (sym (if_false (nat_lt 65536 z.0.0) _ _ (le-ltb 65536 z.0.0 l)) ∙ z.2))
      ]
    ]

abbrev NestedEnds : ℕ → Type 0
NestedEnds d = (c : Class) (bytes : List ℕ) (s : Stop) → nested_at d c bytes ≡ stopped s → EndsAt s

module _ (d : ℕ) (inner : NestedEnds d) where
  items_end : (f : Form) → ((bytes : List ℕ) (s : Stop) → form_at (nested_at d) f bytes ≡ stopped s → EndsAt s) → (n : ℕ) (bytes : List ℕ) (s : Stop) → items_at (form_at (nested_at d) f) n bytes ≡ stopped s → EndsAt s
  unfolding items_at
  items_end f each zero bytes s e = absurd (found_not end bytes s e)
  items_end f each (suc n) bytes s e =
      elim (after_err (form_at (nested_at d) f bytes) (λ x. after (items_at (form_at (nested_at d) f) n x.1) (λ xs. Ok (x.0 ⨾ xs.0, xs.1))) s e) [
        | inl z ↦ each bytes s z
        | inr z ↦ elim (after_err (items_at (form_at (nested_at d) f) n z.0.1) (λ xs. Ok (z.0.0 ⨾ xs.0, xs.1)) s z.2) [
          | inl y ↦ items_end f each n z.0.1 s y
          | inr y ↦ absurd (found_not _ _ s y.2)
        ]
      ]

  form_ends : (f : Form) (bytes : List ℕ) (s : Stop) → IsCoded f → form_at (nested_at d) f bytes ≡ stopped s → EndsAt s
  unfolding form_at
  form_ends unit bytes s k e = absurd (found_not nothing bytes s e)
  form_ends (exactly c n) [] s k e = early Tree s e
  form_ends (exactly c n) (b ∷ bytes) s k e =
      elim (cases_eq b n) [
        | inl z ↦ absurd (found_not (byte b) bytes s (sym (if_true (nat_eq b n) _ _ (eq-eqb b n z)) ∙ e))
        | inr z ↦ blamed Tree (record { code = c; left = length (b ∷ bytes) }) s (sym (if_false (nat_eq b n) _ _ (ne_eqb b n z)) ∙ e) k
      ]
  form_ends (range low high) [] s k e = early Tree s e
  form_ends (range low high) (b ∷ bytes) s k e =
      elim (cases_Bool (leb low b && leb b high)) [
        | inl z ↦ absurd (found_not (byte b) bytes s (sym (if_true (nat_le low b && nat_le b high) _ _ z) ∙ e))
        | inr z ↦ blamed Tree (record { code = NotCanonical; left = length (b ∷ bytes) }) s (sym (if_false (nat_le low b && nat_le b high) _ _ z) ∙ e) tt
      ]
  form_ends num bytes s k e =
      elim (after_err (number_at bytes) (λ n. Ok (number n.0, n.1)) s e) [
        | inl z ↦ from_codes s (number_codes bytes s z)
        | inr z ↦ absurd (found_not _ _ s z.2)
      ]
  form_ends name bytes s k e =
      elim (after_err (text_at bytes) (λ n. Ok (text n.0, n.1)) s e) [
        | inl z ↦ text_ends bytes s z
        | inr z ↦ absurd (found_not _ _ s z.2)
      ]
  form_ends (f ▹ g) bytes s k e =
      elim (after_err (form_at (nested_at d) f bytes) (λ x. after (form_at (nested_at d) g x.1) (λ y. Ok (x.0 ▸ y.0, y.1))) s e) [
        | inl z ↦ form_ends f bytes s k.0 z
        | inr z ↦ elim (after_err (form_at (nested_at d) g z.0.1) (λ y. Ok (z.0.0 ▸ y.0, y.1)) s z.2) [
          | inl y ↦ form_ends g z.0.1 s k.1 y
          | inr y ↦ absurd (found_not _ _ s y.2)
        ]
      ]
  form_ends (tag n f) [] s k e = early Tree s e
  form_ends (tag n f) (b ∷ bytes) s k e =
      elim (cases_eq b n) [
        | inl z ↦ elim (after_err (form_at (nested_at d) f bytes) (λ x. Ok (tagged b x.0, x.1)) s (sym (if_true (nat_eq b n) _ _ (eq-eqb b n z)) ∙ e)) [
          | inl y ↦ form_ends f bytes s k y
          | inr y ↦ absurd (found_not _ _ s y.2)
        ]
        | inr z ↦ blamed Tree (record { code = NotCanonical; left = length (b ∷ bytes) }) s (sym (if_false (nat_eq b n) _ _ (ne_eqb b n z)) ∙ e) tt
      ]
  form_ends (alt n f g) [] s k e = early Tree s e
  form_ends (alt n f g) (b ∷ bytes) s k e =
      elim (cases_eq b n) [
        | inl z ↦ elim (after_err (form_at (nested_at d) f bytes) (λ x. Ok (tagged b x.0, x.1)) s (sym (if_true (nat_eq b n) _ _ (eq-eqb b n z)) ∙ e)) [
          | inl y ↦ form_ends f bytes s k.0 y
          | inr y ↦ absurd (found_not _ _ s y.2)
        ]
        | inr z ↦ form_ends g (b ∷ bytes) s k.1 (sym (if_false (nat_eq b n) _ _ (ne_eqb b n z)) ∙ e)
      ]
  form_ends (list f) bytes s k e =
      elim (after_err (count_at bytes) (λ n. after (items_at (form_at (nested_at d) f) n.0 n.1) (λ xs. Ok (many xs.0, xs.1))) s e) [
        | inl z ↦ count_ends bytes s z
        | inr z ↦ elim (after_err (items_at (form_at (nested_at d) f) z.0.0 z.0.1) (λ xs. Ok (many xs.0, xs.1)) s z.2) [
          | inl y ↦ items_end f (λ bytes s q. form_ends f bytes s k q) z.0.0 z.0.1 s y
          | inr y ↦ absurd (found_not _ _ s y.2)
        ]
      ]
  form_ends (part c) bytes s k e =
      elim (after_err (nested_at d c bytes) (λ x. Ok (nested x.0, x.1)) s e) [
        | inl z ↦ inner c bytes s z
        | inr z ↦ absurd (found_not _ _ s z.2)
      ]

pub grammar_coded : (c : Class) → IsCoded (grammar c)
grammar_coded Class.Term = search depth 60
grammar_coded Class.Evidence = search depth 60
grammar_coded Class.Stat = search depth 60
grammar_coded Class.Expr = search depth 60
grammar_coded Class.Place = search depth 60

nested_ends : (d : ℕ) → NestedEnds d
unfolding nested_at
nested_ends zero c [] s e = early Tree s e
nested_ends zero c (b ∷ bytes) s e = limited Tree (length (b ∷ bytes)) s e
nested_ends (suc d) c bytes s e = form_ends d (nested_ends d) (grammar c) bytes s (grammar_coded c) e

pub ends : (d : ℕ) (f : Form) (bytes : List ℕ) (s : Stop) → IsCoded f → form_at (nested_at d) f bytes ≡ stopped s → EndsAt s
ends d f bytes s k e = form_ends d (nested_ends d) f bytes s k e
