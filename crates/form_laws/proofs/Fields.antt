-- One number, and where reading it stops.
use Rattle.std.proofs.Common.{◌≡◌, ℕ, zero, suc, ◌+◌, ◌-◌, ◌*◌, ◌/◌, ◌<◌, ◌⊎◌, inl, inr, not, ◌&&◌, List, [], ◌∷◌, ◌++◌, length, drop, get_or, Ok, leb, eqb, refl, sym, ap, subst, ◌∙◌, append_assoc, arith}
use Rattle.std.specs.Prelude.{nat_eq, nat_lt, nat_le}
use Rattle.std.proofs.lemmas.Bool.{cases_lt, cases_eq, cases_Bool, lt-ltb, le-ltb, ne_eqb, eq-eqb}
use Rattle.std.proofs.lemmas.List.{append-nil, length-append}
use Rattle.slang_names.specs.declared.form_codes.FormCode.TheVariants.{Short, NotCanonical}
use Rattle.form_grammar.specs.declared.codes.Stop.{Stop}
use Rattle.form_grammar.specs.Trees.{spelled_number}
use Rattle.form_grammar.specs.Numbers.{digits_at, number_at, refused}
use Rattle.form_laws.specs.Refusals.{IsBytes, IsWrong}
use Rattle.form_laws.specs.Fields.{NumberGoesOn, NumberIsCut}
use Rattle.form_laws.proofs.Same.{split_same}
use Rattle.form_laws.proofs.Again.{if_true, if_false}
use Rattle.form_laws.proofs.Takes.{stopped}
use Rattle.form_laws.proofs.Refuses.{after_err, found_not, stop_is, number_refuse}
use Rattle.form_laws.proofs.Completes.{number_complete}

abbrev pub at_end : Stop
at_end = record { code = Short; left = 0 }

abbrev pub EndsOrWrong : Stop → Type 0
EndsOrWrong s = (s ≡ at_end) ⊎ (s.code ≡ NotCanonical)

wrong_here : (bytes : List ℕ) (s : Stop) → refused {A = ℕ} NotCanonical bytes ≡ stopped s → EndsOrWrong s
wrong_here bytes s e = inr (ap (λ z. z.code) (sym (stop_is {A = ℕ} (record { code = NotCanonical; left = length bytes }) s e)))

pub digits_codes : (limit : ℕ) (bytes : List ℕ) (s : Stop) → digits_at limit bytes ≡ stopped s → EndsOrWrong s
unfolding digits_at
digits_codes limit [] s e = inl (sym (stop_is {A = ℕ} at_end s e))
digits_codes limit (b ∷ bytes) s e =
    elim (cases_lt b 128) [
      | inl l ↦
          let e1 = sym (if_true (nat_lt b 128) _ _ (lt-ltb b 128 l)) ∙ e in
          elim (cases_Bool (leb b limit && not (eqb b 0))) [
            | inl t ↦ absurd (found_not b bytes s (sym (if_true (nat_le b limit && not (nat_eq b 0)) _ _ t) ∙ e1))
            | inr t ↦ wrong_here (b ∷ bytes) s (sym (if_false (nat_le b limit && not (nat_eq b 0)) _ _ t) ∙ e1)
          ]
      | inr l ↦
          let e1 = sym (if_false (nat_lt b 128) _ _ (le-ltb b 128 l)) ∙ e in
          elim (cases_lt limit 128) [
            | inl m ↦ wrong_here (b ∷ bytes) s (sym (if_true (nat_lt limit 128) _ _ (lt-ltb limit 128 m)) ∙ e1)
            | inr m ↦ elim (after_err (digits_at (limit / 128) bytes) (λ high. Ok (b - 128 + 128 * high.0, high.1)) s (sym (if_false (nat_lt limit 128) _ _ (le-ltb limit 128 m)) ∙ e1)) [
              | inr z ↦ absurd (found_not _ _ s z.2)
              | inl z ↦ digits_codes (limit / 128) bytes s z
            ]
          ]
    ]

pub number_codes : (bytes : List ℕ) (s : Stop) → number_at bytes ≡ stopped s → EndsOrWrong s
unfolding number_at
number_codes [] s e = inl (sym (stop_is {A = ℕ} at_end s e))
number_codes (b ∷ bytes) s e =
    elim (cases_eq b 0) [
      | inl z ↦ absurd (found_not 0 bytes s (sym (if_true (nat_eq b 0) _ _ (eq-eqb b 0 z)) ∙ e))
      | inr z ↦ digits_codes 4294967295 (b ∷ bytes) s (sym (if_false (nat_eq b 0) _ _ (ne_eqb b 0 z)) ∙ e)
    ]

pub bytes_from : (bytes : List ℕ) → ((i : ℕ) → get_or bytes i 0 < 256) → IsBytes bytes
bytes_from [] h = tt
bytes_from (b ∷ bytes) h = (h 0, bytes_from bytes (λ i. h (suc i)))

pub bytes_past : (n : ℕ) (bytes : List ℕ) → IsBytes bytes → IsBytes (drop n bytes)
bytes_past zero bytes p = p
bytes_past (suc n) [] p = tt
bytes_past (suc n) (b ∷ bytes) p = bytes_past n bytes p.1

pub number_ends : (bytes : List ℕ) (s : Stop) → IsBytes bytes → number_at bytes ≡ stopped s → s.left ≡ 0 → NumberIsCut bytes
number_ends bytes s p e l =
    let c = number_complete bytes s p e in
    let none : length c.back ≡ 0 = sym c.left ∙ l in
    let all : bytes ≡ c.front = c.parts ∙ (ap (λ z. c.front ++ z) (empty c.back none) ∙ append-nil c.front) in
    (c.whole.0, c.more, c.whole.1, c.longer, c.whole.2 ∙ ap (λ z. z ++ c.more) (sym all))
  where
    empty : (xs : List ℕ) → length xs ≡ 0 → xs ≡ []
    empty [] h = refl
    empty (x ∷ xs) h = absurd (omega arith)

-- the byte that is blamed
abbrev pub NumberStops : List ℕ → ℕ → Type 0
NumberStops bytes left = (front : List ℕ) × (b : ℕ) × (back : List ℕ) × (bytes ≡ front ++ (b ∷ back)) × (left ≡ length (b ∷ back)) × NumberGoesOn front × (NumberGoesOn (front ++ (b ∷ [])) → ⊥)

pub number_stops : (bytes : List ℕ) (s : Stop) → IsBytes bytes → number_at bytes ≡ stopped s → s.code ≡ NotCanonical → NumberStops bytes s.left
number_stops bytes s p e k =
    let c = number_complete bytes s p e in
    let r = number_refuse bytes s p e (subst (λ z. IsWrong z) (sym k) tt) in
    let n : length c.front ≡ length r.front = omega (arith, ap length c.parts, ap length r.parts, length-append c.front c.back, length-append r.front (r.b ∷ r.back), c.left, r.left) in
    let t = split_same c.front r.front c.back (r.b ∷ r.back) n (sym c.parts ∙ r.parts) in (
      r.front,
      r.b,
      r.back,
      r.parts,
      r.left,
      (c.whole.0, c.more, c.whole.1, c.whole.2 ∙ ap (λ z. z ++ c.more) t.0),
      λ g. r.none g.1 (g.0, [], g.2, append-nil (spelled_number g.0) ∙ (g.3 ∙ append_assoc r.front (r.b ∷ []) g.1)),
    )
