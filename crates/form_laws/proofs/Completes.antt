-- The bytes before a refusal can be completed.
use Rattle.std.proofs.Common.{◌≡◌, ℕ, zero, suc, ◌+◌, ◌-◌, ◌*◌, ◌/◌, ◌%◌, ◌^◌, ◌<◌, ◌≤◌, ◌⊎◌, inl, inr, not, ◌&&◌, Option, Some, None, List, [], ◌∷◌, ◌++◌, length, take, drop, replicate, Ok, Err, cond, leb, eqb, refl, sym, ap, subst, ◌∙◌, append_assoc, arith}
use Rattle.std.specs.Prelude.{nat_eq, nat_lt, nat_le, ⊤, IsSomeAnd}
use Rattle.std.proofs.lemmas.Bool.{cases_lt, cases_eq, cases_Bool, lt-ltb, le-ltb, ne_eqb, eq-eqb}
use Rattle.std.proofs.lemmas.List.{append-nil, length-append, length-replicate}
use Rattle.slang_names.specs.declared.form_codes.FormCode.TheVariants.{Short, NotCanonical, FormLimit}
use Rattle.form_grammar.specs.declared.codes.Stop.{Stop}
use Rattle.form_grammar.specs.Trees.{Tree, nothing, byte, number, text, ◌▸◌, tagged, nested, many, end, ◌⨾◌, size, spelling, spelled_number, digits}
use Rattle.form_grammar.specs.Grammar.{Form, Class, unit, exactly, range, num, name, ◌▹◌, tag, alt, list, part, chosen, grammar}
use Rattle.form_grammar.specs.Numbers.{after, digits_at, number_at, text_at, count_at, short, refused}
use Rattle.form_grammar.specs.Reading.{form_at, nested_at, items_at}
use Rattle.form_laws.specs.Forms.{IsForm, AreForm}
use Rattle.form_laws.specs.Refusals.{IsBytes}
use Rattle.form_laws.proofs.Same.{InDigits, in_ten, digits_last, digits_more, heads}
use Rattle.form_laws.proofs.Again.{if_true, if_false}
use Rattle.form_laws.proofs.Takes.{IsSound, IsChoice, Ones, stopped, digits_take, number_ones, text_ones, number_take, count_take, takes, rest_bytes, grammar_sound}
use Rattle.form_laws.proofs.Refuses.{after_err, found_not, stop_is}

-- The bytes before the refused one can be completed to something of P, by at least a byte. For Short these are all bytes.
pub record Completes (P : List ℕ → Type 0) (bytes : List ℕ) (s : Stop) : Type 0 where
  pub front : List ℕ
  pub back : List ℕ
  pub more : List ℕ
  pub parts : bytes ≡ front ++ back
  pub left : s.left ≡ length back
  pub whole : P (front ++ more)
  pub longer : 0 < length more

-- with nothing before
from_start : (P : List ℕ → Type 0) (bytes word : List ℕ) (s : Stop) → s.left ≡ length bytes → P word → 0 < length word → Completes P bytes s
from_start P bytes word s l w n = record { front = []; back = bytes; more = word; parts = refl; left = l; whole = w; longer = n }

-- behind what was read, and with what is still to come
within : (P Q : List ℕ → Type 0) (before bytes rest : List ℕ) (s : Stop) → bytes ≡ before ++ rest → Completes Q rest s → ((l : List ℕ) → Q l → (tail : List ℕ) × P (before ++ (l ++ tail))) → Completes P bytes s
within P Q before bytes rest s e r h =
    let t = h (r.front ++ r.more) r.whole in
    record {
      front = before ++ r.front;
      back = r.back;
      more = r.more ++ t.0;
      parts = e ∙ (ap (λ z. before ++ z) r.parts ∙ sym (append_assoc before r.front r.back));
      left = r.left;
      whole = subst P (ap (λ z. before ++ z) (append_assoc r.front r.more t.0) ∙ sym (append_assoc before r.front (r.more ++ t.0))) t.1;
      longer = omega (arith, r.longer, length-append r.more t.0);
    }

left_of : (A : Type 0) (t s : Stop) → stopped {A = A} t ≡ stopped s → s.left ≡ t.left
left_of A t s e = ap (λ z. z.left) (sym (stop_is {A = A} t s e))

abbrev pub DigitsAre : ℕ → ℕ → List ℕ → Type 0
DigitsAre most limit l = (n : ℕ) × (0 < n) × (n ≤ limit) × (digits most n ≡ l)

one_is : (most limit : ℕ) → 0 < limit → DigitsAre (suc most) limit (1 ∷ [])
one_is most limit h = (1, omega arith, omega arith, refl)

digits_complete : (most limit : ℕ) (bytes : List ℕ) (s : Stop) → Ones most limit → 0 < limit → IsBytes bytes → digits_at limit bytes ≡ stopped s → Completes (DigitsAre most limit) bytes s
unfolding digits_at
digits_complete zero limit bytes s o h p e = absurd o
digits_complete (suc most) limit [] s o h p e = from_start (DigitsAre (suc most) limit) [] (1 ∷ []) s (left_of ℕ (record { code = Short; left = 0 }) s e) (one_is most limit h) (omega arith)
digits_complete (suc most) limit (b ∷ bytes) s o h p e =
    elim (cases_lt b 128) [
      | inl l ↦
          let e1 = sym (if_true (nat_lt b 128) _ _ (lt-ltb b 128 l)) ∙ e in
          elim (cases_Bool (leb b limit && not (eqb b 0))) [
            | inl t ↦ absurd (found_not b bytes s (sym (if_true (nat_le b limit && not (nat_eq b 0)) _ _ t) ∙ e1))
            | inr t ↦ here (sym (if_false (nat_le b limit && not (nat_eq b 0)) _ _ t) ∙ e1)
          ]
      | inr l ↦
          let e1 = sym (if_false (nat_lt b 128) _ _ (le-ltb b 128 l)) ∙ e in
          elim (cases_lt limit 128) [
            | inl m ↦ here (sym (if_true (nat_lt limit 128) _ _ (lt-ltb limit 128 m)) ∙ e1)
            | inr m ↦ elim (after_err (digits_at (limit / 128) bytes) (λ high. Ok (b - 128 + 128 * high.0, high.1)) s (sym (if_false (nat_lt limit 128) _ _ (le-ltb limit 128 m)) ∙ e1)) [
              | inr z ↦ absurd (found_not _ _ s z.2)
              | inl z ↦
                  let g = higher o m in
                  within (DigitsAre (suc most) limit) (DigitsAre most (limit / 128)) (b ∷ []) (b ∷ bytes) bytes s refl
                  (digits_complete most (limit / 128) bytes s g.1 (omega arith) p.1 z) (λ w q. ([], longer l g.0 w q))
            ]
          ]
    ]
  where
    here : refused {A = ℕ} NotCanonical (b ∷ bytes) ≡ stopped s → Completes (DigitsAre (suc most) limit) (b ∷ bytes) s
    here z = from_start (DigitsAre (suc most) limit) (b ∷ bytes) (1 ∷ []) s (left_of ℕ (record { code = NotCanonical; left = length (b ∷ bytes) }) s z) (one_is most limit h) (omega arith)

    higher : (limit < 128) ⊎ ((limit % 128 ≡ 127) × Ones most (limit / 128)) → 128 ≤ limit → (limit % 128 ≡ 127) × Ones most (limit / 128)
    higher (inl h) g = absurd (omega arith)
    higher (inr h) g = h

    longer : 128 ≤ b → limit % 128 ≡ 127 → (w : List ℕ) → DigitsAre most (limit / 128) w → DigitsAre (suc most) limit (b ∷ (w ++ []))
    longer l g w q =
        let n : ℕ = b - 128 + 128 * q.0 in
        let high : (b - 128 + 128 * q.0) / 128 ≡ q.0 = omega (arith, p.0, l) in
        let low : (b - 128 + 128 * q.0) % 128 + 128 ≡ b = omega (arith, p.0, l) in (
          b - 128 + 128 * q.0,
          omega (arith, q.1),
          omega (arith, q.2, g, p.0, l),
          digits_more most (b - 128 + 128 * q.0) (omega (arith, q.1))
              ∙ (ap (λ x. x ∷ digits most ((b - 128 + 128 * q.0) / 128)) low ∙ (ap (λ x. b ∷ digits most x) high ∙ (ap (λ x. b ∷ x) q.3 ∙ ap (λ x. b ∷ x) (sym (append-nil w))))),
        )

abbrev pub NumberIs : List ℕ → Type 0
NumberIs l = (n : ℕ) × (n < 2 ^ 32) × (spelled_number n ≡ l)

pub number_complete : (bytes : List ℕ) (s : Stop) → IsBytes bytes → number_at bytes ≡ stopped s → Completes NumberIs bytes s
unfolding number_at
number_complete [] s p e = from_start NumberIs [] (1 ∷ []) s (left_of ℕ (record { code = Short; left = 0 }) s e) (1, omega arith, refl) (omega arith)
number_complete (b ∷ bytes) s p e =
    elim (cases_eq b 0) [
      | inl z ↦ absurd (found_not 0 bytes s (sym (if_true (nat_eq b 0) _ _ (eq-eqb b 0 z)) ∙ e))
      | inr z ↦
          within NumberIs (DigitsAre 10 4294967295) [] (b ∷ bytes) (b ∷ bytes) s refl
          (digits_complete 10 4294967295 (b ∷ bytes) s number_ones (omega arith) p (sym (if_false (nat_eq b 0) _ _ (ne_eqb b 0 z)) ∙ e))
          (λ l q. ([], (q.0, omega (arith, q.2), q.3 ∙ sym (append-nil l))))
    ]

abbrev pub TextIs : List ℕ → Type 0
TextIs l = (t : List ℕ) × (0 < length t) × (length t < 256) × (spelled_number (length t) ++ t ≡ l)

-- a text of so many bytes that begins so
text_from : (n : ℕ) (start : List ℕ) → 0 < n → n ≤ 255 → length start ≤ n → TextIs (spelled_number n ++ (start ++ replicate (n - length start) 0))
text_from n start p q h =
    let len : length (start ++ replicate (n - length start) 0) ≡ n = omega (arith, length-append start (replicate (n - length start) 0), length-replicate {A = ℕ} (n - length start) 0) in
    (start ++ replicate (n - length start) 0, omega (arith, len), omega (arith, len), ap (λ k. spelled_number k ++ (start ++ replicate (n - length start) 0)) len)

text_complete : (bytes : List ℕ) (s : Stop) → IsBytes bytes → text_at bytes ≡ stopped s → Completes TextIs bytes s
unfolding text_at
text_complete bytes s p e =
    elim (after_err (digits_at 255 bytes) (λ n. cond (nat_lt (length n.1) n.0) short (Ok (take n.0 n.1, drop n.0 n.1))) s e) [
      | inl z ↦
          within TextIs (DigitsAre 10 255) [] bytes bytes s refl (digits_complete 10 255 bytes s text_ones (omega arith) p z)
          (λ l q. (replicate (q.0 - 0) 0, subst (λ y. TextIs (y ++ replicate (q.0 - 0) 0)) q.3 (text_from q.0 [] q.1 (omega (arith, q.2)) (omega arith))))
      | inr z ↦ elim (cases_lt (length z.0.1) z.0.0) [
        | inl l ↦
            let i = digits_take 10 255 bytes z.0.0 z.0.1 text_ones p z.1 in
            record {
              front = bytes;
              back = [];
              more = replicate (z.0.0 - length z.0.1) 0;
              parts = sym (append-nil bytes);
              left = left_of (List ℕ) (record { code = Short; left = 0 }) s (sym (if_true (nat_lt (length z.0.1) z.0.0) _ _ (lt-ltb (length z.0.1) z.0.0 l)) ∙ z.2);
              whole = subst TextIs (sym (append_assoc (spelled_number z.0.0) z.0.1 (replicate (z.0.0 - length z.0.1) 0)) ∙ ap (λ y. y ++ replicate (z.0.0 - length z.0.1) 0) (sym i.2)) (text_from z.0.0 z.0.1 i.0 (omega (arith, i.1)) (omega arith));
              longer = omega (arith, length-replicate {A = ℕ} (z.0.0 - length z.0.1) 0);
            }
        | inr l ↦ absurd (found_not _ _ s (sym (if_false (nat_lt (length z.0.1) z.0.0) _ _ (le-ltb (length z.0.1) z.0.0 l)) ∙ z.2))
      ]
    ]

-- digits end with one
pub digits_end : (most n : ℕ) → InDigits most n → (front : List ℕ) × (b : ℕ) × (digits most n ≡ front ++ (b ∷ []))
digits_end zero n i = absurd i
digits_end (suc most) n i =
    elim (cases_lt n 128) [
      | inl l ↦ ([], n, digits_last most n l)
      | inr l ↦ let r = digits_end most (n / 128) (higher i l) in ((n % 128 + 128) ∷ r.0, r.1, digits_more most n l ∙ ap (λ z. (n % 128 + 128) ∷ z) r.2)
    ]
  where
    higher : (n < 128) ⊎ InDigits most (n / 128) → 128 ≤ n → InDigits most (n / 128)
    higher (inl h) g = absurd (omega arith)
    higher (inr h) g = h

count_complete : (bytes : List ℕ) (s : Stop) → IsBytes bytes → count_at bytes ≡ stopped s → Completes NumberIs bytes s
unfolding count_at
count_complete bytes s p e =
    elim (after_err (number_at bytes) (λ n. cond (nat_lt 65536 n.0) (Err (record { code = FormLimit; left = length n.1 + 1 })) (Ok n)) s e) [
      | inl z ↦ number_complete bytes s p z
      | inr z ↦ elim (cases_lt 65536 z.0.0) [
        | inl l ↦
            let i = number_take bytes z.0.0 z.0.1 p z.1 in
            let d = digits_end 10 z.0.0 (in_ten z.0.0 i.0) in
            record {
              front = d.0;
              back = d.1 ∷ z.0.1;
              more = d.1 ∷ [];
              parts = i.1 ∙ (ap (λ y. y ++ z.0.1) d.2 ∙ append_assoc d.0 (d.1 ∷ []) z.0.1);
              left = left_of ℕ (record { code = FormLimit; left = length z.0.1 + 1 }) s (sym (if_true (nat_lt 65536 z.0.0) _ _ (lt-ltb 65536 z.0.0 l)) ∙ z.2) ∙ omega arith;
              whole = (z.0.0, i.0, d.2);
              longer = omega arith;
            }
        | inr l ↦ absurd (found_not _ _ s (sym (if_false (nat_lt 65536 z.0.0) _ _ (le-ltb 65536 z.0.0 l)) ∙ z.2))
      ]
    ]

-- ---- forms

pub class_example : Class → Tree
class_example Class.Term = tagged 0 nothing
class_example Class.Evidence = tagged 0 (number 0)
class_example Class.Stat = tagged 6 nothing
class_example Class.Expr = tagged 2 nothing
class_example Class.Place = tagged 1 nothing

pub class_is : (c : Class) → IsForm (class_example c) (grammar c)
unfolding class_example
class_is Class.Term = search depth 40
class_is Class.Evidence = search (arith) depth 40
class_is Class.Stat = search depth 40
class_is Class.Expr = search depth 40
class_is Class.Place = search depth 40

-- a short tree of a form
pub example : Form → Tree
example unit = nothing
example (exactly c n) = byte n
example (range low high) = byte low
example num = number 0
example name = text (0 ∷ [])
example (f ▹ g) = example f ▸ example g
example (tag n f) = tagged n (example f)
example (alt n f g) = tagged n (example f)
example (list f) = many end
example (part c) = nested (class_example c)

-- each range has a byte
abbrev pub HasExample : Form → Type 0
HasExample (range low high) = low ≤ high
HasExample (f ▹ g) = HasExample f × HasExample g
HasExample (tag n f) = HasExample f
HasExample (alt n f g) = HasExample f × HasExample g
HasExample (list f) = HasExample f
HasExample _ = ⊤

abbrev pub IsChosen : Option Form → Tree → Type 0
IsChosen o x = IsSomeAnd o (λ g. IsForm x g)

pub own_choice : (n : ℕ) (g : Form) (o : Option Form) (x : Tree) → IsForm x g → IsChosen (cond (nat_eq n n) (Some g) o) x
own_choice n g o x p = subst (λ c. IsChosen (cond c (Some g) o) x) (sym (eq-eqb n n refl)) p

pub example_is : (f : Form) → HasExample f → IsForm (example f) f
unfolding example
example_is unit h = tt
example_is (exactly c n) h = refl
example_is (range low high) h = (omega arith, h)
example_is num h = omega arith
example_is name h = (omega arith, omega arith)
example_is (f ▹ g) h = (example_is f h.0, example_is g h.1)
example_is (tag n f) h = own_choice n f None (example f) (example_is f h)
example_is (alt n f g) h = own_choice n f (chosen g n) (example f) (example_is f h.0)
example_is (list f) h = (omega arith, tt)
example_is (part c) h = class_is c

-- so many examples
pub examples : Form → ℕ → Tree
examples f zero = end
examples f (suc n) = example f ⨾ examples f n

pub examples_are : (f : Form) (n : ℕ) → HasExample f → AreForm (examples f n) f × (size (examples f n) ≡ n)
unfolding examples
examples_are f zero h = (tt, refl)
examples_are f (suc n) h = let i = examples_are f n h in ((example_is f h, i.0), ap suc i.1)

abbrev pub Is : Form → List ℕ → Type 0
Is f l = (x : Tree) × IsForm x f × (spelling x ≡ l)

abbrev pub AreItems : Form → ℕ → List ℕ → Type 0
AreItems f n l = (x : Tree) × AreForm x f × (size x ≡ n) × (spelling x ≡ l)

abbrev pub NestedComplete : ℕ → Type 0
NestedComplete d = (c : Class) (bytes : List ℕ) (s : Stop) → IsBytes bytes → nested_at d c bytes ≡ stopped s → Completes (Is (grammar c)) bytes s

-- a choice that is passed by: from the first byte on it is the other, and before it anything
passed : (n : ℕ) (f g : Form) (b : ℕ) (bytes : List ℕ) (s : Stop) → HasExample f → (b ≡ n → ⊥) → IsChoice g → Completes (Is g) (b ∷ bytes) s → Completes (Is (alt n f g)) (b ∷ bytes) s
unfolding example
passed n f g b bytes s h z c r = go r.front r.parts r.whole
  where
    convert : (x : Tree) (l : List ℕ) → IsForm x g → spelling x ≡ b ∷ l → IsForm x (alt n f g)
    convert x l p e = turn g c x p e
      where
        turn : (g : Form) → IsChoice g → (x : Tree) → IsForm x g → spelling x ≡ b ∷ l → IsForm x (alt n f g)
        turn (tag m t) c (tagged k y) p e = let i = (heads e).0 in subst (λ o. IsChosen (cond o (Some f) (chosen (tag m t) k)) y) (sym (ne_eqb k n (λ q. z (sym i ∙ q)))) p
        turn (alt m t u) c (tagged k y) p e = let i = (heads e).0 in subst (λ o. IsChosen (cond o (Some f) (chosen (alt m t u) k)) y) (sym (ne_eqb k n (λ q. z (sym i ∙ q)))) p
        turn (tag m t) c _ p e = elim p [ ]
        turn (alt m t u) c _ p e = elim p [ ]
        turn _ c x p e = elim c [ ]

    go : (front : List ℕ) → b ∷ bytes ≡ front ++ r.back → Is g (front ++ r.more) → Completes (Is (alt n f g)) (b ∷ bytes) s
    go [] e w = from_start (Is (alt n f g)) (b ∷ bytes) (n ∷ spelling (example f)) s (r.left ∙ ap length (sym e)) (tagged n (example f), own_choice n f (chosen g n) (example f) (example_is f h), refl) (omega arith)
    go (d ∷ front) e w =
        let i = (heads e).0 in
        record {
          front = d ∷ front;
          back = r.back;
          more = r.more;
          parts = e;
          left = r.left;
          whole = (w.0, convert w.0 (front ++ r.more) w.1 (w.2 ∙ ap (λ k. k ∷ (front ++ r.more)) (sym i)), w.2);
          longer = r.longer;
        }

spelled_some : (n : ℕ) → 0 < length (spelled_number n)
spelled_some n =
    elim (cases_lt n 128) [
      | inl l ↦ subst (λ z. 0 < length z) (sym (digits_last 9 n l)) (omega arith)
      | inr l ↦ subst (λ z. 0 < length z) (sym (digits_more 9 n l)) (omega arith)
    ]

module _ (d : ℕ) (inner : NestedComplete d) where
  items_complete : (f : Form) → IsSound f → HasExample f → ((bytes : List ℕ) (s : Stop) → IsBytes bytes → form_at (nested_at d) f bytes ≡ stopped s → Completes (Is f) bytes s)
      → (n : ℕ) (bytes : List ℕ) (s : Stop) → IsBytes bytes → items_at (form_at (nested_at d) f) n bytes ≡ stopped s → Completes (AreItems f n) bytes s
  unfolding items_at
  items_complete f so h each zero bytes s p e = absurd (found_not end bytes s e)
  items_complete f so h each (suc n) bytes s p e =
      elim (after_err (form_at (nested_at d) f bytes) (λ x. after (items_at (form_at (nested_at d) f) n x.1) (λ xs. Ok (x.0 ⨾ xs.0, xs.1))) s e) [
        | inl z ↦
            let more = examples_are f n h in
            within (AreItems f (suc n)) (Is f) [] bytes bytes s refl (each bytes s p z)
            (λ l q. (spelling (examples f n), (q.0 ⨾ examples f n, (q.1, more.0), ap suc more.1, ap (λ y. y ++ spelling (examples f n)) q.2)))
        | inr z ↦
            let t = takes d f bytes z.0.0 z.0.1 so p z.1 in
            elim (after_err (items_at (form_at (nested_at d) f) n z.0.1) (λ xs. Ok (z.0.0 ⨾ xs.0, xs.1)) s z.2) [
              | inl y ↦
                  within (AreItems f (suc n)) (AreItems f n) (spelling z.0.0) bytes z.0.1 s t.parts
                  (items_complete f so h each n z.0.1 s (rest_bytes bytes (spelling z.0.0) z.0.1 p t.parts) y)
                  (λ l q. ([], (z.0.0 ⨾ q.0, (t.form, q.1), ap suc q.2, ap (λ y. spelling z.0.0 ++ y) (q.3 ∙ sym (append-nil l)))))
              | inr y ↦ absurd (found_not _ _ s y.2)
            ]
      ]

  form_complete : (f : Form) (bytes : List ℕ) (s : Stop) → IsSound f → HasExample f → IsBytes bytes → form_at (nested_at d) f bytes ≡ stopped s → Completes (Is f) bytes s
  unfolding form_at example
  form_complete unit bytes s so h p e = absurd (found_not nothing bytes s e)
  form_complete (exactly c n) [] s so h p e = from_start (Is (exactly c n)) [] (n ∷ []) s (left_of Tree (record { code = Short; left = 0 }) s e) (byte n, refl, refl) (omega arith)
  form_complete (exactly c n) (b ∷ bytes) s so h p e =
      elim (cases_eq b n) [
        | inl z ↦ absurd (found_not (byte b) bytes s (sym (if_true (nat_eq b n) _ _ (eq-eqb b n z)) ∙ e))
        | inr z ↦
            from_start (Is (exactly c n)) (b ∷ bytes) (n ∷ []) s (left_of Tree (record { code = c; left = length (b ∷ bytes) }) s (sym (if_false (nat_eq b n) _ _ (ne_eqb b n z)) ∙ e)) (byte n, refl, refl) (omega arith)
      ]
  form_complete (range low high) [] s so h p e = from_start (Is (range low high)) [] (low ∷ []) s (left_of Tree (record { code = Short; left = 0 }) s e) (byte low, (omega arith, h), refl) (omega arith)
  form_complete (range low high) (b ∷ bytes) s so h p e =
      elim (cases_Bool (leb low b && leb b high)) [
        | inl z ↦ absurd (found_not (byte b) bytes s (sym (if_true (nat_le low b && nat_le b high) _ _ z) ∙ e))
        | inr z ↦
            from_start (Is (range low high)) (b ∷ bytes) (low ∷ []) s (left_of Tree (record { code = NotCanonical; left = length (b ∷ bytes) }) s (sym (if_false (nat_le low b && nat_le b high) _ _ z) ∙ e))
            (byte low, (omega arith, h), refl) (omega arith)
      ]
  form_complete num bytes s so h p e =
      elim (after_err (number_at bytes) (λ n. Ok (number n.0, n.1)) s e) [
        | inl z ↦ within (Is num) NumberIs [] bytes bytes s refl (number_complete bytes s p z) (λ l q. ([], (number q.0, q.1, q.2 ∙ sym (append-nil l))))
        | inr z ↦ absurd (found_not _ _ s z.2)
      ]
  form_complete name bytes s so h p e =
      elim (after_err (text_at bytes) (λ n. Ok (text n.0, n.1)) s e) [
        | inl z ↦ within (Is name) TextIs [] bytes bytes s refl (text_complete bytes s p z) (λ l q. ([], (text q.0, (q.1, q.2), q.3 ∙ sym (append-nil l))))
        | inr z ↦ absurd (found_not _ _ s z.2)
      ]
  form_complete (f ▹ g) bytes s so h p e =
      elim (after_err (form_at (nested_at d) f bytes) (λ x. after (form_at (nested_at d) g x.1) (λ y. Ok (x.0 ▸ y.0, y.1))) s e) [
        | inl z ↦
            within (Is (f ▹ g)) (Is f) [] bytes bytes s refl (form_complete f bytes s so.0 h.0 p z)
            (λ l q. (spelling (example g), (q.0 ▸ example g, (q.1, example_is g h.1), ap (λ y. y ++ spelling (example g)) q.2)))
        | inr z ↦
            let t = takes d f bytes z.0.0 z.0.1 so.0 p z.1 in
            elim (after_err (form_at (nested_at d) g z.0.1) (λ y. Ok (z.0.0 ▸ y.0, y.1)) s z.2) [
              | inl y ↦
                  within (Is (f ▹ g)) (Is g) (spelling z.0.0) bytes z.0.1 s t.parts
                  (form_complete g z.0.1 s so.1 h.1 (rest_bytes bytes (spelling z.0.0) z.0.1 p t.parts) y)
                  (λ l q. ([], (z.0.0 ▸ q.0, (t.form, q.1), ap (λ y. spelling z.0.0 ++ y) (q.2 ∙ sym (append-nil l)))))
              | inr y ↦ absurd (found_not _ _ s y.2)
            ]
      ]
  form_complete (tag n f) [] s so h p e =
      from_start (Is (tag n f)) [] (n ∷ spelling (example f)) s (left_of Tree (record { code = Short; left = 0 }) s e) (tagged n (example f), own_choice n f None (example f) (example_is f h), refl) (omega arith)
  form_complete (tag n f) (b ∷ bytes) s so h p e =
      elim (cases_eq b n) [
        | inl z ↦ elim (after_err (form_at (nested_at d) f bytes) (λ x. Ok (tagged b x.0, x.1)) s (sym (if_true (nat_eq b n) _ _ (eq-eqb b n z)) ∙ e)) [
          | inl y ↦
              within (Is (tag n f)) (Is f) (b ∷ []) (b ∷ bytes) bytes s refl (form_complete f bytes s so h p.1 y)
              (λ l q. ([], (tagged n q.0, own_choice n f None q.0 q.1, ap (λ k. k ∷ spelling q.0) (sym z) ∙ ap (λ y. b ∷ y) (q.2 ∙ sym (append-nil l)))))
          | inr y ↦ absurd (found_not _ _ s y.2)
        ]
        | inr z ↦
            from_start (Is (tag n f)) (b ∷ bytes) (n ∷ spelling (example f)) s (left_of Tree (record { code = NotCanonical; left = length (b ∷ bytes) }) s (sym (if_false (nat_eq b n) _ _ (ne_eqb b n z)) ∙ e))
            (tagged n (example f), own_choice n f None (example f) (example_is f h), refl) (omega arith)
      ]
  form_complete (alt n f g) [] s so h p e =
      from_start (Is (alt n f g)) [] (n ∷ spelling (example f)) s (left_of Tree (record { code = Short; left = 0 }) s e) (tagged n (example f), own_choice n f (chosen g n) (example f) (example_is f h.0), refl) (omega arith)
  form_complete (alt n f g) (b ∷ bytes) s so h p e =
      elim (cases_eq b n) [
        | inl z ↦ elim (after_err (form_at (nested_at d) f bytes) (λ x. Ok (tagged b x.0, x.1)) s (sym (if_true (nat_eq b n) _ _ (eq-eqb b n z)) ∙ e)) [
          | inl y ↦
              within (Is (alt n f g)) (Is f) (b ∷ []) (b ∷ bytes) bytes s refl (form_complete f bytes s so.0 h.0 p.1 y)
              (λ l q. ([], (tagged n q.0, own_choice n f (chosen g n) q.0 q.1, ap (λ k. k ∷ spelling q.0) (sym z) ∙ ap (λ y. b ∷ y) (q.2 ∙ sym (append-nil l)))))
          | inr y ↦ absurd (found_not _ _ s y.2)
        ]
        | inr z ↦ passed n f g b bytes s h.0 z so.2 (form_complete g (b ∷ bytes) s so.1 h.1 p (sym (if_false (nat_eq b n) _ _ (ne_eqb b n z)) ∙ e))
      ]
  form_complete (list f) bytes s so h p e =
      elim (after_err (count_at bytes) (λ n. after (items_at (form_at (nested_at d) f) n.0 n.1) (λ xs. Ok (many xs.0, xs.1))) s e) [
        | inl z ↦
            within (Is (list f)) NumberIs [] bytes bytes s refl (count_complete bytes s p z)
            (λ l q.
            let more = examples_are f q.0 h in
            (spelling (examples f q.0), (many (examples f q.0), (omega (arith, more.1, q.1), more.0), ap (λ k. spelled_number k ++ spelling (examples f q.0)) more.1 ∙ ap (λ y. y ++ spelling (examples f q.0)) q.2)))
        | inr z ↦
            let i = count_take bytes z.0.0 z.0.1 p z.1 in
            elim (after_err (items_at (form_at (nested_at d) f) z.0.0 z.0.1) (λ xs. Ok (many xs.0, xs.1)) s z.2) [
              | inl y ↦
                  within (Is (list f)) (AreItems f z.0.0) (spelled_number z.0.0) bytes z.0.1 s i.1
                  (items_complete f so h (λ bytes s q v. form_complete f bytes s so h q v) z.0.0 z.0.1 s (rest_bytes bytes (spelled_number z.0.0) z.0.1 p i.1) y)
                  (λ l q. ([], (many q.0, (omega (arith, q.2, i.0), q.1), ap (λ k. spelled_number k ++ spelling q.0) q.2 ∙ ap (λ y. spelled_number z.0.0 ++ y) (q.3 ∙ sym (append-nil l)))))
              | inr y ↦ absurd (found_not _ _ s y.2)
            ]
      ]
  form_complete (part c) bytes s so h p e =
      elim (after_err (nested_at d c bytes) (λ x. Ok (nested x.0, x.1)) s e) [
        | inl z ↦ within (Is (part c)) (Is (grammar c)) [] bytes bytes s refl (inner c bytes s p z) (λ l q. ([], (nested q.0, q.1, q.2 ∙ sym (append-nil l))))
        | inr z ↦ absurd (found_not _ _ s z.2)
      ]

pub grammar_example : (c : Class) → HasExample (grammar c)
grammar_example Class.Term = search (arith) depth 60
grammar_example Class.Evidence = search (arith) depth 60
grammar_example Class.Stat = search (arith) depth 60
grammar_example Class.Expr = search (arith) depth 60
grammar_example Class.Place = search (arith) depth 60

class_some : (c : Class) → 0 < length (spelling (class_example c))
unfolding class_example
class_some Class.Term = omega arith
class_some Class.Evidence = omega arith
class_some Class.Stat = omega arith
class_some Class.Expr = omega arith
class_some Class.Place = omega arith

nested_complete : (d : ℕ) → NestedComplete d
unfolding nested_at
nested_complete zero c [] s p e = from_start (Is (grammar c)) [] (spelling (class_example c)) s (left_of Tree (record { code = Short; left = 0 }) s e) (class_example c, class_is c, refl) (class_some c)
nested_complete zero c (b ∷ bytes) s p e =
    from_start (Is (grammar c)) (b ∷ bytes) (spelling (class_example c)) s (left_of Tree (record { code = FormLimit; left = length (b ∷ bytes) }) s e) (class_example c, class_is c, refl) (class_some c)
nested_complete (suc d) c bytes s p e = form_complete d (nested_complete d) (grammar c) bytes s (grammar_sound c) (grammar_example c) p e

pub completes : (d : ℕ) (f : Form) (bytes : List ℕ) (s : Stop) → IsSound f → HasExample f → IsBytes bytes → form_at (nested_at d) f bytes ≡ stopped s → Completes (Is f) bytes s
completes d f bytes s so h p e = form_complete d (nested_complete d) f bytes s so h p e
