-- What is spelled is read again, whatever follows.
use Rattle.std.proofs.Common.{◌≡◌, ℕ, zero, suc, ◌+◌, ◌-◌, ◌*◌, ◌/◌, ◌%◌, ◌^◌, ◌<◌, ◌≤◌, ◌⊎◌, inl, inr, Bool, true, false, Some, None, List, ◌∷◌, ◌++◌, length, Ok, cond, ltb, refl, sym, ap, ◌∙◌, append_assoc, arith}
use Rattle.std.specs.Prelude.{nat_eq}
use Rattle.std.proofs.lemmas.Bool.{cases_lt, cases_eq, lt-ltb, le-ltb, le-leb, ne_eqb, eq-eqb}
use Rattle.std.proofs.lemmas.List.{take_at, drop_at, length-append}
use Rattle.form_grammar.specs.Trees.{Tree, nothing, byte, number, text, ◌▸◌, tagged, nested, many, end, ◌⨾◌, size, spelling, spelled_number, digits}
use Rattle.form_grammar.specs.Grammar.{Form, Class, unit, exactly, range, num, name, ◌▹◌, tag, alt, list, part, chosen, grammar}
use Rattle.form_grammar.specs.Numbers.{after, digits_at, number_at, text_at, count_at}
use Rattle.form_grammar.specs.Reading.{Reader, form_at, nested_at, items_at, behind}
use Rattle.form_laws.specs.Forms.{IsForm, AreForm, Fits}
use Rattle.form_laws.proofs.Same.{InDigits, in_ten, digits_last, digits_more, inv_tagged}

pub if_true : {A : Type 0} (b : Bool) (x y : A) → b ≡ true → cond b x y ≡ x
if_true b x y e = ap (λ c. cond c x y) e

pub if_false : {A : Type 0} (b : Bool) (x y : A) → b ≡ false → cond b x y ≡ y
if_false b x y e = ap (λ c. cond c x y) e

digit_again : (limit n : ℕ) (rest : List ℕ) → n < 128 → 0 < n → n ≤ limit → digits_at limit (n ∷ rest) ≡ Ok (n, rest)
unfolding digits_at
digit_again limit n rest h p q = rw (lt-ltb n 128 h, le-leb n limit q, ne_eqb n 0 (λ e. omega arith)) refl

high_again : (limit n : ℕ) (rest bytes : List ℕ) → 128 ≤ n → n ≤ limit → digits_at (limit / 128) bytes ≡ Ok (n / 128, rest) → digits_at limit ((n % 128 + 128) ∷ bytes) ≡ Ok (n, rest)
unfolding digits_at after
high_again limit n rest bytes h q e =
    let v : n % 128 + 128 - 128 + 128 * (n / 128) ≡ n = omega arith in
    rw (le-ltb (n % 128 + 128) 128 (omega arith), le-ltb limit 128 (omega arith), e) (ap (λ k. Ok (k, rest)) v)

digits_again : (most limit n : ℕ) (rest : List ℕ) → InDigits most n → 0 < n → n ≤ limit → digits_at limit (digits most n ++ rest) ≡ Ok (n, rest)
digits_again zero limit n rest i p q = absurd i
digits_again (suc most) limit n rest i p q =
    elim (cases_lt n 128) [
      | inl l ↦ ap (λ b. digits_at limit (b ++ rest)) (digits_last most n l) ∙ digit_again limit n rest l p q
      | inr l ↦
          ap (λ b. digits_at limit (b ++ rest)) (digits_more most n l)
          ∙ high_again limit n rest (digits most (n / 128) ++ rest) l q (digits_again most (limit / 128) (n / 128) rest (higher i l) (omega arith) (omega arith))
    ]
  where
    higher : (n < 128) ⊎ InDigits most (n / 128) → 128 ≤ n → InDigits most (n / 128)
    higher (inl h) g = absurd (omega arith)
    higher (inr h) g = h

-- the first byte of a number that is not 0 is not 0
first_digit : (n : ℕ) (rest : List ℕ) → 0 < n → number_at (spelled_number n ++ rest) ≡ digits_at 4294967295 (spelled_number n ++ rest)
unfolding number_at
first_digit n rest p =
    elim (cases_lt n 128) [
      | inl l ↦ ap (λ b. number_at (b ++ rest)) (digits_last 9 n l) ∙ (if_false (nat_eq n 0) _ _ (ne_eqb n 0 (λ e. omega arith)) ∙ ap (λ b. digits_at 4294967295 (b ++ rest)) (sym (digits_last 9 n l)))
      | inr l ↦ ap (λ b. number_at (b ++ rest)) (digits_more 9 n l) ∙ (if_false (nat_eq (n % 128 + 128) 0) _ _ (ne_eqb (n % 128 + 128) 0 (λ e. omega arith)) ∙ ap (λ b. digits_at 4294967295 (b ++ rest)) (sym (digits_more 9 n l)))
    ]

pub number_again : (n : ℕ) (rest : List ℕ) → n < 2 ^ 32 → number_at (spelled_number n ++ rest) ≡ Ok (n, rest)
unfolding number_at
number_again zero rest h = refl
number_again (suc n) rest h = first_digit (suc n) rest (omega arith) ∙ digits_again 10 4294967295 (suc n) rest (in_ten (suc n) h) (omega arith) (omega arith)

text_again : (bytes rest : List ℕ) → 0 < length bytes → length bytes < 256 → text_at (spelled_number (length bytes) ++ bytes ++ rest) ≡ Ok (bytes, rest)
unfolding text_at after
text_again bytes rest p q =
    let e : digits_at 255 (spelled_number (length bytes) ++ bytes ++ rest) ≡ Ok (length bytes, bytes ++ rest) =
    ap (digits_at 255) (append_assoc (spelled_number (length bytes)) bytes rest) ∙ digits_again 10 255 (length bytes) (bytes ++ rest) (in_ten (length bytes) (omega arith)) p (omega arith) in
    let long : ltb (length (bytes ++ rest)) (length bytes) ≡ false = le-ltb _ _ (omega (arith, length-append bytes rest)) in
    rw (e, long, take_at bytes rest (length bytes) refl, drop_at bytes rest (length bytes) refl) refl

count_again : (n : ℕ) (rest : List ℕ) → n ≤ 65536 → count_at (spelled_number n ++ rest) ≡ Ok (n, rest)
unfolding count_at after
count_again n rest h = rw (number_again n rest (omega arith), le-ltb 65536 n h) refl

-- what stands behind a tag is read by the form that the tag chooses
pub chosen_at : (inner : Class → Reader) (f g : Form) (k : ℕ) (bytes : List ℕ) → chosen f k ≡ Some g → form_at inner f (k ∷ bytes) ≡ behind inner k g bytes
unfolding form_at
chosen_at inner (tag n h) g k bytes e =
    elim (cases_eq k n) [
      | inl i ↦ if_true (nat_eq k n) _ _ (eq-eqb k n i) ∙ ap (λ z. behind inner k z bytes) (some_is (sym (if_true (nat_eq k n) _ _ (eq-eqb k n i)) ∙ e))
      | inr i ↦ absurd (none_is (sym (if_false (nat_eq k n) _ _ (ne_eqb k n i)) ∙ e))
    ]
  where
    some_is : {x y : Form} → Some x ≡ Some y → x ≡ y
    some_is p = cc

    none_is : {y : Form} → None ≡ Some y → ⊥
    none_is p = absurd cc
chosen_at inner (alt n h t) g k bytes e =
    elim (cases_eq k n) [
      | inl i ↦ if_true (nat_eq k n) _ _ (eq-eqb k n i) ∙ ap (λ z. behind inner k z bytes) (some_is (sym (if_true (nat_eq k n) _ _ (eq-eqb k n i)) ∙ e))
      | inr i ↦ if_false (nat_eq k n) _ _ (ne_eqb k n i) ∙ chosen_at inner t g k bytes (sym (if_false (nat_eq k n) _ _ (ne_eqb k n i)) ∙ e)
    ]
  where
    some_is : {x y : Form} → Some x ≡ Some y → x ≡ y
    some_is p = cc
chosen_at inner _ g k bytes e = absurd (go e)
  where
    go : {y : Form} → None ≡ Some y → ⊥
    go p = absurd cc

mutual
  unfolding form_at after nested_at items_at

  pub form_again : (x : Tree) (f : Form) (d : ℕ) (rest : List ℕ) → IsForm x f → Fits x d → form_at (nested_at d) f (spelling x ++ rest) ≡ Ok (x, rest)
  form_again nothing unit d rest p q = refl
  form_again (byte b) (exactly c n) d rest p q = if_true (nat_eq b n) _ _ (eq-eqb b n p)
  form_again (byte b) (range low high) d rest p q = rw (le-leb low b p.0, le-leb b high p.1) refl
  form_again (number n) num d rest p q = rw (number_again n rest p) refl
  form_again (text bytes) name d rest p q = rw (text_again bytes rest p.0 p.1) refl
  form_again (x ▸ y) (f ▹ g) d rest p q =
      ap (form_at (nested_at d) (f ▹ g)) (append_assoc (spelling x) (spelling y) rest) ∙ rw (form_again x f d (spelling y ++ rest) p.0 q.0, form_again y g d rest p.1 q.1) refl
  form_again (many xs) (list f) d rest p q =
      ap (form_at (nested_at d) (list f)) (append_assoc (spelled_number (size xs)) (spelling xs) rest)
      ∙ rw (count_again (size xs) (spelling xs ++ rest) q.0, items_again xs f d rest p.1 q.1) refl
  form_again (nested x) (part c) zero rest p q = absurd q
  form_again (nested x) (part c) (suc d) rest p q = rw (form_again x (grammar c) d rest p q) refl
  form_again (tagged k x) f d rest p q =
      let i = inv_tagged k x f p in
      chosen_at (nested_at d) f i.0 k (spelling x ++ rest) i.1 ∙ rw (form_again x i.0 d rest i.2 q) refl
  form_again _ _ d rest p q = elim p [ ]

  pub items_again : (xs : Tree) (f : Form) (d : ℕ) (rest : List ℕ) → AreForm xs f → Fits xs d → items_at (form_at (nested_at d) f) (size xs) (spelling xs ++ rest) ≡ Ok (xs, rest)
  items_again end f d rest p q = refl
  items_again (x ⨾ xs) f d rest p q =
      ap (items_at (form_at (nested_at d) f) (suc (size xs))) (append_assoc (spelling x) (spelling xs) rest)
      ∙ rw (form_again x f d (spelling xs ++ rest) p.0 q.0, items_again xs f d rest p.1 q.1) refl
  items_again _ f d rest p q = elim p [ ]
