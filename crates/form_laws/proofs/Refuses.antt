-- Where a byte is refused, nothing spelled begins with the bytes up to it.
use Rattle.std.proofs.Common.{◌≡◌, ℕ, zero, suc, ◌+◌, ◌-◌, ◌*◌, ◌/◌, ◌^◌, ◌<◌, ◌≤◌, ◌⊎◌, inl, inr, true, false, not, ◌&&◌, Option, Some, None, List, [], ◌∷◌, ◌++◌, length, take, drop, Ok, Err, cond, leb, eqb, refl, sym, ap, subst, ◌∙◌, append_assoc, arith}
use Rattle.std.specs.Prelude.{nat_eq, nat_lt, nat_le, IsSomeAnd}
use Rattle.std.proofs.lemmas.Bool.{cases_lt, cases_eq, cases_Bool, lt-ltb, le-ltb, le-leb, ne_eqb, eq-eqb, and_from}
use Rattle.slang_names.specs.declared.form_codes.FormCode.{FormCode}
use Rattle.slang_names.specs.declared.form_codes.FormCode.TheVariants.{Short, NotCanonical, FormLimit}
use Rattle.form_grammar.specs.declared.codes.Stop.{Stop}
use Rattle.form_grammar.specs.Trees.{Tree, nothing, byte, number, text, ◌▸◌, tagged, nested, many, end, ◌⨾◌, size, spelling, spelled_number, digits}
use Rattle.form_grammar.specs.Grammar.{Form, Class, unit, exactly, range, num, name, ◌▹◌, tag, alt, list, part, chosen, grammar}
use Rattle.form_grammar.specs.Numbers.{Found, after, digits_at, number_at, text_at, count_at, short, refused}
use Rattle.form_grammar.specs.Reading.{form_at, nested_at, items_at}
use Rattle.form_laws.specs.Forms.{IsForm, AreForm}
use Rattle.form_laws.specs.Refusals.{IsBytes, IsWrong}
use Rattle.form_laws.proofs.Same.{InDigits, in_ten, digits_last, digits_more, heads, number_same, same}
use Rattle.form_laws.proofs.Again.{if_true, if_false}
use Rattle.form_laws.proofs.Takes.{IsSound, IsChoice, found, stopped, count_take, takes, rest_bytes, grammar_sound}

pub stop_is : {A : Type 0} (s t : Stop) → stopped {A = A} s ≡ stopped t → s ≡ t
stop_is s t e = cc

not_wrong : {A : Type 0} (s t : Stop) → stopped {A = A} s ≡ stopped t → (IsWrong s.code → ⊥) → IsWrong t.code → ⊥
not_wrong {A = A} s t e n w = n (subst (λ z. IsWrong z.code) (sym (stop_is {A = A} s t e)) w)

pub found_not : {A : Type 0} (x : A) (rest : List ℕ) (s : Stop) → found x rest ≡ stopped s → ⊥
found_not x rest s e = absurd cc

pub after_err : {A B : Type 0} (r : Found A) (f : A × List ℕ → Found B) (s : Stop) → after r f ≡ stopped s → (r ≡ Err s) ⊎ ((x : A × List ℕ) × (r ≡ Ok x) × (f x ≡ Err s))
unfolding after
after_err {A = A} {B = B} (Ok x) f s e = inr (x, refl, e)
after_err {A = A} {B = B} (Err t) f s e = inl (ap (stopped {A = A}) (stop_is {A = B} t s e))

-- The bytes up to b are refused: nothing of P begins with them.
pub record Refuses (P : List ℕ → Type 0) (bytes : List ℕ) (s : Stop) : Type 0 where
  pub front : List ℕ
  pub b : ℕ
  pub back : List ℕ
  pub parts : bytes ≡ front ++ (b ∷ back)
  pub left : s.left ≡ length (b ∷ back)
  pub none : (more : List ℕ) → P (front ++ (b ∷ more)) → ⊥

at_first : (A : Type 0) (P : List ℕ → Type 0) (code : FormCode) (b : ℕ) (bytes : List ℕ) (s : Stop) → refused {A = A} code (b ∷ bytes) ≡ stopped s → ((more : List ℕ) → P (b ∷ more) → ⊥) → Refuses P (b ∷ bytes) s
at_first A P code b bytes s e n = record { front = []; b = b; back = bytes; parts = refl; left = ap (λ z. z.left) (sym (stop_is {A = A} (record { code = code; left = length (b ∷ bytes) }) s e)); none = n }

further : (P Q : List ℕ → Type 0) (before bytes rest : List ℕ) (s : Stop) → bytes ≡ before ++ rest → Refuses Q rest s → ((l : List ℕ) → P (before ++ l) → Q l) → Refuses P bytes s
further P Q before bytes rest s e r h = record {
  front = before ++ r.front;
  b = r.b;
  back = r.back;
  parts = e ∙ (ap (λ z. before ++ z) r.parts ∙ sym (append_assoc before r.front (r.b ∷ r.back)));
  left = r.left;
  none = λ more p. r.none more (h (r.front ++ (r.b ∷ more)) (subst P (append_assoc before r.front (r.b ∷ more)) p));
}

-- the same, where what is asked may use the first byte
same_head : (front : List ℕ) (b c : ℕ) (back more bytes : List ℕ) → c ∷ bytes ≡ front ++ (b ∷ back) → (rest : List ℕ) × (front ++ (b ∷ more) ≡ c ∷ rest)
same_head [] b c back more bytes e = let h = heads e in (more, ap (λ z. z ∷ more) (sym h.0))
same_head (d ∷ front) b c back more bytes e = let h = heads e in (front ++ (b ∷ more), ap (λ z. z ∷ (front ++ (b ∷ more))) (sym h.0))

with_first : (P Q : List ℕ → Type 0) (c : ℕ) (bytes : List ℕ) (s : Stop) → Refuses Q (c ∷ bytes) s → ((l : List ℕ) → P (c ∷ l) → Q (c ∷ l)) → Refuses P (c ∷ bytes) s
with_first P Q c bytes s r h = record {
  front = r.front;
  b = r.b;
  back = r.back;
  parts = r.parts;
  left = r.left;
  none = λ more p.
      let k = same_head r.front r.b c r.back more bytes r.parts in
      r.none more (subst Q (sym k.1) (h k.0 (subst P k.1 p)));
}

-- ---- numbers

abbrev pub Digits : ℕ → ℕ → List ℕ → Type 0
Digits most limit l = (n : ℕ) × (r : List ℕ) × (0 < n) × (n ≤ limit) × InDigits most n × (digits most n ++ r ≡ l)

behind_digit : (most limit b : ℕ) (l : List ℕ) → 128 ≤ b → Digits (suc (suc most)) limit (b ∷ l) → Digits (suc most) (limit / 128) l
behind_digit most limit b l h q =
    elim (cases_lt q.0 128) [
      | inl k ↦ let e = (heads (ap (λ d. d ++ q.1) (sym (digits_last (suc most) q.0 k)) ∙ q.5)).0 in absurd (omega (arith, e))
      | inr k ↦
          let e = heads (ap (λ d. d ++ q.1) (sym (digits_more (suc most) q.0 k)) ∙ q.5) in
          (q.0 / 128, q.1, omega arith, omega (arith, q.3), higher q.4 k, e.1)
    ]
  where
    higher : (q.0 < 128) ⊎ InDigits (suc most) (q.0 / 128) → 128 ≤ q.0 → InDigits (suc most) (q.0 / 128)
    higher (inl h) g = absurd (omega arith)
    higher (inr h) g = h

no_digit : (limit b : ℕ) (l : List ℕ) → 128 ≤ b → Digits 1 limit (b ∷ l) → ⊥
no_digit limit b l h q = go q.4
  where
    go : (q.0 < 128) ⊎ ⊥ → ⊥
    go (inl k) = let e = (heads (ap (λ d. d ++ q.1) (sym (digits_last 0 q.0 k)) ∙ q.5)).0 in omega (arith, e)
    go (inr k) = k

deeper : (most b limit : ℕ) (bytes : List ℕ) (s : Stop) → 128 ≤ b → ((k : ℕ) → Refuses (Digits (suc k) (limit / 128)) bytes s) → Refuses (Digits (suc most) limit) (b ∷ bytes) s
deeper zero b limit bytes s h r = further (Digits 1 limit) (Digits 1 (limit / 128)) (b ∷ []) (b ∷ bytes) bytes s refl (r 0) (λ l q. absurd (no_digit limit b l h q))
deeper (suc most) b limit bytes s h r = further (Digits (suc (suc most)) limit) (Digits (suc most) (limit / 128)) (b ∷ []) (b ∷ bytes) bytes s refl (r most) (λ l q. behind_digit most limit b l h q)

digits_refuse : (most limit : ℕ) (bytes : List ℕ) (s : Stop) → IsBytes bytes → digits_at limit bytes ≡ stopped s → IsWrong s.code → Refuses (Digits (suc most) limit) bytes s
unfolding digits_at
digits_refuse most limit [] s p e w = absurd (not_wrong {A = ℕ} (record { code = Short; left = 0 }) s e (λ z. z) w)
digits_refuse most limit (b ∷ bytes) s p e w =
    elim (cases_lt b 128) [
      | inl l ↦
          let e1 = sym (if_true (nat_lt b 128) _ _ (lt-ltb b 128 l)) ∙ e in
          elim (cases_Bool (leb b limit && not (eqb b 0))) [
            | inl t ↦ absurd (found_not b bytes s (sym (if_true (nat_le b limit && not (nat_eq b 0)) _ _ t) ∙ e1))
            | inr t ↦
                at_first ℕ (Digits (suc most) limit) NotCanonical b bytes s (sym (if_false (nat_le b limit && not (nat_eq b 0)) _ _ t) ∙ e1)
                (λ more q. outside t (first_low q.0 q.1 more l q.2 q.4 q.5) q.2 q.3)
          ]
      | inr l ↦
          let e1 = sym (if_false (nat_lt b 128) _ _ (le-ltb b 128 l)) ∙ e in
          elim (cases_lt limit 128) [
            | inl m ↦
                at_first ℕ (Digits (suc most) limit) NotCanonical b bytes s (sym (if_true (nat_lt limit 128) _ _ (lt-ltb limit 128 m)) ∙ e1)
                (λ more q. small q.0 q.1 more (omega (arith, q.3)) l q.5)
            | inr m ↦ elim (after_err (digits_at (limit / 128) bytes) (λ high. Ok (b - 128 + 128 * high.0, high.1)) s (sym (if_false (nat_lt limit 128) _ _ (le-ltb limit 128 m)) ∙ e1)) [
              | inr z ↦ absurd (found_not _ _ s z.2)
              | inl z ↦ deeper most b limit bytes s l (λ k. digits_refuse k (limit / 128) bytes s p.1 z w)
            ]
          ]
    ]
  where
    first_low : (n : ℕ) (r more : List ℕ) → b < 128 → 0 < n → InDigits (suc most) n → digits (suc most) n ++ r ≡ b ∷ more → n ≡ b
    first_low n r more l z i q =
        elim (cases_lt n 128) [
          | inl k ↦ (heads (ap (λ d. d ++ r) (sym (digits_last most n k)) ∙ q)).0
          | inr k ↦ let h = (heads (ap (λ d. d ++ r) (sym (digits_more most n k)) ∙ q)).0 in absurd (omega (arith, h))
        ]

    outside : {n : ℕ} → (leb b limit && not (eqb b 0)) ≡ false → n ≡ b → 0 < n → n ≤ limit → ⊥
    outside {n = n} t i z k =
        let both : (leb b limit && not (eqb b 0)) ≡ true = and_from (leb b limit) (not (eqb b 0)) (le-leb b limit (omega (arith, i))) (ap not (ne_eqb b 0 (λ y. omega (arith, i)))) in
        absurd (false_true (sym t ∙ both))
      where
        false_true : false ≡ true → ⊥
        false_true y = absurd cc

    small : (n : ℕ) (r more : List ℕ) → n < 128 → 128 ≤ b → digits (suc most) n ++ r ≡ b ∷ more → ⊥
    small n r more k l q = let h = (heads (ap (λ d. d ++ r) (sym (digits_last most n k)) ∙ q)).0 in omega (arith, h)

abbrev pub Numbers : List ℕ → Type 0
Numbers l = (n : ℕ) × (r : List ℕ) × (n < 2 ^ 32) × (spelled_number n ++ r ≡ l)

pub number_refuse : (bytes : List ℕ) (s : Stop) → IsBytes bytes → number_at bytes ≡ stopped s → IsWrong s.code → Refuses Numbers bytes s
unfolding number_at
number_refuse [] s p e w = absurd (not_wrong {A = ℕ} (record { code = Short; left = 0 }) s e (λ z. z) w)
number_refuse (b ∷ bytes) s p e w =
    elim (cases_eq b 0) [
      | inl z ↦ absurd (found_not 0 bytes s (sym (if_true (nat_eq b 0) _ _ (eq-eqb b 0 z)) ∙ e))
      | inr z ↦ with_first Numbers (Digits 10 4294967295) b bytes s (digits_refuse 9 4294967295 (b ∷ bytes) s p (sym (if_false (nat_eq b 0) _ _ (ne_eqb b 0 z)) ∙ e) w) (λ l q. digits z l q)
    ]
  where
    digits : (b ≡ 0 → ⊥) → (l : List ℕ) → Numbers (b ∷ l) → Digits 10 4294967295 (b ∷ l)
    digits z l q =
        elim (cases_eq q.0 0) [
          | inl k ↦ absurd (z (sym (heads (ap (λ n. spelled_number n ++ q.1) (sym k) ∙ q.3)).0))
          | inr k ↦ (q.0, q.1, positive q.0 k, omega (arith, q.2), in_ten q.0 q.2, q.3)
        ]
      where
        positive : (m : ℕ) → (m ≡ 0 → ⊥) → 0 < m
        positive zero y = absurd (y refl)
        positive (suc m) y = omega arith

abbrev pub Texts : List ℕ → Type 0
Texts l = (t : List ℕ) × (r : List ℕ) × (0 < length t) × (length t < 256) × ((spelled_number (length t) ++ t) ++ r ≡ l)

text_refuse : (bytes : List ℕ) (s : Stop) → IsBytes bytes → text_at bytes ≡ stopped s → IsWrong s.code → Refuses Texts bytes s
unfolding text_at
text_refuse bytes s p e w =
    elim (after_err (digits_at 255 bytes) (λ n. cond (nat_lt (length n.1) n.0) short (Ok (take n.0 n.1, drop n.0 n.1))) s e) [
      | inl z ↦
          further Texts (Digits 10 255) [] bytes bytes s refl (digits_refuse 9 255 bytes s p z w)
          (λ l q. (length q.0, q.0 ++ q.1, q.2, omega (arith, q.3), in_ten (length q.0) (omega (arith, q.3)), sym (append_assoc (spelled_number (length q.0)) q.0 q.1) ∙ q.4))
      | inr z ↦ elim (cases_lt (length z.0.1) z.0.0) [
        | inl l ↦ absurd (not_wrong {A = List ℕ} (record { code = Short; left = 0 }) s (sym (if_true (nat_lt (length z.0.1) z.0.0) _ _ (lt-ltb (length z.0.1) z.0.0 l)) ∙ z.2) (λ y. y) w)
        | inr l ↦ absurd (found_not _ _ s (sym (if_false (nat_lt (length z.0.1) z.0.0) _ _ (le-ltb (length z.0.1) z.0.0 l)) ∙ z.2))
      ]
    ]

count_refuse : (bytes : List ℕ) (s : Stop) → IsBytes bytes → count_at bytes ≡ stopped s → IsWrong s.code → Refuses Numbers bytes s
unfolding count_at
count_refuse bytes s p e w =
    elim (after_err (number_at bytes) (λ n. cond (nat_lt 65536 n.0) (Err (record { code = FormLimit; left = length n.1 + 1 })) (Ok n)) s e) [
      | inl z ↦ number_refuse bytes s p z w
      | inr z ↦ elim (cases_lt 65536 z.0.0) [
        | inl l ↦ absurd (not_wrong {A = ℕ} (record { code = FormLimit; left = length z.0.1 + 1 }) s (sym (if_true (nat_lt 65536 z.0.0) _ _ (lt-ltb 65536 z.0.0 l)) ∙ z.2) (λ y. y) w)
        | inr l ↦ absurd (found_not _ _ s (sym (if_false (nat_lt 65536 z.0.0) _ _ (le-ltb 65536 z.0.0 l)) ∙ z.2))
      ]
    ]

-- ---- forms

-- something of the form is spelled in front
abbrev pub Reads : Form → List ℕ → Type 0
Reads f l = (x : Tree) × (r : List ℕ) × IsForm x f × (spelling x ++ r ≡ l)

abbrev pub ReadsItems : Form → ℕ → List ℕ → Type 0
ReadsItems f n l = (x : Tree) × (r : List ℕ) × AreForm x f × (size x ≡ n) × (spelling x ++ r ≡ l)

of_byte : (f : Form) (b : ℕ) (l : List ℕ) → ((x : Tree) → IsForm x f → (k : ℕ) × (x ≡ byte k) × (k ≡ b → ⊥)) → Reads f (b ∷ l) → ⊥
of_byte f b l h q = let i = h q.0 q.2 in i.2 (heads (ap (λ x. spelling x ++ q.1) (sym i.1) ∙ q.3)).0

exactly_not : (c : FormCode) (n b : ℕ) → (b ≡ n → ⊥) → (x : Tree) → IsForm x (exactly c n) → (k : ℕ) × (x ≡ byte k) × (k ≡ b → ⊥)
exactly_not c n b z (byte k) p = (k, refl, λ e. z (sym e ∙ p))
exactly_not c n b z _ p = elim p [ ]

range_not : (low high b : ℕ) → (leb low b && leb b high) ≡ false → (x : Tree) → IsForm x (range low high) → (k : ℕ) × (x ≡ byte k) × (k ≡ b → ⊥)
range_not low high b z (byte k) p = (k, refl, λ e. false_true (sym z ∙ and_from (leb low b) (leb b high) (le-leb low b (omega (arith, p.0, e))) (le-leb b high (omega (arith, p.1, e)))))
  where
    false_true : false ≡ true → ⊥
    false_true y = absurd cc
range_not low high b z _ p = elim p [ ]

number_in : (l : List ℕ) → Reads num l → Numbers l
number_in l q = go q.0 q.2 q.3
  where
    go : (x : Tree) → IsForm x num → spelling x ++ q.1 ≡ l → Numbers l
    go (number n) p e = (n, q.1, p, e)
    go _ p e = elim p [ ]

text_in : (l : List ℕ) → Reads name l → Texts l
text_in l q = go q.0 q.2 q.3
  where
    go : (x : Tree) → IsForm x name → spelling x ++ q.1 ≡ l → Texts l
    go (text t) p e = (t, q.1, p.0, p.1, e)
    go _ p e = elim p [ ]

first_in : (f g : Form) (l : List ℕ) → Reads (f ▹ g) l → Reads f l
first_in f g l q = go q.0 q.2 q.3
  where
    go : (x : Tree) → IsForm x (f ▹ g) → spelling x ++ q.1 ≡ l → Reads f l
    go (x ▸ y) p e = (x, spelling y ++ q.1, p.0, sym (append_assoc (spelling x) (spelling y) q.1) ∙ e)
    go _ p e = elim p [ ]

second_in : (f g : Form) (x0 : Tree) (l : List ℕ) → IsForm x0 f → Reads (f ▹ g) (spelling x0 ++ l) → Reads g l
second_in f g x0 l h q = go q.0 q.2 q.3
  where
    go : (x : Tree) → IsForm x (f ▹ g) → spelling x ++ q.1 ≡ spelling x0 ++ l → Reads g l
    go (x ▸ y) p e = let s = same x f x0 (spelling y ++ q.1) l p.0 h (sym (append_assoc (spelling x) (spelling y) q.1) ∙ e) in (y, q.1, p.1, s.1)
    go _ p e = elim p [ ]

count_in : (f : Form) (l : List ℕ) → Reads (list f) l → Numbers l
count_in f l q = go q.0 q.2 q.3
  where
    go : (x : Tree) → IsForm x (list f) → spelling x ++ q.1 ≡ l → Numbers l
    go (many xs) p e = (size xs, spelling xs ++ q.1, p.0, sym (append_assoc (spelled_number (size xs)) (spelling xs) q.1) ∙ e)
    go _ p e = elim p [ ]

items_in : (f : Form) (n : ℕ) (l : List ℕ) → n < 2 ^ 32 → Reads (list f) (spelled_number n ++ l) → ReadsItems f n l
items_in f n l h q = go q.0 q.2 q.3
  where
    go : (x : Tree) → IsForm x (list f) → spelling x ++ q.1 ≡ spelled_number n ++ l → ReadsItems f n l
    go (many xs) p e = let s = number_same (size xs) n (spelling xs ++ q.1) l p.0 h (sym (append_assoc (spelled_number (size xs)) (spelling xs) q.1) ∙ e) in (xs, q.1, p.1, s.0, s.1)
    go _ p e = elim p [ ]

item_in : (f : Form) (n : ℕ) (l : List ℕ) → ReadsItems f (suc n) l → Reads f l
item_in f n l q = go q.0 q.2 q.3 q.4
  where
    go : (x : Tree) → AreForm x f → size x ≡ suc n → spelling x ++ q.1 ≡ l → Reads f l
    go end p s e = absurd (omega (arith, s))
    go (x ⨾ xs) p s e = (x, spelling xs ++ q.1, p.0, sym (append_assoc (spelling x) (spelling xs) q.1) ∙ e)
    go _ p s e = elim p [ ]

others_in : (f : Form) (n : ℕ) (x0 : Tree) (l : List ℕ) → IsForm x0 f → ReadsItems f (suc n) (spelling x0 ++ l) → ReadsItems f n l
others_in f n x0 l h q = go q.0 q.2 q.3 q.4
  where
    go : (x : Tree) → AreForm x f → size x ≡ suc n → spelling x ++ q.1 ≡ spelling x0 ++ l → ReadsItems f n l
    go end p s e = absurd (omega (arith, s))
    go (x ⨾ xs) p s e = let k = same x f x0 (spelling xs ++ q.1) l p.0 h (sym (append_assoc (spelling x) (spelling xs) q.1) ∙ e) in (xs, q.1, p.1, omega (arith, s), k.1)
    go _ p s e = elim p [ ]

part_in : (c : Class) (l : List ℕ) → Reads (part c) l → Reads (grammar c) l
part_in c l q = go q.0 q.2 q.3
  where
    go : (x : Tree) → IsForm x (part c) → spelling x ++ q.1 ≡ l → Reads (grammar c) l
    go (nested x) p e = (x, q.1, p, e)
    go _ p e = elim p [ ]

abbrev IsChosen : Option Form → Tree → Type 0
IsChosen o x = IsSomeAnd o (λ g. IsForm x g)

-- a choice is a tag, and what it chooses
choice_in : (f : Form) (b : ℕ) (l : List ℕ) → IsChoice f → Reads f (b ∷ l) → (y : Tree) × (r : List ℕ) × IsChosen (chosen f b) y × (spelling y ++ r ≡ l)
choice_in (tag n g) b l c q = go q.0 q.2 q.3
  where
    go : (x : Tree) → IsForm x (tag n g) → spelling x ++ q.1 ≡ b ∷ l → (y : Tree) × (r : List ℕ) × IsChosen (chosen (tag n g) b) y × (spelling y ++ r ≡ l)
    go (tagged k y) p e = let h = heads e in (y, q.1, subst (λ z. IsChosen (chosen (tag n g) z) y) h.0 p, h.1)
    go _ p e = elim p [ ]
choice_in (alt n g t) b l c q = go q.0 q.2 q.3
  where
    go : (x : Tree) → IsForm x (alt n g t) → spelling x ++ q.1 ≡ b ∷ l → (y : Tree) × (r : List ℕ) × IsChosen (chosen (alt n g t) b) y × (spelling y ++ r ≡ l)
    go (tagged k y) p e = let h = heads e in (y, q.1, subst (λ z. IsChosen (chosen (alt n g t) z) y) h.0 p, h.1)
    go _ p e = elim p [ ]
choice_in _ b l c q = elim c [ ]

chosen_here : (b n : ℕ) (g : Form) (o : Option Form) (y : Tree) → b ≡ n → IsChosen (cond (nat_eq b n) (Some g) o) y → IsForm y g
chosen_here b n g o y e p = subst (λ c. IsChosen (cond c (Some g) o) y) (eq-eqb b n e) p

chosen_later : (b n : ℕ) (g : Form) (o : Option Form) (y : Tree) → (b ≡ n → ⊥) → IsChosen (cond (nat_eq b n) (Some g) o) y → IsChosen o y
chosen_later b n g o y e p = subst (λ c. IsChosen (cond c (Some g) o) y) (ne_eqb b n e) p

-- a choice that is passed by
passed_in : (n : ℕ) (g h : Form) (b : ℕ) (l : List ℕ) → (b ≡ n → ⊥) → Reads (alt n g h) (b ∷ l) → Reads h (b ∷ l)
passed_in n g h b l z q =
    let c = choice_in (alt n g h) b l tt q in
    let k = chosen_later b n g (chosen h b) c.0 z c.2 in
    (tagged b c.0, c.1, k, ap (λ r. b ∷ r) c.3)

taken_in : (n : ℕ) (g h : Form) (b : ℕ) (l : List ℕ) → b ≡ n → Reads (alt n g h) (b ∷ l) → Reads g l
taken_in n g h b l z q = let c = choice_in (alt n g h) b l tt q in (c.0, c.1, chosen_here b n g (chosen h b) c.0 z c.2, c.3)

tag_in : (n : ℕ) (g : Form) (b : ℕ) (l : List ℕ) → b ≡ n → Reads (tag n g) (b ∷ l) → Reads g l
tag_in n g b l z q = let c = choice_in (tag n g) b l tt q in (c.0, c.1, chosen_here b n g None c.0 z c.2, c.3)

tag_not : (n : ℕ) (g : Form) (b : ℕ) (l : List ℕ) → (b ≡ n → ⊥) → Reads (tag n g) (b ∷ l) → ⊥
tag_not n g b l z q = let c = choice_in (tag n g) b l tt q in chosen_later b n g None c.0 z c.2

abbrev pub NestedRefuse : ℕ → Type 0
NestedRefuse d = (c : Class) (bytes : List ℕ) (s : Stop) → IsBytes bytes → nested_at d c bytes ≡ stopped s → IsWrong s.code → Refuses (Reads (grammar c)) bytes s

end_not : (s : Stop) (e : stopped {A = Tree} (record { code = Short; left = 0 }) ≡ stopped s) → IsWrong s.code → ⊥
end_not s e w = not_wrong {A = Tree} (record { code = Short; left = 0 }) s e (λ z. z) w

module _ (d : ℕ) (inner : NestedRefuse d) where
  items_refuse : (f : Form) → IsSound f → ((bytes : List ℕ) (s : Stop) → IsBytes bytes → form_at (nested_at d) f bytes ≡ stopped s → IsWrong s.code → Refuses (Reads f) bytes s)
      → (n : ℕ) (bytes : List ℕ) (s : Stop) → IsBytes bytes → items_at (form_at (nested_at d) f) n bytes ≡ stopped s → IsWrong s.code → Refuses (ReadsItems f n) bytes s
  unfolding items_at
  items_refuse f so each zero bytes s p e w = absurd (found_not end bytes s e)
  items_refuse f so each (suc n) bytes s p e w =
      elim (after_err (form_at (nested_at d) f bytes) (λ x. after (items_at (form_at (nested_at d) f) n x.1) (λ xs. Ok (x.0 ⨾ xs.0, xs.1))) s e) [
        | inl z ↦ further (ReadsItems f (suc n)) (Reads f) [] bytes bytes s refl (each bytes s p z w) (λ l q. item_in f n l q)
        | inr z ↦
            let t = takes d f bytes z.0.0 z.0.1 so p z.1 in
            elim (after_err (items_at (form_at (nested_at d) f) n z.0.1) (λ xs. Ok (z.0.0 ⨾ xs.0, xs.1)) s z.2) [
              | inl y ↦
                  further (ReadsItems f (suc n)) (ReadsItems f n) (spelling z.0.0) bytes z.0.1 s t.parts
                  (items_refuse f so each n z.0.1 s (rest_bytes bytes (spelling z.0.0) z.0.1 p t.parts) y w) (λ l q. others_in f n z.0.0 l t.form q)
              | inr y ↦ absurd (found_not _ _ s y.2)
            ]
      ]

  form_refuse : (f : Form) (bytes : List ℕ) (s : Stop) → IsSound f → IsBytes bytes → form_at (nested_at d) f bytes ≡ stopped s → IsWrong s.code → Refuses (Reads f) bytes s
  unfolding form_at
  form_refuse unit bytes s so p e w = absurd (found_not nothing bytes s e)
  form_refuse (exactly c n) [] s so p e w = absurd (end_not s e w)
  form_refuse (exactly c n) (b ∷ bytes) s so p e w =
      elim (cases_eq b n) [
        | inl z ↦ absurd (found_not (byte b) bytes s (sym (if_true (nat_eq b n) _ _ (eq-eqb b n z)) ∙ e))
        | inr z ↦ at_first Tree (Reads (exactly c n)) c b bytes s (sym (if_false (nat_eq b n) _ _ (ne_eqb b n z)) ∙ e) (λ more q. of_byte (exactly c n) b more (exactly_not c n b z) q)
      ]
  form_refuse (range low high) [] s so p e w = absurd (end_not s e w)
  form_refuse (range low high) (b ∷ bytes) s so p e w =
      elim (cases_Bool (leb low b && leb b high)) [
        | inl z ↦ absurd (found_not (byte b) bytes s (sym (if_true (nat_le low b && nat_le b high) _ _ z) ∙ e))
        | inr z ↦ at_first Tree (Reads (range low high)) NotCanonical b bytes s (sym (if_false (nat_le low b && nat_le b high) _ _ z) ∙ e) (λ more q. of_byte (range low high) b more (range_not low high b z) q)
      ]
  form_refuse num bytes s so p e w =
      elim (after_err (number_at bytes) (λ n. Ok (number n.0, n.1)) s e) [
        | inl z ↦ further (Reads num) Numbers [] bytes bytes s refl (number_refuse bytes s p z w) (λ l q. number_in l q)
        | inr z ↦ absurd (found_not _ _ s z.2)
      ]
  form_refuse name bytes s so p e w =
      elim (after_err (text_at bytes) (λ n. Ok (text n.0, n.1)) s e) [
        | inl z ↦ further (Reads name) Texts [] bytes bytes s refl (text_refuse bytes s p z w) (λ l q. text_in l q)
        | inr z ↦ absurd (found_not _ _ s z.2)
      ]
  form_refuse (f ▹ g) bytes s so p e w =
      elim (after_err (form_at (nested_at d) f bytes) (λ x. after (form_at (nested_at d) g x.1) (λ y. Ok (x.0 ▸ y.0, y.1))) s e) [
        | inl z ↦ further (Reads (f ▹ g)) (Reads f) [] bytes bytes s refl (form_refuse f bytes s so.0 p z w) (λ l q. first_in f g l q)
        | inr z ↦
            let t = takes d f bytes z.0.0 z.0.1 so.0 p z.1 in
            elim (after_err (form_at (nested_at d) g z.0.1) (λ y. Ok (z.0.0 ▸ y.0, y.1)) s z.2) [
              | inl y ↦
                  further (Reads (f ▹ g)) (Reads g) (spelling z.0.0) bytes z.0.1 s t.parts
                  (form_refuse g z.0.1 s so.1 (rest_bytes bytes (spelling z.0.0) z.0.1 p t.parts) y w) (λ l q. second_in f g z.0.0 l t.form q)
              | inr y ↦ absurd (found_not _ _ s y.2)
            ]
      ]
  form_refuse (tag n f) [] s so p e w = absurd (end_not s e w)
  form_refuse (tag n f) (b ∷ bytes) s so p e w =
      elim (cases_eq b n) [
        | inl z ↦ elim (after_err (form_at (nested_at d) f bytes) (λ x. Ok (tagged b x.0, x.1)) s (sym (if_true (nat_eq b n) _ _ (eq-eqb b n z)) ∙ e)) [
          | inl y ↦ further (Reads (tag n f)) (Reads f) (b ∷ []) (b ∷ bytes) bytes s refl (form_refuse f bytes s so p.1 y w) (λ l q. tag_in n f b l z q)
          | inr y ↦ absurd (found_not _ _ s y.2)
        ]
        | inr z ↦ at_first Tree (Reads (tag n f)) NotCanonical b bytes s (sym (if_false (nat_eq b n) _ _ (ne_eqb b n z)) ∙ e) (λ more q. tag_not n f b more z q)
      ]
  form_refuse (alt n f g) [] s so p e w = absurd (end_not s e w)
  form_refuse (alt n f g) (b ∷ bytes) s so p e w =
      elim (cases_eq b n) [
        | inl z ↦ elim (after_err (form_at (nested_at d) f bytes) (λ x. Ok (tagged b x.0, x.1)) s (sym (if_true (nat_eq b n) _ _ (eq-eqb b n z)) ∙ e)) [
          | inl y ↦ further (Reads (alt n f g)) (Reads f) (b ∷ []) (b ∷ bytes) bytes s refl (form_refuse f bytes s so.0 p.1 y w) (λ l q. taken_in n f g b l z q)
          | inr y ↦ absurd (found_not _ _ s y.2)
        ]
        | inr z ↦ with_first (Reads (alt n f g)) (Reads g) b bytes s (form_refuse g (b ∷ bytes) s so.1 p (sym (if_false (nat_eq b n) _ _ (ne_eqb b n z)) ∙ e) w) (λ l q. passed_in n f g b l z q)
      ]
  form_refuse (list f) bytes s so p e w =
      elim (after_err (count_at bytes) (λ n. after (items_at (form_at (nested_at d) f) n.0 n.1) (λ xs. Ok (many xs.0, xs.1))) s e) [
        | inl z ↦ further (Reads (list f)) Numbers [] bytes bytes s refl (count_refuse bytes s p z w) (λ l q. count_in f l q)
        | inr z ↦
            let i = count_take bytes z.0.0 z.0.1 p z.1 in
            elim (after_err (items_at (form_at (nested_at d) f) z.0.0 z.0.1) (λ xs. Ok (many xs.0, xs.1)) s z.2) [
              | inl y ↦
                  further (Reads (list f)) (ReadsItems f z.0.0) (spelled_number z.0.0) bytes z.0.1 s i.1
                  (items_refuse f so (λ bytes s q h v. form_refuse f bytes s so q h v) z.0.0 z.0.1 s (rest_bytes bytes (spelled_number z.0.0) z.0.1 p i.1) y w)
                  (λ l q. items_in f z.0.0 l (omega (arith, i.0)) q)
              | inr y ↦ absurd (found_not _ _ s y.2)
            ]
      ]
  form_refuse (part c) bytes s so p e w =
      elim (after_err (nested_at d c bytes) (λ x. Ok (nested x.0, x.1)) s e) [
        | inl z ↦ further (Reads (part c)) (Reads (grammar c)) [] bytes bytes s refl (inner c bytes s p z w) (λ l q. part_in c l q)
        | inr z ↦ absurd (found_not _ _ s z.2)
      ]

nested_refuse : (d : ℕ) → NestedRefuse d
unfolding nested_at
nested_refuse zero c [] s p e w = absurd (end_not s e w)
nested_refuse zero c (b ∷ bytes) s p e w = absurd (not_wrong {A = Tree} (record { code = FormLimit; left = length (b ∷ bytes) }) s e (λ z. z) w)
nested_refuse (suc d) c bytes s p e w = form_refuse d (nested_refuse d) (grammar c) bytes s (grammar_sound c) p e w

pub refuses : (d : ℕ) (f : Form) (bytes : List ℕ) (s : Stop) → IsSound f → IsBytes bytes → form_at (nested_at d) f bytes ≡ stopped s → IsWrong s.code → Refuses (Reads f) bytes s
refuses d f bytes s so p e w = form_refuse d (nested_refuse d) f bytes s so p e w
