-- What is read was spelled so.
use Rattle.std.proofs.Common.{◌≡◌, ℕ, zero, suc, ◌+◌, ◌-◌, ◌*◌, ◌/◌, ◌%◌, ◌^◌, ◌<◌, ◌≤◌, ◌⊎◌, inl, inr, not, ◌&&◌, Option, Some, None, List, [], ◌∷◌, ◌++◌, length, take, drop, Result, Ok, Err, cond, leb, eqb, refl, sym, ap, subst, ◌∙◌, append_assoc, arith}
use Rattle.std.specs.Prelude.{nat_eq, nat_lt, nat_le, ⊤, IsSomeAnd}
use Rattle.std.proofs.lemmas.Bool.{cases_lt, cases_eq, cases_Bool, lt-ltb, le-ltb, leb-true, ne_eqb, eq-eqb, eqb-false, and_parts, not-true}
use Rattle.std.proofs.lemmas.List.{take-append-drop, length-take-le}
use Rattle.slang_names.specs.declared.form_codes.FormCode.TheVariants.{FormLimit}
use Rattle.form_grammar.specs.declared.codes.Stop.{Stop}
use Rattle.form_grammar.specs.Trees.{Tree, nothing, byte, number, text, ◌▸◌, tagged, nested, many, end, ◌⨾◌, size, spelling, spelled_number, digits}
use Rattle.form_grammar.specs.Grammar.{Form, Class, unit, exactly, range, num, name, ◌▹◌, tag, alt, list, part, chosen, grammar}
use Rattle.form_grammar.specs.Numbers.{Found, after, digits_at, number_at, text_at, count_at, short}
use Rattle.form_grammar.specs.Reading.{form_at, nested_at, items_at}
use Rattle.form_laws.specs.Forms.{IsForm, AreForm, Fits}
use Rattle.form_laws.specs.Refusals.{IsBytes}
use Rattle.form_laws.proofs.Same.{digits_last, digits_more}
use Rattle.form_laws.proofs.Again.{if_true, if_false}

bytes_behind : (s t : List ℕ) → IsBytes (s ++ t) → IsBytes t
bytes_behind [] t p = p
bytes_behind (b ∷ s) t p = bytes_behind s t p.1

abbrev pub found : {A : Type 0} → A → List ℕ → Found A
found x rest = Ok (x, rest)

pub after_ok : {A B : Type 0} (r : Found A) (f : A × List ℕ → Found B) (y : B × List ℕ) → after r f ≡ Ok y → (x : A × List ℕ) × (r ≡ Ok x) × (f x ≡ Ok y)
unfolding after
after_ok (Ok x) f y e = (x, refl, e)
after_ok (Err s) f y e = absurd cc

abbrev pub whole : {A : Type 0} → A → Result A Stop
whole x = Ok x

pair_is : {A : Type 0} (p q : A) → whole p ≡ whole q → p ≡ q
pair_is p q e = cc

found_is : {A : Type 0} (x y : A) (a b : List ℕ) → found x a ≡ found y b → (x ≡ y) × (a ≡ b)
found_is x y a b e = let h = pair_is (x, a) (y, b) e in (ap (λ p. p.0) h, ap (λ p. p.1) h)

abbrev pub stopped : {A : Type 0} → Stop → Found A
stopped s = Err s

pub never : {A : Type 0} (s : Stop) (y : A × List ℕ) → stopped {A = A} s ≡ Ok y → ⊥
never s y e = absurd cc

-- each limit that is left behind some digits is the greatest with so many
abbrev pub Ones : ℕ → ℕ → Type 0
Ones zero limit = ⊥
Ones (suc most) limit = (limit < 128) ⊎ ((limit % 128 ≡ 127) × Ones most (limit / 128))

pub digits_take : (most limit : ℕ) (bytes : List ℕ) (n : ℕ) (rest : List ℕ) → Ones most limit → IsBytes bytes → digits_at limit bytes ≡ found n rest →
    (0 < n) × (n ≤ limit) × (bytes ≡ digits most n ++ rest)
unfolding digits_at
digits_take zero limit bytes n rest o p e = absurd o
digits_take (suc most) limit [] n rest o p e = absurd (never _ _ e)
digits_take (suc most) limit (b ∷ bytes) n rest o p e =
    elim (cases_lt b 128) [
      | inl l ↦
          let e1 = sym (if_true (nat_lt b 128) _ _ (lt-ltb b 128 l)) ∙ e in
          elim (cases_Bool (leb b limit && not (eqb b 0))) [
            | inl t ↦
                let w = found_is b n bytes rest (sym (if_true (nat_le b limit && not (nat_eq b 0)) _ _ t) ∙ e1) in
                let k = and_parts (leb b limit) (not (eqb b 0)) t in
                let z = eqb-false b 0 (not-true (eqb b 0) k.1) in
                let pos : 0 < b = positive b z in
                let d : digits (suc most) n ≡ n ∷ [] = digits_last most n (omega (arith, w.0)) in
                (omega (arith, w.0), omega (arith, w.0, leb-true b limit k.0), ap (λ m. m ∷ bytes) w.0 ∙ (ap (λ r. n ∷ r) w.1 ∙ sym (ap (λ s. s ++ rest) d)))
            | inr t ↦ absurd (never _ _ (sym (if_false (nat_le b limit && not (nat_eq b 0)) _ _ t) ∙ e1))
          ]
      | inr l ↦
          let e1 = sym (if_false (nat_lt b 128) _ _ (le-ltb b 128 l)) ∙ e in
          elim (cases_lt limit 128) [
            | inl m ↦ absurd (never _ _ (sym (if_true (nat_lt limit 128) _ _ (lt-ltb limit 128 m)) ∙ e1))
            | inr m ↦
                let e2 = sym (if_false (nat_lt limit 128) _ _ (le-ltb limit 128 m)) ∙ e1 in
                let a = after_ok (digits_at (limit / 128) bytes) (λ high. Ok (b - 128 + 128 * high.0, high.1)) (n, rest) e2 in
                let w = found_is (b - 128 + 128 * a.0.0) n a.0.1 rest a.2 in
                let g = higher o m in
                let i = digits_take most (limit / 128) bytes a.0.0 a.0.1 g.1 p.1 a.1 in
                let high : n / 128 ≡ a.0.0 = omega (arith, w.0, p.0) in
                let low : n % 128 + 128 ≡ b = omega (arith, w.0, p.0) in
                let d : digits (suc most) n ≡ (n % 128 + 128) ∷ digits most (n / 128) = digits_more most n (omega (arith, w.0, i.0)) in (
                  omega (arith, w.0, i.0),
                  omega (arith, w.0, i.1, g.0, p.0),
                  ap (λ r. b ∷ r) i.2 ∙ (ap (λ r. b ∷ (digits most a.0.0 ++ r)) w.1 ∙ (ap (λ h. b ∷ (digits most h ++ rest)) (sym high) ∙ (ap (λ l. l ∷ (digits most (n / 128) ++ rest)) (sym low) ∙ sym (ap (λ s. s ++ rest) d)))),
                )
          ]
    ]
  where
    positive : (m : ℕ) → (m ≡ 0 → ⊥) → 0 < m
    positive zero z = absurd (z refl)
    positive (suc m) z = omega arith

    higher : (limit < 128) ⊎ ((limit % 128 ≡ 127) × Ones most (limit / 128)) → 128 ≤ limit → (limit % 128 ≡ 127) × Ones most (limit / 128)
    higher (inl h) g = absurd (omega arith)
    higher (inr h) g = h

pub number_ones : Ones 10 4294967295
number_ones = inr (omega arith, inr (omega arith, inr (omega arith, inr (omega arith, inl (omega arith)))))

pub text_ones : Ones 10 255
text_ones = inr (omega arith, inl (omega arith))

pub number_take : (bytes : List ℕ) (n : ℕ) (rest : List ℕ) → IsBytes bytes → number_at bytes ≡ found n rest → (n < 2 ^ 32) × (bytes ≡ spelled_number n ++ rest)
unfolding number_at
number_take [] n rest p e = absurd (never _ _ e)
number_take (b ∷ bytes) n rest p e =
    elim (cases_eq b 0) [
      | inl z ↦
          let w = found_is 0 n bytes rest (sym (if_true (nat_eq b 0) _ _ (eq-eqb b 0 z)) ∙ e) in
          (omega (arith, w.0), ap (λ m. m ∷ bytes) z ∙ (ap (λ r. 0 ∷ r) w.1 ∙ ap (λ m. spelled_number m ++ rest) w.0))
      | inr z ↦
          let i = digits_take 10 4294967295 (b ∷ bytes) n rest number_ones p (sym (if_false (nat_eq b 0) _ _ (ne_eqb b 0 z)) ∙ e) in
          (omega (arith, i.1), i.2)
    ]

pub text_take : (bytes t rest : List ℕ) → IsBytes bytes → text_at bytes ≡ found t rest → (0 < length t) × (length t < 256) × (bytes ≡ (spelled_number (length t) ++ t) ++ rest)
unfolding text_at
text_take bytes t rest p e =
    let a = after_ok (digits_at 255 bytes) (λ n. cond (nat_lt (length n.1) n.0) short (Ok (take n.0 n.1, drop n.0 n.1))) (t, rest) e in
    let i = digits_take 10 255 bytes a.0.0 a.0.1 text_ones p a.1 in
    elim (cases_lt (length a.0.1) a.0.0) [
      | inl l ↦ absurd (never _ _ (sym (if_true (nat_lt (length a.0.1) a.0.0) _ _ (lt-ltb (length a.0.1) a.0.0 l)) ∙ a.2))
      | inr l ↦
          let w = found_is (take a.0.0 a.0.1) t (drop a.0.0 a.0.1) rest (sym (if_false (nat_lt (length a.0.1) a.0.0) _ _ (le-ltb (length a.0.1) a.0.0 l)) ∙ a.2) in
          let len : length t ≡ a.0.0 = ap length (sym w.0) ∙ length-take-le a.0.0 a.0.1 l in
          let both : a.0.1 ≡ t ++ rest = sym (take-append-drop a.0.0 a.0.1) ∙ (ap (λ z. z ++ drop a.0.0 a.0.1) w.0 ∙ ap (λ z. t ++ z) w.1) in (
            omega (arith, len, i.0),
            omega (arith, len, i.1),
            i.2 ∙ (ap (λ z. spelled_number a.0.0 ++ z) both ∙ (sym (append_assoc (spelled_number a.0.0) t rest) ∙ ap (λ k. (spelled_number k ++ t) ++ rest) (sym len))),
          )
    ]

pub count_take : (bytes : List ℕ) (n : ℕ) (rest : List ℕ) → IsBytes bytes → count_at bytes ≡ found n rest → (n ≤ 65536) × (bytes ≡ spelled_number n ++ rest)
unfolding count_at
count_take bytes n rest p e =
    let a = after_ok (number_at bytes) (λ n. cond (nat_lt 65536 n.0) (Err (record { code = FormLimit; left = length n.1 + 1 })) (Ok n)) (n, rest) e in
    let i = number_take bytes a.0.0 a.0.1 p a.1 in
    elim (cases_lt 65536 a.0.0) [
      | inl l ↦ absurd (never _ _ (sym (if_true (nat_lt 65536 a.0.0) _ _ (lt-ltb 65536 a.0.0 l)) ∙ a.2))
      | inr l ↦
          let w = found_is a.0.0 n a.0.1 rest (sym (if_false (nat_lt 65536 a.0.0) _ _ (le-ltb 65536 a.0.0 l)) ∙ a.2) in
          (omega (arith, w.0), i.1 ∙ (ap (λ k. spelled_number k ++ a.0.1) w.0 ∙ ap (λ r. spelled_number n ++ r) w.1))
    ]

-- what was read, from bytes
pub record Takes (f : Form) (d : ℕ) (bytes : List ℕ) (x : Tree) (rest : List ℕ) : Type 0 where
  pub form : IsForm x f
  pub fits : Fits x d
  pub parts : bytes ≡ spelling x ++ rest

pub record TakesItems (f : Form) (d n : ℕ) (bytes : List ℕ) (x : Tree) (rest : List ℕ) : Type 0 where
  pub form : AreForm x f
  pub fits : Fits x d
  pub size : size x ≡ n
  pub parts : bytes ≡ spelling x ++ rest

pub rest_bytes : (bytes s rest : List ℕ) → IsBytes bytes → bytes ≡ s ++ rest → IsBytes rest
rest_bytes bytes s rest p e = bytes_behind s rest (subst (λ b. IsBytes b) e p)

-- what a tag is followed by is told by tags alone
abbrev pub IsChoice : Form → Type 0
IsChoice (tag n f) = ⊤
IsChoice (alt n f g) = ⊤
IsChoice _ = ⊥

abbrev pub IsSound : Form → Type 0
IsSound (f ▹ g) = IsSound f × IsSound g
IsSound (tag n f) = IsSound f
IsSound (alt n f g) = IsSound f × IsSound g × IsChoice g
IsSound (list f) = IsSound f
IsSound _ = ⊤

pub grammar_sound : (c : Class) → IsSound (grammar c)
grammar_sound Class.Term = search depth 60
grammar_sound Class.Evidence = search depth 60
grammar_sound Class.Stat = search depth 60
grammar_sound Class.Expr = search depth 60
grammar_sound Class.Place = search depth 60

moved : (f : Form) (d : ℕ) (bytes : List ℕ) (x y : Tree) (a b : List ℕ) → found x a ≡ found y b → Takes f d bytes x a → Takes f d bytes y b
moved f d bytes x y a b e t = let w = found_is x y a b e in subst (λ z. Takes f d bytes z b) w.0 (subst (λ r. Takes f d bytes x r) w.1 t)

abbrev IsChosen : Option Form → Tree → Type 0
IsChosen o x = IsSomeAnd o (λ g. IsForm x g)

-- the choice that is taken, and one that is passed by
here : (b n : ℕ) (g : Form) (o : Option Form) (x : Tree) → b ≡ n → IsForm x g → IsChosen (cond (nat_eq b n) (Some g) o) x
here b n g o x e p = subst (λ c. IsChosen (cond c (Some g) o) x) (sym (eq-eqb b n e)) p

later : (b n : ℕ) (g : Form) (o : Option Form) (x : Tree) → (b ≡ n → ⊥) → IsChosen o x → IsChosen (cond (nat_eq b n) (Some g) o) x
later b n g o x e p = subst (λ c. IsChosen (cond c (Some g) o) x) (sym (ne_eqb b n e)) p

inv_choice : (h : Form) (x : Tree) → IsChoice h → IsForm x h → (k : ℕ) × (y : Tree) × (x ≡ tagged k y) × IsChosen (chosen h k) y
inv_choice (tag n f) (tagged k y) c p = (k, y, refl, p)
inv_choice (alt n f g) (tagged k y) c p = (k, y, refl, p)
inv_choice (tag n f) _ c p = elim p [ ]
inv_choice (alt n f g) _ c p = elim p [ ]
inv_choice _ x c p = elim c [ ]

passed : (n : ℕ) (g h : Form) (d b : ℕ) (bytes : List ℕ) (x : Tree) (rest : List ℕ) → (b ≡ n → ⊥) → IsChoice h → Takes h d (b ∷ bytes) x rest → Takes (alt n g h) d (b ∷ bytes) x rest
passed n g h d b bytes x rest e c t =
    let i = inv_choice h x c t.form in
    let same : b ≡ i.0 = ap (head_of b) (t.parts ∙ ap (λ z. spelling z ++ rest) i.2) in
    let f : IsForm (tagged i.0 i.1) (alt n g h) = later i.0 n g (chosen h i.0) i.1 (λ q. e (same ∙ q)) i.3 in
    record { form = subst (λ z. IsForm z (alt n g h)) (sym i.2) f; fits = t.fits; parts = t.parts }
  where
    head_of : ℕ → List ℕ → ℕ
    head_of z [] = z
    head_of z (y ∷ ys) = y

abbrev pub NestedTake : ℕ → Type 0
NestedTake d = (c : Class) (bytes : List ℕ) (x : Tree) (rest : List ℕ) → IsBytes bytes → nested_at d c bytes ≡ found x rest → IsForm x (grammar c) × Fits (nested x) d × (bytes ≡ spelling x ++ rest)

module _ (d : ℕ) (inner : NestedTake d) where
  pub items_take : (f : Form) (each : (bytes : List ℕ) (x : Tree) (rest : List ℕ) → IsBytes bytes → form_at (nested_at d) f bytes ≡ found x rest → Takes f d bytes x rest)
      (n : ℕ) (bytes : List ℕ) (x : Tree) (rest : List ℕ) → IsBytes bytes → items_at (form_at (nested_at d) f) n bytes ≡ found x rest → TakesItems f d n bytes x rest
  unfolding items_at
  items_take f each zero bytes x rest p e =
      let w = found_is end x bytes rest e in
      let t : TakesItems f d 0 bytes end bytes = record { form = tt; fits = tt; size = refl; parts = refl } in
      subst (λ z. TakesItems f d 0 bytes z rest) w.0 (subst (λ r. TakesItems f d 0 bytes end r) w.1 t)
  items_take f each (suc n) bytes x rest p e =
      let a = after_ok (form_at (nested_at d) f bytes) (λ x. after (items_at (form_at (nested_at d) f) n x.1) (λ xs. Ok (x.0 ⨾ xs.0, xs.1))) (x, rest) e in
      let b = after_ok (items_at (form_at (nested_at d) f) n a.0.1) (λ xs. Ok (a.0.0 ⨾ xs.0, xs.1)) (x, rest) a.2 in
      let w = found_is (a.0.0 ⨾ b.0.0) x b.0.1 rest b.2 in
      let t = each bytes a.0.0 a.0.1 p a.1 in
      let u = items_take f each n a.0.1 b.0.0 b.0.1 (rest_bytes bytes (spelling a.0.0) a.0.1 p t.parts) b.1 in
      let v : TakesItems f d (suc n) bytes (a.0.0 ⨾ b.0.0) b.0.1 = record {
        form = (t.form, u.form);
        fits = (t.fits, u.fits);
        size = ap suc u.size;
        parts = t.parts ∙ (ap (λ z. spelling a.0.0 ++ z) u.parts ∙ sym (append_assoc (spelling a.0.0) (spelling b.0.0) b.0.1));
      } in
      subst (λ z. TakesItems f d (suc n) bytes z rest) w.0 (subst (λ r. TakesItems f d (suc n) bytes (a.0.0 ⨾ b.0.0) r) w.1 v)

  form_take : (f : Form) (bytes : List ℕ) (x : Tree) (rest : List ℕ) → IsSound f → IsBytes bytes → form_at (nested_at d) f bytes ≡ found x rest → Takes f d bytes x rest
  unfolding form_at
  form_take unit bytes x rest s p e = moved unit d bytes nothing x bytes rest e (record { form = tt; fits = tt; parts = refl })
  form_take (exactly c n) [] x rest s p e = absurd (never _ _ e)
  form_take (exactly c n) (b ∷ bytes) x rest s p e =
      elim (cases_eq b n) [
        | inl z ↦ moved (exactly c n) d (b ∷ bytes) (byte b) x bytes rest (sym (if_true (nat_eq b n) _ _ (eq-eqb b n z)) ∙ e) (record { form = z; fits = tt; parts = refl })
        | inr z ↦ absurd (never _ _ (sym (if_false (nat_eq b n) _ _ (ne_eqb b n z)) ∙ e))
      ]
  form_take (range low high) [] x rest s p e = absurd (never _ _ e)
  form_take (range low high) (b ∷ bytes) x rest s p e =
      elim (cases_Bool (leb low b && leb b high)) [
        | inl z ↦
            let k = and_parts (leb low b) (leb b high) z in
            moved (range low high) d (b ∷ bytes) (byte b) x bytes rest (sym (if_true (nat_le low b && nat_le b high) _ _ z) ∙ e) (record { form = (leb-true low b k.0, leb-true b high k.1); fits = tt; parts = refl })
        | inr z ↦ absurd (never _ _ (sym (if_false (nat_le low b && nat_le b high) _ _ z) ∙ e))
      ]
  form_take num bytes x rest s p e =
      let a = after_ok (number_at bytes) (λ n. Ok (number n.0, n.1)) (x, rest) e in
      let i = number_take bytes a.0.0 a.0.1 p a.1 in
      moved num d bytes (number a.0.0) x a.0.1 rest a.2 (record { form = i.0; fits = tt; parts = i.1 })
  form_take name bytes x rest s p e =
      let a = after_ok (text_at bytes) (λ n. Ok (text n.0, n.1)) (x, rest) e in
      let i = text_take bytes a.0.0 a.0.1 p a.1 in
      moved name d bytes (text a.0.0) x a.0.1 rest a.2 (record { form = (i.0, i.1); fits = tt; parts = i.2 })
  form_take (f ▹ g) bytes x rest s p e =
      let a = after_ok (form_at (nested_at d) f bytes) (λ x. after (form_at (nested_at d) g x.1) (λ y. Ok (x.0 ▸ y.0, y.1))) (x, rest) e in
      let b = after_ok (form_at (nested_at d) g a.0.1) (λ y. Ok (a.0.0 ▸ y.0, y.1)) (x, rest) a.2 in
      let t = form_take f bytes a.0.0 a.0.1 s.0 p a.1 in
      let u = form_take g a.0.1 b.0.0 b.0.1 s.1 (rest_bytes bytes (spelling a.0.0) a.0.1 p t.parts) b.1 in
      moved (f ▹ g) d bytes (a.0.0 ▸ b.0.0) x b.0.1 rest b.2 (record {
        form = (t.form, u.form);
        fits = (t.fits, u.fits);
        parts = t.parts ∙ (ap (λ z. spelling a.0.0 ++ z) u.parts ∙ sym (append_assoc (spelling a.0.0) (spelling b.0.0) b.0.1));
      })
  form_take (tag n f) [] x rest s p e = absurd (never _ _ e)
  form_take (tag n f) (b ∷ bytes) x rest s p e =
      elim (cases_eq b n) [
        | inl z ↦
            let a = after_ok (form_at (nested_at d) f bytes) (λ x. Ok (tagged b x.0, x.1)) (x, rest) (sym (if_true (nat_eq b n) _ _ (eq-eqb b n z)) ∙ e) in
            let t = form_take f bytes a.0.0 a.0.1 s p.1 a.1 in
            moved (tag n f) d (b ∷ bytes) (tagged b a.0.0) x a.0.1 rest a.2 (record { form = here b n f None a.0.0 z t.form; fits = t.fits; parts = ap (λ r. b ∷ r) t.parts })
        | inr z ↦ absurd (never _ _ (sym (if_false (nat_eq b n) _ _ (ne_eqb b n z)) ∙ e))
      ]
  form_take (alt n f g) [] x rest s p e = absurd (never _ _ e)
  form_take (alt n f g) (b ∷ bytes) x rest s p e =
      elim (cases_eq b n) [
        | inl z ↦
            let a = after_ok (form_at (nested_at d) f bytes) (λ x. Ok (tagged b x.0, x.1)) (x, rest) (sym (if_true (nat_eq b n) _ _ (eq-eqb b n z)) ∙ e) in
            let t = form_take f bytes a.0.0 a.0.1 s.0 p.1 a.1 in
            moved (alt n f g) d (b ∷ bytes) (tagged b a.0.0) x a.0.1 rest a.2 (record { form = here b n f (chosen g b) a.0.0 z t.form; fits = t.fits; parts = ap (λ r. b ∷ r) t.parts })
        | inr z ↦ passed n f g d b bytes x rest z s.2 (form_take g (b ∷ bytes) x rest s.1 p (sym (if_false (nat_eq b n) _ _ (ne_eqb b n z)) ∙ e))
      ]
  form_take (list f) bytes x rest s p e =
      let a = after_ok (count_at bytes) (λ n. after (items_at (form_at (nested_at d) f) n.0 n.1) (λ xs. Ok (many xs.0, xs.1))) (x, rest) e in
      let b = after_ok (items_at (form_at (nested_at d) f) a.0.0 a.0.1) (λ xs. Ok (many xs.0, xs.1)) (x, rest) a.2 in
      let i = count_take bytes a.0.0 a.0.1 p a.1 in
      let u = items_take f (λ bytes x rest q h. form_take f bytes x rest s q h) a.0.0 a.0.1 b.0.0 b.0.1 (rest_bytes bytes (spelled_number a.0.0) a.0.1 p i.1) b.1 in
      moved (list f) d bytes (many b.0.0) x b.0.1 rest b.2 (record {
        form = (omega (arith, u.size, i.0), u.form);
        fits = (omega (arith, u.size, i.0), u.fits);
        parts = i.1 ∙ (ap (λ z. spelled_number a.0.0 ++ z) u.parts ∙ (sym (append_assoc (spelled_number a.0.0) (spelling b.0.0) b.0.1) ∙ ap (λ n. (spelled_number n ++ spelling b.0.0) ++ b.0.1) (sym u.size)));
      })
  form_take (part c) bytes x rest s p e =
      let a = after_ok (nested_at d c bytes) (λ x. Ok (nested x.0, x.1)) (x, rest) e in
      let i = inner c bytes a.0.0 a.0.1 p a.1 in
      moved (part c) d bytes (nested a.0.0) x a.0.1 rest a.2 (record { form = i.0; fits = i.1; parts = i.2 })

pub nested_take : (d : ℕ) → NestedTake d
unfolding nested_at
nested_take zero c [] x rest p e = absurd (never _ _ e)
nested_take zero c (b ∷ bytes) x rest p e = absurd (never _ _ e)
nested_take (suc d) c bytes x rest p e = let t = form_take d (nested_take d) (grammar c) bytes x rest (grammar_sound c) p e in (t.form, t.fits, t.parts)

pub takes : (d : ℕ) (f : Form) (bytes : List ℕ) (x : Tree) (rest : List ℕ) → IsSound f → IsBytes bytes → form_at (nested_at d) f bytes ≡ found x rest → Takes f d bytes x rest
takes d f bytes x rest s p e = form_take d (nested_take d) f bytes x rest s p e
