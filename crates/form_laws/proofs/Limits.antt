-- Where reading stops at a limit.
use Rattle.std.proofs.Common.{◌≡◌, ℕ, zero, suc, ◌+◌, ◌<◌, ◌^◌, ◌⊎◌, inl, inr, ◌&&◌, Option, Some, None, List, [], ◌∷◌, ◌++◌, length, take, drop, Ok, Err, cond, leb, refl, sym, ap, subst, ◌∙◌, append_assoc, arith}
use Rattle.std.specs.Prelude.{nat_eq, nat_lt, nat_le, IsSomeAnd}
use Rattle.std.proofs.lemmas.Bool.{cases_lt, cases_eq, cases_Bool, lt-ltb, le-ltb, ne_eqb, eq-eqb}
use Rattle.slang_names.specs.declared.form_codes.FormCode.{FormCode}
use Rattle.slang_names.specs.declared.form_codes.FormCode.TheVariants.{Short, NotCanonical, FormLimit}
use Rattle.form_grammar.specs.declared.codes.Stop.{Stop}
use Rattle.form_grammar.specs.Trees.{Tree, nothing, byte, number, text, ◌▸◌, tagged, nested, many, end, ◌⨾◌, size, spelling, spelled_number}
use Rattle.form_grammar.specs.Grammar.{Form, Class, unit, exactly, range, num, name, ◌▹◌, tag, alt, list, part, chosen, grammar}
use Rattle.form_grammar.specs.Numbers.{after, digits_at, number_at, text_at, count_at, short}
use Rattle.form_grammar.specs.Reading.{form_at, nested_at, items_at}
use Rattle.form_laws.specs.Forms.{IsForm, AreForm}
use Rattle.form_laws.specs.Refusals.{IsBytes, IsWrong}
use Rattle.form_laws.specs.Limits.{Over}
use Rattle.form_laws.proofs.Same.{in_ten, heads}
use Rattle.form_laws.proofs.Again.{if_true, if_false}
use Rattle.form_laws.proofs.Takes.{IsSound, IsChoice, stopped, number_take, count_take, takes, rest_bytes, grammar_sound}
use Rattle.form_laws.proofs.Refuses.{after_err, found_not, stop_is}
use Rattle.form_laws.proofs.Fields.{at_end, EndsOrWrong, digits_codes, number_codes}
use Rattle.form_laws.proofs.Ends.{IsCoded, grammar_coded}
use Rattle.form_laws.proofs.Completes.{HasExample, example, example_is, examples, examples_are, class_example, class_is, digits_end, own_choice, grammar_example}

abbrev pub IsLimit : Stop → Type 0
IsLimit s = s.code ≡ FormLimit

-- Behind the front a limit is passed; the byte there is the last that tells it, or any byte.
pub record Limits (P : List ℕ → List ℕ → Type 0) (bytes : List ℕ) (s : Stop) : Type 0 where
  pub front : List ℕ
  pub last : List ℕ
  pub b : ℕ
  pub back : List ℕ
  pub parts : bytes ≡ front ++ (b ∷ back)
  pub left : s.left ≡ length (b ∷ back)
  pub tells : (last ≡ []) ⊎ (last ≡ b ∷ [])
  pub is : P front last

behind : (P Q : List ℕ → List ℕ → Type 0) (before bytes rest : List ℕ) (s : Stop) → bytes ≡ before ++ rest → Limits Q rest s → ((front last : List ℕ) → Q front last → P (before ++ front) last) → Limits P bytes s
behind P Q before bytes rest s e r h = record {
  front = before ++ r.front;
  last = r.last;
  b = r.b;
  back = r.back;
  parts = e ∙ (ap (λ z. before ++ z) r.parts ∙ sym (append_assoc before r.front (r.b ∷ r.back)));
  left = r.left;
  tells = r.tells;
  is = h r.front r.last r.is;
}

no_limit : (A : Type 0) (t s : Stop) → stopped {A = A} t ≡ stopped s → (t.code ≡ FormLimit → ⊥) → IsLimit s → ⊥
no_limit A t s e n l = n (ap (λ z. z.code) (stop_is {A = A} t s e) ∙ l)

short_not : Short ≡ FormLimit → ⊥
short_not p = absurd cc

wrong_not : NotCanonical ≡ FormLimit → ⊥
wrong_not p = absurd cc

coded_not : (c : FormCode) → IsWrong c → c ≡ FormLimit → ⊥
coded_not c w e = subst (λ z. IsWrong z) e w

codes_not : (s : Stop) → EndsOrWrong s → IsLimit s → ⊥
codes_not s (inl e) l = short_not (sym (ap (λ z. z.code) e) ∙ l)
codes_not s (inr e) l = wrong_not (sym e ∙ l)

text_not : (bytes : List ℕ) (s : Stop) → text_at bytes ≡ stopped s → IsLimit s → ⊥
unfolding text_at
text_not bytes s e k =
    elim (after_err (digits_at 255 bytes) (λ n. cond (nat_lt (length n.1) n.0) short (Ok (take n.0 n.1, drop n.0 n.1))) s e) [
      | inl z ↦ codes_not s (digits_codes 255 bytes s z) k
      | inr z ↦ elim (cases_lt (length z.0.1) z.0.0) [
        | inl l ↦ no_limit (List ℕ) at_end s (sym (if_true (nat_lt (length z.0.1) z.0.0) _ _ (lt-ltb (length z.0.1) z.0.0 l)) ∙ z.2) short_not k
        | inr l ↦ absurd (found_not _ _ s (sym (if_false (nat_lt (length z.0.1) z.0.0) _ _ (le-ltb (length z.0.1) z.0.0 l)) ∙ z.2))
      ]
    ]

-- a count over the limit
CountOver : List ℕ → List ℕ → Type 0
CountOver front last = (n : ℕ) × (b : ℕ) × (65536 < n) × (n < 2 ^ 32) × (last ≡ b ∷ []) × (spelled_number n ≡ front ++ (b ∷ []))

count_limit : (bytes : List ℕ) (s : Stop) → IsBytes bytes → count_at bytes ≡ stopped s → IsLimit s → Limits CountOver bytes s
unfolding count_at CountOver
count_limit bytes s p e k =
    elim (after_err (number_at bytes) (λ n. cond (nat_lt 65536 n.0) (Err (record { code = FormLimit; left = length n.1 + 1 })) (Ok n)) s e) [
      | inl z ↦ absurd (codes_not s (number_codes bytes s z) k)
      | inr z ↦ elim (cases_lt 65536 z.0.0) [
        | inl l ↦
            let i = number_take bytes z.0.0 z.0.1 p z.1 in
            let d = digits_end 10 z.0.0 (in_ten z.0.0 i.0) in
            let n : s.left ≡ length z.0.1 + 1 = ap (λ y. y.left) (sym (stop_is {A = ℕ} (record { code = FormLimit; left = length z.0.1 + 1 }) s (sym (if_true (nat_lt 65536 z.0.0) _ _ (lt-ltb 65536 z.0.0 l)) ∙ z.2))) in
            record {
              front = d.0;
              last = d.1 ∷ [];
              b = d.1;
              back = z.0.1;
              parts = i.1 ∙ (ap (λ y. y ++ z.0.1) d.2 ∙ append_assoc d.0 (d.1 ∷ []) z.0.1);
              left = n ∙ omega arith;
              tells = inr refl;
              is = (z.0.0, d.1, l, i.0, refl, d.2);
            }
        | inr l ↦ absurd (found_not _ _ s (sym (if_false (nat_lt 65536 z.0.0) _ _ (le-ltb 65536 z.0.0 l)) ∙ z.2))
      ]
    ]

-- a tree of the form passes a limit first there, and begins so
abbrev pub LimitIs : Form → ℕ → List ℕ → List ℕ → Type 0
LimitIs f d front last = (x : Tree) × (more : List ℕ) × IsForm x f × Over x d front last × (spelling x ≡ front ++ (last ++ more))

abbrev pub LimitItems : Form → ℕ → ℕ → List ℕ → List ℕ → Type 0
LimitItems f d n front last = (x : Tree) × (more : List ℕ) × AreForm x f × (size x ≡ n) × Over x d front last × (spelling x ≡ front ++ (last ++ more))

tail3 : (w front last more t : List ℕ) → w ≡ front ++ (last ++ more) → w ++ t ≡ front ++ (last ++ (more ++ t))
tail3 w front last more t e = ap (λ z. z ++ t) e ∙ (append_assoc front (last ++ more) t ∙ ap (λ z. front ++ z) (append_assoc last more t))

head3 : (s w front last more : List ℕ) → w ≡ front ++ (last ++ more) → s ++ w ≡ (s ++ front) ++ (last ++ more)
head3 s w front last more e = ap (λ z. s ++ z) e ∙ sym (append_assoc s front (last ++ more))

abbrev IsChosen : Option Form → Tree → Type 0
IsChosen o x = IsSomeAnd o (λ g. IsForm x g)

over_passed : (n : ℕ) (f g : Form) (d b : ℕ) (bytes : List ℕ) (s : Stop) → (b ≡ n → ⊥) → IsChoice g → Limits (LimitIs g d) (b ∷ bytes) s → Limits (LimitIs (alt n f g) d) (b ∷ bytes) s
over_passed n f g d b bytes s z c r = record { front = r.front; last = r.last; b = r.b; back = r.back; parts = r.parts; left = r.left; tells = r.tells; is = (r.is.0, r.is.1, turn g c r.is.0 r.is.2 r.is.3, r.is.3, r.is.4) }
  where
    first : (k : ℕ) (rest : List ℕ) → r.front ≡ k ∷ rest → b ≡ k
    first k rest e = (heads (r.parts ∙ ap (λ l. l ++ (r.b ∷ r.back)) e)).0

    turn : (g : Form) → IsChoice g → (x : Tree) → IsForm x g → Over x d r.front r.last → IsForm x (alt n f g)
    turn (tag m t) c (tagged k y) p o = subst (λ q. IsChosen (cond q (Some f) (chosen (tag m t) k)) y) (sym (ne_eqb k n (λ q. z (first k o.0 o.1 ∙ q)))) p
    turn (alt m t u) c (tagged k y) p o = subst (λ q. IsChosen (cond q (Some f) (chosen (alt m t u) k)) y) (sym (ne_eqb k n (λ q. z (first k o.0 o.1 ∙ q)))) p
    turn (tag m t) c _ p o = elim p [ ]
    turn (alt m t u) c _ p o = elim p [ ]
    turn _ c x p o = elim c [ ]

abbrev pub NestedLimit : ℕ → Type 0
NestedLimit d = (c : Class) (bytes : List ℕ) (s : Stop) → IsBytes bytes → nested_at d c bytes ≡ stopped s → IsLimit s → Limits (LimitIs (part c) d) bytes s

module _ (d : ℕ) (inner : NestedLimit d) where
  items_limit : (f : Form) → IsSound f → HasExample f → ((bytes : List ℕ) (s : Stop) → IsBytes bytes → form_at (nested_at d) f bytes ≡ stopped s → IsLimit s → Limits (LimitIs f d) bytes s)
      → (n : ℕ) (bytes : List ℕ) (s : Stop) → IsBytes bytes → items_at (form_at (nested_at d) f) n bytes ≡ stopped s → IsLimit s → Limits (LimitItems f d n) bytes s
  unfolding items_at
  items_limit f so h each zero bytes s p e k = absurd (found_not end bytes s e)
  items_limit f so h each (suc n) bytes s p e k =
      elim (after_err (form_at (nested_at d) f bytes) (λ x. after (items_at (form_at (nested_at d) f) n x.1) (λ xs. Ok (x.0 ⨾ xs.0, xs.1))) s e) [
        | inl z ↦
            let m = examples_are f n h in
            behind (LimitItems f d (suc n)) (LimitIs f d) [] bytes bytes s refl (each bytes s p z k)
            (λ front last q. (q.0 ⨾ examples f n, q.1 ++ spelling (examples f n), (q.2, m.0), ap suc m.1, inl q.3, tail3 (spelling q.0) front last q.1 (spelling (examples f n)) q.4))
        | inr z ↦
            let t = takes d f bytes z.0.0 z.0.1 so p z.1 in
            elim (after_err (items_at (form_at (nested_at d) f) n z.0.1) (λ xs. Ok (z.0.0 ⨾ xs.0, xs.1)) s z.2) [
              | inl y ↦
                  behind (LimitItems f d (suc n)) (LimitItems f d n) (spelling z.0.0) bytes z.0.1 s t.parts
                  (items_limit f so h each n z.0.1 s (rest_bytes bytes (spelling z.0.0) z.0.1 p t.parts) y k)
                  (λ front last q. (z.0.0 ⨾ q.0, q.1, (t.form, q.2), ap suc q.3, inr (front, refl, t.fits, q.4), head3 (spelling z.0.0) (spelling q.0) front last q.1 q.5))
              | inr y ↦ absurd (found_not _ _ s y.2)
            ]
      ]

  form_limit : (f : Form) (bytes : List ℕ) (s : Stop) → IsSound f → HasExample f → IsCoded f → IsBytes bytes → form_at (nested_at d) f bytes ≡ stopped s → IsLimit s → Limits (LimitIs f d) bytes s
  unfolding form_at CountOver
  form_limit unit bytes s so h w p e k = absurd (found_not nothing bytes s e)
  form_limit (exactly c n) [] s so h w p e k = absurd (no_limit Tree at_end s e short_not k)
  form_limit (exactly c n) (b ∷ bytes) s so h w p e k =
      elim (cases_eq b n) [
        | inl z ↦ absurd (found_not (byte b) bytes s (sym (if_true (nat_eq b n) _ _ (eq-eqb b n z)) ∙ e))
        | inr z ↦ absurd (no_limit Tree (record { code = c; left = length (b ∷ bytes) }) s (sym (if_false (nat_eq b n) _ _ (ne_eqb b n z)) ∙ e) (coded_not c w) k)
      ]
  form_limit (range low high) [] s so h w p e k = absurd (no_limit Tree at_end s e short_not k)
  form_limit (range low high) (b ∷ bytes) s so h w p e k =
      elim (cases_Bool (leb low b && leb b high)) [
        | inl z ↦ absurd (found_not (byte b) bytes s (sym (if_true (nat_le low b && nat_le b high) _ _ z) ∙ e))
        | inr z ↦ absurd (no_limit Tree (record { code = NotCanonical; left = length (b ∷ bytes) }) s (sym (if_false (nat_le low b && nat_le b high) _ _ z) ∙ e) wrong_not k)
      ]
  form_limit num bytes s so h w p e k =
      elim (after_err (number_at bytes) (λ n. Ok (number n.0, n.1)) s e) [
        | inl z ↦ absurd (codes_not s (number_codes bytes s z) k)
        | inr z ↦ absurd (found_not _ _ s z.2)
      ]
  form_limit name bytes s so h w p e k =
      elim (after_err (text_at bytes) (λ n. Ok (text n.0, n.1)) s e) [
        | inl z ↦ absurd (text_not bytes s z k)
        | inr z ↦ absurd (found_not _ _ s z.2)
      ]
  form_limit (f ▹ g) bytes s so h w p e k =
      elim (after_err (form_at (nested_at d) f bytes) (λ x. after (form_at (nested_at d) g x.1) (λ y. Ok (x.0 ▸ y.0, y.1))) s e) [
        | inl z ↦
            behind (LimitIs (f ▹ g) d) (LimitIs f d) [] bytes bytes s refl (form_limit f bytes s so.0 h.0 w.0 p z k)
            (λ front last q. (q.0 ▸ example g, q.1 ++ spelling (example g), (q.2, example_is g h.1), inl q.3, tail3 (spelling q.0) front last q.1 (spelling (example g)) q.4))
        | inr z ↦
            let t = takes d f bytes z.0.0 z.0.1 so.0 p z.1 in
            elim (after_err (form_at (nested_at d) g z.0.1) (λ y. Ok (z.0.0 ▸ y.0, y.1)) s z.2) [
              | inl y ↦
                  behind (LimitIs (f ▹ g) d) (LimitIs g d) (spelling z.0.0) bytes z.0.1 s t.parts
                  (form_limit g z.0.1 s so.1 h.1 w.1 (rest_bytes bytes (spelling z.0.0) z.0.1 p t.parts) y k)
                  (λ front last q. (z.0.0 ▸ q.0, q.1, (t.form, q.2), inr (front, refl, t.fits, q.3), head3 (spelling z.0.0) (spelling q.0) front last q.1 q.4))
              | inr y ↦ absurd (found_not _ _ s y.2)
            ]
      ]
  form_limit (tag n f) [] s so h w p e k = absurd (no_limit Tree at_end s e short_not k)
  form_limit (tag n f) (b ∷ bytes) s so h w p e k =
      elim (cases_eq b n) [
        | inl z ↦ elim (after_err (form_at (nested_at d) f bytes) (λ x. Ok (tagged b x.0, x.1)) s (sym (if_true (nat_eq b n) _ _ (eq-eqb b n z)) ∙ e)) [
          | inl y ↦
              behind (LimitIs (tag n f) d) (LimitIs f d) (b ∷ []) (b ∷ bytes) bytes s refl (form_limit f bytes s so h w p.1 y k)
              (λ front last q. (tagged n q.0, q.1, own_choice n f None q.0 q.2, (front, ap (λ i. i ∷ front) z, q.3), ap (λ i. i ∷ spelling q.0) (sym z) ∙ ap (λ r. b ∷ r) q.4))
          | inr y ↦ absurd (found_not _ _ s y.2)
        ]
        | inr z ↦ absurd (no_limit Tree (record { code = NotCanonical; left = length (b ∷ bytes) }) s (sym (if_false (nat_eq b n) _ _ (ne_eqb b n z)) ∙ e) wrong_not k)
      ]
  form_limit (alt n f g) [] s so h w p e k = absurd (no_limit Tree at_end s e short_not k)
  form_limit (alt n f g) (b ∷ bytes) s so h w p e k =
      elim (cases_eq b n) [
        | inl z ↦ elim (after_err (form_at (nested_at d) f bytes) (λ x. Ok (tagged b x.0, x.1)) s (sym (if_true (nat_eq b n) _ _ (eq-eqb b n z)) ∙ e)) [
          | inl y ↦
              behind (LimitIs (alt n f g) d) (LimitIs f d) (b ∷ []) (b ∷ bytes) bytes s refl (form_limit f bytes s so.0 h.0 w.0 p.1 y k)
              (λ front last q. (tagged n q.0, q.1, own_choice n f (chosen g n) q.0 q.2, (front, ap (λ i. i ∷ front) z, q.3), ap (λ i. i ∷ spelling q.0) (sym z) ∙ ap (λ r. b ∷ r) q.4))
          | inr y ↦ absurd (found_not _ _ s y.2)
        ]
        | inr z ↦ over_passed n f g d b bytes s z so.2 (form_limit g (b ∷ bytes) s so.1 h.1 w.1 p (sym (if_false (nat_eq b n) _ _ (ne_eqb b n z)) ∙ e) k)
      ]
  form_limit (list f) bytes s so h w p e k =
      elim (after_err (count_at bytes) (λ n. after (items_at (form_at (nested_at d) f) n.0 n.1) (λ xs. Ok (many xs.0, xs.1))) s e) [
        | inl z ↦
            behind (LimitIs (list f) d) CountOver [] bytes bytes s refl (count_limit bytes s p z k)
            (λ front last q.
            let m = examples_are f q.0 h in (
              many (examples f q.0),
              spelling (examples f q.0),
              (omega (arith, m.1, q.3), m.0),
              inl (q.1, omega (arith, m.1, q.2), q.4, ap spelled_number m.1 ∙ q.5),
              ap (λ i. spelled_number i ++ spelling (examples f q.0)) m.1 ∙ (ap (λ i. i ++ spelling (examples f q.0)) (q.5 ∙ ap (λ i. front ++ i) (sym q.4)) ∙ append_assoc front last (spelling (examples f q.0))),
            ))
        | inr z ↦
            let i = count_take bytes z.0.0 z.0.1 p z.1 in
            elim (after_err (items_at (form_at (nested_at d) f) z.0.0 z.0.1) (λ xs. Ok (many xs.0, xs.1)) s z.2) [
              | inl y ↦
                  behind (LimitIs (list f) d) (LimitItems f d z.0.0) (spelled_number z.0.0) bytes z.0.1 s i.1
                  (items_limit f so h (λ bytes s q v u. form_limit f bytes s so h w q v u) z.0.0 z.0.1 s (rest_bytes bytes (spelled_number z.0.0) z.0.1 p i.1) y k)
                  (λ front last q. (
                    many q.0,
                    q.1,
                    (omega (arith, q.3, i.0), q.2),
                    inr (front, ap (λ j. spelled_number j ++ front) (sym q.3), omega (arith, q.3, i.0), q.4),
                    ap (λ j. spelled_number j ++ spelling q.0) q.3 ∙ head3 (spelled_number z.0.0) (spelling q.0) front last q.1 q.5,
                  ))
              | inr y ↦ absurd (found_not _ _ s y.2)
            ]
      ]
  form_limit (part c) bytes s so h w p e k =
      elim (after_err (nested_at d c bytes) (λ x. Ok (nested x.0, x.1)) s e) [
        | inl z ↦ inner c bytes s p z k
        | inr z ↦ absurd (found_not _ _ s z.2)
      ]

nested_limit : (d : ℕ) → NestedLimit d
unfolding nested_at
nested_limit zero c [] s p e k = absurd (no_limit Tree at_end s e short_not k)
nested_limit zero c (b ∷ bytes) s p e k = record {
  front = [];
  last = [];
  b = b;
  back = bytes;
  parts = refl;
  left = ap (λ z. z.left) (sym (stop_is {A = Tree} (record { code = FormLimit; left = length (b ∷ bytes) }) s e));
  tells = inl refl;
  is = (nested (class_example c), spelling (class_example c), class_is c, (refl, refl), refl);
}
nested_limit (suc d) c bytes s p e k =
    behind (LimitIs (part c) (suc d)) (LimitIs (grammar c) d) [] bytes bytes s refl (form_limit d (nested_limit d) (grammar c) bytes s (grammar_sound c) (grammar_example c) (grammar_coded c) p e k)
    (λ front last q. (nested q.0, q.1, q.2, q.3, q.4))

pub limits : (d : ℕ) (f : Form) (bytes : List ℕ) (s : Stop) → IsSound f → HasExample f → IsCoded f → IsBytes bytes → form_at (nested_at d) f bytes ≡ stopped s → IsLimit s → Limits (LimitIs f d) bytes s
limits d f bytes s so h w p e k = form_limit d (nested_limit d) f bytes s so h w p e k
