-- Where a module passes a limit first, reading stops.
use Rattle.std.proofs.Common.{◌≡◌, ℕ, zero, suc, ◌+◌, ◌<◌, ◌≤◌, ◌^◌, ◌⊎◌, inl, inr, List, [], ◌∷◌, ◌++◌, length, Ok, Err, refl, sym, ap, ◌∙◌, append_assoc, arith}
use Rattle.std.proofs.lemmas.Bool.{lt-ltb, le-ltb}
use Rattle.slang_names.specs.declared.form_codes.FormCode.TheVariants.{FormLimit}
use Rattle.form_grammar.specs.declared.codes.Stop.{Stop}
use Rattle.form_grammar.specs.Trees.{Tree, nothing, byte, number, text, ◌▸◌, tagged, nested, many, end, ◌⨾◌, size, spelling, spelled_number}
use Rattle.form_grammar.specs.Grammar.{Form, ◌▹◌, list, part, grammar, module_form}
use Rattle.form_grammar.specs.Numbers.{after, count_at}
use Rattle.form_grammar.specs.Reading.{form_at, nested_at, items_at}
use Rattle.form_laws.specs.Forms.{IsForm, AreForm}
use Rattle.form_laws.specs.Limits.{Over, LimitAt}
use Rattle.form_laws.proofs.Same.{heads, inv_tagged}
use Rattle.form_laws.proofs.Again.{number_again, chosen_at, form_again}

-- the stop at a limit
abbrev pub over_stop : ℕ → Stop
over_stop left = record { code = FormLimit; left = left }

abbrev pub Tells : List ℕ → ℕ → Type 0
Tells last b = (last ≡ []) ⊎ (last ≡ b ∷ [])

count_fits : (n : ℕ) (rest : List ℕ) → n ≤ 65536 → count_at (spelled_number n ++ rest) ≡ Ok (n, rest)
unfolding count_at after
count_fits n rest h = rw (number_again n rest (omega arith), le-ltb 65536 n h) refl

count_over : (n : ℕ) (rest : List ℕ) → 65536 < n → n < 2 ^ 32 → count_at (spelled_number n ++ rest) ≡ Err (over_stop (length rest + 1))
unfolding count_at after
count_over n rest h k = rw (number_again n rest k, lt-ltb 65536 n h) refl

-- the byte that tells the count
told : (last : List ℕ) (b c : ℕ) → last ≡ c ∷ [] → Tells last b → c ≡ b
told last b c e (inl t) = absurd (let q = sym e ∙ t in cc)
told last b c e (inr t) = (heads (sym e ∙ t)).0

behind_front : (front rest before : List ℕ) (b : ℕ) (back : List ℕ) → front ≡ before ++ rest → front ++ (b ∷ back) ≡ before ++ (rest ++ (b ∷ back))
behind_front front rest before b back e = ap (λ z. z ++ (b ∷ back)) e ∙ append_assoc before rest (b ∷ back)

mutual
  unfolding form_at after nested_at items_at

  pub over_stops : (x : Tree) (f : Form) (d : ℕ) (front last : List ℕ) (b : ℕ) (back : List ℕ) → IsForm x f → Over x d front last → Tells last b
      → form_at (nested_at d) f (front ++ (b ∷ back)) ≡ Err (over_stop (length (b ∷ back)))
  over_stops (x ▸ y) (f ▹ g) d front last b back p (inl o) t = rw (over_stops x f d front last b back p.0 o t) refl
  over_stops (x ▸ y) (f ▹ g) d front last b back p (inr o) t =
      ap (form_at (nested_at d) (f ▹ g)) (behind_front front o.0 (spelling x) b back o.1)
      ∙ rw (form_again x f d (o.0 ++ (b ∷ back)) p.0 o.2, over_stops y g d o.0 last b back p.1 o.3 t) refl
  over_stops (many xs) (list f) d front last b back p (inl o) t =
      let c : o.0 ≡ b = told last b o.0 o.2 t in
      let w : spelled_number (size xs) ++ back ≡ front ++ (b ∷ back) = ap (λ z. z ++ back) o.3 ∙ (append_assoc front (o.0 ∷ []) back ∙ ap (λ z. front ++ (z ∷ back)) c) in
      ap (form_at (nested_at d) (list f)) (sym w) ∙ (rw (count_over (size xs) back o.1 p.0) (ap (λ n. Err (over_stop n)) (omega arith)))
  over_stops (many xs) (list f) d front last b back p (inr o) t =
      ap (form_at (nested_at d) (list f)) (behind_front front o.0 (spelled_number (size xs)) b back o.1)
      ∙ rw (count_fits (size xs) (o.0 ++ (b ∷ back)) o.2, items_over xs f d o.0 last b back p.1 o.3 t) refl
  over_stops (nested x) (part c) zero front last b back p o t = ap (λ z. form_at (nested_at zero) (part c) (z ++ (b ∷ back))) o.0
  over_stops (nested x) (part c) (suc d) front last b back p o t = rw (over_stops x (grammar c) d front last b back p o t) refl
  over_stops (tagged k x) f d front last b back p o t =
      let i = inv_tagged k x f p in
      ap (λ z. form_at (nested_at d) f (z ++ (b ∷ back))) o.1
      ∙ (chosen_at (nested_at d) f i.0 k (o.0 ++ (b ∷ back)) i.1 ∙ rw (over_stops x i.0 d o.0 last b back i.2 o.2 t) refl)
  over_stops nothing f d front last b back p o t = absurd o
  over_stops (byte n) f d front last b back p o t = absurd o
  over_stops (number n) f d front last b back p o t = absurd o
  over_stops (text n) f d front last b back p o t = absurd o
  over_stops end f d front last b back p o t = absurd o
  over_stops _ _ d front last b back p o t = elim p [ ]

  pub items_over : (xs : Tree) (f : Form) (d : ℕ) (front last : List ℕ) (b : ℕ) (back : List ℕ) → AreForm xs f → Over xs d front last → Tells last b
      → items_at (form_at (nested_at d) f) (size xs) (front ++ (b ∷ back)) ≡ Err (over_stop (length (b ∷ back)))
  items_over (x ⨾ xs) f d front last b back p (inl o) t = rw (over_stops x f d front last b back p.0 o t) refl
  items_over (x ⨾ xs) f d front last b back p (inr o) t =
      ap (items_at (form_at (nested_at d) f) (suc (size xs))) (behind_front front o.0 (spelling x) b back o.1)
      ∙ rw (form_again x f d (o.0 ++ (b ∷ back)) p.0 o.2, items_over xs f d o.0 last b back p.1 o.3 t) refl
  items_over end f d front last b back p o t = absurd o
  items_over _ f d front last b back p o t = elim p [ ]

pub limit_stops : (bytes : List ℕ) (s : Stop) → LimitAt bytes s → form_at (nested_at 128) module_form bytes ≡ Err (over_stop s.left)
limit_stops bytes s l =
    ap (form_at (nested_at 128) module_form) l.parts
    ∙ (over_stops l.core module_form 128 l.front l.last l.b l.back l.form l.over l.tells ∙ ap (λ n. Err (over_stop n)) (sym l.left))
