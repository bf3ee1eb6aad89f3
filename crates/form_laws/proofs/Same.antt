-- No spelling begins another, and each spelling is of one tree.
use Rattle.std.proofs.Common.{◌≡◌, ℕ, zero, suc, ◌+◌, ◌/◌, ◌%◌, ◌^◌, ◌<◌, ◌≤◌, ◌⊎◌, inl, inr, Option, Some, None, List, [], ◌∷◌, ◌++◌, length, cond, refl, sym, ap, subst, ◌∙◌, append_assoc, arith}
use Rattle.std.specs.Prelude.{IsSomeAnd}
use Rattle.std.proofs.lemmas.Bool.{cases_lt, lt-ltb, le-ltb}
use Rattle.slang_names.specs.declared.form_codes.FormCode.{FormCode}
use Rattle.form_grammar.specs.Trees.{Tree, nothing, byte, number, text, ◌▸◌, tagged, nested, many, end, ◌⨾◌, size, spelling, spelled_number, digits}
use Rattle.form_grammar.specs.Grammar.{Form, Class, unit, exactly, range, num, name, ◌▹◌, list, part, chosen, grammar}
use Rattle.form_laws.specs.Forms.{IsForm, AreForm}

-- so many digits are enough
abbrev pub InDigits : ℕ → ℕ → Type 0
InDigits zero n = ⊥
InDigits (suc most) n = (n < 128) ⊎ InDigits most (n / 128)

pub digits_last : (most n : ℕ) → n < 128 → digits (suc most) n ≡ n ∷ []
digits_last most n h = ap (λ b. cond b (n ∷ []) ((n % 128 + 128) ∷ digits most (n / 128))) (lt-ltb n 128 h)

pub digits_more : (most n : ℕ) → 128 ≤ n → digits (suc most) n ≡ (n % 128 + 128) ∷ digits most (n / 128)
digits_more most n h = ap (λ b. cond b (n ∷ []) ((n % 128 + 128) ∷ digits most (n / 128))) (le-ltb n 128 h)

pub heads : {x y : ℕ} {a b : List ℕ} → x ∷ a ≡ y ∷ b → (x ≡ y) × (a ≡ b)
heads e = (cc, cc)

digits_same : (most m n : ℕ) (a b : List ℕ) → InDigits most m → InDigits most n → digits most m ++ a ≡ digits most n ++ b → (m ≡ n) × (a ≡ b)
digits_same zero m n a b p q e = absurd p
digits_same (suc most) m n a b p q e =
    elim (cases_lt m 128) [
      | inl lm ↦ elim (cases_lt n 128) [
        | inl ln ↦ heads (ap (λ l. l ++ a) (sym (digits_last most m lm)) ∙ (e ∙ ap (λ l. l ++ b) (digits_last most n ln)))
        | inr ln ↦
            let h = heads (ap (λ l. l ++ a) (sym (digits_last most m lm)) ∙ (e ∙ ap (λ l. l ++ b) (digits_more most n ln))) in
            absurd (omega (arith, h.0))
      ]
      | inr lm ↦ elim (cases_lt n 128) [
        | inl ln ↦
            let h = heads (ap (λ l. l ++ a) (sym (digits_more most m lm)) ∙ (e ∙ ap (λ l. l ++ b) (digits_last most n ln))) in
            absurd (omega (arith, h.0))
        | inr ln ↦
            let h = heads (ap (λ l. l ++ a) (sym (digits_more most m lm)) ∙ (e ∙ ap (λ l. l ++ b) (digits_more most n ln))) in
            let i = digits_same most (m / 128) (n / 128) a b (higher p lm) (higher q ln) h.1 in
            (omega (arith, h.0, i.0), i.1)
      ]
    ]
  where
    higher : {k : ℕ} → (k < 128) ⊎ InDigits most (k / 128) → 128 ≤ k → InDigits most (k / 128)
    higher (inl h) g = absurd (omega arith)
    higher (inr h) g = h

pub in_ten : (n : ℕ) → n < 2 ^ 32 → InDigits 10 n
in_ten n h =
    elim (cases_lt n 128) [
      | inl l ↦ inl l
      | inr _ ↦ inr (elim (cases_lt (n / 128) 128) [
        | inl l ↦ inl l
        | inr _ ↦ inr (elim (cases_lt (n / 128 / 128) 128) [
          | inl l ↦ inl l
          | inr _ ↦ inr (elim (cases_lt (n / 128 / 128 / 128) 128) [
            | inl l ↦ inl l
            | inr _ ↦ inr (inl (omega arith))
          ])
        ])
      ])
    ]

pub number_same : (m n : ℕ) (a b : List ℕ) → m < 2 ^ 32 → n < 2 ^ 32 → spelled_number m ++ a ≡ spelled_number n ++ b → (m ≡ n) × (a ≡ b)
number_same m n a b p q e = digits_same 10 m n a b (in_ten m p) (in_ten n q) e

-- ---- what a tree of a form is

pub inv_unit : (x : Tree) → IsForm x unit → x ≡ nothing
inv_unit nothing p = refl
inv_unit _ p = elim p [ ]

pub inv_exactly : (x : Tree) (c : FormCode) (n : ℕ) → IsForm x (exactly c n) → x ≡ byte n
inv_exactly (byte b) c n p = ap byte p
inv_exactly _ c n p = elim p [ ]

pub inv_range : (x : Tree) (low high : ℕ) → IsForm x (range low high) → (b : ℕ) × (x ≡ byte b)
inv_range (byte b) low high p = (b, refl)
inv_range _ low high p = elim p [ ]

pub inv_num : (x : Tree) → IsForm x num → (n : ℕ) × (x ≡ number n) × (n < 2 ^ 32)
inv_num (number n) p = (n, refl, p)
inv_num _ p = elim p [ ]

pub inv_name : (x : Tree) → IsForm x name → (bytes : List ℕ) × (x ≡ text bytes) × (0 < length bytes) × (length bytes < 256)
inv_name (text bytes) p = (bytes, refl, p.0, p.1)
inv_name _ p = elim p [ ]

pub inv_pair : (z : Tree) (f g : Form) → IsForm z (f ▹ g) → (x : Tree) × (y : Tree) × (z ≡ x ▸ y) × IsForm x f × IsForm y g
inv_pair (x ▸ y) f g p = (x, y, refl, p.0, p.1)
inv_pair _ f g p = elim p [ ]

pub inv_list : (x : Tree) (f : Form) → IsForm x (list f) → (xs : Tree) × (x ≡ many xs) × (size xs < 2 ^ 32) × AreForm xs f
inv_list (many xs) f p = (xs, refl, p.0, p.1)
inv_list _ f p = elim p [ ]

pub inv_part : (x : Tree) (c : Class) → IsForm x (part c) → (y : Tree) × (x ≡ nested y) × IsForm y (grammar c)
inv_part (nested y) c p = (y, refl, p)
inv_part _ c p = elim p [ ]

pub inv_chain : (x : Tree) (f : Form) → AreForm x f → (x ≡ end) ⊎ ((y : Tree) × (ys : Tree) × (x ≡ y ⨾ ys) × IsForm y f × AreForm ys f)
inv_chain end f p = inl refl
inv_chain (y ⨾ ys) f p = inr (y, ys, refl, p.0, p.1)
inv_chain _ f p = elim p [ ]

chain_empty : (y : Tree) (f : Form) → AreForm y f → 0 ≡ size y → y ≡ end
chain_empty end f p e = refl
chain_empty (y ⨾ ys) f p e = absurd (omega arith)
chain_empty _ f p e = elim p [ ]

pub chain_more : (y : Tree) (f : Form) (n : ℕ) → AreForm y f → suc n ≡ size y → (z : Tree) × (zs : Tree) × (y ≡ z ⨾ zs) × IsForm z f × AreForm zs f × (n ≡ size zs)
chain_more end f n p e = absurd (omega arith)
chain_more (z ⨾ zs) f n p e = (z, zs, refl, p.0, p.1, omega arith)
chain_more _ f n p e = elim p [ ]

abbrev pub IsChosen : Option Form → Tree → Type 0
IsChosen o x = IsSomeAnd o (λ g. IsForm x g)

pub inv_tagged : (k : ℕ) (x : Tree) (f : Form) → IsForm (tagged k x) f → (g : Form) × (chosen f k ≡ Some g) × IsForm x g
inv_tagged k x f p = go (chosen f k) refl p
  where
    go : (o : Option Form) → chosen f k ≡ o → IsChosen o x → (g : Form) × (chosen f k ≡ Some g) × IsForm x g
    go None e q = elim q [ ]
    go (Some g) e q = (g, e, q)

-- lists of one length in front
pub split_same : (s t a b : List ℕ) → length s ≡ length t → s ++ a ≡ t ++ b → (s ≡ t) × (a ≡ b)
split_same [] [] a b n e = (refl, e)
split_same [] (y ∷ t) a b n e = absurd (omega arith)
split_same (x ∷ s) [] a b n e = absurd (omega arith)
split_same (x ∷ s) (y ∷ t) a b n e =
    let h = heads e in
    let i = split_same s t a b (omega arith) h.1 in
    (ap (λ z. z ∷ s) h.0 ∙ ap (λ z. y ∷ z) i.0, i.1)

abbrev pub some_form : Form → Option Form
some_form f = Some f

abbrev pub none_form : Option Form
none_form = None

pub none_some : {f : Form} → none_form ≡ some_form f → ⊥
none_some e = absurd cc

pub some_same : {f g : Form} → some_form f ≡ some_form g → f ≡ g
some_same e = cc

-- a tree of a form that has a choice for some tag is tagged
is_tagged : (y : Tree) (f : Form) (g : Form) (k : ℕ) → chosen f k ≡ Some g → IsForm y f → (n : ℕ) × (x : Tree) × (y ≡ tagged n x) × (h : Form) × (chosen f n ≡ Some h) × IsForm x h
is_tagged (tagged n x) f g k e q = let i = inv_tagged n x f q in (n, x, refl, i.0, i.1, i.2)
is_tagged nothing unit g k e q = absurd (none_some e)
is_tagged (byte b) (exactly c n) g k e q = absurd (none_some e)
is_tagged (byte b) (range l h) g k e q = absurd (none_some e)
is_tagged (number n) num g k e q = absurd (none_some e)
is_tagged (text n) name g k e q = absurd (none_some e)
is_tagged (x ▸ z) (f ▹ h) g k e q = absurd (none_some e)
is_tagged (many x) (list f) g k e q = absurd (none_some e)
is_tagged (nested x) (part c) g k e q = absurd (none_some e)
is_tagged _ _ g k e q = elim q [ ]

pub regroup : (s t a u v b : List ℕ) → (s ++ t) ++ a ≡ (u ++ v) ++ b → s ++ (t ++ a) ≡ u ++ (v ++ b)
regroup s t a u v b e = sym (append_assoc s t a) ∙ (e ∙ append_assoc u v b)

at_empty : (y x : Tree) (a b : List ℕ) → spelling x ≡ [] → y ≡ x → a ≡ spelling y ++ b → a ≡ b
at_empty y x a b n p e = e ∙ (ap (λ z. spelling z ++ b) p ∙ ap (λ l. l ++ b) n)

mutual
  pub same : (x : Tree) (f : Form) (y : Tree) (a b : List ℕ) → IsForm x f → IsForm y f → spelling x ++ a ≡ spelling y ++ b → (x ≡ y) × (a ≡ b)
  same nothing unit y a b p q e = let i = inv_unit y q in (sym i, at_empty y nothing a b refl i e)
  same (byte k) (exactly c n) y a b p q e =
      let i = inv_exactly y c n q in
      let h = heads (e ∙ ap (λ z. spelling z ++ b) i) in
      (ap byte p ∙ sym i, h.1)
  same (byte k) (range low high) y a b p q e =
      let i = inv_range y low high q in
      let h = heads (e ∙ ap (λ z. spelling z ++ b) i.1) in
      (ap byte h.0 ∙ sym i.1, h.1)
  same (number n) num y a b p q e =
      let i = inv_num y q in
      let h = number_same n i.0 a b p i.2 (e ∙ ap (λ z. spelling z ++ b) i.1) in
      (ap number h.0 ∙ sym i.1, h.1)
  same (text bytes) name y a b p q e =
      let i = inv_name y q in
      let r = regroup (spelled_number (length bytes)) bytes a (spelled_number (length i.0)) i.0 b (e ∙ ap (λ z. spelling z ++ b) i.1) in
      let h = number_same (length bytes) (length i.0) (bytes ++ a) (i.0 ++ b) (omega (arith, p.1)) (omega (arith, i.3)) r in
      let t = split_same bytes i.0 a b h.0 h.1 in
      (ap text t.0 ∙ sym i.1, t.1)
  same (x ▸ z) (f ▹ g) y a b p q e =
      let i = inv_pair y f g q in
      let r = regroup (spelling x) (spelling z) a (spelling i.0) (spelling i.1) b (e ∙ ap (λ z. spelling z ++ b) i.2) in
      let h = same x f i.0 (spelling z ++ a) (spelling i.1 ++ b) p.0 i.3 r in
      let k = same z g i.1 a b p.1 i.4 h.1 in
      (ap (λ t. t ▸ z) h.0 ∙ (ap (λ t. i.0 ▸ t) k.0 ∙ sym i.2), k.1)
  same (many xs) (list f) y a b p q e =
      let i = inv_list y f q in
      let r = regroup (spelled_number (size xs)) (spelling xs) a (spelled_number (size i.0)) (spelling i.0) b (e ∙ ap (λ z. spelling z ++ b) i.1) in
      let h = number_same (size xs) (size i.0) (spelling xs ++ a) (spelling i.0 ++ b) p.0 i.2 r in
      let k = same_chain xs f i.0 a b p.1 i.3 h.0 h.1 in
      (ap many k.0 ∙ sym i.1, k.1)
  same (nested x) (part c) y a b p q e =
      let i = inv_part y c q in
      let h = same x (grammar c) i.0 a b p i.2 (e ∙ ap (λ z. spelling z ++ b) i.1) in
      (ap nested h.0 ∙ sym i.1, h.1)
  same (tagged k x) f y a b p q e =
      let i = inv_tagged k x f p in
      let j = is_tagged y f (i.0) k i.1 q in
      let h = heads (e ∙ ap (λ z. spelling z ++ b) j.2) in
      let c : i.0 ≡ j.3 = some_same (sym i.1 ∙ (ap (chosen f) h.0 ∙ j.4)) in
      let w = same x i.0 j.1 a b i.2 (subst (λ g. IsForm j.1 g) (sym c) j.5) h.1 in
      (ap (λ n. tagged n x) h.0 ∙ (ap (tagged j.0) w.0 ∙ sym j.2), w.1)
  same _ _ y a b p q e = elim p [ ]

  pub same_chain : (x : Tree) (f : Form) (y : Tree) (a b : List ℕ) → AreForm x f → AreForm y f → size x ≡ size y → spelling x ++ a ≡ spelling y ++ b → (x ≡ y) × (a ≡ b)
  same_chain end f y a b p q n e = let i = chain_empty y f q n in (sym i, at_empty y end a b refl i e)
  same_chain (x ⨾ xs) f y a b p q n e =
      let i = chain_more y f (size xs) q n in
      let r = regroup (spelling x) (spelling xs) a (spelling i.0) (spelling i.1) b (e ∙ ap (λ z. spelling z ++ b) i.2) in
      let h = same x f i.0 (spelling xs ++ a) (spelling i.1 ++ b) p.0 i.3 r in
      let k = same_chain xs f i.1 a b p.1 i.4 i.5 h.1 in
      (ap (λ t. t ⨾ xs) h.0 ∙ (ap (λ t. i.0 ⨾ t) k.0 ∙ sym i.2), k.1)
  same_chain _ f y a b p q n e = elim p [ ]
