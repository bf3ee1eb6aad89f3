-- Where bytes are refused, and that there is one such place and one code.
use Rattle.std.proofs.Common.{◌≡◌, ℕ, suc, ◌+◌, ◌<◌, ◌≤◌, ◌⊎◌, inl, inr, List, [], ◌∷◌, ◌++◌, length, take, drop, Result, Ok, Err, refl, sym, ap, subst, ◌∙◌, append_assoc, arith}
use Rattle.std.proofs.lemmas.Bool.{cases_lt}
use Rattle.std.proofs.lemmas.List.{append-nil, length-append, take-append-drop, length-take-le}
use Rattle.slang_names.specs.declared.form_codes.FormCode.{FormCode}
use Rattle.slang_names.specs.declared.form_codes.FormCode.TheVariants.{Short, BadMagic, BadVersion, NotCanonical, Trailing, NotTyped, FormLimit, WrongName}
use Rattle.form_grammar.specs.declared.codes.Stop.{Stop}
use Rattle.form_grammar.specs.Trees.{Tree, ◌▸◌, spelling}
use Rattle.form_grammar.specs.Grammar.{Form, module_form, exactly, ◌▹◌}
use Rattle.form_grammar.specs.Reading.{form_at, nested_at}
use Rattle.form_laws.specs.Forms.{IsForm, IsStored, IsCut, GoesOn}
use Rattle.form_laws.specs.Limits.{LimitAt}
use Rattle.form_laws.specs.Refusals.{IsBytes, StopsAt}
use Rattle.form_laws.specs.Refusals as below
use Rattle.form_laws.proofs.Same.{same, split_same, heads, inv_pair, inv_exactly}
use Rattle.form_laws.proofs.Again.{form_again}
use Rattle.form_laws.proofs.Takes.{found, stopped, takes}
use Rattle.form_laws.proofs.Refuses.{stop_is, found_not}
use Rattle.form_laws.proofs.Refusals.{module_sound, module_stops, module_limit}
use Rattle.form_refusals.specs.Refused.{most_bytes, Spells, PassesAt, IsBlamed, IsWrong, Is, RefusedAt}
use Rattle.form_refusals.proofs.Over.{over_stop, limit_stops}
use Rattle.form_refusals.proofs.Codes.{CodeAt, module_codes}

abbrev pub Reading : List ℕ → Result (Tree × List ℕ) Stop
Reading bytes = form_at (nested_at 128) module_form bytes

-- ---- beginnings of modules

pub goes_back : (a b : List ℕ) → GoesOn (a ++ b) → GoesOn a
goes_back a b g = (b ++ g.0, (g.1.0, g.1.1, sym (append_assoc a b g.0) ∙ g.1.2))

pub stored_cut : (front : List ℕ) → IsStored front → IsCut front → ⊥
stored_cut front s c =
    let h = same s.0 module_form c.2.0 c.0 [] s.1 c.2.1 (ap (λ z. z ++ c.0) (sym s.2) ∙ (c.2.2 ∙ sym (append-nil (spelling c.2.0)))) in
    omega (arith, c.1, ap length h.1)

-- behind a whole module no byte goes on
pub none_behind : (x : Tree) (b : ℕ) → IsForm x module_form → GoesOn (spelling x ++ b ∷ []) → ⊥
none_behind x b p g =
    let h = same x module_form g.1.0 (b ∷ g.0) [] p g.1.1 (sym (append_assoc (spelling x) (b ∷ []) g.0) ∙ (g.1.2 ∙ sym (append-nil (spelling g.1.0)))) in
    absurd (let q = h.1 in cc)

behind_byte : (c : FormCode) (n : ℕ) (g : Form) (k : ℕ) → ((y : Tree) → IsForm y g → k ≤ length (spelling y)) → (x : Tree) → IsForm x (exactly c n ▹ g) → suc k ≤ length (spelling x)
behind_byte c n g k f x p =
    let i = inv_pair x (exactly c n) g p in
    omega (arith, f i.1 i.4, ap (λ z. length (spelling z)) (i.2 ∙ ap (λ z. z ▸ i.1) (inv_exactly i.0 c n i.3)))

module_long : (x : Tree) → IsForm x module_form → 5 ≤ length (spelling x)
module_long =
    behind_byte BadMagic 0x53 _ 4 (behind_byte BadMagic 0x4C _ 3 (behind_byte BadMagic 0x4D _ 2 (behind_byte BadMagic 0x4F _ 1 (behind_byte BadVersion 1 _ 0 (λ y p. omega arith)))))

stored_long : (front : List ℕ) → IsStored front → 4 < length front
stored_long front s = omega (arith, module_long s.0 s.1, ap length s.2)

-- a longer beginning of the same bytes begins so
longer_front : (a : List ℕ) (b : ℕ) (rest c d : List ℕ) → a ++ (b ∷ rest) ≡ c ++ d → length a < length c → (e : List ℕ) × (c ≡ (a ++ b ∷ []) ++ e)
longer_front [] b rest [] d e l = absurd (omega arith)
longer_front [] b rest (y ∷ c) d e l = (c, ap (λ z. z ∷ c) (sym (heads e).0))
longer_front (x ∷ a) b rest [] d e l = absurd (omega arith)
longer_front (x ∷ a) b rest (y ∷ c) d e l =
    let h = heads e in
    let i = longer_front a b rest c d h.1 (omega arith) in
    (i.0, ap (λ z. z ∷ c) (sym h.0) ∙ ap (λ z. x ∷ z) i.1)

-- ---- limits

limit_is : (bytes : List ℕ) (s : Stop) (k : ℕ) → Reading bytes ≡ stopped s → PassesAt bytes k → (k ≡ most_bytes) ⊎ ((k + s.left ≡ length bytes) × (s.code ≡ FormLimit))
limit_is bytes s k e p = go p.1
  where
    go : (k ≡ most_bytes) ⊎ ((t : Stop) × (k + t.left ≡ length bytes) × LimitAt bytes t) → (k ≡ most_bytes) ⊎ ((k + s.left ≡ length bytes) × (s.code ≡ FormLimit))
    go (inl z) = inl z
    go (inr z) =
        let w = stop_is {A = Tree} (over_stop z.0.left) s (sym (limit_stops bytes z.0 z.2) ∙ e) in
        inr (omega (arith, z.1, ap (λ y. y.left) w), sym (ap (λ y. y.code) w))

limit_none : (bytes : List ℕ) (x : Tree) (rest : List ℕ) (k : ℕ) → Reading bytes ≡ found x rest → PassesAt bytes k → k ≡ most_bytes
limit_none bytes x rest k e p = go p.1
  where
    go : (k ≡ most_bytes) ⊎ ((t : Stop) × (k + t.left ≡ length bytes) × LimitAt bytes t) → k ≡ most_bytes
    go (inl z) = z
    go (inr z) = absurd (found_not x rest (over_stop z.0.left) (sym e ∙ limit_stops bytes z.0 z.2))

-- ---- where reading stops

module _ (bytes : List ℕ) (s : Stop) (place : ℕ) (p : IsBytes bytes) (e : Reading bytes ≡ stopped s) (n : place + s.left ≡ length bytes) (w : (place < most_bytes) ⊎ (length bytes ≤ most_bytes)) (t : StopsAt bytes s) where
  at_place : length t.front ≡ place
  at_place = omega (arith, n, t.left, ap length t.parts, length-append t.front t.back)

  not_most : place < length bytes → place ≡ most_bytes → ⊥
  not_most l m = go w
    where
      go : (place < most_bytes) ⊎ (length bytes ≤ most_bytes) → ⊥
      go (inl h) = omega arith
      go (inr h) = omega arith

  passes_here : PassesAt (t.front ++ t.back) (length t.front) → s.code ≡ FormLimit
  passes_here q = go (limit_is bytes s place e q2)
    where
      q2 : PassesAt bytes place
      q2 = subst (λ z. PassesAt bytes z) at_place (subst (λ z. PassesAt z (length t.front)) (sym t.parts) q)

      go : (place ≡ most_bytes) ⊎ ((place + s.left ≡ length bytes) × (s.code ≡ FormLimit)) → s.code ≡ FormLimit
      go (inl m) = absurd (not_most q2.0 m)
      go (inr z) = z.1

  wrong_is : (code : FormCode) → s.code ≡ code → below.IsWrong code → IsBlamed code t.front → IsWrong code t.front t.back
  wrong_is code z v i = let h = t.here (subst (λ c. below.IsWrong c) (sym z) v) in (h.0, h.1, h.2, h.3, i)

  limit_here : s.code ≡ FormLimit → PassesAt (t.front ++ t.back) (length t.front)
  limit_here z =
      let l = module_limit bytes s p e z in
      let q : PassesAt bytes place = (omega (arith, n, l.left), inr (s, n, l)) in
      subst (λ y. PassesAt y (length t.front)) t.parts (subst (λ y. PassesAt bytes y) (sym at_place) q)

  here_is : CodeAt bytes s → Is s.code t.front t.back
  here_is (inl z) = subst (λ c. Is c t.front t.back) (sym z) (t.ends z, t.before)
  here_is (inr (inl z)) = subst (λ c. Is c t.front t.back) (sym z) (limit_here z)
  here_is (inr (inr (inl z))) =
      subst (λ c. Is c t.front t.back) (sym z.0)
      ((λ q. absurd (let h = sym z.0 ∙ passes_here q in cc)), wrong_is BadMagic z.0 tt (omega (arith, z.1, n, at_place)))
  here_is (inr (inr (inr (inl z)))) =
      subst (λ c. Is c t.front t.back) (sym z.0)
      ((λ q. absurd (let h = sym z.0 ∙ passes_here q in cc)), wrong_is BadVersion z.0 tt (omega (arith, z.1, n, at_place)))
  here_is (inr (inr (inr (inr z)))) =
      subst (λ c. Is c t.front t.back) (sym z.0)
      ((λ q. absurd (let h = sym z.0 ∙ passes_here q in cc)), wrong_is NotCanonical z.0 tt (omega (arith, z.1, n, at_place), λ y. stored_cut t.front y t.before))

  none_before : (k : ℕ) → k < place → PassesAt bytes k → ⊥
  none_before k l q = go (limit_is bytes s k e q)
    where
      below_most : (place < most_bytes) ⊎ (length bytes ≤ most_bytes) → k ≡ most_bytes → ⊥
      below_most (inl h) m = omega arith
      below_most (inr h) m = omega (arith, n)

      go : (k ≡ most_bytes) ⊎ ((k + s.left ≡ length bytes) × (s.code ≡ FormLimit)) → ⊥
      go (inl m) = below_most w m
      go (inr z) = omega (arith, n, z.0)

  stands : RefusedAt bytes place s.code
  stands = record {
    front = t.front;
    back = t.back;
    parts = t.parts;
    at = at_place;
    before = (t.before.0, t.before.2);
    within = none_before;
    here = here_is (module_codes bytes s p e);
  }

pub refused_where : (bytes : List ℕ) (s : Stop) (place : ℕ) → IsBytes bytes → Reading bytes ≡ stopped s → place + s.left ≡ length bytes → (place < most_bytes) ⊎ (length bytes ≤ most_bytes) → RefusedAt bytes place s.code
refused_where bytes s place p e n w = stands bytes s place p e n w (module_stops bytes s p e)

pub trailing_where : (bytes : List ℕ) (x : Tree) (b : ℕ) (rest : List ℕ) → IsBytes bytes → Reading bytes ≡ found x (b ∷ rest) → length (spelling x) < most_bytes → RefusedAt bytes (length (spelling x)) Trailing
trailing_where bytes x b rest p e l =
    let t = takes 128 module_form bytes x (b ∷ rest) module_sound p e in
    record {
      front = spelling x;
      back = b ∷ rest;
      parts = t.parts;
      at = refl;
      before = ([], (x, t.form, append-nil (spelling x)));
      within = λ k h q. let m = limit_none bytes x (b ∷ rest) k e q in omega arith;
      here = (
        (λ q. let m = limit_none bytes x (b ∷ rest) (length (spelling x)) e (subst (λ z. PassesAt z (length (spelling x))) (sym t.parts) q) in omega arith),
        (b, rest, refl, none_behind x b t.form, (x, t.form, refl)),
      );
    }

-- too many bytes, of which so many begin a module
long_where : (bytes whole back : List ℕ) → bytes ≡ whole ++ back → GoesOn whole → most_bytes ≤ length whole → most_bytes < length bytes → ((k : ℕ) → k < most_bytes → PassesAt bytes k → ⊥) → RefusedAt bytes most_bytes FormLimit
long_where bytes whole back e g m l none =
    let cut : whole ≡ take most_bytes whole ++ drop most_bytes whole = sym (take-append-drop most_bytes whole) in
    let size : length (take most_bytes whole) ≡ most_bytes = length-take-le most_bytes whole m in
    let parts : bytes ≡ take most_bytes whole ++ (drop most_bytes whole ++ back) = e ∙ (ap (λ z. z ++ back) cut ∙ append_assoc (take most_bytes whole) (drop most_bytes whole) back) in
    record {
      front = take most_bytes whole;
      back = drop most_bytes whole ++ back;
      parts = parts;
      at = size;
      before = goes_back (take most_bytes whole) (drop most_bytes whole) (subst GoesOn cut g);
      within = none;
      here = (omega (arith, size, ap length parts, l), inl size);
    }

pub long_stop : (bytes : List ℕ) (s : Stop) → IsBytes bytes → Reading bytes ≡ stopped s → most_bytes + s.left ≤ length bytes → most_bytes < length bytes → RefusedAt bytes most_bytes FormLimit
long_stop bytes s p e m l =
    let t = module_stops bytes s p e in
    long_where bytes t.front t.back t.parts (t.before.0, t.before.2) (omega (arith, m, t.left, ap length t.parts, length-append t.front t.back)) l
    (λ k h q. not_before k h (limit_is bytes s k e q))
  where
    not_before : (k : ℕ) → k < most_bytes → (k ≡ most_bytes) ⊎ ((k + s.left ≡ length bytes) × (s.code ≡ FormLimit)) → ⊥
    not_before k h (inl z) = omega arith
    not_before k h (inr z) = omega (arith, z.0)

pub long_module : (bytes : List ℕ) (x : Tree) (rest : List ℕ) → IsBytes bytes → Reading bytes ≡ found x rest → most_bytes ≤ length (spelling x) → most_bytes < length bytes → RefusedAt bytes most_bytes FormLimit
long_module bytes x rest p e m l =
    let t = takes 128 module_form bytes x rest module_sound p e in
    long_where bytes (spelling x) rest t.parts ([], (x, t.form, append-nil (spelling x))) m l (λ k h q. let z = limit_none bytes x rest k e q in omega arith)

-- ---- one place, one code

passes_at : (bytes : List ℕ) (p : ℕ) (front back : List ℕ) → bytes ≡ front ++ back → length front ≡ p → PassesAt (front ++ back) (length front) → PassesAt bytes p
passes_at bytes p front back e n q = subst (λ z. PassesAt bytes z) n (subst (λ z. PassesAt z (length front)) (sym e) q)

-- what a code other than these two says
abbrev Faults : FormCode → List ℕ → List ℕ → Type 0
Faults code front back = (PassesAt (front ++ back) (length front) → ⊥) × IsWrong code front back

abbrev Kind : FormCode → List ℕ → List ℕ → Type 0
Kind code front back = ((code ≡ Short) × (back ≡ [])) ⊎ (((code ≡ FormLimit) × PassesAt (front ++ back) (length front)) ⊎ Faults code front back)

kind : (code : FormCode) (front back : List ℕ) → Is code front back → Kind code front back
kind Short front back h = inl (refl, h.0)
kind FormLimit front back h = inr (inl (refl, h))
kind BadMagic front back h = inr (inr h)
kind BadVersion front back h = inr (inr h)
kind NotCanonical front back h = inr (inr h)
kind Trailing front back h = inr (inr h)
kind NotTyped front back h = inr (inr h)
kind WrongName front back h = inr (inr h)

in_order : (bytes : List ℕ) (p q : ℕ) (c d : FormCode) → RefusedAt bytes p c → RefusedAt bytes q d → p < q → ⊥
in_order bytes p q c d r w l = go (kind c r.front r.back r.here)
  where
    go : Kind c r.front r.back → ⊥
    go (inl z) = omega (arith, l, r.at, w.at, ap length r.parts, ap length w.parts, ap length z.1, length-append r.front r.back, length-append w.front w.back)
    go (inr (inl z)) = w.within p l (passes_at bytes p r.front r.back r.parts r.at z.1)
    go (inr (inr z)) =
        let k = z.1 in
        let e : r.front ++ (k.0 ∷ k.1) ≡ w.front ++ w.back = ap (λ y. r.front ++ y) (sym k.2) ∙ (sym r.parts ∙ w.parts) in
        let i = longer_front r.front k.0 k.1 w.front w.back e (omega (arith, l, r.at, w.at)) in
        k.3 (goes_back (r.front ++ k.0 ∷ []) i.0 (subst GoesOn i.1 w.before))

one_blamed : (c d : FormCode) (front : List ℕ) → IsBlamed c front → IsBlamed d front → c ≡ d
one_blamed BadMagic BadMagic front h k = refl
one_blamed BadMagic BadVersion front h k = absurd (omega arith)
one_blamed BadMagic NotCanonical front h k = absurd (omega (arith, k.0))
one_blamed BadMagic Trailing front h k = absurd (omega (arith, stored_long front k))
one_blamed BadVersion BadMagic front h k = absurd (omega arith)
one_blamed BadVersion BadVersion front h k = refl
one_blamed BadVersion NotCanonical front h k = absurd (omega (arith, k.0))
one_blamed BadVersion Trailing front h k = absurd (omega (arith, stored_long front k))
one_blamed NotCanonical BadMagic front h k = absurd (omega (arith, h.0))
one_blamed NotCanonical BadVersion front h k = absurd (omega (arith, h.0))
one_blamed NotCanonical NotCanonical front h k = refl
one_blamed NotCanonical Trailing front h k = absurd (h.1 k)
one_blamed Trailing BadMagic front h k = absurd (omega (arith, stored_long front h))
one_blamed Trailing BadVersion front h k = absurd (omega (arith, stored_long front h))
one_blamed Trailing NotCanonical front h k = absurd (k.1 h)
one_blamed Trailing Trailing front h k = refl
one_blamed Short d front h k = absurd h
one_blamed FormLimit d front h k = absurd h
one_blamed NotTyped d front h k = absurd h
one_blamed WrongName d front h k = absurd h
one_blamed c _ front h k = absurd k

no_byte : (front back : List ℕ) → back ≡ [] → PassesAt (front ++ back) (length front) → ⊥
no_byte front back e q = omega (arith, q.0, ap length e, length-append front back)

no_fault : (code : FormCode) (front back : List ℕ) → back ≡ [] → Faults code front back → ⊥
no_fault code front back e q = absurd (let k = sym e ∙ q.1.2 in cc)

one_code : (c d : FormCode) (front back : List ℕ) → Kind c front back → Kind d front back → c ≡ d
one_code c d front back (inl h) (inl k) = h.0 ∙ sym k.0
one_code c d front back (inl h) (inr (inl k)) = absurd (no_byte front back h.1 k.1)
one_code c d front back (inl h) (inr (inr k)) = absurd (no_fault d front back h.1 k)
one_code c d front back (inr (inl h)) (inl k) = absurd (no_byte front back k.1 h.1)
one_code c d front back (inr (inl h)) (inr (inl k)) = h.0 ∙ sym k.0
one_code c d front back (inr (inl h)) (inr (inr k)) = absurd (k.0 h.1)
one_code c d front back (inr (inr h)) (inl k) = absurd (no_fault c front back k.1 h)
one_code c d front back (inr (inr h)) (inr (inl k)) = absurd (h.0 k.1)
one_code c d front back (inr (inr h)) (inr (inr k)) = one_blamed c d front h.1.4 k.1.4

pub one_where : (bytes : List ℕ) (p q : ℕ) (c d : FormCode) → RefusedAt bytes p c → RefusedAt bytes q d → (p ≡ q) × (c ≡ d)
one_where bytes p q c d r w =
    let places : p ≡ q = elim (cases_lt p q) [
      | inl l ↦ absurd (in_order bytes p q c d r w l)
      | inr l ↦ elim (cases_lt q p) [
        | inl m ↦ absurd (in_order bytes q p d c w r m)
        | inr m ↦ omega arith
      ]
    ] in
    let fronts = split_same r.front w.front r.back w.back (omega (arith, r.at, w.at, places)) (sym r.parts ∙ w.parts) in
    let moved : Kind d r.front r.back = subst (λ z. Kind d z r.back) (sym fronts.0) (subst (λ z. Kind d w.front z) (sym fronts.1) (kind d w.front w.back w.here)) in
    (places, one_code c d r.front r.back (kind c r.front r.back r.here) moved)

-- what is a module is not refused
pub module_not : (bytes : List ℕ) (x : Tree) (p : ℕ) (c : FormCode) → Spells x bytes → RefusedAt bytes p c → ⊥
module_not bytes x p c m r = go (kind c r.front r.back r.here)
  where
    read : Reading bytes ≡ found x []
    read = ap Reading (m.2 ∙ sym (append-nil (spelling x))) ∙ form_again x module_form 128 [] m.0 m.1

    whole : r.front ++ r.back ≡ spelling x
    whole = sym r.parts ∙ m.2

    go : Kind c r.front r.back → ⊥
    go (inl z) = ended c r.here
      where
        all : r.front ≡ spelling x
        all = sym (append-nil r.front) ∙ (ap (λ y. r.front ++ y) (sym z.1) ∙ whole)

        ended : (code : FormCode) → Is code r.front r.back → ⊥
        ended Short h = stored_cut r.front (x, m.0, all) h.1
        ended FormLimit h = no_byte r.front r.back z.1 h
        ended BadMagic h = no_fault BadMagic r.front r.back z.1 h
        ended BadVersion h = no_fault BadVersion r.front r.back z.1 h
        ended NotCanonical h = no_fault NotCanonical r.front r.back z.1 h
        ended Trailing h = no_fault Trailing r.front r.back z.1 h
        ended NotTyped h = no_fault NotTyped r.front r.back z.1 h
        ended WrongName h = no_fault WrongName r.front r.back z.1 h
    go (inr (inl z)) =
        let q = passes_at bytes p r.front r.back r.parts r.at z.1 in
        let k = limit_none bytes x [] p read q in
        omega (arith, k, q.0, m.3)
    go (inr (inr z)) =
        let k = z.1 in
        k.3 (k.1, (x, m.0, append_assoc r.front (k.0 ∷ []) k.1 ∙ (ap (λ y. r.front ++ y) (sym k.2) ∙ whole)))

-- ---- each list of bytes is a module or refused

abbrev Answered : List ℕ → Type 0
Answered bytes = ((x : Tree) × Spells x bytes) ⊎ ((p : ℕ) × (c : FormCode) × RefusedAt bytes p c)

pub answered : (bytes : List ℕ) → IsBytes bytes → Answered bytes
answered bytes p = go (Reading bytes) refl
  where
    stop : (s : Stop) → Reading bytes ≡ stopped s → (place : ℕ) → place + s.left ≡ length bytes → Answered bytes
    stop s e place n = elim (cases_lt place most_bytes) [
      | inl l ↦ inr (place, s.code, refused_where bytes s place p e n (inl l))
      | inr l ↦ elim (cases_lt most_bytes (length bytes)) [
        | inl m ↦ inr (most_bytes, FormLimit, long_stop bytes s p e (omega (arith, n)) m)
        | inr m ↦ inr (place, s.code, refused_where bytes s place p e n (inr m))
      ]
    ]

    read : (x : Tree) (rest : List ℕ) → Reading bytes ≡ found x rest → Answered bytes
    read x [] e =
        let t = takes 128 module_form bytes x [] module_sound p e in
        let all : bytes ≡ spelling x = t.parts ∙ append-nil (spelling x) in
        elim (cases_lt most_bytes (length bytes)) [
          | inl m ↦ inr (most_bytes, FormLimit, long_module bytes x [] p e (omega (arith, ap length all)) m)
          | inr m ↦ inl (x, (t.form, t.fits, all, m))
        ]
    read x (b ∷ rest) e =
        let t = takes 128 module_form bytes x (b ∷ rest) module_sound p e in
        let n = length-append (spelling x) (b ∷ rest) in
        elim (cases_lt (length (spelling x)) most_bytes) [
          | inl l ↦ inr (length (spelling x), Trailing, trailing_where bytes x b rest p e l)
          | inr l ↦ inr (most_bytes, FormLimit, long_module bytes x (b ∷ rest) p e l (omega (arith, ap length t.parts, n)))
        ]

    go : (r : Result (Tree × List ℕ) Stop) → Reading bytes ≡ r → Answered bytes
    go (Ok y) e = read y.0 y.1 e
    go (Err s) e =
        let t = module_stops bytes s p e in
        stop s e (length t.front) (omega (arith, t.left, ap length t.parts, length-append t.front t.back))
