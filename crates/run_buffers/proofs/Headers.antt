-- The numbers before the words of a line.
use Rattle.std.proofs.Common.{◌≡◌, ℕ, ◌<◌, ◌≤◌, ◌^◌, Bool, cond, List, [], ◌∷◌, ◌++◌, refl, sym, ap, subst, ◌∙◌, arith, inl, inr}
use Rattle.std.specs.Fmt.{decimal}
use Rattle.std.proofs.lemmas.Bool.{cases_eq, eq-eqb, ne_eqb}
use Rattle.std.proofs.lemmas.Fmt.{decimal_injective}
use Rattle.std.proofs.lemmas.List.{append_assoc, append_cancel_left}
use Rattle.run_buffers.specs.declared.fields.Separator.{Separator}
use Rattle.run_buffers.specs.declared.fields.Separator.TheVariants.{Space, BehindCount}
use Rattle.run_buffers.specs.declared.lines.Header.{Header}
use Rattle.run_buffers.specs.Parts.{Stops, behind, field, IsWithin}
use Rattle.run_buffers.specs.Lines.{Ahead, header, lowest_binding, MayHead}
use Rattle.run_buffers.proofs.Decimals.{decimal_digits}
use Rattle.run_buffers.proofs.Separated.{same_digits, no_digit_behind}
use Rattle.run_buffers.proofs.Sequence.{IsPrefixFree, Begun, stops_first, stops_then}

pub field_free : (s : Separator) (low high : ℕ) → high < 2 ^ 32 → IsPrefixFree (field s) (IsWithin low high)
field_free s low high h a b x y ca cb e =
    let ea = append_assoc (decimal a) (behind s a ∷ []) x in
    let eb = append_assoc (decimal b) (behind s b ∷ []) y in
    let na : a < 2 ^ 64 = let p = ca.1 in omega arith in
    let nb : b < 2 ^ 64 = let p = cb.1 in omega arith in
    let r = same_digits (decimal a) (decimal b) (behind s a) (behind s b) x y (decimal_digits a na) (decimal_digits b nb) (no_digit_behind s a) (no_digit_behind s b) (sym ea ∙ (e ∙ eb)) in
    decimal_injective a b na nb r.0

pub lowest_le : (ahead : Ahead) (set : ℕ) → ahead.binding < 2 ^ 32 → lowest_binding ahead set ≤ 4294967295
lowest_le ahead set h = elim (cases_eq set ahead.set) [
  | inl e ↦ let c : lowest_binding ahead set ≡ ahead.binding = ap (λ (t : Bool). cond t ahead.binding 0) (eq-eqb set ahead.set e) in omega arith
  | inr ne ↦ let c : lowest_binding ahead set ≡ 0 = ap (λ (t : Bool). cond t ahead.binding 0) (ne_eqb set ahead.set ne) in omega arith
]

-- ---- the binding and the count

abbrev after_set : ℕ × ℕ → List ℕ
after_set p = field Space p.0 ++ field BehindCount p.1

abbrev MayBehind : Ahead → ℕ → ℕ × ℕ → Type 0
MayBehind ahead set p = IsWithin (lowest_binding ahead set) 4294967295 p.0 × IsWithin 0 ahead.words p.1

set_begun : (ahead : Ahead) → Begun (field Space) (IsWithin ahead.set 4294967295) header (MayHead ahead) (λ h. h.set) (λ h. after_set (h.binding, h.count))
set_begun ahead = record { free = field_free Space ahead.set 4294967295 (omega arith); can = λ h may. may.0; is = λ h may. refl }

binding_begun : (ahead : Ahead) (set : ℕ) → Begun (field Space) (IsWithin (lowest_binding ahead set) 4294967295) after_set (MayBehind ahead set) (λ p. p.0) (λ p. field BehindCount p.1)
binding_begun ahead set = record { free = field_free Space (lowest_binding ahead set) 4294967295 (omega arith); can = λ p may. may.0; is = λ p may. refl }

pub stops_in_set : (ahead : Ahead) (bytes : List ℕ) (left : ℕ) → ahead.binding < 2 ^ 32 → Stops (field Space) (IsWithin ahead.set 4294967295) bytes left → Stops header (MayHead ahead) bytes left
stops_in_set ahead bytes left h s =
    stops_first (field Space) (IsWithin ahead.set 4294967295) header (MayHead ahead) (λ h. h.set) (λ h. after_set (h.binding, h.count)) (set_begun ahead)
    (λ set can. (record { set = set; binding = 4294967295; count = 0 }, (can, (lowest_le ahead set h, omega arith), (omega arith, omega arith)), refl)) bytes left s

stops_behind_set : (ahead : Ahead) (set : ℕ) → IsWithin ahead.set 4294967295 set → (bytes rest : List ℕ) (left : ℕ) → bytes ≡ field Space set ++ rest → Stops after_set (MayBehind ahead set) rest left → Stops header (MayHead ahead) bytes left
stops_behind_set ahead set can bytes rest left e s =
    stops_then (field Space) (IsWithin ahead.set 4294967295) header (MayHead ahead) (λ h. h.set) (λ h. after_set (h.binding, h.count)) after_set (MayBehind ahead set) set (set_begun ahead) can
    (λ h may same. ((h.binding, h.count), (subst (λ (v : ℕ). IsWithin (lowest_binding ahead v) 4294967295 h.binding) same may.1, may.2), refl))
    (λ p may. (record { set = set; binding = p.0; count = p.1 }, (can, may.0, may.1), refl)) bytes rest left e s

pub stops_in_binding : (ahead : Ahead) (set low : ℕ) → IsWithin ahead.set 4294967295 set → low ≡ lowest_binding ahead set → (bytes rest : List ℕ) (left : ℕ) → bytes ≡ field Space set ++ rest
    → Stops (field Space) (IsWithin low 4294967295) rest left → Stops header (MayHead ahead) bytes left
stops_in_binding ahead set low can low_is bytes rest left e s =
    stops_behind_set ahead set can bytes rest left e
    (stops_first (field Space) (IsWithin (lowest_binding ahead set) 4294967295) after_set (MayBehind ahead set) (λ p. p.0) (λ p. field BehindCount p.1) (binding_begun ahead set)
    (λ binding may. ((binding, 0), (may, (omega arith, omega arith)), refl)) rest left (subst (λ (v : ℕ). Stops (field Space) (IsWithin v 4294967295) rest left) low_is s))

pub stops_in_count : (ahead : Ahead) (set binding low : ℕ) → IsWithin ahead.set 4294967295 set → low ≡ lowest_binding ahead set → IsWithin low 4294967295 binding → (bytes middle rest : List ℕ) (left : ℕ)
    → bytes ≡ field Space set ++ middle → middle ≡ field Space binding ++ rest → Stops (field BehindCount) (IsWithin 0 ahead.words) rest left → Stops header (MayHead ahead) bytes left
stops_in_count ahead set binding low can low_is within bytes middle rest left e f s =
    let may = subst (λ (v : ℕ). IsWithin v 4294967295 binding) low_is within in
    stops_behind_set ahead set can bytes middle left e
    (stops_then (field Space) (IsWithin (lowest_binding ahead set) 4294967295) after_set (MayBehind ahead set) (λ p. p.0) (λ p. field BehindCount p.1) (field BehindCount) (IsWithin 0 ahead.words) binding (binding_begun ahead set) may
    (λ p both same. (p.1, both.1, refl))
    (λ count few. ((binding, count), (may, few), refl)) middle rest left f s)

pub same_header : (g h : Header) → g.set ≡ h.set → g.binding ≡ h.binding → g.count ≡ h.count → g ≡ h
same_header g h a b c =
    ap (λ (v : ℕ). let k : Header = record { set = v; binding = g.binding; count = g.count } in k) a
    ∙ (ap (λ (v : ℕ). let k : Header = record { set = h.set; binding = v; count = g.count } in k) b
    ∙ ap (λ (v : ℕ). let k : Header = record { set = h.set; binding = h.binding; count = v } in k) c)

-- ---- no header begins another

pub header_free : (ahead : Ahead) → ahead.words < 2 ^ 32 → IsPrefixFree header (MayHead ahead)
header_free ahead small g h x y cg ch e =
    let wide : (k : Header) (z : List ℕ) → header k ++ z ≡ field Space k.set ++ (field Space k.binding ++ (field BehindCount k.count ++ z)) = λ k z.
    append_assoc (field Space k.set) (after_set (k.binding, k.count)) z ∙ ap (λ (us : List ℕ). field Space k.set ++ us) (append_assoc (field Space k.binding) (field BehindCount k.count) z) in
    let all = sym (wide g x) ∙ (e ∙ wide h y) in
    let sets = field_free Space ahead.set 4294967295 (omega arith) g.set h.set _ _ cg.0 ch.0 all in
    let rest1 = append_cancel_left (field Space h.set) _ _ (ap (λ (v : ℕ). field Space v ++ (field Space g.binding ++ (field BehindCount g.count ++ x))) (sym sets) ∙ all) in
    let bindings = field_free Space 0 4294967295 (omega arith) g.binding h.binding _ _ (omega arith, cg.1.1) (omega arith, ch.1.1) rest1 in
    let rest2 = append_cancel_left (field Space h.binding) _ _ (ap (λ (v : ℕ). field Space v ++ (field BehindCount g.count ++ x)) (sym bindings) ∙ rest1) in
    let counts = field_free BehindCount 0 ahead.words small g.count h.count x y cg.2 ch.2 rest2 in
    same_header g h sets bindings counts
