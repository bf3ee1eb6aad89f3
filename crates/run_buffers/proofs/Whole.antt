-- Whole texts: one reading, one place of refusal, and where reading a text stops.
use Rattle.std.proofs.Common.{◌≡◌, ℕ, ◌+◌, ◌-◌, ◌<◌, ◌≤◌, ◌^◌, Option, Some, None, List, [], ◌∷◌, ◌++◌, length, take, drop, refl, sym, ap, subst, ◌∙◌, inl, inr, arith}
use Rattle.std.proofs.lemmas.List.{append_assoc, append-nil, append_cancel_left, length-append, take-append-drop, length-take, length-drop, take_at, take_all}
use Rattle.run_buffers.specs.declared.buffer.Buffer.{Buffer}
use Rattle.run_buffers.specs.Texts.{line_of, text_of, Fits, IsTextOf, GoesOn, RefusedAt, WrongByte, EndsEarly}
use Rattle.run_buffers.specs.Lines.{Ahead, FitsIn, ahead_behind, Breaks}
use Rattle.run_buffers.proofs.Sequence.{splits}
use Rattle.run_buffers.proofs.WholeLines.{line_free}
use Rattle.run_buffers.proofs.Breaking.{some_line}
use Rattle.run_buffers.proofs.Fitting.{start, fits_from_in, fits_in_from, room_of, room_behind}

-- ---- one reading

one_text : (o : Option Ahead) (xs ys : List Buffer) → room_of o < 2 ^ 32 → FitsIn o xs → FitsIn o ys → text_of xs ≡ text_of ys → xs ≡ ys
one_text o [] [] small p q e = refl
one_text o [] (y ∷ ys) small p q e = absurd (let l = length-append (line_of y) (text_of ys) in let s = some_line y in let k : 0 ≡ length (line_of y ++ text_of ys) = ap length e in omega arith)
one_text o (x ∷ xs) [] small p q e = absurd (let l = length-append (line_of x) (text_of xs) in let s = some_line x in let k : length (line_of x ++ text_of xs) ≡ 0 = ap length e in omega arith)
one_text None (x ∷ xs) (y ∷ ys) small p q e = absurd p
one_text (Some ahead) (x ∷ xs) (y ∷ ys) small p q e =
    let same = line_free ahead small x y (text_of xs) (text_of ys) p.0 q.0 e in
    let cut = append_cancel_left (line_of y) (text_of xs) (text_of ys) (ap (λ (b : Buffer). line_of b ++ text_of xs) (sym same) ∙ e) in
    let room = room_behind ahead y in
    let rest = one_text (ahead_behind ahead y) xs ys (omega arith) (subst (λ (b : Buffer). FitsIn (ahead_behind ahead b) xs) same p.1) q.1 cut in
    ap (λ (b : Buffer). b ∷ xs) same ∙ ap (λ (bs : List Buffer). y ∷ bs) rest

pub one_reading : (bytes : List ℕ) (xs ys : List Buffer) → IsTextOf bytes xs → IsTextOf bytes ys → xs ≡ ys
one_reading bytes xs ys p q = one_text (Some start) xs ys (omega arith) (fits_in_from xs p.fits) (fits_in_from ys q.fits) (sym p.is ∙ q.is)

-- ---- one place of refusal

pub goes_on_before : (front more : List ℕ) → GoesOn (front ++ more) → GoesOn front
goes_on_before front more g = record {
  buffers = g.buffers;
  more = more ++ g.more;
  fits = g.fits;
  is = g.is ∙ append_assoc front more g.more;
  short = let l = length-append front more in let s = g.short in omega arith;
}

goes_on_text : (bytes : List ℕ) (bs : List Buffer) → IsTextOf bytes bs → GoesOn bytes
goes_on_text bytes bs t = record { buffers = bs; more = []; fits = t.fits; is = sym (append-nil bytes ∙ t.is); short = t.short }

one_more : (front : List ℕ) (b : ℕ) (back bytes : List ℕ) → bytes ≡ front ++ b ∷ back → GoesOn bytes → GoesOn (front ++ b ∷ [])
one_more front b back bytes e g = goes_on_before (front ++ b ∷ []) back (subst GoesOn (e ∙ sym (append_assoc front (b ∷ []) back)) g)

pub no_text_is_refused : (bytes : List ℕ) (bs : List Buffer) (place : ℕ) → IsTextOf bytes bs → RefusedAt bytes place → ⊥
no_text_is_refused bytes bs place t (WrongByte front b back e p g none) = none (one_more front b back bytes e (goes_on_text bytes bs t))
no_text_is_refused bytes bs place t (EndsEarly g none e) = none bs t

longer_part : (front : List ℕ) (b : ℕ) (back longer rest k : List ℕ) → longer ≡ front ++ k → b ∷ back ≡ k ++ rest → GoesOn longer → (GoesOn (front ++ b ∷ []) → ⊥) → length longer ≤ length front
longer_part front b back longer rest [] e f g none = let l = ap length (e ∙ append-nil front) in omega arith
longer_part front b back longer rest (c ∷ k) e f g none =
    let same : c ≡ b = cc in
    absurd (none (one_more front b k longer (e ∙ ap (λ (v : ℕ). front ++ v ∷ k) same) g))

-- of two places of refusal none is behind the other
not_behind : (front : List ℕ) (b : ℕ) (back longer rest : List ℕ) → front ++ b ∷ back ≡ longer ++ rest → GoesOn longer → (GoesOn (front ++ b ∷ []) → ⊥) → length longer ≤ length front
not_behind front b back longer rest e g none =
    elim (splits front (b ∷ back) longer rest e) [
      | inl r ↦ let l = ap length r.1 in let k = length-append longer r.0 in omega arith
      | inr r ↦ longer_part front b back longer rest r.0 r.1 r.2 g none
    ]

pub one_refusal : (bytes : List ℕ) (p q : ℕ) → RefusedAt bytes p → RefusedAt bytes q → p ≡ q
one_refusal bytes p q (WrongByte f b k e pe g none) (WrongByte f2 b2 k2 e2 qe g2 none2) =
    let x = not_behind f b k f2 (b2 ∷ k2) (sym e ∙ e2) g2 none in
    let y = not_behind f2 b2 k2 f (b ∷ k) (sym e2 ∙ e) g none2 in
    omega arith
one_refusal bytes p q (WrongByte f b k e pe g none) (EndsEarly g2 none2 qe) = absurd (none (one_more f b k bytes e g2))
one_refusal bytes p q (EndsEarly g none pe) (WrongByte f2 b2 k2 e2 qe g2 none2) = absurd (none2 (one_more f2 b2 k2 bytes e2 g))
one_refusal bytes p q (EndsEarly g none pe) (EndsEarly g2 none2 qe) = omega arith

-- ---- from where reading the first bytes breaks off

goes_on_front : (front more : List ℕ) (bs : List Buffer) → Fits bs → text_of bs ≡ front ++ more → length front ≤ 16777216 → GoesOn front
goes_on_front front more bs fits e h = record { buffers = bs; more = more; fits = fits; is = e; short = h }

-- behind as many bytes as a text may have, each one is wrong
too_long : (front : List ℕ) (b : ℕ) (behind bytes : List ℕ) → bytes ≡ front ++ b ∷ behind → length front ≡ 16777216 → GoesOn front → RefusedAt bytes (length front)
too_long front b behind bytes e h g = WrongByte front b behind e refl g (λ longer. let l = length-append front (b ∷ []) in let s = longer.short in omega arith)

pub refused_too_long : (front behind bytes : List ℕ) (bs : List Buffer) → bytes ≡ front ++ behind → (0 < length behind → length front ≡ 16777216) → front ≡ text_of bs → Fits bs → length front < length bytes → RefusedAt bytes (length front)
refused_too_long front [] bytes bs e h t fits lt = absurd (let l = ap length (e ∙ append-nil front) in omega arith)
refused_too_long front (b ∷ behind) bytes bs e h t fits lt =
    let full = h (omega arith) in
    too_long front b behind bytes e full (goes_on_front front [] bs fits (sym (append-nil front ∙ t)) (omega arith))

refused_wrong : (text behind bytes : List ℕ) (left : ℕ) (s : Breaks Fits text left) (b : ℕ) (rest : List ℕ) → s.back ≡ b ∷ rest → bytes ≡ text ++ behind → length text ≤ 16777216 → RefusedAt bytes (length s.front)
refused_wrong text behind bytes left s b rest back_is e h =
    let whole : bytes ≡ s.front ++ b ∷ (rest ++ behind) = e ∙ (ap (λ (us : List ℕ). us ++ behind) (s.parts ∙ ap (λ (us : List ℕ). s.front ++ us) back_is) ∙ append_assoc s.front (b ∷ rest) behind) in
    let l = length-append s.front s.back in
    let p = ap length s.parts in
    WrongByte s.front b (rest ++ behind) whole refl (goes_on_front s.front s.more s.value s.can s.begins (omega arith))
    (λ longer. s.wrong b rest longer.buffers longer.more back_is longer.fits (longer.is ∙ append_assoc s.front (b ∷ []) longer.more))

refused_short : (text behind bytes : List ℕ) (left : ℕ) (s : Breaks Fits text left) → s.back ≡ [] → bytes ≡ text ++ behind → length text ≤ 16777216 → (0 < length behind → length text ≡ 16777216) → RefusedAt bytes (length text)
refused_short text [] bytes left s back_is e h full =
    let front : text ≡ s.front = s.parts ∙ (ap (λ (us : List ℕ). s.front ++ us) back_is ∙ append-nil s.front) in
    let same : bytes ≡ text = e ∙ append-nil text in
    EndsEarly (subst GoesOn (sym same) (goes_on_front text s.more s.value s.can (s.begins ∙ ap (λ (us : List ℕ). us ++ s.more) (sym front)) h))
    (λ bs t. s.unfinished bs back_is t.fits (sym t.is ∙ (same ∙ front))) (sym (ap length same))
refused_short text (b ∷ behind) bytes left s back_is e h full =
    let front : text ≡ s.front = s.parts ∙ (ap (λ (us : List ℕ). s.front ++ us) back_is ∙ append-nil s.front) in
    too_long text b behind bytes e (full (omega arith)) (goes_on_front text s.more s.value s.can (s.begins ∙ ap (λ (us : List ℕ). us ++ s.more) (sym front)) h)

refused_by_back : (text behind bytes : List ℕ) (left : ℕ) (s : Breaks Fits text left) (back : List ℕ) → s.back ≡ back → bytes ≡ text ++ behind → length text ≤ 16777216 → (0 < length behind → length text ≡ 16777216) → RefusedAt bytes (length text - left)
refused_by_back text behind bytes left s [] back_is e h full =
    let l = s.left_is in let k : length s.back ≡ 0 = ap length back_is in
    let same : length text ≡ length text - left = omega arith in
    subst (RefusedAt bytes) same (refused_short text behind bytes left s back_is e h full)
refused_by_back text behind bytes left s (b ∷ rest) back_is e h full =
    let l = s.left_is in let k = length-append s.front s.back in let p = ap length s.parts in
    let same : length s.front ≡ length text - left = omega arith in
    subst (RefusedAt bytes) same (refused_wrong text behind bytes left s b rest back_is e h)

pub refused_from_breaks : (text behind bytes : List ℕ) (left : ℕ) → Breaks Fits text left → bytes ≡ text ++ behind → length text ≤ 16777216 → (0 < length behind → length text ≡ 16777216) → RefusedAt bytes (length text - left)
refused_from_breaks text behind bytes left s e h full = refused_by_back text behind bytes left s s.back refl e h full

-- ---- the first bytes

pub first_parts : (n : ℕ) (bytes text : List ℕ) → text ≡ take n bytes → bytes ≡ text ++ drop n bytes
first_parts n bytes text e = sym (take-append-drop n bytes) ∙ ap (λ (us : List ℕ). us ++ drop n bytes) (sym e)

pub first_length : (n : ℕ) (bytes text : List ℕ) → text ≡ take n bytes → length text ≤ n
first_length n bytes text e = let l = ap length e in let k = length-take n bytes in omega arith

pub first_full : (n : ℕ) (bytes text : List ℕ) → text ≡ take n bytes → 0 < length (drop n bytes) → length text ≡ n
first_full n bytes text e h = let l = ap length e in let k = length-take n bytes in let d = length-drop n bytes in omega arith

pub left_le : (text : List ℕ) (left : ℕ) → Breaks Fits text left → left ≤ length text
left_le text left s = let l = s.left_is in let k = length-append s.front s.back in let p = ap length s.parts in omega arith

pub breaks_fits : (bytes : List ℕ) (left : ℕ) → Breaks (FitsIn (Some start)) bytes left → Breaks Fits bytes left
breaks_fits bytes left s = record {
  front = s.front;
  back = s.back;
  parts = s.parts;
  left_is = s.left_is;
  value = s.value;
  more = s.more;
  can = fits_from_in s.value s.can;
  begins = s.begins;
  wrong = λ b rest other tail e fits f. s.wrong b rest other tail e (fits_in_from other fits) f;
  unfinished = λ other e fits f. s.unfinished other e (fits_in_from other fits) f;
}

-- one line more
pub text_push : (bs : List Buffer) (b : Buffer) → text_of (bs ++ b ∷ []) ≡ text_of bs ++ line_of b
text_push [] b = append-nil (line_of b)
text_push (x ∷ xs) b = ap (λ (us : List ℕ). line_of x ++ us) (text_push xs b) ∙ sym (append_assoc (line_of x) (text_of xs) (line_of b))

-- ---- the place in other words

pub goes_on_before_place : (bytes : List ℕ) (p : ℕ) → RefusedAt bytes p → GoesOn (take p bytes)
goes_on_before_place bytes p (WrongByte front b back e pe g none) = subst GoesOn (sym (ap (λ (us : List ℕ). take p us) e ∙ take_at front (b ∷ back) p (sym pe))) g
goes_on_before_place bytes p (EndsEarly g none pe) = subst GoesOn (sym (take_all p bytes (omega arith))) g

pub none_with_place : (bytes : List ℕ) (p : ℕ) → RefusedAt bytes p → p < length bytes → GoesOn (take (p + 1) bytes) → ⊥
none_with_place bytes p (WrongByte front b back e pe g none) lt longer =
    let l = length-append front (b ∷ []) in
    none (subst GoesOn (ap (λ (us : List ℕ). take (p + 1) us) (e ∙ sym (append_assoc front (b ∷ []) back)) ∙ take_at (front ++ b ∷ []) back (p + 1) (omega arith)) longer)
none_with_place bytes p (EndsEarly g none pe) lt longer = omega arith

pub place_in_limit : (bytes : List ℕ) (p : ℕ) → RefusedAt bytes p → p ≤ 16777216
place_in_limit bytes p (WrongByte front b back e pe g none) = let s = g.short in omega arith
place_in_limit bytes p (EndsEarly g none pe) = let s = g.short in omega arith
