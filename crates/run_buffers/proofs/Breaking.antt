-- Where a text breaks off: in a line, or behind it.
use Rattle.std.proofs.Common.{◌≡◌, ℕ, ◌<◌, ◌^◌, Some, None, List, [], ◌∷◌, ◌++◌, length, refl, sym, ap, subst, ◌∙◌, arith}
use Rattle.std.specs.Fmt.{decimal}
use Rattle.std.proofs.lemmas.List.{append_assoc, append-nil, append_cancel_left, length-append}
use Rattle.run_buffers.specs.declared.buffer.Buffer.{Buffer}
use Rattle.run_buffers.specs.Texts.{separator, line, line_of, text_of}
use Rattle.run_buffers.specs.Parts.{Stops}
use Rattle.run_buffers.specs.Lines.{Ahead, MayFollow, FitsIn, ahead_behind, Breaks}
use Rattle.run_buffers.proofs.Sequence.{Begun, wrong_first, nothing_more}
use Rattle.run_buffers.proofs.WholeLines.{line_free}

none_but_nothing : (b : ℕ) (other : List Buffer) (tail : List ℕ) → FitsIn None other → text_of other ≡ b ∷ tail → ⊥
none_but_nothing b [] tail can e = cc
none_but_nothing b (o ∷ os) tail can e = absurd can

-- where no line may come, each byte is wrong
pub breaks_full : (bytes : List ℕ) → 0 < length bytes → Breaks (FitsIn None) bytes (length bytes)
breaks_full bytes some = record {
  front = [];
  back = bytes;
  parts = refl;
  left_is = refl;
  value = [];
  more = [];
  can = tt;
  begins = refl;
  wrong = λ b rest other tail e can f. none_but_nothing b other tail can f;
  unfinished = λ other e can f. let l : length bytes ≡ 0 = ap length e in omega arith;
}

-- ---- in a line

abbrev lines : Buffer × List Buffer → List ℕ
lines p = line_of p.0 ++ text_of p.1

abbrev MayLines : Ahead → Buffer × List Buffer → Type 0
MayLines ahead p = FitsIn (Some ahead) (p.0 ∷ p.1)

lines_begun : (ahead : Ahead) → ahead.words < 2 ^ 32 → Begun line_of (MayFollow ahead) lines (MayLines ahead) (λ p. p.0) (λ p. text_of p.1)
lines_begun ahead small = record { free = line_free ahead small; can = λ p may. may.0; is = λ p may. refl }

not_nothing : (front : List ℕ) (b : ℕ) (tail : List ℕ) → [] ≡ front ++ b ∷ tail → ⊥
not_nothing front b tail f = let l = length-append front (b ∷ tail) in let k : 0 ≡ length (front ++ b ∷ tail) = ap length f in omega arith

wrong_in_lines : (ahead : Ahead) → ahead.words < 2 ^ 32 → (bytes : List ℕ) (left : ℕ) (s : Stops line_of (MayFollow ahead) bytes left) (b : ℕ) (rest : List ℕ) (other : List Buffer) (tail : List ℕ)
    → s.back ≡ b ∷ rest → FitsIn (Some ahead) other → text_of other ≡ s.front ++ b ∷ tail → ⊥
wrong_in_lines ahead small bytes left s b rest [] tail e can f = not_nothing s.front b tail f
wrong_in_lines ahead small bytes left s b rest (o ∷ os) tail e can f =
    wrong_first line_of (MayFollow ahead) lines (MayLines ahead) (λ p. p.0) (λ p. text_of p.1) (lines_begun ahead small) s b rest (o, os) tail e can f

cut_in_line : (ahead : Ahead) → ahead.words < 2 ^ 32 → (bytes : List ℕ) (left : ℕ) (s : Stops line_of (MayFollow ahead) bytes left) (other : List Buffer)
    → 0 < length bytes → s.back ≡ [] → FitsIn (Some ahead) other → text_of other ≡ s.front → ⊥
cut_in_line ahead small bytes left s [] some e can f =
    let l = length-append s.front s.back in
    let p = ap length s.parts in
    let b : length s.back ≡ 0 = ap length e in
    let k : 0 ≡ length s.front = ap length f in
    omega arith
cut_in_line ahead small bytes left s (o ∷ os) some e can f =
    let all : line_of o ++ (text_of os ++ s.more) ≡ line_of s.value ++ [] = sym (append_assoc (line_of o) (text_of os) s.more) ∙ (ap (λ (us : List ℕ). us ++ s.more) f ∙ (sym s.begins ∙ sym (append-nil (line_of s.value)))) in
    let same = line_free ahead small o s.value (text_of os ++ s.more) [] can.0 s.can all in
    let l = length-append (text_of os) s.more in
    let p = s.proper in
    nothing_more (line_of o) (text_of os ++ s.more) (ap line_of same ∙ (sym (append-nil (line_of s.value)) ∙ sym all)) (omega arith)

pub breaks_in_line : (ahead : Ahead) (bytes : List ℕ) (left : ℕ) → ahead.words < 2 ^ 32 → 0 < length bytes → Stops line_of (MayFollow ahead) bytes left → Breaks (FitsIn (Some ahead)) bytes left
breaks_in_line ahead bytes left small some s =
    record {
      front = s.front;
      back = s.back;
      parts = s.parts;
      left_is = s.left_is;
      value = s.value ∷ [];
      more = s.more;
      can = (s.can, tt);
      begins = append-nil (line_of s.value) ∙ s.begins;
      wrong = wrong_in_lines ahead small bytes left s;
      unfinished = λ other e can f. cut_in_line ahead small bytes left s other some e can f;
    }

-- ---- behind a line

wrong_behind : (ahead : Ahead) → ahead.words < 2 ^ 32 → (a : Buffer) → MayFollow ahead a → (rest : List ℕ) (left : ℕ) (s : Breaks (FitsIn (ahead_behind ahead a)) rest left)
    → (b : ℕ) (behind : List ℕ) (other : List Buffer) (tail : List ℕ) → s.back ≡ b ∷ behind → FitsIn (Some ahead) other → text_of other ≡ (line_of a ++ s.front) ++ b ∷ tail → ⊥
wrong_behind ahead small a may rest left s b behind [] tail e can f = not_nothing (line_of a ++ s.front) b tail f
wrong_behind ahead small a may rest left s b behind (o ∷ os) tail e can f =
    let all : line_of o ++ text_of os ≡ line_of a ++ (s.front ++ b ∷ tail) = f ∙ append_assoc (line_of a) s.front (b ∷ tail) in
    let same = line_free ahead small o a (text_of os) (s.front ++ b ∷ tail) can.0 may all in
    let cut = append_cancel_left (line_of a) (text_of os) (s.front ++ b ∷ tail) (ap (λ (v : Buffer). line_of v ++ text_of os) (sym same) ∙ all) in
    s.wrong b behind os tail e (subst (λ (v : Buffer). FitsIn (ahead_behind ahead v) os) same can.1) cut

pub some_line : (a : Buffer) → 0 < length (line_of a)
some_line a = let l = length-append (decimal a.set) (32 ∷ (decimal a.binding ++ 32 ∷ (decimal (length a.words) ++ separator a.words ∷ line a.words))) in omega arith

unfinished_behind : (ahead : Ahead) → ahead.words < 2 ^ 32 → (a : Buffer) → MayFollow ahead a → (rest : List ℕ) (left : ℕ) (s : Breaks (FitsIn (ahead_behind ahead a)) rest left)
    → (other : List Buffer) → s.back ≡ [] → FitsIn (Some ahead) other → text_of other ≡ line_of a ++ s.front → ⊥
unfinished_behind ahead small a may rest left s [] e can f =
    let l = length-append (line_of a) s.front in let k : 0 ≡ length (line_of a ++ s.front) = ap length f in let p = some_line a in omega arith
unfinished_behind ahead small a may rest left s (o ∷ os) e can f =
    let same = line_free ahead small o a (text_of os) s.front can.0 may f in
    let cut = append_cancel_left (line_of a) (text_of os) s.front (ap (λ (v : Buffer). line_of v ++ text_of os) (sym same) ∙ f) in
    s.unfinished os e (subst (λ (v : Buffer). FitsIn (ahead_behind ahead v) os) same can.1) cut

pub breaks_behind : (ahead : Ahead) → ahead.words < 2 ^ 32 → (a : Buffer) → MayFollow ahead a → (bytes rest : List ℕ) (left : ℕ) → bytes ≡ line_of a ++ rest
    → Breaks (FitsIn (ahead_behind ahead a)) rest left → Breaks (FitsIn (Some ahead)) bytes left
breaks_behind ahead small a may bytes rest left e s = record {
  front = line_of a ++ s.front;
  back = s.back;
  parts = e ∙ (ap (λ (us : List ℕ). line_of a ++ us) s.parts ∙ sym (append_assoc (line_of a) s.front s.back));
  left_is = s.left_is;
  value = a ∷ s.value;
  more = s.more;
  can = (may, s.can);
  begins = ap (λ (us : List ℕ). line_of a ++ us) s.begins ∙ sym (append_assoc (line_of a) s.front s.more);
  wrong = wrong_behind ahead small a may rest left s;
  unfinished = unfinished_behind ahead small a may rest left s;
}
