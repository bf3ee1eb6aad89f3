-- Past which length no front of a text is a lexeme.
use Rattle.std.proofs.Common.{Bool, true, false, ◌≡◌, ◌≢◌, ℕ, zero, suc, ◌+◌, ◌-◌, ◌<◌, ◌≤◌, List, [], ◌∷◌, length, take, drop, get_or, Option, Some, None, refl, sym, ◌∙◌, ap, subst, arith, ◌==◌, ◌&&◌, ◌||◌, if◌then◌else◌, length-drop, length-take-le, eq-eqb, min, ◌⊎◌, inl, inr}
use Rattle.std.specs.Str.{bytes_eq}
use Rattle.std.specs.List.{list_all}
use Rattle.std.specs.Prelude.{nat_le}
use Rattle.std.proofs.lemmas.Bool.Decides.{eqb_tells, nat_tests}
use Rattle.std.proofs.lemmas.Slice.Eq.{bytes_eq-Decides}
use Rattle.slang_names.specs.declared.codes.ModuleCode.TheVariants as c
use Rattle.slang_tokens.specs.declared.bytes.Set.TheVariants as set
use Rattle.slang_tokens.specs.declared.bytes.Radix.{Radix}
use Rattle.slang_tokens.specs.declared.bytes.Radix.TheVariants as radix
use Rattle.slang_tokens.specs.declared.tokens.Mark.{Mark}
use Rattle.slang_tokens.specs.declared.lexemes.Lexeme.{Lexeme}
use Rattle.slang_tokens.specs.declared.lexemes.Lexeme.TheVariants as x
use Rattle.slang_tokens.specs.Bytes.{is_letter, is_digit, is_blank, is_in, run, all}
use Rattle.slang_tokens.specs.Tables.{entry_of, marks, mark_of}
use Rattle.slang_tokens.specs.Words.{word}
use Rattle.slang_tokens.specs.Lexemes.{ends, name, suffix, decimal, decimal_by, hexadecimal, hexadecimal_by, is_radix, zero_number, number, string, string_end, close, comment, comment_by, line, mark, mark_or_byte, slash, lexeme, IsLongest, Bounds}
use Rattle.slang_tokens.proofs.Runs.{run_cons, more_run, run_front, close_front}
use Rattle.slang_tokens.proofs.Fronts.{tail, tail-cons}

-- the same behind the first byte
Above : (List ℕ → Option Lexeme) → List ℕ → ℕ → Type 0
Above f bs most = (n : ℕ) → most < n → n ≤ length bs → f (take n bs) ≡ None

lift : (b : ℕ) (bs : List ℕ) (f : List ℕ → Option Lexeme) (most : ℕ) → ((xs : List ℕ) → lexeme (b ∷ xs) ≡ f xs) → Above f bs most → Bounds (b ∷ bs) (most + 1)
unfolding Bounds Above
lift b bs f most e h zero lt le = absurd (omega arith)
lift b bs f most e h (suc n) lt le = e (take n bs) ∙ h n (omega arith) (omega arith)

-- no front is longer than the text
pub bounds_whole : (text : List ℕ) (most : ℕ) → length text ≤ most → Bounds text most
unfolding Bounds
bounds_whole text most h n lt le = absurd (omega arith)

pub bounds_min : (text : List ℕ) (a k : ℕ) → Bounds text a → k ≡ min (length text) a → Bounds text k
unfolding Bounds
bounds_min text a k h e n lt le = h n (omega arith) le

pub bounds_same : (text : List ℕ) (a k : ℕ) → Bounds text a → k ≡ a → Bounds text k
bounds_same text a k h e = subst (Bounds text) (sym e) h

-- ---- what is too long

ends_none : (xs : List ℕ) (f : Lexeme) → 0 < length xs → ends xs f ≡ None
ends_none [] f h = absurd (omega arith)
ends_none (x ∷ xs) f h = refl

suffix_none : (radix : Radix) (digits xs : List ℕ) → 2 < length xs → suffix radix digits xs ≡ None
suffix_none radix digits [] h = absurd (omega arith)
suffix_none radix digits (a ∷ []) h = absurd (omega arith)
suffix_none radix digits (a ∷ b ∷ []) h = absurd (omega arith)
suffix_none radix digits (a ∷ b ∷ d ∷ xs) h = refl

-- what a front has left behind its first bytes
rest_length : (r n : ℕ) (xs : List ℕ) → r ≤ n → n ≤ length xs → length (drop r (take n xs)) ≡ n - r
rest_length r n xs h l = length-drop r (take n xs) ∙ ap (λ k. k - r) (length-take-le n xs l)

decimal_none : (xs : List ℕ) (n : ℕ) → run is_digit xs + 2 < n → n ≤ length xs → decimal (take n xs) ≡ None
decimal_none xs n lt le =
    let r = run is_digit xs in
    let e = run_front is_digit xs n (omega arith) in
    let l = rest_length r n xs (omega arith) le in
    ap (λ k. decimal_by k (take n xs)) e ∙ suffix_none radix.Decimal (take r (take n xs)) (drop r (take n xs)) (omega (arith, l))

hexadecimal_none : (xs : List ℕ) (n : ℕ) → run (is_in set.Hexadecimal) xs + 2 < n → n ≤ length xs → hexadecimal (take n xs) ≡ None
hexadecimal_none xs n lt le =
    let r = run (is_in set.Hexadecimal) xs in
    let e = run_front (is_in set.Hexadecimal) xs n (omega arith) in
    let l = rest_length r n xs (omega arith) le in
    let k : length (take n xs) ≡ n = length-take-le n xs le in
    ap (λ k. hexadecimal_by k (take n xs)) e ∙ go (r == 0) (ends_none (take n xs) (x.Refused _) (omega arith)) (suffix_none radix.Hexadecimal (take r (take n xs)) (drop r (take n xs)) (omega (arith, l)))
  where
    go : {a b : Option Lexeme} (t : Bool) → a ≡ None → b ≡ None → (if t then a else b) ≡ None
    go true p q = p
    go false p q = q

-- bytes that are longer than each text of a table stand in none of its entries
lengths_differ : (xs ys : List ℕ) → length xs < length ys → bytes_eq xs ys ≡ false
lengths_differ xs ys h = go (bytes_eq xs ys) refl
  where
    go : (t : Bool) → bytes_eq xs ys ≡ t → t ≡ false
    go true e = let d = ap length ((bytes_eq-Decides xs ys).0 e) in absurd (omega arith)
    go false e = refl

too_long : {A : Type 0} (table : List (List ℕ × A)) (m : ℕ) (bytes : List ℕ) → list_all (λ (e : List ℕ × A). nat_le (length e.0) m) table ≡ true → m < length bytes → entry_of table bytes ≡ None
too_long [] m bytes a h = refl
too_long {A = A} (e ∷ es) m bytes a h =
    let s = and_both (nat_le (length e.0) m) (list_all (λ (e : List ℕ × A). nat_le (length e.0) m) es) a in
    let l : length e.0 ≤ m = at_most (length e.0) m s.0 in
    ap (λ (t : Bool). if t then Some e.1 else entry_of es bytes) (lengths_differ e.0 bytes (omega arith)) ∙ too_long es m bytes s.1 h
  where
    and_both : (s t : Bool) → (s && t) ≡ true → (s ≡ true) × (t ≡ true)
    and_both true t e = (refl, e)
    and_both false t e = cc

    at_most : (a b : ℕ) → nat_le a b ≡ true → a ≤ b
    at_most a b e = grind (arith, nat_tests)

no_mark : (bytes : List ℕ) → 3 < length bytes → mark_of bytes ≡ None
unfolding mark_of
no_mark bytes h = too_long marks 3 bytes refl h

mark_none : (b : ℕ) (whole rest : List ℕ) → 3 < length whole → 0 < length rest → mark b whole rest ≡ None
mark_none b whole rest h r = ap (λ m. mark_or_byte m b rest) (no_mark whole h) ∙ ends_none rest _ r

-- ---- by the first byte

name_is : (b : ℕ) → is_letter b ≡ true → (xs : List ℕ) → lexeme (b ∷ xs) ≡ name (b ∷ xs)
unfolding lexeme
name_is b e xs = ap (λ (t : Bool). if t then name (b ∷ xs) else (if is_digit b then number b (b ∷ xs) xs else (if b == 34 then string xs else (if b == 47 then slash (b ∷ xs) xs else (if is_blank b then ends xs x.Blank else mark b (b ∷ xs) xs))))) e

pub bounds_letter : (b : ℕ) (bs : List ℕ) → is_letter b ≡ true → Bounds (b ∷ bs) (run (is_in set.Word) bs + 1)
unfolding Above
bounds_letter b bs e = lift b bs (λ xs. name (b ∷ xs)) (run (is_in set.Word) bs) (name_is b e)
    (λ n lt le. let k = run_cons (is_in set.Word) b bs in
    ap (λ t. if t then Some (word (b ∷ take n bs)) else None) (more_run (is_in set.Word) (b ∷ bs) (suc n) (omega arith) (omega arith)))

number_is : (b : ℕ) → is_letter b ≡ false → (b == 48) ≡ false → is_digit b ≡ true → (xs : List ℕ) → lexeme (b ∷ xs) ≡ decimal (b ∷ xs)
unfolding lexeme
number_is b e z f xs =
    ap (λ (t : Bool). if t then name (b ∷ xs) else (if is_digit b then number b (b ∷ xs) xs else (if b == 34 then string xs else (if b == 47 then slash (b ∷ xs) xs else (if is_blank b then ends xs x.Blank else mark b (b ∷ xs) xs))))) e
    ∙ (ap (λ (t : Bool). if t then number b (b ∷ xs) xs else (if b == 34 then string xs else (if b == 47 then slash (b ∷ xs) xs else (if is_blank b then ends xs x.Blank else mark b (b ∷ xs) xs)))) f
    ∙ ap (λ (t : Bool). if t then zero_number xs else decimal (b ∷ xs)) z)

pub bounds_digit : (b : ℕ) (bs : List ℕ) → is_letter b ≡ false → (b == 48) ≡ false → is_digit b ≡ true → Bounds (b ∷ bs) (run is_digit bs + 2 + 1)
unfolding Above
bounds_digit b bs e z f = lift b bs (λ xs. decimal (b ∷ xs)) (run is_digit bs + 2) (number_is b e z f)
    (λ n lt le. let k = run_cons is_digit b bs in decimal_none (b ∷ bs) (suc n) (omega arith) (omega arith))

other_is : (b : ℕ) → is_letter b ≡ false → is_digit b ≡ false → (b == 34) ≡ false → (b == 47) ≡ false → (xs : List ℕ) → lexeme (b ∷ xs) ≡ (if is_blank b then ends xs x.Blank else mark b (b ∷ xs) xs)
unfolding lexeme
other_is b e f q g xs =
    ap (λ (t : Bool). if t then name (b ∷ xs) else (if is_digit b then number b (b ∷ xs) xs else (if b == 34 then string xs else (if b == 47 then slash (b ∷ xs) xs else (if is_blank b then ends xs x.Blank else mark b (b ∷ xs) xs))))) e
    ∙ (ap (λ (t : Bool). if t then number b (b ∷ xs) xs else (if b == 34 then string xs else (if b == 47 then slash (b ∷ xs) xs else (if is_blank b then ends xs x.Blank else mark b (b ∷ xs) xs)))) f
    ∙ (ap (λ (t : Bool). if t then string xs else (if b == 47 then slash (b ∷ xs) xs else (if is_blank b then ends xs x.Blank else mark b (b ∷ xs) xs))) q
    ∙ ap (λ (t : Bool). if t then slash (b ∷ xs) xs else (if is_blank b then ends xs x.Blank else mark b (b ∷ xs) xs)) g))

either_none : {a b : Option Lexeme} (t : Bool) → a ≡ None → b ≡ None → (if t then a else b) ≡ None
either_none true p q = p
either_none false p q = q

pub bounds_other : (b : ℕ) (bs : List ℕ) → is_letter b ≡ false → is_digit b ≡ false → (b == 34) ≡ false → (b == 47) ≡ false → Bounds (b ∷ bs) 3
unfolding Above
bounds_other b bs e f q g = lift b bs (λ xs. if is_blank b then ends xs x.Blank else mark b (b ∷ xs) xs) 2 (other_is b e f q g)
    (λ n lt le. let l : length (take n bs) ≡ n = length-take-le n bs le in
    either_none (is_blank b) (ends_none (take n bs) x.Blank (omega arith)) (mark_none b (b ∷ take n bs) (take n bs) (omega arith) (omega arith)))

-- ---- behind `0`

pub bounds_hexadecimal : (b : ℕ) (bs : List ℕ) → is_radix b ≡ true → Bounds (48 ∷ b ∷ bs) (run (is_in set.Hexadecimal) bs + 4)
unfolding Bounds lexeme
bounds_hexadecimal b bs e zero lt le = absurd (omega arith)
bounds_hexadecimal b bs e (suc zero) lt le = absurd (omega arith)
bounds_hexadecimal b bs e (suc (suc n)) lt le =
    ap (λ (t : Bool). if t then hexadecimal (take n bs) else suffix radix.Decimal [] (b ∷ take n bs)) e ∙ hexadecimal_none bs n (omega arith) (omega arith)

pub bounds_zero : (b : ℕ) (bs : List ℕ) → is_radix b ≡ false → Bounds (48 ∷ b ∷ bs) 3
unfolding Bounds lexeme
bounds_zero b bs e zero lt le = absurd (omega arith)
bounds_zero b bs e (suc zero) lt le = absurd (omega arith)
bounds_zero b bs e (suc (suc n)) lt le =
    let l : length (take n bs) ≡ n = length-take-le n bs (omega arith) in
    ap (λ (t : Bool). if t then hexadecimal (take n bs) else suffix radix.Decimal [] (b ∷ take n bs)) e ∙ suffix_none radix.Decimal [] (b ∷ take n bs) (omega arith)

-- ---- behind a quote

string_end_none : (xs : List ℕ) → 1 < length xs → get_or xs 0 0 ≡ 34 → string_end xs ≡ None
string_end_none [] h e = absurd (omega arith)
string_end_none (a ∷ []) h e = absurd (omega arith)
string_end_none (a ∷ b ∷ xs) h e = ap (λ (t : Bool). if t then None else Some (x.Refused c.BadToken)) (eq-eqb a 34 e)

-- a front keeps what stands before its end
pub get_or-front : (xs : List ℕ) (r n : ℕ) → r < n → get_or (drop r (take n xs)) 0 0 ≡ get_or xs r 0
get_or-front xs r zero h = absurd (omega arith)
get_or-front [] zero (suc n) h = refl
get_or-front [] (suc r) (suc n) h = refl
get_or-front (x ∷ xs) zero (suc n) h = refl
get_or-front (x ∷ xs) (suc r) (suc n) h = get_or-front xs r n (omega arith)

pub bounds_string : (bs : List ℕ) → get_or bs (run (is_in set.Quotable) bs) 0 ≡ 34 → Bounds (34 ∷ bs) (run (is_in set.Quotable) bs + 2)
unfolding Bounds lexeme
bounds_string bs e zero lt le = absurd (omega arith)
bounds_string bs e (suc n) lt le =
    let r = run (is_in set.Quotable) bs in
    let f = run_front (is_in set.Quotable) bs n (omega arith) in
    let l = rest_length r n bs (omega arith) (omega arith) in
    ap (λ k. string_end (drop k (take n bs))) f ∙ string_end_none (drop r (take n bs)) (omega (arith, l)) (get_or-front bs r n (omega arith) ∙ e)

-- ---- behind a slash

pub bounds_line : (bs : List ℕ) → Bounds (47 ∷ 47 ∷ bs) (run (is_in set.Line) bs + 2)
unfolding Bounds lexeme
bounds_line bs zero lt le = absurd (omega arith)
bounds_line bs (suc zero) lt le = absurd (omega arith)
bounds_line bs (suc (suc n)) lt le = ap (λ (b : Bool). if b then Some x.Blank else None) (more_run (is_in set.Line) bs n (omega arith) (omega arith))

not_same : (a b : ℕ) → a ≢ b → (a == b) ≡ false
not_same a b h = elim (eqb_tells a b) [ inl t ↦ absurd (h t.1) | inr t ↦ t.0 ]

pub bounds_comment : (bs : List ℕ) (m : ℕ) → close false bs ≡ Some m → Bounds (47 ∷ 42 ∷ bs) (m + 2)
unfolding Bounds lexeme
bounds_comment bs m e zero lt le = absurd (omega arith)
bounds_comment bs m e (suc zero) lt le = absurd (omega arith)
bounds_comment bs m e (suc (suc n)) lt le =
    let f = close_front false bs m n e (omega arith) in
    let l : length (take n bs) ≡ n = length-take-le n bs (omega arith) in
    ap (λ o. comment_by o (length (take n bs))) f ∙ ap (λ (b : Bool). if b then Some x.Blank else None) (ap (λ k. m == k) l ∙ not_same m n (λ d. absurd (omega arith)))

pub bounds_slash : (b : ℕ) (bs : List ℕ) → (b == 47) ≡ false → (b == 42) ≡ false → Bounds (47 ∷ b ∷ bs) 3
unfolding Bounds lexeme
bounds_slash b bs e f zero lt le = absurd (omega arith)
bounds_slash b bs e f (suc zero) lt le = absurd (omega arith)
bounds_slash b bs e f (suc (suc n)) lt le =
    let l : length (take n bs) ≡ n = length-take-le n bs (omega arith) in
    ap (λ (t : Bool). if t then line (take n bs) else (if b == 42 then comment (take n bs) else mark 47 (47 ∷ b ∷ take n bs) (b ∷ take n bs))) e
    ∙ (ap (λ (t : Bool). if t then comment (take n bs) else mark 47 (47 ∷ b ∷ take n bs) (b ∷ take n bs)) f
    ∙ mark_none 47 (47 ∷ b ∷ take n bs) (b ∷ take n bs) (omega arith) (omega arith))

-- ---- each byte is a lexeme

marked : (m : Option Mark) (b : ℕ) → mark_or_byte m b [] ≡ None → ⊥
marked (Some m) b e = cc
marked None b e = cc

number_of_one : (b : ℕ) → is_digit b ≡ true → decimal (b ∷ []) ≡ None → ⊥
unfolding run
number_of_one b e h = let q = ap (λ (t : Bool). decimal_by (if t then 1 + 0 else 0) (b ∷ [])) (sym e) ∙ h in cc

name_of_one : (b : ℕ) → is_letter b ≡ true → name (b ∷ []) ≡ None → ⊥
unfolding all
name_of_one b e h =
    let a : all (is_in set.Word) (b ∷ []) ≡ true = ap (λ (t : Bool). (t || is_digit b) && true) e in
    let q : name (b ∷ []) ≡ Some (word (b ∷ [])) = ap (λ (t : Bool). if t then Some (word (b ∷ [])) else None) a in
    cc

first_of_one : (b : ℕ) (l d q s w : Bool) → is_letter b ≡ l → is_digit b ≡ d →
    (if l then name (b ∷ []) else (if d then number b (b ∷ []) [] else (if q then string [] else (if s then slash (b ∷ []) [] else (if w then ends [] x.Blank else mark b (b ∷ []) []))))) ≡ None → ⊥
unfolding run
first_of_one b true d q s w e f h = name_of_one b e h
first_of_one b false true q s w e f h = go (b == 48) h
  where
    go : (t : Bool) → (if t then suffix radix.Decimal [] [] else decimal (b ∷ [])) ≡ None → ⊥
    go true h = cc
    go false h = number_of_one b f h
first_of_one b false false true s w e f h = cc
first_of_one b false false false true w e f h = marked (mark_of (b ∷ [])) 47 h
first_of_one b false false false false true e f h = cc
first_of_one b false false false false false e f h = marked (mark_of (b ∷ [])) b h

pub one_byte : (text : List ℕ) → 0 < length text → lexeme (take 1 text) ≡ None → ⊥
unfolding lexeme
one_byte [] h e = absurd (omega arith)
one_byte (b ∷ bs) h e = first_of_one b (is_letter b) (is_digit b) (b == 34) (b == 47) (is_blank b) refl refl e

-- ---- downwards

pub le_or_lt : (m n : ℕ) → (m ≤ n) ⊎ (n < m)
le_or_lt zero n = inl (omega arith)
le_or_lt (suc m) zero = inr (omega arith)
le_or_lt (suc m) (suc n) = elim (le_or_lt m n) [ inl h ↦ inl (omega arith) | inr h ↦ inr (omega arith) ]

pub shorter : (text : List ℕ) (len : ℕ) → 0 < len → Bounds text len → lexeme (take len text) ≡ None → Bounds text (len - 1)
unfolding Bounds
shorter text len h b e n lt le = elim (le_or_lt n len) [
  | inl l ↦ let d : n ≡ len = omega arith in ap (λ k. lexeme (take k text)) d ∙ e
  | inr l ↦ b n l le
]

pub found : (text : List ℕ) (f : Lexeme) (len : ℕ) → 0 < len → len ≤ length text → Bounds text len → lexeme (take len text) ≡ Some f → IsLongest text f len
unfolding Bounds
found text f len s w b e = record { some = s; within = w; is = e; longest = b }

-- ---- at slices

pub bounds_tail : (b : ℕ) (bs : List ℕ) (k : ℕ) → 0 < length bs → Bounds (b ∷ get_or bs 0 0 ∷ tail bs) k → Bounds (b ∷ bs) k
bounds_tail b [] k h m = absurd (omega arith)
bounds_tail b (x ∷ xs) k h m = subst (λ ys. Bounds (b ∷ x ∷ ys) k) (tail-cons x xs) m

pub bounds_text : (text : List ℕ) (k : ℕ) → 0 < length text → Bounds (get_or text 0 0 ∷ tail text) k → Bounds text k
bounds_text [] k h b = absurd (omega arith)
bounds_text (x ∷ xs) k h b = subst (λ ys. Bounds (x ∷ ys) k) (tail-cons x xs) b

-- what the program has tested
pub tested_no : (a b : ℕ) → a ≢ b → (a == b) ≡ false
tested_no = not_same
