-- Whole lines.
use Rattle.std.proofs.Common.{◌≡◌, ℕ, ◌<◌, ◌^◌, Bool, cond, List, [], ◌∷◌, ◌++◌, length, replicate, refl, sym, ap, subst, ◌∙◌, arith}
use Rattle.std.specs.List.{AllByRecursion}
use Rattle.std.specs.Fmt.{decimal}
use Rattle.std.proofs.lemmas.Bool.{ne_eqb}
use Rattle.std.proofs.lemmas.List.{append_assoc, append_cancel_left, length-replicate}
use Rattle.run_buffers.specs.declared.buffer.Buffer.{Buffer}
use Rattle.run_buffers.specs.declared.fields.Separator.TheVariants.{Space, BehindCount}
use Rattle.run_buffers.specs.declared.lines.Header.{Header}
use Rattle.run_buffers.specs.Texts.{separator, line, line_of, IsWord}
use Rattle.run_buffers.specs.Parts.{Stops, behind, field}
use Rattle.run_buffers.specs.Lines.{Ahead, header, header_of, MayHead, MayFollow, AreWords, separator_before}
use Rattle.run_buffers.proofs.Sequence.{IsPrefixFree, Begun, stops_first, stops_then}
use Rattle.run_buffers.proofs.Headers.{field_free, header_free, same_header}
use Rattle.run_buffers.proofs.Words.{zeros, line_word}

behind_count : (ws : List ℕ) → behind BehindCount (length ws) ≡ separator ws
behind_count [] = refl
behind_count (w ∷ ws) = ap (λ (t : Bool). cond t 10 32) (ne_eqb (length (w ∷ ws)) 0 (λ (e : length (w ∷ ws) ≡ 0). omega arith))

pub line_is : (b : Buffer) → line_of b ≡ header (header_of b) ++ line b.words
line_is b =
    let count = decimal (length b.words) ++ separator b.words ∷ line b.words in
    let last : count ≡ field BehindCount (length b.words) ++ line b.words =
    ap (λ (e : ℕ). decimal (length b.words) ++ e ∷ line b.words) (sym (behind_count b.words))
    ∙ sym (append_assoc (decimal (length b.words)) (behind BehindCount (length b.words) ∷ []) (line b.words)) in
    sym (append_assoc (decimal b.set) (32 ∷ []) (decimal b.binding ++ 32 ∷ count))
    ∙ (ap (λ (us : List ℕ). field Space b.set ++ us) (sym (append_assoc (decimal b.binding) (32 ∷ []) count))
    ∙ (ap (λ (us : List ℕ). field Space b.set ++ (field Space b.binding ++ us)) last
    ∙ (ap (λ (us : List ℕ). field Space b.set ++ us) (sym (append_assoc (field Space b.binding) (field BehindCount (length b.words)) (line b.words)))
    ∙ sym (append_assoc (field Space b.set) (field Space b.binding ++ field BehindCount (length b.words)) (line b.words)))))

pub same_buffer : (a b : Buffer) → a.set ≡ b.set → a.binding ≡ b.binding → a.words ≡ b.words → a ≡ b
same_buffer a b p q r =
    ap (λ (v : ℕ). let k : Buffer = record { set = v; binding = a.binding; words = a.words } in k) p
    ∙ (ap (λ (v : ℕ). let k : Buffer = record { set = b.set; binding = v; words = a.words } in k) q
    ∙ ap (λ (v : List ℕ). let k : Buffer = record { set = b.set; binding = b.binding; words = v } in k) r)

line_begun : (ahead : Ahead) → ahead.words < 2 ^ 32 → Begun header (MayHead ahead) line_of (MayFollow ahead) header_of (λ b. line b.words)
line_begun ahead small = record { free = header_free ahead small; can = λ b may. may.0; is = λ b may. line_is b }

abbrev pub made : Header → List ℕ → Buffer
made h ws = record { set = h.set; binding = h.binding; words = ws }

made_head : (h : Header) (ws : List ℕ) → length ws ≡ h.count → header_of (made h ws) ≡ h
made_head h ws e = same_header (header_of (made h ws)) h refl refl e

made_may : (ahead : Ahead) (h : Header) (ws : List ℕ) → MayHead ahead h → AreWords h.count ws → MayFollow ahead (made h ws)
made_may ahead h ws may are = (subst (MayHead ahead) (sym (made_head h ws are.0)) may, are.1)

pub stops_in_header : (ahead : Ahead) (bytes : List ℕ) (left : ℕ) → ahead.words < 2 ^ 32 → Stops header (MayHead ahead) bytes left → Stops line_of (MayFollow ahead) bytes left
stops_in_header ahead bytes left small s =
    stops_first header (MayHead ahead) line_of (MayFollow ahead) header_of (λ b. line b.words) (line_begun ahead small)
    (λ h may. let many = length-replicate h.count (let z : ℕ = 0 in z) in
    (made h (replicate h.count 0), made_may ahead h (replicate h.count 0) may (many, zeros h.count), made_head h (replicate h.count 0) many)) bytes left s

pub stops_in_words : (ahead : Ahead) (h : Header) (bytes rest : List ℕ) (left : ℕ) → ahead.words < 2 ^ 32 → MayHead ahead h → bytes ≡ header h ++ rest
    → Stops line (AreWords h.count) rest left → Stops line_of (MayFollow ahead) bytes left
stops_in_words ahead h bytes rest left small may e s =
    stops_then header (MayHead ahead) line_of (MayFollow ahead) header_of (λ b. line b.words) line (AreWords h.count) h (line_begun ahead small) may
    (λ b can same. (b.words, (ap (λ (k : Header). k.count) same, can.1), refl))
    (λ ws are. (made h ws, made_may ahead h ws may are, line_is (made h ws) ∙ ap (λ (k : Header). header k ++ line ws) (made_head h ws are.0))) bytes rest left e s

pub read_line : (h : Header) (ws bytes middle rest : List ℕ) → length ws ≡ h.count → bytes ≡ header h ++ middle → middle ≡ line ws ++ rest → bytes ≡ line_of (made h ws) ++ rest
read_line h ws bytes middle rest many e f =
    e ∙ (ap (λ (us : List ℕ). header h ++ us) f
    ∙ (sym (append_assoc (header h) (line ws) rest)
    ∙ ap (λ (us : List ℕ). us ++ rest) (sym (line_is (made h ws) ∙ ap (λ (k : Header). header k ++ line ws) (made_head h ws many)))))

pub may_line : (ahead : Ahead) (h : Header) (ws : List ℕ) → MayHead ahead h → AreWords h.count ws → MayFollow ahead (made h ws)
may_line = made_may

-- ---- no line begins another

words_free : (xs ys x y : List ℕ) → length xs ≡ length ys → AllByRecursion IsWord xs → AllByRecursion IsWord ys → line xs ++ x ≡ line ys ++ y → xs ≡ ys
words_free [] [] x y n p q e = refl
words_free [] (b ∷ ys) x y n p q e = absurd (omega arith)
words_free (a ∷ xs) [] x y n p q e = absurd (omega arith)
words_free (a ∷ xs) (b ∷ ys) x y n p q e =
    let m : length xs ≡ length ys = omega arith in
    let na = p.0 in
    let nb = q.0 in
    let s = separator_before (length xs) in
    let la = ap (λ (us : List ℕ). us ++ x) (line_word a xs (length xs) refl) ∙ append_assoc (field s a) (line xs) x in
    let lb = ap (λ (us : List ℕ). us ++ y) (line_word b ys (length xs) (sym m)) ∙ append_assoc (field s b) (line ys) y in
    let all : field s a ++ (line xs ++ x) ≡ field s b ++ (line ys ++ y) = sym la ∙ (e ∙ lb) in
    let same = field_free s 0 4294967295 (omega arith) a b (line xs ++ x) (line ys ++ y) (omega arith, omega arith) (omega arith, omega arith) all in
    let rest = append_cancel_left (field s b) (line xs ++ x) (line ys ++ y) (ap (λ (v : ℕ). field s v ++ (line xs ++ x)) (sym same) ∙ all) in
    let i = words_free xs ys x y m p.1 q.1 rest in
    ap (λ (v : ℕ). v ∷ xs) same ∙ ap (λ (us : List ℕ). b ∷ us) i

pub line_free : (ahead : Ahead) → ahead.words < 2 ^ 32 → IsPrefixFree line_of (MayFollow ahead)
line_free ahead small a b x y ca cb e =
    let la = ap (λ (us : List ℕ). us ++ x) (line_is a) ∙ append_assoc (header (header_of a)) (line a.words) x in
    let lb = ap (λ (us : List ℕ). us ++ y) (line_is b) ∙ append_assoc (header (header_of b)) (line b.words) y in
    let all = sym la ∙ (e ∙ lb) in
    let heads = header_free ahead small (header_of a) (header_of b) (line a.words ++ x) (line b.words ++ y) ca.0 cb.0 all in
    let rest = append_cancel_left (header (header_of b)) (line a.words ++ x) (line b.words ++ y) (ap (λ (h : Header). header h ++ (line a.words ++ x)) (sym heads) ∙ all) in
    let words = words_free a.words b.words x y (ap (λ (h : Header). h.count) heads) ca.1 cb.1 rest in
    same_buffer a b (ap (λ (h : Header). h.set) heads) (ap (λ (h : Header). h.binding) heads) words
