-- What stands among words, before and after a write.
use Rattle.std.proofs.Common.{◌≡◌, ℕ, ◌+◌, ◌-◌, ◌<◌, ◌≤◌, ◌⊎◌, inl, inr, List, ◌++◌, length, get_or, take, drop, refl, sym, ap, ◌∙◌, arith}
use Rattle.std.proofs.lemmas.Bool.{cases_lt}
use Rattle.std.proofs.lemmas.List.{same_lists, get_or-take, get_or-drop, get_or_append_left, get_or-append_right, length-append, length-take-le, length-drop}
use Rattle.flat_values.specs.Ranges.{range_at, Stands, written}

pub length-range_at : (ws : List ℕ) (place n : ℕ) → place + n ≤ length ws → length (range_at ws place n) ≡ n
length-range_at ws place n h = length-take-le n (drop place ws) (omega (arith, length-drop place ws))

pub get_or-range_at : (ws : List ℕ) (place n k d : ℕ) → k < n → get_or (range_at ws place n) k d ≡ get_or ws (place + k) d
get_or-range_at ws place n k d h = get_or-take n (drop place ws) k d h ∙ get_or-drop place ws k d

pub stands_from : (xs : List ℕ) (place : ℕ) (ws : List ℕ) → place + length xs ≤ length ws
    → ((k d : ℕ) → k < length xs → get_or ws (place + k) d ≡ get_or xs k d) → Stands xs place ws
stands_from xs place ws inside same =
    let n = length-range_at ws place (length xs) inside in
    record {
      inside = inside;
      words = same_lists (range_at ws place (length xs)) xs n (λ k d h.
          let h' : k < length xs = omega arith in get_or-range_at ws place (length xs) k d h' ∙ same k d h');
    }

pub stands_at : (xs : List ℕ) (place : ℕ) (ws : List ℕ) → Stands xs place ws → (k d : ℕ) → k < length xs
    → get_or ws (place + k) d ≡ get_or xs k d
stands_at xs place ws s k d h = sym (get_or-range_at ws place (length xs) k d h) ∙ ap (λ l. get_or l k d) s.words

-- ---- parts

pub stands_first : (xs ys : List ℕ) (place : ℕ) (ws : List ℕ) → Stands (xs ++ ys) place ws → Stands xs place ws
stands_first xs ys place ws s =
    let n = length-append xs ys in
    let i = s.inside in
    stands_from xs place ws (omega arith) (λ k d h.
    stands_at (xs ++ ys) place ws s k d (omega arith) ∙ get_or_append_left xs ys d k h)

pub stands_rest : (xs ys : List ℕ) (place : ℕ) (ws : List ℕ) → Stands (xs ++ ys) place ws → Stands ys (place + length xs) ws
stands_rest xs ys place ws s =
    let n = length-append xs ys in
    let i = s.inside in
    stands_from ys (place + length xs) ws (omega arith) (λ k d h.
    let e : place + length xs + k ≡ place + (length xs + k) = omega arith in
    let f : length xs + k - length xs ≡ k = omega arith in
    ap (λ p. get_or ws p d) e ∙ (stands_at (xs ++ ys) place ws s (length xs + k) d (omega arith)
    ∙ (get_or-append_right xs ys (length xs) (length xs + k) d refl (omega arith) ∙ ap (λ p. get_or ys p d) f)))

pub stands_both : (xs ys : List ℕ) (place : ℕ) (ws : List ℕ) → Stands xs place ws → Stands ys (place + length xs) ws
    → Stands (xs ++ ys) place ws
stands_both xs ys place ws s t =
    let n = length-append xs ys in
    let i = t.inside in
    stands_from (xs ++ ys) place ws (omega arith) (λ k d h. either k d h (cases_lt k (length xs)))
  where
    either : (k d : ℕ) → k < length (xs ++ ys) → (k < length xs) ⊎ (length xs ≤ k) → get_or ws (place + k) d ≡ get_or (xs ++ ys) k d
    either k d h (inl l) = stands_at xs place ws s k d l ∙ sym (get_or_append_left xs ys d k l)
    either k d h (inr l) =
        let n = length-append xs ys in
        let e : place + k ≡ place + length xs + (k - length xs) = omega arith in
        ap (λ p. get_or ws p d) e ∙ (stands_at ys (place + length xs) ws t (k - length xs) d (omega arith)
        ∙ sym (get_or-append_right xs ys (length xs) k d refl l))

-- ---- writes

pub length-written : (ws xs : List ℕ) (place : ℕ) → place + length xs ≤ length ws → length (written ws place xs) ≡ length ws
length-written ws xs place h =
    omega (arith, length-append (take place ws ++ xs) (drop (place + length xs) ws), length-append (take place ws) xs, length-take-le place ws (omega arith), length-drop (place + length xs) ws)

pub written_below : (ws xs : List ℕ) (place k d : ℕ) → place + length xs ≤ length ws → k < place → get_or (written ws place xs) k d ≡ get_or ws k d
written_below ws xs place k d h l =
    let n = length-take-le place ws (omega arith) in
    let m = length-append (take place ws) xs in
    get_or_append_left (take place ws ++ xs) (drop (place + length xs) ws) d k (omega arith)
    ∙ (get_or_append_left (take place ws) xs d k (omega arith) ∙ get_or-take place ws k d l)

pub written_at : (ws xs : List ℕ) (place k d : ℕ) → place + length xs ≤ length ws → k < length xs
    → get_or (written ws place xs) (place + k) d ≡ get_or xs k d
written_at ws xs place k d h l =
    let n = length-take-le place ws (omega arith) in
    let m = length-append (take place ws) xs in
    let e : place + k - place ≡ k = omega arith in
    get_or_append_left (take place ws ++ xs) (drop (place + length xs) ws) d (place + k) (omega arith)
    ∙ (get_or-append_right (take place ws) xs place (place + k) d n (omega arith) ∙ ap (λ p. get_or xs p d) e)

pub written_above : (ws xs : List ℕ) (place k d : ℕ) → place + length xs ≤ length ws → place + length xs ≤ k
    → get_or (written ws place xs) k d ≡ get_or ws k d
written_above ws xs place k d h l =
    let n = length-take-le place ws (omega arith) in
    let m = length-append (take place ws) xs in
    let e : place + length xs + (k - (place + length xs)) ≡ k = omega arith in
    get_or-append_right (take place ws ++ xs) (drop (place + length xs) ws) (place + length xs) k d (omega arith) l
    ∙ (get_or-drop (place + length xs) ws (k - (place + length xs)) d ∙ ap (λ p. get_or ws p d) e)

pub written_there : (ws xs : List ℕ) (place : ℕ) → place + length xs ≤ length ws → Stands xs place (written ws place xs)
written_there ws xs place h =
    let n = length-written ws xs place h in
    stands_from xs place (written ws place xs) (omega arith) (λ k d l. written_at ws xs place k d h l)

pub written_apart : (ws xs ys : List ℕ) (place other : ℕ) → place + length xs ≤ length ws → Stands ys other ws
    → (other + length ys ≤ place) ⊎ (place + length xs ≤ other) → Stands ys other (written ws place xs)
written_apart ws xs ys place other h s (inl l) =
    let n = length-written ws xs place h in
    let i = s.inside in
    stands_from ys other (written ws place xs) (omega arith) (λ k d b.
    written_below ws xs place (other + k) d h (omega arith) ∙ stands_at ys other ws s k d b)
written_apart ws xs ys place other h s (inr l) =
    let n = length-written ws xs place h in
    let i = s.inside in
    stands_from ys other (written ws place xs) (omega arith) (λ k d b.
    written_above ws xs place (other + k) d h (omega arith) ∙ stands_at ys other ws s k d b)
