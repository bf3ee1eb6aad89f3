-- Ranges that grow by a word.
use Rattle.std.proofs.Common.{◌≡◌, ℕ, zero, suc, ◌+◌, ◌-◌, ◌<◌, ◌≤◌, ◌⊎◌, inl, inr, List, [], ◌∷◌, ◌++◌, length, get_or, set, take, drop, map, Option, Some, None, refl, sym, ap, ◌∙◌, add-one, append_assoc, arith}
use Rattle.std.proofs.lemmas.Bool.{cases_lt}
use Rattle.std.proofs.lemmas.List.{same_lists, length-set, length_push, length-map, take_more, drop_more, length-drop, get_or-drop, get_or_append_left, get_or-append_right, get_or-set_same, get_or-set_other, map_push, drop-drop}
use borrow.Rule.Slice.PartMut.{put_mid}
use Rattle.flat_values.specs.Ranges.{range_at, written, copied}
use Rattle.std.proofs.Math.Seq.{take-add}
use Rattle.flat_values.specs.Lanes.{both_of}
use Rattle.flat_values.proofs.Lanes.{both, more, both_append}
use Rattle.flat_values.proofs.Standing.{length-range_at, length-written, written_below, written_at, written_above}

-- a list that is told apart below, within and above what was written
pub written_is : (ws xs ys : List ℕ) (place : ℕ) → length ys ≡ length ws → place + length xs ≤ length ws
    → ((k d : ℕ) → k < place → get_or ys k d ≡ get_or ws k d)
    → ((k d : ℕ) → k < length xs → get_or ys (place + k) d ≡ get_or xs k d)
    → ((k d : ℕ) → place + length xs ≤ k → get_or ys k d ≡ get_or ws k d)
    → ys ≡ written ws place xs
written_is ws xs ys place n h below at above =
    let m = length-written ws xs place h in
    same_lists ys (written ws place xs) (omega arith) (λ k d l. either k d (cases_lt k place) (cases_lt k (place + length xs)))
  where
    either : (k d : ℕ) → (k < place) ⊎ (place ≤ k) → (k < place + length xs) ⊎ (place + length xs ≤ k)
        → get_or ys k d ≡ get_or (written ws place xs) k d
    either k d (inl l) o = below k d l ∙ sym (written_below ws xs place k d h l)
    either k d (inr g) (inr a) = above k d a ∙ sym (written_above ws xs place k d h a)
    either k d (inr g) (inl l) =
        let e : k ≡ place + (k - place) = omega arith in
        let i : k - place < length xs = omega arith in
        ap (λ j. get_or ys j d) e ∙ (at (k - place) d i ∙ (sym (written_at ws xs place (k - place) d h i)
        ∙ ap (λ j. get_or (written ws place xs) j d) (sym e)))

pub written_none : (ws : List ℕ) (place : ℕ) → place ≤ length ws → ws ≡ written ws place []
written_none ws place h = written_is ws [] ws place refl (omega arith) (λ k d l. refl) (λ k d l. absurd (omega arith)) (λ k d l. refl)

-- one word more at the end
pub written_more : (ws xs : List ℕ) (place i x : ℕ) → place + length xs < length ws → i ≡ place + length xs
    → set (written ws place xs) i x ≡ written ws place (xs ++ x ∷ [])
written_more ws xs place i x h e =
    let n = length-written ws xs place (omega arith) in
    let m = length_push xs x in
    written_is ws (xs ++ x ∷ []) (set (written ws place xs) i x) place (length-set (written ws place xs) i x ∙ n) (omega arith)
    (λ k d l. get_or-set_other (written ws place xs) i k x d (omega arith) ∙ written_below ws xs place k d (omega arith) l)
    (λ k d l. either k d l (cases_lt k (length xs)))
    (λ k d l. get_or-set_other (written ws place xs) i k x d (omega arith) ∙ written_above ws xs place k d (omega arith) (omega arith))
  where
    either : (k d : ℕ) → k < length (xs ++ x ∷ []) → (k < length xs) ⊎ (length xs ≤ k)
        → get_or (set (written ws place xs) i x) (place + k) d ≡ get_or (xs ++ x ∷ []) k d
    either k d l (inl b) =
        get_or-set_other (written ws place xs) i (place + k) x d (omega arith)
        ∙ (written_at ws xs place k d (omega arith) b ∙ sym (get_or_append_left xs (x ∷ []) d k b))
    either k d l (inr g) =
        let n = length-written ws xs place (omega arith) in
        let m = length_push xs x in
        let f : place + k ≡ i = omega arith in
        let z : k - length xs ≡ 0 = omega arith in
        ap (λ j. get_or (set (written ws place xs) i x) j d) f
        ∙ (get_or-set_same (written ws place xs) i x d (omega arith)
        ∙ sym (get_or-append_right xs (x ∷ []) (length xs) k d refl g ∙ ap (λ j. get_or (x ∷ []) j d) z))

-- one word more before the first
pub written_before : (ws xs : List ℕ) (place x : ℕ) → place + 1 + length xs ≤ length ws
    → set (written ws (place + 1) xs) place x ≡ written ws place (x ∷ xs)
written_before ws xs place x h =
    let n = length-written ws xs (place + 1) h in
    written_is ws (x ∷ xs) (set (written ws (place + 1) xs) place x) place (length-set (written ws (place + 1) xs) place x ∙ n) (omega arith)
    (λ k d l. get_or-set_other (written ws (place + 1) xs) place k x d (omega arith) ∙ written_below ws xs (place + 1) k d h (omega arith))
    at
    (λ k d l. get_or-set_other (written ws (place + 1) xs) place k x d (omega arith) ∙ written_above ws xs (place + 1) k d h (omega arith))
  where
    at : (k d : ℕ) → k < length (x ∷ xs) → get_or (set (written ws (place + 1) xs) place x) (place + k) d ≡ get_or (x ∷ xs) k d
    at zero d l =
        let n = length-written ws xs (place + 1) h in
        let e : place + 0 ≡ place = omega arith in
        ap (λ j. get_or (set (written ws (place + 1) xs) place x) j d) e
        ∙ get_or-set_same (written ws (place + 1) xs) place x d (omega arith)
    at (suc k) d l =
        let e : place + suc k ≡ place + 1 + k = omega arith in
        get_or-set_other (written ws (place + 1) xs) place (place + suc k) x d (omega arith)
        ∙ (ap (λ j. get_or (written ws (place + 1) xs) j d) e ∙ written_at ws xs (place + 1) k d h (omega arith))

pub range_more : (ws : List ℕ) (place k d : ℕ) → place + k < length ws
    → range_at ws place (k + 1) ≡ range_at ws place k ++ get_or ws (place + k) d ∷ []
range_more ws place k d h =
    take_more (drop place ws) k d (omega (arith, length-drop place ws))
    ∙ ap (λ x. range_at ws place k ++ x ∷ []) (get_or-drop place ws k d)

pub range_before : (ws : List ℕ) (place n d : ℕ) → place < length ws
    → range_at ws place (n + 1) ≡ get_or ws place d ∷ range_at ws (place + 1) n
range_before ws place n d h = ap (take (n + 1)) (drop_more ws place d h) ∙ ap (λ j. take j (get_or ws place d ∷ drop (place + 1) ws)) (add-one n)

-- ---- copies

-- a word apart from what was written
read_apart : (ws xs : List ℕ) (place i : ℕ) → place + length xs ≤ length ws → (i < place) ⊎ (place + length xs ≤ i)
    → get_or (written ws place xs) i 0 ≡ get_or ws i 0
read_apart ws xs place i h (inl b) = written_below ws xs place i 0 h b
read_apart ws xs place i h (inr a) = written_above ws xs place i 0 h a

pub copied_more : (ws : List ℕ) (from to k : ℕ) → from + k < length ws → to + k < length ws → to ≤ from
    → set (written ws to (range_at ws from k)) (to + k) (get_or (written ws to (range_at ws from k)) (from + k) 0)
    ≡ written ws to (range_at ws from (k + 1))
copied_more ws from to k f t l =
    let n = length-range_at ws from k (omega arith) in
    written_more ws (range_at ws from k) to (to + k) (get_or (written ws to (range_at ws from k)) (from + k) 0) (omega arith) (omega arith)
    ∙ ap (written ws to) (ap (λ y. range_at ws from k ++ y ∷ []) (read_apart ws (range_at ws from k) to (from + k) (omega arith) (inr (omega arith)))
    ∙ sym (range_more ws from k 0 f))

copied_before_at : (ws : List ℕ) (from to n : ℕ) → from + 1 + n ≤ length ws → to + 1 + n ≤ length ws → from ≤ to
    → set (written ws (to + 1) (range_at ws (from + 1) n)) to (get_or (written ws (to + 1) (range_at ws (from + 1) n)) from 0)
    ≡ written ws to (range_at ws from (n + 1))
copied_before_at ws from to n f t l =
    let m = length-range_at ws (from + 1) n f in
    written_before ws (range_at ws (from + 1) n) to (get_or (written ws (to + 1) (range_at ws (from + 1) n)) from 0) (omega arith)
    ∙ ap (written ws to) (ap (λ y. y ∷ range_at ws (from + 1) n) (read_apart ws (range_at ws (from + 1) n) (to + 1) from (omega arith) (inl (omega arith)))
    ∙ sym (range_before ws from n 0 (omega arith)))

pub copied_before : (ws vs : List ℕ) (from to k count : ℕ) → from + count ≤ length ws → to + count ≤ length ws → from ≤ to
    → 0 < k → k ≤ count → vs ≡ written ws (to + k) (range_at ws (from + k) (count - k))
    → set vs (to + (k - 1)) (get_or vs (from + (k - 1)) 0) ≡ written ws (to + (k - 1)) (range_at ws (from + (k - 1)) (count - (k - 1)))
copied_before ws vs from to k count f t l z h e =
    let a : to + k ≡ to + (k - 1) + 1 = omega arith in
    let b : from + k ≡ from + (k - 1) + 1 = omega arith in
    let n : count - k + 1 ≡ count - (k - 1) = omega arith in
    let e' : vs ≡ written ws (to + (k - 1) + 1) (range_at ws (from + (k - 1) + 1) (count - k)) = cc in
    ap (λ w. set w (to + (k - 1)) (get_or w (from + (k - 1)) 0)) e'
    ∙ (copied_before_at ws (from + (k - 1)) (to + (k - 1)) (count - k) (omega arith) (omega arith) (omega arith)
    ∙ ap (λ j. written ws (to + (k - 1)) (range_at ws (from + (k - 1)) j)) n)

-- ---- operators

-- the place of a word that is read is not within what was written
not_within : (from to k count : ℕ) → k < count → (from < to → from + count ≤ to) → (from + k < to) ⊎ (to + k ≤ from + k)
not_within from to k count h apart = either (cases_lt from to)
  where
    either : (from < to) ⊎ (to ≤ from) → (from + k < to) ⊎ (to + k ≤ from + k)
    either (inl l) = let a = apart l in inl (omega arith)
    either (inr g) = inr (omega arith)

pub read_on : (ws xs : List ℕ) (from to k count : ℕ) → k < count → to + count ≤ length ws → length xs ≡ k
    → (from < to → from + count ≤ to) → get_or (written ws to xs) (from + k) 0 ≡ get_or ws (from + k) 0
read_on ws xs from to k count h t n apart = either (not_within from to k count h apart)
  where
    either : (from + k < to) ⊎ (to + k ≤ from + k) → get_or (written ws to xs) (from + k) 0 ≡ get_or ws (from + k) 0
    either (inl l) = read_apart ws xs to (from + k) (omega arith) (inl l)
    either (inr g) = read_apart ws xs to (from + k) (omega arith) (inr (omega arith))

pub mapped_more : (f : ℕ → ℕ) (ws vs : List ℕ) (from to k count x : ℕ) → k < count → from + count ≤ length ws → to + count ≤ length ws
    → (from < to → from + count ≤ to) → vs ≡ written ws to (map f (range_at ws from k)) → x ≡ f (get_or vs (from + k) 0)
    → set vs (to + k) x ≡ written ws to (map f (range_at ws from (k + 1)))
mapped_more f ws vs from to k count x h a b apart e r =
    let n = length-range_at ws from k (omega arith) in
    let m : length (map f (range_at ws from k)) ≡ k = length-map (range_at ws from k) f ∙ n in
    let y : x ≡ f (get_or ws (from + k) 0) =
    r ∙ ap f (ap (λ w. get_or w (from + k) 0) e ∙ read_on ws (map f (range_at ws from k)) from to k count h b m apart) in
    ap (λ w. set w (to + k) x) e
    ∙ (written_more ws (map f (range_at ws from k)) to (to + k) x (omega arith) (omega arith)
    ∙ ap (written ws to) (ap (λ z. map f (range_at ws from k) ++ z ∷ []) y
    ∙ (sym (map_push f (range_at ws from k) (get_or ws (from + k) 0)) ∙ ap (map f) (sym (range_more ws from k 0 (omega arith))))))

pub both_more : (f : ℕ → ℕ → Option ℕ) (ws xs : List ℕ) (left right k x : ℕ) → left + k < length ws → right + k < length ws
    → both_of f (range_at ws left k) (range_at ws right k) ≡ Some xs → f (get_or ws (left + k) 0) (get_or ws (right + k) 0) ≡ Some x
    → both_of f (range_at ws left (k + 1)) (range_at ws right (k + 1)) ≡ Some (xs ++ x ∷ [])
both_more f ws xs left right k x a b e r =
    let n = length-range_at ws left k (omega arith) in
    let m = length-range_at ws right k (omega arith) in
    let y = get_or ws (left + k) 0 in
    let z = get_or ws (right + k) 0 in
    ap (λ l. both_of f l (range_at ws right (k + 1))) (range_more ws left k 0 a)
    ∙ (ap (both_of f (range_at ws left k ++ y ∷ [])) (range_more ws right k 0 b)
    ∙ (both_append f (range_at ws left k) (y ∷ []) (range_at ws right k) (z ∷ []) (n ∙ sym m)
    ∙ (ap (λ o. both o (more (f y z) (Some []))) e ∙ ap (λ o. both (Some xs) (more o (Some []))) r)))

range_split : (ws : List ℕ) (place n m : ℕ) → n ≤ m → range_at ws place m ≡ range_at ws place n ++ range_at ws (place + n) (m - n)
range_split ws place n m h =
    let e : m ≡ n + (m - n) = omega arith in
    ap (λ j. take j (drop place ws)) e
    ∙ (take-add n (m - n) (drop place ws) ∙ ap (λ l. range_at ws place n ++ take (m - n) l) (drop-drop n place ws))

pub both_fails : (f : ℕ → ℕ → Option ℕ) (ws xs : List ℕ) (left right k count : ℕ) → k < count → left + count ≤ length ws
    → right + count ≤ length ws → both_of f (range_at ws left k) (range_at ws right k) ≡ Some xs
    → f (get_or ws (left + k) 0) (get_or ws (right + k) 0) ≡ None → both_of f (range_at ws left count) (range_at ws right count) ≡ None
both_fails f ws xs left right k count h a b e r =
    let n = length-range_at ws left k (omega arith) in
    let m = length-range_at ws right k (omega arith) in
    let y = get_or ws (left + k) 0 in
    let z = get_or ws (right + k) 0 in
    let n' = length-range_at ws left (k + 1) (omega arith) in
    let m' = length-range_at ws right (k + 1) (omega arith) in
    let one : both_of f (range_at ws left (k + 1)) (range_at ws right (k + 1)) ≡ None =
    ap (λ l. both_of f l (range_at ws right (k + 1))) (range_more ws left k 0 (omega arith))
    ∙ (ap (both_of f (range_at ws left k ++ y ∷ [])) (range_more ws right k 0 (omega arith))
    ∙ (both_append f (range_at ws left k) (y ∷ []) (range_at ws right k) (z ∷ []) (n ∙ sym m)
    ∙ (ap (λ o. both o (more (f y z) (Some []))) e ∙ ap (λ o. both (Some xs) (more o (Some []))) r))) in
    ap (λ l. both_of f l (range_at ws right count)) (range_split ws left (k + 1) count (omega arith))
    ∙ (ap (both_of f (range_at ws left (k + 1) ++ range_at ws (left + (k + 1)) (count - (k + 1)))) (range_split ws right (k + 1) count (omega arith))
    ∙ (both_append f (range_at ws left (k + 1)) (range_at ws (left + (k + 1)) (count - (k + 1))) (range_at ws right (k + 1))
    (range_at ws (right + (k + 1)) (count - (k + 1))) (n' ∙ sym m')
    ∙ ap (λ o. both o (both_of f (range_at ws (left + (k + 1)) (count - (k + 1))) (range_at ws (right + (k + 1)) (count - (k + 1))))) one))

-- a part that was written
pub put_mid_is : (ws xs : List ℕ) (place k : ℕ) → length xs ≡ k → put_mid place k ws xs ≡ written ws place xs
put_mid_is ws xs place k e =
    ap (λ l. take place ws ++ (xs ++ l)) (drop-drop k place ws ∙ ap (λ j. drop (place + j) ws) (sym e))
    ∙ sym (append_assoc (take place ws) xs (drop (place + length xs) ws))

-- ---- single words

pub range_one : (ws : List ℕ) (i : ℕ) → i < length ws → range_at ws i 1 ≡ get_or ws i 0 ∷ []
range_one ws i h = ap (take 1) (drop_more ws i 0 h)

pub set_one : (ws : List ℕ) (i x : ℕ) → i < length ws → set ws i x ≡ written ws i (x ∷ [])
set_one ws i x h = ap (λ w. set w i x) (written_none ws i (omega arith)) ∙ written_more ws [] i i x (omega arith) (omega arith)

pub copied_one : (ws : List ℕ) (from to count : ℕ) → from < length ws → to < length ws → count ≡ 1
    → set ws to (get_or ws from 0) ≡ copied ws from to count
copied_one ws from to count f t e =
    set_one ws to (get_or ws from 0) t ∙ (ap (written ws to) (sym (range_one ws from f)) ∙ ap (λ n. copied ws from to n) (sym e))

pub mapped_one : (f : ℕ → ℕ) (ws : List ℕ) (from to count x : ℕ) → from < length ws → to < length ws → count ≡ 1
    → x ≡ f (get_or ws from 0) → set ws to x ≡ written ws to (map f (range_at ws from count))
mapped_one f ws from to count x l t e r =
    set_one ws to x t
    ∙ (ap (λ y. written ws to (y ∷ [])) r ∙ (ap (λ xs. written ws to (map f xs)) (sym (range_one ws from l))
    ∙ ap (λ n. written ws to (map f (range_at ws from n))) (sym e)))

pub both_one : (f : ℕ → ℕ → Option ℕ) (ws : List ℕ) (left right x : ℕ) → left < length ws → right < length ws
    → Some x ≡ f (get_or ws left 0) (get_or ws right 0) → both_of f (range_at ws left 1) (range_at ws right 1) ≡ Some (x ∷ [])
both_one f ws left right x a b e =
    ap (λ xs. both_of f xs (range_at ws right 1)) (range_one ws left a)
    ∙ (ap (both_of f (get_or ws left 0 ∷ [])) (range_one ws right b) ∙ ap (λ o. more o (Some [])) (sym e))
