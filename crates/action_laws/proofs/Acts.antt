-- Actions on words of which it is known what stands among them.
use Rattle.std.proofs.Common.{◌≡◌, ℕ, suc, ◌+◌, ◌<◌, ◌≤◌, true, cond, List, [], ◌∷◌, length, get_or, take, drop, map, Some, None, sym, ap, ◌∙◌, arith}
use Rattle.std.specs.Prelude.{nat_lt}
use Rattle.std.proofs.lemmas.Bool.{lt-ltb, le-leb, and_from, cond-true}
use Rattle.std.proofs.lemmas.List.{drop_more}
use Rattle.spirv_words.specs.Machine.{if_some}
use Rattle.flat_values.specs.declared.operators.Unary.{Unary}
use Rattle.flat_values.specs.declared.operators.Binary.{Binary}
use Rattle.flat_values.specs.Operators.{unary_of, binary_of}
use Rattle.flat_values.specs.Lanes.{both_of}
use Rattle.flat_values.specs.Ranges.{range_at, Stands, written, copied}
use Rattle.run_actions.specs.Ranges.{with_word, has, is_apart, copy_at, one_at}
use Rattle.run_actions.specs.Steps.{FlatTurn, Goes, Reads, Writes, IsUndefined, IsStuck, goes_on, two, load, store, read, write, give_back}

-- ---- what stands is inside

has_these : (xs : List ℕ) (place : ℕ) (ws : List ℕ) → place + length xs ≤ length ws → has ws place (length xs) ≡ true
has_these xs place ws h = le-leb (place + length xs) (length ws) h

pub first_word : (x : ℕ) (xs : List ℕ) (place : ℕ) (ws : List ℕ) → Stands (x ∷ xs) place ws → (place < length ws) × (get_or ws place 0 ≡ x)
first_word x xs place ws s =
    let i = s.inside in
    let h : place < length ws = omega arith in
    let e : get_or ws place 0 ∷ take (length xs) (drop (place + 1) ws) ≡ x ∷ xs =
    sym (ap (take (suc (length xs))) (drop_more ws place 0 h)) ∙ s.words in
    (h, cc)

pub second_word : (x y : ℕ) (place : ℕ) (ws : List ℕ) → Stands (x ∷ y ∷ []) place ws → (place + 1 < length ws) × (get_or ws (place + 1) 0 ≡ y)
second_word x y place ws s =
    let i = s.inside in
    let h : place < length ws = omega arith in
    let g : place + 1 < length ws = omega arith in
    let a : get_or ws place 0 ∷ take 1 (drop (place + 1) ws) ≡ x ∷ y ∷ [] = sym (ap (take 2) (drop_more ws place 0 h)) ∙ s.words in
    let b : take 1 (drop (place + 1) ws) ≡ y ∷ [] = cc in
    let c : get_or ws (place + 1) 0 ∷ [] ≡ y ∷ [] = sym (ap (take 1) (drop_more ws (place + 1) 0 g)) ∙ b in
    (g, cc)

pub at_word : {A : Type 0} (ws : List ℕ) (i x : ℕ) (none : A) (go : ℕ → A) → i < length ws → get_or ws i 0 ≡ x → with_word ws i none go ≡ go x
at_word ws i x none go h e = cond-true _ (go (get_or ws i 0)) none (lt-ltb i (length ws) h) ∙ ap go e

-- ---- laws

pub copied_is : (xs ws : List ℕ) (from to : ℕ) → Stands xs from ws → to + length xs ≤ length ws
    → copy_at ws from to (length xs) ≡ Some (written ws to xs)
copied_is xs ws from to s h =
    cond-true _ (Some (copied ws from to (length xs))) None (and_from _ _ (has_these xs from ws s.inside) (has_these xs to ws h))
    ∙ ap (λ l. Some (written ws to l)) s.words

pub one_is : (op : Unary) (xs ws : List ℕ) (from to : ℕ) → Stands xs from ws → to + length xs ≤ length ws
    → is_apart from to (length xs) ≡ true → one_at op ws from to (length xs) ≡ Some (written ws to (map (unary_of op) xs))
one_is op xs ws from to s h a =
    cond-true _ (Some (written ws to (map (unary_of op) (range_at ws from (length xs))))) None
    (and_from _ _ (has_these xs from ws s.inside) (and_from _ _ (has_these xs to ws h) a))
    ∙ ap (λ l. Some (written ws to (map (unary_of op) l))) s.words

two_is : (op : Binary) (xs ys ws : List ℕ) (next left right to : ℕ) → Stands xs left ws → Stands ys right ws
    → length xs ≡ length ys → to + length xs ≤ length ws → is_apart left to (length xs) ≡ true → is_apart right to (length xs) ≡ true
    → two op next ws left right to (length xs) ≡ if_some (both_of (binary_of op) xs ys) IsUndefined (λ zs. Goes next (written ws to zs))
two_is op xs ys ws next left right to s t n h a b =
    let i = t.inside in
    let other : has ws right (length xs) ≡ true = le-leb (right + length xs) (length ws) (omega arith) in
    let ends : List ℕ → List ℕ → FlatTurn =
    λ l r. if_some (both_of (binary_of op) l r) IsUndefined (λ zs. Goes next (written ws to zs)) in
    cond-true _ (ends (range_at ws left (length xs)) (range_at ws right (length xs))) IsStuck
    (and_from _ _ (has_these xs left ws s.inside) (and_from _ _ other (and_from _ _ (has_these xs to ws h) (and_from _ _ a b))))
    ∙ (ap (λ l. ends l (range_at ws right (length xs))) s.words
    ∙ (ap (λ k. ends xs (range_at ws right k)) n ∙ ap (ends xs) t.words))

pub two_is_defined : (op : Binary) (xs ys zs ws : List ℕ) (next left right to : ℕ) → Stands xs left ws → Stands ys right ws
    → length xs ≡ length ys → to + length xs ≤ length ws → is_apart left to (length xs) ≡ true → is_apart right to (length xs) ≡ true
    → both_of (binary_of op) xs ys ≡ Some zs → two op next ws left right to (length xs) ≡ Goes next (written ws to zs)
two_is_defined op xs ys zs ws next left right to s t n h a b e =
    two_is op xs ys ws next left right to s t n h a b ∙ ap (λ o. if_some o IsUndefined (λ z. Goes next (written ws to z))) e

pub two_is_undefined : (op : Binary) (xs ys ws : List ℕ) (next left right to : ℕ) → Stands xs left ws → Stands ys right ws
    → length xs ≡ length ys → to + length xs ≤ length ws → is_apart left to (length xs) ≡ true → is_apart right to (length xs) ≡ true
    → both_of (binary_of op) xs ys ≡ None → two op next ws left right to (length xs) ≡ IsUndefined
two_is_undefined op xs ys ws next left right to s t n h a b e =
    two_is op xs ys ws next left right to s t n h a b ∙ ap (λ o. if_some o IsUndefined (λ z. Goes next (written ws to z))) e

pub loaded_is : (xs ws : List ℕ) (next pointer p to : ℕ) → Stands (p ∷ []) pointer ws → Stands xs p ws → to + length xs ≤ length ws
    → load next ws pointer to (length xs) ≡ Goes next (written ws to xs)
loaded_is xs ws next pointer p to s t h =
    let w = first_word p [] pointer ws s in
    at_word ws pointer p IsStuck (λ q. goes_on next (copy_at ws q to (length xs))) w.0 w.1 ∙ ap (goes_on next) (copied_is xs ws p to t h)

pub stored_is : (xs ws : List ℕ) (next pointer p from : ℕ) → Stands (p ∷ []) pointer ws → Stands xs from ws → p + length xs ≤ length ws
    → store next ws pointer from (length xs) ≡ Goes next (written ws p xs)
stored_is xs ws next pointer p from s t h =
    let w = first_word p [] pointer ws s in
    at_word ws pointer p IsStuck (λ q. goes_on next (copy_at ws from q (length xs))) w.0 w.1 ∙ ap (goes_on next) (copied_is xs ws from p t h)

pub read_is : (ws : List ℕ) (pointer b i to : ℕ) → Stands (b ∷ i ∷ []) pointer ws → to < length ws → read ws pointer to ≡ Reads b i to
read_is ws pointer b i to s h =
    let v = first_word b (i ∷ []) pointer ws s in
    let w = second_word b i pointer ws s in
    at_word ws pointer b IsStuck (λ x. with_word ws (pointer + 1) IsStuck (λ y. cond (nat_lt to (length ws)) (Reads x y to) IsStuck)) v.0 v.1
    ∙ (at_word ws (pointer + 1) i IsStuck (λ y. cond (nat_lt to (length ws)) (Reads b y to) IsStuck) w.0 w.1
    ∙ cond-true (nat_lt to (length ws)) (Reads b i to) IsStuck (lt-ltb to (length ws) h))

pub wrote_is : (ws : List ℕ) (pointer b i from w : ℕ) → Stands (b ∷ i ∷ []) pointer ws → Stands (w ∷ []) from ws
    → write ws pointer from ≡ Writes b i w
wrote_is ws pointer b i from w s t =
    let u = first_word b (i ∷ []) pointer ws s in
    let v = second_word b i pointer ws s in
    let x = first_word w [] from ws t in
    at_word ws pointer b IsStuck (λ y. with_word ws (pointer + 1) IsStuck (λ z. with_word ws from IsStuck (λ q. Writes y z q))) u.0 u.1
    ∙ (at_word ws (pointer + 1) i IsStuck (λ z. with_word ws from IsStuck (λ q. Writes b z q)) v.0 v.1
    ∙ at_word ws from w IsStuck (λ q. Writes b i q) x.0 x.1)

pub given_back_is : (xs ws : List ℕ) (frame p to from : ℕ) → Stands (p ∷ to ∷ []) frame ws → Stands xs from ws
    → to + length xs ≤ length ws → give_back ws frame from (length xs) ≡ Goes p (written ws to xs)
given_back_is xs ws frame p to from s t h =
    let u = first_word p (to ∷ []) frame ws s in
    let v = second_word p to frame ws s in
    at_word ws frame p IsStuck (λ y. with_word ws (frame + 1) IsStuck (λ z. goes_on y (copy_at ws from z (length xs)))) u.0 u.1
    ∙ (at_word ws (frame + 1) to IsStuck (λ z. goes_on p (copy_at ws from z (length xs))) v.0 v.1 ∙ ap (goes_on p) (copied_is xs ws from to t h))
