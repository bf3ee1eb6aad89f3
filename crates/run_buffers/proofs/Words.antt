-- The words of a line.
use Rattle.std.proofs.Common.{◌≡◌, ℕ, zero, suc, ◌+◌, ◌<◌, ◌^◌, Bool, cond, List, [], ◌∷◌, ◌++◌, length, drop, get_or, replicate, refl, sym, ap, ◌∙◌, arith}
use Rattle.std.specs.List.{AllByRecursion}
use Rattle.std.specs.Fmt.{decimal}
use Rattle.std.proofs.lemmas.Bool.{ne_eqb}
use Rattle.std.proofs.lemmas.List.{append_assoc, length-replicate}
use Rattle.run_buffers.specs.declared.fields.Separator.TheVariants.{Space, LineFeed}
use Rattle.run_buffers.specs.Texts.{separator, line, IsWord}
use Rattle.run_buffers.specs.Parts.{Stops, behind, field, IsWithin}
use Rattle.run_buffers.specs.Lines.{AreWords, separator_before}
use Rattle.run_buffers.proofs.Sequence.{Begun, stops_first, stops_then}
use Rattle.run_buffers.proofs.Headers.{field_free}

behind_word : (w : ℕ) (ws : List ℕ) → behind (separator_before (length ws)) w ≡ separator ws
behind_word w [] = refl
behind_word w (x ∷ xs) = ap (λ (t : Bool). behind (cond t LineFeed Space) w) (ne_eqb (length (x ∷ xs)) 0 (λ (e : length (x ∷ xs) ≡ 0). omega arith))

pub line_word : (w : ℕ) (ws : List ℕ) (more : ℕ) → length ws ≡ more → line (w ∷ ws) ≡ field (separator_before more) w ++ line ws
line_word w ws more e =
    ap (λ (b : ℕ). decimal w ++ b ∷ line ws) (sym (behind_word w ws))
    ∙ (sym (append_assoc (decimal w) (behind (separator_before (length ws)) w ∷ []) (line ws))
    ∙ ap (λ (k : ℕ). field (separator_before k) w ++ line ws) e)

pub zeros : (n : ℕ) → AllByRecursion IsWord (replicate n 0)
zeros zero = tt
zeros (suc n) = (omega arith, zeros n)

first_can : (more : ℕ) (ws : List ℕ) → AreWords (more + 1) ws → IsWithin 0 4294967295 (get_or ws 0 0)
first_can more [] h = absurd (let l = h.0 in omega arith)
first_can more (w ∷ ws) h = (omega arith, let n = h.1.0 in omega arith)

first_is : (more : ℕ) (ws : List ℕ) → AreWords (more + 1) ws → line ws ≡ field (separator_before more) (get_or ws 0 0) ++ line (drop 1 ws)
first_is more [] h = absurd (let l = h.0 in omega arith)
first_is more (w ∷ ws) h = line_word w ws more (let l = h.0 in omega arith)

rest_are : (more : ℕ) (ws : List ℕ) → AreWords (more + 1) ws → AreWords more (drop 1 ws)
rest_are more [] h = absurd (let l = h.0 in omega arith)
rest_are more (w ∷ ws) h = (let l = h.0 in omega arith, h.1.1)

word_begun : (more : ℕ) → Begun (field (separator_before more)) (IsWithin 0 4294967295) line (AreWords (more + 1)) (λ ws. get_or ws 0 0) (λ ws. line (drop 1 ws))
word_begun more = record { free = field_free (separator_before more) 0 4294967295 (omega arith); can = first_can more; is = first_is more }

zeros_behind : (more w : ℕ) → IsWithin 0 4294967295 w → AreWords (more + 1) (w ∷ replicate more 0)
zeros_behind more w can = let l = length-replicate more (let z : ℕ = 0 in z) in let n = can.1 in (omega arith, (omega arith, zeros more))

word_before : (more w : ℕ) (ws : List ℕ) → IsWithin 0 4294967295 w → AreWords more ws → AreWords (more + 1) (w ∷ ws)
word_before more w ws can are = let l = are.0 in let n = can.1 in (omega arith, (omega arith, are.1))

pub stops_in_word : (more : ℕ) (bytes : List ℕ) (left : ℕ) → Stops (field (separator_before more)) (IsWithin 0 4294967295) bytes left → Stops line (AreWords (more + 1)) bytes left
stops_in_word more bytes left s =
    stops_first (field (separator_before more)) (IsWithin 0 4294967295) line (AreWords (more + 1)) (λ ws. get_or ws 0 0) (λ ws. line (drop 1 ws)) (word_begun more)
    (λ w can. (w ∷ replicate more 0, zeros_behind more w can, refl)) bytes left s

pub stops_behind_word : (more w : ℕ) (bytes rest : List ℕ) (left : ℕ) → IsWithin 0 4294967295 w → bytes ≡ field (separator_before more) w ++ rest → Stops line (AreWords more) rest left → Stops line (AreWords (more + 1)) bytes left
stops_behind_word more w bytes rest left can e s =
    stops_then (field (separator_before more)) (IsWithin 0 4294967295) line (AreWords (more + 1)) (λ ws. get_or ws 0 0) (λ ws. line (drop 1 ws)) line (AreWords more) w (word_begun more) can
    (λ ws are same. (drop 1 ws, rest_are more ws are, refl))
    (λ ws are. (w ∷ ws, word_before more w ws can are, line_word w ws more are.0)) bytes rest left e s

-- ---- the words so far

pub narrow_push : (ws : List ℕ) (w : ℕ) → AllByRecursion IsWord ws → w < 2 ^ 32 → AllByRecursion IsWord (ws ++ w ∷ [])
narrow_push [] w all h = (h, tt)
narrow_push (x ∷ xs) w all h = (all.0, narrow_push xs w all.1 h)

pub joins_word : (so_far : List ℕ) (w more : ℕ) (ws : List ℕ) (bytes rest next behind : List ℕ) → length ws ≡ more → rest ≡ field (separator_before more) w ++ next → next ≡ line ws ++ behind
    → (rest ≡ line (w ∷ ws) ++ behind → bytes ≡ line (so_far ++ (w ∷ ws)) ++ behind) → bytes ≡ line ((so_far ++ w ∷ []) ++ ws) ++ behind
joins_word so_far w more ws bytes rest next behind many e f joins =
    let here : rest ≡ line (w ∷ ws) ++ behind =
    e ∙ (ap (λ (us : List ℕ). field (separator_before more) w ++ us) f
    ∙ (sym (append_assoc (field (separator_before more) w) (line ws) behind)
    ∙ ap (λ (us : List ℕ). us ++ behind) (sym (line_word w ws more many)))) in
    joins here ∙ ap (λ (us : List ℕ). line us ++ behind) (sym (append_assoc so_far (w ∷ []) ws))
