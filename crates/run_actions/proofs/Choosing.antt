-- A walk over the indices of a chain.
use Rattle.std.proofs.Common.{◌≡◌, ℕ, ◌+◌, ◌-◌, ◌^◌, ◌<◌, ◌≤◌, min, Bool, true, false, cond, ◌&&◌, List, length, get_or, drop, Option, Some, None, refl, sym, ap, ◌∙◌, arith}
use Rattle.std.proofs.lemmas.List.{drop_more, drop_all}
use Rattle.run_actions.specs.declared.actions.Index.{Index}
use Rattle.run_actions.specs.declared.turns.Followed.TheVariants.{To, Beyond}
use Rattle.run_actions.specs.Chains.{to_word, is_chosen, all_chosen, far, distance, moved_on}

abbrev pub chosen : List ℕ → ℕ → Index → Option ℕ
chosen ws n i = cond (is_chosen ws n i) (Some (far ws i)) None

not_chosen : (b : Bool) (y : ℕ) → cond b (Some y) None ≡ None → b ≡ false
not_chosen true y e = cc
not_chosen false y e = refl

is_some : (b : Bool) (y m : ℕ) → cond b (Some y) None ≡ Some m → (b ≡ true) × (y ≡ m)
is_some true y m e = (refl, cc)
is_some false y m e = cc

pub none_chosen : (ws : List ℕ) (n from offset k : ℕ) (steps : List Index) (d : Index) → k < length steps
    → all_chosen ws n (drop k steps) ≡ all_chosen ws n steps → chosen ws n (get_or steps k d) ≡ None
    → Beyond ≡ moved_on ws n steps from offset
none_chosen ws n from offset k steps d h same e =
    let x = get_or steps k d in
    let b = not_chosen (is_chosen ws n x) (far ws x) e in
    let a : false ≡ all_chosen ws n steps =
    sym (ap (all_chosen ws n) (drop_more steps k d h) ∙ ap (λ t. t && all_chosen ws n (drop (k + 1) steps)) b) ∙ same in
    ap (λ t. cond t (to_word (from + offset + distance ws steps)) Beyond) a

pub more_chosen : (ws : List ℕ) (n k : ℕ) (steps : List Index) (d : Index) (m : ℕ) → k < length steps
    → all_chosen ws n (drop k steps) ≡ all_chosen ws n steps → chosen ws n (get_or steps k d) ≡ Some m
    → all_chosen ws n (drop (k + 1) steps) ≡ all_chosen ws n steps
more_chosen ws n k steps d m h same e =
    let x = get_or steps k d in
    let b = (is_some (is_chosen ws n x) (far ws x) m e).0 in
    sym (ap (all_chosen ws n) (drop_more steps k d h) ∙ ap (λ t. t && all_chosen ws n (drop (k + 1) steps)) b) ∙ same

pub more_far : (ws : List ℕ) (n k : ℕ) (steps : List Index) (d : Index) (m p p' total : ℕ) → k < length steps
    → chosen ws n (get_or steps k d) ≡ Some m → min (p + distance ws (drop k steps)) (2 ^ 64 - 1) ≡ min total (2 ^ 64 - 1)
    → p' ≡ min (p + m) (2 ^ 64 - 1) → min (p' + distance ws (drop (k + 1) steps)) (2 ^ 64 - 1) ≡ min total (2 ^ 64 - 1)
more_far ws n k steps d m p p' total h e s r =
    let x = get_or steps k d in
    let b = (is_some (is_chosen ws n x) (far ws x) m e).1 in
    let f : distance ws (drop k steps) ≡ m + distance ws (drop (k + 1) steps) =
    ap (distance ws) (drop_more steps k d h) ∙ ap (λ y. y + distance ws (drop (k + 1) steps)) b in
    omega arith

same_word : (p t : ℕ) → min p (2 ^ 64 - 1) ≡ min t (2 ^ 64 - 1) → to_word p ≡ to_word t
same_word p t e = let n : min p (2 ^ 32 - 1) ≡ min t (2 ^ 32 - 1) = omega arith in ap To n

pub all_done : (ws : List ℕ) (n from offset k p : ℕ) (steps : List Index) → length steps ≤ k
    → all_chosen ws n (drop k steps) ≡ all_chosen ws n steps
    → min (p + distance ws (drop k steps)) (2 ^ 64 - 1) ≡ min (from + offset + distance ws steps) (2 ^ 64 - 1)
    → to_word p ≡ moved_on ws n steps from offset
all_done ws n from offset k p steps h same s =
    let z = drop_all k steps h in
    let a : true ≡ all_chosen ws n steps = sym (ap (all_chosen ws n) z) ∙ same in
    let d : distance ws (drop k steps) ≡ 0 = ap (distance ws) z in
    same_word p (from + offset + distance ws steps) (omega arith)
    ∙ ap (λ t. cond t (to_word (from + offset + distance ws steps)) Beyond) a
