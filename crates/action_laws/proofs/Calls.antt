-- Calls, choices and pointers on words of which it is known what stands among them.
use Rattle.std.proofs.Common.{◌≡◌, ℕ, ◌+◌, ◌<◌, ◌≤◌, cond, List, [], ◌∷◌, length, Some, None, ap, ◌∙◌}
use Rattle.std.specs.Prelude.{nat_lt, nat_eq}
use Rattle.std.proofs.lemmas.Bool.{lt-ltb, le-leb, cond-true}
use Rattle.spirv_words.specs.Machine.{if_some}
use Rattle.flat_values.specs.Ranges.{Stands, written, cleared}
use Rattle.run_actions.specs.declared.actions.Move.{Move}
use Rattle.run_actions.specs.declared.actions.Index.{Index}
use Rattle.run_actions.specs.Ranges.{with_word, has, put_at, put_both_at, clear_at, copy_at, gather_at}
use Rattle.run_actions.specs.Chains.{moved_on}
use Rattle.run_actions.specs.Steps.{Goes, IsStuck, goes_on, with_place, chain, buffer_chain, choose, entered}
use Rattle.action_laws.proofs.Acts.{first_word, second_word, at_word, copied_is}

pub put_is : (ws : List ℕ) (to w : ℕ) → to < length ws → put_at ws to w ≡ Some (written ws to (w ∷ []))
put_is ws to w h = cond-true (nat_lt to (length ws)) (Some (written ws to (w ∷ []))) None (lt-ltb to (length ws) h)

pub put_both_is : (ws : List ℕ) (to v w : ℕ) → to + 1 < length ws → put_both_at ws to v w ≡ Some (written ws to (v ∷ w ∷ []))
put_both_is ws to v w h =
    cond-true (nat_lt (to + 1) (length ws)) (Some (written ws to (v ∷ w ∷ []))) None (lt-ltb (to + 1) (length ws) h)

pub gathered_is : (m : Move) (ms : List Move) (xs ws : List ℕ) → Stands xs m.from ws → m.count ≡ length xs
    → m.to + length xs ≤ length ws → gather_at (m ∷ ms) ws ≡ gather_at ms (written ws m.to xs)
gathered_is m ms xs ws s n h =
    ap (λ k. if_some (copy_at ws m.from m.to k) None (λ vs. gather_at ms vs)) n
    ∙ ap (λ o. if_some o None (λ vs. gather_at ms vs)) (copied_is xs ws m.from m.to s h)

pub entered_is : (parts : List Move) (ws vs : List ℕ) (first count frame back to : ℕ) → gather_at parts ws ≡ Some vs
    → first + count ≤ length vs → frame + 1 < length (cleared vs first count)
    → entered ws parts first count frame back to ≡ Some (written (cleared vs first count) frame (back ∷ to ∷ []))
entered_is parts ws vs first count frame back to e h g =
    ap (λ o. if_some o None (λ a. if_some (clear_at a first count) None (λ b. put_both_at b frame back to))) e
    ∙ (ap (λ o. if_some o None (λ b. put_both_at b frame back to))
    (cond-true (has vs first count) (Some (cleared vs first count)) None (le-leb (first + count) (length vs) h))
    ∙ put_both_is (cleared vs first count) frame back to g)

pub chosen_is : (ws : List ℕ) (condition one other w : ℕ) → Stands (w ∷ []) condition ws
    → choose ws condition one other ≡ Goes (cond (nat_eq w 0) other one) ws
chosen_is ws condition one other w s =
    let u = first_word w [] condition ws s in
    at_word ws condition w IsStuck (λ x. Goes (cond (nat_eq x 0) other one) ws) u.0 u.1

pub returned_is : (ws : List ℕ) (frame p : ℕ) → Stands (p ∷ []) frame ws → with_word ws frame IsStuck (λ q. Goes q ws) ≡ Goes p ws
returned_is ws frame p s = let u = first_word p [] frame ws s in at_word ws frame p IsStuck (λ q. Goes q ws) u.0 u.1

pub pointed_is : (ws : List ℕ) (next pointer p to offset : ℕ) (steps : List Index) → Stands (p ∷ []) pointer ws
    → chain next ws pointer to offset steps ≡ with_place (moved_on ws 0 steps p offset) (λ q. goes_on next (put_at ws to q))
pointed_is ws next pointer p to offset steps s =
    let u = first_word p [] pointer ws s in
    at_word ws pointer p IsStuck (λ x. with_place (moved_on ws 0 steps x offset) (λ q. goes_on next (put_at ws to q))) u.0 u.1

pub buffer_pointed_is : (lengths ws : List ℕ) (next pointer b p n to offset : ℕ) (steps : List Index) → Stands (b ∷ p ∷ []) pointer ws
    → Stands (n ∷ []) b lengths → buffer_chain next lengths ws pointer to offset steps
    ≡ with_place (moved_on ws n steps p offset) (λ q. goes_on next (put_both_at ws to b q))
buffer_pointed_is lengths ws next pointer b p n to offset steps s t =
    let u = first_word b (p ∷ []) pointer ws s in
    let v = second_word b p pointer ws s in
    let w = first_word n [] b lengths t in
    at_word ws pointer b IsStuck (λ x. with_word ws (pointer + 1) IsStuck (λ y. with_word lengths x IsStuck (λ z.
    with_place (moved_on ws z steps y offset) (λ q. goes_on next (put_both_at ws to x q))))) u.0 u.1
    ∙ (at_word ws (pointer + 1) p IsStuck (λ y. with_word lengths b IsStuck (λ z.
    with_place (moved_on ws z steps y offset) (λ q. goes_on next (put_both_at ws to b q)))) v.0 v.1
    ∙ at_word lengths b n IsStuck (λ z. with_place (moved_on ws z steps p offset) (λ q. goes_on next (put_both_at ws to b q))) w.0 w.1)
