-- A loop that goes over a list in order is the walk through it.
use Rattle.std.proofs.Common.{◌≡◌, ℕ, zero, suc, ◌+◌, ◌<◌, ◌≤◌, List, [], ◌∷◌, map, drop, length, get_or, Err, refl, sym, ap, ◌∙◌, arith}
use Rattle.plans.specs.declared.faults.Fault.{Fault}
use Rattle.plans.specs.declared.faults.Fault.TheVariants as f
use Rattle.plans.specs.Plans.{Good, Held, Plan, onward, run, when, walk, Gives}

module _ {C : Type 0} {Answer : C → Type 0} {X Y : Type 0} {c : C} (step : Y → Answer c → Plan Answer c) (view : X → Y) where
  at_one : (xs : List X) (i : ℕ) (x : X) (s : Answer c) → i < length xs → x ≡ get_or xs i x →
      run (walk step (map view (drop i xs)) s) ≡ onward (run (step (view x) s)) (λ o. run (when o (walk step (map view (drop (i + 1) xs)))))
  unfolding walk
  at_one [] i x s h e = absurd (omega arith)
  at_one (y ∷ ys) zero x s h e = ap (λ z. onward (run (step (view z) s)) (λ o. run (when o (walk step (map view ys))))) (sym e)
  at_one (y ∷ ys) (suc i) x s h e = let n : suc i + 1 ≡ suc (i + 1) = omega arith in
      at_one ys i x s (omega arith) e ∙ ap (λ k. onward (run (step (view x) s)) (λ o. run (when o (walk step (map view (drop k (y ∷ ys))))))) (sym n)

  at_end : (xs : List X) (i : ℕ) (s : Answer c) → length xs ≤ i → run (walk step (map view (drop i xs)) s) ≡ Good s
  unfolding walk
  at_end [] zero s h = refl
  at_end [] (suc i) s h = refl
  at_end (y ∷ ys) zero s h = absurd (omega arith)
  at_end (y ∷ ys) (suc i) s h = at_end ys i s (omega arith)

  -- at item i, with what is known so far: the walk is what is left
  module _ (xs : List X) (i : ℕ) (first s : Answer c) (now : run (walk step (map view xs) first) ≡ run (walk step (map view (drop i xs)) s)) where
    pub turn_good : (x : X) (r : Answer c) → i < length xs → x ≡ get_or xs i x → run (step (view x) s) ≡ Good r →
        run (walk step (map view xs) first) ≡ run (walk step (map view (drop (i + 1) xs)) r)
    turn_good x r h e d = now ∙ (at_one xs i x s h e ∙ ap (λ v. onward v (λ o. run (when o (walk step (map view (drop (i + 1) xs)))))) d)

    pub turn_fault : (x : X) (e : Fault) → i < length xs → x ≡ get_or xs i x → Gives (Err e) (run (step (view x) s)) →
        Gives (Err e) (run (walk step (map view xs) first))
    turn_fault x (f.Memory m) h e d = tt
    turn_fault x (f.Wrong p k) h e d = now ∙ (at_one xs i x s h e ∙ ap (λ v. onward v (λ o. run (when o (walk step (map view (drop (i + 1) xs)))))) d)

    pub behind_all : length xs ≤ i → run (walk step (map view xs) first) ≡ Good s
    behind_all h = now ∙ at_end xs i s h

    pub turn_held : (x : X) → i < length xs → x ≡ get_or xs i x → run (step (view x) s) ≡ Held → run (walk step (map view xs) first) ≡ Held
    turn_held x h e d = now ∙ (at_one xs i x s h e ∙ ap (λ v. onward v (λ o. run (when o (walk step (map view (drop (i + 1) xs)))))) d)
