-- Statements one after the other, as the loop makes them.
use Rattle.std.proofs.Common.{◌≡◌, ℕ, zero, suc, ◌+◌, ◌<◌, ◌≤◌, List, [], ◌∷◌, ◌++◌, drop, length, get_or, Option, Some, None, sym, ◌∙◌, ap, refl, append_assoc, append-nil, arith}
use Rattle.slang_tree.specs.declared.statements.StatTree.{StatTree}
use Rattle.first_form.specs.declared.shader.Statement.{Statement}
use Rattle.first_form.specs.Finding.{◌>>=◌}
use Rattle.tree_form.specs.Forms.{statement_of, statements_of}

-- what was made before, and what is still made
abbrev pub with_front : List Statement → Option (List Statement) → Option (List Statement)
with_front front read = read >>= λ xs. Some (front ++ xs)

abbrev then_all : Option Statement → Option (List Statement) → Option (List Statement)
then_all here later = here >>= λ x. later >>= λ xs. Some (x ∷ xs)

regroup : (front : List Statement) (x : Statement) (later : Option (List Statement)) → with_front front (then_all (Some x) later) ≡ with_front (front ++ x ∷ []) later
regroup front x (Some xs) = ap Some (sym (append_assoc front (x ∷ []) xs))
regroup front x None = refl

module _ (buffer parameter : List ℕ) where
  at_one : (xs : List StatTree) (i : ℕ) (x : StatTree) → i < length xs → x ≡ get_or xs i x
      → statements_of buffer parameter (drop i xs) ≡ then_all (statement_of buffer parameter x) (statements_of buffer parameter (drop (i + 1) xs))
  unfolding statements_of
  at_one [] i x h e = absurd (omega arith)
  at_one (y ∷ ys) zero x h e = ap (λ z. then_all (statement_of buffer parameter z) (statements_of buffer parameter ys)) (sym e)
  at_one (y ∷ ys) (suc i) x h e =
      let n : suc i + 1 ≡ suc (i + 1) = omega arith in
      at_one ys i x (omega arith) e ∙ ap (λ k. then_all (statement_of buffer parameter x) (statements_of buffer parameter (drop k (y ∷ ys)))) (sym n)

  at_end : (xs : List StatTree) (i : ℕ) → length xs ≤ i → statements_of buffer parameter (drop i xs) ≡ Some []
  unfolding statements_of
  at_end [] zero h = refl
  at_end [] (suc i) h = refl
  at_end (y ∷ ys) zero h = absurd (omega arith)
  at_end (y ∷ ys) (suc i) h = at_end ys i (omega arith)

  -- where the items before the index made the front
  module _ (xs : List StatTree) (i : ℕ) (front : List Statement) (so_far : with_front front (statements_of buffer parameter (drop i xs)) ≡ statements_of buffer parameter xs) where
    step : (x : StatTree) (here : Option Statement) → i < length xs → x ≡ get_or xs i x → here ≡ statement_of buffer parameter x
        → with_front front (then_all here (statements_of buffer parameter (drop (i + 1) xs))) ≡ statements_of buffer parameter xs
    step x here h e d = ap (λ o. with_front front (then_all o (statements_of buffer parameter (drop (i + 1) xs)))) d ∙ (ap (with_front front) (sym (at_one xs i x h e)) ∙ so_far)

    pub goes_on : (x : StatTree) (s : Statement) → i < length xs → x ≡ get_or xs i x → Some s ≡ statement_of buffer parameter x
        → with_front (front ++ s ∷ []) (statements_of buffer parameter (drop (i + 1) xs)) ≡ statements_of buffer parameter xs
    goes_on x s h e d = sym (regroup front s (statements_of buffer parameter (drop (i + 1) xs))) ∙ step x (Some s) h e d

    pub is_none : (x : StatTree) → i < length xs → x ≡ get_or xs i x → None ≡ statement_of buffer parameter x → None ≡ statements_of buffer parameter xs
    is_none x h e d = step x None h e d

    pub is_done : length xs ≤ i → Some front ≡ statements_of buffer parameter xs
    is_done h = ap Some (sym (append-nil front)) ∙ (ap (with_front front) (sym (at_end xs i h)) ∙ so_far)
