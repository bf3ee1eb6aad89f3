-- Chains of trees of lists.
use Rattle.std.proofs.Common.{◌≡◌, ℕ, zero, suc, ◌+◌, ◌<◌, ◌≤◌, ◌++◌, length, drop, get_or, List, [], ◌∷◌, map, refl, sym, ap, ◌∙◌, append_assoc, arith}
use Rattle.std.proofs.lemmas.List.{append-nil}
use Rattle.form_grammar.specs.Trees.{Tree, nested, ◌⨾◌, chain, size, end, spelling}

pub chain_nested : {A : Type 0} (view : A → Tree) (xs : List A) → chain (map (λ t. nested t) (map view xs)) ≡ chain (map (λ x. nested (view x)) xs)
chain_nested view [] = refl
chain_nested view (x ∷ xs) = ap (λ t. nested (view x) ⨾ t) (chain_nested view xs)

pub size_chain : {A : Type 0} (view : A → Tree) (xs : List A) → size (chain (map view xs)) ≡ length xs
size_chain view [] = refl
size_chain view (x ∷ xs) = ap suc (size_chain view xs)

-- ---- writing a list's items one after another

module _ {A : Type 0} (view : A → Tree) where
  at_one : (xs : List A) (i : ℕ) (x : A) → i < length xs → x ≡ get_or xs i x → chain (map view (drop i xs)) ≡ view x ⨾ chain (map view (drop (i + 1) xs))
  at_one [] i x h e = absurd (omega arith)
  at_one (y ∷ ys) zero x h e = ap (λ z. view z ⨾ chain (map view ys)) (sym e)
  at_one (y ∷ ys) (suc i) x h e = let n : suc i + 1 ≡ suc (i + 1) = omega arith in at_one ys i x (omega arith) e ∙ ap (λ k. view x ⨾ chain (map view (drop k (y ∷ ys)))) (sym n)

  at_end : (xs : List A) (i : ℕ) → length xs ≤ i → chain (map view (drop i xs)) ≡ end
  at_end [] zero h = refl
  at_end [] (suc i) h = refl
  at_end (y ∷ ys) zero h = absurd (omega arith)
  at_end (y ∷ ys) (suc i) h = at_end ys i (omega arith)

  -- what is written, and what is still to be written, is the whole
  pub record Writes (out : List ℕ) (xs : List A) (i : ℕ) (total : List ℕ) : Type 0 where
    pub goes : out ++ spelling (chain (map view (drop i xs))) ≡ total

  pub wrote : (out new : List ℕ) (xs : List A) (i : ℕ) (total : List ℕ) (x : A) → i < length xs → x ≡ get_or xs i x → new ≡ out ++ spelling (view x) → Writes out xs i total → Writes new xs (i + 1) total
  wrote out new xs i total x h e n w =
      let g : out ++ (spelling (view x) ++ spelling (chain (map view (drop (i + 1) xs)))) ≡ total = ap (λ t. out ++ spelling t) (sym (at_one xs i x h e)) ∙ w.goes in
      record { goes = ap (λ o. o ++ spelling (chain (map view (drop (i + 1) xs)))) n ∙ (append_assoc out (spelling (view x)) (spelling (chain (map view (drop (i + 1) xs)))) ∙ g) }

  pub all_written : (out : List ℕ) (xs : List A) (i : ℕ) (total : List ℕ) → length xs ≤ i → Writes out xs i total → out ≡ total
  all_written out xs i total h w = sym (append-nil out) ∙ (ap (λ t. out ++ spelling t) (sym (at_end xs i h)) ∙ w.goes)

  pub to_write : (out : List ℕ) (xs : List A) → Writes out xs 0 (out ++ spelling (chain (map view xs)))
  to_write out xs = record { goes = refl }
