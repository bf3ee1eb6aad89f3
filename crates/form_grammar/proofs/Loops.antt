-- The loop over a list's items, beside what reading finds.
use Rattle.std.proofs.Common.{◌≡◌, ℕ, zero, suc, ◌+◌, ◌-◌, ◌<◌, ◌≤◌, List, [], ◌∷◌, ◌++◌, map, Result, Ok, Err, refl, sym, ap, ◌∙◌, arith}
use Rattle.std.proofs.lemmas.List.{map-append}
use Rattle.form_grammar.specs.declared.codes.Stop.{Stop}
use Rattle.form_grammar.specs.declared.codes.ReadFault.{ReadFault}
use Rattle.form_grammar.specs.declared.codes.ReadFault.TheVariants as faults
use Rattle.form_grammar.specs.Trees.{Tree, ◌⨾◌, end, onto, chain}
use Rattle.form_grammar.specs.Numbers.{Found, after}
use Rattle.form_grammar.specs.Reading.{Reader, items_at, Fails}

-- what is read behind these trees
unfoldable pub behind_these : List Tree → Found Tree → Found Tree
behind_these front (Ok x) = Ok (onto front x.0, x.1)
behind_these front (Err e) = Err e

onto_append : (xs ys : List Tree) (t : Tree) → onto (xs ++ ys) t ≡ onto xs (onto ys t)
onto_append [] ys t = refl
onto_append (x ∷ xs) ys t = ap (λ (r : Tree). x ⨾ r) (onto_append xs ys t)

pub nothing_behind : (f : Found Tree) → behind_these [] f ≡ f
unfolding behind_these
nothing_behind (Ok x) = refl
nothing_behind (Err e) = refl

regroup : (front : List Tree) (t : Tree) (f : Found Tree) → behind_these front (after f (λ xs. Ok (t ⨾ xs.0, xs.1))) ≡ behind_these (front ++ t ∷ []) f
unfolding behind_these after
regroup front t (Ok x) = ap (λ (r : Tree). Ok (r, x.1)) (sym (onto_append front (t ∷ []) x.0))
regroup front t (Err e) = refl

module _ {A : Type 0} (view : A → Tree) (item : Reader) (count : ℕ) (total : Found Tree) where
  pub goes_on : (front : List A) (i : ℕ) (bytes rest : List ℕ) (x : A) → i < count → item bytes ≡ Ok (view x, rest)
      → behind_these (map view front) (items_at item (count - i) bytes) ≡ total → behind_these (map view (front ++ x ∷ [])) (items_at item (count - (i + 1)) rest) ≡ total
  unfolding items_at after
  goes_on front i bytes rest x lt h so_far =
      let k : count - i ≡ suc (count - (i + 1)) = omega arith in
      let one : items_at item (suc (count - (i + 1))) bytes ≡ after (items_at item (count - (i + 1)) rest) (λ xs. Ok (view x ⨾ xs.0, xs.1)) = ap (λ r. after r (λ y. after (items_at item (count - (i + 1)) y.1) (λ xs. Ok (y.0 ⨾ xs.0, xs.1)))) h in
      ap (λ front. behind_these front (items_at item (count - (i + 1)) rest)) (map-append view front (x ∷ []))
      ∙ (sym (regroup (map view front) (view x) (items_at item (count - (i + 1)) rest))
      ∙ (ap (behind_these (map view front)) (sym one) ∙ (ap (λ n. behind_these (map view front) (items_at item n bytes)) (sym k) ∙ so_far)))

  pub fails : (e : ReadFault) (front : List A) (i : ℕ) (bytes : List ℕ) → i < count → Fails e (item bytes) → behind_these (map view front) (items_at item (count - i) bytes) ≡ total → Fails e total
  unfolding items_at after behind_these
  fails (faults.Memory a) front i bytes lt h so_far = tt
  fails (faults.Refused s) front i bytes lt h so_far =
      let k : count - i ≡ suc (count - (i + 1)) = omega arith in
      sym so_far ∙ (ap (λ n. behind_these (map view front) (items_at item n bytes)) k ∙ ap (λ r. behind_these (map view front) (after r (λ y. after (items_at item (count - (i + 1)) y.1) (λ xs. Ok (y.0 ⨾ xs.0, xs.1))))) h)

  pub is_done : (front : List A) (i : ℕ) (bytes : List ℕ) → count ≤ i → behind_these (map view front) (items_at item (count - i) bytes) ≡ total → total ≡ Ok (chain (map view front), bytes)
  unfolding items_at behind_these
  is_done front i bytes le so_far =
      let k : count - i ≡ 0 = omega arith in
      sym so_far ∙ ap (λ n. behind_these (map view front) (items_at item n bytes)) k

pub begins : {A : Type 0} (view : A → Tree) (item : Reader) (count : ℕ) (bytes : List ℕ) → behind_these (map view []) (items_at item (count - 0) bytes) ≡ items_at item count bytes
begins view item count bytes = let k : count - 0 ≡ count = omega arith in ap (λ n. behind_these [] (items_at item n bytes)) k ∙ nothing_behind (items_at item count bytes)
