-- A map whose keys are lists of bytes, after one more name.
use Rattle.std.proofs.Common.{◌≡◌, ℕ, ◌+◌, suc, Bool, true, false, cond, List, [], ◌∷◌, ◌++◌, length, Some, None, Vec, Global, nat_cmp, is_eq, bytes_eq, refl, sym, ◌∙◌, ap, subst, ⊎_elim, arith}
use Rattle.std.specs.BTreeMap as tree
use Rattle.std.specs.BTreeMap.{BTreeMap}
use Rattle.std.specs.Map.{lookup, IsKeyTest, AreApart, KeepsOthers}
use Rattle.std.specs.Cmp.{eq_by_cmp_equiv}
use Rattle.std.specs.Cmp.Lexicographic.{slice_cmp, nat_list_cmp_total, nat_list_eq_equiv, bytes_decides}
use Rattle.std.proofs.lemmas.Bool.{cases_Bool, cond-true, cond-false}
use Rattle.std.proofs.lemmas.Map.Text.{is_eq-slice_cmp}
use Rattle.name_lists.specs.Names.{last_place, or_here}
use Rattle.name_lists.specs.Inside.{Finds}

-- one more name at the end
pub last_place-more : (name : List ℕ) (xs : List (List ℕ)) (x : List ℕ) (from : ℕ) →
    last_place name (xs ++ x ∷ []) from ≡ cond (bytes_eq x name) (Some (from + length xs)) (last_place name xs from)
last_place-more name [] x from =
    elim (bytes_eq x name) as (λ b. or_here None (cond b (Some from) None) ≡ cond b (Some (from + 0)) None) [
      | true ↦ ap (λ n. Some n) (omega arith)
      | false ↦ refl
    ]
last_place-more name (y ∷ ys) x from =
    ap (λ o. or_here o (cond (bytes_eq y name) (Some from) None)) (last_place-more name ys x (from + 1)) ∙
    elim (bytes_eq x name) as (λ b. or_here (cond b (Some (from + 1 + length ys)) (last_place name ys (from + 1))) (cond (bytes_eq y name) (Some from) None)
    ≡ cond b (Some (from + suc (length ys))) (or_here (last_place name ys (from + 1)) (cond (bytes_eq y name) (Some from) None))) [
      | true ↦ ap (λ n. Some n) (omega arith)
      | false ↦ refl
    ]

-- a key that has the bytes bs has no other bytes
apart : (bs cs ks : List ℕ) → bytes_eq bs cs ≡ false → is_eq (slice_cmp nat_cmp bs ks) ≡ true → is_eq (slice_cmp nat_cmp cs ks) ≡ false
apart bs cs ks n y =
    is_eq-slice_cmp cs ks ∙ nat_list_eq_equiv.symm cs ks ∙ sym (nat_list_eq_equiv.congr bs ks cs (sym (is_eq-slice_cmp bs ks) ∙ y)) ∙ n

-- what stays at other keys
others : {X : Type 0} (eq : Vec ℕ Global → Vec ℕ Global → Bool) (test : Vec ℕ Global → Bool) (old new : List (Vec ℕ Global × X)) → KeepsOthers eq test old new
    → (other : Vec ℕ Global → Bool) → IsKeyTest eq other → AreApart test other → lookup other new ≡ lookup other old
unfolding KeepsOthers
others eq test old new h = h

-- an insert at a key leaves the map with that entry, at every name
found_at : (m n : BTreeMap (Vec ℕ Global) ℕ) (key : Vec ℕ Global) (value : ℕ) → tree.Updates (λ x y. slice_cmp nat_cmp x.items y.items) m n key (Some value)
    → (name : List ℕ) → tree.get_by (λ key. slice_cmp nat_cmp name key.items) n ≡ cond (bytes_eq key.items name) (Some value) (tree.get_by (λ key. slice_cmp nat_cmp name key.items) m)
found_at m n key value h name =
    ⊎_elim
    (λ y. subst (λ l. tree.get_by (λ k. slice_cmp nat_cmp l k.items) n ≡ Some value) ((bytes_decides key.items name).0 y) h.1 ∙ sym (cond-true (bytes_eq key.items name) (Some value) (tree.get_by (λ k. slice_cmp nat_cmp name k.items) m) y))
    (λ e. others _ _ _ _ h.3 _ (λ x y. (eq_by_cmp_equiv nat_list_cmp_total).congr name x.items y.items) (λ k. apart key.items name k.items e) ∙ sym (cond-false (bytes_eq key.items name) (Some value) (tree.get_by (λ k. slice_cmp nat_cmp name k.items) m) e))
    (cases_Bool (bytes_eq key.items name))

-- with one more name the map says where each name stands last
pub finds_more : (m n : BTreeMap (Vec ℕ Global) ℕ) (names : List (List ℕ)) (name : List ℕ) (key : Vec ℕ Global) (at : ℕ) → Finds m names → key.items ≡ name → at ≡ length names
    → tree.Updates (λ x y. slice_cmp nat_cmp x.items y.items) m n key (Some at) → Finds n (names ++ name ∷ [])
finds_more m n names name key at h k e u other =
    found_at m n key at u other ∙ ap (λ x. cond (bytes_eq x other) (Some at) (tree.get_by (λ k. slice_cmp nat_cmp other k.items) m)) k ∙
    ap (λ o. cond (bytes_eq name other) (Some at) o) (h other) ∙
    ap (λ a. cond (bytes_eq name other) (Some a) (last_place other names 0)) (e ∙ sym (omega arith)) ∙ sym (last_place-more other names name 0)
