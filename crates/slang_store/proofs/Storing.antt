-- A map whose keys are lists of bytes, as a function of the bytes.
use Rattle.std.proofs.Common.{◌≡◌, ℕ, Bool, true, false, List, Some, Vec, Global, BTreeMap, nat_cmp, is_eq, bytes_eq, option_map, sym, ◌∙◌, ap, subst, ⊎_elim}
use Rattle.std.proofs.Math.Path.{fun_ext}
use Rattle.std.specs.BTreeMap as tree
use Rattle.std.specs.Map.{lookup, IsKeyTest, AreApart, KeepsOthers}
use Rattle.std.specs.Cmp.{eq_by_cmp_equiv}
use Rattle.std.specs.Cmp.Lexicographic.{slice_cmp, nat_list_cmp_total, nat_list_eq_equiv, bytes_decides}
use Rattle.std.proofs.lemmas.Bool.{cases_Bool, cond-true, cond-false}
use Rattle.std.proofs.lemmas.Map.Text.{is_eq-slice_cmp}
use Rattle.slang_store.specs.Contents.{Contents, with_entry}

-- the bytes at a name
abbrev pub found : BTreeMap (Vec ℕ Global) (Vec ℕ Global) → Contents
found m name = option_map (λ bytes. bytes.items) (tree.get_by (λ key. slice_cmp nat_cmp name key.items) m)

-- a key that has the bytes bs has no other bytes
apart : (bs cs ks : List ℕ) → bytes_eq bs cs ≡ false → is_eq (slice_cmp nat_cmp bs ks) ≡ true → is_eq (slice_cmp nat_cmp cs ks) ≡ false
apart bs cs ks n y =
    is_eq-slice_cmp cs ks ∙ nat_list_eq_equiv.symm cs ks ∙ sym (nat_list_eq_equiv.congr bs ks cs (sym (is_eq-slice_cmp bs ks) ∙ y)) ∙ n

-- what stays at other keys
others : {X : Type 0} (eq : Vec ℕ Global → Vec ℕ Global → Bool) (test : Vec ℕ Global → Bool) (old new : List (Vec ℕ Global × X)) → KeepsOthers eq test old new
    → (other : Vec ℕ Global → Bool) → IsKeyTest eq other → AreApart test other → lookup other new ≡ lookup other old
unfolding KeepsOthers
others eq test old new h = h

-- an insert at a key leaves the map with that entry, at every name
found_at : (m n : BTreeMap (Vec ℕ Global) (Vec ℕ Global)) (key value : Vec ℕ Global) → tree.Updates (λ x y. slice_cmp nat_cmp x.items y.items) m n key (Some value)
    → (name : List ℕ) → found n name ≡ with_entry (found m) key.items value.items name
found_at m n key value h name =
    ⊎_elim
    (λ y. subst (λ l. found n l ≡ Some value.items) ((bytes_decides key.items name).0 y) (ap (option_map (λ bytes. bytes.items)) h.1) ∙ sym (cond-true (bytes_eq key.items name) (Some value.items) (found m name) y))
    (λ e. ap (option_map (λ bytes. bytes.items)) (others _ _ _ _ h.3 _ (λ x y. (eq_by_cmp_equiv nat_list_cmp_total).congr name x.items y.items) (λ k. apart key.items name k.items e)) ∙ sym (cond-false (bytes_eq key.items name) (Some value.items) (found m name) e))
    (cases_Bool (bytes_eq key.items name))

-- an insert at a key leaves the map with that entry
pub found_after : (m n : BTreeMap (Vec ℕ Global) (Vec ℕ Global)) (key value : Vec ℕ Global) → tree.Updates (λ x y. slice_cmp nat_cmp x.items y.items) m n key (Some value)
    → found n ≡ with_entry (found m) key.items value.items
found_after m n key value h = fun_ext (found_at m n key value h)
