-- A set of the names before, and the first name that is among them.
use Rattle.std.proofs.Common.{◌≡◌, ℕ, zero, suc, ◌+◌, ◌<◌, ◌≤◌, Bool, true, false, ◌&&◌, ◌||◌, cond, not, bytes_eq, List, [], ◌∷◌, drop, length, get_or, Some, None, refl, sym, ◌∙◌, ap, arith}
use Rattle.repeated_names.specs.declared.groups.Group.{Group as Told}
use Rattle.repeated_names.specs.declared.groups.Group.TheVariants as g
use Rattle.repeated_names.specs.declared.groups.Key.{Key}
use Rattle.repeated_names.specs.declared.names.Named.{Named as Pointed}
use Rattle.repeated_names.specs.contracts.groups.KeyPartialEq.TheImpl as keys
use Rattle.repeated_names.specs.contracts.groups.GroupPartialEq.TheImpl as groups
use Rattle.repeated_names.specs.Twice.{Group, Named, same_group, is_among, first_twice}
use Rattle.repeated_names.specs.Views.{group_of, named_of, all_named}

-- how the set tells two keys apart
abbrev pub key_eq : Key → Key → Bool
key_eq = keys.ghosts.eq

group_same : (a b : Told) → groups.ghosts.eq a b ≡ same_group (group_of a) (group_of b)
group_same g.Module g.Module = refl
group_same g.Module (g.Struct n) = refl
group_same g.Module (g.Byte n) = refl
group_same (g.Struct m) g.Module = refl
group_same (g.Struct m) (g.Struct n) = refl
group_same (g.Struct m) (g.Byte n) = refl
group_same (g.Byte m) g.Module = refl
group_same (g.Byte m) (g.Struct n) = refl
group_same (g.Byte m) (g.Byte n) = refl

key_same : (a b : Key) → key_eq a b ≡ (same_group (group_of a.group) (group_of b.group) && bytes_eq a.bytes.now b.bytes.now)
key_same a b = ap (λ c. c && bytes_eq a.bytes.now b.bytes.now) (group_same a.group b.group)

-- whether a name of that group and of these bytes is among them
abbrev pub has_name : Group → List ℕ → List Named → Bool
has_name g bs [] = false
has_name g bs (y ∷ ys) = (same_group y.group g && bytes_eq y.name.name bs) || has_name g bs ys

among : (x : Named) (ys : List Named) → is_among x ys ≡ has_name x.group x.name.name ys
among x [] = refl
among x (y ∷ ys) = ap (λ b. (same_group y.group x.group && bytes_eq y.name.name x.name.name) || b) (among x ys)

or_true : (b c : Bool) → cond b true c ≡ (b || c)
or_true true c = refl
or_true false c = refl

-- the set has the names before, and what is left decides
abbrev pub Decides : (Key → Bool) → List Named → List Named → Type 0
Decides has left all = (before : List Named) × ((q : Key) → has q ≡ has_name (group_of q.group) q.bytes.now before) × (first_twice before left ≡ first_twice [] all)

module _ (has : Key → Bool) (x : Named) (left all : List Named) (k : Key) (same : group_of k.group ≡ x.group) (bytes : k.bytes.now ≡ x.name.name) (h : Decides has (x ∷ left) all) where
  has_key : has k ≡ is_among x h.0
  has_key = h.1 k ∙ (ap (λ g. has_name g k.bytes.now h.0) same ∙ (ap (λ bs. has_name x.group bs h.0) bytes ∙ sym (among x h.0)))

  pub stands_twice : has k ≡ true → Some x.name.place ≡ first_twice [] all
  stands_twice e = sym (ap (λ b. cond b (Some x.name.place) (first_twice (x ∷ h.0) left)) (sym has_key ∙ e)) ∙ h.2

  pub one_more : (more : Key → Bool) → has k ≡ false → ((q : Key) → more q ≡ cond (key_eq k q) true (has q)) → Decides more left all
  one_more more e adds = (
    x ∷ h.0,
    (λ q.
        adds q ∙ (or_true (key_eq k q) (has q) ∙ (ap (λ b. b || has q) (key_same k q) ∙ (ap (λ g. (same_group g (group_of q.group) && bytes_eq k.bytes.now q.bytes.now) || has q) same ∙
        (ap (λ bs. (same_group x.group (group_of q.group) && bytes_eq bs q.bytes.now) || has q) bytes ∙
        ap (λ b. (same_group x.group (group_of q.group) && bytes_eq x.name.name q.bytes.now) || b) (h.1 q)))))),
    sym (ap (λ b. cond b (Some x.name.place) (first_twice (x ∷ h.0) left)) (sym has_key ∙ e)) ∙ h.2,
  )

-- the next name, and those behind it
pub next_of : (xs : List Pointed) (i : ℕ) (x : Pointed) → i < length xs → x ≡ get_or xs i x → all_named (drop i xs) ≡ named_of x ∷ all_named (drop (i + 1) xs)
next_of [] i x h e = absurd (omega arith)
next_of (y ∷ ys) zero x h e = ap (λ z. named_of z ∷ all_named ys) (sym e)
next_of (y ∷ ys) (suc i) x h e = let n : suc i + 1 ≡ suc (i + 1) = omega arith in next_of ys i x (omega arith) e ∙ ap (λ k. named_of x ∷ all_named (drop k (y ∷ ys))) (sym n)

pub none_next : (xs : List Pointed) (i : ℕ) → length xs ≤ i → all_named (drop i xs) ≡ []
none_next [] zero h = refl
none_next [] (suc i) h = refl
none_next (y ∷ ys) zero h = absurd (omega arith)
none_next (y ∷ ys) (suc i) h = none_next ys i (omega arith)

-- with nothing left there is none
pub none_twice : (has : Key → Bool) (left all : List Named) → left ≡ [] → Decides has left all → None ≡ first_twice [] all
none_twice has left all e h = ap (λ xs. first_twice h.0 xs) (sym e) ∙ h.2

pub not_false : (b : Bool) → false ≡ not b → b ≡ true
not_false true h = refl
not_false false h = cc

pub not_true : (b : Bool) → true ≡ not b → b ≡ false
not_true true h = cc
not_true false h = refl
