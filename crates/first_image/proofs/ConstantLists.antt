-- The list of the constants, as a set makes it.
use Rattle.std.proofs.Common.{◌≡◌, ℕ, ◌+◌, List, [], ◌∷◌, ◌++◌, length, ◌*◌, ◌≤◌, true, false, cond, nat_eq, nat_lt, refl, ap, arith}
use Rattle.std.specs.Ordering.{nat_cmp}
use Rattle.std.specs.BTreeSet.{insert_key}
use Rattle.std.specs.List.{AllByRecursion}
use Rattle.std.specs.List.Sorted.{IsStrictlySortedBy, IsStrictlyIncreasing}
use Rattle.std.proofs.lemmas.Map.Keys.{below_from_sorted}
use Rattle.std.proofs.lemmas.Bool.Decides.{nat_tests}
use Rattle.first_form.specs.declared.shader.Statement.{Statement}
use Rattle.first_form.specs.declared.shader.Sum.{Sum}
use Rattle.first_form.specs.declared.shader.Item.{Item}
use Rattle.first_form.specs.declared.shader.Item.TheVariants.{Number, X}
use Rattle.first_form.specs.Shaders.{IsStatement}
use Rattle.first_image.specs.Image.{insert, item_constants, items_constants, sum_constants, statement_constants, statements_constants}

step : (n k : ℕ) (ks : List ℕ) → insert_key nat_cmp ks n ≡ insert n ks → insert_key nat_cmp (k ∷ ks) n ≡ insert n (k ∷ ks)
step n k ks h = grind (arith, nat_tests)

pub insert_key-insert : (n : ℕ) (ks : List ℕ) → insert_key nat_cmp ks n ≡ insert n ks
insert_key-insert n [] = refl
insert_key-insert n (k ∷ ks) = step n k ks (insert_key-insert n ks)

pub items_constants-push : (is : List Item) (i : Item) (ks : List ℕ) → items_constants (is ++ i ∷ []) ks ≡ items_constants is (item_constants i ks)
items_constants-push [] i ks = refl
items_constants-push (x ∷ is) i ks = ap (item_constants x) (items_constants-push is i ks)

pub statements_constants-push : (ss : List Statement) (s : Statement) (ks : List ℕ) → statements_constants (ss ++ s ∷ []) ks ≡ statements_constants ss (statement_constants s ks)
statements_constants-push [] s ks = refl
statements_constants-push (x ∷ ss) s ks = ap (statement_constants x) (statements_constants-push ss s ks)

pub ascending : (ks : List ℕ) → IsStrictlySortedBy nat_cmp ks → IsStrictlyIncreasing ks
ascending ks h k lt = below_from_sorted ks k (k + 1) 0 h (omega arith) lt

-- ---- how many constants there are

length-insert : (n : ℕ) (ks : List ℕ) → length (insert n ks) ≤ length ks + 1
length-insert n [] = omega arith
length-insert n (k ∷ ks) =
    elim (nat_eq n k) as (λ b. length (cond b (k ∷ ks) (cond (nat_lt n k) (n ∷ k ∷ ks) (k ∷ insert n ks))) ≤ length (k ∷ ks) + 1) [
      | true ↦ omega arith
      | false ↦ elim (nat_lt n k) as (λ b. length (cond b (n ∷ k ∷ ks) (k ∷ insert n ks)) ≤ length (k ∷ ks) + 1) [
        | true ↦ omega arith
        | false ↦ omega (arith, length-insert n ks)
      ]
    ]

length-item : (i : Item) (ks : List ℕ) → length (item_constants i ks) ≤ length ks + 1
length-item (Number n) ks = length-insert n ks
length-item X ks = length-insert 0 ks

length-items : (is : List Item) (ks : List ℕ) → length (items_constants is ks) ≤ length ks + length is
length-items [] ks = omega arith
length-items (i ∷ is) ks = omega (arith, length-item i (items_constants is ks), length-items is ks)

length-sum : (s : Sum) (ks : List ℕ) → length (sum_constants s ks) ≤ length ks + length s.rest + 1
length-sum s ks = omega (arith, length-item s.first (items_constants s.rest ks), length-items s.rest ks)

length-statement : (s : Statement) (ks : List ℕ) → IsStatement s → length (statement_constants s ks) ≤ length ks + 65
length-statement s ks short =
    omega (arith, length-insert 0 (sum_constants s.index (sum_constants s.value ks)), length-sum s.index (sum_constants s.value ks), length-sum s.value ks, short.index.most, short.value.most)

pub length-constants : (ss : List Statement) → AllByRecursion IsStatement ss → length (statements_constants ss []) ≤ 65 * length ss
length-constants [] short = omega arith
length-constants (s ∷ ss) short = omega (arith, length-statement s (statements_constants ss []) short.0, length-constants ss short.1)
