-- What is taken for a sum is one: its numbers are in their range, and it has no more items than it may have.
use Rattle.std.proofs.Common.{◌≡◌, ℕ, zero, suc, ◌^◌, ◌<◌, Bool, true, false, cond, List, [], ◌∷◌, ◌++◌, length, length-append, Option, Some, None, refl, subst, arith}
use Rattle.std.specs.List.{AllByRecursion}
use Rattle.std.proofs.lemmas.Bool.{ltb-true}
use Rattle.slang_names.specs.declared.numbers.NumberKind.{NumberKind}
use Rattle.slang_names.specs.declared.numbers.NumberKind.TheVariants as kind
use Rattle.slang_tree.specs.declared.expressions.ExprNode.{ExprNode, out-ExprNode}
use Rattle.slang_tree.specs.declared.expressions.ExprNode.TheOpen.{ExprNode-F}
use Rattle.slang_tree.specs.declared.expressions.ExprNode.TheOpen as e
use Rattle.slang_tree.specs.declared.expressions.ExprTree.{ExprTree}
use Rattle.first_form.specs.declared.shader.Sum.{Sum}
use Rattle.first_form.specs.declared.shader.Item.{Item}
use Rattle.first_form.specs.declared.shader.Item.TheVariants.{Number as Written, X}
use Rattle.first_form.specs.Shaders.{IsItem, IsSum}
use Rattle.first_form.specs.Finding.{◌>>=◌, if_there}
use Rattle.tree_form.specs.Forms.{literal_by, item_by, item_of, added, alone, and_last, sum_of}

-- ---- what a step that found something found

pub some_is : {A : Type 0} (x y : A) → Some x ≡ Some y → x ≡ y
some_is x y e = cc

pub bind_some : {A B : Type 0} (r : Option A) (f : A → Option B) (y : B) → (r >>= f) ≡ Some y → (x : A) × (r ≡ Some x) × (f x ≡ Some y)
bind_some (Some x) f y e = (x, refl, e)
bind_some None f y e = absurd cc

-- a test that passed
pub if_some : {A : Type 0} (b : Bool) (x : Option A) (y : A) → cond b x None ≡ Some y → (b ≡ true) × (x ≡ Some y)
if_some true x y e = (refl, e)
if_some false x y e = absurd cc

-- ---- items

literal_is : (k : NumberKind) (value : ℕ) (item : Item) → literal_by k value ≡ Some item → IsItem item
literal_is kind.Uint value item e =
    let a = if_some _ (Some (Written value)) item e in
    subst IsItem (some_is (Written value) item a.1) (ltb-true value (2 ^ 32) a.0)
literal_is kind.Int value item e = absurd cc

item_by_is : (parameter : List ℕ) (node : ExprNode-F ExprNode ExprTree) (item : Item) → item_by parameter node ≡ Some item → IsItem item
item_by_is parameter (e.Number number) item h = literal_is number.kind number.value item h
item_by_is parameter (e.Member value id arguments) item h = let a = if_some _ (Some X) item h in subst IsItem (some_is X item a.1) tt
item_by_is parameter _ item h = absurd cc

item_is : (parameter : List ℕ) (node : ExprNode) (item : Item) → item_of parameter node ≡ Some item → IsItem item
item_is parameter node item h = item_by_is parameter (out-ExprNode node) item h

-- ---- sums

-- a sum with at most so many items
record IsWithin (n : ℕ) (sum : Sum) : Type 0 where
  first : IsItem sum.first
  rest : AllByRecursion IsItem sum.rest
  most : length sum.rest < n

and_one : (xs : List Item) (x : Item) → AllByRecursion IsItem xs → IsItem x → AllByRecursion IsItem (xs ++ x ∷ [])
and_one [] x h k = (k, tt)
and_one (y ∷ ys) x h k = (h.0, and_one ys x h.1 k)

and_last_is : (n : ℕ) (sum : Sum) (item : Item) → IsWithin n sum → IsItem item → IsWithin (suc n) (and_last sum item)
and_last_is n sum item h k =
    let l = length-append sum.rest (item ∷ []) in
    let m = h.most in
    record { first = h.first; rest = and_one sum.rest item h.rest k; most = omega (arith, l, m) }

module _ (parameter : List ℕ) where
  sum_by_is : (n : ℕ) (tree : ExprTree) (parts : Option (ExprTree × ExprTree)) (sum : Sum)
      → ((left : ExprTree) (s : Sum) → sum_of parameter n left ≡ Some s → IsWithin n s)
      → if_there parts (λ x. sum_of parameter n x.0 >>= λ s. item_of parameter x.1.node >>= λ item. Some (and_last s item)) (item_of parameter tree.node >>= λ item. Some (alone item)) ≡ Some sum
      → IsWithin (suc n) sum
  sum_by_is n tree (Some x) sum below h =
      let a = bind_some (sum_of parameter n x.0) (λ s. item_of parameter x.1.node >>= λ item. Some (and_last s item)) sum h in
      let b = bind_some (item_of parameter x.1.node) (λ item. Some (and_last a.0 item)) sum a.2 in
      subst (IsWithin (suc n)) (some_is (and_last a.0 b.0) sum b.2) (and_last_is n a.0 b.0 (below x.0 a.0 a.1) (item_is parameter x.1.node b.0 b.1))
  sum_by_is n tree None sum below h =
      let a = bind_some (item_of parameter tree.node) (λ item. Some (alone item)) sum h in
      subst (IsWithin (suc n)) (some_is (alone a.0) sum a.2) (record { first = item_is parameter tree.node a.0 a.1; rest = tt; most = omega arith })

  sum_is_within : (n : ℕ) (tree : ExprTree) (sum : Sum) → sum_of parameter n tree ≡ Some sum → IsWithin n sum
  unfolding sum_of
  sum_is_within zero tree sum h = absurd cc
  sum_is_within (suc n) tree sum h = sum_by_is n tree (added tree.node) sum (sum_is_within n) h

  pub sum_is : (tree : ExprTree) (sum : Sum) → sum_of parameter 32 tree ≡ Some sum → IsSum sum
  sum_is tree sum h = let w = sum_is_within 32 tree sum h in let m = w.most in record { first = w.first; rest = w.rest; most = omega (arith, m) }
