-- The constants of a shader's image are words, and it has fewer than 2^32 ids.
use Rattle.std.proofs.Common.{ℕ, ◌+◌, ◌*◌, ◌^◌, ◌<◌, ◌≤◌, true, false, cond, nat_eq, nat_lt, List, [], ◌∷◌, length, arith, lit<}
use Rattle.std.specs.List.{AllByRecursion}
use Rattle.first_form.specs.declared.shader.Shader.{Shader}
use Rattle.first_form.specs.declared.shader.Statement.{Statement}
use Rattle.first_form.specs.declared.shader.Sum.{Sum}
use Rattle.first_form.specs.declared.shader.Item.{Item}
use Rattle.first_form.specs.declared.shader.Item.TheVariants.{Number, X}
use Rattle.first_form.specs.Shaders.{IsItem, IsSum, IsStatement, IsShader}
use Rattle.first_image.specs.Templates.{Tables, Code, item_code, more_code, sum_code, statements_code}
use Rattle.first_image.specs.Image.{insert, item_constants, items_constants, sum_constants, statements_constants, constants, entry_id, tables, image_of}
use Rattle.first_image.proofs.BodyCode.{plus_item}
use Rattle.first_image.proofs.ConstantLists.{length-constants}

abbrev AreSmall : List ℕ → Type 0
AreSmall ks = AllByRecursion (λ c. c < 2 ^ 32) ks

-- ---- the constants

insert_small : (n : ℕ) (ks : List ℕ) → n < 2 ^ 32 → AreSmall ks → AreSmall (insert n ks)
insert_small n [] small h = (small, tt)
insert_small n (k ∷ ks) small h =
    elim (nat_eq n k) as (λ b. AreSmall (cond b (k ∷ ks) (cond (nat_lt n k) (n ∷ k ∷ ks) (k ∷ insert n ks)))) [
      | true ↦ h
      | false ↦ elim (nat_lt n k) as (λ b. AreSmall (cond b (n ∷ k ∷ ks) (k ∷ insert n ks))) [ true ↦ (small, h) | false ↦ (h.0, insert_small n ks small h.1) ]
    ]

item_small : (i : Item) (ks : List ℕ) → IsItem i → AreSmall ks → AreSmall (item_constants i ks)
item_small (Number n) ks small h = insert_small n ks small h
item_small X ks small h = insert_small 0 ks (lit< tt) h

items_small : (is : List Item) (ks : List ℕ) → AllByRecursion IsItem is → AreSmall ks → AreSmall (items_constants is ks)
items_small [] ks small h = h
items_small (i ∷ is) ks small h = item_small i (items_constants is ks) small.0 (items_small is ks small.1 h)

sum_small : (s : Sum) (ks : List ℕ) → IsSum s → AreSmall ks → AreSmall (sum_constants s ks)
sum_small s ks small h = item_small s.first (items_constants s.rest ks) small.first (items_small s.rest ks small.rest h)

statements_small : (ss : List Statement) → AllByRecursion IsStatement ss → AreSmall (statements_constants ss [])
statements_small [] small = tt
statements_small (s ∷ ss) small =
    let ks = statements_constants ss [] in
    insert_small 0 (sum_constants s.index (sum_constants s.value ks)) (lit< tt)
    (sum_small s.index (sum_constants s.value ks) small.0.index (sum_small s.value ks small.0.value (statements_small ss small.1)))

pub constants_small : (p : Shader) → IsShader p → AreSmall (constants p)
constants_small p shader = statements_small p.statements shader.statements

-- ---- the ids

item_few : (t : Tables) (i : Item) (id temp : ℕ) → (item_code t i id temp).id ≤ id + 2
item_few t (Number n) id temp = omega arith
item_few t X id temp = omega arith

more_few : (t : Tables) (f : ℕ → ℕ → Code) (c : ℕ) (is : List Item) → ((id temp : ℕ) → (f id temp).id ≤ id + c) → (id temp : ℕ) → (more_code t f is id temp).id ≤ id + c + 3 * length is
more_few t f c [] h id temp = omega (arith, h id temp)
more_few t f c (i ∷ is) h id temp =
    omega (arith, more_few t (plus_item t f i) (c + 3) is (λ id temp. omega (arith, h id temp, item_few t i (f id temp).id (f id temp).temp)) id temp)

sum_few : (t : Tables) (s : Sum) (id temp : ℕ) → IsSum s → (sum_code t s id temp).id ≤ id + 95
sum_few t s id temp short = omega (arith, more_few t (item_code t s.first) 2 s.rest (item_few t s.first) id temp, short.most)

statements_few : (t : Tables) (ss : List Statement) (id temp : ℕ) → AllByRecursion IsStatement ss → (statements_code t ss id temp).id ≤ id + 191 * length ss
statements_few t [] id temp short = omega arith
statements_few t (s ∷ ss) id temp short =
    let a = sum_code t s.index id temp in
    let b = sum_code t s.value a.id a.temp in
    omega (arith, sum_few t s.index id temp short.0.index, sum_few t s.value a.id a.temp short.0.value, statements_few t ss (b.id + 1) b.temp short.1)

pub bound_small : (home : List ℕ) (p : Shader) → IsShader p → length p.statements < 2 ^ 20 → (image_of home p).bound < 2 ^ 32
bound_small home p shader few = omega (arith, statements_few (tables p) p.statements (entry_id p + 4) 0 shader.statements, length-constants p.statements shader.statements)
