-- How many words spell the image of a shader.
use Rattle.std.proofs.Common.{◌≡◌, ℕ, ◌+◌, ◌*◌, ◌<◌, ◌≤◌, Bool, true, false, cond, nat_eq, nat_lt, List, [], ◌∷◌, ◌++◌, length, sum_by, refl, sym, arith, length-append, lit≤, ◌≢◌, ltb-true, ltb-false, false-eqb}
use Rattle.spirv_words.specs.declared.opcodes.Op.TheVariants.{IAdd, AccessChain, Store}
use Rattle.std.proofs.lemmas.Bool.Decides.{nat_tests}
use Rattle.std.proofs.lemmas.List.Sums.{sum_by-cons}
use Rattle.spirv_words.specs.declared.images.Instruction.{Instruction}
use Rattle.spirv_words.specs.Strings.{string_words}
use Rattle.spirv_words.specs.Words.{body_words, image_words}
use Rattle.first_form.specs.declared.shader.Shader.{Shader}
use Rattle.first_form.specs.declared.shader.Statement.{Statement}
use Rattle.first_form.specs.declared.shader.Sum.{Sum}
use Rattle.first_form.specs.declared.shader.Item.{Item}
use Rattle.first_form.specs.declared.shader.Item.TheVariants.{Number, X}
use Rattle.first_form.specs.Sizes.{item_bytes, sum_bytes, statement_bytes}
use Rattle.first_form.specs.Shaders.{IsShader}
use Rattle.first_image.specs.Templates.{ins, Tables, Code, item_code, more_code, sum_code, statement_code, statements_code}
use Rattle.first_image.specs.Sections.{beginning, plain_types, constants_code, pointer_types, nulls}
use Rattle.first_image.specs.Image.{insert, item_constants, items_constants, sum_constants, statement_constants, statements_constants, constants, array_id, pointers_id, nulls_id, buffer_id, entry_id, tables, qualified, preamble, buffer_types, more_types, variables, entry_code, image_code, image_of}
use Rattle.first_image.specs.Emitted.{entry_end}
use Rattle.first_image.proofs.BodyCode.{plus_item}
use Rattle.first_image.proofs.SpelledImages.{free_name}

-- ---- the words of instructions

abbrev size : List Instruction → ℕ
size [] = 0
size (i ∷ is) = length i.operands + 1 + size is

length-body_words : (is : List Instruction) → length (body_words is) ≡ size is
length-body_words [] = refl
length-body_words (i ∷ is) = omega (arith, length-append i.operands (body_words is), length-body_words is)

size-append : (is js : List Instruction) → size (is ++ js) ≡ size is + size js
size-append [] js = omega arith
size-append (i ∷ is) js = omega (arith, size-append is js)

-- ---- the constants: all but 0 are counted, and 0 stands first

abbrev nonzeros : List ℕ → ℕ
nonzeros [] = 0
nonzeros (k ∷ ks) = cond (nat_eq k 0) 0 1 + nonzeros ks

abbrev OnlyFirst : List ℕ → Type 0
OnlyFirst [] = Unit {0}
OnlyFirst (k ∷ ks) = nonzeros ks ≡ length ks

length-only_first : (ks : List ℕ) → OnlyFirst ks → length ks ≤ nonzeros ks + 1
length-only_first [] h = omega arith
length-only_first (k ∷ ks) h = omega (arith, h)

nonzeros-insert : (n : ℕ) (ks : List ℕ) → nonzeros (insert n ks) ≤ nonzeros ks + cond (nat_eq n 0) 0 1
nonzeros-insert n [] = omega arith
nonzeros-insert n (k ∷ ks) = step n k ks (nonzeros-insert n ks)
  where
    step : (n k : ℕ) (ks : List ℕ) → nonzeros (insert n ks) ≤ nonzeros ks + cond (nat_eq n 0) 0 1 → nonzeros (insert n (k ∷ ks)) ≤ nonzeros (k ∷ ks) + cond (nat_eq n 0) 0 1
    step n k ks h =
        elim (nat_eq n k) as (λ b. nonzeros (cond b (k ∷ ks) (cond (nat_lt n k) (n ∷ k ∷ ks) (k ∷ insert n ks))) ≤ nonzeros (k ∷ ks) + cond (nat_eq n 0) 0 1) [
          | true ↦ omega arith
          | false ↦ elim (nat_lt n k) as (λ b. nonzeros (cond b (n ∷ k ∷ ks) (k ∷ insert n ks)) ≤ nonzeros (k ∷ ks) + cond (nat_eq n 0) 0 1) [ true ↦ omega arith | false ↦ omega (arith, h) ]
        ]

nonzeros-le : (ks : List ℕ) → nonzeros ks ≤ length ks
nonzeros-le [] = omega arith
nonzeros-le (k ∷ ks) =
    let h = nonzeros-le ks in
    elim (nat_eq k 0) as (λ b. cond b 0 1 + nonzeros ks ≤ length (k ∷ ks)) [ true ↦ omega (arith, h) | false ↦ omega (arith, h) ]

above : (k : ℕ) (ks : List ℕ) → 0 < k → nonzeros ks ≡ length ks → nonzeros (k ∷ ks) ≡ length (k ∷ ks)
above k ks p h = grind (arith, nat_tests)

head_above : (k : ℕ) (ks : List ℕ) → nonzeros (k ∷ ks) ≡ length (k ∷ ks) → 0 < k
head_above k ks h = let l = nonzeros-le ks in grind (arith, nat_tests)

tail_above : (k : ℕ) (ks : List ℕ) → nonzeros (k ∷ ks) ≡ length (k ∷ ks) → nonzeros ks ≡ length ks
tail_above k ks h = let l = nonzeros-le ks in let p = head_above k ks h in grind (arith, nat_tests)

-- a number above 0 keeps a list without a 0 so
all_nonzero : (n : ℕ) (ks : List ℕ) → 0 < n → nonzeros ks ≡ length ks → nonzeros (insert n ks) ≡ length (insert n ks)
all_nonzero n [] p h = above n [] p h
all_nonzero n (k ∷ ks) p h =
    elim (nat_eq n k) as (λ b. nonzeros (cond b (k ∷ ks) (cond (nat_lt n k) (n ∷ k ∷ ks) (k ∷ insert n ks))) ≡ length (cond b (k ∷ ks) (cond (nat_lt n k) (n ∷ k ∷ ks) (k ∷ insert n ks)))) [
      | true ↦ h
      | false ↦ elim (nat_lt n k) as (λ b. nonzeros (cond b (n ∷ k ∷ ks) (k ∷ insert n ks)) ≡ length (cond b (n ∷ k ∷ ks) (k ∷ insert n ks))) [
        | true ↦ above n (k ∷ ks) p h
        | false ↦ above k (insert n ks) (head_above k ks h) (all_nonzero n ks p (tail_above k ks h))
      ]
    ]

only_first : (n : ℕ) (ks : List ℕ) → OnlyFirst ks → OnlyFirst (insert n ks)
only_first n [] h = refl
only_first n (k ∷ ks) h = go (nat_eq n k) (nat_lt n k) refl refl
  where
    go : (a b : Bool) → nat_eq n k ≡ a → nat_lt n k ≡ b → OnlyFirst (cond a (k ∷ ks) (cond b (n ∷ k ∷ ks) (k ∷ insert n ks)))
    go true b e f = h
    go false true e f = let l : n < k = ltb-true n k f in above k ks (omega arith) h
    go false false e f = let l : k ≤ n = ltb-false n k f in let ne : n ≢ k = false-eqb n k (sym e) in all_nonzero n ks (omega arith) h

only_first-item : (i : Item) (ks : List ℕ) → OnlyFirst ks → OnlyFirst (item_constants i ks)
only_first-item (Number n) ks h = only_first n ks h
only_first-item X ks h = only_first 0 ks h

only_first-items : (is : List Item) (ks : List ℕ) → OnlyFirst ks → OnlyFirst (items_constants is ks)
only_first-items [] ks h = h
only_first-items (i ∷ is) ks h = only_first-item i (items_constants is ks) (only_first-items is ks h)

only_first-sum : (s : Sum) (ks : List ℕ) → OnlyFirst ks → OnlyFirst (sum_constants s ks)
only_first-sum s ks h = only_first-item s.first (items_constants s.rest ks) (only_first-items s.rest ks h)

only_first-statements : (ss : List Statement) → OnlyFirst (statements_constants ss [])
only_first-statements [] = tt
only_first-statements (s ∷ ss) =
    let ks = statements_constants ss [] in
    only_first 0 (sum_constants s.index (sum_constants s.value ks)) (only_first-sum s.index (sum_constants s.value ks) (only_first-sum s.value ks (only_first-statements ss)))

-- ---- bodies

abbrev item_words : Item → ℕ
item_words (Number n) = 0
item_words X = 9

abbrev item_numbers : Item → ℕ
item_numbers (Number n) = 1
item_numbers X = 0

item_size : (t : Tables) (i : Item) (id temp : ℕ) → size (item_code t i id temp).instructions ≡ item_words i
item_size t (Number n) id temp = refl
item_size t X id temp = refl

nonzeros-item : (i : Item) (ks : List ℕ) → nonzeros (item_constants i ks) ≤ nonzeros ks + item_numbers i
nonzeros-item (Number n) ks =
    elim (nat_eq n 0) as (λ b. nonzeros (insert n ks) ≤ nonzeros ks + cond b 0 1 → nonzeros (insert n ks) ≤ nonzeros ks + 1) [ true ↦ λ h. omega (arith, h) | false ↦ λ h. h ] (nonzeros-insert n ks)
nonzeros-item X ks = nonzeros-insert 0 ks

item_cost : (i : Item) → 2 * item_words i + 8 * item_numbers i ≤ 7 * item_bytes i
item_cost (Number n) = lit≤ tt
item_cost X = lit≤ tt

plus_cost : (i : Item) → 2 * item_words i + 10 + 8 * item_numbers i ≤ 7 * (1 + item_bytes i)
plus_cost (Number n) = lit≤ tt
plus_cost X = lit≤ tt

plus_size : (t : Tables) (f : ℕ → ℕ → Code) (c : ℕ) (i : Item) → ((id temp : ℕ) → size (f id temp).instructions ≡ c) → (id temp : ℕ) → size (plus_item t f i id temp).instructions ≡ c + item_words i + 5
plus_size t f c i h id temp =
    let a = f id temp in
    let b = item_code t i a.id a.temp in
    omega (arith, size-append (a.instructions ++ b.instructions) (ins IAdd (t.word ∷ b.id ∷ a.value ∷ b.value ∷ []) ∷ []), size-append a.instructions b.instructions, h id temp, item_size t i a.id a.temp)

more_cost : (t : Tables) (f : ℕ → ℕ → Code) (c : ℕ) (is : List Item) (ks : List ℕ) → ((id temp : ℕ) → size (f id temp).instructions ≡ c) → (id temp : ℕ)
    → 2 * size (more_code t f is id temp).instructions + 8 * nonzeros (items_constants is ks) ≤ 2 * c + 8 * nonzeros ks + 7 * sum_by (λ i. 1 + item_bytes i) is
more_cost t f c [] ks h id temp = omega (arith, h id temp)
more_cost t f c (i ∷ is) ks h id temp =
    omega (arith, more_cost t (plus_item t f i) (c + item_words i + 5) is ks (plus_size t f c i h) id temp, nonzeros-item i (items_constants is ks), plus_cost i, sum_by-cons (λ i. 1 + item_bytes i) i is)

sum_cost : (t : Tables) (s : Sum) (ks : List ℕ) (id temp : ℕ) → 2 * size (sum_code t s id temp).instructions + 8 * nonzeros (sum_constants s ks) ≤ 8 * nonzeros ks + 7 * sum_bytes s
sum_cost t s ks id temp =
    omega (arith, more_cost t (item_code t s.first) (item_words s.first) s.rest ks (item_size t s.first) id temp, nonzeros-item s.first (items_constants s.rest ks), item_cost s.first)

statement_cost : (t : Tables) (s : Statement) (ks : List ℕ) (id temp : ℕ) → 2 * size (statement_code t s id temp).instructions + 8 * nonzeros (statement_constants s ks) ≤ 8 * nonzeros ks + 7 * statement_bytes s
statement_cost t s ks id temp =
    let a = sum_code t s.index id temp in
    let b = sum_code t s.value a.id a.temp in
    let write = ins AccessChain (t.cell_pointer ∷ b.id ∷ t.buffer ∷ t.constant 0 ∷ a.value ∷ []) ∷ ins Store (b.id ∷ b.value ∷ []) ∷ [] in
    omega (
      arith,
      size-append (a.instructions ++ b.instructions) write,
      size-append a.instructions b.instructions,
      sum_cost t s.value ks a.id a.temp,
      sum_cost t s.index (sum_constants s.value ks) id temp,
      nonzeros-insert 0 (sum_constants s.index (sum_constants s.value ks)),
    )

statements_cost : (t : Tables) (ss : List Statement) (id temp : ℕ) → 2 * size (statements_code t ss id temp).instructions + 8 * nonzeros (statements_constants ss []) ≤ 7 * sum_by statement_bytes ss
statements_cost t [] id temp = lit≤ tt
statements_cost t (s ∷ ss) id temp =
    let a = statement_code t s id temp in
    let b = statements_code t ss a.id a.temp in
    omega (arith, size-append a.instructions b.instructions, statement_cost t s (statements_constants ss []) id temp, statements_cost t ss a.id a.temp, sum_by-cons statement_bytes s ss)

-- ---- the whole image

length-image_words : (bound : ℕ) (is : List Instruction) → length (image_words (record { bound = bound; instructions = is })) ≡ 5 + size is
length-image_words bound is = omega (arith, length-body_words is)

size-constants : (id : ℕ) (ks : List ℕ) → size (constants_code id ks) ≡ 4 * length ks
size-constants id [] = refl
size-constants id (k ∷ ks) = omega (arith, size-constants (id + 1) ks)

size-preamble : (short : (bytes : List ℕ) → 4 * length (string_words bytes) ≤ length bytes + 4) (home : List ℕ) (p : Shader) → length home ≤ 64 → IsShader p → size (preamble home p) ≤ 122
size-preamble short home p few h =
    let entry = (free_name p.entry h.entry).1 in
    let buffer = (free_name p.buffer h.buffer).1 in
    omega (
      arith,
      entry,
      buffer,
      short p.entry,
      short (qualified home p.buffer),
      short (qualified home p.entry),
      length-append home (46 ∷ p.buffer),
      length-append home (46 ∷ p.entry),
      length-append (string_words p.entry) (buffer_id p ∷ (buffer_id p + 1) ∷ []),
    )

size-entry : (p : Shader) → size (entry_code p) ≡ 20 + size (statements_code (tables p) p.statements (entry_id p + 4) 0).instructions
size-entry p = let body = (statements_code (tables p) p.statements (entry_id p + 4) 0).instructions in omega (arith, size-append body entry_end)

pub image_short : ((bytes : List ℕ) → 4 * length (string_words bytes) ≤ length bytes + 4) → (home : List ℕ) (p : Shader) → length home ≤ 64 → IsShader p
    → 2 * length (image_words (image_of home p)) ≤ 800 + 7 * sum_by statement_bytes p.statements
image_short short home p few h =
    let a = array_id p in
    let n = pointers_id p in
    let k = nulls_id p in
    let l1 = entry_code p in
    let l2 = variables n (buffer_id p) ++ l1 in
    let l3 = nulls k ++ l2 in
    let l4 = more_types a n ++ l3 in
    let l5 = pointer_types n ++ l4 in
    let l6 = buffer_types a ++ l5 in
    let l7 = constants_code 13 (constants p) ++ l6 in
    let l8 = plain_types ++ l7 in
    let whole : length (image_words (image_of home p)) ≡ 5 + size (image_code home p) = length-image_words (image_of home p).bound (image_code home p) in
    let sections : size (image_code home p) ≡ 155 + size (preamble home p) + 4 * length (constants p) + size (entry_code p) =
    omega (
      arith,
      size-append beginning (preamble home p ++ l8),
      size-append (preamble home p) l8,
      size-append plain_types l7,
      size-append (constants_code 13 (constants p)) l6,
      size-append (buffer_types a) l5,
      size-append (pointer_types n) l4,
      size-append (more_types a n) l3,
      size-append (nulls k) l2,
      size-append (variables n (buffer_id p)) l1,
      size-constants 13 (constants p),
    ) in
    let few_constants = length-only_first (constants p) (only_first-statements p.statements) in
    omega (arith, whole, sections, few_constants, size-preamble short home p few h, size-entry p, statements_cost (tables p) p.statements (entry_id p + 4) 0)
