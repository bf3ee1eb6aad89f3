-- The ids of results go up by one in the order of the instructions, so that each is found where it is defined.
use Rattle.std.proofs.Common.{◌≡◌, ◌≢◌, ℕ, zero, suc, ◌+◌, ◌≤◌, cond, List, [], ◌∷◌, ◌++◌, Option, Some, None, refl, sym, ap, ◌∙◌, subst, arith}
use Rattle.std.specs.Prelude.{slice_get}
use Rattle.std.proofs.lemmas.Bool.{ne_eqb, eq-eqb}
use Rattle.spirv_words.specs.declared.opcodes.Op.TheVariants.{AccessChain, Store, IAdd}
use Rattle.spirv_words.specs.declared.images.Instruction.{Instruction}
use Rattle.spirv_words.specs.Machine.{result_of, is_some_number, place_of, definition_of}
use Rattle.first_form.specs.declared.shader.Statement.{Statement}
use Rattle.first_form.specs.declared.shader.Sum.{Sum}
use Rattle.first_form.specs.declared.shader.Item.{Item}
use Rattle.first_form.specs.declared.shader.Item.TheVariants.{Number, X}
use Rattle.first_image.specs.Templates.{ins, Tables, Code, pair_code, operator_code, item_code, more_code, sum_code, statement_code, statements_code}
use Rattle.first_image.proofs.Lists.{some_is}

-- a result, if there is one, is the next id, and the rest begins at the id after it
abbrev pub Counts : Option ℕ → ℕ → (ℕ → Type 0) → Type 0
Counts None n rest = rest n
Counts (Some r) n rest = (r ≡ n) × rest (n + 1)

-- the results of these instructions are the ids from n on, up to n'
abbrev pub Numbered : ℕ → List Instruction → ℕ → Type 0
Numbered n [] n' = n ≡ n'
Numbered n (i ∷ is) n' = Counts (result_of i.op i.operands) n (λ m. Numbered m is n')

counts_on : (o : Option ℕ) (n : ℕ) (P Q : ℕ → Type 0) → ((n : ℕ) → P n → Q n) → Counts o n P → Counts o n Q
counts_on None n P Q f h = f n h
counts_on (Some r) n P Q f h = (h.0, f (n + 1) h.1)

pub numbered_on : (a b : List Instruction) (n m k : ℕ) → Numbered n a m → Numbered m b k → Numbered n (a ++ b) k
numbered_on [] b n m k h g = subst (λ n. Numbered n b k) (sym h) g
numbered_on (i ∷ a) b n m k h g = counts_on (result_of i.op i.operands) n (λ n. Numbered n a m) (λ n. Numbered n (a ++ b) k) (λ n h. numbered_on a b n m k h g) h

pub numbered_to : (a : List Instruction) (n m k : ℕ) → m ≡ k → Numbered n a m → Numbered n a k
numbered_to a n m k e h = subst (λ k. Numbered n a k) e h

counts_from : {A : Type 0} (o : Option ℕ) (n : ℕ) (P : ℕ → Type 0) → ((n : ℕ) → P n → A) → Counts o n P → A
counts_from None n P f h = f n h
counts_from (Some r) n P f h = f (n + 1) h.1

first_counts : (o : Option ℕ) (n r : ℕ) (P : ℕ → Type 0) → o ≡ Some r → Counts o n P → Counts o r P
first_counts None n r P e h = absurd cc
first_counts (Some q) n r P e h = let same : n ≡ r = sym h.0 ∙ some_is e in subst (λ n. Counts (Some q) n P) same h

-- from an instruction with a result on, the ids are those from its result on
pub numbered_from : (a b : List Instruction) (i : Instruction) (r n n' : ℕ) → result_of i.op i.operands ≡ Some r → Numbered n (a ++ i ∷ b) n' → Numbered r (i ∷ b) n'
numbered_from [] b i r n n' e h = first_counts (result_of i.op i.operands) n r (λ m. Numbered m b n') e h
numbered_from (j ∷ a) b i r n n' e h = counts_from (result_of j.op j.operands) n (λ m. Numbered m (a ++ i ∷ b) n') (λ m h. numbered_from a b i r m n' e h) h

-- ---- an id is found where it is defined

not_below : (o : Option ℕ) (n : ℕ) (P : ℕ → Type 0) (r : ℕ) → ((n : ℕ) → P n → n ≤ r) → Counts o n P → n ≤ r
not_below None n P r f h = f n h
not_below (Some q) n P r f h = omega (arith, f (n + 1) h.1)

first_not_below : (o : Option ℕ) (n : ℕ) (P : ℕ → Type 0) (r : ℕ) → o ≡ Some r → Counts o n P → n ≤ r
first_not_below None n P r e h = absurd cc
first_not_below (Some q) n P r e h = let f = some_is e in omega (arith, h.0, f)

-- no result is below the first id
numbered_above : (is : List Instruction) (n n' p r : ℕ) (i : Instruction) → Numbered n is n' → slice_get is p ≡ Some i → result_of i.op i.operands ≡ Some r → n ≤ r
numbered_above [] n n' p r i h e f = absurd cc
numbered_above (j ∷ is) n n' zero r i h e f = first_not_below (result_of j.op j.operands) n (λ n. Numbered n is n') r (ap (λ j. result_of j.op j.operands) (some_is e) ∙ f) h
numbered_above (j ∷ is) n n' (suc p) r i h e f = not_below (result_of j.op j.operands) n (λ n. Numbered n is n') r (λ n h. numbered_above is n n' p r i h e f) h

-- a search for an id passes an instruction whose result is lower
passes : {A : Type 0} (o : Option ℕ) (n r : ℕ) (P : ℕ → Type 0) (here there x : Option A) → ((n : ℕ) → P n → n ≤ r) → ((n : ℕ) → P n → there ≡ x) → Counts o n P → cond (is_some_number o r) here there ≡ x
passes None n r P here there x f g h = g n h
passes (Some q) n r P here there x f g h =
    let ne : q ≢ r = λ e. absurd (omega (arith, f (n + 1) h.1, h.0)) in
    ap (λ b. cond b here there) (ne_eqb q r ne) ∙ g (n + 1) h.1

-- and stops at the instruction whose result it is
stops : {A : Type 0} (o : Option ℕ) (r : ℕ) (here there : Option A) → o ≡ Some r → cond (is_some_number o r) here there ≡ here
stops o r here there e = ap (λ o. cond (is_some_number o r) here there) e ∙ ap (λ b. cond b here there) (eq-eqb r r refl)

pub place_found : (is : List Instruction) (n n' p from r : ℕ) (i : Instruction) → Numbered n is n' → slice_get is p ≡ Some i → result_of i.op i.operands ≡ Some r → place_of is r from ≡ Some (from + p)
place_found [] n n' p from r i h e f = absurd cc
place_found (j ∷ is) n n' zero from r i h e f =
    stops (result_of j.op j.operands) r (Some from) (place_of is r (from + 1)) (ap (λ j. result_of j.op j.operands) (some_is e) ∙ f) ∙ ap (λ q. Some q) (omega arith)
place_found (j ∷ is) n n' (suc p) from r i h e f =
    passes (result_of j.op j.operands) n r (λ n. Numbered n is n') (Some from) (place_of is r (from + 1)) (Some (from + suc p))
    (λ n h. numbered_above is n n' p r i h e f)
    (λ n h. place_found is n n' p (from + 1) r i h e f ∙ ap (λ q. Some q) (omega arith)) h

pub definition_found : (is : List Instruction) (n n' p r : ℕ) (i : Instruction) → Numbered n is n' → slice_get is p ≡ Some i → result_of i.op i.operands ≡ Some r → definition_of is r ≡ Some i
definition_found [] n n' p r i h e f = absurd cc
definition_found (j ∷ is) n n' zero r i h e f =
    stops (result_of j.op j.operands) r (Some j) (definition_of is r) (ap (λ j. result_of j.op j.operands) (some_is e) ∙ f) ∙ e
definition_found (j ∷ is) n n' (suc p) r i h e f =
    passes (result_of j.op j.operands) n r (λ n. Numbered n is n') (Some j) (definition_of is r) (Some i)
    (λ n h. numbered_above is n n' p r i h e f)
    (λ n h. definition_found is n n' p r i h e f) h

-- ---- the ids of each template

-- the results of an expression's code are the ids from the next one on
abbrev IsNumbered : (ℕ → ℕ → Code) → Type 0
IsNumbered f = (id temp : ℕ) → Numbered id (f id temp).instructions (f id temp).id

pair_numbered : (a : Code) (f : ℕ → ℕ → Code) (id : ℕ) → Numbered id a.instructions a.id → IsNumbered f → Numbered id (pair_code a f).instructions (pair_code a f).id
pair_numbered a f id ha hf = numbered_on a.instructions (f a.id a.temp).instructions id a.id (f a.id a.temp).id ha (hf a.id a.temp)

item_numbered : (t : Tables) (i : Item) → IsNumbered (item_code t i)
item_numbered t (Number n) id temp = refl
item_numbered t X id temp = (refl, (refl, omega arith))

plus_numbered : (t : Tables) (f g : ℕ → ℕ → Code) → IsNumbered f → IsNumbered g → IsNumbered (λ id temp. operator_code IAdd t.word (pair_code (f id temp) g))
plus_numbered t f g hf hg id temp =
    let q = pair_code (f id temp) g in
    numbered_on q.instructions (ins IAdd (t.word ∷ q.id ∷ q.left ∷ q.right ∷ []) ∷ []) id q.id (q.id + 1) (pair_numbered (f id temp) g id (hf id temp) hg) (refl, refl)

more_numbered : (t : Tables) (is : List Item) (f : ℕ → ℕ → Code) → IsNumbered f → IsNumbered (more_code t f is)
more_numbered t [] f hf = hf
more_numbered t (i ∷ is) f hf = more_numbered t is (λ id temp. operator_code IAdd t.word (pair_code (f id temp) (item_code t i))) (plus_numbered t f (item_code t i) hf (item_numbered t i))

sum_numbered : (t : Tables) (s : Sum) → IsNumbered (sum_code t s)
sum_numbered t s = more_numbered t s.rest (item_code t s.first) (item_numbered t s.first)

statement_numbered : (t : Tables) (s : Statement) (id temp : ℕ) → Numbered id (statement_code t s id temp).instructions (statement_code t s id temp).id
statement_numbered t s id temp =
    let q = pair_code (sum_code t s.index id temp) (sum_code t s.value) in
    numbered_on q.instructions (ins AccessChain (t.cell_pointer ∷ q.id ∷ t.buffer ∷ t.constant 0 ∷ q.left ∷ []) ∷ ins Store (q.id ∷ q.right ∷ []) ∷ []) id q.id (q.id + 1)
    (pair_numbered (sum_code t s.index id temp) (sum_code t s.value) id (sum_numbered t s.index id temp) (sum_numbered t s.value)) (refl, refl)

pub statements_numbered : (t : Tables) (ss : List Statement) (id temp : ℕ) → Numbered id (statements_code t ss id temp).instructions (statements_code t ss id temp).id
statements_numbered t [] id temp = refl
statements_numbered t (s ∷ ss) id temp =
    let a = statement_code t s id temp in
    let b = statements_code t ss a.id a.temp in
    numbered_on a.instructions b.instructions id a.id b.id (statement_numbered t s id temp) (statements_numbered t ss a.id a.temp)
