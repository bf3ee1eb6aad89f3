-- The constants of an image: all that the statements name are there, and each stands under its id.
use Rattle.std.proofs.Common.{◌≡◌, ℕ, suc, ◌+◌, Bool, true, false, ◌||◌, cond, List, [], ◌∷◌, length, Some, refl, sym, ap, ◌∙◌, arith}
use Rattle.std.specs.Prelude.{slice_get, nat_eq}
use Rattle.std.proofs.lemmas.Bool.{eqb-true}
use Rattle.behavior.specs.Values.{Word}
use Rattle.spirv_words.specs.declared.opcodes.Op.TheVariants.{Constant}
use Rattle.spirv_words.specs.declared.images.Instruction.{Instruction}
use Rattle.spirv_words.specs.Machine.{Plain, IsValue, add, Globals, declared}
use Rattle.first_form.specs.declared.shader.Statement.{Statement}
use Rattle.first_form.specs.declared.shader.Sum.{Sum}
use Rattle.first_form.specs.declared.shader.Item.{Item}
use Rattle.first_form.specs.declared.shader.Item.TheVariants.{Number, X}
use Rattle.first_image.specs.Templates.{ins}
use Rattle.first_image.specs.Sections.{constants_code}
use Rattle.first_image.specs.Image.{position, item_constants, items_constants, sum_constants, statement_constants, statements_constants}
use Rattle.first_image.proofs.Lists.{contains, insert_keeps, insert_has}
use Rattle.first_image.proofs.Standing.{HasAt}
use Rattle.first_image.proofs.Acts.{at_same}
use Rattle.first_image.proofs.Exprs.{ItemUsed, ItemsUsed, SumUsed}
use Rattle.first_image.proofs.Stmts.{StatementUsed, StatementsUsed}
use Rattle.first_image.proofs.Numbered.{Numbered, numbered_to}
use Rattle.first_image.proofs.Links.{has_function, stays_ids}

-- ---- what a part of a program adds keeps what was there

item_keeps : (i : Item) (ks : List ℕ) (n : ℕ) → contains n ks ≡ true → contains n (item_constants i ks) ≡ true
item_keeps (Number k) ks n h = insert_keeps n k ks h
item_keeps X ks n h = insert_keeps n 0 ks h

items_keep : (is : List Item) (ks : List ℕ) (n : ℕ) → contains n ks ≡ true → contains n (items_constants is ks) ≡ true
items_keep [] ks n h = h
items_keep (i ∷ is) ks n h = item_keeps i (items_constants is ks) n (items_keep is ks n h)

sum_keeps : (s : Sum) (ks : List ℕ) (n : ℕ) → contains n ks ≡ true → contains n (sum_constants s ks) ≡ true
sum_keeps s ks n h = item_keeps s.first (items_constants s.rest ks) n (items_keep s.rest ks n h)

statement_keeps : (s : Statement) (ks : List ℕ) (n : ℕ) → contains n ks ≡ true → contains n (statement_constants s ks) ≡ true
statement_keeps s ks n h = insert_keeps n 0 (sum_constants s.index (sum_constants s.value ks)) (sum_keeps s.index (sum_constants s.value ks) n (sum_keeps s.value ks n h))

-- ---- what a part of a program names is among the constants, if all that it adds is

module _ (used : ℕ → Bool) where
  item_used : (i : Item) (ks : List ℕ) → ((n : ℕ) → contains n (item_constants i ks) ≡ true → used n ≡ true) → ItemUsed used i
  item_used (Number n) ks f = f n (insert_has n ks)
  item_used X ks f = f 0 (insert_has 0 ks)

  items_used : (is : List Item) (ks : List ℕ) → ((n : ℕ) → contains n (items_constants is ks) ≡ true → used n ≡ true) → ItemsUsed used is
  items_used [] ks f = tt
  items_used (i ∷ is) ks f = (item_used i (items_constants is ks) f, items_used is ks (λ n h. f n (item_keeps i (items_constants is ks) n h)))

  sum_used : (s : Sum) (ks : List ℕ) → ((n : ℕ) → contains n (sum_constants s ks) ≡ true → used n ≡ true) → SumUsed used s
  sum_used s ks f = (item_used s.first (items_constants s.rest ks) f, items_used s.rest ks (λ n h. f n (item_keeps s.first (items_constants s.rest ks) n h)))

  statement_used : (s : Statement) (ks : List ℕ) → ((n : ℕ) → contains n (statement_constants s ks) ≡ true → used n ≡ true) → StatementUsed used s
  statement_used s ks f =
      let values = sum_constants s.value ks in
      let both = sum_constants s.index values in (
        f 0 (insert_has 0 both),
        sum_used s.index values (λ n h. f n (insert_keeps n 0 both h)),
        sum_used s.value ks (λ n h. f n (insert_keeps n 0 both (sum_keeps s.index values n h))),
      )

  pub statements_used : (ss : List Statement) (ks : List ℕ) → ((n : ℕ) → contains n (statements_constants ss ks) ≡ true → used n ≡ true) → StatementsUsed used ss
  statements_used [] ks f = tt
  statements_used (s ∷ ss) ks f =
      let rest = statements_constants ss ks in
      (statement_used s rest f, statements_used ss ks (λ n h. f n (statement_keeps s rest n h)))

-- ---- the constants under their ids

pub constants_numbered : (id : ℕ) (ks : List ℕ) → Numbered id (constants_code id ks) (id + length ks)
constants_numbered id [] = omega arith
constants_numbered id (k ∷ ks) = (refl, numbered_to (constants_code (id + 1) ks) (id + 1) (id + 1 + length ks) (id + length (k ∷ ks)) (omega arith) (constants_numbered (id + 1) ks))

pub constants_plain : (id : ℕ) (ks : List ℕ) → has_function (constants_code id ks) ≡ false
constants_plain id [] = refl
constants_plain id (k ∷ ks) = constants_plain (id + 1) ks

hold_at : (code : List Instruction) (b : Bool) (k x id : ℕ) (ks : List ℕ) (g : Globals) → nat_eq k x ≡ b → (b || contains k ks) ≡ true → (contains k ks ≡ true → (declared code (constants_code (id + 1) ks) g).ids (id + 1 + position k ks) ≡ Some (Plain (Word k))) → g.ids id ≡ Some (Plain (Word x)) → (declared code (constants_code (id + 1) ks) g).ids (id + cond b 0 (suc (position k ks))) ≡ Some (Plain (Word k))
hold_at code true k x id ks g is h f this =
    let same : k ≡ x = eqb-true k x is in
    ap (λ j. (declared code (constants_code (id + 1) ks) g).ids j) (omega arith)
    ∙ stays_ids code (constants_code (id + 1) ks) (id + 1) (id + 1 + length ks) id g (constants_numbered (id + 1) ks) (omega arith)
    ∙ this ∙ ap (λ k. Some (Plain (Word k))) (sym same)
hold_at code false k x id ks g is h f this = ap (λ j. (declared code (constants_code (id + 1) ks) g).ids j) (omega arith) ∙ f h

-- the id of a number stands for it
pub constants_hold : (code : List Instruction) (k id : ℕ) (ks : List ℕ) (g : Globals) → contains k ks ≡ true → (declared code (constants_code id ks) g).ids (id + position k ks) ≡ Some (Plain (Word k))
constants_hold code k id [] g h = absurd cc
constants_hold code k id (x ∷ ks) g h =
    let g1 = add (Some id) (IsValue (Plain (Word x))) g in
    hold_at code (nat_eq k x) k x id ks g1 refl h (constants_hold code k (id + 1) ks g1) (at_same g.ids id (Plain (Word x)))

-- the Constant of a number stands somewhere in the code
abbrev StandsSomewhere : List Instruction → ℕ → ℕ → Type 0
StandsSomewhere code id k = (q : ℕ) × (slice_get code q ≡ Some (ins Constant (4 ∷ id ∷ k ∷ [])))

stand_at : (code : List Instruction) (b : Bool) (k x id p : ℕ) (ks : List ℕ) → nat_eq k x ≡ b → (b || contains k ks) ≡ true → slice_get code p ≡ Some (ins Constant (4 ∷ id ∷ x ∷ [])) → (contains k ks ≡ true → StandsSomewhere code (id + 1 + position k ks) k) → StandsSomewhere code (id + cond b 0 (suc (position k ks))) k
stand_at code true k x id p ks is h this f =
    let same : k ≡ x = eqb-true k x is in
    let first : id ≡ id + 0 = omega arith in
    (p, this ∙ ap (λ x. Some (ins Constant (4 ∷ id ∷ x ∷ []))) (sym same) ∙ ap (λ j. Some (ins Constant (4 ∷ j ∷ k ∷ []))) first)
stand_at code false k x id p ks is h this f =
    let q = f h in
    let later : id + 1 + position k ks ≡ id + suc (position k ks) = omega arith in
    (q.0, q.1 ∙ ap (λ j. Some (ins Constant (4 ∷ j ∷ k ∷ []))) later)

pub constants_stand : (code : List Instruction) (k id p : ℕ) (ks : List ℕ) → HasAt code p (constants_code id ks) → contains k ks ≡ true → StandsSomewhere code (id + position k ks) k
constants_stand code k id p [] has h = absurd cc
constants_stand code k id p (x ∷ ks) has h = stand_at code (nat_eq k x) k x id p ks refl h has.0 (constants_stand code k (id + 1) (p + 1) ks has.1)
