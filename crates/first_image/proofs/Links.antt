-- The declarations of an image: what an id stands for is what its instruction declares.
use Rattle.std.proofs.Common.{◌≡◌, ℕ, ◌+◌, ◌<◌, Bool, true, false, ◌||◌, cond, List, [], ◌∷◌, ◌++◌, Option, Some, None, refl, sym, ap, ◌∙◌, subst, arith}
use Rattle.spirv_words.specs.declared.images.Instruction.{Instruction}
use Rattle.spirv_words.specs.Machine.{Shape, Operand, Meaning, IsType, IsValue, Unknown, add, Globals, meaning_of, is_function, declared, result_of}
use Rattle.first_image.proofs.Acts.{at_same, at_other}
use Rattle.first_image.proofs.Numbered.{Counts, Numbered, numbered_from}

-- whether a function begins among these instructions
abbrev pub has_function : List Instruction → Bool
has_function [] = false
has_function (i ∷ is) = is_function i.op || has_function is

neither : (a b : Bool) → (a || b) ≡ false → (a ≡ false) × (b ≡ false)
neither true b e = cc
neither false b e = (refl, e)

-- declarations come one after the other, up to the first function
pub declared_on : (code a b : List Instruction) (g : Globals) → has_function a ≡ false → declared code (a ++ b) g ≡ declared code b (declared code a g)
declared_on code [] b g h = refl
declared_on code (i ∷ a) b g h =
    let g1 = add (result_of i.op i.operands) (meaning_of code g i.op i.operands) g in
    let none = neither (is_function i.op) (has_function a) h in
    ap (λ x. cond x g (declared code (a ++ b) g1)) none.0 ∙ declared_on code a b g1 none.1 ∙ ap (λ x. declared code b (cond x g (declared code a g1))) (sym none.0)

-- ---- what stands for an id stays, since later results have higher ids

add_ids : (o : Option ℕ) (x : Meaning) (g : Globals) (n j : ℕ) (P : ℕ → Type 0) → j < n → Counts o n P → (add o x g).ids j ≡ g.ids j
add_ids None x g n j P lt h = refl
add_ids (Some r) (IsType s) g n j P lt h = refl
add_ids (Some r) (IsValue o) g n j P lt h = at_other g.ids r o j (λ e. absurd (omega (arith, h.0)))
add_ids (Some r) Unknown g n j P lt h = refl

add_shapes : (o : Option ℕ) (x : Meaning) (g : Globals) (n j : ℕ) (P : ℕ → Type 0) → j < n → Counts o n P → (add o x g).shapes j ≡ g.shapes j
add_shapes None x g n j P lt h = refl
add_shapes (Some r) (IsType s) g n j P lt h = at_other g.shapes r s j (λ e. absurd (omega (arith, h.0)))
add_shapes (Some r) (IsValue o) g n j P lt h = refl
add_shapes (Some r) Unknown g n j P lt h = refl

counts_rest : {A : Type 0} (x y : A) (o : Option ℕ) (n j : ℕ) (P : ℕ → Type 0) → j < n → ((n : ℕ) → j < n → P n → x ≡ y) → Counts o n P → x ≡ y
counts_rest x y None n j P lt f h = f n lt h
counts_rest x y (Some r) n j P lt f h = f (n + 1) (omega arith) h.1

cond_shows : {A : Type 0} (show : Globals → A) (b : Bool) (x y : Globals) → show y ≡ show x → show (cond b x y) ≡ show x
cond_shows show true x y e = refl
cond_shows show false x y e = e

pub stays_ids : (code is : List Instruction) (n n' j : ℕ) (g : Globals) → Numbered n is n' → j < n → (declared code is g).ids j ≡ g.ids j
stays_ids code [] n n' j g h lt = refl
stays_ids code (i ∷ is) n n' j g h lt =
    let o = result_of i.op i.operands in
    let x = meaning_of code g i.op i.operands in
    let g1 = add o x g in
    cond_shows (λ g. g.ids j) (is_function i.op) g (declared code is g1)
    (counts_rest ((declared code is g1).ids j) (g1.ids j) o n j (λ n. Numbered n is n') lt (λ n lt h. stays_ids code is n n' j g1 h lt) h ∙ add_ids o x g n j (λ n. Numbered n is n') lt h)

pub stays_shapes : (code is : List Instruction) (n n' j : ℕ) (g : Globals) → Numbered n is n' → j < n → (declared code is g).shapes j ≡ g.shapes j
stays_shapes code [] n n' j g h lt = refl
stays_shapes code (i ∷ is) n n' j g h lt =
    let o = result_of i.op i.operands in
    let x = meaning_of code g i.op i.operands in
    let g1 = add o x g in
    cond_shows (λ g. g.shapes j) (is_function i.op) g (declared code is g1)
    (counts_rest ((declared code is g1).shapes j) (g1.shapes j) o n j (λ n. Numbered n is n') lt (λ n lt h. stays_shapes code is n n' j g1 h lt) h ∙ add_shapes o x g n j (λ n. Numbered n is n') lt h)

-- ---- one instruction among the others

module _ (code a b : List Instruction) (i : Instruction) (r n n' : ℕ) (g : Globals) (before : has_function a ≡ false) (no_function : is_function i.op ≡ false) (result : result_of i.op i.operands ≡ Some r) (numbered : Numbered n (a ++ i ∷ b) n') where
  -- what is declared before it
  abbrev globals_before : Globals
  globals_before = declared code a g

  from_here : Numbered r (i ∷ b) n'
  from_here = numbered_from a b i r n n' result numbered

  past : Numbered (r + 1) b n'
  past = (subst (λ o. Counts o r (λ m. Numbered m b n')) result from_here).1

  -- a type that is declared before it is so in the end
  pub shape_before : (t : ℕ) (s : Shape) → t < r → (declared code (a ++ i ∷ b) g).shapes t ≡ Some s → globals_before.shapes t ≡ Some s
  shape_before t s lt e =
      sym (stays_shapes code (i ∷ b) r n' t globals_before from_here lt) ∙ ap (λ g. g.shapes t) (sym (declared_on code a (i ∷ b) g before)) ∙ e

  declared_past : (x : Meaning) → meaning_of code globals_before i.op i.operands ≡ x → declared code (a ++ i ∷ b) g ≡ declared code b (add (Some r) x globals_before)
  declared_past x means =
      declared_on code a (i ∷ b) g before
      ∙ ap (λ y. cond y globals_before (declared code b (add (result_of i.op i.operands) (meaning_of code globals_before i.op i.operands) globals_before))) no_function
      ∙ ap (λ o. declared code b (add o (meaning_of code globals_before i.op i.operands) globals_before)) result
      ∙ ap (λ x. declared code b (add (Some r) x globals_before)) means

  -- the type that it declares stands in the end
  pub found_shape : (s : Shape) → meaning_of code globals_before i.op i.operands ≡ IsType s → (declared code (a ++ i ∷ b) g).shapes r ≡ Some s
  found_shape s means =
      ap (λ g. g.shapes r) (declared_past (IsType s) means)
      ∙ stays_shapes code b (r + 1) n' r (add (Some r) (IsType s) globals_before) past (omega arith)
      ∙ at_same globals_before.shapes r s

  -- and so does the value
  pub found_id : (o : Operand) → meaning_of code globals_before i.op i.operands ≡ IsValue o → (declared code (a ++ i ∷ b) g).ids r ≡ Some o
  found_id o means =
      ap (λ g. g.ids r) (declared_past (IsValue o) means)
      ∙ stays_ids code b (r + 1) n' r (add (Some r) (IsValue o) globals_before) past (omega arith)
      ∙ at_same globals_before.ids r o
