-- The image of a shader as sections one after the other: their ids, where they stand, and that each keeps the order.
use Rattle.std.proofs.Common.{◌≡◌, ℕ, ◌+◌, true, false, List, [], ◌∷◌, ◌++◌, length, refl, ap, ◌∙◌, arith}
use Rattle.spirv_words.specs.declared.images.Instruction.{Instruction}
use Rattle.first_form.specs.declared.shader.Shader.{Shader}
use Rattle.first_form.specs.declared.shader.Statement.{Statement}
use Rattle.first_form.specs.declared.shader.Sum.{Sum}
use Rattle.first_form.specs.declared.shader.Item.{Item}
use Rattle.first_form.specs.declared.shader.Item.TheVariants.{Number, X}
use Rattle.first_image.specs.Templates.{Tables, Code, Piece, item_code, more_code, sum_code, statement_code, statements_code}
use Rattle.first_image.specs.Sections.{beginning, plain_types, constants_code, pointer_types, nulls}
use Rattle.first_image.specs.Image.{constants, array_id, pointers_id, nulls_id, buffer_id, entry_id, tables, preamble, buffer_types, more_types, variables, image_code}
use Rattle.first_image.specs.Emitted.{entry_start, entry_end}
use Rattle.first_image.proofs.Standing.{HasAt, has_back, has_all}
use Rattle.first_image.proofs.BodyCode.{plus_item}
use Rattle.first_image.proofs.Numbered.{Numbered, numbered_on, statements_numbered}
use Rattle.first_image.proofs.Image.{plain_types_numbered, pointer_types_numbered, nulls_numbered}
use Rattle.first_image.proofs.Constants.{constants_numbered}
use Rattle.valid_first_image.proofs.Quiet.{quiet, quiet_on}
use Rattle.valid_first_image.proofs.Scans.{Scan, runs, ending, runs_on, ending_on}

-- ---- what is open in each section

abbrev pub at_start : Scan
at_start = record { function = 0; block = 0; reached = 0; front = false; ended = false }

-- behind the types and constants, outside functions, and in the entry's block
abbrev pub in_constants : Scan
in_constants = record { function = 0; block = 0; reached = 8; front = false; ended = false }

abbrev pub in_body : Scan
in_body = record { function = 1; block = 1; reached = 14; front = false; ended = false }

-- code that may stand in the entry's block, and leaves it open
record Steady (is : List Instruction) : Type 0 where
  runs_there : runs in_body is ≡ true
  stays : ending in_body is ≡ in_body
  calm : quiet is ≡ true

steady : (a b : List Instruction) → Steady a → Steady b → Steady (a ++ b)
steady a b h g = record {
  runs_there = runs_on a b in_body h.runs_there (ap (λ s. runs s b) h.stays ∙ g.runs_there);
  stays = ending_on a b in_body ∙ ap (λ s. ending s b) h.stays ∙ g.stays;
  calm = quiet_on a b h.calm g.calm;
}

steady_item : (t : Tables) (i : Item) (id temp : ℕ) → Steady (item_code t i id temp).instructions
steady_item t (Number n) id temp = record { runs_there = refl; stays = refl; calm = refl }
steady_item t X id temp = record { runs_there = refl; stays = refl; calm = refl }

steady_plus : (t : Tables) (f : ℕ → ℕ → Code) (i : Item) → ((id temp : ℕ) → Steady (f id temp).instructions) → (id temp : ℕ) → Steady (plus_item t f i id temp).instructions
steady_plus t f i h id temp =
    let a = f id temp in
    let b = item_code t i a.id a.temp in
    steady (a.instructions ++ b.instructions) _ (steady a.instructions b.instructions (h id temp) (steady_item t i a.id a.temp)) (record { runs_there = refl; stays = refl; calm = refl })

steady_more : (t : Tables) (f : ℕ → ℕ → Code) (is : List Item) → ((id temp : ℕ) → Steady (f id temp).instructions) → (id temp : ℕ) → Steady (more_code t f is id temp).instructions
steady_more t f [] h = h
steady_more t f (i ∷ is) h = steady_more t (plus_item t f i) is (steady_plus t f i h)

steady_sum : (t : Tables) (s : Sum) (id temp : ℕ) → Steady (sum_code t s id temp).instructions
steady_sum t s = steady_more t (item_code t s.first) s.rest (steady_item t s.first)

steady_statement : (t : Tables) (s : Statement) (id temp : ℕ) → Steady (statement_code t s id temp).instructions
steady_statement t s id temp =
    let a = sum_code t s.index id temp in
    let b = sum_code t s.value a.id a.temp in
    steady (a.instructions ++ b.instructions) _ (steady a.instructions b.instructions (steady_sum t s.index id temp) (steady_sum t s.value a.id a.temp)) (record { runs_there = refl; stays = refl; calm = refl })

steady_statements : (t : Tables) (ss : List Statement) (id temp : ℕ) → Steady (statements_code t ss id temp).instructions
steady_statements t [] id temp = record { runs_there = refl; stays = refl; calm = refl }
steady_statements t (s ∷ ss) id temp =
    let a = statement_code t s id temp in
    steady a.instructions (statements_code t ss a.id a.temp).instructions (steady_statement t s id temp) (steady_statements t ss a.id a.temp)

-- constants, which leave all as it is
runs_constants : (id : ℕ) (ks : List ℕ) → runs in_constants (constants_code id ks) ≡ true
runs_constants id [] = refl
runs_constants id (k ∷ ks) = runs_constants (id + 1) ks

ending_constants : (id : ℕ) (ks : List ℕ) → ending in_constants (constants_code id ks) ≡ in_constants
ending_constants id [] = refl
ending_constants id (k ∷ ks) = ending_constants (id + 1) ks

quiet_constants : (id : ℕ) (ks : List ℕ) → quiet (constants_code id ks) ≡ true
quiet_constants id [] = refl
quiet_constants id (k ∷ ks) = quiet_constants (id + 1) ks

-- ---- the image

module _ (home : List ℕ) (p : Shader) where
  abbrev pub ks : List ℕ
  ks = constants p

  abbrev pub a : ℕ
  a = array_id p

  abbrev pub n : ℕ
  n = pointers_id p

  abbrev pub k : ℕ
  k = nulls_id p

  abbrev pub b : ℕ
  b = buffer_id p

  abbrev pub e : ℕ
  e = entry_id p

  abbrev pub code : List Instruction
  code = image_code home p

  abbrev pub body : Piece
  body = statements_code (tables p) p.statements (e + 4) 0

  -- what stands before the constants, between them and the entry, and before the statements
  abbrev pub before_constants : List Instruction
  before_constants = beginning ++ (preamble home p ++ plain_types)

  abbrev pub before_entry : List Instruction
  before_entry = buffer_types a ++ (pointer_types n ++ (more_types a n ++ (nulls k ++ variables n b)))

  abbrev pub before_body : List Instruction
  before_body = before_entry ++ entry_start n b e

  abbrev pub after_constants : List Instruction
  after_constants = before_body ++ (body.instructions ++ entry_end)

  -- ---- its ids

  buffer_types_numbered : Numbered a (buffer_types a) (a + 2)
  buffer_types_numbered = (refl, (refl, omega arith))

  more_types_numbered : Numbered (n + 15) (more_types a n) (n + 17)
  more_types_numbered = (refl, (omega arith, omega arith))

  variables_numbered : Numbered b (variables n b) (b + 2)
  variables_numbered = (refl, (refl, omega arith))

  entry_start_numbered : Numbered e (entry_start n b e) (e + 4)
  entry_start_numbered = (refl, (refl, (omega arith, (omega arith, omega arith))))

  before_entry_numbered : Numbered a before_entry e
  before_entry_numbered =
      numbered_on (buffer_types a) (pointer_types n ++ (more_types a n ++ (nulls k ++ variables n b))) a n e buffer_types_numbered
      (numbered_on (pointer_types n) (more_types a n ++ (nulls k ++ variables n b)) n (n + 15) e (pointer_types_numbered n)
      (numbered_on (more_types a n) (nulls k ++ variables n b) (n + 15) k e more_types_numbered
      (numbered_on (nulls k) (variables n b) k b e (nulls_numbered k) variables_numbered)))

  body_numbered : Numbered (e + 4) (body.instructions ++ entry_end) body.id
  body_numbered = numbered_on body.instructions entry_end (e + 4) body.id body.id (statements_numbered (tables p) p.statements (e + 4) 0) refl

  pub after_constants_numbered : Numbered a after_constants body.id
  after_constants_numbered =
      numbered_on before_entry (entry_start n b e ++ (body.instructions ++ entry_end)) a e body.id before_entry_numbered
      (numbered_on (entry_start n b e) (body.instructions ++ entry_end) e (e + 4) body.id entry_start_numbered body_numbered)

  pub code_numbered : Numbered 1 code body.id
  code_numbered =
      numbered_on before_constants (constants_code 13 ks ++ after_constants) 1 13 body.id plain_types_numbered
      (numbered_on (constants_code 13 ks) after_constants 13 a body.id (constants_numbered 13 ks) after_constants_numbered)

  -- ---- where its sections stand

  abbrev pub after_place : ℕ
  after_place = 24 + length (constants_code 13 ks)

  abbrev pub body_place : ℕ
  body_place = after_place + 35

  pub has_code : HasAt code 0 code
  has_code = has_all code []

  pub has_constants : HasAt code 24 (constants_code 13 ks ++ after_constants)
  has_constants = has_back code 0 before_constants (constants_code 13 ks ++ after_constants) has_code

  pub has_after : HasAt code after_place after_constants
  has_after = has_back code 24 (constants_code 13 ks) after_constants has_constants

  -- ---- what opens no function

  pub quiet_front : quiet (before_constants ++ (constants_code 13 ks ++ before_entry)) ≡ true
  quiet_front = quiet_on before_constants (constants_code 13 ks ++ before_entry) refl (quiet_on (constants_code 13 ks) before_entry (quiet_constants 13 ks) refl)

  pub quiet_body : quiet body.instructions ≡ true
  quiet_body = (steady_statements (tables p) p.statements (e + 4) 0).calm

  -- ---- the order

  runs_body : runs in_body (body.instructions ++ entry_end) ≡ true
  runs_body =
      let h = steady_statements (tables p) p.statements (e + 4) 0 in
      runs_on body.instructions entry_end in_body h.runs_there (ap (λ s. runs s entry_end) h.stays)

  runs_after : runs in_constants after_constants ≡ true
  runs_after = runs_on before_body (body.instructions ++ entry_end) in_constants refl runs_body

  pub runs_code : runs at_start code ≡ true
  runs_code =
      runs_on before_constants (constants_code 13 ks ++ after_constants) at_start refl
      (runs_on (constants_code 13 ks) after_constants in_constants (runs_constants 13 ks) (ap (λ s. runs s after_constants) (ending_constants 13 ks) ∙ runs_after))

  ending_body : ending in_body (body.instructions ++ entry_end) ≡ record { function = 0; block = 0; reached = 14; front = false; ended = false }
  ending_body = ending_on body.instructions entry_end in_body ∙ ap (λ s. ending s entry_end) (steady_statements (tables p) p.statements (e + 4) 0).stays

  pub ending_code : ending at_start code ≡ record { function = 0; block = 0; reached = 14; front = false; ended = false }
  ending_code =
      ending_on before_constants (constants_code 13 ks ++ after_constants) at_start
      ∙ ending_on (constants_code 13 ks) after_constants in_constants
      ∙ ap (λ s. ending s after_constants) (ending_constants 13 ks)
      ∙ ending_on before_body (body.instructions ++ entry_end) in_constants ∙ ending_body
