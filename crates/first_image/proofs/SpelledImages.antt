-- That the image of a shader can be spelled.
use Rattle.std.proofs.Common.{◌≡◌, ℕ, ◌+◌, ◌*◌, ◌<◌, ◌≤◌, Bool, true, false, ◌&&◌, nat_lt, List, [], ◌∷◌, ◌++◌, length, IsTrue, Some, refl, sym, ap, ◌∙◌, ◌||◌, arith, ltb-true, leb-true, le-leb, length-append, append-nil, lit<}
use Rattle.std.proofs.lemmas.Bool.Decides.{nat_tests}
use Rattle.std.specs.List.{list_all}
use Rattle.spirv_words.specs.declared.opcodes.Op.TheVariants.{Name, EntryPoint, ExecutionMode, Constant, IAdd, AccessChain, Store}
use Rattle.spirv_words.specs.declared.images.Instruction.{Instruction}
use Rattle.spirv_words.specs.Strings.{string_words, IsText}
use Rattle.spirv_words.specs.Layouts.{fits, after_string, is_string, has_string, is_group}
use Rattle.spirv_words.specs.Words.{IsInstruction, AreInstructions, CanBeSpelled}
use Rattle.first_form.specs.declared.shader.Shader.{Shader}
use Rattle.first_form.specs.declared.shader.GroupSize.{GroupSize}
use Rattle.first_form.specs.declared.shader.Statement.{Statement}
use Rattle.first_form.specs.declared.shader.Sum.{Sum}
use Rattle.first_form.specs.declared.shader.Item.{Item}
use Rattle.first_form.specs.declared.shader.Item.TheVariants.{Number, X}
use Rattle.slang_names.specs.Letters.{is_word_byte, is_digit, is_name}
use Rattle.first_form.specs.Words.{is_free_name}
use Rattle.first_form.specs.Shaders.{IsShader, IsGroup}
use Rattle.first_image.specs.Templates.{ins, Tables, Code, component_code, item_code, more_code, sum_code, statement_code, statements_code}
use Rattle.first_image.specs.Sections.{beginning, plain_types, constants_code, pointer_types, nulls}
use Rattle.first_image.specs.Image.{constants, array_id, pointers_id, nulls_id, buffer_id, entry_id, tables, qualified, preamble, buffer_types, more_types, variables, entry_code, image_of}
use Rattle.first_image.specs.Emitted.{decorations, entry_start, entry_end}
use Rattle.first_image.proofs.BodyCode.{plus_item}

-- ---- a test that computes on instructions that are written out

abbrev spells : List Instruction → Bool
spells [] = true
spells (i ∷ is) = fits i.op i.operands && (nat_lt (length i.operands) 65535 && spells is)

both : (a b : Bool) → a && b ≡ true → (a ≡ true) × (b ≡ true)
both true b e = (refl, e)
both false b e = cc

are_instructions : (is : List Instruction) → spells is ≡ true → AreInstructions is
are_instructions [] e = tt
are_instructions (i ∷ is) e =
    let p = both _ _ e in
    let q = both _ _ p.1 in
    (record { layout = p.0; short = ltb-true _ _ q.0 }, are_instructions is q.1)

joined : (is js : List Instruction) → AreInstructions is → AreInstructions js → AreInstructions (is ++ js)
joined [] js a b = b
joined (i ∷ is) js a b = (a.0, joined is js a.1 b)

-- ---- bodies

item_spelled : (t : Tables) (i : Item) (id temp : ℕ) → AreInstructions (item_code t i id temp).instructions
item_spelled t (Number n) id temp = tt
item_spelled t X id temp = are_instructions (component_code t 0 0 id temp).instructions refl

plus_spelled : (t : Tables) (f : ℕ → ℕ → Code) (i : Item) → ((id temp : ℕ) → AreInstructions (f id temp).instructions) → (id temp : ℕ) → AreInstructions (plus_item t f i id temp).instructions
plus_spelled t f i h id temp =
    let a = f id temp in
    let b = item_code t i a.id a.temp in
    joined (a.instructions ++ b.instructions) (ins IAdd (t.word ∷ b.id ∷ a.value ∷ b.value ∷ []) ∷ [])
    (joined a.instructions b.instructions (h id temp) (item_spelled t i a.id a.temp)) (are_instructions (ins IAdd (t.word ∷ b.id ∷ a.value ∷ b.value ∷ []) ∷ []) refl)

more_spelled : (t : Tables) (f : ℕ → ℕ → Code) (is : List Item) → ((id temp : ℕ) → AreInstructions (f id temp).instructions) → (id temp : ℕ) → AreInstructions (more_code t f is id temp).instructions
more_spelled t f [] h id temp = h id temp
more_spelled t f (i ∷ is) h id temp =
    more_spelled t (plus_item t f i) is (plus_spelled t f i h) id temp

sum_spelled : (t : Tables) (s : Sum) (id temp : ℕ) → AreInstructions (sum_code t s id temp).instructions
sum_spelled t s = more_spelled t (item_code t s.first) s.rest (item_spelled t s.first)

statement_spelled : (t : Tables) (s : Statement) (id temp : ℕ) → AreInstructions (statement_code t s id temp).instructions
statement_spelled t s id temp =
    let a = sum_code t s.index id temp in
    let b = sum_code t s.value a.id a.temp in
    let write = ins AccessChain (t.cell_pointer ∷ b.id ∷ t.buffer ∷ t.constant 0 ∷ a.value ∷ []) ∷ ins Store (b.id ∷ b.value ∷ []) ∷ [] in
    joined (a.instructions ++ b.instructions) write
    (joined a.instructions b.instructions (sum_spelled t s.index id temp) (sum_spelled t s.value a.id a.temp)) (are_instructions write refl)

statements_spelled : (t : Tables) (ss : List Statement) (id temp : ℕ) → AreInstructions (statements_code t ss id temp).instructions
statements_spelled t [] id temp = tt
statements_spelled t (s ∷ ss) id temp =
    let a = statement_code t s id temp in
    joined a.instructions (statements_code t ss a.id a.temp).instructions (statement_spelled t s id temp) (statements_spelled t ss a.id a.temp)

-- ids only grow
item_grows : (t : Tables) (i : Item) (id temp : ℕ) → id ≤ (item_code t i id temp).id
item_grows t (Number n) id temp = omega arith
item_grows t X id temp = omega arith

more_grows : (t : Tables) (f : ℕ → ℕ → Code) (is : List Item) → ((id temp : ℕ) → id ≤ (f id temp).id) → (id temp : ℕ) → id ≤ (more_code t f is id temp).id
more_grows t f [] h id temp = h id temp
more_grows t f (i ∷ is) h id temp =
    more_grows t (plus_item t f i) is (λ id temp. omega (arith, h id temp, item_grows t i (f id temp).id (f id temp).temp)) id temp

sum_grows : (t : Tables) (s : Sum) (id temp : ℕ) → id ≤ (sum_code t s id temp).id
sum_grows t s = more_grows t (item_code t s.first) s.rest (item_grows t s.first)

statements_grow : (t : Tables) (ss : List Statement) (id temp : ℕ) → id ≤ (statements_code t ss id temp).id
statements_grow t [] id temp = omega arith
statements_grow t (s ∷ ss) id temp =
    let a = sum_code t s.index id temp in
    let b = sum_code t s.value a.id a.temp in
    omega (arith, sum_grows t s.index id temp, sum_grows t s.value a.id a.temp, statements_grow t ss (b.id + 1) b.temp)

-- ---- sections

constants_spelled : (id : ℕ) (ks : List ℕ) → AreInstructions (constants_code id ks)
constants_spelled id [] = tt
constants_spelled id (k ∷ ks) = ((are_instructions (ins Constant (4 ∷ id ∷ k ∷ []) ∷ []) refl).0, constants_spelled (id + 1) ks)

-- what is known of strings
pub record Strings : Type 0 where
  pub read : (bytes rest : List ℕ) → IsText bytes → after_string (string_words bytes ++ rest) ≡ Some rest
  pub short : (bytes : List ℕ) → 4 * length (string_words bytes) ≤ length bytes + 4

text_joined : (a b : List ℕ) → IsText a → IsText b → IsText (a ++ b)
text_joined [] b p q = q
text_joined (x ∷ a) b p q = (p.0, p.1, text_joined a b p.2 q)

word_byte : (b : ℕ) → is_word_byte b ≡ true → (0 < b) × (b < 256)
word_byte b e = (grind (arith, nat_tests), grind (arith, nat_tests))

word_text : (bs : List ℕ) → list_all is_word_byte bs ≡ true → IsText bs
word_text [] e = tt
word_text (b ∷ bs) e =
    let p = both _ _ e in
    let q = word_byte b p.0 in
    (q.0, q.1, word_text bs p.1)

name_text : (bs : List ℕ) → is_name bs ≡ true → IsText bs
name_text [] e = tt
name_text (b ∷ bs) e =
    let p = both _ _ e in
    let q = word_byte b (ap (λ x. x || is_digit b) p.0) in
    (q.0, q.1, word_text bs p.1)

-- the bytes of a name, of which there are few
pub free_name : (bs : List ℕ) → IsTrue (is_free_name bs) → IsText bs × (length bs ≤ 64)
free_name bs h =
    let p = both _ _ h in
    let q = both _ _ p.0 in
    (name_text bs q.0, leb-true _ _ q.1)

group_fits : (g : GroupSize) → IsGroup g → is_group g.x g.y g.z ≡ true
group_fits g h =
    let a = le-leb 1 g.x h.some_x in
    let b = le-leb g.x 1024 h.most_x in
    let c = le-leb 1 g.y h.some_y in
    let d = le-leb g.y 1024 h.most_y in
    let e = le-leb 1 g.z h.some_z in
    let f = le-leb g.z 64 h.most_z in
    let i = le-leb (g.x * g.y * g.z) 1024 h.most in
    rw (a, b, c, d, e, f, i)

entry_point_spelled : (s : Strings) (e b : ℕ) (name : List ℕ) → IsText name → length name ≤ 64 → IsInstruction (ins EntryPoint (5 ∷ e ∷ (string_words name ++ b ∷ (b + 1) ∷ [])))
entry_point_spelled s e b name text few = record {
  layout = ap has_string (s.read name (b ∷ (b + 1) ∷ []) text);
  short = omega (arith, length-append (string_words name) (b ∷ (b + 1) ∷ []), s.short name);
}

name_spelled : (s : Strings) (id : ℕ) (name : List ℕ) → IsText name → length name ≤ 200 → IsInstruction (ins Name (id ∷ string_words name))
name_spelled s id name text few = record {
  layout = ap is_string (ap after_string (sym (append-nil (string_words name))) ∙ s.read name [] text);
  short = omega (arith, s.short name);
}

mode_spelled : (e : ℕ) (g : GroupSize) → IsGroup g → IsInstruction (ins ExecutionMode (e ∷ 17 ∷ g.x ∷ g.y ∷ g.z ∷ []))
mode_spelled e g h = record { layout = group_fits g h; short = lit< tt }

qualified_text : (home name : List ℕ) → IsText home → IsText name → IsText (qualified home name)
qualified_text home name a b = text_joined home (46 ∷ name) a (lit< tt, lit< tt, b)

preamble_spelled : (s : Strings) (home : List ℕ) (p : Shader) → IsText home → length home ≤ 64 → IsShader p → AreInstructions (preamble home p)
preamble_spelled s home p text few h =
    let entry = free_name p.entry h.entry in
    let buffer = free_name p.buffer h.buffer in
    let b = buffer_id p in
    let e = entry_id p in (
      entry_point_spelled s e b p.entry entry.0 entry.1,
      (
        mode_spelled e p.group h.group,
        (
          name_spelled s b (qualified home p.buffer) (qualified_text home p.buffer text buffer.0) (omega (arith, length-append home (46 ∷ p.buffer))),
          (
            name_spelled s e (qualified home p.entry) (qualified_text home p.entry text entry.0) (omega (arith, length-append home (46 ∷ p.entry))),
            are_instructions (decorations (array_id p) b) refl,
          ),
        ),
      ),
    )

entry_spelled : (p : Shader) → AreInstructions (entry_code p)
entry_spelled p =
    let body = statements_spelled (tables p) p.statements (entry_id p + 4) 0 in
    let a = are_instructions (entry_start (pointers_id p) (buffer_id p) (entry_id p)) refl in
    (a.0, (a.1.0, (a.1.1.0, (a.1.1.1.0, (a.1.1.1.1.0, joined (statements_code (tables p) p.statements (entry_id p + 4) 0).instructions entry_end body (are_instructions entry_end refl))))))

-- the sections between the preamble and the entry
declared_spelled : (p : Shader) → AreInstructions (plain_types ++ (constants_code 13 (constants p) ++ (buffer_types (array_id p) ++ (pointer_types (pointers_id p) ++ (more_types (array_id p) (pointers_id p) ++ (nulls (nulls_id p) ++ (variables (pointers_id p) (buffer_id p) ++ entry_code p)))))))
declared_spelled p =
    let a = array_id p in
    let n = pointers_id p in
    let k = nulls_id p in
    let l1 = entry_code p in
    let l2 = variables n (buffer_id p) ++ l1 in
    let l3 = nulls k ++ l2 in
    let l4 = more_types a n ++ l3 in
    let l5 = pointer_types n ++ l4 in
    let l6 = buffer_types a ++ l5 in
    let l7 = constants_code 13 (constants p) ++ l6 in
    joined plain_types l7 (are_instructions plain_types refl) (joined (constants_code 13 (constants p)) l6 (constants_spelled 13 (constants p))
    (joined (buffer_types a) l5 (are_instructions (buffer_types a) refl) (joined (pointer_types n) l4 (are_instructions (pointer_types n) refl)
    (joined (more_types a n) l3 (are_instructions (more_types a n) refl) (joined (nulls k) l2 (are_instructions (nulls k) refl)
    (joined (variables n (buffer_id p)) l1 (are_instructions (variables n (buffer_id p)) refl) (entry_spelled p)))))))

pub image_spelled : (s : Strings) (home : List ℕ) (p : Shader) → IsText home → length home ≤ 64 → IsShader p → CanBeSpelled (image_of home p)
image_spelled s home p text few h =
    let rest = plain_types ++ (constants_code 13 (constants p) ++ (buffer_types (array_id p) ++ (pointer_types (pointers_id p) ++ (more_types (array_id p) (pointers_id p) ++ (nulls (nulls_id p) ++ (variables (pointers_id p) (buffer_id p) ++ entry_code p)))))) in
    record {
      bound = λ e. absurd (omega (arith, e, statements_grow (tables p) p.statements (entry_id p + 4) 0));
      instructions = joined beginning (preamble home p ++ rest) (are_instructions beginning refl) (joined (preamble home p) rest (preamble_spelled s home p text few h) (declared_spelled p));
    }
