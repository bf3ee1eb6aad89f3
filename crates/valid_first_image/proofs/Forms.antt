-- The instructions of the statements of a shader, with what is known of the ids that each names.
use Rattle.std.proofs.Common.{◌≡◌, ℕ, ◌+◌, ◌<◌, ◌≤◌, true, List, [], ◌∷◌, ◌++◌, length, refl, arith, length-append}
use Rattle.std.specs.Prelude.{slice_index}
use Rattle.spirv_words.specs.declared.opcodes.Op.TheVariants.{AccessChain, Load, IAdd, Store}
use Rattle.spirv_words.specs.declared.images.Instruction.{Instruction}
use Rattle.image_lookup.specs.Sorts.{sort_of, is_value_sort}
use Rattle.first_form.specs.declared.shader.Shader.{Shader}
use Rattle.first_form.specs.declared.shader.Statement.{Statement}
use Rattle.first_form.specs.declared.shader.Sum.{Sum}
use Rattle.first_form.specs.declared.shader.Item.{Item}
use Rattle.first_form.specs.declared.shader.Item.TheVariants.{Number, X}
use Rattle.first_image.specs.Templates.{ins, Tables, Code, item_code, more_code, sum_code, statement_code, statements_code}
use Rattle.first_image.specs.Image.{tables}
use Rattle.first_image.proofs.Lists.{contains}
use Rattle.first_image.proofs.Exprs.{ItemUsed, ItemsUsed, SumUsed}
use Rattle.first_image.proofs.Stmts.{StatementUsed, StatementsUsed}
use Rattle.first_image.proofs.Constants.{statements_used}
use Rattle.first_image.proofs.BodyCode.{plus_item}
use Rattle.valid_first_image.proofs.Walks.{AllAt, all_on, all_front, all_back}
use Rattle.valid_first_image.proofs.Sections.{ks, e, body, after_place, body_place}
use Rattle.valid_first_image.proofs.Definitions.{Def, Uses, Inside, At, uses_type, uses_inside, constant_defined, constant_before, body_at}

module _ (home : List ℕ) (p : Shader) where
  abbrev t : Tables
  t = tables p

  abbrev pub used : ℕ → Type 0
  used c = contains c (ks home p) ≡ true

  -- a value of a type that may be used in the entry's block from a place on
  pub record IsValue (h x type : ℕ) : Type 0 where
    pub place : ℕ
    pub by : Instruction
    pub is_defined : Def home p x place by
    pub before : place < h
    pub value : is_value_sort (sort_of by.op) ≡ true
    pub typed : slice_index by.operands 0 ≡ type
    pub usable : (m : ℕ) → Inside home p m → place < m → Uses home p m x

  -- what an instruction of a statement is
  pub data Form (h : ℕ) (i : Instruction) : Type 0 where
    component : (id : ℕ) → i ≡ ins AccessChain (t.word_pointer ∷ id ∷ t.pointer 0 ∷ t.constant 0 ∷ []) → used 0 → Form h i
    loading : (id q : ℕ) → i ≡ ins Load (t.word ∷ id ∷ q ∷ []) → IsValue h q t.word_pointer → Form h i
    adding : (id l r : ℕ) → i ≡ ins IAdd (t.word ∷ id ∷ l ∷ r ∷ []) → IsValue h l t.word → IsValue h r t.word → Form h i
    cell : (id x : ℕ) → i ≡ ins AccessChain (t.cell_pointer ∷ id ∷ t.buffer ∷ t.constant 0 ∷ x ∷ []) → used 0 → IsValue h x t.word → Form h i
    storing : (q v : ℕ) → i ≡ ins Store (q ∷ v ∷ []) → IsValue h q t.cell_pointer → IsValue h v t.word → Form h i

  later : (h m x type : ℕ) → h ≤ m → IsValue h x type → IsValue m x type
  later h m x type le v = record { place = v.place; by = v.by; is_defined = v.is_defined; before = omega (arith, v.before); value = v.value; typed = v.typed; usable = v.usable }

  constant_value : (c h : ℕ) → used c → after_place home p ≤ h → IsValue h (t.constant c) 4
  constant_value c h u le = record {
    place = _;
    by = _;
    is_defined = constant_defined home p c u;
    before = omega (arith, constant_before home p c u);
    value = refl;
    typed = refl;
    usable = λ m inside lt. uses_type home p m _ _ _ (constant_defined home p c u) refl lt;
  }

  -- the result of an instruction of the block
  result_value : (h x type : ℕ) (i : Instruction) → Def home p x h i → Inside home p h → is_value_sort (sort_of i.op) ≡ true → slice_index i.operands 0 ≡ type → IsValue (h + 1) x type
  result_value h x type i d u v e = record {
    place = h;
    by = i;
    is_defined = d;
    before = omega arith;
    value = v;
    typed = e;
    usable = λ m inside lt. uses_inside home p m x h i d u inside lt;
  }

  -- code whose instructions have these forms, and which makes a value
  record Gives (h : ℕ) (c : Code) : Type 0 where
    forms : AllAt Form h c.instructions
    gives : IsValue (h + length c.instructions) c.value 4

  abbrev IsExpression : (ℕ → ℕ → Code) → Type 0
  IsExpression f = (h id temp : ℕ) → after_place home p ≤ h → At home p h (f id temp).instructions → Gives h (f id temp)

  item_gives : (i : Item) → ItemUsed (λ c. contains c (ks home p)) i → IsExpression (item_code t i)
  item_gives (Number c) u h id temp le at = record { forms = tt; gives = constant_value c (h + 0) u (omega arith) }
  item_gives X u h id temp le at =
      let pointer : IsValue (h + 1) id t.word_pointer = result_value h id t.word_pointer _ (record { stands = at.0.0; result = refl }) at.0.1 refl refl in
      let word : IsValue (h + 1 + 1) (id + 1) 4 = result_value (h + 1) (id + 1) 4 _ (record { stands = at.1.0.0; result = refl }) at.1.0.1 refl refl in
      record { forms = (component id refl u, (loading (id + 1) id refl pointer, tt)); gives = later (h + 1 + 1) (h + 2) (id + 1) 4 (omega arith) word }

  plus_gives : (f : ℕ → ℕ → Code) (i : Item) → IsExpression f → ItemUsed (λ c. contains c (ks home p)) i → IsExpression (plus_item t f i)
  plus_gives f i hf u h id temp le at =
      let c = f id temp in
      let d = item_code t i c.id c.temp in
      let both = c.instructions ++ d.instructions in
      let sum = ins IAdd (4 ∷ d.id ∷ c.value ∷ d.value ∷ []) in
      let at_both = all_front _ both (sum ∷ []) h at in
      let at_sum = all_back _ both (sum ∷ []) h at in
      let first = hf h id temp le (all_front _ c.instructions d.instructions h at_both) in
      let second = item_gives i u (h + length c.instructions) c.id c.temp (omega arith) (all_back _ c.instructions d.instructions h at_both) in
      let m : ℕ = h + length both in
      let e : m ≡ h + length c.instructions + length d.instructions = omega (arith, length-append c.instructions d.instructions) in
      let left : IsValue m c.value 4 = later (h + length c.instructions) m c.value 4 (omega arith) first.gives in
      let right : IsValue m d.value 4 = later (h + length c.instructions + length d.instructions) m d.value 4 (omega arith) second.gives in
      let value : IsValue (m + 1) d.id 4 = result_value m d.id 4 sum (record { stands = at_sum.0.0; result = refl }) at_sum.0.1 refl refl in
      record {
        forms = all_on Form both (sum ∷ []) h (all_on Form c.instructions d.instructions h first.forms second.forms) (adding d.id c.value d.value refl left right, tt);
        gives = later (m + 1) (h + length (both ++ sum ∷ [])) d.id 4 (omega (arith, length-append both (sum ∷ []))) value;
      }

  more_gives : (f : ℕ → ℕ → Code) (is : List Item) → IsExpression f → ItemsUsed (λ c. contains c (ks home p)) is → IsExpression (more_code t f is)
  more_gives f [] hf u = hf
  more_gives f (i ∷ is) hf u = more_gives (plus_item t f i) is (plus_gives f i hf u.0) u.1

  sum_gives : (s : Sum) → SumUsed (λ c. contains c (ks home p)) s → IsExpression (sum_code t s)
  sum_gives s u = more_gives (item_code t s.first) s.rest (item_gives s.first u.0) u.1

  statement_forms : (s : Statement) (h id temp : ℕ) → StatementUsed (λ c. contains c (ks home p)) s → after_place home p ≤ h
      → At home p h (statement_code t s id temp).instructions → AllAt Form h (statement_code t s id temp).instructions
  statement_forms s h id temp u le at =
      let c = sum_code t s.index id temp in
      let d = sum_code t s.value c.id c.temp in
      let both = c.instructions ++ d.instructions in
      let chain = ins AccessChain (t.cell_pointer ∷ d.id ∷ t.buffer ∷ t.constant 0 ∷ c.value ∷ []) in
      let store = ins Store (d.id ∷ d.value ∷ []) in
      let write = chain ∷ store ∷ [] in
      let at_both = all_front _ both write h at in
      let at_write = all_back _ both write h at in
      let first = sum_gives s.index u.1 h id temp le (all_front _ c.instructions d.instructions h at_both) in
      let second = sum_gives s.value u.2 (h + length c.instructions) c.id c.temp (omega arith) (all_back _ c.instructions d.instructions h at_both) in
      let m : ℕ = h + length both in
      let e : m ≡ h + length c.instructions + length d.instructions = omega (arith, length-append c.instructions d.instructions) in
      let index : IsValue m c.value 4 = later (h + length c.instructions) m c.value 4 (omega arith) first.gives in
      let value : IsValue (m + 1) d.value 4 = later (h + length c.instructions + length d.instructions) (m + 1) d.value 4 (omega arith) second.gives in
      let pointer : IsValue (m + 1) d.id t.cell_pointer = result_value m d.id t.cell_pointer chain (record { stands = at_write.0.0; result = refl }) at_write.0.1 refl refl in
      all_on Form both write h (all_on Form c.instructions d.instructions h first.forms second.forms)
      (cell d.id c.value refl u.0 index, (storing d.id d.value refl pointer value, tt))

  statements_forms : (ss : List Statement) (h id temp : ℕ) → StatementsUsed (λ c. contains c (ks home p)) ss → after_place home p ≤ h
      → At home p h (statements_code t ss id temp).instructions → AllAt Form h (statements_code t ss id temp).instructions
  statements_forms [] h id temp u le at = tt
  statements_forms (s ∷ ss) h id temp u le at =
      let c = statement_code t s id temp in
      let d = statements_code t ss c.id c.temp in
      all_on Form c.instructions d.instructions h
      (statement_forms s h id temp u.0 le (all_front _ c.instructions d.instructions h at))
      (statements_forms ss (h + length c.instructions) c.id c.temp u.1 (omega arith) (all_back _ c.instructions d.instructions h at))

  pub body_forms : AllAt Form (body_place home p) (body home p).instructions
  body_forms =
      statements_forms p.statements (body_place home p) (e home p + 4) 0 (statements_used (λ c. contains c (ks home p)) p.statements [] (λ c h. h)) (omega arith) (body_at home p)
