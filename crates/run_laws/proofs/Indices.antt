-- The indices of a chain among the words, and the items that they are planned as.
use Rattle.std.proofs.Common.{◌≡◌, ℕ, zero, suc, ◌+◌, ◌-◌, ◌^◌, ◌<◌, ◌≤◌, min, Bool, true, false, ◌&&◌, ◌||◌, cond, nat_eq, nat_lt, List, [], ◌∷◌, length, get_or, Option, Some, None, slice_get, slice_index, refl, sym, ap, subst, ◌∙◌, add-one, arith}
use Rattle.std.proofs.lemmas.Bool.{and_parts, leb-true, false_from_ne_true}
use Rattle.behavior.specs.Values.{Word}
use Rattle.behavior.specs.Meanings.{Ids}
use Rattle.behavior.specs.Operations.{is_negative}
use Rattle.spirv_words.specs.declared.images.Instruction.{Instruction}
use Rattle.spirv_words.specs.Machine.{Shape, Shapes, Repeated, Unbounded, Fields, NoField, Field, Operand, Plain, if_some, or_zero}
use Rattle.spirv_words.specs.Step.{State, Turn, IsUndefined, field_at, with_indices, with_word}
use Rattle.spirv_words.specs.Runs.{setting, signed}
use Rattle.flat_values.specs.Flat.{IsData, AreData, width}
use Rattle.flat_values.specs.Pieces.{At, member}
use Rattle.flat_values.specs.Ranges.{Stands}
use Rattle.flat_values.proofs.Standing.{stands_at}
use Rattle.run_actions.specs.declared.actions.Index.{Index}
use Rattle.run_actions.specs.declared.turns.Followed.TheVariants.{To, Beyond}
use Rattle.run_actions.specs.Chains.{moved_on, all_chosen, distance}
use Rattle.action_laws.proofs.Acts.{first_word}
use Rattle.action_laws.specs.Paths.{Item, Member, Slot, Planned, Plan, NoPlan, moved, stepped, on_piece, plan, path_of, some_negative, AreThere}
use Rattle.image_lookup.specs.declared.sorts.Sort.{Sort}
use Rattle.image_lookup.specs.declared.sorts.Sort.TheVariants.{VectorType, ArrayType, RuntimeArrayType, StructType}
use Rattle.image_lookup.specs.Lookups.{sort, operands, operand, is_value}
use Rattle.image_declarations.specs.Decorations.{stride_of}
use Rattle.image_declarations.specs.Types.{length_of}
use Rattle.image_operands.specs.Operators.{is_int}
use Rattle.image_operands.specs.Memory.{is_index, constant_number, member_at, part_by, part_at, chain_end}
use Rattle.image_types.specs.Functions.{is_void}
use Rattle.image_facts.specs.Operands.{globals_of, shape, type_id}
use Rattle.typed_runs.proofs.Types.{of_int}
use Rattle.typed_runs.proofs.Going.{AreSeen}
use Rattle.typed_runs.proofs.Operands.{word_seen}
use Rattle.typed_runs.proofs.Paths.{member_is}
use Rattle.run_rooms.specs.Rooms.{Rooms}
use Rattle.run_plans.specs.Actions.{slot_item, items}
use Rattle.run_laws.specs.Together.{Together}
use Rattle.run_laws.proofs.Writing.{Setup}

-- an offset is told as far as a word tells: no place is behind the last one
pub as_far : (ws : List ℕ) (words : ℕ) (steps : List Index) (from offset : ℕ) → moved_on ws words steps from (min offset (2 ^ 32 - 1)) ≡ moved_on ws words steps from offset
as_far ws words steps from offset =
    ap (λ place. cond (all_chosen ws words steps) (To place) Beyond) (cut from offset (distance ws steps))
  where
    cut : (a b c : ℕ) → min (a + min b (2 ^ 32 - 1) + c) (2 ^ 32 - 1) ≡ min (a + b + c) (2 ^ 32 - 1)
    cut a b c = omega arith

-- ---- small parts

some_is : {A : Type 0} {a b : A} → Some a ≡ Some b → a ≡ b
some_is e = cc

-- a choice that is there was made
chosen : {A : Type 0} (b : Bool) (o : Option A) (a : A) → cond b o None ≡ Some a → (b ≡ true) × (o ≡ Some a)
chosen true o a e = (refl, e)
chosen false o a e = cc

found : {A B : Type 0} (o : Option A) (go : A → Option B) (b : B) → if_some o None go ≡ Some b → (a : A) × (o ≡ Some a) × (go a ≡ Some b)
found (Some a) go b e = (a, refl, e)
found None go b e = cc

there_length : (os : List ℕ) (n m : ℕ) → slice_get os n ≡ Some m → n < length os
there_length (x ∷ xs) zero m e = omega arith
there_length (x ∷ xs) (suc n) m e = let h = there_length xs n m e in omega arith
there_length [] n m e = cc

-- ---- indices that stand for words

-- an index stands for a word, which stands where it is looked for; where it has a number, for that one
pub record IsIndex (code : List Instruction) (L : Rooms) (s : State) (ws : List ℕ) (i w : ℕ) : Type 0 where
  pub is : s.ids i ≡ Some (Plain (Word w))
  pub stands : Stands (w ∷ []) (L.slot i) ws
  pub number : (n : ℕ) → constant_number code i ≡ Some n → w ≡ n

abbrev pub AreIndices : List Instruction → Rooms → State → List ℕ → List ℕ → List ℕ → Type 0
AreIndices code L s ws [] [] = Unit {0}
AreIndices code L s ws (i ∷ is) (w ∷ path) = IsIndex code L s ws i w × AreIndices code L s ws is path
AreIndices code L s ws is path = ⊥

-- an int below 0 is among them
abbrev pub some_below : List Instruction → List ℕ → List ℕ → Bool
some_below code [] path = false
some_below code (i ∷ is) [] = false
some_below code (i ∷ is) (w ∷ path) = (signed code (globals_of code) i && is_negative w) || some_below code is path

cond_or : {A : Type 0} (a b : Bool) (x y : A) → cond a x (cond b x y) ≡ cond (a || b) x y
cond_or true b x y = refl
cond_or false b x y = refl

-- with the numbers that they stand for the step goes on, but where one is below 0
pub indices_are : (code : List Instruction) (L : Rooms) (ids : Ids) (lengths : ℕ → ℕ → ℕ) (s : State) (ws is path : List ℕ) (go : List ℕ → Turn)
    → AreIndices code L s ws is path
    → with_indices (setting code ids lengths) s.ids is go ≡ cond (some_below code is path) IsUndefined (go path)
indices_are code L ids lengths s ws [] [] go h = refl
indices_are code L ids lengths s ws (i ∷ is) (w ∷ path) go h =
    ap (λ o. with_word o (λ v. cond (signed code (globals_of code) i && is_negative v) IsUndefined (with_indices (setting code ids lengths) s.ids is (λ vs. go (v ∷ vs))))) h.0.is
    ∙ (ap (λ t. cond (signed code (globals_of code) i && is_negative w) IsUndefined t) (indices_are code L ids lengths s ws is path (λ vs. go (w ∷ vs)) h.1)
    ∙ cond_or (signed code (globals_of code) i && is_negative w) (some_below code is path) IsUndefined (go (w ∷ path)))
indices_are code L ids lengths s ws [] (w ∷ path) go h = absurd h
indices_are code L ids lengths s ws (i ∷ is) [] go h = absurd h

module _ (code : List Instruction) (L : Rooms) (ids : Ids) (lengths : ℕ → ℕ → ℕ) (counts : List ℕ) (m : Setup code L lengths counts) where
  its_number : (s : State) (ws : List ℕ) (i w : ℕ) → Together code L ids lengths s s.place ws → s.ids i ≡ Some (Plain (Word w)) → is_index code i ≡ true
      → (n : ℕ) → constant_number code i ≡ Some n → w ≡ n
  its_number s ws i w t e x n c =
      let both = and_parts (is_value code i) (is_int code (operand code i 0)) x in
      let k = m.known.facts.constant i n both.0 c both.1 in
      let f : Some (Plain (Word w)) ≡ Some (Plain (Word n)) = sym e ∙ (t.typed.declared i k.0 ∙ k.1) in
      cc

  pub indices_there : (s : State) (ws is : List ℕ) → Together code L ids lengths s s.place ws → AreSeen code s.place is
      → ((j i : ℕ) → slice_get is j ≡ Some i → is_index code i ≡ true) → (path : List ℕ) × AreIndices code L s ws is path
  indices_there s ws [] t q x = ([], tt)
  indices_there s ws (i ∷ is) t q x =
      let h = x 0 i refl in
      let both = and_parts (is_value code i) (is_int code (operand code i 0)) h in
      let seen = q 0 i refl both.0 in
      let w = word_seen code m.known.facts s i (operand code i 0) t.typed seen refl both.1 in
      let n : is_void code (type_id code i) ≡ false = m.known.facts.not_void (type_id code i) (m.known.facts.int_data (type_id code i) (of_int (sort code (type_id code i)) both.1)) in
      let l = t.laid i (Plain (Word w.0)) seen n w.1 in
      let r = indices_there s ws is t (λ j y e v. q (suc j) y e v) (λ j y e. x (suc j) y e) in
      (w.0 ∷ r.0, (record { is = w.1; stands = l.1; number = its_number s ws i w.0 t w.1 h }, r.1))

-- ---- how they walk along a shape

-- a walk down a shape: members by constants, elements by words
pub data Walk (code : List Instruction) (L : Rooms) (ws : List ℕ) : Shape → List ℕ → List ℕ → Type 0 where
  Stops : (s : Shape) → Walk code L ws s [] []
  ToMember : (fs : Shapes) (i w offset : ℕ) (of : Shape) (is path : List ℕ) → constant_number code i ≡ Some w → field_at fs w ≡ Some (offset, of)
      → w < 65535 → Walk code L ws of is path → Walk code L ws (Fields fs) (i ∷ is) (w ∷ path)
  ToElement : (count stride : ℕ) (of : Shape) (i w : ℕ) (is path : List ℕ) → Stands (w ∷ []) (L.slot i) ws → Walk code L ws of is path
      → Walk code L ws (Repeated count stride of) (i ∷ is) (w ∷ path)
  ToItem : (stride : ℕ) (of : Shape) (i w : ℕ) (is path : List ℕ) → Stands (w ∷ []) (L.slot i) ws → Walk code L ws of is path
      → Walk code L ws (Unbounded stride of) (i ∷ is) (w ∷ path)

module _ (code : List Instruction) (L : Rooms) (ids : Ids) (lengths : ℕ → ℕ → ℕ) (counts : List ℕ) (m : Setup code L lengths counts) where
  step_walks : (s : State) (ws : List ℕ) (t i w p : ℕ) (form : Shape) (is path : List ℕ) (k : Sort) → sort code t ≡ k → shape code t ≡ Some form
      → IsIndex code L s ws i w → part_by code k t (constant_number code i) ≡ Some p
      → ((of : Shape) → shape code p ≡ Some of → Walk code L ws of is path) → Walk code L ws form (i ∷ is) (w ∷ path)
  step_walks s ws t i w p form is path VectorType k e x h go =
      let r = m.known.facts.shape_vector t k in
      subst (λ (y : Shape). Walk code L ws y (i ∷ is) (w ∷ path)) (some_is (sym r.whole ∙ e))
      (ToElement (operand code t 2) 4 r.of i w is path x.stands (go r.of (ap (shape code) (sym (some_is h)) ∙ r.element)))
  step_walks s ws t i w p form is path ArrayType k e x h go =
      let r = m.known.facts.shape_array t k in
      subst (λ (y : Shape). Walk code L ws y (i ∷ is) (w ∷ path)) (some_is (sym r.whole ∙ e))
      (ToElement (length_of code (operand code t 2)) (stride_of code t) r.of i w is path x.stands (go r.of (ap (shape code) (sym (some_is h)) ∙ r.element)))
  step_walks s ws t i w p form is path RuntimeArrayType k e x h go =
      let r = m.known.facts.shape_runtime t k in
      subst (λ (y : Shape). Walk code L ws y (i ∷ is) (w ∷ path)) (some_is (sym r.whole ∙ e))
      (ToItem (stride_of code t) r.of i w is path x.stands (go r.of (ap (shape code) (sym (some_is h)) ∙ r.element)))
  step_walks s ws t i w p form is path StructType k e x h go =
      let f = m.known.facts.shape_struct t k in
      let n = found (constant_number code i) (λ n. member_at code t n) p h in
      let z = x.number n.0 n.1 in
      let there : member_at code t w ≡ Some p = ap (member_at code t) z ∙ n.2 in
      let r = member_is code t w p 0 f there in
      let short = m.known.short t in
      let small : w < 65535 = omega (arith, there_length (operands code t) (w + 1) p there) in
      subst (λ (y : Shape). Walk code L ws y (i ∷ is) (w ∷ path)) (some_is (sym f.whole ∙ e))
      (ToMember f.fields i w r.offset r.of is path (n.1 ∙ ap (λ y. Some y) (sym z)) r.field small (go r.of r.is))
  step_walks s ws t i w p form is path k' k e x h go = cc

  pub walks : (s : State) (ws is path : List ℕ) (t u : ℕ) (form : Shape) → AreIndices code L s ws is path → chain_end code t is ≡ Some u
      → shape code t ≡ Some form → Walk code L ws form is path
  unfolding part_at
  walks s ws [] [] t u form a h e = Stops form
  walks s ws (i ∷ is) (w ∷ path) t u form a h e =
      let f = found (part_at code t i) (λ part. chain_end code part is) u h in
      let c = chosen (is_index code i) (part_by code (sort code t) t (constant_number code i)) f.0 f.1 in
      step_walks s ws t i w f.0 form is path (sort code t) refl e a.0 c.1 (λ of g. walks s ws is path f.0 u of a.1 f.2 g)
  walks s ws [] (w ∷ path) t u form a h e = absurd a
  walks s ws (i ∷ is) [] t u form a h e = absurd a

-- ---- what the items of a walk say

pub items_member : (code : List Instruction) (L : Rooms) (fs : Shapes) (i w offset : ℕ) (of : Shape) (is : List ℕ) → constant_number code i ≡ Some w
    → field_at fs w ≡ Some (offset, of) → items code L (Fields fs) (i ∷ is) ≡ Member w ∷ items code L of is
items_member code L fs i w offset of is c f =
    ap (λ o. if_some (field_at fs (or_zero o)) (Member (or_zero o) ∷ []) (λ g. Member (or_zero o) ∷ items code L g.1 is)) c
    ∙ ap (λ o. if_some o (Member w ∷ []) (λ g. Member w ∷ items code L g.1 is)) f

and_false : (b : Bool) → (b && false) ≡ false
and_false true = refl
and_false false = refl

not_negative : (w : ℕ) → w < 65535 → is_negative w ≡ false
not_negative w h = false_from_ne_true (is_negative w) (λ e. absurd (omega (arith, leb-true (2 ^ 31) w e)))

module _ (code : List Instruction) (L : Rooms) (ws : List ℕ) where
  pub path_is : (form : Shape) (is path : List ℕ) → Walk code L ws form is path → path_of ws (items code L form is) ≡ path
  path_is form is path (Stops s) = refl
  path_is form is path (ToMember fs i w offset of is' path' c f small walk) =
      ap (path_of ws) (items_member code L fs i w offset of is' c f) ∙ ap (λ p. w ∷ p) (path_is of is' path' walk)
  path_is form is path (ToElement count stride of i w is' path' s walk) =
      let v = (first_word w [] (L.slot i) ws s).1 in
      ap (λ x. x ∷ path_of ws (items code L of is')) v ∙ ap (λ p. w ∷ p) (path_is of is' path' walk)
  path_is form is path (ToItem stride of i w is' path' s walk) =
      let v = (first_word w [] (L.slot i) ws s).1 in
      ap (λ x. x ∷ path_of ws (items code L of is')) v ∙ ap (λ p. w ∷ p) (path_is of is' path' walk)

  pub negative_is : (form : Shape) (is path : List ℕ) → Walk code L ws form is path
      → some_negative ws (items code L form is) ≡ some_below code is path
  negative_is form is path (Stops s) = refl
  negative_is form is path (ToMember fs i w offset of is' path' c f small walk) =
      ap (some_negative ws) (items_member code L fs i w offset of is' c f)
      ∙ (negative_is of is' path' walk
      ∙ ap (λ b. b || some_below code is' path') (sym (ap (λ b. signed code (globals_of code) i && b) (not_negative w small) ∙ and_false (signed code (globals_of code) i))))
  negative_is form is path (ToElement count stride of i w is' path' s walk) =
      let v = (first_word w [] (L.slot i) ws s).1 in
      ap (λ x. (signed code (globals_of code) i && is_negative x) || some_negative ws (items code L of is')) v
      ∙ ap (λ b. (signed code (globals_of code) i && is_negative w) || b) (negative_is of is' path' walk)
  negative_is form is path (ToItem stride of i w is' path' s walk) =
      let v = (first_word w [] (L.slot i) ws s).1 in
      ap (λ x. (signed code (globals_of code) i && is_negative x) || some_negative ws (items code L of is')) v
      ∙ ap (λ b. (signed code (globals_of code) i && is_negative w) || b) (negative_is of is' path' walk)

  pub items_there : (form : Shape) (is path : List ℕ) → Walk code L ws form is path → AreThere ws (items code L form is)
  items_there form is path (Stops s) = tt
  items_there form is path (ToMember fs i w offset of is' path' c f small walk) =
      subst (λ (x : List Item). AreThere ws x) (sym (items_member code L fs i w offset of is' c f)) (items_there of is' path' walk)
  items_there form is path (ToElement count stride of i w is' path' s walk) =
      ((first_word w [] (L.slot i) ws s).0, items_there of is' path' walk)
  items_there form is path (ToItem stride of i w is' path' s walk) =
      ((first_word w [] (L.slot i) ws s).0, items_there of is' path' walk)

  -- ---- plans in variables

  pub record IsPlan (p : Planned) : Type 0 where
    pub offset : ℕ
    pub steps : List Index
    pub of : Shape
    pub is : p ≡ Plan offset steps of

  member_of : (fs : Shapes) (k from offset : ℕ) (of : Shape) → field_at fs k ≡ Some (offset, of) → (place : ℕ) × (member fs k from ≡ At place of)
  member_of (Field o t rest) zero from offset of e = (from, ap (λ q. At from q.1) (some_is e))
  member_of (Field o t rest) (suc k) from offset of e = member_of rest k (from + width t) offset of e
  member_of NoField k from offset of e = cc

  member_data : (fs : Shapes) (k offset : ℕ) (of : Shape) → AreData fs → field_at fs k ≡ Some (offset, of) → IsData of
  member_data (Field o t rest) zero offset of d e = subst IsData (ap (λ q. q.1) (some_is e)) d.0
  member_data (Field o t rest) (suc k) offset of d e = member_data rest k offset of d.1 e
  member_data NoField k offset of d e = cc

  moved_plan : (o : ℕ) (p : Planned) → IsPlan p → IsPlan (moved o p)
  moved_plan o p h = record { offset = o + h.offset; steps = h.steps; of = h.of; is = ap (moved o) h.is }

  stepped_plan : (i : Index) (p : Planned) → IsPlan p → IsPlan (stepped i p)
  stepped_plan i p h = record { offset = h.offset; steps = i ∷ h.steps; of = h.of; is = ap (stepped i) h.is }

  -- a walk along data is planned
  pub planned : (form : Shape) (is path : List ℕ) → Walk code L ws form is path → IsData form → IsPlan (plan form (items code L form is))
  planned form is path (Stops s) d = record { offset = 0; steps = []; of = form; is = plan_stops form }
    where
      plan_stops : (s : Shape) → plan s [] ≡ Plan 0 [] s
      plan_stops s = refl
  planned form is path (ToMember fs i w offset of is' path' c f small walk) d =
      let h = planned of is' path' walk (member_data fs w offset of d f) in
      let q = member_of fs w 0 offset of f in
      subst (λ (x : List Item). IsPlan (plan (Fields fs) x)) (sym (items_member code L fs i w offset of is' c f))
      (subst (λ x. IsPlan (on_piece x (λ o t. moved o (plan t (items code L of is'))))) (sym q.1) (moved_plan q.0 (plan of (items code L of is')) h))
  planned form is path (ToElement count stride of i w is' path' s walk) d =
      stepped_plan _ (plan of (items code L of is')) (planned of is' path' walk d)
  planned form is path (ToItem stride of i w is' path' s walk) d = absurd d
