-- Chains in buffers can be resolved to an offset and steps.
use Rattle.std.proofs.Common.{◌≡◌, ◌≢◌, ℕ, zero, suc, ◌+◌, ◌-◌, ◌*◌, ◌/◌, ◌%◌, ◌<◌, ◌≤◌, ◌⊎◌, inl, inr, Bool, true, false, ◌||◌, cond, nat_eq, List, [], ◌∷◌, Option, Some, None, refl, sym, ap, subst, ◌∙◌, arith}
use Rattle.std.specs.Prelude.{max, nat_lt}
use Rattle.std.proofs.Math.Nat.{le-max_left, le-max_right, mul-le-mul_right}
use Rattle.std.proofs.lemmas.Bool.{eq-eqb, eqb-true, eqb-false, ltb-true, or_left, or_right, cases_Bool}
use Rattle.spirv_words.specs.declared.images.Instruction.{Instruction}
use Rattle.spirv_words.specs.Machine.{Shape, Shapes, Nothing, Truths, Words, Repeated, Unbounded, Fields, PointerTo, NoField, Field, Operand, if_some}
use Rattle.spirv_words.specs.Step.{Spot, Byte, Beyond, Nowhere, field_at, strides, within, spot}
use Rattle.spirv_words.specs.Runs.{signed}
use Rattle.flat_values.specs.Flat.{width, IsData, AreData}
use Rattle.flat_values.specs.Pieces.{Piece, At, member}
use Rattle.run_actions.specs.declared.actions.Extent.TheVariants.{Fixed, Whole}
use Rattle.run_actions.specs.declared.actions.Index.{Index}
use Rattle.action_laws.specs.Paths.{Item, Member, Slot, Planned, Plan, NoPlan, moved, stepped, on_piece, in_words, plan, buffer_plan}
use Rattle.image_declarations.specs.Types.{end_of, span}
use Rattle.image_facts.specs.Alike.{reach, reaches, is_endless, are_endless, IsSpaced, AreSpaced, IsStride}
use Rattle.image_facts.specs.Operands.{globals_of}
use Rattle.run_rooms.specs.Rooms.{Rooms}
use Rattle.run_plans.specs.Actions.{items}
use Rattle.run_laws.proofs.Indices.{Walk, Stops, ToMember, ToElement, ToItem, items_member}

-- ---- plans

pub record IsResolved (p : Planned) : Type 0 where
  pub offset : ℕ
  pub steps : List Index
  pub of : Shape
  pub is : p ≡ Plan offset steps of

moved_by : (o : ℕ) (p : Planned) → IsResolved p → IsResolved (moved o p)
moved_by o p r = record { offset = o + r.offset; steps = r.steps; of = r.of; is = ap (moved o) r.is }

stepped_on : (i : Index) (p : Planned) → IsResolved p → IsResolved (stepped i p)
stepped_on i p r = record { offset = r.offset; steps = i ∷ r.steps; of = r.of; is = ap (stepped i) r.is }

words_in : (bytes : ℕ) (go : ℕ → Planned) → bytes % 4 ≡ 0 → IsResolved (go (bytes / 4)) → IsResolved (in_words bytes go)
words_in bytes go e r =
    subst IsResolved (sym (ap (λ b. cond b (go (bytes / 4)) NoPlan) (eq-eqb (bytes % 4) 0 e))) r

-- ---- buffers

-- a member of a struct in a buffer
pub record IsPlaced (fs : Shapes) (field : ℕ × Shape) : Type 0 where
  pub whole_words : field.0 % 4 ≡ 0
  pub spaced : IsSpaced field.1
  pub first : is_endless field.1 ≡ true → field.0 ≡ 0
  pub endless : is_endless field.1 ≡ true → are_endless fs ≡ true
  pub ends : reach field.1 ≢ 0 → field.0 + reach field.1 ≤ reaches fs

ends_there : (offset extent rest : ℕ) → extent ≢ 0 → offset + extent ≤ max (end_of offset extent) rest
ends_there offset extent rest n =
    let e : end_of offset extent ≡ offset + extent = ap (λ b. cond b 0 (offset + extent)) (differs extent n) in
    let h = le-max_left (end_of offset extent) rest in
    omega (arith, h, e)
  where
    by : (extent : ℕ) (b : Bool) → nat_eq extent 0 ≡ b → extent ≢ 0 → b ≡ false
    by extent true e n = absurd (n (eqb-true extent 0 e))
    by extent false e n = refl

    differs : (extent : ℕ) → extent ≢ 0 → nat_eq extent 0 ≡ false
    differs extent n = by extent (nat_eq extent 0) refl n

pub placed : (fs : Shapes) (n : ℕ) (field : ℕ × Shape) → AreSpaced fs → field_at fs n ≡ Some field → IsPlaced fs field
placed (Field offset of rest) zero field s e =
    let f : (offset, of) ≡ field = some_is e in
    subst (λ (x : ℕ × Shape). IsPlaced (Field offset of rest) x) f
    (record {
      whole_words = s.0;
      spaced = s.1;
      first = s.2;
      endless = λ h. or_left (is_endless of) (are_endless rest) h;
      ends = ends_there offset (reach of) (reaches rest);
    })
  where
    some_is : {a b : ℕ × Shape} → Some a ≡ Some b → a ≡ b
    some_is e = cc
placed (Field offset of rest) (suc n) field s e =
    let p = placed rest n field s.3 e in
    record {
      whole_words = p.whole_words;
      spaced = p.spaced;
      first = p.first;
      endless = λ h. or_right (is_endless of) (are_endless rest) (p.endless h);
      ends = λ n. (let a = p.ends n in let b = le-max_right (end_of offset (reach of)) (reaches rest) in omega (arith, a, b));
    }
placed NoField n field s e = cc

module _ (code : List Instruction) (L : Rooms) (ws : List ℕ) where
  -- a walk along what lies in a buffer is planned
  pub buffer_planned : (form : Shape) (is path : List ℕ) → Walk code L ws form is path → IsSpaced form → IsResolved (buffer_plan form (items code L form is))
  buffer_planned form is path (Stops s) d = record { offset = 0; steps = []; of = form; is = plan_stops form }
    where
      plan_stops : (s : Shape) → buffer_plan s [] ≡ Plan 0 [] s
      plan_stops s = refl
  buffer_planned form is path (ToElement n stride of i w is' path' st walk) d =
      words_in stride
      (λ w. stepped (record { slot = L.slot i; extent = Fixed n; stride = w; signed = signed code (globals_of code) i }) (buffer_plan of (items code L of is')))
      d.0.whole_words
      (stepped_on (record { slot = L.slot i; extent = Fixed n; stride = stride / 4; signed = signed code (globals_of code) i }) (buffer_plan of (items code L of is'))
      (buffer_planned of is' path' walk d.1))
  buffer_planned form is path (ToItem stride of i w is' path' st walk) d =
      words_in stride
      (λ w. stepped (record { slot = L.slot i; extent = Whole; stride = w; signed = signed code (globals_of code) i }) (buffer_plan of (items code L of is')))
      d.0.whole_words
      (stepped_on (record { slot = L.slot i; extent = Whole; stride = stride / 4; signed = signed code (globals_of code) i }) (buffer_plan of (items code L of is'))
      (buffer_planned of is' path' walk d.1))
  buffer_planned form is path (ToMember fs i w offset of is' path' c f small walk) d =
      let p = placed fs w (offset, of) d f in
      let more = words_in offset (λ o. moved o (buffer_plan of (items code L of is'))) p.whole_words
      (moved_by (offset / 4) (buffer_plan of (items code L of is')) (buffer_planned of is' path' walk p.spaced)) in
      subst (λ (l : List Item). IsResolved (buffer_plan (Fields fs) l)) (sym (items_member code L fs i w offset of is' c f))
      (subst IsResolved (sym (ap (λ (x : Option (ℕ × Shape)). if_some x NoPlan (λ f. in_words f.0 (λ o. moved o (buffer_plan f.1 (items code L of is'))))) f)) more)
