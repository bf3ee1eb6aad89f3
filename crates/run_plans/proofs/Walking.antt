-- Steps of chains lead where indices lead.
use Rattle.std.proofs.Common.{◌≡◌, ◌≢◌, ℕ, ◌+◌, ◌/◌, ◌%◌, Bool, true, false, cond, List, [], ◌∷◌, drop, take, slice_get, Option, Some, None, refl, sym, ap, ◌∙◌, subst, arith}
use Rattle.std.specs.Prelude.{nat_eq}
use Rattle.std.proofs.lemmas.Bool.{ne_eqb}
use Rattle.spirv_words.specs.declared.images.Instruction.{Instruction}
use Rattle.spirv_words.specs.Machine.{Shape, Shapes, Repeated, Unbounded, Fields, if_some, or_zero}
use Rattle.spirv_words.specs.Step.{field_at}
use Rattle.spirv_words.specs.Runs.{signed}
use Rattle.flat_values.specs.Flat.{width}
use Rattle.flat_values.specs.Pieces.{Piece}
use Rattle.run_actions.specs.declared.actions.Extent.TheVariants.{Fixed, Whole}
use Rattle.action_laws.specs.Paths.{Item, Member as MemberItem, Slot, Planned, NoPlan, plan, buffer_plan, moved, stepped, in_words, on_piece}
use Rattle.image_lookup.specs.Lookups.{operand, operands}
use Rattle.image_declarations.specs.Decorations.{stride_of, offset_of}
use Rattle.image_operands.specs.Memory.{constant_number}
use Rattle.image_facts.specs.Operands.{globals_of, shape}
use Rattle.image_facts.specs.Shaped.{IsRepeated, IsUnbounded, IsFields}
use Rattle.run_rooms.specs.Rooms.{Rooms}
use Rattle.run_plans.specs.declared.steps.Step.{Step}
use Rattle.run_plans.specs.declared.steps.Step.TheVariants.{Member}
use Rattle.run_plans.specs.Actions.{items}
use Rattle.run_plans.specs.Walks.{IsMember, total_width}
use Rattle.run_plans.specs.Steps.{planned, IsStep, IsStepOf, IsStrideOf, IsElementStep, IsBroken, IsElementStepIf, IsNoStep, IsStepIf}
use Rattle.run_plans.proofs.Placed.{some_same, member_at_number}

-- whole words
in_words_is : (bytes n : ℕ) (go : ℕ → Planned) → bytes % 4 ≡ 0 → n ≡ bytes / 4 → in_words bytes go ≡ go n
in_words_is bytes n go e f = ap (λ r. cond (nat_eq r 0) (go (bytes / 4)) NoPlan) e ∙ ap go (sym f)

not_words : (bytes : ℕ) (go : ℕ → Planned) → bytes % 4 ≢ 0 → in_words bytes go ≡ NoPlan
not_words bytes go n = ap (λ r. cond r (go (bytes / 4)) NoPlan) (ne_eqb (bytes % 4) 0 n)

not_false : false ≡ true → ⊥
not_false e = grind arith

none_more : (k : ℕ) → 0 + k ≡ k
none_more k = omega arith

from_first : (code : List Instruction) (t k : ℕ) (fs : Shapes) (s : Shape) → field_at fs k ≡ Some (offset_of code t (0 + k), s)
    → field_at fs k ≡ Some (offset_of code t k, s)
from_first code t k fs s e = subst (λ (j : ℕ). field_at fs k ≡ Some (offset_of code t j, s)) (none_more k) e

module _ (code : List Instruction) (L : Rooms) where
  repeated_far : (in_buffer : Bool) (n bytes stride t place : ℕ) (signed : Bool) (of : Shape) (more : List Item) → shape code t ≡ Some of
      → IsStrideOf code in_buffer t bytes stride
      → planned in_buffer (Repeated n bytes of) (Slot place signed ∷ more)
      ≡ stepped (record { slot = place; extent = Fixed n; stride = stride; signed = signed }) (planned in_buffer of more)
  repeated_far true n bytes stride t place signed of more e far =
      in_words_is bytes stride (λ w. stepped (record { slot = place; extent = Fixed n; stride = w; signed = signed }) (buffer_plan of more)) far.0 far.1
  repeated_far false n bytes stride t place signed of more e far =
      ap (λ w. stepped (record { slot = place; extent = Fixed n; stride = w; signed = signed }) (plan of more))
      (sym (far ∙ ap (λ (o : Option Shape). if_some o 0 width) e))

  -- an element of a vector or an array
  pub repeated_step : (in_buffer : Bool) (t n bytes i : ℕ) (step : Step) → IsRepeated code t n bytes
      → IsElementStep code L in_buffer (operand code t 1) (Fixed n) bytes i step → IsStep code L in_buffer t i step
  repeated_step in_buffer t n bytes i step r e s is =
      let whole : Repeated n bytes r.of ≡ s = some_same (sym r.whole ∙ is) in
      subst (λ (s : Shape). IsStepOf code L in_buffer s i step) whole
      (subst (λ (step : Step). IsStepOf code L in_buffer (Repeated n bytes r.of) i step) (sym e.is)
      (record {
        form = r.of;
        is = r.element;
        goes = λ is. repeated_far in_buffer n bytes e.stride (operand code t 1) (L.slot i) (signed code (globals_of code) i) r.of (items code L r.of is) r.element e.far;
      }))

  -- an element of an array without length
  pub unbounded_step : (t i : ℕ) (step : Step) → IsUnbounded code t
      → IsElementStep code L true (operand code t 1) Whole (stride_of code t) i step → IsStep code L true t i step
  unbounded_step t i step r e s is =
      let whole : Unbounded (stride_of code t) r.of ≡ s = some_same (sym r.whole ∙ is) in
      subst (λ (s : Shape). IsStepOf code L true s i step) whole
      (subst (λ (step : Step). IsStepOf code L true (Unbounded (stride_of code t) r.of) i step) (sym e.is)
      (record {
        form = r.of;
        is = r.element;
        goes = λ is.
            in_words_is (stride_of code t) e.stride
            (λ w. stepped (record { slot = L.slot i; extent = Whole; stride = w; signed = signed code (globals_of code) i }) (buffer_plan r.of (items code L r.of is)))
            e.far.0 e.far.1;
      }))

  -- a member of a struct, with the item that it is
  member_item : (in_buffer : Bool) (fs : Shapes) (n i bytes : ℕ) (of : Shape) (is : List ℕ) → n ≡ or_zero (constant_number code i)
      → field_at fs n ≡ Some (bytes, of)
      → planned in_buffer (Fields fs) (items code L (Fields fs) (i ∷ is)) ≡ planned in_buffer (Fields fs) (MemberItem n ∷ items code L of is)
  member_item in_buffer fs n i bytes of is e f =
      sym (ap (λ n. planned in_buffer (Fields fs) (if_some (field_at fs n) (MemberItem n ∷ []) (λ g. MemberItem n ∷ items code L g.1 is))) e)
      ∙ ap (λ (o : Option (ℕ × Shape)). planned in_buffer (Fields fs) (if_some o (MemberItem n ∷ []) (λ g. MemberItem n ∷ items code L g.1 is))) f

  pub buffer_member_step : (t number i part offset : ℕ) → IsFields code t → number ≡ or_zero (constant_number code i)
      → slice_get (drop 1 (operands code t)) number ≡ Some part → offset_of code t number % 4 ≡ 0 → offset ≡ offset_of code t number / 4
      → IsStep code L true t i (Member offset part)
  buffer_member_step t number i part offset f e m whole far s is =
      let same : Fields f.fields ≡ s = some_same (sym f.whole ∙ is) in
      let at = member_at_number code t 0 (drop 1 (operands code t)) f.fields number part f.members m in
      subst (λ (s : Shape). IsStepOf code L true s i (Member offset part)) same
      (record {
        form = at.form;
        is = at.is;
        goes = λ is.
            member_item true f.fields number i (offset_of code t number) at.form is e (from_first code t number f.fields at.form at.field)
            ∙ ap (λ (o : Option (ℕ × Shape)). if_some o NoPlan (λ g. in_words g.0 (λ o. moved o (buffer_plan g.1 (items code L at.form is))))) (from_first code t number f.fields at.form at.field)
            ∙ in_words_is (offset_of code t number) offset (λ o. moved o (buffer_plan at.form (items code L at.form is))) whole far;
      })

  pub room_member_step : (t number i part place : ℕ) → IsFields code t → number ≡ or_zero (constant_number code i)
      → IsMember code t number part place → IsStep code L false t i (Member place part)
  room_member_step t number i part place f e m s is =
      let same : Fields f.fields ≡ s = some_same (sym f.whole ∙ is) in
      let at = member_at_number code t 0 (drop 1 (operands code t)) f.fields number part f.members m.type in
      subst (λ (s : Shape). IsStepOf code L false s i (Member place part)) same
      (record {
        form = at.form;
        is = at.is;
        goes = λ is.
            member_item false f.fields number i (offset_of code t number) at.form is e (from_first code t number f.fields at.form at.field)
            ∙ ap (λ (p : Piece). on_piece p (λ o of. moved o (plan of (items code L at.form is)))) (at.at 0)
            ∙ ap (λ o. moved o (plan at.form (items code L at.form is))) (none_more (total_width code (take number (drop 1 (operands code t)))) ∙ sym m.behind);
      })

  -- ---- where no run goes

  repeated_ends : (in_buffer : Bool) (t n bytes i : ℕ) → IsRepeated code t n bytes → IsBroken in_buffer bytes → IsNoStep code L in_buffer t i
  repeated_ends false t n bytes i r b = absurd (not_false b.inside)
  repeated_ends true t n bytes i r b = record {
    ends = λ s is e.
        subst (λ (s : Shape). planned true s (items code L s (i ∷ is)) ≡ NoPlan) (some_same (sym r.whole ∙ e))
        (not_words bytes
        (λ w. stepped (record { slot = L.slot i; extent = Fixed n; stride = w; signed = signed code (globals_of code) i }) (buffer_plan r.of (items code L r.of is)))
        b.broken);
  }

  unbounded_ends : (t i : ℕ) → IsUnbounded code t → stride_of code t % 4 ≢ 0 → IsNoStep code L true t i
  unbounded_ends t i r broken = record {
    ends = λ s is e.
        subst (λ (s : Shape). planned true s (items code L s (i ∷ is)) ≡ NoPlan) (some_same (sym r.whole ∙ e))
        (not_words (stride_of code t)
        (λ w. stepped (record { slot = L.slot i; extent = Whole; stride = w; signed = signed code (globals_of code) i }) (buffer_plan r.of (items code L r.of is)))
        broken);
  }

  -- an array without length is reached in buffers alone
  pub unbounded_outside : (in_buffer : Bool) (t i : ℕ) → in_buffer ≡ false → IsUnbounded code t → IsNoStep code L in_buffer t i
  unbounded_outside true t i b r = absurd (not_false (sym b))
  unbounded_outside false t i b r = record {
    ends = λ s is e. subst (λ (s : Shape). planned false s (items code L s (i ∷ is)) ≡ NoPlan) (some_same (sym r.whole ∙ e)) refl;
  }

  pub buffer_member_ends : (t number i part : ℕ) → IsFields code t → number ≡ or_zero (constant_number code i)
      → slice_get (drop 1 (operands code t)) number ≡ Some part → offset_of code t number % 4 ≢ 0 → IsNoStep code L true t i
  buffer_member_ends t number i part f e m broken =
      let at = member_at_number code t 0 (drop 1 (operands code t)) f.fields number part f.members m in
      let field = from_first code t number f.fields at.form at.field in
      record {
        ends = λ s is k.
            subst (λ (s : Shape). planned true s (items code L s (i ∷ is)) ≡ NoPlan) (some_same (sym f.whole ∙ k))
            (member_item true f.fields number i (offset_of code t number) at.form is e field
            ∙ ap (λ (o : Option (ℕ × Shape)). if_some o NoPlan (λ g. in_words g.0 (λ o. moved o (buffer_plan g.1 (items code L at.form is))))) field
            ∙ not_words (offset_of code t number) (λ o. moved o (buffer_plan at.form (items code L at.form is))) broken);
      }

  -- the same of steps that may be none
  pub repeated_if : (in_buffer : Bool) (t n bytes i : ℕ) (o : Option Step) → IsRepeated code t n bytes
      → IsElementStepIf code L in_buffer (operand code t 1) (Fixed n) bytes i o → IsStepIf code L in_buffer t i o
  repeated_if in_buffer t n bytes i (Some step) is e = repeated_step in_buffer t n bytes i step is e
  repeated_if in_buffer t n bytes i None is e = repeated_ends in_buffer t n bytes i is e

  pub unbounded_if : (in_buffer : Bool) (t i : ℕ) (o : Option Step) → in_buffer ≡ true → IsUnbounded code t
      → IsElementStepIf code L in_buffer (operand code t 1) Whole (stride_of code t) i o → IsStepIf code L in_buffer t i o
  unbounded_if true t i (Some step) b is e = unbounded_step t i step is e
  unbounded_if true t i None b is e = unbounded_ends t i is e.broken
  unbounded_if false t i o b is e = absurd (not_false b)
