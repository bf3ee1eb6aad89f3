-- Walks along chains of indices, step by step.
use Rattle.std.proofs.Common.{◌≡◌, ℕ, ◌+◌, ◌-◌, ◌^◌, min, None, subst, Bool, true, false, cond, List, [], ◌∷◌, ◌++◌, Option, Some, refl, sym, ap, ◌∙◌, arith, ◌<◌, ◌≤◌, length, drop, drop-cons, add-one, slice_index_or}
use Rattle.std.proofs.lemmas.List.{append_assoc, append-nil}
use Rattle.std.proofs.lemmas.Grind.{common_steps}
use Rattle.spirv_words.specs.declared.images.Instruction.{Instruction}
use Rattle.spirv_words.specs.Machine.{Shape, if_some}
use Rattle.run_actions.specs.declared.actions.Index.{Index}
use Rattle.run_actions.specs.declared.actions.Action.TheVariants.{Chain, BufferChain, Never}
use Rattle.image_lookup.specs.Lookups.{operand, sort}
use Rattle.image_operands.specs.Memory.{part_at, part_by, chain_end, constant_number, is_index}
use Rattle.action_laws.specs.Paths.{Planned, Plan, NoPlan, plan, buffer_plan, moved, stepped}
use Rattle.image_facts.specs.Operands.{shape, type_id}
use Rattle.run_rooms.specs.Rooms.{Rooms}
use Rattle.run_plans.specs.declared.steps.Step.{Step}
use Rattle.run_plans.specs.Actions.{items, is_in_buffer, chain_by, buffer_chain_by, chain_of}
use Rattle.run_plans.specs.declared.steps.Step.TheVariants.{Member, Element}
use Rattle.run_plans.specs.Walks.{HasShape, IsThere}
use Rattle.run_plans.specs.Steps.{planned, after_step, type_behind, offset_in, index_in, behind, HasWalked, IsStep, IsWalked, IsWalk, IsNoStep, IsNoWalk}

pub behind_none : (p : Planned) → p ≡ behind 0 [] p
behind_none (Plan o steps of) = ap (λ n. Plan n steps of) (none o)
  where
    none : (o : ℕ) → o ≡ 0 + o
    none o = omega arith
behind_none NoPlan = refl

pub behind_moved : (offset more : ℕ) (steps : List Index) (p : Planned) → behind (offset + more) steps p ≡ behind offset steps (moved more p)
behind_moved offset more steps (Plan o rest of) = ap (λ n. Plan n (steps ++ rest) of) (regroup offset more o)
  where
    regroup : (a b c : ℕ) → a + b + c ≡ a + (b + c)
    regroup a b c = omega arith
behind_moved offset more steps NoPlan = refl

pub behind_stepped : (offset : ℕ) (index : Index) (steps : List Index) (p : Planned)
    → behind offset (steps ++ index ∷ []) p ≡ behind offset steps (stepped index p)
behind_stepped offset index steps (Plan o rest of) = ap (λ (is : List Index). Plan (offset + o) is of) (append_assoc steps (index ∷ []) rest)
behind_stepped offset index steps NoPlan = refl

planned_none : (in_buffer : Bool) (s : Shape) → planned in_buffer s [] ≡ Plan 0 [] s
planned_none true s = refl
planned_none false s = refl

module _ (code : List Instruction) (L : Rooms) (in_buffer : Bool) (s : Shape) (is : List ℕ) where
  pub walk_begins : (t : ℕ) → shape code t ≡ Some s → IsWalked code L in_buffer s is 0 [] t is
  walk_begins t e = record { form = s; is_form = e; goes = behind_none (planned in_buffer s (items code L s is)) }

  pub walk_goes : (offset more : ℕ) (steps now : List Index) (t i : ℕ) (rest : List ℕ) (step : Step)
      → IsWalked code L in_buffer s is offset steps t (i ∷ rest) → IsStep code L in_buffer t i step
      → ((p : Planned) → behind more now p ≡ behind offset steps (after_step step p))
      → IsWalked code L in_buffer s is more now (type_behind step) rest
  walk_goes offset more steps now t i rest step w go add =
      let next = go w.form w.is_form in
      record {
        form = next.form;
        is_form = next.is;
        goes = w.goes ∙ ap (behind offset steps) (next.goes rest) ∙ sym (add (planned in_buffer next.form (items code L next.form rest)));
      }

  -- no walk goes on where an index leads nowhere
  pub walk_stops : (offset : ℕ) (steps : List Index) (t i : ℕ) (rest : List ℕ) → IsWalked code L in_buffer s is offset steps t (i ∷ rest)
      → IsNoStep code L in_buffer t i → planned in_buffer s (items code L s is) ≡ NoPlan
  walk_stops offset steps t i rest w n = w.goes ∙ ap (behind offset steps) (n.ends w.form rest w.is_form)

  pub walk_ends : (offset : ℕ) (steps : List Index) (t : ℕ) → IsWalked code L in_buffer s is offset steps t []
      → (of : Shape) × (planned in_buffer s (items code L s is) ≡ Plan offset steps of)
  walk_ends offset steps t w = (
    w.form,
    w.goes ∙ ap (behind offset steps) (planned_none in_buffer w.form)
        ∙ ap (λ n. Plan n (steps ++ []) w.form) (none offset) ∙ ap (λ (is : List Index). Plan offset is w.form) (append-nil steps),
  )
    where
      none : (o : ℕ) → o + 0 ≡ o
      none o = omega arith

-- the items from a number on
pub dropped : (xs : List ℕ) (k : ℕ) → k < length xs → drop k xs ≡ slice_index_or xs k 0 ∷ drop (k + 1) xs
dropped xs k lt = rw (add-one, drop-cons xs k 0) refl

pub dropped_all : (xs : List ℕ) (k : ℕ) → length xs ≤ k → drop k xs ≡ []
dropped_all xs k le = grind (arith, common_steps)

-- a chain's action, where its indices lead by an offset and steps
pub chain_is : (code : List Instruction) (L : Rooms) (to pointer t : ℕ) (is : List ℕ) (offset : ℕ) (steps : List Index)
    → t ≡ operand code (type_id code pointer) 2 → HasShape code t → IsWalk code L false t is offset steps → is_in_buffer code pointer ≡ false
    → Chain (L.slot pointer) (L.slot to) (min offset (2 ^ 32 - 1)) steps ≡ chain_of code L to pointer is
chain_is code L to pointer t is offset steps e h w b =
    let walk = w h.0 h.1 in
    sym (ap (λ (o : Option Shape). if_some o Never (λ s. cond (is_in_buffer code pointer) (buffer_chain_by code L (buffer_plan s (items code L s is)) pointer to)
    (chain_by code L (plan s (items code L s is)) pointer to))) (sym (ap (shape code) e) ∙ h.1)
    ∙ ap (λ r. cond r (buffer_chain_by code L (buffer_plan h.0 (items code L h.0 is)) pointer to) (chain_by code L (plan h.0 (items code L h.0 is)) pointer to)) b
    ∙ ap (λ (p : Planned). chain_by code L p pointer to) walk.1)

pub buffer_chain_is : (code : List Instruction) (L : Rooms) (to pointer t : ℕ) (is : List ℕ) (offset : ℕ) (steps : List Index)
    → t ≡ operand code (type_id code pointer) 2 → HasShape code t → IsWalk code L true t is offset steps → is_in_buffer code pointer ≡ true
    → BufferChain (L.slot pointer) (L.slot to) (min offset (2 ^ 32 - 1)) steps ≡ chain_of code L to pointer is
buffer_chain_is code L to pointer t is offset steps e h w b =
    let walk = w h.0 h.1 in
    sym (ap (λ (o : Option Shape). if_some o Never (λ s. cond (is_in_buffer code pointer) (buffer_chain_by code L (buffer_plan s (items code L s is)) pointer to)
    (chain_by code L (plan s (items code L s is)) pointer to))) (sym (ap (shape code) e) ∙ h.1)
    ∙ ap (λ r. cond r (buffer_chain_by code L (buffer_plan h.0 (items code L h.0 is)) pointer to) (chain_by code L (plan h.0 (items code L h.0 is)) pointer to)) b
    ∙ ap (λ (p : Planned). buffer_chain_by code L p pointer to) walk.1)

-- a chain whose indices lead nowhere
pub no_chain_is : (code : List Instruction) (L : Rooms) (to pointer t : ℕ) (is : List ℕ) (in_buffer : Bool)
    → t ≡ operand code (type_id code pointer) 2 → HasShape code t → IsNoWalk code L in_buffer t is → is_in_buffer code pointer ≡ in_buffer
    → Never ≡ chain_of code L to pointer is
no_chain_is code L to pointer t is in_buffer e h w b =
    sym (ap (λ (o : Option Shape). if_some o Never (λ s. cond (is_in_buffer code pointer) (buffer_chain_by code L (buffer_plan s (items code L s is)) pointer to)
    (chain_by code L (plan s (items code L s is)) pointer to))) (sym (ap (shape code) e) ∙ h.1)
    ∙ ap (λ r. cond r (buffer_chain_by code L (buffer_plan h.0 (items code L h.0 is)) pointer to) (chain_by code L (plan h.0 (items code L h.0 is)) pointer to)) b
    ∙ by_class in_buffer (w.ends h.0 h.1))
  where
    by_class : (r : Bool) → planned r h.0 (items code L h.0 is) ≡ NoPlan
        → cond r (buffer_chain_by code L (buffer_plan h.0 (items code L h.0 is)) pointer to) (chain_by code L (plan h.0 (items code L h.0 is)) pointer to) ≡ Never
    by_class true e = ap (λ (p : Planned). buffer_chain_by code L p pointer to) e
    by_class false e = ap (λ (p : Planned). chain_by code L p pointer to) e

-- ---- where indices lead

by_index : (code : List Instruction) (t i : ℕ) → part_at code t i ≡ cond (is_index code i) (part_by code (sort code t) t (constant_number code i)) None
unfolding part_at
by_index code t i = refl

no_end : (end : ℕ) → None ≡ Some end → ⊥
no_end end e = cc

-- the first of some indices leads to a part
pub index_there : (code : List Instruction) (t i end : ℕ) (is : List ℕ) → chain_end code t (i ∷ is) ≡ Some end
    → (is_index code i ≡ true) × IsThere (part_by code (sort code t) t (constant_number code i))
index_there code t i end is e =
    by (is_index code i) (part_by code (sort code t) t (constant_number code i)) refl refl
    (ap (λ (o : Option ℕ). if_some o None (λ part. chain_end code part is)) (sym (by_index code t i)) ∙ e)
  where
    by : (b : Bool) (o : Option ℕ) → is_index code i ≡ b → part_by code (sort code t) t (constant_number code i) ≡ o
        → if_some (cond (is_index code i) (part_by code (sort code t) t (constant_number code i)) None) None (λ part. chain_end code part is) ≡ Some end
        → (is_index code i ≡ true) × IsThere (part_by code (sort code t) t (constant_number code i))
    by true (Some part) f g h = (f, record { it = part; is = g })
    by true None f g h =
        absurd (no_end end (sym (ap (λ b. if_some (cond b (part_by code (sort code t) t (constant_number code i)) None) None (λ part. chain_end code part is)) f
        ∙ ap (λ (o : Option ℕ). if_some o None (λ part. chain_end code part is)) g) ∙ h))
    by false o f g h =
        absurd (no_end end (sym (ap (λ b. if_some (cond b (part_by code (sort code t) t (constant_number code i)) None) None (λ part. chain_end code part is)) f) ∙ h))

-- and the others lead on from there
pub index_on : (code : List Instruction) (t i part : ℕ) (is : List ℕ) → is_index code i ≡ true
    → part_by code (sort code t) t (constant_number code i) ≡ Some part → chain_end code t (i ∷ is) ≡ chain_end code part is
index_on code t i part is f e =
    ap (λ (o : Option ℕ). if_some o None (λ part. chain_end code part is))
    (by_index code t i ∙ ap (λ b. cond b (part_by code (sort code t) t (constant_number code i)) None) f ∙ e)

-- ---- a step more

added : (offset : ℕ) (steps : List Index) (step : Step) (p : Planned)
    → behind (offset + offset_in step) (steps ++ index_in step) p ≡ behind offset steps (after_step step p)
added offset steps (Member more type) p = ap (λ (is : List Index). behind (offset + more) is p) (append-nil steps) ∙ behind_moved offset more steps p
added offset steps (Element index type) p =
    ap (λ n. behind n (steps ++ index ∷ []) p) (none_more offset) ∙ behind_stepped offset index steps p
  where
    none_more : (n : ℕ) → n + 0 ≡ n
    none_more n = omega arith

module _ (code : List Instruction) (L : Rooms) (in_buffer : Bool) (t : ℕ) (is : List ℕ) where
  pub walked_first : (steps : List Index) → steps ≡ [] → HasWalked code L in_buffer t is 0 steps t is
  walked_first steps e = record {
    far = 0;
    cut = refl;
    walked = λ s k. subst (λ (steps : List Index). IsWalked code L in_buffer s is 0 steps t is) (sym e) (walk_begins code L in_buffer s is t k);
  }

  pub walked_on : (offset now : ℕ) (steps more : List Index) (at i : ℕ) (rest : List ℕ) (step : Step) → HasWalked code L in_buffer t is offset steps at (i ∷ rest)
      → IsStep code L in_buffer at i step → now ≡ min (offset + offset_in step) (2 ^ 32 - 1) → more ≡ steps ++ index_in step
      → HasWalked code L in_buffer t is now more (type_behind step) rest
  walked_on offset now steps more at i rest step w go e f = record {
    far = w.far + offset_in step;
    cut = cuts w.far (offset_in step) offset now w.cut e;
    walked = λ s k.
        subst (λ (more : List Index). IsWalked code L in_buffer s is (w.far + offset_in step) more (type_behind step) rest) (sym f)
        (walk_goes code L in_buffer s is w.far (w.far + offset_in step) steps (steps ++ index_in step) at i rest step (w.walked s k) go (added w.far steps step));
  }
    where
      cuts : (far more offset now : ℕ) → offset ≡ min far (2 ^ 32 - 1) → now ≡ min (offset + more) (2 ^ 32 - 1) → now ≡ min (far + more) (2 ^ 32 - 1)
      cuts far more offset now e f = omega arith
