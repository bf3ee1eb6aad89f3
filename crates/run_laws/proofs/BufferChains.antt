-- Chains in buffers on values and on words.
use Rattle.std.proofs.Common.{◌≡◌, ℕ, zero, suc, ◌+◌, ◌-◌, ◌*◌, ◌/◌, ◌%◌, ◌^◌, ◌<◌, ◌≤◌, min, Bool, true, false, cond, List, [], ◌∷◌, length, get_or, Option, Some, None, refl, sym, ap, subst, ◌∙◌, arith}
use Rattle.std.specs.Prelude.{slice_get}
use Rattle.std.proofs.lemmas.Option.{slice_get_within, get_or_from_slice_get}
use Rattle.behavior.specs.Meanings.{Ids}
use Rattle.spirv_words.specs.declared.opcodes.Op.TheVariants.{AccessChain}
use Rattle.spirv_words.specs.declared.images.Instruction.{Instruction}
use Rattle.spirv_words.specs.Machine.{Shape, Operand, InBuffer, if_some}
use Rattle.spirv_words.specs.Step.{State, Turn, Goes, IsUndefined, Spot, Byte, Beyond, Nowhere, spot, with_spot, gives, with_indices, chain}
use Rattle.spirv_words.specs.Runs.{setting}
use Rattle.flat_values.specs.Ranges.{Stands, written}
use Rattle.flat_values.proofs.Standing.{stands_from}
use Rattle.run_actions.specs.declared.actions.Action.TheVariants.{BufferChain, Never}
use Rattle.run_actions.specs.declared.actions.Index.{Index}
use Rattle.run_actions.specs.Ranges.{put_both_at}
use Rattle.run_actions.specs.Steps.{FlatTurn, Goes as GoesTo, IsUndefined as IsUndefinedHere, goes_on, with_place, act as act_on}
use Rattle.action_laws.specs.Paths.{Item, Planned, Plan, plan, buffer_plan, path_of, some_negative, led_in_buffer}
use Rattle.action_laws.proofs.InBuffers.{leads_in_buffer}
use Rattle.action_laws.proofs.Calls.{put_both_is, buffer_pointed_is}
use Rattle.image_lookup.specs.Lookups.{operand, is_value}
use Rattle.image_declarations.specs.Reach.{is_buffer_class}
use Rattle.image_operands.specs.Memory.{is_pointer, chain_end}
use Rattle.image_facts.specs.Operands.{shape, type_id, LeadsInto, Suits}
use Rattle.typed_runs.proofs.Going.{AreSeen}
use Rattle.typed_runs.proofs.Paths.{AreWords, IsLedTo, led_in_buffer as typed_spot, are_indices}
use Rattle.run_rooms.specs.Rooms.{Rooms, size_of}
use Rattle.run_plans.specs.Actions.{items, is_in_buffer, target_shape, chain_by, buffer_chain_by, chain_of}
use Rattle.run_plans.specs.Plans.{words_of, number_in, word_of_byte, set_of, binding_of}
use Rattle.run_laws.specs.Laid.{IsInside, LeadsNear}
use Rattle.run_laws.specs.Together.{Together, Follows}
use Rattle.run_laws.proofs.Counting.{words_count}
use Rattle.run_laws.proofs.Writing.{Setup}
use Rattle.run_laws.proofs.Acting.{Ready, IsResult, result_inside, result_together}
use Rattle.run_laws.proofs.Operands.{follows_flat}
use Rattle.run_laws.proofs.Indices.{as_far, IsIndex, AreIndices, some_below, indices_are, indices_there, Walk, walks, path_is, negative_is, items_there}
use Rattle.run_laws.proofs.Planning.{IsResolved, buffer_planned}
use Rattle.run_laws.proofs.Spacing.{leads_inside}

-- a word of a list stands there
one_stands : (n w : ℕ) (counts : List ℕ) → slice_get counts n ≡ Some w → Stands (w ∷ []) n counts
one_stands n w counts e =
    let l = slice_get_within counts n w e in
    stands_from (w ∷ []) n counts (omega arith) (λ k d h.
    let z : k ≡ 0 = omega arith in
    let at : n + k ≡ n = omega arith in
    ap (λ j. get_or counts j d) at ∙ (get_or_from_slice_get counts n w d e ∙ ap (λ j. get_or (w ∷ []) j d) (sym z)))

-- the numbers that the indices stand for are those of C's walks
are_words : (code : List Instruction) (L : Rooms) (s : State) (ws is path : List ℕ) → AreIndices code L s ws is path → AreWords code s.ids is path
are_words code L s ws [] [] h = tt
are_words code L s ws (i ∷ is) (w ∷ path) h = (λ x. h.0.number, are_words code L s ws is path h.1)
are_words code L s ws [] (w ∷ path) h = absurd h
are_words code L s ws (i ∷ is) [] h = absurd h

module _ (code : List Instruction) (L : Rooms) (ids : Ids) (lengths : ℕ → ℕ → ℕ) (counts : List ℕ) (m : Setup code L lengths counts) where
  abbrev result : IsResult AccessChain
  result = record { goes_on = refl; second = refl; valued = refl }

  -- the action of a chain that is planned
  acts_in_buffer : (r p next : ℕ) (is : List ℕ) (form : Shape) (ws : List ℕ) (q : IsResolved (buffer_plan form (items code L form is)))
      → target_shape code p ≡ Some form → is_in_buffer code p ≡ true
      → act_on (chain_of code L r p is) next counts ws ≡ act_on (BufferChain (L.slot p) (L.slot r) (min q.offset (2 ^ 32 - 1)) q.steps) next counts ws
  acts_in_buffer r p next is form ws q e b =
      ap (λ o. act_on (if_some o Never (λ s.
      cond (is_in_buffer code p) (buffer_chain_by code L (buffer_plan s (items code L s is)) p r) (chain_by code L (plan s (items code L s is)) p r))) next counts ws) e
      ∙ (ap (λ c. act_on (cond c (buffer_chain_by code L (buffer_plan form (items code L form is)) p r)
      (chain_by code L (plan form (items code L form is)) p r)) next counts ws) b
      ∙ ap (λ (x : Planned). act_on (buffer_chain_by code L x p r) next counts ws) q.is)

  number_of_buffer : (set binding t : ℕ) (s : Shape) → LeadsInto code set binding s t → slice_get counts (number_in L.buffers (set, binding)) ≡ Some (lengths set binding)
  number_of_buffer set binding t s h =
      let pair : (set, binding) ≡ (set_of code h.variable, binding_of code h.variable) =
      ap (λ x. (x, binding)) h.its_set ∙ ap (λ x. (set_of code h.variable, x)) h.its_binding in
      let n = m.buffers.each h.variable h.buffer in
      let there : slice_get L.buffers (number_in L.buffers (set, binding)) ≡ Some (set, binding) =
      subst (λ (x : ℕ × ℕ). slice_get L.buffers (number_in L.buffers x) ≡ Some x) (sym pair) n in
      m.have.each (number_in L.buffers (set, binding)) (set, binding) there

  -- where the path leads, the chain does
  led_together : (s : State) (ws : List ℕ) (t r p set binding of : ℕ) (is : List ℕ) (form : Shape) (q : Spot)
      → Ready code L ids lengths s ws AccessChain (t ∷ r ∷ p ∷ is) → LeadsInto code set binding form of → is_pointer code t ≡ true
      → operand code t 1 ≡ operand code of 1 → IsLedTo code q (operand code t 2)
      → ((n : ℕ) (to : Shape) → q ≡ Byte n to → IsInside n to (lengths set binding))
      → Follows code L ids lengths s.place ws (with_spot q (λ n to. Goes (gives s r (InBuffer set binding n to))))
      (with_place (led_in_buffer false q) (λ w. goes_on (s.place + 1) (put_both_at ws (L.slot r) (number_in L.buffers (set, binding)) w)))
  led_together s ws t r p set binding of is form (Byte n to) a h pointer c l inside =
      let o : Operand = InBuffer set binding n to in
      let suits : Suits code o t = record {
        leads = pointer;
        class = ap is_buffer_class c ∙ h.class;
        is = l;
        variable = h.variable;
        buffer = h.buffer;
        its_set = h.its_set;
        its_binding = h.its_binding;
      } in
      let count = words_count code L o t m.known suits in
      let there : L.slot r + 1 < length ws = omega (arith, result_inside code L ids lengths counts m s ws AccessChain t r (p ∷ is) a result, count) in
      follows_flat code L ids lengths s.place ws (Goes (gives s r o)) _ (GoesTo (s.place + 1) (written ws (L.slot r) (words_of code L o)))
      (ap (goes_on (s.place + 1)) (put_both_is ws (L.slot r) (number_in L.buffers (set, binding)) (word_of_byte n) there))
      (result_together code L ids lengths counts m s ws AccessChain t r (p ∷ is) o (s.place + 1) a result suits (inside n to refl) refl)
  led_together s ws t r p set binding of is form Beyond a h pointer c l inside = tt
  led_together s ws t r p set binding of is form Nowhere a h pointer c l inside = absurd l

  -- an int below 0 is out of every range
  led_or_not : (s : State) (ws : List ℕ) (t r p set binding of : ℕ) (is : List ℕ) (form : Shape) (q : Spot) (below : Bool)
      → Ready code L ids lengths s ws AccessChain (t ∷ r ∷ p ∷ is) → LeadsInto code set binding form of → is_pointer code t ≡ true
      → operand code t 1 ≡ operand code of 1 → IsLedTo code q (operand code t 2)
      → ((n : ℕ) (to : Shape) → q ≡ Byte n to → IsInside n to (lengths set binding))
      → Follows code L ids lengths s.place ws (cond below IsUndefined (with_spot q (λ n to. Goes (gives s r (InBuffer set binding n to)))))
      (with_place (led_in_buffer below q) (λ w. goes_on (s.place + 1) (put_both_at ws (L.slot r) (number_in L.buffers (set, binding)) w)))
  led_or_not s ws t r p set binding of is form q true a h pointer c l inside = tt
  led_or_not s ws t r p set binding of is form q false a h pointer c l inside =
      led_together s ws t r p set binding of is form q a h pointer c l inside

  pub buffer_chain_case : (s : State) (ws : List ℕ) (t r p of set binding byte : ℕ) (is : List ℕ) (form : Shape)
      → Ready code L ids lengths s ws AccessChain (t ∷ r ∷ p ∷ is) → LeadsInto code set binding form of → type_id code p ≡ of → is_pointer code t ≡ true
      → operand code t 1 ≡ operand code of 1 → chain_end code (operand code of 2) is ≡ Some (operand code t 2) → AreSeen code s.place is
      → IsInside byte form (lengths set binding) → Stands (number_in L.buffers (set, binding) ∷ word_of_byte byte ∷ []) (L.slot p) ws
      → Follows code L ids lengths s.place ws (chain (setting code ids lengths) s r (Some (InBuffer set binding byte form)) is)
      (act_on (chain_of code L r p is) (s.place + 1) counts ws)
  buffer_chain_case s ws t r p of set binding byte is form a h kind pointer c e seen inside stands =
      let known = m.known in
      let indices = indices_there code L ids lengths counts m s ws is a.together seen
      (are_indices code known.facts s.ids is (operand code of 2) (operand code t 2) e) in
      let path : List ℕ = indices.0 in
      let walk = walks code L ids lengths counts m s ws is path (operand code of 2) (operand code t 2) form indices.1 e h.is in
      let q = buffer_planned code L ws form is path walk inside.spaced in
      let where_to : Spot = spot (lengths set binding) form path byte in
      let target : target_shape code p ≡ Some form = ap (λ x. shape code (operand code x 2)) kind ∙ h.is in
      let in_buffer : is_in_buffer code p ≡ true = ap (λ x. is_buffer_class (operand code x 1)) kind ∙ h.class in
      let x : ℕ = byte / 4 in
      let whole = inside.whole_words in
      let four : 4 * x ≡ byte = omega (arith, whole) in
      let places = leads_in_buffer form q.of (items code L form is) q.offset x (lengths set binding) q.steps ws q.is (items_there code L ws form is path walk) in
      let acts : act_on (chain_of code L r p is) (s.place + 1) counts ws ≡ with_place (led_in_buffer (some_below code is path) where_to)
      (λ w. goes_on (s.place + 1) (put_both_at ws (L.slot r) (number_in L.buffers (set, binding)) w)) =
      acts_in_buffer r p (s.place + 1) is form ws q target in_buffer
      ∙ (buffer_pointed_is counts ws (s.place + 1) (L.slot p) (number_in L.buffers (set, binding)) (word_of_byte byte) (lengths set binding) (L.slot r) (min q.offset (2 ^ 32 - 1)) q.steps
      stands (one_stands (number_in L.buffers (set, binding)) (lengths set binding) counts (number_of_buffer set binding of form h))
      ∙ ap (λ f. with_place f (λ w. goes_on (s.place + 1) (put_both_at ws (L.slot r) (number_in L.buffers (set, binding)) w)))
      (as_far ws (lengths set binding) q.steps (word_of_byte byte) q.offset ∙ places ∙ (ap (λ b. led_in_buffer b (spot (lengths set binding) form (path_of ws (items code L form is)) (4 * x))) (negative_is code L ws form is path walk)
      ∙ (ap (λ y. led_in_buffer (some_below code is path) (spot (lengths set binding) form y (4 * x))) (path_is code L ws form is path walk)
      ∙ ap (λ y. led_in_buffer (some_below code is path) (spot (lengths set binding) form path y)) four)))) in
      let typed = typed_spot code known.facts s.ids (lengths set binding) is path (operand code of 2) (operand code t 2) byte form
      (are_words code L s ws is path indices.1) e h.is in
      follows_flat code L ids lengths s.place ws (chain (setting code ids lengths) s r (Some (InBuffer set binding byte form)) is) _ _ acts
      (subst (λ (y : Turn). Follows code L ids lengths s.place ws y (with_place (led_in_buffer (some_below code is path) where_to)
      (λ w. goes_on (s.place + 1) (put_both_at ws (L.slot r) (number_in L.buffers (set, binding)) w))))
      (sym (indices_are code L ids lengths s ws is path (λ v. with_spot (spot (lengths set binding) form v byte) (λ n to. Goes (gives s r (InBuffer set binding n to)))) indices.1))
      (led_or_not s ws t r p set binding of is form where_to (some_below code is path) a h pointer c typed
      (λ n to g. leads_inside form path byte (lengths set binding) n to g inside)))
