-- Chains in variables and in built-in values: both machines lead to the same part, or out of a range.
use Rattle.std.proofs.Common.{◌≡◌, ℕ, zero, suc, ◌+◌, ◌-◌, ◌^◌, ◌<◌, ◌≤◌, min, Bool, true, false, cond, nat_eq, List, [], ◌∷◌, ◌++◌, length, Option, Some, None, refl, sym, ap, subst, ◌∙◌, arith}
use Rattle.behavior.specs.Values.{Value, Way, Found, Outside, Wrong, part}
use Rattle.behavior.specs.Meanings.{Ids}
use Rattle.spirv_words.specs.declared.opcodes.Op.TheVariants.{AccessChain}
use Rattle.spirv_words.specs.declared.images.Instruction.{Instruction}
use Rattle.spirv_words.specs.Machine.{Shape, Root, Local, Input, Operand, Path, if_some}
use Rattle.spirv_words.specs.Step.{State, Turn, Goes, IsUndefined, gives, held, chain, with_indices, with_some, with_found}
use Rattle.spirv_words.specs.Runs.{setting}
use Rattle.flat_values.specs.Flat.{flat, width, IsData}
use Rattle.flat_values.specs.Pieces.{Piece, At, OutOfRange, NoPart, piece, then_piece}
use Rattle.flat_values.specs.Ranges.{Stands, written}
use Rattle.flat_values.proofs.Parts.{composed}
use Rattle.run_actions.specs.declared.actions.Action.TheVariants.{Never}
use Rattle.run_actions.specs.declared.actions.Index.{Index}
use Rattle.run_actions.specs.Ranges.{put_at}
use Rattle.run_actions.specs.Chains.{moved_on}
use Rattle.run_actions.specs.Steps.{FlatTurn, Goes as GoesTo, goes_on, with_place, act as flat_act, chain as chain_words}
use Rattle.action_laws.specs.Paths.{Plan, plan, buffer_plan, path_of, some_negative, led}
use Rattle.action_laws.proofs.Calls.{put_is, pointed_is}
use Rattle.action_laws.proofs.Follows.{leads}
use Rattle.image_lookup.specs.Lookups.{operand}
use Rattle.image_declarations.specs.Reach.{is_buffer_class}
use Rattle.image_operands.specs.Memory.{is_pointer, chain_end}
use Rattle.image_facts.specs.Operands.{shape, LeadsTo}
use Rattle.image_facts.proofs.Likes.{LikePart, part-like}
use Rattle.typed_runs.specs.States.{Keeps}
use Rattle.typed_runs.proofs.Paths.{path_data, are_indices}
use Rattle.typed_runs.proofs.Going.{AreSeen}
use Rattle.run_rooms.specs.Rooms.{Rooms, size_of}
use Rattle.run_plans.specs.Actions.{is_in_buffer, target_shape, items, chain_by, buffer_chain_by, chain_of}
use Rattle.run_plans.specs.Plans.{base_of, address_of, place_in}
use Rattle.run_laws.specs.Laid.{LeadsNear}
use Rattle.run_laws.specs.Together.{Follows}
use Rattle.run_laws.proofs.Counting.{like_count, pointer_size, class_of_root}
use Rattle.run_laws.proofs.Writing.{Setup}
use Rattle.run_laws.proofs.Acting.{Ready, IsResult, result_inside, result_typed}
use Rattle.run_laws.proofs.Operands.{follows_some, follows_flat}
use Rattle.run_laws.proofs.Memory.{Found', leads_there}
use Rattle.run_laws.proofs.Indices.{as_far, some_below, indices_are, indices_there, walks, path_is, negative_is, items_there, planned}

-- a pointer to a part leads as near as one to the whole
near_part : (code : List Instruction) (lengths : ℕ → ℕ → ℕ) (place : ℕ) (below : _) (root : Root) (path other : List ℕ)
    → LeadsNear code lengths place below (Path root path) → LeadsNear code lengths place below (Path root other)
near_part code lengths place below (Local level x) path other h = h
near_part code lengths place below (Input b) path other h = h

module _ (code : List Instruction) (L : Rooms) (ids : Ids) (lengths : ℕ → ℕ → ℕ) (counts : List ℕ) (m : Setup code L lengths counts) where
  -- to the part, or out of its range
  led_to : (s : State) (ws : List ℕ) (t r p : ℕ) (is : List ℕ) (root : Root) (more : List ℕ) (whole : Shape)
      → Ready code L ids lengths s ws AccessChain (t ∷ r ∷ p ∷ is) → size_of code t ≡ 1 → LeadsNear code lengths s.place s.below (Path root more)
      → (way : Way) (q : Piece) → piece whole more (base_of L root) ≡ q → address_of code L root more ≡ place_in q → LikePart way q
      → Keeps code (with_found way (λ w. Goes (gives s r (Path root more))))
      → Follows code L ids lengths s.place ws (with_found way (λ w. Goes (gives s r (Path root more))))
      (with_place (led false q) (λ x. goes_on (s.place + 1) (put_at ws (L.slot r) x)))
  led_to s ws t r p is root more whole a n near (Found w) (At place of) e address like keeps =
      let i : IsResult AccessChain = record { goes_on = refl; second = refl; valued = refl } in
      let inside : L.slot r < length ws = omega (arith, result_inside code L ids lengths counts m s ws AccessChain t r (p ∷ is) a i, n) in
      follows_flat code L ids lengths s.place ws (Goes (gives s r (Path root more))) _ (GoesTo (s.place + 1) (written ws (L.slot r) (address_of code L root more ∷ [])))
      (ap (goes_on (s.place + 1)) (put_is ws (L.slot r) place inside) ∙ ap (λ x. GoesTo (s.place + 1) (written ws (L.slot r) (x ∷ []))) (sym address))
      (result_typed code L ids lengths counts m s ws AccessChain t r (p ∷ is) (Path root more) (s.place + 1) a i keeps (sym n) near refl)
  led_to s ws t r p is root more whole a n near Outside OutOfRange e address like keeps = tt
  led_to s ws t r p is root more whole a n near Wrong NoPart e address like keeps = absurd keeps
  led_to s ws t r p is root more whole a n near way q e address like keeps = absurd like

  -- where no int is below 0
  chain_by_sign : (s : State) (ws : List ℕ) (t r p : ℕ) (is : List ℕ) (root : Root) (path more : List ℕ) (whole of : Shape)
      → Ready code L ids lengths s ws AccessChain (t ∷ r ∷ p ∷ is) → size_of code t ≡ 1 → LeadsNear code lengths s.place s.below (Path root path)
      → (f : Found' code L ids lengths s ws root path whole of) → address_of code L root (path ++ more) ≡ place_in (piece of more f.place)
      → (b : Bool)
      → Keeps code (cond b IsUndefined (with_some (held (setting code ids lengths) s root) (λ v. with_found (part v (path ++ more)) (λ w. Goes (gives s r (Path root (path ++ more)))))))
      → Follows code L ids lengths s.place ws
      (cond b IsUndefined (with_some (held (setting code ids lengths) s root) (λ v. with_found (part v (path ++ more)) (λ w. Goes (gives s r (Path root (path ++ more)))))))
      (with_place (led b (piece of more f.place)) (λ x. goes_on (s.place + 1) (put_at ws (L.slot r) x)))
  chain_by_sign s ws t r p is root path more whole of a n near f address true keeps = tt
  chain_by_sign s ws t r p is root path more whole of a n near f address false keeps =
      let same : piece whole (path ++ more) (base_of L root) ≡ piece of more f.place =
      composed whole path more (base_of L root) ∙ ap (λ x. then_piece x (λ place form. piece form more place)) f.at in
      let like = subst (λ (q : Piece). LikePart (part f.value (path ++ more)) q) same (part-like f.value whole (path ++ more) (base_of L root) f.like) in
      let kept = subst (λ (o : Option Value). Keeps code (with_some o (λ v. with_found (part v (path ++ more)) (λ w. Goes (gives s r (Path root (path ++ more))))))) f.is keeps in
      follows_some code L ids lengths s.place ws (held (setting code ids lengths) s root) f.value
      (λ v. with_found (part v (path ++ more)) (λ w. Goes (gives s r (Path root (path ++ more))))) _ f.is
      (led_to s ws t r p is root (path ++ more) whole a n (near_part code lengths s.place s.below root path (path ++ more) near)
      (part f.value (path ++ more)) (piece of more f.place) same address like kept)

  -- the action of a chain that leads into no buffer
  acts_as : (s : State) (ws : List ℕ) (r p offset place : ℕ) (is more : List ℕ) (of u : Shape) (steps : List Index) → target_shape code p ≡ Some of
      → is_in_buffer code p ≡ false → plan of (items code L of is) ≡ Plan offset steps u → Stands (place ∷ []) (L.slot p) ws
      → moved_on ws 0 steps place offset ≡ led (some_below code is more) (piece of more place)
      → flat_act (chain_of code L r p is) (s.place + 1) counts ws
      ≡ with_place (led (some_below code is more) (piece of more place)) (λ x. goes_on (s.place + 1) (put_at ws (L.slot r) x))
  acts_as s ws r p offset place is more of u steps target buffer planned' stands moved =
      ap (λ o. flat_act (if_some o Never (λ f.
      cond (is_in_buffer code p) (buffer_chain_by code L (buffer_plan f (items code L f is)) p r) (chain_by code L (plan f (items code L f is)) p r))) (s.place + 1) counts ws) target
      ∙ (ap (λ b. flat_act (cond b (buffer_chain_by code L (buffer_plan of (items code L of is)) p r) (chain_by code L (plan of (items code L of is)) p r)) (s.place + 1) counts ws) buffer
      ∙ (ap (λ x. flat_act (chain_by code L x p r) (s.place + 1) counts ws) planned'
      ∙ (pointed_is ws (s.place + 1) (L.slot p) place (L.slot r) (min offset (2 ^ 32 - 1)) steps stands
      ∙ ap (λ x. with_place x (λ y. goes_on (s.place + 1) (put_at ws (L.slot r) y))) (as_far ws 0 steps place offset ∙ moved))))

  pub variable_chain : (s : State) (ws : List ℕ) (t r p : ℕ) (is : List ℕ) (root : Root) (path : List ℕ) (of : ℕ) (h : LeadsTo code root path of)
      → Ready code L ids lengths s ws AccessChain (t ∷ r ∷ p ∷ is) → operand code p 0 ≡ of → is_pointer code t ≡ true
      → operand code t 1 ≡ operand code of 1 → chain_end code (operand code of 2) is ≡ Some (operand code t 2) → AreSeen code s.place is
      → LeadsNear code lengths s.place s.below (Path root path) × Stands (address_of code L root path ∷ []) (L.slot p) ws
      → Keeps code (chain (setting code ids lengths) s r (Some (Path root path)) is)
      → Follows code L ids lengths s.place ws (chain (setting code ids lengths) s r (Some (Path root path)) is)
      (flat_act (chain_of code L r p is) (s.place + 1) counts ws)
  variable_chain s ws t r p is root path of h a g to class e seen near keeps =
      let f = leads_there code L ids lengths counts m s ws AccessChain (t ∷ r ∷ p ∷ is) root path of h a near.0 in
      let go : List ℕ → Turn = λ more. with_some (held (setting code ids lengths) s root) (λ v. with_found (part v (path ++ more)) (λ w. Goes (gives s r (Path root (path ++ more))))) in
      let x = indices_there code L ids lengths counts m s ws is a.together seen (are_indices code m.known.facts s.ids is (operand code of 2) (operand code t 2) e) in
      let more = x.0 in
      let turn = indices_are code L ids lengths s ws is more go x.1 in
      let walk = walks code L ids lengths counts m s ws is more (operand code of 2) (operand code t 2) h.part x.1 e h.is in
      let plain = path_data h.whole h.part path 0 h.place h.plain h.found in
      let q = planned code L ws h.part is more walk plain in
      let count = like_count f.part' h.part f.part_like in
      let small : f.place + width h.part < 2 ^ 32 = omega (arith, f.part_stands'.inside, count, a.together.steady.all, m.rooms.small) in
      let moved : moved_on ws 0 q.steps f.place q.offset ≡ led (some_below code is more) (piece h.part more f.place) =
      leads h.part q.of (items code L h.part is) q.offset f.place q.steps ws q.is (items_there code L ws h.part is more walk) small
      ∙ (ap (λ b. led b (piece h.part (path_of ws (items code L h.part is)) f.place)) (negative_is code L ws h.part is more walk)
      ∙ ap (λ y. led (some_below code is more) (piece h.part y f.place)) (path_is code L ws h.part is more walk)) in
      let stands = subst (λ (w : ℕ). Stands (w ∷ []) (L.slot p) ws) f.address near.1 in
      let none : is_in_buffer code p ≡ false = ap (λ c. is_buffer_class (operand code c 1)) g ∙ class_of_root code root (operand code of 1) h.class in
      let n : size_of code t ≡ 1 = pointer_size code t false to (ap is_buffer_class class ∙ class_of_root code root (operand code of 1) h.class) in
      let address : address_of code L root (path ++ more) ≡ place_in (piece h.part more f.place) =
      ap (λ o. if_some o 0 (λ y. place_in (piece y (path ++ more) (base_of L root)))) h.holds
      ∙ ap place_in (composed h.whole path more (base_of L root) ∙ ap (λ y. then_piece y (λ place form. piece form more place)) f.at) in
      subst (λ (y : Turn). Follows code L ids lengths s.place ws y (flat_act (chain_of code L r p is) (s.place + 1) counts ws)) (sym turn)
      (follows_flat code L ids lengths s.place ws (cond (some_below code is more) IsUndefined (go more)) _ _
      (acts_as s ws r p q.offset f.place is more h.part q.of q.steps (ap (λ c. shape code (operand code c 2)) g ∙ h.is) none q.is stands moved)
      (chain_by_sign s ws t r p is root path more h.whole h.part a n near.0 f address (some_below code is more) (subst (λ (y : Turn). Keeps code y) turn keeps)))
