-- Returns on values and on words: a function goes back behind its call, with what it gives.
use Rattle.std.proofs.Common.{◌≡◌, ◌≢◌, ℕ, zero, suc, ◌+◌, ◌-◌, ◌≤◌, ◌⊎◌, inl, inr, Bool, true, false, cond, nat_eq, List, [], ◌∷◌, length, Option, Some, None, refl, sym, ap, subst, ◌∙◌, arith}
use Rattle.std.specs.Prelude.{slice_get, slice_index}
use Rattle.std.proofs.lemmas.Bool.{eq-eqb, ne_eqb}
use Rattle.behavior.specs.Values.{Value}
use Rattle.behavior.specs.Meanings.{Ids}
use Rattle.spirv_words.specs.declared.opcodes.Op.TheVariants.{Function, FunctionCall, Return, ReturnValue}
use Rattle.spirv_words.specs.declared.images.Instruction.{Instruction}
use Rattle.spirv_words.specs.Machine.{Operand, Plain, at, if_some, place_of, result_of}
use Rattle.spirv_words.specs.Step.{State, Frame as Call, Turn, Ends, Goes, back, act, with_some}
use Rattle.spirv_words.specs.Runs.{setting, entry_of}
use Rattle.flat_values.specs.Flat.{flat}
use Rattle.flat_values.specs.Ranges.{Stands, written}
use Rattle.flat_values.proofs.Standing.{stands_first, written_there}
use Rattle.run_actions.specs.declared.actions.Action.TheVariants.{Return as GoBack, End}
use Rattle.run_actions.specs.Steps.{FlatTurn, Goes as GoesTo, Ends as EndsHere, give_back, act as act_on}
use Rattle.action_laws.proofs.Acts.{given_back_is}
use Rattle.action_laws.proofs.Calls.{returned_is}
use Rattle.image_lookup.specs.Lookups.{operand, is_value}
use Rattle.image_lookup.specs.Sorts.{sort_of, is_value_sort}
use Rattle.image_places.specs.Places.{function_of}
use Rattle.image_declarations.specs.Holdings.{is_data}
use Rattle.image_types.specs.Functions.{is_void}
use Rattle.image_types.specs.Checking.{context_at}
use Rattle.image_scopes.specs.Scopes.{IsSeen}
use Rattle.image_facts.specs.Operands.{type_id}
use Rattle.typed_runs.specs.States.{IsFrame, AreFrames, IsEntry, IsTyped, Keeps}
use Rattle.typed_runs.proofs.Types.{typed_as}
use Rattle.typed_runs.proofs.Going.{defines, made, made_operands, made_sort, result_there}
use Rattle.typed_runs.proofs.Operands.{keeps_some}
use Rattle.typed_runs.proofs.Calls.{return_keeps, return_value_keeps}
use Rattle.run_rooms.specs.Rooms.{Rooms, Slot, IsFunction, size_of, slot_size}
use Rattle.run_plans.specs.Actions.{is_entry_number, return_of, give_back_of}
use Rattle.run_laws.specs.Laid.{AreLaid, IsKept, AreKept, AreStored}
use Rattle.run_laws.specs.Together.{Together, Follows}
use Rattle.run_laws.proofs.Known.{Known}
use Rattle.run_laws.proofs.Homes.{AreBehind, at_call}
use Rattle.run_laws.proofs.Same.{before_call, home_at}
use Rattle.run_laws.proofs.Counting.{like_count, data_size}
use Rattle.run_laws.proofs.Writing.{Setup, Holds, Typed, in_function, behind_from, cell_inside, slot_written, kept_moves, stored_moves, holds_moves, holds_next}
use Rattle.run_laws.proofs.Acting.{Ready, holds_of, together_from, at_of}
use Rattle.run_laws.proofs.Operands.{follows_plain, follows_some, follows_flat, IsThere, value_there}
use Rattle.run_laws.proofs.Outer.{More}

-- ---- the entry

some_number : {a b : ℕ} → Some a ≡ Some b → a ≡ b
some_number e = cc

next_number : {a b : ℕ} → suc a ≡ suc b → a ≡ b
next_number e = omega arith

-- an instruction defines one id
pub same_id : (code : List Instruction) (a b p : ℕ) (i : Instruction) → slice_get code p ≡ Some i → place_of code a 0 ≡ Some p
    → place_of code b 0 ≡ Some p → a ≡ b
same_id code a b p i s e f =
    some_number (sym (defines code a i (made code p a i s e)) ∙ defines code b i (made code p b i s f))

is_entry_by : (code : List Instruction) (L : Rooms) (e p function : ℕ) → entry_of code ≡ Some e → place_of code e 0 ≡ Some p
    → is_entry_number code L function ≡ nat_eq function (suc p)
is_entry_by code L e p function f g =
    ap (λ o. if_some o false (λ e. if_some (place_of code e 0) false (λ p. nat_eq function (suc p)))) f
    ∙ ap (λ o. if_some o false (λ p. nat_eq function (suc p))) g

entry_is : (code : List Instruction) (L : Rooms) (function : ℕ) → IsEntry code function → is_entry_number code L function ≡ true
entry_is code L function (e, p, f, g, h) = is_entry_by code L e p function f g ∙ eq-eqb function (suc p) h

-- a function that is called is not the entry
called_is_no_entry : (code : List Instruction) (L : Rooms) (function : ℕ) (f : Call) → Known code → IsFrame code function f
    → is_entry_number code L function ≡ false
called_is_no_entry code L function f known h =
    let e = known.facts.entry in
    let c = known.facts.calls h.call h.kind f.result h.callee h.arguments h.run h.stands in
    let b = known.facts.begun h.callee c.callee in
    let p : b.place ≡ h.place = some_number (sym b.there ∙ h.called) in
    let other : function ≢ suc e.place = λ z.
    let q : e.place ≡ b.place = next_number (sym z ∙ h.is) ∙ sym p in
    let same : e.id ≡ h.callee = same_id code e.id h.callee b.place _ b.stands (e.there ∙ ap (λ n. Some n) q) b.there in
    c.no_entry (e.is_entry ∙ ap (λ n. Some n) same) in
    is_entry_by code L e.id e.place function e.is_entry e.there ∙ ne_eqb function (suc e.place) other

-- what a function gives is of the type of the call that it goes back behind
gives_back : (code : List Instruction) (known : Known code) (s : State) (f : Call) → IsTyped code s → (fr : IsFrame code (function_of code s.place) f)
    → (context_at code s.place).result_type ≡ fr.kind
gives_back code known s f typed fr =
    let w = known.facts.within s.place typed.run in
    let c = known.facts.calls fr.call fr.kind f.result fr.callee fr.arguments fr.run fr.stands in
    let p : w.place ≡ fr.place = next_number (sym w.opened ∙ fr.is) in
    let i : Instruction = record { op = Function; operands = w.result ∷ w.function ∷ 0 ∷ w.type ∷ [] } in
    let st : slice_get code fr.place ≡ Some i = ap (slice_get code) (sym p) ∙ w.stands in
    let o : operand code fr.callee 0 ≡ w.result = ap (λ l. slice_index l 0) (made_operands code fr.place fr.callee i st fr.called) in
    w.gives ∙ (sym o ∙ c.gives)

-- ---- back behind the call

call_function : (code : List Instruction) (known : Known code) (function : ℕ) (f : Call) (fr : IsFrame code function f)
    → function_of code fr.call ≡ function_of code f.place
call_function code known function f fr = known.facts.in_function fr.call fr.run ∙ ap (function_of code) (sym fr.behind)

abbrev call_instruction : (code : List Instruction) (function : ℕ) (f : Call) → IsFrame code function f → Instruction
call_instruction code function f fr = record { op = FunctionCall; operands = fr.kind ∷ f.result ∷ fr.callee ∷ fr.arguments }

module _ (code : List Instruction) (L : Rooms) (ids : Ids) (lengths : ℕ → ℕ → ℕ) (counts : List ℕ) (m : Setup code L lengths counts) where
  -- what holds in a function that was called, holds of the function that called it, at the call
  pub holds_at_call : (k : ℕ) (named : ℕ → Option Operand) (f : Call) (fs : List Call) (memory : ℕ → ℕ → Value) (ws : List ℕ)
      → (fr : IsFrame code (function_of code k) f) → Holds code L ids lengths k named (f ∷ fs) memory ws
      → Holds code L ids lengths fr.call f.ids fs memory ws
  holds_at_call k named f fs memory ws fr h =
      let e = call_function code m.known (function_of code k) f fr in
      let stored : AreStored code L f.place fs memory ws = λ level x l local g.
      h.stored level x (omega arith) local (g ∙ sym (at_call code k f fs level l)) in
      record {
        steady = h.steady;
        given = h.given;
        laid = subst (λ (n : ℕ). AreLaid code L lengths n fs f.ids ws) (before_call code (function_of code k) f fr) h.kept.0.laid;
        kept = kept_moves code L lengths f.place fr.call fs ws (sym e) h.kept.1;
        stored = stored_moves code L f.place fr.call fs memory ws (sym e) stored;
      }

  -- a function that gives nothing
  returned : (s : State) (ws : List ℕ) (below : List Call) → Ready code L ids lengths s ws Return []
      → Holds code L ids lengths s.place s.ids below s.memory ws → AreFrames code (function_of code s.place) below
      → Keeps code (back (setting code ids lengths) below s.memory None)
      → Follows code L ids lengths s.place ws (back (setting code ids lengths) below s.memory None)
      (act_on (return_of code L (function_of code s.place)) (s.place + 1) counts ws)
  returned s ws [] a h frames keeps =
      follows_flat code L ids lengths s.place ws Ends (act_on (return_of code L (function_of code s.place)) (s.place + 1) counts ws) EndsHere
      (ap (λ b. act_on (cond b End (GoBack (L.frame (function_of code s.place)))) (s.place + 1) counts ws) (entry_is code L (function_of code s.place) frames))
      tt
  returned s ws (f ∷ fs) a h frames keeps =
      let fr = frames.0 in
      let function : ℕ = function_of code s.place in
      let known = m.known in
      let there = result_there code known.facts fr.call f.result fr.kind FunctionCall (fr.callee ∷ fr.arguments) fr.stands refl in
      let next = known.facts.next fr.call (call_instruction code function f fr) fr.run fr.stands refl in
      let empty : is_void code (type_id code f.result) ≡ true =
      ap (is_void code) (there.2 ∙ sym (gives_back code known s f a.together.typed fr)) ∙ known.facts.returns s.place a.together.typed.run a.stands in
      let seen : (x : ℕ) → is_void code (type_id code x) ≡ false → IsSeen code f.place x → IsSeen code fr.call x = λ x v q.
      seen_before f.result fr.call x empty v (there.0) (next.seen x (subst (λ (n : ℕ). IsSeen code n x) fr.behind q)) in
      let now : State = record { place = f.place; ids = f.ids; below = fs; memory = s.memory } in
      follows_flat code L ids lengths s.place ws (Goes now)
      (act_on (return_of code L function) (s.place + 1) counts ws) (GoesTo f.place ws)
      (ap (λ b. act_on (cond b End (GoBack (L.frame function))) (s.place + 1) counts ws) (called_is_no_entry code L function f known fr)
      ∙ returned_is ws (L.frame function) f.place (stands_first (f.place ∷ []) (L.slot f.result ∷ []) (L.frame function) ws h.kept.0.back))
      (together_from code L ids lengths now f.place ws refl keeps
      (holds_moves code L ids lengths fr.call f.place f.ids fs s.memory ws (call_function code known function f fr) seen
      (holds_at_call s.place s.ids f fs s.memory ws fr h)))
    where
      seen_before : (r k x : ℕ) {o : Option ℕ} → is_void code (type_id code r) ≡ true → is_void code (type_id code x) ≡ false → o ≡ Some r
          → IsSeen code k x ⊎ ((o ≡ Some x) × (place_of code x 0 ≡ Some k)) → IsSeen code k x
      seen_before r k x e v is (inl q) = q
      seen_before r k x e v is (inr q) =
          let z : x ≡ r = some_number (sym q.0 ∙ is) in
          let n : true ≡ false = sym e ∙ (ap (λ y. is_void code (type_id code y)) (sym z) ∙ v) in
          cc

  pub return_case : (s : State) (ws : List ℕ) → Ready code L ids lengths s ws Return []
      → Follows code L ids lengths s.place ws (act (setting code ids lengths) Return [] s)
      (act_on (return_of code L (function_of code s.place)) (s.place + 1) counts ws)
  return_case s ws a =
      returned s ws s.below a (holds_of code L ids lengths s s.place ws a.together) a.together.typed.frames
      (return_keeps code m.known.facts ids lengths s (at_of code L ids lengths counts m s ws Return [] a))

-- a call's result is a value
call_is_value : (code : List Instruction) (k r : ℕ) (i : Instruction) → slice_get code k ≡ Some i → i.op ≡ FunctionCall → place_of code r 0 ≡ Some k
    → is_value code r ≡ true
call_is_value code k r i st e there = ap is_value_sort (made_sort code k r i st there ∙ ap sort_of e)

module _ (code : List Instruction) (L : Rooms) (ids : Ids) (lengths : ℕ → ℕ → ℕ) (counts : List ℕ) (m : Setup code L lengths counts) (more : More code) where
  -- a value is given by no entry
  gives_no_value : (s : State) → IsTyped code s → IsEntry code (function_of code s.place) → is_data code (context_at code s.place).result_type ≡ true → ⊥
  gives_no_value s typed (e, p, f, g, h) d =
      let w = m.known.facts.within s.place typed.run in
      let b = more.begins in
      let q : w.place ≡ p = next_number (sym w.opened ∙ h) in
      let same : w.function ≡ e = same_id code w.function e w.place _ w.stands w.there (g ∙ ap (λ n. Some n) (sym q)) in
      let other : b.entry ≡ e = some_number (sym b.is_entry ∙ f) in
      let empty : is_void code (context_at code s.place).result_type ≡ true =
      ap (is_void code) (w.gives ∙ (sym w.first ∙ ap (λ x. operand code x 0) (same ∙ sym other))) ∙ b.no_result in
      let n : true ≡ false = sym empty ∙ m.known.facts.not_void (context_at code s.place).result_type d in
      cc

  -- what a function gives is written where its call wants it
  gave : (s : State) (ws : List ℕ) (v : ℕ) (value : Value) (f : Call) (fs : List Call) → Ready code L ids lengths s ws ReturnValue (v ∷ [])
      → Holds code L ids lengths s.place s.ids (f ∷ fs) s.memory ws → (fr : IsFrame code (function_of code s.place) f)
      → AreFrames code (function_of code f.place) fs
      → IsTyped code (record { place = f.place; ids = at f.ids f.result (Plain value); below = fs; memory = s.memory })
      → length (flat value) ≡ slot_size code f.result
      → (L.slot f.result + length (flat value) ≤ length ws)
      × Together code L ids lengths (record { place = f.place; ids = at f.ids f.result (Plain value); below = fs; memory = s.memory }) f.place
      (written ws (L.slot f.result) (flat value))
  gave s ws v value f fs a h fr frames typed n =
      let known = m.known in
      let i : Instruction = call_instruction code (function_of code s.place) f fr in
      let e = call_function code known (function_of code s.place) f fr in
      let there = result_there code known.facts fr.call f.result fr.kind FunctionCall (fr.callee ∷ fr.arguments) fr.stands refl in
      let next = known.facts.next fr.call i fr.run fr.stands refl in
      let valued = call_is_value code fr.call f.result i fr.stands refl there.1 in
      let hold = holds_at_call code L ids lengths counts m s.place s.ids f fs s.memory ws fr h in
      let below = subst (λ (n : ℕ). AreFrames code n fs) (sym e) frames in
      let behind = behind_from code L lengths fr.call fs ws known (in_function code fr.call known fr.run) below hold.kept in
      let unseen = known.result_is_new fr.call i fr.stands f.result there.0 in
      let here : Typed code fr.call f.ids fs s.memory = record { run = fr.run; names = fr.named; held = a.together.typed.held; frames = below } in
      let inside : L.slot f.result + length (flat value) ≤ length ws =
      omega (arith, cell_inside code L fr.call fs (Slot f.result) m.rooms behind valued (home_at code f.result fr.call there.1), h.steady.all, n) in
      let wrote = slot_written code L ids lengths counts m fr.call f.result f.ids fs s.memory ws (flat value) here valued there.1 unseen n hold in
      let now : State = record { place = f.place; ids = at f.ids f.result (Plain value); below = fs; memory = s.memory } in
      let seen = subst (λ (q : ℕ). (x : ℕ) → IsSeen code q x → IsSeen code fr.call x ⊎ ((result_of i.op i.operands ≡ Some x) × (place_of code x 0 ≡ Some fr.call)))
      (sym fr.behind) next.seen in (
        inside,
        together_from code L ids lengths now f.place (written ws (L.slot f.result) (flat value)) refl typed
            (holds_next code L ids lengths fr.call f.place f.result i f.ids fs s.memory (Plain value) (written ws (L.slot f.result) (flat value)) e seen
            there.0 unseen tt (written_there ws (flat value) (L.slot f.result) inside) wrote),
      )

  returned_value : (s : State) (ws : List ℕ) (v : ℕ) (value : Value) (below : List Call) → Ready code L ids lengths s ws ReturnValue (v ∷ [])
      → Holds code L ids lengths s.place s.ids below s.memory ws → AreFrames code (function_of code s.place) below
      → is_data code (context_at code s.place).result_type ≡ true → length (flat value) ≡ size_of code (context_at code s.place).result_type
      → Stands (flat value) (L.slot v) ws → Keeps code (back (setting code ids lengths) below s.memory (Some (Plain value)))
      → Follows code L ids lengths s.place ws (back (setting code ids lengths) below s.memory (Some (Plain value)))
      (give_back ws (L.frame (function_of code s.place)) (L.slot v) (length (flat value)))
  returned_value s ws v value [] a h frames d n stands keeps = absurd (gives_no_value s a.together.typed frames d)
  returned_value s ws v value (f ∷ fs) a h frames d n stands keeps =
      let fr = frames.0 in
      let there = result_there code m.known.facts fr.call f.result fr.kind FunctionCall (fr.callee ∷ fr.arguments) fr.stands refl in
      let size : length (flat value) ≡ slot_size code f.result =
      n ∙ ap (size_of code) (gives_back code m.known s f a.together.typed fr ∙ sym there.2) in
      let g = gave s ws v value f fs a h fr frames.1 keeps size in
      let now : State = record { place = f.place; ids = at f.ids f.result (Plain value); below = fs; memory = s.memory } in
      follows_flat code L ids lengths s.place ws (Goes now) _ (GoesTo f.place (written ws (L.slot f.result) (flat value)))
      (given_back_is (flat value) ws (L.frame (function_of code s.place)) f.place (L.slot f.result) (L.slot v) h.kept.0.back stands g.0) g.1

  pub return_value_case : (s : State) (ws : List ℕ) (v : ℕ) → Ready code L ids lengths s ws ReturnValue (v ∷ [])
      → Follows code L ids lengths s.place ws (act (setting code ids lengths) ReturnValue (v ∷ []) s)
      (act_on (give_back_of code L (function_of code s.place) v) (s.place + 1) counts ws)
  return_value_case s ws v a =
      let at = at_of code L ids lengths counts m s ws ReturnValue (v ∷ []) a in
      let t : ℕ = (context_at code s.place).result_type in
      let r = m.known.facts.returns_value s.place v a.together.typed.run a.stands in
      let g = typed_as code v t r.1 in
      let d = m.known.facts.data_shape t r.0 in
      let p = value_there code L ids lengths counts m s ws ReturnValue (v ∷ []) 0 v t d.form a (record { stands = refl; role = refl }) g.0 g.1 r.0 d.is in
      let keeps = subst (λ (o : Option Operand). Keeps code (with_some o (λ o. back (setting code ids lengths) s.below s.memory (Some o)))) p.is
      (return_value_keeps code m.known.facts ids lengths s v at) in
      follows_some code L ids lengths s.place ws (s.ids v) (Plain p.value) (λ o. back (setting code ids lengths) s.below s.memory (Some o))
      (give_back ws (L.frame (function_of code s.place)) (L.slot v) (slot_size code v)) p.is
      (subst (λ (n : ℕ). Follows code L ids lengths s.place ws (back (setting code ids lengths) s.below s.memory (Some (Plain p.value)))
      (give_back ws (L.frame (function_of code s.place)) (L.slot v) n)) (p.count ∙ sym p.size)
      (returned_value s ws v p.value s.below a (holds_of code L ids lengths s s.place ws a.together) a.together.typed.frames r.0 p.count p.stands keeps))
