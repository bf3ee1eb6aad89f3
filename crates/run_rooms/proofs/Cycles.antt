-- The calls of a valid image are of functions, and lead nowhere back.
use Rattle.std.proofs.Common.{◌≡◌, ◌≢◌, ℕ, zero, suc, ◌+◌, ◌||◌, ◌&&◌, Bool, true, false, not, cond, nat_eq, List, [], ◌∷◌, ◌++◌, take, fold, Option, Some, None, option_to_list, slice_get, refl, sym, ap, ◌∙◌, arith, subst}
use Rattle.std.proofs.lemmas.Bool.{eqb-true, eq-eqb, ne_eqb, and_parts}
use Rattle.std.proofs.lemmas.Option.{slice_get_within}
use Rattle.std.specs.List.{list_any}
use Rattle.std.specs.Option.{option_map}
use Rattle.spirv_words.specs.declared.opcodes.Op.{Op}
use Rattle.spirv_words.specs.declared.opcodes.Op.TheVariants.{Function, FunctionCall}
use Rattle.spirv_words.specs.declared.images.Instruction.{Instruction}
use Rattle.spirv_words.specs.declared.images.Image.{Image}
use Rattle.spirv_words.specs.Machine.{place_of}
use Rattle.image_places.specs.Places.{op_at, function_of, block_of, under_function, under_label}
use Rattle.image_rules.specs.Order.{is_misplaced, reached}
use Rattle.image_types.specs.Functions.{is_function}
use Rattle.call_graph.specs.Edges.{callees, calls_it, is_walk, Leads}
use Rattle.call_graph.specs.Order.{HasCycle}
use Rattle.call_graph.proofs.Visits.{or-right}
use Rattle.image_calls.specs.Edges.{open_after, edge_of, calls}
use Rattle.image_calls.specs.Calls.{inside_at}
use Rattle.image_scopes.specs.Scopes.{IsRun}
use Rattle.image_scopes.specs.Facts.{Begun, Begins, Calls, Within}
use Rattle.image_scopes.proofs.Kept.{in_order}
use Rattle.spirv_check.specs.Valid.{Valid}
use Rattle.run_rooms.specs.Rooms.{IsFunction}
use Rattle.run_rooms.specs.Layout.{called_by}
use Rattle.run_rooms.specs.Needs.{HasCall}
use Rattle.run_rooms.specs.Calls.{KeepsCalls}
use Rattle.run_rooms.proofs.Defined.{one-placed}

and-true : (a b : Bool) → a ≡ true → b ≡ true → (a && b) ≡ true
and-true a b p q = ap (λ a. a && b) p ∙ q

absurd-of : {A : Type 0} → true ≡ false → A
absurd-of h = cc

-- ---- an instruction that calls

-- what is called, by the operands of the call
record IsCalled (code : List Instruction) (op : Op) (os : List ℕ) (callee : ℕ) : Type 0 where
  is_call : op ≡ FunctionCall
  type : ℕ
  result : ℕ
  function : ℕ
  arguments : List ℕ
  operands : os ≡ type ∷ result ∷ function ∷ arguments
  place : ℕ
  there : place_of code function 0 ≡ Some place
  number : callee ≡ suc place

by-place : (code : List Instruction) (t r f : ℕ) (arguments : List ℕ) (o : Option ℕ) (callee : ℕ) → place_of code f 0 ≡ o → option_map suc o ≡ Some callee
    → IsCalled code FunctionCall (t ∷ r ∷ f ∷ arguments) callee
by-place code t r f arguments None callee e h = cc
by-place code t r f arguments (Some p) callee e h =
    record { is_call = refl; type = t; result = r; function = f; arguments = arguments; operands = refl; place = p; there = e; number = cc }

is-called : (code : List Instruction) (op : Op) (os : List ℕ) (callee : ℕ) → called_by code op os ≡ Some callee → IsCalled code op os callee
is-called code FunctionCall (t ∷ r ∷ f ∷ arguments) callee h = by-place code t r f arguments (place_of code f 0) callee refl h
is-called code op os callee h = cc

-- ---- the calls by the ids of functions

abbrev inside-from : Option ℕ → List Instruction → ℕ → Option ℕ
inside-from inside code k = fold (λ inside i. open_after i inside) inside (take k code)

later : (o : Option (ℕ × ℕ)) (es : List (ℕ × ℕ)) (a b : ℕ) → calls_it es a b ≡ true → calls_it (option_to_list o ++ es) a b ≡ true
later None es a b h = h
later (Some e) es a b h = elim (nat_eq e.0 a) as (λ t. list_any (nat_eq b) (cond t (e.1 ∷ callees es a) (callees es a)) ≡ true) [
  | true ↦ or-right (nat_eq b e.1) (list_any (nat_eq b) (callees es a)) h
  | false ↦ h
]

first-edge : (es : List (ℕ × ℕ)) (a b : ℕ) → calls_it ((a, b) ∷ es) a b ≡ true
first-edge es a b =
    ap (λ t. list_any (nat_eq b) (cond t (b ∷ callees es a) (callees es a))) (eq-eqb a a refl)
    ∙ ap (λ t. t || list_any (nat_eq b) (callees es a)) (eq-eqb b b refl)

is-edge : (inside : Option ℕ) (code : List Instruction) (k : ℕ) (i : Instruction) (a b : ℕ) → slice_get code k ≡ Some i → edge_of i (inside-from inside code k) ≡ Some (a, b)
    → calls_it (calls inside code) a b ≡ true
is-edge inside [] k i a b s e = cc
is-edge inside (x ∷ code) zero i a b s e =
    let same : x ≡ i = cc in
    let o : edge_of x inside ≡ Some (a, b) = ap (λ (j : Instruction). edge_of j inside) same ∙ e in
    ap (λ (o : Option (ℕ × ℕ)). calls_it (option_to_list o ++ calls (open_after x inside) code) a b) o ∙ first-edge (calls (open_after x inside) code) a b
is-edge inside (x ∷ code) (suc k) i a b s e =
    later (edge_of x inside) (calls (open_after x inside) code) a b (is-edge (open_after x inside) code k i a b s e)

-- ---- calls stand in functions

both-false : (x y z : Bool) → z ≡ false → cond x (not z) (not (true && not y)) ≡ false → (x ≡ false) × (y ≡ false)
both-false true y z e h = absurd-of (sym (ap not e) ∙ h)
both-false false true z e h = absurd-of h
both-false false false z e h = (refl, refl)

placed-in : (f b r : ℕ) → is_misplaced (Some FunctionCall) f b r ≡ false → (f ≢ 0) × (b ≢ 0)
placed-in f b r h =
    let p = both-false (nat_eq f 0) (nat_eq b 0) (nat_eq 0 (r + 1)) (ne_eqb 0 (r + 1) (λ z. omega (arith, z))) h in
    (λ e. absurd-of (sym (eq-eqb f 0 e) ∙ p.0), λ e. absurd-of (sym (eq-eqb b 0 e) ∙ p.1))

module _ (image : Image) (v : Valid image) where
  abbrev code : List Instruction
  code = image.instructions

  pub is-run : (k : ℕ) (i : Instruction) → slice_get code k ≡ Some i → i.op ≡ FunctionCall → IsRun code k
  is-run k i s e =
      let op : op_at code k ≡ Some FunctionCall = ap (option_map (λ (j : Instruction). j.op)) s ∙ ap Some e in
      let h = in_order image v k (omega (arith, slice_get_within code k i s)) in
      let p = placed-in (function_of code k) (block_of code k) (reached code k)
      (ap (λ (o : Option Op). is_misplaced o (function_of code k) (block_of code k) (reached code k)) (sym op) ∙ h) in
      record {
        instruction = i;
        stands = s;
        in_function = λ z. p.0 (sym (ap (λ (o : Option Op). under_function o (suc k) (function_of code k)) op) ∙ z);
        in_block = λ z. p.1 (sym (ap (λ (o : Option Op). under_label o (suc k) (block_of code k)) op) ∙ z);
      }

-- ---- the ids of functions

-- an id is that of the function with a number
record IsNumberOf (code : List Instruction) (number x : ℕ) : Type 0 where
  place : ℕ
  there : place_of code x 0 ≡ Some place
  is : number ≡ suc place

one-id : (code : List Instruction) (a x y : ℕ) → IsNumberOf code a x → IsNumberOf code a y → x ≡ y
one-id code a x y h g =
    let same : g.place ≡ h.place = omega (arith, h.is, g.is) in
    one-placed code x y h.place h.there (g.there ∙ ap Some same)

-- a call by numbers is one by ids
record IsEdge (code : List Instruction) (a b : ℕ) : Type 0 where
  caller : ℕ
  callee : ℕ
  from : IsNumberOf code a caller
  to : IsNumberOf code b callee
  edge : calls_it (calls None code) caller callee ≡ true

module _ (code : List Instruction) (es : List (ℕ × ℕ)) (made : (a b : ℕ) → calls_it es a b ≡ true → IsEdge code a b) where
  walks : (from : ℕ) (over : List ℕ) (to x : ℕ) → is_walk es from over to ≡ true → IsNumberOf code from x → (y : ℕ) × IsNumberOf code to y × Leads (calls None code) x y
  walks from [] to x w n = (x, subst (λ (a : ℕ). IsNumberOf code a x) (eqb-true from to w) n, ([], eq-eqb x x refl))
  walks from (next ∷ rest) to x w n =
      let p = and_parts (calls_it es from next) (is_walk es next rest to) w in
      let e = made from next p.0 in
      let r = walks next rest to e.callee p.1 e.to in
      let same : e.caller ≡ x = one-id code from e.caller x e.from n in
      let first : calls_it (calls None code) x e.callee ≡ true = subst (λ (z : ℕ). calls_it (calls None code) z e.callee ≡ true) same e.edge in
      (r.0, r.1, (e.callee ∷ r.2.0, and-true (calls_it (calls None code) x e.callee) (is_walk (calls None code) e.callee r.2.0 r.0) first r.2.1))

  no-cycle : ((x y : ℕ) → calls_it (calls None code) x y ≡ true → Leads (calls None code) y x → ⊥) → HasCycle es → ⊥
  no-cycle never c =
      let e = made c.caller c.callee c.calls in
      let r = walks c.callee c.back.0 c.caller e.callee c.back.1 e.to in
      let same : r.0 ≡ e.caller = one-id code c.caller r.0 e.caller r.1 e.from in
      never e.caller e.callee e.edge (subst (λ (z : ℕ). Leads (calls None code) e.callee z) same r.2)

-- ---- all calls

module _ (image : Image) (v : Valid image)
    (within : (k : ℕ) → IsRun image.instructions k → Within image.instructions k)
    (calling : (k : ℕ) (run : IsRun image.instructions k) (t r f : ℕ) (arguments : List ℕ) → run.instruction.op ≡ FunctionCall
    → run.instruction.operands ≡ t ∷ r ∷ f ∷ arguments → Calls image.instructions k t r f arguments)
    (begun : (f : ℕ) → is_function image.instructions f ≡ true → Begun image.instructions f)
    (begins : Begins image.instructions)
    (nowhere : (x y : ℕ) → calls_it (calls None image.instructions) x y ≡ true → Leads (calls None image.instructions) y x → ⊥) where
  abbrev all : List Instruction
  all = image.instructions

  function-at : (p result f type : ℕ) → slice_get all p ≡ Some (record { op = Function; operands = result ∷ f ∷ 0 ∷ type ∷ [] }) → (a : ℕ) → a ≡ suc p → IsFunction all a
  function-at p result f type s a e = (p, e, ap (option_map (λ (j : Instruction). j.op)) s)

  made-by : (a b : ℕ) → HasCall all a b → IsFunction all a × IsFunction all b × IsEdge all a b
  unfolding is-run
  made-by a b h =
      let i = h.instruction in
      let q = is-called all i.op i.operands b h.calls in
      let run = is-run image v h.number i h.stands q.is_call in
      let w = within h.number run in
      let c = calling h.number run q.type q.result q.function q.arguments q.is_call q.operands in
      let g = begun q.function c.callee in
      let from : a ≡ suc w.place = sym h.inside ∙ w.opened in
      let same : Some g.place ≡ Some q.place = sym g.there ∙ q.there in
      let to : b ≡ suc g.place = q.number ∙ cc in
      let edge : edge_of i (inside_at all h.number) ≡ Some (w.function, q.function) =
      ap (λ (o : Option ℕ). edge_of i o) w.caller ∙ edge-is i w.function q.type q.result q.function q.arguments q.is_call q.operands in (
        function-at w.place w.result w.function w.type w.stands a from,
        function-at g.place g.result q.function g.type g.stands b to,
        record {
          caller = w.function;
          callee = q.function;
          from = record { place = w.place; there = w.there; is = from };
          to = record { place = g.place; there = g.there; is = to };
          edge = is-edge None all h.number i w.function q.function h.stands edge;
        },
      )
    where
      edge-is : (i : Instruction) (x t r f : ℕ) (arguments : List ℕ) → i.op ≡ FunctionCall → i.operands ≡ t ∷ r ∷ f ∷ arguments → edge_of i (Some x) ≡ Some (x, f)
      edge-is i x t r f arguments o a = rw (o, a) refl

  pub keeps : KeepsCalls all
  keeps = record {
    functions = λ a b h. let m = made-by a b h in (m.0, m.1);
    never_back = λ es made c. no-cycle all es (λ a b e. (made-by a b (made a b e)).2) nowhere c;
    some = suc begins.begun.place;
    is_function = function-at begins.begun.place begins.begun.result begins.entry begins.begun.type begins.begun.stands (suc begins.begun.place) refl;
  }
