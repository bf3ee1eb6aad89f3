-- Each call of the graph is made by an instruction.
use Rattle.std.proofs.Common.{◌≡◌, ℕ, zero, suc, ◌||◌, Bool, true, false, cond, nat_eq, List, [], ◌∷◌, ◌++◌, take, fold, Option, Some, None, option_to_list, slice_get, refl, sym, ◌∙◌, ap, subst, inr}
use Rattle.std.proofs.Math.Logic.{⊎_elim}
use Rattle.std.proofs.lemmas.Bool.{eqb-true}
use Rattle.std.proofs.lemmas.Option.{slice_get_within}
use Rattle.std.specs.List.{list_any}
use Rattle.spirv_words.specs.declared.images.Instruction.{Instruction}
use Rattle.image_places.specs.Places.{word_of}
use Rattle.call_graph.specs.Edges.{callees, calls_it, Leads}
use Rattle.call_graph.proofs.Visits.{or-cases}
use Rattle.image_calls.specs.Edges.{open_after, edge_of, calls}
use Rattle.image_calls.specs.Calls.{LeadsBack, BadCall, inside_at}

abbrev inside-from : Option ℕ → List Instruction → ℕ → Option ℕ
inside-from inside code k = fold (λ inside i. open_after i inside) inside (take k code)

record IsMade (inside : Option ℕ) (code : List Instruction) (a b : ℕ) : Type 0 where
  number : ℕ
  instruction : Instruction
  stands : slice_get code number ≡ Some instruction
  edge : edge_of instruction (inside-from inside code number) ≡ Some (a, b)

later : (inside : Option ℕ) (i : Instruction) (code : List Instruction) (a b : ℕ) → IsMade (open_after i inside) code a b → IsMade inside (i ∷ code) a b
later inside i code a b m = record { number = suc m.number; instruction = m.instruction; stands = m.stands; edge = m.edge }

here : (inside : Option ℕ) (i : Instruction) (code : List Instruction) (e : ℕ × ℕ) (a b : ℕ) → edge_of i inside ≡ Some e → e.0 ≡ a → b ≡ e.1 → IsMade inside (i ∷ code) a b
here inside i code e a b h p q =
    record { number = 0; instruction = i; stands = refl; edge = h ∙ ap (λ (x : ℕ). Some (x, e.1)) p ∙ ap (λ (y : ℕ). Some (a, y)) (sym q) }

of-one : (rest : List (ℕ × ℕ)) (e : ℕ × ℕ) (a b : ℕ) (t : Bool) → nat_eq e.0 a ≡ t → {A : Type 0} → (e.0 ≡ a → b ≡ e.1 → A) → (calls_it rest a b ≡ true → A)
    → list_any (nat_eq b) (cond t (e.1 ∷ callees rest a) (callees rest a)) ≡ true → A
of-one rest e a b true p first more h = ⊎_elim (λ q. first (eqb-true e.0 a p) (eqb-true b e.1 q)) more (or-cases (nat_eq b e.1) (calls_it rest a b) h)
of-one rest e a b false p first more h = more h

by : (inside : Option ℕ) (i : Instruction) (code : List Instruction) (a b : ℕ) → (calls_it (calls (open_after i inside) code) a b ≡ true → IsMade (open_after i inside) code a b)
    → (o : Option (ℕ × ℕ)) → edge_of i inside ≡ o → calls_it (option_to_list o ++ calls (open_after i inside) code) a b ≡ true → IsMade inside (i ∷ code) a b
by inside i code a b more None e h = later inside i code a b (more h)
by inside i code a b more (Some x) e h =
    of-one (calls (open_after i inside) code) x a b (nat_eq x.0 a) refl
    (λ p q. here inside i code x a b e p q)
    (λ h. later inside i code a b (more h)) h

made : (inside : Option ℕ) (code : List Instruction) (a b : ℕ) → calls_it (calls inside code) a b ≡ true → IsMade inside code a b
made inside [] a b h = cc
made inside (i ∷ code) a b h = by inside i code a b (λ h. made (open_after i inside) code a b h) (edge_of i inside) refl h

pub nowhere-back : (code : List Instruction) (a b : ℕ) → ((place : ℕ) → BadCall code place → ⊥) → calls_it (calls None code) a b ≡ true → Leads (calls None code) b a → ⊥
nowhere-back code a b none h leads =
    let m = made None code a b h in
    none (word_of code m.number) (record {
      number = m.number;
      within = slice_get_within code m.number m.instruction m.stands;
      place_is = refl;
      is_wrong = (m.instruction, m.stands, inr (subst (λ (o : Option (ℕ × ℕ)). LeadsBack (calls None code) o) (sym m.edge) leads));
    })
