-- Where the run of a valid image begins.
use Rattle.std.proofs.Common.{◌≡◌, ℕ, zero, suc, ◌+◌, ◌<◌, ◌≤◌, ◌⊎◌, inl, inr, true, ◌&&◌, nat_eq, List, [], ◌∷◌, length, drop, slice_get, Option, Some, refl, sym, ap, subst, ◌∙◌, add-one, arith}
use Rattle.std.proofs.lemmas.Bool.{eqb-true, and_parts}
use Rattle.spirv_words.specs.declared.opcodes.Op.{Op}
use Rattle.spirv_words.specs.declared.opcodes.Op.TheVariants.{EntryPoint}
use Rattle.spirv_words.specs.declared.images.Instruction.{Instruction}
use Rattle.spirv_words.specs.declared.images.Image.{Image}
use Rattle.spirv_words.specs.Machine.{or_zero, if_some, place_of}
use Rattle.spirv_words.specs.Words.{AreInstructions}
use Rattle.spirv_words.specs.Layouts as layouts
use Rattle.spirv_words.specs.Runs.{entry_at, entry_of, start_place}
use Rattle.image_lookup.specs.Lookups.{operand}
use Rattle.image_places.specs.Places.{op_at, function_of}
use Rattle.image_types.specs.Functions.{is_void, is_function, leading_parameters, parameters_of, entry_fits}
use Rattle.image_calls.specs.Arguments.{parameter_types}
use Rattle.spirv_check.specs.Valid.{Valid}
use Rattle.spirv_check.proofs.Begins.{begins}
use Rattle.image_scopes.specs.Scopes.{IsRun, IsSeen, IsGlobal}
use Rattle.image_scopes.specs.Facts.{Begun, Begins}
use Rattle.image_scopes.proofs.Kept.{meets_rule}
use Rattle.image_scopes.proofs.Entering.{function, enough_parameters}

-- ---- the entry point

record EntryAt (code whole : List Instruction) : Type 0 where
  place : ℕ
  model : ℕ
  entry : ℕ
  rest : List ℕ
  stands : slice_get code place ≡ Some (record { op = EntryPoint; operands = model ∷ entry ∷ rest })
  is_entry : entry_of whole ≡ Some entry

entry_or_not : (op : Op) → (op ≡ EntryPoint) ⊎ ((os : List ℕ) (else : Option ℕ) → entry_at op os else ≡ else)
entry_or_not EntryPoint = inl refl
entry_or_not op = inr (λ os else. refl)

entry_operands : (os : List ℕ) → layouts.fits EntryPoint os ≡ true → (model : ℕ) × (entry : ℕ) × (rest : List ℕ) × (os ≡ model ∷ entry ∷ rest)
entry_operands (model ∷ entry ∷ rest) e = (model, entry, rest, refl)
entry_operands os e = cc

entry_first : (i : Instruction) (is : List Instruction) → i.op ≡ EntryPoint → layouts.fits i.op i.operands ≡ true → EntryAt (i ∷ is) (i ∷ is)
entry_first i is e fits =
    let o = entry_operands i.operands (ap (λ (op : Op). layouts.fits op i.operands) (sym e) ∙ fits) in
    record {
      place = 0;
      model = o.0;
      entry = o.1;
      rest = o.2;
      stands = ap (λ (op : Op). Some (record { op = op; operands = i.operands })) e ∙ ap (λ (os : List ℕ). Some (record { op = EntryPoint; operands = os })) o.3;
      is_entry = ap (λ (op : Op). entry_at op i.operands (entry_of is)) e ∙ ap (λ (os : List ℕ). entry_at EntryPoint os (entry_of is)) o.3;
    }

same_op : (a b : Op) → Some a ≡ Some b → a ≡ b
same_op a b e = cc

-- the first EntryPoint tells the entry
entry_found : (is : List Instruction) (k : ℕ) → AreInstructions is → op_at is k ≡ Some EntryPoint → EntryAt is is
entry_found [] k are at = cc
entry_found (i ∷ is) zero are at = entry_first i is (same_op i.op EntryPoint at) are.0.layout
entry_found (i ∷ is) (suc k) are at = elim (entry_or_not i.op) [
  | inl e ↦ entry_first i is e are.0.layout
  | inr other ↦ (let f : EntryAt is is = entry_found is k are.1 at in
      record { place = suc f.place; model = f.model; entry = f.entry; rest = f.rest; stands = f.stands; is_entry = other i.operands (entry_of is) ∙ f.is_entry })
]

nothing_left : (ts : List ℕ) → length ts ≤ 0 → ts ≡ []
nothing_left [] h = refl
nothing_left (t ∷ ts) h = absurd (omega arith)

plus_nothing : (n : ℕ) → n + 0 ≡ n
plus_nothing n = omega arith

no_place : (j : ℕ) (ts : List ℕ) → ts ≡ [] → j < length ts → ⊥
no_place j ts e h = let z : length ts ≡ 0 = ap (λ (l : List ℕ). length l) e in omega arith

module _ (image : Image) (v : Valid image) where
  entry : EntryAt image.instructions image.instructions
  entry = entry_found image.instructions 2 v.spelled.instructions (begins image v).2

  entry_right : entry_fits image.instructions (record { op = EntryPoint; operands = entry.model ∷ entry.entry ∷ entry.rest }) ≡ true
  entry_right = meets_rule image v entry.place (record { op = EntryPoint; operands = entry.model ∷ entry.entry ∷ entry.rest }) entry.stands

  record Main (e : ℕ) : Type 0 where
    callee : is_function image.instructions e ≡ true
    void : is_void image.instructions (operand image.instructions e 0) ≡ true
    none : parameters_of image.instructions e ≡ 0

  main : Main entry.entry
  unfolding entry_fits
  main =
      let is : List Instruction = image.instructions in
      let e : ℕ = entry.entry in
      let p = and_parts (is_function is e && is_void is (operand is e 0)) (nat_eq (parameters_of is e) 0) entry_right in
      let q = and_parts (is_function is e) (is_void is (operand is e 0)) p.0 in
      record { callee = q.0; void = q.1; none = eqb-true (parameters_of is e) 0 p.1 }

  -- where the entry's first Label stands
  started : (e p : ℕ) → entry_of image.instructions ≡ Some e → place_of image.instructions e 0 ≡ Some p → start_place image.instructions ≡ suc p
  started e p is_entry there =
      ap (λ (o : Option ℕ). or_zero (place_of image.instructions (or_zero o) 0) + 1) is_entry ∙ (ap (λ (o : Option ℕ). or_zero o + 1) there ∙ add-one p)

  no_leading : (e p : ℕ) → place_of image.instructions e 0 ≡ Some p → parameters_of image.instructions e ≡ 0
      → leading_parameters (drop (suc p) image.instructions) ≡ 0
  unfolding parameters_of
  no_leading e p there none =
      sym (ap (λ (o : Option ℕ). if_some o 0 (λ place. leading_parameters (drop (suc place) image.instructions))) there) ∙ none

  begins_by : (e : ℕ) → entry_of image.instructions ≡ Some e → Main e → Begun image.instructions e → Begins image.instructions
  begins_by e is_entry m b =
      let is : List Instruction = image.instructions in
      let p : ℕ = b.place in
      let none : parameter_types is e ≡ [] =
      nothing_left (parameter_types is e) (omega (arith, enough_parameters image v e m.callee b, no_leading e p b.there m.none)) in
      let start : start_place is ≡ suc p = started e p is_entry b.there in
      let back : suc p + length (parameter_types is e) ≡ start_place is =
      ap (λ (ts : List ℕ). suc p + length ts) none ∙ (plus_nothing (suc p) ∙ sym start) in
      let Seen : ℕ → Type 0 = λ (n : ℕ). (x : ℕ) → IsSeen is n x
      → IsGlobal is x ⊎ ((j : ℕ) × (j < length (parameter_types is e)) × (place_of is x 0 ≡ Some (suc p + j))) in
      let In : ℕ → Type 0 = λ (n : ℕ). function_of is n ≡ suc p in
      let Run : ℕ → Type 0 = λ (n : ℕ). IsRun is n in
      let seen : Seen (start_place is) = subst Seen back b.seen in
      let in_it : In (start_place is) = subst In back b.in_it in
      record {
        entry = e;
        is_entry = is_entry;
        begun = b;
        no_parameters = none;
        no_result = m.void;
        start = start;
        run = subst Run back b.run;
        in_it = in_it ∙ sym start;
        seen = λ x s. elim (seen x s) [ inl g ↦ g | inr r ↦ absurd (no_place r.0 (parameter_types is e) none r.1) ];
      }

  -- a run begins at the Label of the entry
  pub begin : Begins image.instructions
  begin = begins_by entry.entry entry.is_entry main (function image v entry.entry main.callee)
