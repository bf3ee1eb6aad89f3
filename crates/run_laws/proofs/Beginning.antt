-- Where a run begins, the words hold its state.
use Rattle.std.proofs.Common.{◌≡◌, ℕ, ◌+◌, ◌-◌, ◌<◌, ◌≤◌, List, [], length, get_or, true, Option, Some, refl, sym, ap, subst, ◌∙◌, arith}
use Rattle.std.specs.Prelude.{replicate}
use Rattle.std.proofs.lemmas.List.{get_or-replicate, length-replicate}
use Rattle.behavior.specs.Meanings.{Ids}
use Rattle.spirv_words.specs.declared.images.Instruction.{Instruction}
use Rattle.spirv_words.specs.Machine.{Operand, zero_of}
use Rattle.spirv_words.specs.Runs.{setting, start, start_place, initial}
use Rattle.flat_values.specs.Flat.{flat, width}
use Rattle.flat_values.specs.Ranges.{Stands}
use Rattle.flat_values.proofs.Standing.{stands_from, stands_at}
use Rattle.flat_values.proofs.Zeros.{zero_words}
use Rattle.image_places.specs.Places.{function_of}
use Rattle.image_facts.specs.Operands.{globals_of, is_local}
use Rattle.typed_runs.proofs.Begins.{start_is_typed}
use Rattle.run_rooms.specs.Rooms.{Rooms, AreRooms, home_of, room_size}
use Rattle.run_plans.specs.Plans.{IsSteady}
use Rattle.run_laws.specs.Laid.{AreLaid, AreStored}
use Rattle.run_laws.specs.Together.{AreGiven, Together}
use Rattle.run_laws.proofs.Known.{Known, IsLocal}
use Rattle.run_laws.proofs.Counting.{room_count}
use Rattle.run_laws.proofs.Writing.{Setup}
use Rattle.run_laws.proofs.Outer.{More, outer_near}

-- ---- zeros

zeros_count : (n : ℕ) → length {A = ℕ} (replicate n 0) ≡ n
zeros_count n = length-replicate n 0

-- some of the zeros that stand there
pub fewer_zeros : (n k a b : ℕ) (ws : List ℕ) → Stands (replicate n 0) a ws → a ≤ b → b + k ≤ a + n → Stands (replicate k 0) b ws
fewer_zeros n k a b ws s h g =
    let i = s.inside in
    let c = zeros_count n in
    let e = zeros_count k in
    stands_from (replicate k 0) b ws (omega arith) (λ j d l.
    let o : ℕ = b - a in
    let p : b + j ≡ a + (o + j) = omega arith in
    let q : o + j < n = omega arith in
    let r : j < k = omega arith in
    ap (λ x. get_or ws x d) p
    ∙ (stands_at (replicate n 0) a ws s (o + j) d (omega arith) ∙ (get_or-replicate n (o + j) 0 d q ∙ sym (get_or-replicate k j 0 d r))))

-- a variable begins as zeros, which stand where the variables of its function do
pub begins_as_zeros : (code : List Instruction) (L : Rooms) (function x : ℕ) (ws : List ℕ) → Known code → AreRooms code L → is_local code x ≡ true
    → home_of code x ≡ function → Stands (replicate (L.rooms_count function) 0) (L.rooms function) ws
    → Stands (flat (initial code (globals_of code) x)) (L.room x) ws
begins_as_zeros code L function x ws known rooms local e s =
    let l = known.local_is x local in
    let h = rooms.rooms_hold x local in
    let n = room_count code x l in
    let from = ap L.rooms e in
    let count = ap L.rooms_count e in
    let zeros : Stands (replicate (width l.form) 0) (L.room x) ws =
    fewer_zeros (L.rooms_count function) (width l.form) (L.rooms function) (L.room x) ws s (omega (arith, h.0, from)) (omega (arith, h.1, from, count, n)) in
    subst (λ (xs : List ℕ). Stands xs (L.room x) ws) (sym (ap flat l.begins ∙ zero_words l.form l.plain)) zeros

-- ---- the first state

module _ (code : List Instruction) (L : Rooms) (ids : Ids) (lengths : ℕ → ℕ → ℕ) (counts : List ℕ) (m : Setup code L lengths counts) (more : More code) where
  first_laid : (ws : List ℕ) → IsSteady code L ws → AreLaid code L lengths (start_place code) [] (globals_of code).ids ws
  first_laid ws steady x o seen v e =
      let g = m.known.facts.entry.seen x seen in
      (outer_near code L lengths counts (start_place code) [] o m.have (more.outer x o g e), steady.stands x o g e)

  first_stored : (ws : List ℕ) → Stands (replicate (L.rooms_count (start_place code)) 0) (L.rooms (start_place code)) ws
      → AreStored code L (start_place code) [] (λ level x. initial code (globals_of code) x) ws
  first_stored ws zeros level x l local e =
      begins_as_zeros code L (start_place code) x ws m.known m.rooms local (e ∙ more.begins.in_it) zeros

  pub begins_together : (ws : List ℕ) → IsSteady code L ws → AreGiven L ids ws
      → Stands (replicate (L.rooms_count (start_place code)) 0) (L.rooms (start_place code)) ws
      → Together code L ids lengths (start (setting code ids lengths)) (start_place code) ws
  begins_together ws steady given zeros = record {
    same = refl;
    typed = start_is_typed code m.known.facts ids lengths;
    steady = steady;
    given = given;
    laid = first_laid ws steady;
    kept = tt;
    stored = first_stored ws zeros;
  }
