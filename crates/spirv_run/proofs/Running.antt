-- A machine begins an invocation, looks up its buffers, and takes a step.
use Rattle.std.proofs.Common.{◌≡◌, ◌≢◌, ◌⊎◌, inl, inr, ℕ, zero, suc, ◌+◌, ◌-◌, ◌<◌, Bool, true, false, List, [], ◌∷◌, length, map, Option, Some, None, slice_get, refl, sym, ap, subst, ◌∙◌, arith}
use Rattle.std.specs.Prelude.{IfSome, is_some, not}
use Rattle.std.specs.List.{AllByRecursion}
use Rattle.std.proofs.lemmas.Bool.{cases_lt, cases_order}
use Rattle.spirv_words.specs.declared.images.Instruction.{Instruction}
use Rattle.spirv_words.specs.declared.images.Image.{Image}
use Rattle.spirv_words.specs.Step.{State, step}
use Rattle.spirv_words.specs.Runs.{setting, start}
use Rattle.run_actions.specs.Steps.{flat_step}
use Rattle.image_operands.specs.Marks.{is_buffer}
use Rattle.run_buffers.specs.declared.buffer.Buffer.{Buffer}
use Rattle.run_buffers.specs.declared.ids.Ids.{Ids}
use Rattle.run_buffers.specs.Memory.{slots}
use Rattle.run_rooms.specs.Rooms.{Rooms}
use Rattle.run_plans.specs.declared.base.Bound.{Bound}
use Rattle.run_plans.specs.declared.plan.Plan.{Plan}
use Rattle.run_plans.specs.Plans.{set_of, binding_of, needs, number_in}
use Rattle.run_plans.specs.Whole.{IsPlan}
use Rattle.run_plans.specs.Ground.{pair_of}
use Rattle.run_laws.specs.Together.{IsWord, IsPlanned, Together}
use Rattle.spirv_run.specs.declared.turns.Turn.{Turn}
use Rattle.spirv_run.specs.Shared.{lengths_in, built_ins_of}
use Rattle.spirv_run.specs.Dispatch.{Missing, FirstMissing, HasAll}
use Rattle.spirv_run.specs.Machines.{Machine, moved_to, looked_up, IsMachine, AreEnough, AreCounts, At, AreLengths, HasDone}
use Rattle.spirv_run.specs.Going.{IsReady}
use Rattle.spirv_run.specs.Parts.{IsShort, IsMoved, AreBound, IsFirstShort, HasThree, begun}
use Rattle.spirv_run.proofs.FirstWords.{has_begun}
use Rattle.spirv_run.proofs.Stepping.{map_at, mapped, have_lengths, step_done}
use Rattle.spirv_run.proofs.Taken.{steps_together, begin_together, entry_is_function, has_sizes}

-- ---- buffers that are looked up

-- the variable of a buffer of the plan
variable_of : (code : List Instruction) (L : Rooms) (plan : Plan) (n : ℕ) (b : Bound) → IsPlan code L plan → slice_get plan.buffers n ≡ Some b
    → (x : ℕ) × (is_buffer code x ≡ true) × (set_of code x ≡ b.set) × (binding_of code x ≡ b.binding)
variable_of code L plan n b is stands =
    let at : slice_get L.buffers n ≡ Some (pair_of b) = ap (λ (l : List (ℕ × ℕ)). slice_get l n) (sym is.pairs) ∙ map_at plan.buffers n b stands in
    let x = (is.buffers.of n (pair_of b) at).1 in
    let pair = x.2 in
    (x.0, x.1, sym (ap (λ (z : ℕ × ℕ). z.0) pair), sym (ap (λ (z : ℕ × ℕ). z.1) pair))

pub short_is_missing : (code : List Instruction) (L : Rooms) (plan : Plan) (memory : List Buffer) (n : ℕ) (b : Bound) → IsPlan code L plan
    → slice_get plan.buffers n ≡ Some b → IsShort memory b → Missing code memory b.set b.binding
short_is_missing code L plan memory n b is stands short =
    let x = variable_of code L plan n b is stands in
    record {
      variable = x.0;
      is = x.1;
      set_is = x.2;
      binding_is = x.3;
      lacks = lacking short;
    } where
      lacking : IsShort memory b → ((position : ℕ) → slice_get (slots memory) position ≢ Some (b.set, b.binding)) ⊎ (lengths_in memory b.set b.binding < needs code (variable_of code L plan n b is stands).0)
      lacking (inl none) = inl none
      lacking (inr few) = inr (let x = variable_of code L plan n b is stands in let e = is.need n b x.0 stands x.1 x.2 x.3 in omega arith)

-- where none is missing, none is found to be
pub none_is_missing : (code : List Instruction) (memory : List Buffer) (r : Option Bound) → HasAll code memory
    → IfSome r (λ b. FirstMissing code memory b.set b.binding) → r ≡ None
none_is_missing code memory None all lacking = refl
none_is_missing code memory (Some b) all lacking = absurd (all b.set b.binding lacking.missing)

-- the buffer of a variable in the plan
record Planned (code : List Instruction) (plan : Plan) (x : ℕ) : Type 0 where
  number : ℕ
  bound : Bound
  stands : slice_get plan.buffers number ≡ Some bound
  set_is : set_of code x ≡ bound.set
  binding_is : binding_of code x ≡ bound.binding
  words_are : bound.words ≡ needs code x

planned_buffer : (code : List Instruction) (L : Rooms) (plan : Plan) (x : ℕ) → IsPlan code L plan → is_buffer code x ≡ true → Planned code plan x
planned_buffer code L plan x is h =
    let pair : ℕ × ℕ = (set_of code x, binding_of code x) in
    let b = mapped plan.buffers (number_in L.buffers pair) pair (ap (λ (l : List (ℕ × ℕ)). slice_get l (number_in L.buffers pair)) is.pairs ∙ is.buffers.each x h) in
    let set_is = sym (ap (λ (z : ℕ × ℕ). z.0) b.2) in
    let binding_is = sym (ap (λ (z : ℕ × ℕ). z.1) b.2) in
    record {
      number = number_in L.buffers pair;
      bound = b.0;
      stands = b.1;
      set_is = set_is;
      binding_is = binding_is;
      words_are = is.need (number_in L.buffers pair) b.0 x b.1 h set_is binding_is;
    }

-- what a memory lacks is short in the plan
missing_is_short : (code : List Instruction) (plan : Plan) (memory : List Buffer) (s g : ℕ) (q : Missing code memory s g) (p : Planned code plan q.variable)
    → IsShort memory p.bound × (p.bound.set ≡ s) × (p.bound.binding ≡ g)
missing_is_short code plan memory s g q p =
    let set_is : p.bound.set ≡ s = sym p.set_is ∙ q.set_is in
    let binding_is : p.bound.binding ≡ g = sym p.binding_is ∙ q.binding_is in
    (lacking set_is binding_is q.lacks, set_is, binding_is) where
      lacking : p.bound.set ≡ s → p.bound.binding ≡ g → ((position : ℕ) → slice_get (slots memory) position ≢ Some (s, g)) ⊎ (lengths_in memory s g < needs code q.variable) → IsShort memory p.bound
      lacking e f (inl none) = inl (λ position at. none position (at ∙ (ap (λ (k : ℕ). Some (k, p.bound.binding)) e ∙ ap (λ (k : ℕ). Some (s, k)) f)))
      lacking e f (inr few) = inr (
          let count : lengths_in memory p.bound.set p.bound.binding ≡ lengths_in memory s g = ap (λ (k : ℕ). lengths_in memory k p.bound.binding) e ∙ ap (λ (k : ℕ). lengths_in memory s k) f in
          let w = p.words_are in omega arith)

pub all_from_bound : (code : List Instruction) (L : Rooms) (plan : Plan) (memory : List Buffer) (counts : List ℕ) → IsPlan code L plan
    → AreBound plan.buffers memory counts → HasAll code memory
all_from_bound code L plan memory counts is bound s g q =
    let p = planned_buffer code L plan q.variable is q.is in
    (bound p.number p.bound p.stands).0 (missing_is_short code plan memory s g q p).0

pub enough_from_bound : (code : List Instruction) (L : Rooms) (plan : Plan) (memory : List Buffer) (counts : List ℕ) → IsPlan code L plan
    → AreBound plan.buffers memory counts → AreEnough code (lengths_in memory)
enough_from_bound code L plan memory counts is bound = record {
  enough = λ x h.
      let p = planned_buffer code L plan x is h in
      let b = bound p.number p.bound p.stands in
      let count = same x p in
      let w = p.words_are in
      elim (cases_lt (lengths_in memory p.bound.set p.bound.binding) p.bound.words) [
        | inl less ↦ absurd (b.0 (inr less))
        | inr more ↦ omega arith
      ];
  small = λ x h.
      let p = planned_buffer code L plan x is h in
      let b = (bound p.number p.bound p.stands).2 in
      let count = same x p in
      omega arith;
} where
  same : (x : ℕ) (p : Planned code plan x) → lengths_in memory (set_of code x) (binding_of code x) ≡ lengths_in memory p.bound.set p.bound.binding
  same x p = ap (λ (k : ℕ). lengths_in memory k (binding_of code x)) p.set_is ∙ ap (λ (k : ℕ). lengths_in memory p.bound.set k) p.binding_is

-- ---- the first that is missing

abbrev Precedes : Bound → Bound → Type 0
Precedes a b = (a.set < b.set) ⊎ ((a.set ≡ b.set) × (a.binding < b.binding))

precedes_both : (a b c : Bound) → Precedes a b → Precedes b c → Precedes a c
precedes_both a b c (inl p) (inl q) = inl (omega arith)
precedes_both a b c (inl p) (inr q) = inl (let e = q.0 in omega arith)
precedes_both a b c (inr p) (inl q) = inl (let e = p.0 in omega arith)
precedes_both a b c (inr p) (inr q) = let e = p.0 in let f = q.0 in let g = p.1 in let h = q.1 in inr (omega arith, omega arith)

never_before : (a b : Bound) → Precedes a b → (b.set < a.set) ⊎ ((b.set ≡ a.set) × (b.binding < a.binding)) → ⊥
never_before a b (inl p) (inl q) = omega arith
never_before a b (inl p) (inr q) = let e = q.0 in omega arith
never_before a b (inr p) (inl q) = let e = p.0 in omega arith
never_before a b (inr p) (inr q) = let g = p.1 in let h = q.1 in omega arith

abbrev Ascending : List Bound → Type 0
Ascending bounds = (n : ℕ) (a b : Bound) → slice_get bounds n ≡ Some a → slice_get bounds (suc n) ≡ Some b → Precedes a b

some_at : (bounds : List Bound) (n : ℕ) (b : Bound) → slice_get bounds (suc n) ≡ Some b → (a : Bound) × (slice_get bounds n ≡ Some a)
some_at [] n b e = absurd cc
some_at (x ∷ xs) zero b e = (x, refl)
some_at (x ∷ xs) (suc n) b e = some_at xs n b e

-- a number and so many more
precedes_at : (bounds : List Bound) (d n : ℕ) (a b : Bound) → Ascending bounds → slice_get bounds n ≡ Some a → slice_get bounds (suc (d + n)) ≡ Some b → Precedes a b
precedes_at bounds zero n a b up e f = up n a b e (ap (λ (k : ℕ). slice_get bounds (suc k)) (let z : n ≡ zero + n = omega arith in z) ∙ f)
precedes_at bounds (suc d) n a b up e f =
    let there : slice_get bounds (suc (suc (d + n))) ≡ Some b = ap (λ (k : ℕ). slice_get bounds (suc k)) (let z : suc (d + n) ≡ suc d + n = omega arith in z) ∙ f in
    let c = some_at bounds (suc (d + n)) b there in
    precedes_both a c.0 b (precedes_at bounds d n a c.0 up e c.1) (up (suc (d + n)) c.0 b c.1 there)

same_some : (a b : Bound) → Some a ≡ Some b → a ≡ b
same_some a b e = cc

pub first_missing : (code : List Instruction) (L : Rooms) (plan : Plan) (memory : List Buffer) (b : Bound) → IsPlan code L plan
    → IsFirstShort plan.buffers memory b → FirstMissing code memory b.set b.binding
first_missing code L plan memory b is short = record {
  missing = short_is_missing code L plan memory short.number b is short.stands short.short;
  first = λ s g q before.
      let p = planned_buffer code L plan q.variable is q.is in
      let r = missing_is_short code plan memory s g q p in
      let less : (p.bound.set < b.set) ⊎ ((p.bound.set ≡ b.set) × (p.bound.binding < b.binding)) =
      subst (λ (k : ℕ). (k < b.set) ⊎ ((k ≡ b.set) × (p.bound.binding < b.binding))) (sym r.1)
      (subst (λ (k : ℕ). (s < b.set) ⊎ ((s ≡ b.set) × (k < b.binding))) (sym r.2) before) in
      elim (cases_order p.number short.number) [
        | inl same ↦
            let e : b ≡ p.bound = same_some b p.bound (sym short.stands ∙ (ap (λ (k : ℕ). slice_get plan.buffers k) (sym same) ∙ p.stands)) in
            itself p.bound (subst (λ (k : Bound). Precedes p.bound k) e less)
        | inr (inl fewer) ↦ short.first p.number p.bound fewer p.stands r.0
        | inr (inr more) ↦
            let d = p.number - suc short.number in
            let there : slice_get plan.buffers (suc (d + short.number)) ≡ Some p.bound =
            ap (λ (k : ℕ). slice_get plan.buffers k) (let z : suc (d + short.number) ≡ p.number = omega arith in z) ∙ p.stands in
            never_before b p.bound (precedes_at plan.buffers d short.number b p.bound is.ascending short.stands there) less
      ];
} where
  itself : (a : Bound) → Precedes a a → ⊥
  itself a (inl l) = omega arith
  itself a (inr l) = let h = l.1 in omega arith

pub counts_of_bound : (bounds : List Bound) (memory : List Buffer) (counts : List ℕ) (lengths : ℕ → ℕ → ℕ) → AreLengths lengths memory → AreBound bounds memory counts
    → AreCounts bounds lengths counts
counts_of_bound bounds memory counts lengths are bound n b stands = (bound n b stands).1 ∙ ap (λ (k : ℕ). Some k) (are b.set b.binding)

pub at_looked_up : (m : Machine) (positions counts : List ℕ) (is_bound : Bool) (ids : Ids) (lengths : ℕ → ℕ → ℕ) (s : State) (memory : List Buffer) → At m ids lengths s
    → AreLengths lengths memory → AreBound m.plan.buffers memory counts → At (looked_up m positions counts is_bound) ids lengths s
at_looked_up m positions counts is_bound ids lengths s memory a are bound = record {
  valid = a.valid;
  rooms = a.rooms;
  is_plan = a.is_plan;
  enough = a.enough;
  counted = λ _. counts_of_bound m.plan.buffers memory counts lengths are bound;
  together = a.together;
}

-- ---- a step

pub stepped : (m now : Machine) (ids : Ids) (lengths : ℕ → ℕ → ℕ) (s : State) (before after : List Buffer) (turn : Turn) → At m ids lengths s → m.is_bound ≡ true
    → now ≡ moved_to m now.place now.words → IsMoved m.plan.buffers (flat_step m.plan.actions.items m.counts m.place m.words) m.place m.words before turn now.place now.words after
    → AllByRecursion IsWord m.words → AllByRecursion IsWord m.counts → length m.counts ≡ length m.plan.buffers → AreLengths lengths before → HasAll m.image.instructions before
    → HasDone (step (setting m.image.instructions (built_ins_of ids) lengths) s) now ids lengths turn before after
stepped m now ids lengths s before after turn a bound kept moved words counts as_many are all =
    let P : Machine → Type 0 = λ n. HasDone (step (setting m.image.instructions (built_ins_of ids) lengths) s) n ids lengths turn before after in
    subst P (sym kept) (step_done m ids lengths s a before after are all turn now.place now.words steps_together bound as_many counts words moved)

-- ---- the beginning

all_at : (ws : List ℕ) → ((n w : ℕ) → slice_get ws n ≡ Some w → IsWord w) → AllByRecursion IsWord ws
all_at [] h = tt
all_at (w ∷ ws) h = (h 0 w refl, all_at ws (λ n v e. h (suc n) v e))

module _ (lengths : ℕ → ℕ → ℕ) where
  abbrev length_of : Bound → ℕ
  length_of b = lengths b.set b.binding

  counted : (bounds : List Bound) → AreCounts bounds lengths (map length_of bounds)
  counted [] n b e = absurd cc
  counted (x ∷ xs) zero b e = let same : x ≡ b = cc in ap (λ (y : Bound). Some (length_of y)) same
  counted (x ∷ xs) (suc n) b e = counted xs n b e

  counted_from : (bounds : List Bound) (n w : ℕ) → slice_get (map length_of bounds) n ≡ Some w → (b : Bound) × (slice_get bounds n ≡ Some b) × (length_of b ≡ w)
  counted_from [] n w e = absurd cc
  counted_from (b ∷ bs) zero w e = let same : length_of b ≡ w = cc in (b, refl, same)
  counted_from (b ∷ bs) (suc n) w e = counted_from bs n w e

  count_many : (bounds : List Bound) → length (map length_of bounds) ≡ length bounds
  count_many [] = refl
  count_many (x ∷ xs) = ap (λ (n : ℕ). suc n) (count_many xs)

  small_counts : (code : List Instruction) (L : Rooms) (plan : Plan) → IsPlan code L plan → AreEnough code lengths → AllByRecursion IsWord (map length_of plan.buffers)
  small_counts code L plan is enough = all_at (map length_of plan.buffers) (λ n w e.
      let b = counted_from plan.buffers n w e in
      let x = variable_of code L plan n b.0 is b.1 in
      let small = enough.small x.0 x.1 in
      let same : lengths (set_of code x.0) (binding_of code x.0) ≡ w = ap (λ (k : ℕ). lengths k (binding_of code x.0)) x.2 ∙ (ap (λ (k : ℕ). lengths b.0.set k) x.3 ∙ b.2) in
      subst (λ (k : ℕ). IsWord k) same small)

pub started : (m : Machine) (ids : Ids) (lengths : ℕ → ℕ → ℕ) → IsMachine m.image m.plan m.words m.positions m.counts → HasThree ids
    → AreEnough m.image.instructions lengths → (m.is_bound ≡ true → AreCounts m.plan.buffers lengths m.counts)
    → At (moved_to m m.plan.place (begun m.plan ids)) ids lengths (start (setting m.image.instructions (built_ins_of ids) lengths))
started m ids lengths inv three enough are_counts =
    let code = m.image.instructions in
    let L = inv.rooms in
    let plan = m.plan in
    let b = has_begun code L plan ids inv.is_plan (entry_is_function m.image inv.valid) (has_sizes m.image L inv.valid) three in
    let have = have_lengths code L plan lengths (map (length_of lengths) plan.buffers) inv.is_plan enough (count_many lengths plan.buffers)
    (counted lengths plan.buffers) (small_counts lengths code L plan inv.is_plan enough) in
    let planned : IsPlanned m.image L plan.actions.items = record { valid = inv.valid; rooms = inv.is_plan.rooms; are = inv.is_plan.actions; buffers = inv.is_plan.buffers } in
    let s = start (setting code (built_ins_of ids) lengths) in
    let together = begin_together m.image L plan.actions.items (built_ins_of ids) lengths (map (length_of lengths) plan.buffers) (begun plan ids) planned have b.steady b.given b.zeros in
    let P : ℕ → Type 0 = λ p. Together code L (built_ins_of ids) lengths s p (begun plan ids) in
    record {
      valid = inv.valid;
      rooms = L;
      is_plan = inv.is_plan;
      enough = enough;
      counted = are_counts;
      together = subst P (sym inv.is_plan.place) together;
    }

-- ---- a step that may look up the buffers first

pub none_test : (o : Option Bound) (r : Bool) → is_some o ≡ not r → o ≡ None → r ≡ true
none_test None true e h = refl
none_test None false e h = cc
none_test (Some b) r e h = cc

module _ (old m now : Machine) (ids : Ids) (lengths : ℕ → ℕ → ℕ) (s : State) (before after : List Buffer) (turn : Turn) (at : At old ids lengths s) (are : AreLengths lengths before)
    (all : HasAll old.image.instructions before) (kept : now ≡ moved_to m now.place now.words)
    (moved : IsMoved m.plan.buffers (flat_step m.plan.actions.items m.counts m.place m.words) m.place m.words before turn now.place now.words after)
    (words : AllByRecursion IsWord m.words) (counts : AllByRecursion IsWord m.counts) (as_many : length m.counts ≡ length m.plan.buffers) where
  abbrev Did : Image → Type 0
  Did i = HasDone (step (setting i.instructions (built_ins_of ids) lengths) s) now ids lengths turn before after

  from_same : (i : Image) → m.image ≡ i → HasAll i.instructions before → At m ids lengths s → m.is_bound ≡ true → Did i
  from_same i same every here bound =
      let P : Image → Type 0 = λ j. HasAll j.instructions before in
      subst Did same (stepped m now ids lengths s before after turn here bound kept moved words counts as_many are (subst P (sym same) every))

  pub done_bound : m ≡ old → m.is_bound ≡ true → Did old.image
  done_bound same bound =
      let P : Machine → Type 0 = λ n. At n ids lengths s in
      from_same old.image (ap (λ (n : Machine). n.image) same) all (subst P (sym same) at) bound

  pub done_looked_up : (new_positions new_counts : List ℕ) (is_bound : Bool) → m ≡ looked_up old new_positions new_counts is_bound → is_bound ≡ true
      → AreBound old.plan.buffers before new_counts → Did old.image
  done_looked_up new_positions new_counts is_bound same holds bound =
      let P : Machine → Type 0 = λ n. At n ids lengths s in
      from_same old.image (ap (λ (n : Machine). n.image) same) all
      (subst P (sym same) (at_looked_up old new_positions new_counts is_bound ids lengths s before at are bound)) (ap (λ (n : Machine). n.is_bound) same ∙ holds)

-- ---- a machine that is ready

pub started_ready : (m : Machine) (ids : Ids) (memory : List Buffer) → IsMachine m.image m.plan m.words m.positions m.counts → HasThree ids → IsReady m memory
    → At (moved_to m m.plan.place (begun m.plan ids)) ids (lengths_in memory) (start (setting m.image.instructions (built_ins_of ids) (lengths_in memory)))
started_ready m ids memory inv three ready =
    started m ids (lengths_in memory) inv three (enough_from_bound m.image.instructions inv.rooms m.plan memory m.counts inv.is_plan ready.counts)
    (λ _. counts_of_bound m.plan.buffers memory m.counts (lengths_in memory) (λ set binding. refl) ready.counts)

pub ready_from : (image : Image) (L : Rooms) (plan : Plan) (place : ℕ) (words positions counts : List ℕ) (is_bound : Bool) (memory : List Buffer) → IsPlan image.instructions L plan
    → is_bound ≡ true → AreBound plan.buffers memory counts
    → IsReady (record { image = image; plan = plan; place = place; words = words; positions = positions; counts = counts; is_bound = is_bound }) memory
ready_from image L plan place words positions counts is_bound memory is bound counted = record {
  bound = bound;
  counts = counted;
  all = all_from_bound image.instructions L plan memory counts is counted;
}

pub missing_from : (code : List Instruction) (L : Rooms) (plan : Plan) (memory : List Buffer) (o : Option Bound) → IsPlan code L plan
    → IfSome o (IsFirstShort plan.buffers memory) → IfSome o (λ b. FirstMissing code memory b.set b.binding)
missing_from code L plan memory None is h = tt
missing_from code L plan memory (Some b) is h = first_missing code L plan memory b is h
