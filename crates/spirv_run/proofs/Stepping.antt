-- What a machine did for a step is a step of the image.
use Rattle.std.proofs.Common.{◌≡◌, ◌≢◌, ◌⊎◌, inl, inr, ℕ, zero, suc, ◌<◌, true, List, [], ◌∷◌, length, map, Some, slice_get, refl, sym, ap, subst, ◌∙◌, arith}
use Rattle.std.specs.List.{AllByRecursion}
use Rattle.std.proofs.lemmas.Bool.{cases_eq}
use Rattle.spirv_words.specs.declared.images.Instruction.{Instruction}
use Rattle.spirv_words.specs.Step.{State, Turn as Step, Goes, Reads, Writes, Ends, IsUndefined, IsStuck, step}
use Rattle.spirv_words.specs.Runs.{setting}
use Rattle.flat_values.specs.Ranges.{written}
use Rattle.run_actions.specs.Steps.{FlatTurn, Goes as GoesTo, Reads as ReadsWord, Writes as WritesWord, Ends as EndsHere, IsUndefined as IsUndefinedHere, IsStuck as IsStuckHere, flat_step}
use Rattle.run_buffers.specs.declared.buffer.Buffer.{Buffer}
use Rattle.run_buffers.specs.declared.ids.Ids.{Ids}
use Rattle.run_buffers.specs.Memory.{slots, words_of}
use Rattle.run_rooms.specs.Rooms.{Rooms}
use Rattle.run_plans.specs.declared.base.Bound.{Bound}
use Rattle.run_plans.specs.declared.plan.Plan.{Plan}
use Rattle.run_plans.specs.Whole.{IsPlan}
use Rattle.run_plans.specs.Ground.{pair_of}
use Rattle.run_laws.specs.Together.{IsWord, IsPlanned, HaveLengths, Together, Follows, StepsTogether}
use Rattle.spirv_run.specs.declared.turns.Turn.{Turn}
use Rattle.spirv_run.specs.Shared.{lengths_in, put_word, built_ins_of}
use Rattle.spirv_run.specs.Dispatch.{HasAll}
use Rattle.spirv_run.specs.Machines.{Machine, moved_to, AreEnough, AreCounts, At, AreLengths, HasDone}
use Rattle.spirv_run.specs.Parts.{StandsAt, IsMoved}

-- ---- lists

pub mapped : (bounds : List Bound) (n : ℕ) (pair : ℕ × ℕ) → slice_get (map pair_of bounds) n ≡ Some pair → (b : Bound) × (slice_get bounds n ≡ Some b) × (pair_of b ≡ pair)
mapped [] n pair e = absurd cc
mapped (b ∷ bs) zero pair e = let same : pair_of b ≡ pair = cc in (b, refl, same)
mapped (b ∷ bs) (suc n) pair e = mapped bs n pair e

pub map_at : (bounds : List Bound) (n : ℕ) (b : Bound) → slice_get bounds n ≡ Some b → slice_get (map pair_of bounds) n ≡ Some (pair_of b)
map_at [] n b e = absurd cc
map_at (x ∷ xs) zero b e = let same : x ≡ b = cc in ap (λ (y : Bound). Some (pair_of y)) same
map_at (x ∷ xs) (suc n) b e = map_at xs n b e

pub map_count : (bounds : List Bound) → length (map pair_of bounds) ≡ length bounds
map_count [] = refl
map_count (x ∷ xs) = ap (λ (n : ℕ). suc n) (map_count xs)

-- a pair stands in a list, or it does not
abbrev pub StandsOrNot : List (ℕ × ℕ) → ℕ → ℕ → Type 0
StandsOrNot l s g = ((p : ℕ) × (slice_get l p ≡ Some (s, g))) ⊎ ((p : ℕ) → slice_get l p ≢ Some (s, g))

not_first : (x : ℕ × ℕ) (xs : List (ℕ × ℕ)) (s g : ℕ) → ((x.0 ≡ s) × (x.1 ≡ g) → ⊥) → ((p : ℕ) → slice_get xs p ≢ Some (s, g)) → (p : ℕ) → slice_get (x ∷ xs) p ≢ Some (s, g)
not_first x xs s g ne rest zero e = let same : x ≡ (s, g) = cc in ne (ap (λ (z : ℕ × ℕ). z.0) same, ap (λ (z : ℕ × ℕ). z.1) same)
not_first x xs s g ne rest (suc p) e = rest p e

behind_first : (x : ℕ × ℕ) (xs : List (ℕ × ℕ)) (s g : ℕ) → ((x.0 ≡ s) × (x.1 ≡ g) → ⊥) → StandsOrNot xs s g → StandsOrNot (x ∷ xs) s g
behind_first x xs s g ne (inl found) = inl (suc found.0, found.1)
behind_first x xs s g ne (inr none) = inr (not_first x xs s g ne none)

pub stands_or_not : (l : List (ℕ × ℕ)) (s g : ℕ) → StandsOrNot l s g
stands_or_not [] s g = inr (λ p e. cc)
stands_or_not (x ∷ xs) s g = elim (cases_eq x.0 s) [
  | inl e ↦ elim (cases_eq x.1 g) [
    | inl f ↦ inl (0, ap (λ (y : ℕ). Some (y, x.1)) e ∙ ap (λ (y : ℕ). Some (s, y)) f)
    | inr other ↦ behind_first x xs s g (λ same. other same.1) (stands_or_not xs s g)
  ]
  | inr other ↦ behind_first x xs s g (λ same. other same.0) (stands_or_not xs s g)
]

-- ---- the buffers of an image in a memory

-- where nothing is missing, each buffer of the plan has a position
pub has_position : (code : List Instruction) (L : Rooms) (plan : Plan) (memory : List Buffer) (n : ℕ) (b : Bound) → IsPlan code L plan → HasAll code memory
    → slice_get plan.buffers n ≡ Some b → (p : ℕ) × StandsAt memory b p
has_position code L plan memory n b is all stands = elim (stands_or_not (slots memory) b.set b.binding) [
  | inl found ↦ found
  | inr none ↦
      let at : slice_get L.buffers n ≡ Some (pair_of b) = ap (λ (l : List (ℕ × ℕ)). slice_get l n) (sym is.pairs) ∙ map_at plan.buffers n b stands in
      let x = (is.buffers.of n (pair_of b) at).1 in
      let pair = x.2 in
      absurd (all b.set b.binding (record {
        variable = x.0;
        is = x.1;
        set_is = sym (ap (λ (z : ℕ × ℕ). z.0) pair);
        binding_is = sym (ap (λ (z : ℕ × ℕ). z.1) pair);
        lacks = inl none;
      }))
]

-- ---- a step

pub planned : (m : Machine) (ids : Ids) (lengths : ℕ → ℕ → ℕ) (s : State) (a : At m ids lengths s) → IsPlanned m.image a.rooms m.plan.actions.items
planned m ids lengths s a = record { valid = a.valid; rooms = a.is_plan.rooms; are = a.is_plan.actions; buffers = a.is_plan.buffers }

pub have_lengths : (code : List Instruction) (L : Rooms) (plan : Plan) (lengths : ℕ → ℕ → ℕ) (counts : List ℕ) → IsPlan code L plan → AreEnough code lengths
    → length counts ≡ length plan.buffers → AreCounts plan.buffers lengths counts → AllByRecursion IsWord counts → HaveLengths code L lengths counts
have_lengths code L plan lengths counts is enough as_many counted small = record {
  as_many = as_many ∙ (sym (map_count plan.buffers) ∙ ap (λ (l : List (ℕ × ℕ)). length l) is.pairs);
  each = λ n pair at.
      let b = mapped plan.buffers n pair (ap (λ (l : List (ℕ × ℕ)). slice_get l n) is.pairs ∙ at) in
      counted n b.0 b.1 ∙ ap (λ (z : ℕ × ℕ). Some (lengths z.0 z.1)) b.2;
  enough = enough.enough;
  words = small;
}

pub at_moved : (m : Machine) (ids : Ids) (lengths : ℕ → ℕ → ℕ) (s t : State) (next : ℕ) (now : List ℕ) (a : At m ids lengths s)
    → Together m.image.instructions a.rooms (built_ins_of ids) lengths t next now → At (moved_to m next now) ids lengths t
at_moved m ids lengths s t next now a together = record {
  valid = a.valid;
  rooms = a.rooms;
  is_plan = a.is_plan;
  enough = a.enough;
  counted = a.counted;
  together = together;
}

module _ (m : Machine) (ids : Ids) (lengths : ℕ → ℕ → ℕ) (s : State) (a : At m ids lengths s) (before after : List Buffer) (are : AreLengths lengths before)
    (all : HasAll m.image.instructions before) (turn : Turn) (next : ℕ) (now : List ℕ) where
  abbrev Follow : Step → FlatTurn → Type 0
  Follow t f = Follows m.image.instructions a.rooms (built_ins_of ids) lengths m.place m.words t f

  abbrev Move : FlatTurn → Type 0
  Move f = IsMoved m.plan.buffers f m.place m.words before turn next now after

  abbrev Do : Step → Type 0
  Do t = HasDone t (moved_to m next now) ids lengths turn before after

  abbrev Join : State → ℕ → List ℕ → Type 0
  Join t q ws = Together m.image.instructions a.rooms (built_ins_of ids) lengths t q ws

  goes : (t : State) (q : ℕ) (ws : List ℕ) → Follow (Goes t) (GoesTo q ws) → Move (GoesTo q ws) → Do (Goes t)
  goes t q ws f d =
      let there : Join t next ws = subst (λ (p : ℕ). Join t p ws) (sym d.1) f in
      (d.0, at_moved m ids lengths s t next now a (subst (λ (l : List ℕ). Join t next l) (sym d.2) there), d.3)

  -- the buffer with a number
  pub bound_of : (n set binding : ℕ) → slice_get a.rooms.buffers n ≡ Some (set, binding)
      → (b : Bound) × (slice_get m.plan.buffers n ≡ Some b) × (b.set ≡ set) × (b.binding ≡ binding)
  bound_of n set binding at =
      let b = mapped m.plan.buffers n (set, binding) (ap (λ (l : List (ℕ × ℕ)). slice_get l n) a.is_plan.pairs ∙ at) in
      (b.0, b.1, ap (λ (z : ℕ × ℕ). z.0) b.2, ap (λ (z : ℕ × ℕ). z.1) b.2)

  reads : (set binding index n i to : ℕ) (go : ℕ → State) → Follow (Reads set binding index go) (ReadsWord n i to) → Move (ReadsWord n i to) → Do (Reads set binding index go)
  reads set binding index n i to go f d =
      let b = bound_of n set binding f.0 in
      let position = has_position m.image.instructions a.rooms m.plan before n b.0 a.is_plan all b.1 in
      let length_is : lengths_in before b.0.set b.0.binding ≡ lengths set binding =
      are b.0.set b.0.binding ∙ (ap (λ (x : ℕ). lengths x b.0.binding) b.2 ∙ ap (λ (x : ℕ). lengths set x) b.3) in
      let i_is : i ≡ index = f.1 in
      let inside : index < lengths set binding = f.2 in
      let r = d b.0 position.0 b.1 position.1 (omega arith) f.3 in
      let read = r.2 in
      let there : slice_get (words_of before set binding) index ≡ Some read.word =
      ap (λ (x : ℕ). slice_get (words_of before set x) index) (sym b.3) ∙ (ap (λ (x : ℕ). slice_get (words_of before x b.0.binding) index) (sym b.2)
      ∙ (ap (λ (x : ℕ). slice_get (words_of before b.0.set b.0.binding) x) (sym i_is) ∙ read.there)) in
      let joined : Join (go read.word) (suc m.place) (written m.words to (read.word ∷ [])) = f.4 read.word read.small in
      let here : Join (go read.word) next now =
      subst (λ (l : List ℕ). Join (go read.word) next l) (sym read.put) (subst (λ (p : ℕ). Join (go read.word) p (written m.words to (read.word ∷ []))) (sym r.1) joined) in
      (r.0, record { word = read.word; there = there; goes_on = at_moved m ids lengths s (go read.word) next now a here }, r.3)

  writes : (set binding index w n i v : ℕ) (t : State) → Follow (Writes set binding index w t) (WritesWord n i v) → Move (WritesWord n i v) → Do (Writes set binding index w t)
  writes set binding index w n i v t f d =
      let b = bound_of n set binding f.0 in
      let position = has_position m.image.instructions a.rooms m.plan before n b.0 a.is_plan all b.1 in
      let r = d b.0 position.0 b.1 position.1 in
      let joined : Join t (suc m.place) m.words = f.4 in
      let here : Join t next now = subst (λ (l : List ℕ). Join t next l) (sym r.2) (subst (λ (p : ℕ). Join t p m.words) (sym r.1) joined) in
      let put : after ≡ put_word before set binding index w =
      r.3 ∙ (ap (λ (x : ℕ). put_word before x b.0.binding i v) b.2 ∙ (ap (λ (x : ℕ). put_word before set x i v) b.3
      ∙ (ap (λ (x : ℕ). put_word before set binding x v) f.1 ∙ ap (λ (x : ℕ). put_word before set binding index x) f.3))) in
      (r.0, at_moved m ids lengths s t next now a here, put)

  done : (t : Step) (f : FlatTurn) → Follow t f → Move f → Do t
  done (Goes t) (GoesTo q ws) f d = goes t q ws f d
  done (Goes t) (ReadsWord n i to) f d = absurd f
  done (Goes t) (WritesWord n i v) f d = absurd f
  done (Goes t) EndsHere f d = absurd f
  done (Goes t) IsUndefinedHere f d = absurd f
  done (Goes t) IsStuckHere f d = absurd f
  done (Reads set binding index go) (GoesTo q ws) f d = absurd f
  done (Reads set binding index go) (ReadsWord n i to) f d = reads set binding index n i to go f d
  done (Reads set binding index go) (WritesWord n i v) f d = absurd f
  done (Reads set binding index go) EndsHere f d = absurd f
  done (Reads set binding index go) IsUndefinedHere f d = absurd f
  done (Reads set binding index go) IsStuckHere f d = absurd f
  done (Writes set binding index w t) (GoesTo q ws) f d = absurd f
  done (Writes set binding index w t) (ReadsWord n i to) f d = absurd f
  done (Writes set binding index w t) (WritesWord n i v) f d = writes set binding index w n i v t f d
  done (Writes set binding index w t) EndsHere f d = absurd f
  done (Writes set binding index w t) IsUndefinedHere f d = absurd f
  done (Writes set binding index w t) IsStuckHere f d = absurd f
  done Ends (GoesTo q ws) f d = absurd f
  done Ends (ReadsWord n i to) f d = absurd f
  done Ends (WritesWord n i v) f d = absurd f
  done Ends EndsHere f d = d
  done Ends IsUndefinedHere f d = absurd f
  done Ends IsStuckHere f d = absurd f
  done IsUndefined (GoesTo q ws) f d = absurd f
  done IsUndefined (ReadsWord n i to) f d = absurd f
  done IsUndefined (WritesWord n i v) f d = absurd f
  done IsUndefined EndsHere f d = absurd f
  done IsUndefined IsUndefinedHere f d = d
  done IsUndefined IsStuckHere f d = absurd f
  done IsStuck f g d = absurd g

  pub step_done : StepsTogether → m.is_bound ≡ true → length m.counts ≡ length m.plan.buffers → AllByRecursion IsWord m.counts → AllByRecursion IsWord m.words
      → Move (flat_step m.plan.actions.items m.counts m.place m.words) → Do (step (setting m.image.instructions (built_ins_of ids) lengths) s)
  step_done steps bound as_many counts words move =
      let have = have_lengths m.image.instructions a.rooms m.plan lengths m.counts a.is_plan a.enough as_many (a.counted bound) counts in
      let f = steps m.image a.rooms m.plan.actions.items (built_ins_of ids) lengths m.counts s m.place m.words (planned m ids lengths s a) have words a.together in
      done (step (setting m.image.instructions (built_ins_of ids) lengths) s) (flat_step m.plan.actions.items m.counts m.place m.words) f move
