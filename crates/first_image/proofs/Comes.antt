-- A run of the words comes from one state to another, or is over; and what each combinator of the source's meaning asks of it.
use Rattle.std.proofs.Common.{◌≡◌, ℕ, suc, ◌+◌, ◌≤◌, Bool, true, false, List, Option, Some, None, refl, ap, ◌∙◌, arith}
use Rattle.std.specs.Prelude.{slice_get}
use Rattle.behavior.specs.Values.{Value, Truth, Word, Whole, Way, Found, Outside, Wrong}
use Rattle.behavior.specs.Meanings.{Event, Write, End, Done, Out, Undefined, Stuck}
use Rattle.behavior.specs.Running.{World, Result, Went, Ends as Ended, then, on_word, on_local, on_way, choose, and_event}
use Rattle.spirv_words.specs.declared.images.Instruction.{Instruction}
use Rattle.spirv_words.specs.Step.{State, Setting, Turn, Goes, Writes, Ends, IsUndefined, with_some, act}
use Rattle.spirv_words.specs.Runs.{after, run}

-- from s, with this world, the run comes to s' with that world, in at least as many steps as units of the clock were taken
pub record Comes (m : Setting) (s : State) (w : World) (s' : State) (w' : World) : Type 0 where
  pub by : (k : ℕ) → (j : ℕ) × (k + w.clock ≤ j + w'.clock) × (run m j s w.answers w.events ≡ run m k s' w'.answers w'.events)

-- from s the run is over, after at least as many steps as the clock has units
pub record Over (m : Setting) (s : State) (w : World) (events : List Event) (ending : End) : Type 0 where
  pub steps : ℕ
  pub enough : w.clock ≤ steps
  pub is : run m steps s w.answers w.events ≡ record { events = events; ending = ending }

-- the same, but nothing is claimed where the source is stuck
abbrev pub Fails : Setting → State → World → List Event → End → Type 0
Fails m s w events Done = Over m s w events Done
Fails m s w events Out = Over m s w events Out
Fails m s w events Undefined = Over m s w events Undefined
Fails m s w events Stuck = Unit {0}

-- what a result of the source asks of the words: P where the source goes on, and the same end where it ends
abbrev pub Follows : {A : Type 0} → Setting → State → World → (A → List Value → World → Type 0) → Result A → Type 0
Follows m s w P (Went a l w') = P a l w'
Follows m s w P (Ended events ending) = Fails m s w events ending

-- ---- one run after another

pub comes_refl : (m : Setting) (s : State) (w : World) → Comes m s w s w
comes_refl m s w = record { by = λ k. (k, omega arith, refl) }

pub comes_on : (m : Setting) (s s1 s2 : State) (w w1 w2 : World) → Comes m s w s1 w1 → Comes m s1 w1 s2 w2 → Comes m s w s2 w2
comes_on m s s1 s2 w w1 w2 a b = record { by = λ k. let y = b.by k in let x = a.by y.0 in (x.0, omega (arith, x.1, y.1), x.2 ∙ y.2) }

pub over_on : (m : Setting) (s s1 : State) (w w1 : World) (events : List Event) (ending : End) → Comes m s w s1 w1 → Over m s1 w1 events ending → Over m s w events ending
over_on m s s1 w w1 events ending a o =
    let x = a.by o.steps in
    record { steps = x.0; enough = omega (arith, x.1, o.enough); is = x.2 ∙ o.is }

pub fails_on : (m : Setting) (s s1 : State) (w w1 : World) (events : List Event) (ending : End) → Comes m s w s1 w1 → Fails m s1 w1 events ending → Fails m s w events ending
fails_on m s s1 w w1 events Done a o = over_on m s s1 w w1 events Done a o
fails_on m s s1 w w1 events Out a o = over_on m s s1 w w1 events Out a o
fails_on m s s1 w w1 events Undefined a o = over_on m s s1 w w1 events Undefined a o
fails_on m s s1 w w1 events Stuck a o = tt

-- ---- one rule for each combinator

-- what follows from a state that the run comes to, follows from where it came from
pub follows_on : {A : Type 0} (m : Setting) (s s1 : State) (w w1 : World) (P Q : A → List Value → World → Type 0) (r : Result A) → Comes m s w s1 w1 → ((a : A) (l : List Value) (w2 : World) → P a l w2 → Q a l w2) → Follows m s1 w1 P r → Follows m s w Q r
follows_on m s s1 w w1 P Q (Went a l w2) c f h = f a l w2 h
follows_on m s s1 w w1 P Q (Ended events ending) c f h = fails_on m s s1 w w1 events ending c h

pub then_follows : {A B : Type 0} (m : Setting) (s : State) (w : World) (P : A → List Value → World → Type 0) (Q : B → List Value → World → Type 0) (r : Result A) (go : A → List Value → World → Result B) → Follows m s w P r → ((a : A) (l : List Value) (w1 : World) → P a l w1 → Follows m s w Q (go a l w1)) → Follows m s w Q (then r go)
then_follows m s w P Q (Went a l w1) go h f = f a l w1 h
then_follows m s w P Q (Ended events ending) go h f = h

pub word_follows : {A : Type 0} (m : Setting) (s : State) (w : World) (P : A → List Value → World → Type 0) (v : Value) (w1 : World) (go : ℕ → Result A) → ((n : ℕ) → v ≡ Word n → Follows m s w P (go n)) → Follows m s w P (on_word v w1 go)
word_follows m s w P (Word n) w1 go f = f n refl
word_follows m s w P (Truth b) w1 go f = tt
word_follows m s w P (Whole vs) w1 go f = tt

pub local_follows : {A : Type 0} (m : Setting) (s : State) (w : World) (P : A → List Value → World → Type 0) (o : Option Value) (w1 : World) (go : Value → Result A) → ((v : Value) → o ≡ Some v → Follows m s w P (go v)) → Follows m s w P (on_local o w1 go)
local_follows m s w P (Some v) w1 go f = f v refl
local_follows m s w P None w1 go f = tt

pub way_follows : {A : Type 0} (m : Setting) (s : State) (w : World) (P : A → List Value → World → Type 0) (o : Way) (w1 : World) (go : Value → Result A) → ((v : Value) → o ≡ Found v → Follows m s w P (go v)) → (o ≡ Outside → Fails m s w w1.events Undefined) → Follows m s w P (on_way o w1 go)
way_follows m s w P (Found v) w1 go f g = f v refl
way_follows m s w P Outside w1 go f g = g refl
way_follows m s w P Wrong w1 go f g = tt

pub choose_follows : {A : Type 0} (m : Setting) (s : State) (w : World) (P : A → List Value → World → Type 0) (b : Bool) (x y : Result A) → (b ≡ true → Follows m s w P x) → (b ≡ false → Follows m s w P y) → Follows m s w P (choose b x y)
choose_follows m s w P true x y f g = f refl
choose_follows m s w P false x y f g = g refl

-- ---- one step, by what the instruction at the place does

module _ (m : Setting) (s : State) (w : World) (i : Instruction) (here : slice_get m.code s.place ≡ Some i) where
  steps_as : (t : Turn) → act m i.op i.operands s ≡ t → (k : ℕ) → run m (suc k) s w.answers w.events ≡ after t (run m k) w.answers w.events
  steps_as t e k =
      ap (λ o. after (with_some o (λ i. act m i.op i.operands s)) (run m k) w.answers w.events) here
      ∙ ap (λ t. after t (run m k) w.answers w.events) e

  pub goes : (s' : State) → act m i.op i.operands s ≡ Goes s' → Comes m s w s' w
  goes s' e = record { by = λ k. (suc k, omega arith, steps_as (Goes s') e k) }

  pub writes : (set binding index word : ℕ) (s' : State) → act m i.op i.operands s ≡ Writes set binding index word s' → Comes m s w s' (and_event w (Write set binding index word))
  writes set binding index word s' e = record { by = λ k. (suc k, omega arith, steps_as (Writes set binding index word s') e k) }

  pub is_undefined : act m i.op i.operands s ≡ IsUndefined → Over m s w w.events Undefined
  is_undefined e = record { steps = suc w.clock; enough = omega arith; is = steps_as IsUndefined e w.clock }

  pub ends : act m i.op i.operands s ≡ Ends → Over m s w w.events Done
  ends e = record { steps = suc w.clock; enough = omega arith; is = steps_as Ends e w.clock }
