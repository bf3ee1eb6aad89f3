-- The simulation: a state of the words stands for the locals of the source, and code runs as its meaning says.
use Rattle.std.proofs.Common.{◌≡◌, ◌≢◌, ℕ, ◌+◌, ◌<◌, ◌≤◌, Bool, true, false, List, [], ◌∷◌, length, Option, Some, None, refl, ap, ◌∙◌, arith}
use Rattle.std.specs.Prelude.{slice_get}
use Rattle.behavior.specs.Values.{Value, Word}
use Rattle.behavior.specs.Meanings.{Write}
use Rattle.behavior.specs.Running.{World, Result, Flow, Next, Broke, Continued, Returned, and_event}
use Rattle.spirv_words.specs.declared.opcodes.Op.TheVariants.{Label, Return, ReturnValue}
use Rattle.spirv_words.specs.declared.images.Instruction.{Instruction}
use Rattle.spirv_words.specs.Machine.{Words, Local, Operand, Plain, Path, InBuffer, result_of, type_of, place_of, definition_of}
use Rattle.spirv_words.specs.Step.{State, Setting, Goes, Writes, act, gives, next}
use Rattle.spirv_words.specs.Runs.{signed}
use Rattle.first_image.specs.Templates.{ins, Tables, Code, Piece}
use Rattle.first_image.proofs.Standing.{HasAt}
use Rattle.first_image.proofs.Acts.{row, at_other, Apart}
use Rattle.first_image.proofs.Comes.{Comes, Follows, comes_refl, comes_on, goes, writes}

-- ---- a call that runs

-- the id of the pointer to a temporary, which is its variable too
abbrev pub temporary : Tables → ℕ → ℕ
temporary t k = t.temporaries + k

-- a call of a function that runs: its code and tables; the first id of its body, below which the ids are fixed, and what they
-- stand for; its temporaries; the depth of the call; its locals, each a variable of some call, and which variables of its
-- callers it may write; the constants that the tables have; and a bound that its clock stays below
pub record Context : Type 0 where
  pub m : Setting
  pub t : Tables
  pub base : ℕ
  pub ids : ℕ → Option Operand
  pub temps : ℕ
  pub level : ℕ
  pub count : ℕ
  pub at_level : ℕ → ℕ
  pub at_variable : ℕ → ℕ
  pub lent : ℕ → ℕ → Bool
  pub used : ℕ → Bool
  pub depth : ℕ

-- the instruction that defines an id gives it this type
pub record HasType (m : Setting) (id type : ℕ) : Type 0 where
  pub by : Instruction
  pub defined : definition_of m.code id ≡ Some by
  pub typed : type_of by.op by.operands ≡ Some type

-- what any body asks of the image around it
pub record IsLinked (m : Setting) (t : Tables) (used : ℕ → Bool) : Type 0 where
  -- each id is found where it is defined
  pub places : (p r : ℕ) (i : Instruction) → slice_get m.code p ≡ Some i → result_of i.op i.operands ≡ Some r → place_of m.code r 0 ≡ Some p
  pub definitions : (p r : ℕ) (i : Instruction) → slice_get m.code p ≡ Some i → result_of i.op i.operands ≡ Some r → definition_of m.code r ≡ Some i
  pub signed_is : (id : ℕ) → m.signed id ≡ signed m.code m.globals id
  pub word : m.globals.shapes t.word ≡ Some (Words false)
  pub constant_typed : (n : ℕ) → used n ≡ true → HasType m (t.constant n) t.word

-- what stands for the ids of the tables when a body begins, and where its locals and temporaries lie
pub record IsReady (c : Context) : Type 0 where
  pub linked : IsLinked c.m c.t c.used
  pub buffer : c.ids c.t.buffer ≡ Some (InBuffer 0 0 0 row)
  pub buffer_low : c.t.buffer < c.base
  pub constant : (n : ℕ) → c.used n ≡ true → c.ids (c.t.constant n) ≡ Some (Plain (Word n))
  pub constant_low : (n : ℕ) → c.used n ≡ true → c.t.constant n < c.base
  pub local_is : (i : ℕ) → i < c.count → c.ids (c.t.pointer i) ≡ Some (Path (Local (c.at_level i) (c.at_variable i)) [])
  pub local_low : (i : ℕ) → i < c.count → c.t.pointer i < c.base
  pub temporary_is : (k : ℕ) → k < c.temps → c.ids (temporary c.t k) ≡ Some (Path (Local c.level (temporary c.t k)) [])
  pub temporaries_low : temporary c.t c.temps ≤ c.base
  -- no two locals, and no local and temporary, are one variable
  pub apart : (i j : ℕ) → i < c.count → j < c.count → j ≢ i → Apart (c.at_level j) (c.at_variable j) (c.at_level i) (c.at_variable i)
  pub apart_temporary : (i k : ℕ) → i < c.count → Apart (c.at_level i) (c.at_variable i) c.level (temporary c.t k)
  -- a local that is a caller's variable is lent
  pub levels : (i : ℕ) → i < c.count → c.at_level i ≤ c.level
  pub lent_is : (i : ℕ) → i < c.count → c.at_level i < c.level → c.lent (c.at_level i) (c.at_variable i) ≡ true

-- ---- states

-- the state has these locals
pub record Sound (c : Context) (s : State) (l : List Value) : Type 0 where
  pub known : (i : ℕ) → i < c.base → s.ids i ≡ c.ids i
  pub level : length s.below ≡ c.level
  pub count : length l ≡ c.count
  pub locals : (i : ℕ) (v : Value) → slice_get l i ≡ Some v → s.memory (c.at_level i) (c.at_variable i) ≡ v

-- code can run from here, at a place, with ids from this one on
pub record Begins (c : Context) (id p : ℕ) (s : State) (w : World) (l : List Value) : Type 0 where
  pub place : s.place ≡ p
  pub low : c.base ≤ id
  pub sound : Sound c s l
  pub time : w.clock < c.depth

-- what a later state has kept: the ids and temporaries below these, the callers, and their variables but for those lent
pub record Later (c : Context) (id temp : ℕ) (s s' : State) : Type 0 where
  pub ids : (i : ℕ) → i < id → s'.ids i ≡ s.ids i
  pub temps : (k : ℕ) → k < temp → s'.memory c.level (temporary c.t k) ≡ s.memory c.level (temporary c.t k)
  pub below : s'.below ≡ s.below
  pub others : (k x : ℕ) → k < c.level → c.lent k x ≡ false → s'.memory k x ≡ s.memory k x

-- from s the run comes to the state s', at a place, with these locals and this world
pub record Reaches (c : Context) (s : State) (w : World) (id temp p : ℕ) (l : List Value) (w' : World) (s' : State) : Type 0 where
  pub comes : Comes c.m s w s' w'
  pub place : s'.place ≡ p
  pub later : Later c id temp s s'
  pub sound : Sound c s' l
  pub less : w'.clock ≤ w.clock

-- the same, for some state
pub record Arrives (c : Context) (s : State) (w : World) (id temp p : ℕ) (l : List Value) (w' : World) : Type 0 where
  pub to : State
  pub there : Reaches c s w id temp p l w' to

-- the same, with a value under an id
pub record Gives (c : Context) (s : State) (w : World) (id temp p value above : ℕ) (v : Value) (l : List Value) (w' : World) : Type 0 where
  pub to : State
  pub there : Reaches c s w id temp p l w' to
  pub has : to.ids value ≡ Some (Plain v)
  pub low : value < above

-- ---- code and meaning

-- the code of an expression, which is a function of the next id and the next temporary, gives the id of its value this type,
-- and runs as the expression's meaning says
pub record ExprRuns (c : Context) (type : ℕ) (code : ℕ → ℕ → Code) (means : List Value → World → Result Value) : Type 0 where
  pub more_ids : (id temp : ℕ) → id ≤ (code id temp).id
  pub more_temps : (id temp : ℕ) → temp ≤ (code id temp).temp
  pub typed : (id temp p : ℕ) → HasAt c.m.code p (code id temp).instructions → HasType c.m (code id temp).value type
  pub runs : (id temp p : ℕ) (s : State) (w : World) (l : List Value) → Begins c id p s w l → HasAt c.m.code p (code id temp).instructions → (code id temp).temp ≤ c.temps → Follows c.m s w (Gives c s w id temp (p + length (code id temp).instructions) (code id temp).value (code id temp).id) (means l w)

-- the labels to which a statement may jump: out of the loop, and to its next turn
pub record Exits : Type 0 where
  pub broken : ℕ
  pub continued : ℕ

-- from s the run comes to a return without a value
pub record Returns (c : Context) (s : State) (w : World) (id temp : ℕ) (l : List Value) (w' : World) : Type 0 where
  pub to : State
  pub place : ℕ
  pub there : Reaches c s w id temp place l w' to
  pub is : slice_get c.m.code place ≡ Some (ins Return [])

-- from s the run comes to a return of a value
pub record Leaves (c : Context) (s : State) (w : World) (id temp : ℕ) (v : Value) (l : List Value) (w' : World) : Type 0 where
  pub to : State
  pub place : ℕ
  pub value : ℕ
  pub there : Reaches c s w id temp place l w' to
  pub is : slice_get c.m.code place ≡ Some (ins ReturnValue (value ∷ []))
  pub has : to.ids value ≡ Some (Plain v)

-- where a statement's code leads: past it, to a label, or to a return
abbrev pub Lands : Context → State → World → ℕ → ℕ → ℕ → Exits → Flow → List Value → World → Type 0
Lands c s w id temp p x Next l w' = Arrives c s w id temp p l w'
Lands c s w id temp p x Broke l w' = (q : ℕ) → slice_get c.m.code q ≡ Some (ins Label (x.broken ∷ [])) → Arrives c s w id temp q l w'
Lands c s w id temp p x Continued l w' = (q : ℕ) → slice_get c.m.code q ≡ Some (ins Label (x.continued ∷ [])) → Arrives c s w id temp q l w'
Lands c s w id temp p x (Returned None) l w' = Returns c s w id temp l w'
Lands c s w id temp p x (Returned (Some v)) l w' = Leaves c s w id temp v l w'

-- the code of a statement, which is a function of its exits, the next id and the next temporary, runs as its meaning says
pub record StmtRuns (c : Context) (code : Exits → ℕ → ℕ → Piece) (means : List Value → World → Result Flow) : Type 0 where
  pub more_ids : (x : Exits) (id temp : ℕ) → id ≤ (code x id temp).id
  pub more_temps : (x : Exits) (id temp : ℕ) → temp ≤ (code x id temp).temp
  pub runs : (x : Exits) (id temp p : ℕ) (s : State) (w : World) (l : List Value) → Begins c id p s w l → HasAt c.m.code p (code x id temp).instructions → (code x id temp).temp ≤ c.temps → Follows c.m s w (Lands c s w id temp (p + length (code x id temp).instructions) x) (means l w)

-- ---- how arrivals grow

module _ (c : Context) where
  pub later_refl : (id temp : ℕ) (s : State) → Later c id temp s s
  later_refl id temp s = record { ids = λ i lt. refl; temps = λ k lt. refl; below = refl; others = λ k x lt free. refl }

  pub later_on : (id temp id1 temp1 : ℕ) (s s1 s2 : State) → id ≤ id1 → temp ≤ temp1 → Later c id temp s s1 → Later c id1 temp1 s1 s2 → Later c id temp s s2
  later_on id temp id1 temp1 s s1 s2 i t a b = record {
    ids = λ k lt. b.ids k (omega arith) ∙ a.ids k lt;
    temps = λ k lt. b.temps k (omega arith) ∙ a.temps k lt;
    below = b.below ∙ a.below;
    others = λ k x lt free. b.others k x lt free ∙ a.others k x lt free;
  }

  -- a state reaches itself
  pub reaches_here : {s : State} {w : World} {id p : ℕ} {l : List Value} (temp : ℕ) → Begins c id p s w l → Reaches c s w id temp p l w s
  reaches_here {s = s} {w = w} {id = id} temp from = record { comes = comes_refl c.m s w; place = from.place; later = later_refl id temp s; sound = from.sound; less = omega arith }

  -- code can run on from where a run has come to
  pub begins_on : {s s1 : State} {w w1 : World} {id temp p p1 : ℕ} {l l1 : List Value} (id1 : ℕ) → Begins c id p s w l → id ≤ id1 → Reaches c s w id temp p1 l1 w1 s1 → Begins c id1 p1 s1 w1 l1
  begins_on id1 from more a = record { place = a.place; low = omega (arith, from.low); sound = a.sound; time = omega (arith, from.time, a.less) }

  -- one part of the code and then another
  pub reaches_on : {s s1 s2 : State} {w w1 w2 : World} {id temp id1 temp1 p1 p2 : ℕ} {l1 l2 : List Value} → Reaches c s w id temp p1 l1 w1 s1 → id ≤ id1 → temp ≤ temp1 → Reaches c s1 w1 id1 temp1 p2 l2 w2 s2 → Reaches c s w id temp p2 l2 w2 s2
  reaches_on {s = s} {s1 = s1} {s2 = s2} {w = w} {w1 = w1} {w2 = w2} {id = id} {temp = temp} {id1 = id1} {temp1 = temp1} a i t b = record {
    comes = comes_on c.m s s1 s2 w w1 w2 a.comes b.comes;
    place = b.place;
    later = later_on id temp id1 temp1 s s1 s2 i t a.later b.later;
    sound = b.sound;
    less = omega (arith, a.less, b.less);
  }

  -- the place, counted in another way
  pub reaches_at : {s s1 : State} {w w1 : World} {id temp p1 p2 : ℕ} {l1 : List Value} → p1 ≡ p2 → Reaches c s w id temp p1 l1 w1 s1 → Reaches c s w id temp p2 l1 w1 s1
  reaches_at e a = record { comes = a.comes; place = a.place ∙ e; later = a.later; sound = a.sound; less = a.less }

  -- the instruction at the place where a run has come to
  pub here : {s s1 : State} {w w1 : World} {id temp p : ℕ} {l : List Value} {i : Instruction} → Reaches c s w id temp p l w1 s1 → slice_get c.m.code p ≡ Some i → slice_get c.m.code s1.place ≡ Some i
  here a h = ap (λ p. slice_get c.m.code p) a.place ∙ h

  -- one instruction more, which gives a result
  pub result_reaches : {s s1 : State} {w w1 : World} {id temp p : ℕ} {l : List Value} (i : Instruction) (r : ℕ) (o : Operand) → Reaches c s w id temp p l w1 s1 → slice_get c.m.code p ≡ Some i → id ≤ r → c.base ≤ r → act c.m i.op i.operands s1 ≡ Goes (gives s1 r o) → Reaches c s w id temp (p + 1) l w1 (gives s1 r o)
  result_reaches {s = s} {s1 = s1} {w = w} {w1 = w1} i r o a h new old e = record {
    comes = comes_on c.m s s1 (gives s1 r o) w w1 w1 a.comes (goes c.m s1 w1 i (here a h) (gives s1 r o) e);
    place = ap (λ p. p + 1) a.place;
    later = record {
      ids = λ k lt. at_other s1.ids r o k (λ e. absurd (omega arith)) ∙ a.later.ids k lt;
      temps = a.later.temps;
      below = a.later.below;
      others = a.later.others;
    };
    sound = record {
      known = λ k lt. at_other s1.ids r o k (λ e. absurd (omega arith)) ∙ a.sound.known k lt;
      level = a.sound.level;
      count = a.sound.count;
      locals = a.sound.locals;
    };
    less = a.less;
  }

  -- one instruction more, which writes a word of a buffer
  pub write_reaches : {s s1 : State} {w w1 : World} {id temp p : ℕ} {l : List Value} (i : Instruction) (set binding index word : ℕ) → Reaches c s w id temp p l w1 s1 → slice_get c.m.code p ≡ Some i → act c.m i.op i.operands s1 ≡ Writes set binding index word (next s1) → Reaches c s w id temp (p + 1) l (and_event w1 (Write set binding index word)) (next s1)
  write_reaches {s = s} {s1 = s1} {w = w} {w1 = w1} i set binding index word a h e = record {
    comes = comes_on c.m s s1 (next s1) w w1 (and_event w1 (Write set binding index word)) a.comes (writes c.m s1 w1 i (here a h) set binding index word (next s1) e);
    place = ap (λ p. p + 1) a.place;
    later = record { ids = a.later.ids; temps = a.later.temps; below = a.later.below; others = a.later.others };
    sound = record { known = a.sound.known; level = a.sound.level; count = a.sound.count; locals = a.sound.locals };
    less = a.less;
  }
