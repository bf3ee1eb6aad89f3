-- What a part of a body does, as a function of the locals and of what the run has left: it goes on with a result, or it is the
-- end of the whole run. All meanings are made of the few actions here.
use Rattle.std.specs.Prelude.{ℕ, zero, suc, Bool, true, false, ◌&&◌, List, [], ◌∷◌, ◌++◌, Option, Some, None, slice_get, slice_set}
use Rattle.behavior.specs.Values.{Value, Truth, Word, Whole, Way}
use Rattle.behavior.specs.Operations.{is_negative}
use Rattle.behavior.specs.Meanings.{Read, Write, End, Out, Undefined, Stuck}
use Rattle.behavior.specs.Running.{World, Result, Went, Ends, then, Flow, Next, Broke, Continued, Returned, then_next, and_event, on_word, on_local, on_way}

abbrev pub Action : Type 0 → Type 0
Action A = List Value → World → Result A

-- on with a result, and the end of the run
abbrev pub gives : {A : Type 0} → A → Action A
gives a l w = Went a l w

abbrev pub ends : {A : Type 0} → End → Action A
ends ending l w = Ends w.events ending

-- an action, and with its result another
abbrev pub and_with : {A B : Type 0} → Action A → (A → Action B) → Action B
and_with m k l w = then (m l w) k

-- one of two actions, and the other is not done
abbrev pub either : {A : Type 0} → Bool → Action A → Action A → Action A
either true a b = a
either false a b = b

-- a value that was found; out of range it is undefined
abbrev pub with_way : {A : Type 0} → Way → (Value → Action A) → Action A
with_way way k l w = on_way way w (λ v. k v l w)

abbrev pub with_word : {A : Type 0} → Value → (ℕ → Action A) → Action A
with_word v k l w = on_word v w (λ n. k n l w)

abbrev pub with_truth : {A : Type 0} → Value → (Bool → Action A) → Action A
with_truth (Truth b) k = k b
with_truth (Word n) k = ends Stuck
with_truth (Whole vs) k = ends Stuck

-- something that is there
abbrev pub with_some : {A B : Type 0} → Option B → (B → Action A) → Action A
with_some (Some b) k = k b
with_some None k = ends Stuck

-- what a local holds
abbrev pub with_local : {A : Type 0} → ℕ → (Value → Action A) → Action A
with_local n k l w = on_local (slice_get l n) w (λ v. k v l w)

-- a local holds something else from here on
abbrev pub set_local : ℕ → Value → Action Flow
set_local n v l w = Went Next (slice_set l n v) w

-- a number among those that lead to a part of a value, with the sign of its type
pub record Numbered : Type 0 where
  pub signed : Bool
  pub value : Value

-- the numbers, from left to right; an int below 0 is out of every range
abbrev pub with_numbers : {A : Type 0} → List Numbered → (List ℕ → Action A) → Action A
with_numbers [] k = k []
with_numbers (i ∷ is) k =
    with_word i.value (λ n. either (i.signed && is_negative n) (ends Undefined) (with_numbers is (λ ns. k (n ∷ ns))))

-- a word of buffer data is read: the next of the answers
abbrev pub answered : List ℕ → ℕ → ℕ → ℕ → Action Value
answered [] set binding index l w = Ends w.events Out
answered (a ∷ answers) set binding index l w =
    Went (Word a) l (record { answers = answers; events = w.events ++ Read set binding index a ∷ []; clock = w.clock })

abbrev pub ask : ℕ → ℕ → ℕ → Action Value
ask set binding index l w = answered w.answers set binding index l w

-- a word of buffer data is written
abbrev pub tell : ℕ → ℕ → ℕ → ℕ → Action Flow
tell set binding index word l w = Went Next l (and_event w (Write set binding index word))

-- one turn of a loop, or one call, where one is left
abbrev pub paid : {A : Type 0} → ℕ → Action A → Action A
paid zero m l w = Ends w.events Out
paid (suc c) m l w = m l (record { answers = w.answers; events = w.events; clock = c })

abbrev pub pay : {A : Type 0} → Action A → Action A
pay m l w = paid w.clock m l w

-- a statement, and another where it goes on
abbrev pub and_next : Action Flow → Action Flow → Action Flow
and_next m k l w = then_next (m l w) k

-- the body of a loop, and what follows it in the same turn; the loop is over where the body broke out of it
abbrev pub then_turn : Result Flow → Action Flow → Result Flow
then_turn (Ends events ending) k = Ends events ending
then_turn (Went Next l w) k = k l w
then_turn (Went Broke l w) k = Went Next l w
then_turn (Went Continued l w) k = k l w
then_turn (Went (Returned v) l w) k = Went (Returned v) l w

abbrev pub and_turn : Action Flow → Action Flow → Action Flow
and_turn m k l w = then_turn (m l w) k

-- so many turns at the most: the condition, the turn's body, the step. A turn is paid for between the condition and the body.
abbrev pub turns : ℕ → Action Value → Action Flow → Action Flow → Action Flow
turns zero test step body = ends Out
turns (suc d) test step body =
    and_with test (λ v. with_truth v (λ again. either again
    (pay (and_turn body (and_next step (turns d test step body))))
    (gives Next)))

-- what a call does, to locals of its own, and back at the caller's
abbrev pub back_at : {A : Type 0} → Result A → List Value → Result A
back_at (Ends events ending) l = Ends events ending
back_at (Went a inner w) l = Went a l w
