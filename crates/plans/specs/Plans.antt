-- Plans: what is judged of a node, and in which order. A plan is a node of the text with its parts in their order; its line
-- is tried when all parts were judged. Nothing here knows of a language.
use Rattle.std.specs.Prelude.{◌≡◌, List, [], ◌∷◌, ◌++◌, Option, Some, None, Result, Ok, Err}
use Rattle.slang_names.specs.declared.places.Place.{Place}
use Rattle.slang_names.specs.declared.codes.ModuleCode.{ModuleCode}
use Rattle.plans.specs.declared.faults.Fault.{Fault}
use Rattle.plans.specs.declared.faults.Fault.TheVariants as f

-- an answer, or none where it rests on something that stands later in the text and is wrong; or a refusal
pub data Verdict (A : Type 0) : Type 0 where
  Fine : Option A → Verdict A
  Wrong : Place → ModuleCode → Verdict A

pattern abbrev pub Good : {A : Type 0} → A → Verdict A
Good a = Fine (Some a)

pattern abbrev pub Held : {A : Type 0} → Verdict A
Held = Fine None

-- a line that is tried; or a part first, and what is to be done with its answer, if it has one
pub data Plan {C : Type 0} (Answer : C → Type 0) : C → Type 0 where
  line : {c : C} → Verdict (Answer c) → Plan Answer c
  part : {c d : C} → Plan Answer d → (Option (Answer d) → Plan Answer c) → Plan Answer c

abbrev pub onward : {A B : Type 0} → Verdict A → (Option A → Verdict B) → Verdict B
onward (Fine o) go = go o
onward (Wrong p k) go = Wrong p k

-- what a plan comes to
abbrev pub run : {C : Type 0} {Answer : C → Type 0} {c : C} → Plan Answer c → Verdict (Answer c)
run (line v) = v
run (part p go) = onward (run p) (λ a. run (go a))

-- the node comes to that answer, or is passed over, where no part of it is wrong
pub data Comes {C : Type 0} {Answer : C → Type 0} : (c : C) → Plan Answer c → Option (Answer c) → Type 0 where
  says : {c : C} {v : Verdict (Answer c)} {o : Option (Answer c)} → v ≡ Fine o → Comes c (line v) o
  next : {c d : C} {q : Plan Answer d} {go : Option (Answer d) → Plan Answer c} {o : Option (Answer d)} {r : Option (Answer c)} →
      Comes d q o → Comes c (go o) r → Comes c (part q go) r

-- the first wrong node: the node itself, where no part is wrong, or the first wrong one of its first part that has one
pub data FirstWrong {C : Type 0} {Answer : C → Type 0} : (c : C) → Plan Answer c → Place → ModuleCode → Type 0 where
  here : {c : C} {v : Verdict (Answer c)} {p : Place} {k : ModuleCode} → v ≡ Wrong p k → FirstWrong c (line v) p k
  within : {c d : C} {q : Plan Answer d} {go : Option (Answer d) → Plan Answer c} {p : Place} {k : ModuleCode} →
      FirstWrong d q p k → FirstWrong c (part q go) p k
  later : {c d : C} {q : Plan Answer d} {go : Option (Answer d) → Plan Answer c} {o : Option (Answer d)} {p : Place} {k : ModuleCode} →
      Comes d q o → FirstWrong c (go o) p k → FirstWrong c (part q go) p k

-- ---- the shapes of nodes

abbrev pub with_one : {A B : Type 0} → Option A → (A → Verdict B) → Verdict B
with_one (Some a) f = f a
with_one None f = Held

abbrev pub with_two : {A B D : Type 0} → Option A → Option B → (A → B → Verdict D) → Verdict D
with_two (Some a) (Some b) f = f a b
with_two a b f = Held

abbrev pub with_three : {A B D E : Type 0} → Option A → Option B → Option D → (A → B → D → Verdict E) → Verdict E
with_three (Some a) (Some b) (Some d) f = f a b d
with_three a b d f = Held

abbrev pub with_last : {A : Type 0} → Option (List A) → Option A → Option (List A)
with_last (Some xs) (Some x) = Some (xs ++ x ∷ [])
with_last xs x = None

abbrev pub flat : {A : Type 0} → Option (Option A) → Option A
flat (Some o) = o
flat None = None

abbrev pub one : {C : Type 0} {Answer : C → Type 0} {c d : C} → Plan Answer d → (Answer d → Verdict (Answer c)) → Plan Answer c
one x f = part x (λ a. line (with_one a f))

abbrev pub two : {C : Type 0} {Answer : C → Type 0} {c d e : C} → Plan Answer d → Plan Answer e → (Answer d → Answer e → Verdict (Answer c)) → Plan Answer c
two x y f = part x (λ a. part y (λ b. line (with_two a b f)))

abbrev pub three : {C : Type 0} {Answer : C → Type 0} {c d e g : C} → Plan Answer d → Plan Answer e → Plan Answer g →
    (Answer d → Answer e → Answer g → Verdict (Answer c)) → Plan Answer c
three x y z f = part x (λ a. part y (λ b. part z (λ d. line (with_three a b d f))))

abbrev pub when : {C : Type 0} {Answer : C → Type 0} {A : Type 0} {c : C} → Option A → (A → Plan Answer c) → Plan Answer c
when (Some a) f = f a
when None f = line Held

-- goes on with the answer of the first
abbrev pub then : {C : Type 0} {Answer : C → Type 0} {c d : C} → Plan Answer d → (Answer d → Plan Answer c) → Plan Answer c
then p f = part p (λ o. when o f)

-- many in order: each says what it makes of what is known so far
unfoldable pub walk : {C : Type 0} {Answer : C → Type 0} {X : Type 0} {c : C} → (X → Answer c → Plan Answer c) → List X → Answer c → Plan Answer c
walk step [] s = line (Good s)
walk step (x ∷ xs) s = part (step x s) (λ o. when o (walk step xs))

-- ---- what the code gives is that verdict, or memory ran out
abbrev pub Answers : {A : Type 0} → Result (Option A) Fault → Verdict A → Type 0
Answers (Ok o) v = v ≡ Fine o
Answers (Err (f.Memory a)) v = Unit {0}
Answers (Err (f.Wrong p k)) v = v ≡ Wrong p k

-- the same where an answer is never missing
abbrev pub Gives : {A : Type 0} → Result A Fault → Verdict A → Type 0
Gives (Ok a) v = v ≡ Good a
Gives (Err (f.Memory a)) v = Unit {0}
Gives (Err (f.Wrong p k)) v = v ≡ Wrong p k
