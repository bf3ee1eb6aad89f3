-- A plan comes to one answer, or is passed over, or has one first wrong node: each is what it runs to.
use Rattle.std.proofs.Common.{◌≡◌, refl, ap, ◌∙◌, subst, ◌↔◌, Option, Err}
use Rattle.slang_names.specs.declared.places.Place.{Place}
use Rattle.slang_names.specs.declared.codes.ModuleCode.{ModuleCode}
use Rattle.plans.specs.declared.faults.Fault.{Fault}
use Rattle.plans.specs.declared.faults.Fault.TheVariants as f
use Rattle.plans.specs.Plans.{Verdict, Fine, Wrong, Plan, line, part, onward, run, Comes, says, next, FirstWrong, here, within, later, Answers, Gives}
use Rattle.plans.specs.Lines.{and_then}

module _ {C : Type 0} {Answer : C → Type 0} where
  comes_run : {c : C} {p : Plan Answer c} {o : Option (Answer c)} → Comes c p o → run p ≡ Fine o
  comes_run (says h) = h
  comes_run (next {go = go} x y) = ap (λ v. onward v (λ o. run (go o))) (comes_run x) ∙ comes_run y

  wrong_run : {c : C} {p : Plan Answer c} {at : Place} {k : ModuleCode} → FirstWrong c p at k → run p ≡ Wrong at k
  wrong_run (here h) = h
  wrong_run (within {go = go} x) = ap (λ v. onward v (λ o. run (go o))) (wrong_run x)
  wrong_run (later {go = go} x y) = ap (λ v. onward v (λ o. run (go o))) (comes_run x) ∙ wrong_run y

module _ {C : Type 0} (Answer : C → Type 0) where
  abbrev Meets : (c : C) → Plan Answer c → Verdict (Answer c) → Type 0
  Meets c p (Fine o) = Comes c p o
  Meets c p (Wrong at k) = FirstWrong c p at k

  meets_line : (c : C) (v : Verdict (Answer c)) → Meets c (line v) v
  meets_line c (Fine o) = says refl
  meets_line c (Wrong at k) = here refl

  meets_on : (c d : C) (q : Plan Answer d) (go : Option (Answer d) → Plan Answer c) (o : Option (Answer d)) (v : Verdict (Answer c)) →
      Comes d q o → Meets c (go o) v → Meets c (part q go) v
  meets_on c d q go o (Fine r) x y = next x y
  meets_on c d q go o (Wrong at k) x y = later x y

  meets_part : (c d : C) (q : Plan Answer d) (go : Option (Answer d) → Plan Answer c) (v : Verdict (Answer d)) → Meets d q v →
      ((o : Option (Answer d)) → Meets c (go o) (run (go o))) → Meets c (part q go) (onward v (λ o. run (go o)))
  meets_part c d q go (Fine o) x y = meets_on c d q go o (run (go o)) x (y o)
  meets_part c d q go (Wrong at k) x y = within x

  meets : (c : C) (p : Plan Answer c) → Meets c p (run p)
  meets c (line v) = meets_line c v
  meets c (part {d = d} q go) = meets_part c d q go (run q) (meets d q) (λ o. meets c (go o))

  pub comes_iff : (c : C) (p : Plan Answer c) (o : Option (Answer c)) → Comes c p o ↔ (run p ≡ Fine o)
  comes_iff c p o = (comes_run, λ h. subst (Meets c p) h (meets c p))

  pub wrong_iff : (c : C) (p : Plan Answer c) (at : Place) (k : ModuleCode) → FirstWrong c p at k ↔ (run p ≡ Wrong at k)
  wrong_iff c p at k = (wrong_run, λ h. subst (Meets c p) h (meets c p))

-- ---- for the code: a fault of a part is one of the node

pub fault_goes_on : {A B : Type 0} (e : Fault) (v : Verdict A) (go : Option A → Verdict B) → Answers (Err e) v → Answers (Err e) (onward v go)
fault_goes_on (f.Memory m) v go h = tt
fault_goes_on (f.Wrong p k) v go h = ap (λ w. onward w go) h

pub fault_of_answer : {A B : Type 0} (e : Fault) (v : Verdict A) (go : Option A → Verdict B) → Answers (Err e) v → Gives (Err e) (onward v go)
fault_of_answer (f.Memory m) v go h = tt
fault_of_answer (f.Wrong p k) v go h = ap (λ w. onward w go) h

pub fault_of_given : {A B : Type 0} (e : Fault) (v : Verdict A) (go : Option A → Verdict B) → Gives (Err e) v → Gives (Err e) (onward v go)
fault_of_given (f.Memory m) v go h = tt
fault_of_given (f.Wrong p k) v go h = ap (λ w. onward w go) h

pub given_goes_on : {A B : Type 0} (e : Fault) (v : Verdict A) (go : Option A → Verdict B) → Gives (Err e) v → Answers (Err e) (onward v go)
given_goes_on (f.Memory m) v go h = tt
given_goes_on (f.Wrong p k) v go h = ap (λ w. onward w go) h

-- and a fault of a part of a line is one of the line
pub fault_in_line : {A B : Type 0} (e : Fault) (v : Verdict A) (rest : A → Verdict B) → Gives (Err e) v → Answers (Err e) (and_then v rest)
fault_in_line (f.Memory m) v rest h = tt
fault_in_line (f.Wrong p k) v rest h = ap (λ w. and_then w rest) h

pub fault_of_line : {A B : Type 0} (e : Fault) (v : Verdict A) (rest : A → Verdict B) → Gives (Err e) v → Gives (Err e) (and_then v rest)
fault_of_line (f.Memory m) v rest h = tt
fault_of_line (f.Wrong p k) v rest h = ap (λ w. and_then w rest) h
