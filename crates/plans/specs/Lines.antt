-- What a line is written with: its rules, in their order.
use Rattle.std.specs.Prelude.{Bool, cond, Option, Some, None}
use Rattle.slang_names.specs.declared.places.Place.{Place}
use Rattle.slang_names.specs.declared.codes.ModuleCode.{ModuleCode}
use Rattle.plans.specs.Plans.{Verdict, Fine, Held, Wrong}

-- a rule: where it is broken, its code at the place, and else on
abbrev pub demand : {A : Type 0} → Bool → Place → ModuleCode → Verdict A → Verdict A
demand b p k next = cond b next (Wrong p k)

-- the rule that something is there
abbrev pub found : {A B : Type 0} → Option A → Place → ModuleCode → (A → Verdict B) → Verdict B
found (Some a) p k next = next a
found None p k next = Wrong p k

-- what rests on something else that has no answer is passed over
abbrev pub known : {A B : Type 0} → Option A → (A → Verdict B) → Verdict B
known (Some a) next = next a
known None next = Held

-- one part of a line, and then the rest
abbrev pub and_then : {A B : Type 0} → Verdict A → (A → Verdict B) → Verdict B
and_then (Fine (Some a)) next = next a
and_then (Fine None) next = Held
and_then (Wrong p k) next = Wrong p k
