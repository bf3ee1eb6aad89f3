-- A module's verdict is never that it is passed over.
use Rattle.std.proofs.Common.{◌≡◌, ◌⊎◌, inl, inr, ℕ, Bool, true, false, not, cond, List, [], ◌∷◌, ◌++◌, Option, Some, None, bytes_eq, refl, ap, subst}
use Rattle.slang_names.specs.declared.places.Place.{Place}
use Rattle.slang_names.specs.declared.codes.ModuleCode.{ModuleCode}
use Rattle.slang_names.specs.declared.codes.ModuleCode.TheVariants as k
use Rattle.slang_tree.specs.declared.file.File.{File}
use Rattle.slang_tree.specs.declared.file.ModuleLine.{ModuleLine}
use Rattle.slang_core.specs.declared.bodies.Body.{Body}
use Rattle.slang_core.specs.declared.declarations.CoreModule.{CoreModule}
use Rattle.plans.specs.Plans.{Verdict, Fine, Good, Wrong, line, onward, run, when, then, walk, Comes}
use Rattle.plans.specs.Lines.{demand}
use Rattle.plans.proofs.Exact.{comes_iff, wrong_iff}
use Rattle.early_forms.specs.Early.{has_early_form}
use Rattle.module_scope.specs.declared.heads.Head.{Head}
use Rattle.module_scope.specs.declared.heads.Outline.{Outline}
use Rattle.module_scope.specs.declared.heads.Signature.{Signature}
use Rattle.module_scope.specs.Known.{function_at}
use Rattle.declared_names.specs.Declarations.{Declaration, Node, a_struct, an_alias, a_function, some_fields, a_constant, a_global, an_unbuilt, declarations}
use Rattle.repeated_names.specs.Twice.{twice_line, refused_twice, first_twice, all_names}
use Rattle.type_lines.specs.Classes.{Class, Answer, Does, checks, modules, some_heads, some_bodies}
use Rattle.type_rules.specs.HeadPlans.{judged_plan, next_head, settled, outline_of}
use Rattle.type_rules.specs.StatementPlans.{certain, body_plan}
use Rattle.type_rules.specs.Leading.{leads}
use Rattle.type_rules.specs.HeadNeeds.{needs_of}
use Rattle.type_rules.specs.Containment.{self_line, containments, containment_line}
use Rattle.type_rules.specs.Modules.{own_name_line, own_import, no_import, imported, imports_line, add_body, function_body, next_body, first, judged, bodies_plan, behind_heads, heads_plan, declarations_plan, names_plan, nowhere, built_line, module_plan, ModuleOK, FirstWrong}

-- an answer or a refusal
abbrev IsTold : {A : Type 0} → Verdict A → Type 0
IsTold (Fine (Some a)) = Unit {0}
IsTold (Fine None) = ⊥
IsTold (Wrong p k) = Unit {0}

told_onward : {A B : Type 0} (v : Verdict A) (go : Option A → Verdict B) → IsTold v → ((a : A) → IsTold (go (Some a))) → IsTold (onward v go)
told_onward (Fine (Some a)) go h f = f a
told_onward (Fine None) go h f = absurd h
told_onward (Wrong p k) go h f = tt

told_always : {A B : Type 0} (v : Verdict A) (go : Option A → Verdict B) → ((o : Option A) → IsTold (go o)) → IsTold (onward v go)
told_always (Fine o) go f = f o
told_always (Wrong p k) go f = tt

told_demand : {A : Type 0} (b : Bool) (p : Place) (k : ModuleCode) (v : Verdict A) → IsTold v → IsTold (demand b p k v)
told_demand true p k v h = h
told_demand false p k v h = tt

told_walk : {X : Type 0} {c : Class} (step : X → Answer c → Does c) (xs : List X) (s : Answer c) → ((x : X) (s : Answer c) → IsTold (run (step x s))) → IsTold (run (walk step xs s))
unfolding walk
told_walk step [] s h = tt
told_walk step (x ∷ xs) s h = told_onward (run (step x s)) (λ o. run (when o (walk step xs))) (h x s) (λ a. told_walk step xs a h)

told_then : {c d : Class} (p : Does d) (f : Answer d → Does c) → IsTold (run p) → ((a : Answer d) → IsTold (run (f a))) → IsTold (run (then p f))
told_then p f h g = told_onward (run p) (λ o. run (when o f)) h g

told_first : (v : Verdict (Unit {0})) (p : Does modules) → IsTold v → IsTold (run p) → IsTold (run (first v p))
told_first v p h g = told_then {c = modules} {d = checks} (line v) (λ x. p) h (λ x. g)

told_own_name : (name : List ℕ) (x : Option ModuleLine) → IsTold (own_name_line name x)
told_own_name name None = tt
told_own_name name (Some x) = told_demand (bytes_eq x.name.name name) x.place k.ModuleName (Good tt) tt

told_no_import : (xs : List ModuleLine) → IsTold (no_import xs)
told_no_import [] = tt
told_no_import (x ∷ xs) = tt

told_imported : (o : Option Place) (xs : List ModuleLine) → IsTold (imported o xs)
told_imported (Some p) xs = tt
told_imported None xs = told_no_import xs

told_twice : (o : Option Place) → IsTold (refused_twice {A = Unit {0}} o tt)
told_twice None = tt
told_twice (Some p) = tt

told_settled : (ds : List Declaration) (hs : List (Option Head)) → IsTold (settled ds hs)
told_settled [] hs = tt
told_settled (d ∷ ds) [] = tt
told_settled (d ∷ ds) (None ∷ hs) = tt
told_settled (d ∷ ds) (Some h ∷ hs) = told_settled ds hs

told_cond : (b : Bool) (p : Place) (c : ModuleCode) (v : Verdict (Unit {0})) → IsTold v → IsTold (cond b (Wrong p c) v)
told_cond true p c v h = tt
told_cond false p c v h = h

told_self : (es : List (ℕ × ℕ)) (n : Node) (v : Verdict (Unit {0})) → IsTold v → IsTold (self_line es n v)
told_self es (a_struct s name place plain) v h = told_cond (leads es s s) name.place k.SelfContaining v h
told_self es (an_alias x) v h = h
told_self es (a_function attrs x) v h = h
told_self es (some_fields x) v h = h
told_self es (a_constant x) v h = h
told_self es (a_global attrs x) v h = h
told_self es (an_unbuilt p) v h = h

told_containment : (es : List (ℕ × ℕ)) (ds : List Declaration) → IsTold (containment_line es ds)
told_containment es [] = tt
told_containment es (d ∷ ds) = told_self es d.node (containment_line es ds) (told_containment es ds)

told_certain : (p : Place) (done : List Body) (a : Option Body) → IsTold (certain p a (add_body done))
told_certain p done (Some a) = tt
told_certain p done None = tt

told_body : (o : Outline) (d : Declaration) (n : Node) (done : List Body) (h : Option Signature) → IsTold (run (function_body o d n done h))
told_body o d (a_function attrs x) done (Some h) = told_always (run (body_plan x h o)) (λ a. certain x.place a (add_body done)) (told_certain x.place done)
told_body o d (a_function attrs x) done None = tt
told_body o d (a_struct s name place plain) done h = tt
told_body o d (an_alias x) done h = tt
told_body o d (some_fields x) done h = tt
told_body o d (a_constant x) done h = tt
told_body o d (a_global attrs x) done h = tt
told_body o d (an_unbuilt p) done h = tt

told_bodies : (name : List ℕ) (o : Outline) (ds : List Declaration) → IsTold (run (bodies_plan name o ds))
told_bodies name o ds = told_then {c = modules} {d = some_bodies} (walk (next_body o) ds []) _ (told_walk (next_body o) ds [] (λ d done. told_body o d d.node done (function_at o d.number))) (λ xs. tt)

told_heads : (name : List ℕ) (o : Outline) (ds : List Declaration) → IsTold (run (heads_plan name o ds))
told_heads name o ds = told_then {c = modules} {d = some_heads} (walk (next_head o (needs_of o ds)) ds []) (λ hs. first (settled ds hs) (behind_heads name (judged o hs) ds))
    (told_walk (next_head o (needs_of o ds)) ds [] (λ d done. told_always (run (judged_plan (needs_of o ds) d o)) (λ a. Good (done ++ a ∷ [])) (λ a. tt)))
    (λ hs. told_first (settled ds hs) (behind_heads name (judged o hs) ds) (told_settled ds hs)
    (told_first (containment_line (containments (judged o hs)) ds) (bodies_plan name (judged o hs) ds) (told_containment (containments (judged o hs)) ds) (told_bodies name (judged o hs) ds)))

told_declarations : (name : List ℕ) (ds : List Declaration) → IsTold (run (declarations_plan name ds))
told_declarations name ds = told_first (twice_line ds) (heads_plan name (outline_of name ds) ds) (told_twice (first_twice [] (all_names ds))) (told_heads name (outline_of name ds) ds)

told_names : (name : List ℕ) (file : File) → IsTold (run (names_plan name file))
told_names name file =
    told_first (own_name_line name file.«module») (first (imports_line name file.imports) (declarations_plan name (declarations file))) (told_own_name name file.«module»)
    (told_first (imports_line name file.imports) (declarations_plan name (declarations file)) (told_imported (own_import name file.imports) file.imports) (told_declarations name (declarations file)))

told_module : (name : List ℕ) (file : File) → IsTold (run (module_plan name file))
told_module name file = told_first (built_line file) (names_plan name file) (told_demand (not (has_early_form file)) nowhere k.NotYet (Good tt) tt) (told_names name file)

told_cases : {A : Type 0} (v : Verdict A) → IsTold v → ((a : A) × (v ≡ Good a)) ⊎ ((p : Place) × (k : ModuleCode) × (v ≡ Wrong p k))
told_cases (Fine (Some a)) h = inl (a, refl)
told_cases (Fine None) h = absurd h
told_cases (Wrong p k) h = inr (p, k, refl)

module _ (n : List ℕ) (f : File) where
  as_verdict : ((a : CoreModule) × (run (module_plan n f) ≡ Good a)) ⊎ ((p : Place) × (k : ModuleCode) × (run (module_plan n f) ≡ Wrong p k)) →
      ((core : CoreModule) × ModuleOK n f core) ⊎ ((p : Place) × (k : ModuleCode) × FirstWrong n f p k)
  as_verdict (inl x) = inl (x.0, (comes_iff Answer modules (module_plan n f) (Some x.0)).1 x.1)
  as_verdict (inr x) = inr (x.0, x.1, (wrong_iff Answer modules (module_plan n f) x.0 x.1).1 x.2)

  ok_run : (core : CoreModule) → ModuleOK n f core → run (module_plan n f) ≡ Good core
  ok_run core h = (comes_iff Answer modules (module_plan n f) (Some core)).0 h

  wrong_run : (p : Place) (k : ModuleCode) → FirstWrong n f p k → run (module_plan n f) ≡ Wrong p k
  wrong_run p k h = (wrong_iff Answer modules (module_plan n f) p k).0 h

pub either : (n : List ℕ) (f : File) → ((core : CoreModule) × ModuleOK n f core) ⊎ ((p : Place) × (k : ModuleCode) × FirstWrong n f p k)
either n f = as_verdict n f (told_cases (run (module_plan n f)) (told_module n f))

good_is_one : {A : Type 0} (v : Verdict A) (a b : A) → v ≡ Good a → v ≡ Good b → a ≡ b
good_is_one v a b h g = cc

wrong_is_one : {A : Type 0} (v : Verdict A) (p q : Place) (k l : ModuleCode) → v ≡ Wrong p k → v ≡ Wrong q l → (p ≡ q) × (k ≡ l)
wrong_is_one v p q k l h g = (cc, cc)

not_both : {A : Type 0} (v : Verdict A) (a : A) (p : Place) (k : ModuleCode) → v ≡ Good a → v ≡ Wrong p k → ⊥
not_both v a p k h g = cc

pub one_core : (n : List ℕ) (f : File) (a b : CoreModule) → ModuleOK n f a → ModuleOK n f b → a ≡ b
one_core n f a b h g = good_is_one (run (module_plan n f)) a b (ok_run n f a h) (ok_run n f b g)

pub one_place : (n : List ℕ) (f : File) (p q : Place) (k l : ModuleCode) → FirstWrong n f p k → FirstWrong n f q l → (p ≡ q) × (k ≡ l)
one_place n f p q k l h g = wrong_is_one (run (module_plan n f)) p q k l (wrong_run n f p k h) (wrong_run n f q l g)

pub never_both : (n : List ℕ) (f : File) (core : CoreModule) (p : Place) (k : ModuleCode) → ModuleOK n f core → FirstWrong n f p k → ⊥
never_both n f core p k h g = not_both (run (module_plan n f)) core p k (ok_run n f core h) (wrong_run n f p k g)

pub rule_holds : {A : Type 0} (b : Bool) (p : Place) (k : ModuleCode) (v : Verdict A) → b ≡ true → demand b p k v ≡ v
rule_holds b p k v h = ap (λ c. demand c p k v) h

pub rule_broken : {A : Type 0} (b : Bool) (p : Place) (k : ModuleCode) (v : Verdict A) → b ≡ false → demand b p k v ≡ Wrong p k
rule_broken b p k v h = ap (λ c. demand c p k v) h

pub never_open : (n : List ℕ) (f : File) → Comes modules (module_plan n f) None → ⊥
never_open n f h = subst (λ v. IsTold v) ((comes_iff Answer modules (module_plan n f) None).0 h) (told_module n f)
