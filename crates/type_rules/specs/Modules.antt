-- A module: the phases in their order.
use Rattle.std.specs.Prelude.{ℕ, not, cond, bytes_eq, List, [], ◌∷◌, ◌++◌, Option, Some, None}
use Rattle.slang_names.specs.declared.places.Place.{Place}
use Rattle.slang_names.specs.declared.codes.ModuleCode.{ModuleCode}
use Rattle.slang_names.specs.declared.codes.ModuleCode.TheVariants as k
use Rattle.slang_tree.specs.declared.file.File.{File}
use Rattle.slang_tree.specs.declared.file.ModuleLine.{ModuleLine}
use Rattle.slang_core.specs.declared.bodies.Body.{Body}
use Rattle.slang_core.specs.declared.declarations.CoreModule.{CoreModule}
use Rattle.plans.specs.Plans.{Plan, line, part, then, walk, Verdict, Fine, Good, Held, Wrong}
use Rattle.plans.specs.Plans as plans
use Rattle.plans.specs.Lines.{demand}
use Rattle.early_forms.specs.Early.{has_early_form}
use Rattle.module_scope.specs.declared.heads.Head.{Head}
use Rattle.module_scope.specs.declared.heads.Outline.{Outline}
use Rattle.module_scope.specs.Known.{function_at}
use Rattle.module_scope.specs.declared.heads.Signature.{Signature}
use Rattle.declared_names.specs.Declarations.{Declaration, Node, a_function, declarations}
use Rattle.repeated_names.specs.Twice.{twice_line}
use Rattle.type_lines.specs.Classes.{Does, checks, some_bodies, modules}
use Rattle.type_rules.specs.HeadPlans.{outline_of, next_head, settled}
use Rattle.type_rules.specs.StatementPlans.{certain, body_plan}
use Rattle.type_rules.specs.HeadNeeds.{needs_of}
use Rattle.type_rules.specs.Containment.{containments, containment_line}
use Rattle.type_rules.specs.Cores.{core_of}

-- 199: a form that is not built yet stands in the file. It has no place
abbrev pub nowhere : Place
nowhere = record { start = 0; end = 0 }

abbrev pub built_line : File → Verdict (Unit {0})
built_line file = demand (not (has_early_form file)) nowhere k.NotYet (Good tt)

-- 136: the module line names another module
abbrev pub own_name_line : List ℕ → Option ModuleLine → Verdict (Unit {0})
own_name_line name None = Good tt
own_name_line name (Some x) = demand (bytes_eq x.name.name name) x.place k.ModuleName (Good tt)

-- the first import of the module itself
abbrev pub own_import : List ℕ → List ModuleLine → Option Place
own_import name [] = None
own_import name (x ∷ xs) = cond (bytes_eq x.name.name name) (Some x.place) (own_import name xs)

abbrev pub no_import : List ModuleLine → Verdict (Unit {0})
no_import [] = Good tt
no_import (x ∷ xs) = Wrong x.place k.NoModule

abbrev pub imported : Option Place → List ModuleLine → Verdict (Unit {0})
imported (Some p) xs = Wrong p k.ImportCycle
imported None xs = no_import xs

-- 131: an import of the module itself, the first; and else 130: any other import, since there is no other module
abbrev pub imports_line : List ℕ → List ModuleLine → Verdict (Unit {0})
imports_line name xs = imported (own_import name xs) xs

-- ---- bodies

abbrev pub add_body : List Body → Body → Verdict (List Body)
add_body done x = Good (done ++ x ∷ [])

abbrev pub function_body : Outline → Declaration → Node → List Body → Option Signature → Does some_bodies
function_body o d (a_function attrs x) done (Some h) = part (body_plan x h o) (λ a. line (certain x.place a (add_body done)))
function_body o d (a_function attrs x) done None = line (Wrong x.place k.NotConstant)
function_body o d other done h = line (Good done)

abbrev pub next_body : Outline → Declaration → List Body → Does some_bodies
next_body o d done = function_body o d d.node done (function_at o d.number)

-- ---- the phases

abbrev pub first : Verdict (Unit {0}) → Does modules → Does modules
first v p = then (line {c = checks} v) (λ x. p)

-- the names and the heads as they were judged
abbrev pub judged : Outline → List (Option Head) → Outline
judged o hs = record { declared = o.declared; heads = hs; spellings = o.spellings }

abbrev pub bodies_plan : List ℕ → Outline → List Declaration → Does modules
bodies_plan name o ds = then (walk (next_body o) ds []) (λ xs. line (Good (core_of name o ds xs)))

abbrev pub behind_heads : List ℕ → Outline → List Declaration → Does modules
behind_heads name o ds = first (containment_line (containments o) ds) (bodies_plan name o ds)

abbrev pub heads_plan : List ℕ → Outline → List Declaration → Does modules
heads_plan name o ds = then (walk (next_head o (needs_of o ds)) ds []) (λ hs. first (settled ds hs) (behind_heads name (judged o hs) ds))

abbrev pub declarations_plan : List ℕ → List Declaration → Does modules
declarations_plan name ds = first (twice_line ds) (heads_plan name (outline_of name ds) ds)

abbrev pub names_plan : List ℕ → File → Does modules
names_plan name file = first (own_name_line name file.module) (first (imports_line name file.imports) (declarations_plan name (declarations file)))

-- before all else, a file with a form that is not built yet is refused as such
abbrev pub module_plan : List ℕ → File → Does modules
module_plan name file = first (built_line file) (names_plan name file)

-- the module is right, and this is its core
abbrev pub ModuleOK : List ℕ → File → CoreModule → Type 0
ModuleOK name file core = plans.Comes modules (module_plan name file) (Some core)

-- the first wrong node of the module
abbrev pub FirstWrong : List ℕ → File → Place → ModuleCode → Type 0
FirstWrong name file p code = plans.FirstWrong modules (module_plan name file) p code
