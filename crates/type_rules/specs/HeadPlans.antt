-- Heads of declarations: the parts of each and its line; and what is known of all heads, whatever is refused of them.
use Rattle.std.specs.Prelude.{ℕ, Bool, true, false, ◌||◌, not, List, [], ◌∷◌, ◌++◌, Option, Some, None, fold}
use Rattle.std.specs.Option.{option_map}
use Rattle.slang_names.specs.declared.places.Place.{Place}
use Rattle.slang_names.specs.declared.places.Mode.{Mode}
use Rattle.slang_names.specs.declared.codes.ModuleCode.TheVariants as k
use Rattle.slang_tree.specs.declared.statements.Attribute.{Attribute}
use Rattle.slang_tree.specs.declared.statements.DeclaredName.{DeclaredName}
use Rattle.slang_tree.specs.declared.declarations.Alias.{Alias}
use Rattle.slang_tree.specs.declared.declarations.Field.{Field}
use Rattle.slang_tree.specs.declared.declarations.Function.{Function}
use Rattle.slang_tree.specs.declared.declarations.Parameter.{Parameter}
use Rattle.slang_tree.specs.declared.declarations.Constant.{Constant}
use Rattle.slang_tree.specs.declared.declarations.Global.{Global}
use Rattle.slang_core.specs.declared.types.TypeTerm.{TypeTerm}
use Rattle.slang_core.specs.declared.declarations.Par.{Par}
use Rattle.plans.specs.Plans.{line, part, one, then, when, walk, run, Verdict, Fine, Good, Held, Wrong, with_one, with_two, with_last, flat}
use Rattle.plans.specs.Lines.{demand}
use Rattle.module_scope.specs.declared.heads.Head.{Head}
use Rattle.module_scope.specs.declared.heads.Head.TheVariants as h
use Rattle.module_scope.specs.declared.heads.Outline.{Outline}
use Rattle.module_scope.specs.declared.heads.Spelling.{Spelling}
use Rattle.module_scope.specs.declared.frames.Within.{Within}
use Rattle.module_scope.specs.Known.{nothing_spelled}
use Rattle.declared_names.specs.Declarations.{Declaration, Node, a_struct, an_alias, a_function, some_fields, a_constant, a_global, an_unbuilt}
use Rattle.declared_names.specs.Declares.{declared_of}
use Rattle.type_lines.specs.declared.answers.Standing.TheVariants as st
use Rattle.type_lines.specs.Classes.{Does, types, named_types, parameters, heads, some_heads}
use Rattle.type_lines.specs.HeadLines.{alias_head, fields_head, global_head, constant_head, function_head, entry_line}
use Rattle.type_exprs.specs.TypePlans.{type_plan, lengths_plan, spelling}
use Rattle.type_exprs.specs.ExprPlans.{value_plan}
use Rattle.type_rules.specs.Leading.{leads}

-- in a head there is no `this` and no local
abbrev pub in_head : Option ℕ → Within
in_head owner = record { subject = owner; has_this = false; is_mutating = false; in_loop = false }

abbrev pub no_owner : Option ℕ → Bool
no_owner None = true
no_owner (Some s) = false

abbrev pub alias_plan : Option ℕ → Alias → Outline → Does heads
alias_plan owner x o = part (type_plan x.kind st.AliasRight o (in_head owner) [])
    (λ t. line (alias_head x.kind.place (no_owner owner || not (spelling x.kind o owner).is_projected) t))

-- the types of the names of one declaration of fields: each is looked at, also behind one that is passed over
abbrev pub next_name : Option ℕ → Outline → TypeTerm → DeclaredName → Option (List TypeTerm) → Does named_types
next_name owner o base n done = part (lengths_plan o (in_head owner) [] n base) (λ t. line (Good (with_last done t)))

abbrev pub fields_plan : Option ℕ → Field → Outline → Does heads
fields_plan owner x o = part (type_plan x.kind st.Field o (in_head owner) []) (λ a. when a (λ base.
    part (walk (next_name owner o base) x.names (Some [])) (λ ts. line (with_one (flat ts) (fields_head x.place base)))))

abbrev pub parameter_type : Option ℕ → Outline → Parameter → Does types
parameter_type owner o x = then (type_plan x.kind st.Parameter o (in_head owner) []) (λ t. lengths_plan o (in_head owner) [] x.name t)

abbrev pub par : Mode → TypeTerm → Par
par mode t = record { mode = mode; of = t }

abbrev pub next_parameter : Option ℕ → Outline → Parameter → Option (List Par) → Does parameters
next_parameter owner o x done = part (parameter_type owner o x) (λ a. line (Good (with_last done (option_map (par x.mode) a))))

abbrev pub function_plan : Declaration → List Attribute → Function → Outline → Does heads
function_plan d attrs x o = part (type_plan x.result st.Result o (in_head d.owner) []) (λ r. part (walk (next_parameter d.owner o) x.parameters (Some [])) (λ ps.
    line (with_two r (flat ps) (function_head o.declared d.owner d.prefix attrs x))))

abbrev pub constant_plan : Constant → Outline → Does heads
constant_plan x o = part (type_plan x.kind st.Constant o (in_head None) []) (λ t. part (value_plan x.value o (in_head None) []) (λ a.
    line (with_two t a (constant_head x.place))))

abbrev pub global_plan : List Attribute → Global → Outline → Does heads
global_plan attrs x o = one (type_plan x.kind st.Global o (in_head None) []) (global_head x.place attrs)

abbrev pub node_head : Declaration → Node → Outline → Does heads
node_head d (a_struct s name place plain) o = line (demand plain place k.NotYet (Good h.Struct))
node_head d (an_alias x) o = alias_plan d.owner x o
node_head d (a_function attrs x) o = function_plan d attrs x o
node_head d (some_fields x) o = fields_plan d.owner x o
node_head d (a_constant x) o = constant_plan x o
node_head d (a_global attrs x) o = global_plan attrs x o
node_head d (an_unbuilt p) o = line (Wrong p k.NotYet)

-- what the other declarations know of one
abbrev pub head_plan : Declaration → Outline → Does heads
head_plan d o = node_head d d.node o

-- ---- what is known of all heads: each from those before it, since a constant's value and the type of an alias rest on
-- earlier ones alone, and so do all types

abbrev pub answer_of : {A : Type 0} → Verdict A → Option A
answer_of (Fine o) = o
answer_of (Wrong p k) = None

abbrev pub node_spelled : Declaration → Node → Outline → Spelling
node_spelled d (an_alias x) o = spelling x.kind o d.owner
node_spelled d other o = nothing_spelled

abbrev pub with_head : Outline → Declaration → Outline
with_head o d = record { declared = o.declared; heads = o.heads ++ answer_of (run (head_plan d o)) ∷ []; spellings = o.spellings ++ node_spelled d d.node o ∷ [] }

abbrev pub outline_of : List ℕ → List Declaration → Outline
outline_of name ds = fold with_head (record { declared = declared_of name ds; heads = []; spellings = [] }) ds

-- ---- the heads as they are judged

-- what is asked of one declaration alone: of an entry that it can be started (157), and of a constant that is passed over
-- that it doesn't need itself (148)
abbrev pub judged_head : List (ℕ × ℕ) → Declaration → Node → Option Head → Verdict Head
judged_head es d (a_function attrs x) (Some h) = entry_line x.name.place h
judged_head es d (a_constant x) None = demand (not (leads es d.number d.number)) x.place k.NotConstant Held
judged_head es d other h = Fine h

abbrev pub judged_plan : List (ℕ × ℕ) → Declaration → Outline → Does heads
judged_plan es d o = part (head_plan d o) (λ h. line (judged_head es d d.node h))

abbrev pub next_head : Outline → List (ℕ × ℕ) → Declaration → List (Option Head) → Does some_heads
next_head o es d done = part (judged_plan es d o) (λ h. line (Good (done ++ h ∷ [])))

abbrev pub place_of : Declaration → Node → Place
place_of d (a_struct s name place plain) = place
place_of d (an_alias x) = x.place
place_of d (a_function attrs x) = x.place
place_of d (some_fields x) = x.place
place_of d (a_constant x) = x.place
place_of d (a_global attrs x) = x.place
place_of d (an_unbuilt p) = p

-- where no head is wrong none is passed over: what rests on nothing wrong and is passed over needs itself, by way of a
-- constant. So a head without a typing is refused here for completeness alone
abbrev pub settled : List Declaration → List (Option Head) → Verdict (Unit {0})
settled (d ∷ ds) (None ∷ hs) = Wrong (place_of d d.node) k.NotConstant
settled (d ∷ ds) (Some h ∷ hs) = settled ds hs
settled ds hs = Good tt
