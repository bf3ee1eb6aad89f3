-- Statements and bodies: the parts of each node and its line. In bodies nothing is passed over, since all heads have a
-- typing by then.
use Rattle.std.specs.Prelude.{ℕ, ◌+◌, ◌-◌, Bool, true, false, ◌&&◌, ◌||◌, not, List, [], ◌∷◌, ◌++◌, map, length, Option, Some, None}
use Rattle.slang_names.specs.declared.places.Place.{Place}
use Rattle.slang_names.specs.declared.codes.ModuleCode.TheVariants as k
use Rattle.slang_tree.specs.declared.expressions.ExprTree.{ExprTree}
use Rattle.slang_tree.specs.declared.statements.Initializer.{Initializer}
use Rattle.slang_tree.specs.declared.statements.LocalName.{LocalName}
use Rattle.slang_tree.specs.declared.statements.Local.{Local}
use Rattle.slang_tree.specs.declared.statements.Change.{Change}
use Rattle.slang_tree.specs.declared.statements.ChangeNode.{ChangeNode}
use Rattle.slang_tree.specs.declared.statements.ChangeNode.TheVariants as c
use Rattle.slang_tree.specs.declared.statements.LoopStart.{LoopStart}
use Rattle.slang_tree.specs.declared.statements.LoopStart.TheVariants as b
use Rattle.slang_tree.specs.declared.statements.StatTree.{StatTree, fold-StatTree}
use Rattle.slang_tree.specs.declared.statements.StatNode.{StatNode, fold-StatNode}
use Rattle.slang_tree.specs.declared.statements.StatNode.TheOpen.{StatNode-F, StatTree-F}
use Rattle.slang_tree.specs.declared.statements.StatNode.TheOpen as s
use Rattle.slang_tree.specs.declared.statements.Block.{Block}
use Rattle.slang_tree.specs.declared.declarations.Parameter.{Parameter}
use Rattle.slang_tree.specs.declared.declarations.Function.{Function}
use Rattle.slang_core.specs.declared.types.TypeTerm.{TypeTerm}
use Rattle.slang_core.specs.declared.declarations.Par.{Par}
use Rattle.slang_core.specs.declared.bodies.Expr.{Expr}
use Rattle.slang_core.specs.declared.bodies.Expr.TheVariants as ex
use Rattle.slang_core.specs.declared.bodies.Stat.{Stat}
use Rattle.slang_core.specs.declared.bodies.Stat.TheVariants as core
use Rattle.slang_core.specs.declared.bodies.Body.{Body}
use Rattle.type_terms.specs.declared.typings.Typing.{Typing}
use Rattle.type_terms.specs.Types.{is_void}
use Rattle.plans.specs.Plans.{line, part, then, walk, Verdict, Good, Wrong}
use Rattle.plans.specs.Lines.{demand, and_then}
use Rattle.module_scope.specs.declared.heads.Outline.{Outline}
use Rattle.module_scope.specs.declared.heads.Signature.{Signature}
use Rattle.module_scope.specs.declared.frames.InForce.{InForce}
use Rattle.module_scope.specs.declared.frames.Frame.{Frame}
use Rattle.module_scope.specs.declared.frames.Within.{Within}
use Rattle.type_lines.specs.declared.answers.LocalGiven.{LocalGiven}
use Rattle.type_lines.specs.declared.answers.Standing.TheVariants as st
use Rattle.type_lines.specs.Classes.{Does, tests, locals, changes, runs, bodies}
use Rattle.type_lines.specs.StatementLines.{assign_line, update_line, step_line, run_line, locals_line, no_locals, entered, left, next_number, one_local, with_local, nothing_done, single, condition_line, return_line, jump_line}
use Rattle.type_exprs.specs.TypePlans.{type_plan, lengths_plan}
use Rattle.type_exprs.specs.ExprPlans.{value_plan, item_plan}

-- what would be passed over in a body, which never comes, is refused
abbrev pub certain : {A B : Type 0} → Place → Option A → (A → Verdict B) → Verdict B
certain p (Some a) f = f a
certain p None f = Wrong p k.NotConstant

abbrev pub certain_two : {A B D : Type 0} → Place → Option A → Option B → (A → B → Verdict D) → Verdict D
certain_two p (Some a) (Some b) f = f a b
certain_two p a b f = Wrong p k.NotConstant

abbrev pub in_a_loop : Within → Within
in_a_loop w = record { subject = w.subject; has_this = w.has_this; is_mutating = w.is_mutating; in_loop = true }

abbrev pub condition : ExprTree → Outline → Within → List InForce → Does tests
condition e o w b = part (value_plan e o w b) (λ a. line (certain e.place a (condition_line e.place)))

-- ---- changes

abbrev pub change_node_plan : ChangeNode → Place → Outline → Within → List InForce → Does changes
change_node_plan (c.Assign x y) p o w b = part (value_plan x o w b) (λ a. part (value_plan y o w b) (λ d. line (certain_two p a d (assign_line p))))
change_node_plan (c.Update op x y) p o w b = part (value_plan x o w b) (λ a. part (value_plan y o w b) (λ d. line (certain_two p a d (update_line p op))))
change_node_plan (c.StepBefore op x) p o w b = part (value_plan x o w b) (λ a. line (certain p a (step_line p op)))
change_node_plan (c.StepBehind x op) p o w b = part (value_plan x o w b) (λ a. line (certain p a (step_line p op)))
change_node_plan (c.Call x) p o w b = part (value_plan x o w b) (λ a. line (certain p a (run_line p)))

abbrev pub change_plan : Change → Outline → Within → List InForce → Does changes
change_plan x = change_node_plan x.node x.place

-- ---- locals: each is in force behind what it begins with

abbrev pub one_given : LocalName → Bool → TypeTerm → Option Typing → List LocalGiven × Frame → List LocalGiven × Frame
one_given n const t value done = (done.0 ++ record { number = next_number done.1; of = t; value = value } ∷ [], with_local n.name.name.name t const done.1)

abbrev pub value_of_local : Option Initializer → LocalName → Bool → TypeTerm → Outline → Within → List LocalGiven × Frame → Does locals
value_of_local None n const t o w done = line (Good (one_given n const t None done))
value_of_local (Some x) n const t o w done =
    part (item_plan x (Some t) o w done.1.blocks) (λ a. line (certain n.name.place a (λ v. Good (one_given n const t (Some v) done))))

abbrev pub next_local : Bool → TypeTerm → Outline → Within → LocalName → List LocalGiven × Frame → Does locals
next_local const t o w n done = then (lengths_plan o w done.1.blocks n.name t) (λ x. value_of_local n.value n const x o w done)

abbrev pub with_frame : Frame → List Stat → Verdict (List Stat × Frame)
with_frame f xs = Good (xs, f)

abbrev pub local_plan : Local → Outline → Within → Frame → Does runs
local_plan x o w f = then (type_plan x.kind st.Local o w f.blocks) (λ t. then (walk (next_local x.is_const t o w) x.names ([], f)) (λ r.
    line (and_then (locals_line x.place r.0) (with_frame r.1))))

-- ---- statements

abbrev pub StatPlan : Type 0
StatPlan = Outline → TypeTerm → Within → Frame → Does runs

abbrev pub next_stat : Outline → TypeTerm → Within → StatPlan → List Stat × Frame → Does runs
next_stat o t w x done = then (x o t w done.1) (λ a. line (Good (done.0 ++ a.0, a.1)))

abbrev pub in_order : List StatPlan → Outline → TypeTerm → Within → Frame → Does runs
in_order xs o t w f = walk (next_stat o t w) xs ([], f)

abbrev pub one_stat : Stat → Frame → List Stat × Frame
one_stat x f = (x ∷ [], f)

abbrev pub block_of : ℕ → List Stat × Frame → List Stat × Frame
block_of n r = one_stat (core.Block r.0) (left n r.1)

abbrev pub if_of : Expr → Stat → List Stat × Frame → List Stat × Frame
if_of c x r = one_stat (core.If c x (single r.0)) r.1

abbrev pub then_of : Expr → List Stat × Frame → List Stat × Frame
then_of c r = one_stat (core.If c (single r.0) nothing_done) r.1

abbrev pub loop_of : Expr → List Stat × Frame → List Stat × Frame
loop_of c r = one_stat (core.Loop c nothing_done (single r.0)) r.1

-- a `for` is a block with its first part and a loop
abbrev pub for_of : ℕ → List Stat → Expr → Stat → List Stat × Frame → List Stat × Frame
for_of n start c step r = block_of n (start ++ core.Loop c step (single r.0) ∷ [], r.1)

abbrev pub start_plan : LoopStart → Outline → Within → Frame → Does runs
start_plan b.Nothing o w f = line (Good ([], f))
start_plan (b.Local x) o w f = local_plan x o w f
start_plan (b.Change x) o w f = then (change_plan x o w f.blocks) (λ y. line (Good (one_stat y f)))

abbrev pub test_plan : Option ExprTree → Outline → Within → List InForce → Does tests
test_plan None o w bs = line (Good ex.True)
test_plan (Some e) o w bs = condition e o w bs

abbrev pub step_plan : Option Change → Outline → Within → List InForce → Does changes
step_plan None o w bs = line (Good nothing_done)
step_plan (Some x) o w bs = change_plan x o w bs

abbrev pub for_plan : LoopStart → Option ExprTree → Option Change → StatPlan → ℕ → Outline → TypeTerm → Within → Frame → Does runs
for_plan start e ch x n o t w f = then (start_plan start o w f) (λ a. then (test_plan e o w a.1.blocks) (λ c. then (step_plan ch o w a.1.blocks) (λ y.
    then (x o t (in_a_loop w) a.1) (λ r. line (Good (for_of n a.0 c y r))))))

abbrev pub return_plan : Option ExprTree → Place → Outline → TypeTerm → Within → Frame → Does runs
return_plan None p o t w f = line (and_then (return_line p t None) (λ x. Good (one_stat x f)))
return_plan (Some e) p o t w f = part (value_plan e o w f.blocks) (λ a. line (certain p a (λ v. and_then (return_line p t (Some v)) (λ x. Good (one_stat x f)))))

abbrev pub jump : Place → Within → Stat → Frame → Verdict (List Stat × Frame)
jump p w x f = and_then (jump_line p w.in_loop x) (λ y. Good (one_stat y f))

abbrev pub stat_step : StatNode-F (Place → StatPlan) StatPlan → Place → StatPlan
stat_step (s.Block xs) = λ p o t w f. then (in_order xs o t w (entered f)) (λ r. line (Good (block_of (length f.blocks) r)))
stat_step (s.Local x) = λ p o t w f. local_plan x o w f
stat_step (s.Change x) = λ p o t w f. then (change_plan x o w f.blocks) (λ y. line (Good (one_stat y f)))
stat_step s.Empty = λ p o t w f. line (Good (one_stat nothing_done f))
stat_step (s.If e x) = λ p o t w f. then (condition e o w f.blocks) (λ c. then (x o t w f) (λ r. line (Good (then_of c r))))
stat_step (s.IfElse e x y) = λ p o t w f. then (condition e o w f.blocks) (λ c. then (x o t w f) (λ a. then (y o t w a.1) (λ r. line (Good (if_of c (single a.0) r)))))
stat_step (s.For attrs start e ch x) = λ p o t w f. for_plan start e ch x (length f.blocks) o t w (entered f)
stat_step (s.While attrs e x) = λ p o t w f. then (condition e o w f.blocks) (λ c. then (x o t (in_a_loop w) f) (λ r. line (Good (loop_of c r))))
stat_step (s.Return e) = λ p o t w f. return_plan e p o t w f
stat_step s.Break = λ p o t w f. line (jump p w core.Break f)
stat_step s.Continue = λ p o t w f. line (jump p w core.Continue f)

abbrev pub stat_tree_step : StatTree-F (Place → StatPlan) StatPlan → StatPlan
stat_tree_step x = x.node x.place

abbrev pub stat_plan : StatTree → StatPlan
stat_plan = fold-StatTree (Place → StatPlan) StatPlan stat_step stat_tree_step

abbrev pub stat_node_plan : StatNode → Place → StatPlan
stat_node_plan = fold-StatNode (Place → StatPlan) StatPlan stat_step stat_tree_step

-- ---- a statement that ends: a return, a block with one that ends, an `if` whose two branches end

abbrev pub any_ends : List Bool → Bool
any_ends [] = false
any_ends (x ∷ xs) = x || any_ends xs

abbrev pub ends_step : StatNode-F Bool Bool → Bool
ends_step (s.Block xs) = any_ends xs
ends_step (s.IfElse e x y) = x && y
ends_step (s.Return e) = true
ends_step other = false

abbrev pub ends_tree_step : StatTree-F Bool Bool → Bool
ends_tree_step x = x.node

abbrev pub ends : StatTree → Bool
ends = fold-StatTree Bool Bool ends_step ends_tree_step

abbrev pub node_ends : StatNode → Bool
node_ends = fold-StatNode Bool Bool ends_step ends_tree_step

-- ---- bodies

-- the parameters are in force from the first byte of the body on, by their numbers
abbrev pub parameters_from : ℕ → List Parameter → List Par → InForce → InForce
parameters_from n (x ∷ xs) (y ∷ ys) b = parameters_from (n + 1) xs ys (one_local x.name.name.name (record { number = n; of = y.of; is_const = false }) b)
parameters_from n xs ys b = b

abbrev pub frame_of : Function → Signature → Frame
frame_of x h = record { blocks = parameters_from 0 x.parameters h.parameters no_locals ∷ []; types = []; first = length h.parameters }

abbrev pub has_owner : Option ℕ → Bool
has_owner (Some s) = true
has_owner None = false

abbrev pub within_of : Signature → Within
within_of h = record { subject = h.owner; has_this = has_owner h.owner && not h.flags.is_static; is_mutating = h.flags.is_mutating; in_loop = false }

-- the brace that closes a block
abbrev pub closing : Place → Place
closing p = record { start = p.end - 1; end = p.end }

abbrev pub body_of : List Stat × Frame → Body
body_of r = record { locals = r.1.types; statements = r.0 }

-- 147: a function with a result whose body does not end
abbrev pub body_line : Block → TypeTerm → List Stat × Frame → Verdict Body
body_line x t r = demand (is_void t || any_ends (map ends x.statements)) (closing x.place) k.NoReturn (Good (body_of r))

abbrev pub body_plan : Function → Signature → Outline → Does bodies
body_plan x h o = then (in_order (map stat_plan x.body.statements) o h.result (within_of h) (entered (frame_of x h))) (λ r. line (body_line x.body h.result r))
