-- Expressions and lists in braces: the parts of each node and its line.
use Rattle.std.specs.Prelude.{true, false, List, [], ◌∷◌, ◌++◌, length, Option, Some, None}
use Rattle.slang_names.specs.declared.places.Place.{Place}
use Rattle.slang_tree.specs.declared.expressions.ExprTree.{ExprTree, fold-ExprTree}
use Rattle.slang_tree.specs.declared.expressions.ExprNode.{ExprNode, fold-ExprNode}
use Rattle.slang_tree.specs.declared.expressions.ExprNode.TheOpen.{ExprNode-F, ExprTree-F}
use Rattle.slang_tree.specs.declared.expressions.ExprNode.TheOpen as e
use Rattle.slang_tree.specs.declared.statements.Initializer.{Initializer, fold-Initializer}
use Rattle.slang_tree.specs.declared.statements.ListTree.{ListTree, fold-ListTree}
use Rattle.slang_tree.specs.declared.statements.Initializer.TheOpen.{Initializer-F, ListTree-F}
use Rattle.slang_tree.specs.declared.statements.Initializer.TheOpen as l
use Rattle.slang_core.specs.declared.types.TypeTerm.{TypeTerm}
use Rattle.type_terms.specs.declared.typings.Typing.{Typing}
use Rattle.plans.specs.Plans.{line, part, one, two, three, walk, Fine, Good, Held, with_one, with_two, with_last, flat}
use Rattle.module_scope.specs.declared.heads.Outline.{Outline}
use Rattle.module_scope.specs.declared.frames.InForce.{InForce}
use Rattle.module_scope.specs.declared.frames.Within.{Within}
use Rattle.type_lines.specs.declared.answers.Denoted.{Denoted}
use Rattle.type_lines.specs.declared.answers.Denoted.TheVariants as d
use Rattle.type_lines.specs.declared.answers.Use.{Use}
use Rattle.type_lines.specs.declared.answers.Use.TheVariants as u
use Rattle.type_lines.specs.Asked.{is_empty, inner_use, operator_kind}
use Rattle.type_lines.specs.Classes.{Does, denotes, values, lists, items}
use Rattle.type_lines.specs.NameLines.{number_typing, truth_typing, this_line, this_kind_line, name_line, member_line, index_line}
use Rattle.type_lines.specs.ValueLines.{unary_line, binary_line, cast_line, construct_line, choice_line}
use Rattle.type_lines.specs.CallLines.{call_line}
use Rattle.type_lines.specs.StatementLines.{list_line, element_at}

abbrev pub ExprPlan : Type 0
ExprPlan = Use → Outline → Within → List InForce → Does denotes

-- ---- where a value is wanted

abbrev pub typing_in : Denoted → Option Typing
typing_in (d.Value a) = Some a
typing_in other = None

abbrev pub typing_of : Option Denoted → Option Typing
typing_of (Some x) = typing_in x
typing_of None = None

abbrev pub valued : ExprPlan → Use → Outline → Within → List InForce → Does values
valued x role o w b = part (x role o w b) (λ a. line (Fine (typing_of a)))

-- several values, in order
abbrev pub next_in : Outline → Within → List InForce → ExprPlan → Option (List Typing) → Does lists
next_in o w b x done = part (valued x u.Value o w b) (λ a. line (Good (with_last done a)))

abbrev pub all_in : List ExprPlan → Outline → Within → List InForce → Does lists
all_in xs o w b = walk (next_in o w b) xs (Some [])

abbrev pub expr_step : ExprNode-F (Place → ExprPlan) ExprPlan → Place → ExprPlan
expr_step (e.Number n) = λ p role o w b. line (Good (d.Value (number_typing n)))
expr_step e.True = λ p role o w b. line (Good (d.Value (truth_typing true)))
expr_step e.False = λ p role o w b. line (Good (d.Value (truth_typing false)))
expr_step e.ThisValue = λ p role o w b. line (this_line o w p)
expr_step e.ThisType = λ p role o w b. line (this_kind_line o w p role)
expr_step (e.Name n args) = λ p role o w b. line (name_line o w b p n (is_empty args) role)
expr_step (e.Construct word xs) = λ p role o w b. part (all_in xs o w b) (λ a. line (with_one (flat a) (construct_line p word)))
expr_step (e.Paren x) = λ p role o w b. one (x (inner_use role) o w b) (λ a. Good a)
expr_step (e.Member x n args) = λ p role o w b. one (x u.Qualifier o w b) (member_line o p n (is_empty args) role)
expr_step (e.Index x y) = λ p role o w b. two (valued x u.Indexed o w b) (valued y u.Value o w b) (index_line p)
expr_step (e.Call f xs) = λ p role o w b. part (f u.Called o w b) (λ x. part (all_in xs o w b) (λ a. line (with_two x (flat a) (call_line o p))))
expr_step (e.Unary op x) = λ p role o w b. one (valued x u.Value o w b) (unary_line p op)
expr_step (e.Cast word x) = λ p role o w b. one (valued x u.Value o w b) (cast_line p word)
expr_step (e.Binary op x y) = λ p role o w b. two (valued x u.Value o w b) (valued y u.Value o w b) (binary_line p (operator_kind op))
expr_step (e.Choice x y z) = λ p role o w b. three (valued x u.Value o w b) (valued y u.Indexed o w b) (valued z u.Indexed o w b) (choice_line p)

abbrev pub expr_tree_step : ExprTree-F (Place → ExprPlan) ExprPlan → ExprPlan
expr_tree_step x = x.node x.place

abbrev pub expr_plan : ExprTree → ExprPlan
expr_plan = fold-ExprTree (Place → ExprPlan) ExprPlan expr_step expr_tree_step

abbrev pub expr_node_plan : ExprNode → Place → ExprPlan
expr_node_plan = fold-ExprNode (Place → ExprPlan) ExprPlan expr_step expr_tree_step

-- an expression of which a value is wanted
abbrev pub value_plan : ExprTree → Outline → Within → List InForce → Does values
value_plan x o w b = valued (expr_plan x) u.Value o w b

-- ---- lists in braces, for something of a type; where the list around has no element left, items are judged and lists are not

abbrev pub ItemPlan : Type 0
ItemPlan = Option TypeTerm → Outline → Within → List InForce → Does values

abbrev pub item_step : Initializer-F ItemPlan ItemPlan → ItemPlan
item_step (l.Expression x) = λ t o w b. value_plan x o w b
item_step (l.List x) = x

abbrev pub next_item : TypeTerm → Outline → Within → List InForce → ItemPlan → List (Option Typing) → Does items
next_item t o w b x done = part (x (element_at o t (length done)) o w b) (λ a. line (Good (done ++ a ∷ [])))

abbrev pub list_of : Place → List ItemPlan → ItemPlan
list_of p xs (Some t) o w b = part (walk (next_item t o w b) xs []) (λ a. line (with_one a (list_line o p t)))
list_of p xs None o w b = line Held

abbrev pub list_step : ListTree-F ItemPlan ItemPlan → ItemPlan
list_step x = list_of x.place x.items

abbrev pub item_plan : Initializer → ItemPlan
item_plan = fold-Initializer ItemPlan ItemPlan item_step list_step

abbrev pub list_plan : ListTree → ItemPlan
list_plan = fold-ListTree ItemPlan ItemPlan item_step list_step
