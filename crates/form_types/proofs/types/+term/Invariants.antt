use Rattle.std.proofs.Common.{◌≡◌, ◌+◌, ◌-◌, ◌*◌, map}
use Rattle.form_grammar.specs.Grammar as form
use Rattle.form_grammar.specs.Reading.{form_at, nested_at, items_at}
use Rattle.form_grammar.proofs.Loops.{behind_these}
use Rattle.slang_core.specs.TypeTrees.{arg_tree}
use Rattle.form_types.proofs.types.+term.Given as goal

abbrev pub decreases-term_of : goal.decreases-term_of
decreases-term_of l = 8 * l.level.depth

abbrev pub decreases-arg_of : goal.decreases-arg_of
decreases-arg_of l = 8 * l.level.depth + 1

abbrev pub decreases-arg_items : goal.decreases-arg_items
decreases-arg_items l = 8 * l.level.depth + 2

abbrev pub decreases-args_of : goal.decreases-args_of
decreases-args_of l = 8 * l.level.depth + 3

abbrev pub decreases-array_of : goal.decreases-array_of
decreases-array_of l = 8 * l.level.depth + 4

abbrev pub decreases-boxed_term : goal.decreases-boxed_term
decreases-boxed_term l = 8 * l.level.depth + 4

abbrev pub decreases-projection_of : goal.decreases-projection_of
decreases-projection_of l = 8 * l.level.depth + 4

abbrev pub decreases-struct_of : goal.decreases-struct_of
decreases-struct_of l = 8 * l.level.depth + 4

abbrev pub decreases-term_body : goal.decreases-term_body
decreases-term_body l = 8 * l.level.depth + 5

abbrev pub invariant-arg_items-loop : goal.invariant-arg_items-loop
invariant-arg_items-loop l =
    let item = form_at (nested_at l.level.depth) form.arg in
    behind_these (map arg_tree l.items) (items_at item (l.count - l.counter) l.rest) ≡ items_at item l.count l.bytes
