use Rattle.std.proofs.Common.{true, ◌+◌, ◌*◌, ◌-◌}
use Rattle.slang_tokens.specs.declared.tokens.Mark.TheVariants as m
use Rattle.slang_reading.specs.Kinds.{sees}
use Rattle.slang_reading.specs.Reading.{turns}
use Rattle.slang_reading.proofs.Loops.{Keeps}
use Rattle.slang_grammar.specs.ExpressionsDescent.{expressions}
use Rattle.statement_grammar.specs.StatementsDescent as spec
use Rattle.type_reading.specs.Limited.{limits_of}
use Rattle.statement_reading.proofs.lists.+lists.Given as goal

abbrev pub decreases-initials : goal.decreases-initials
decreases-initials l = 8 * l.depth

abbrev pub decreases-item : goal.decreases-item
decreases-item l = 8 * l.depth + 1

abbrev pub decreases-item_more : goal.decreases-item_more
decreases-item_more l = 8 * l.depth + 2

abbrev pub decreases-item_list : goal.decreases-item_list
decreases-item_list l = 8 * l.depth + 3

abbrev pub decreases-items_rest : goal.decreases-items_rest
decreases-items_rest l = 8 * l.depth + 4

abbrev pub decreases-list_rest : goal.decreases-list_rest
decreases-list_rest l = 8 * l.depth + 5

abbrev pub decreases-initial : goal.decreases-initial
decreases-initial l = 8 * l.depth + 6

abbrev pub invariant-item_list-loop-turn : goal.invariant-item_list-loop-turn
invariant-item_list-loop-turn l =
    let more = spec.item_more (limits_of l.limits) true l.depth (expressions (limits_of l.limits) (l.depth + 1)) (spec.initials (limits_of l.limits) l.depth) in
    Keeps (turns (sees m.Comma) more (l.limits.turns - l._turn) l.list) l.tokens (turns (sees m.Comma) more l.limits.turns l.fn.list) l.fn.tokens
