use Rattle.std.proofs.Common.{true, ◌+◌, ◌*◌, ◌-◌, ◌≤◌}
use Rattle.slang_tokens.specs.declared.tokens.Mark.TheVariants as m
use Rattle.slang_reading.specs.Kinds.{sees}
use Rattle.slang_reading.specs.Reading.{turns}
use Rattle.slang_reading.proofs.Loops.{Keeps}
use Rattle.slang_grammar.specs.TypesDescent as spec
use Rattle.type_reading.specs.Limited.{limits_of}
use Rattle.type_reading.proofs.descent.+types.Given as goal

abbrev pub decreases-types : goal.decreases-types
decreases-types l = 8 * l.depth

abbrev pub decreases-argument : goal.decreases-argument
decreases-argument l = 8 * l.depth + 1

abbrev pub decreases-argument_more : goal.decreases-argument_more
decreases-argument_more l = 8 * l.depth + 2

abbrev pub decreases-argument_list : goal.decreases-argument_list
decreases-argument_list l = 8 * l.depth + 3

abbrev pub decreases-arguments : goal.decreases-arguments
decreases-arguments l = 8 * l.depth + 4

abbrev pub decreases-name_rest : goal.decreases-name_rest
decreases-name_rest l = 8 * l.depth + 5

abbrev pub decreases-resource_rest : goal.decreases-resource_rest
decreases-resource_rest l = 8 * l.depth + 5

abbrev pub decreases-type_name : goal.decreases-type_name
decreases-type_name l = 8 * l.depth + 6

abbrev pub invariant-argument_list-loop-turn : goal.invariant-argument_list-loop-turn
invariant-argument_list-loop-turn l =
    let more = spec.argument_more (limits_of l.limits) true l.depth (spec.types (limits_of l.limits) l.depth) in
    record { keeps : Keeps (turns (sees m.Comma) more (l.limits.turns - l._turn) l.list) l.tokens (turns (sees m.Comma) more l.limits.turns l.fn.list) l.fn.tokens; within : l.list.1 ≤ l.depth }
