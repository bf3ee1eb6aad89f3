use Rattle.std.proofs.Common.{drop, ◌∙◌}
use Rattle.slang_tokens.specs.declared.tokens.Kind.TheVariants as k
use Rattle.slang_tokens.specs.declared.tokens.Mark.TheVariants as m
use Rattle.slang_reading.specs.Reading.{first}
use Rattle.slang_reading.specs.Kinds.{is_mark}
use Rattle.slang_grammar.specs.Tables.{binary_of}
use Rattle.slang_grammar.specs.ExpressionsDescent.{leveled}
use Rattle.type_reading.specs.Limited.{limits_of}
use Rattle.expression_reading.specs.Leading.{with_operator}
use Rattle.expression_reading.proofs.Between.{shift_marked}
use Rattle.expression_reading.proofs.choosing.marked.Goals as goal

pub returns-then-rank-level_of-2-clause-leads : goal.returns-then-rank-level_of-2-clause-leads
returns-then-rank-level_of-2-clause-leads c =
    let inner = leveled (limits_of c.args.limits) c.args.depth in
    shift_marked (limits_of c.args.limits) c.args.depth inner c.args.rank c.args.x.now (with_operator (limits_of c.args.limits) c.args.depth inner c.args.rank c.args.x.now)
    (is_mark m.Greater (k.Mark c.args.mark)) (binary_of c.args.mark) (first (drop c.args.tokens.now.at c.args.tokens.now.tokens)) c.args.tokens.now c.shift.new.tokens c.shift.result
    c.if-is_mark.ensures (c.if-rank-level_of-2.true ∙ c.level_of-then-is_mark.ensures) c.shift.ensures.leads
