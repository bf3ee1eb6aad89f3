use Rattle.std.proofs.Common.{Ok, Err}
use Rattle.std.proofs.lemmas.Result.{err_from_is_err_and}
use Rattle.slang_grammar.specs.ExpressionsDescent.{leveled}
use Rattle.type_reading.specs.Limited.{limits_of}
use Rattle.expression_reading.proofs.Choices.{choice_awaits, choice_lacks}
use Rattle.expression_reading.proofs.descent.choice.Goals as goal

pub returns-in_err-expect-clause-reads : goal.returns-in_err-expect-clause-reads
returns-in_err-expect-clause-reads g c =
    let p = err_from_is_err_and c.from_residual-in_err-expect.result c.from_residual-in_err-expect.ensures.1 in
    rw (p.1, p.2) (choice_awaits (limits_of c.args.limits) c.args.depth (leveled (limits_of c.args.limits) c.args.depth) c.args.x _ c.in_err-expect.field-0.0 c.args.tokens.now _ c.expect.new.tokens
    (c.requires.inside _ _ (Ok (c.in_ok-y.y, c.in_ok-y.height)) _ c.in_ok-y.ensures) c.in_err-expect.ensures)

pub returns-in_err-z-clause-reads : goal.returns-in_err-z-clause-reads
returns-in_err-z-clause-reads g c =
    let p = err_from_is_err_and c.from_residual-in_err-z.result c.from_residual-in_err-z.ensures.1 in
    rw (p.1, p.2) (choice_lacks (limits_of c.args.limits) c.args.depth (leveled (limits_of c.args.limits) c.args.depth) c.args.x _ _ c.in_err-z.field-0.0 c.args.tokens.now _ c.expect.new.tokens _
    (c.requires.inside _ _ (Ok (c.in_ok-y.y, c.in_ok-y.height)) _ c.in_ok-y.ensures) c.in_ok-expect.ensures (c.requires.inside _ _ (Err c.in_err-z.field-0.0) _ c.in_err-z.ensures))
