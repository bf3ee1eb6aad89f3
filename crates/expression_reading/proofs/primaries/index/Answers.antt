use Rattle.std.proofs.Common.{Ok}
use Rattle.std.proofs.lemmas.Result.{err_from_is_err_and}
use Rattle.slang_grammar.specs.ExpressionsDescent.{leveled}
use Rattle.type_reading.specs.Limited.{limits_of}
use Rattle.expression_reading.proofs.Choices.{index_awaits}
use Rattle.expression_reading.proofs.primaries.index.Goals as goal

pub returns-in_err-end-clause-reads : goal.returns-in_err-end-clause-reads
returns-in_err-end-clause-reads g c =
    let p = err_from_is_err_and c.from_residual-in_err-end.result c.from_residual-in_err-end.ensures.1 in
    rw (p.1, p.2) (index_awaits (limits_of c.args.limits) c.args.depth (leveled (limits_of c.args.limits) c.args.depth) c.args.x _ c.in_err-end.field-0.0 c.args.tokens.now _ c.expect.new.tokens
    (c.requires.inside _ _ (Ok (c.in_ok-i.i, c.in_ok-i.height)) _ c.in_ok-i.ensures) c.in_err-end.ensures)
