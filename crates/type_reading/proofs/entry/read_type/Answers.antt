use Rattle.std.proofs.Common.{rules, ◌≡◌, Err, arith}
use Rattle.type_reading.specs.Limited.{language}
use Rattle.type_reading.proofs.Outcomes.{type_spelled, type_nested, type_not_stopped, type_answered, type_unless, type_goes_on, stopped_runs}
use Rattle.type_reading.proofs.entry.read_type.Goals as goal

pub returns-clause-spelled : goal.returns-clause-spelled
returns-clause-spelled c = type_spelled language 64 c.args.tokens.now c.types.new.tokens (c.in_ok-x.x, c.in_ok-x._height) c.in_ok-x.ensures.reads

pub returns-clause-nested : goal.returns-clause-nested
returns-clause-nested c = type_nested language 64 c.args.tokens.now c.types.new.tokens (c.in_ok-x.x, c.in_ok-x._height) c.in_ok-x.ensures.reads c.in_ok-x.ensures.within

pub returns-clause-answered : goal.returns-clause-answered
returns-clause-answered c = λ x to s q f.
    type_answered language 64 c.args.tokens.now c.types.new.tokens x to (c.in_ok-x.x, c.in_ok-x._height) s q f (omega arith) (omega arith) c.in_ok-x.ensures.reads

pub returns-in_err-x-clause-answered : goal.returns-in_err-x-clause-answered
returns-in_err-x-clause-answered c = λ x to s q f.
    let e : c.from_residual.result ≡ Err c.in_err-x.field-0.0 = search rules in
    rw e (type_unless language 64 c.args.tokens.now c.types.new.tokens x to c.in_err-x.field-0.0 s q f (omega arith) (omega arith) c.in_err-x.ensures.reads)

pub returns-in_err-x-clause-not_stopped : goal.returns-in_err-x-clause-not_stopped
returns-in_err-x-clause-not_stopped c = λ x to s q r.
    let e : c.from_residual.result ≡ Err c.in_err-x.field-0.0 = search rules in
    type_not_stopped language 64 c.args.tokens.now c.types.new.tokens x to s q (stopped_runs language 64 c.args.tokens.now c.types.new.tokens c.in_err-x.field-0.0 c.from_residual.result e r c.in_err-x.ensures.reads)

pub returns-in_err-x-clause-goes_on : goal.returns-in_err-x-clause-goes_on
returns-in_err-x-clause-goes_on c = λ at a s r n.
    let e : c.from_residual.result ≡ Err c.in_err-x.field-0.0 = search rules in
    type_goes_on language 64 c.args.tokens.now c.types.new.tokens at a s (stopped_runs language 64 c.args.tokens.now c.types.new.tokens c.in_err-x.field-0.0 c.from_residual.result e r c.in_err-x.ensures.reads) n
