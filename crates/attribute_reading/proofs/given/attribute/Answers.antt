use Rattle.slang_tokens.specs.declared.tokens.Mark.TheVariants as m
use Rattle.slang_reading.specs.Reading.{next}
use Rattle.slang_reading.proofs.Loops.{runs_bind}
use Rattle.slang_grammar.specs.Descent.{expect}
use Rattle.statement_grammar.specs.AttributesDescent.{attribute, attribute_at}
use Rattle.type_reading.specs.Limited.{limits_of}
use Rattle.attribute_reading.proofs.given.attribute.Goals as goal

pub returns : goal.returns
unfolding attribute
returns c =
    runs_bind (expect m.OpenBracket) (λ p. next (attribute_at (limits_of c.args.limits) c.args.targets.now c.args.given p))
    c.in_ok-begin.begin c.args.tokens.now c.expect.new.tokens _ _ c.in_ok-begin.ensures c.attribute_behind.ensures
