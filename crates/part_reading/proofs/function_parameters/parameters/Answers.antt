use Rattle.slang_tokens.specs.declared.tokens.Mark.TheVariants as m
use Rattle.slang_reading.specs.Kinds.{sees}
use Rattle.slang_reading.specs.Reading.{next}
use Rattle.slang_reading.proofs.Loops.{runs_bind}
use Rattle.slang_grammar.specs.Descent.{expect}
use Rattle.declaration_grammar.specs.PartsDescent.{parameters, parameters_by}
use Rattle.type_reading.specs.Limited.{limits_of}
use Rattle.part_reading.proofs.function_parameters.parameters.Goals as goal

pub returns : goal.returns
unfolding parameters
returns c =
    runs_bind (expect m.OpenParen) (λ _. next (λ x. parameters_by (limits_of c.args.limits) c.args.depth (sees m.CloseParen x)))
    c.in_ok-expect.field-0 c.args.tokens.now c.expect.new.tokens _ _ c.in_ok-expect.ensures c.parameters_rest.ensures
