use Rattle.std.proofs.Common.{codes}
use Rattle.slang_tokens.specs.declared.tokens.Mark.TheVariants as m
use Rattle.slang_reading.specs.Reading.{next, ◌>>=◌}
use Rattle.slang_reading.proofs.Loops.{runs_bind}
use Rattle.slang_grammar.specs.Descent.{expect}
use Rattle.statement_grammar.specs.AttributesDescent.{binding, binding_at, spelled}
use Rattle.type_reading.specs.Limited.{limits_of}
use Rattle.attribute_reading.proofs.binding.binding.Goals as goal

pub returns : goal.returns
unfolding binding
returns c =
    runs_bind (spelled (codes "vk")) (λ p. expect m.DoubleColon >>= (λ _. next (binding_at (limits_of c.args.limits) c.args.targets.now c.args.given c.args.begin p)))
    c.in_ok-from.from c.args.tokens.now c.spelled.new.tokens _ _ c.in_ok-from.ensures
    (runs_bind (expect m.DoubleColon) (λ _. next (binding_at (limits_of c.args.limits) c.args.targets.now c.args.given c.args.begin c.in_ok-from.from))
    c.in_ok-expect.field-0 c.spelled.new.tokens c.expect.new.tokens _ _ c.in_ok-expect.ensures c.binding_name.ensures)
