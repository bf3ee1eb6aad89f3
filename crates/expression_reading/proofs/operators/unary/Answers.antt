use Rattle.std.proofs.Common.{rules, ◌≡◌, ◌∙◌, ap}
use Rattle.slang_tokens.specs.declared.tokens.Kind.TheVariants as k
use Rattle.slang_tokens.specs.declared.tokens.Mark.TheVariants as m
use Rattle.slang_reading.specs.Cursor.{Cursor, taken}
use Rattle.slang_grammar.specs.ExpressionsDescent.{leveled}
use Rattle.type_reading.specs.Limited.{limits_of}
use Rattle.expression_reading.proofs.Casts.{casts_runs}
use Rattle.expression_reading.proofs.operators.unary.Goals as goal

pub returns-in-Mark-OpenParen-clause-reads : goal.returns-in-Mark-OpenParen-clause-reads
returns-in-Mark-OpenParen-clause-reads g c =
    let opens : c.in-Some.token.kind ≡ k.Mark m.OpenParen = search rules in
    casts_runs (limits_of c.args.limits) c.args.depth (leveled (limits_of c.args.limits) c.args.depth) c.in-Some.token c.args.tokens.now c.bump.new.self c.cast.new.tokens c.cast.result c.in-Some.ensures.token opens
    (c.bump.ensures ∙ ap (λ (n : Cursor). taken n) c.peek.ensures.after) c.cast.ensures.reads
