use Rattle.std.proofs.Common.{◌∷◌, sym, arith}
use Rattle.slang_tokens.proofs.Lengths.{bounds_whole, bounds_line, bounds_slash, bounds_comment, bounds_same, bounds_min, tested_no}
use Rattle.slang_tokens.proofs.bounds.bound_slash_by.Goals as goal

pub returns-then-b-eq47-clause-none : goal.returns-then-b-eq47-clause-none
returns-then-b-eq47-clause-none c =
    rw c.if-b-eq47.true (bounds_same _ _ _ (bounds_line c.args.more.now) (omega (arith, c.run.ensures.value)))

pub returns-then-b-ne42-clause-none : goal.returns-then-b-ne42-clause-none
returns-then-b-ne42-clause-none c =
    bounds_min (47 ∷ c.args.b ∷ c.args.more.now) 3 _ (bounds_slash c.args.b c.args.more.now (tested_no c.args.b 47 c.if-b-eq47.false) (tested_no c.args.b 42 c.if-b-ne42.true)) (omega arith)

pub returns-in-Some-clause-none : goal.returns-in-Some-clause-none
returns-in-Some-clause-none c = rw c.if-b-ne42.false (bounds_comment c.args.more.now c.in-Some.most (sym c.in-Some.ensures.value))

pub returns-in-None-clause-none : goal.returns-in-None-clause-none
returns-in-None-clause-none c = bounds_whole (47 ∷ c.args.b ∷ c.args.more.now) _ (omega arith)
