use Rattle.std.proofs.Common.{◌+◌, ◌∷◌, sym, arith}
use Rattle.slang_tokens.specs.Bytes.{is_digit, run}
use Rattle.slang_tokens.proofs.Lengths.{bounds_letter, bounds_digit, bounds_other, bounds_same, bounds_min, tested_no}
use Rattle.slang_tokens.proofs.bounds.bound_by.Goals as goal

pub returns-then-is_letter-clause-none : goal.returns-then-is_letter-clause-none
returns-then-is_letter-clause-none c =
    bounds_same (c.args.b ∷ c.args.rest.now) _ _ (bounds_letter c.args.b c.args.rest.now (sym c.if-is_letter.ensures)) (omega (arith, c.run.ensures.value))

pub returns-then-is_digit-clause-none : goal.returns-then-is_digit-clause-none
returns-then-is_digit-clause-none c =
    bounds_min (c.args.b ∷ c.args.rest.now) (run is_digit c.args.rest.now + 2 + 1) _
    (bounds_digit c.args.b c.args.rest.now (sym c.if-is_letter.ensures) (tested_no c.args.b 48 c.if-b-eq48.false) (sym c.if-is_digit.ensures)) (omega (arith, c.run-then-is_digit.ensures.value))

pub returns-clause-none : goal.returns-clause-none
returns-clause-none c =
    bounds_min (c.args.b ∷ c.args.rest.now) 3 _
    (bounds_other c.args.b c.args.rest.now (sym c.if-is_letter.ensures) (sym c.if-is_digit.ensures) (tested_no c.args.b 34 c.if-b-eq34.false) (tested_no c.args.b 47 c.if-b-eq47.false)) (omega arith)
