use Rattle.std.proofs.Common.{◌+◌, ◌∷◌, sym, arith}
use Rattle.slang_tokens.specs.Bytes.{is_in, run}
use Rattle.slang_tokens.specs.declared.bytes.Set.TheVariants as set
use Rattle.slang_tokens.proofs.Lengths.{bounds_hexadecimal, bounds_zero, bounds_min}
use Rattle.slang_tokens.proofs.bounds.bound_zero_by.Goals as goal

pub returns-then-is_radix-clause-none : goal.returns-then-is_radix-clause-none
returns-then-is_radix-clause-none c =
    bounds_min (48 ∷ c.args.b ∷ c.args.more.now) (run (is_in set.Hexadecimal) c.args.more.now + 4) _
    (bounds_hexadecimal c.args.b c.args.more.now (sym c.if-is_radix.ensures)) (omega (arith, c.run.ensures.value))

pub returns-clause-none : goal.returns-clause-none
returns-clause-none c =
    bounds_min (48 ∷ c.args.b ∷ c.args.more.now) 3 _ (bounds_zero c.args.b c.args.more.now (sym c.if-is_radix.ensures)) (omega arith)
