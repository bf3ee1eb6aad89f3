use Rattle.std.proofs.Common.{◌≡◌, false, drop}
use Rattle.slang_tokens.specs.Lexemes as spec
use Rattle.slang_tokens.proofs.Runs.{option_plus}
use Rattle.slang_tokens.proofs.lexemes.close.Given as goal

abbrev pub invariant-loop-i : goal.invariant-loop-i
invariant-loop-i l = spec.close false l.bytes ≡ option_plus l.i (spec.close l.star (drop l.i l.bytes))
