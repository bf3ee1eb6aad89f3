use Rattle.std.proofs.Common.{◌≡◌, take}
use Rattle.refusal_lines.specs.Pictures.{pieces}
use Rattle.refusal_lines.proofs.rows.pieces.Given as goal

abbrev pub invariant-loop-i : goal.invariant-loop-i
invariant-loop-i l = l.out.items ≡ pieces l.row (take l.i l.bytes)
