use Rattle.std.proofs.Common.{sym, subst, ◌≤◌, length}
use Rattle.slang_reading.specs.Cursor.{Cursor}
use Rattle.ahead_reading.proofs.Foreseen.{scanned_within}
use Rattle.ahead_reading.proofs.ahead.scan_here.Goals as goal

pub back_to-requires : goal.back_to-requires
back_to-requires c =
    subst (λ (k : Cursor). c.in-Closed.to ≤ length k.tokens) (sym c.look_to.ensures) (scanned_within c.args.tokens.now.tokens c.at.result 0 c.in-Closed.to _ (c.in-Closed.ensures.knows c.args.tokens.now.tokens 0 c.requires))
