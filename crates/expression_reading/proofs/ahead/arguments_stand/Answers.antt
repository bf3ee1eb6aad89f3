use Rattle.std.proofs.Common.{refl, ◌∙◌, ap}
use Rattle.slang_reading.specs.Cursor.{moved}
use Rattle.type_reading.specs.Limited.{limits_of}
use Rattle.slang_grammar.specs.ExpressionsDescent.{freed}
use Rattle.expression_reading.proofs.Stands.{ready_length, ready_knows, scan_not_past, scan_stopped, scan_ended}
use Rattle.expression_reading.proofs.ahead.arguments_stand.Goals as goal

pub scan_known-requires : goal.scan_known-requires
scan_known-requires c = ready_knows c.args.limits c.args.scans.now c.args.tokens.now.tokens c.requires

pub unreachable-requires : goal.unreachable-requires
unreachable-requires c = scan_not_past c.args.tokens.now c.scan_known.new.tokens _ _ (rw c.in-Err-Past.field-0-is at c.in-Err-Past.ensures.scans)

pub returns-in-Ok-clause-foresees : goal.returns-in-Ok-clause-foresees
returns-in-Ok-clause-foresees c =
    scan_ended (limits_of c.args.limits) c.args.tokens.now
    (c.arguments_are_scanned.ensures c.args.tokens.now.tokens (freed (limits_of c.args.limits)) c.args.tokens.now.at c.args.tokens.now.seen refl (ready_length c.args.limits c.args.scans.now c.args.tokens.now.tokens c.requires))
    c.scan_known.new.tokens c.follows-stand.new.tokens c.back_to.new.self c.in-Ok.ensures.scans c.follows-stand.ensures.after (c.back_to.ensures ∙ ap (moved c.follows-stand.new.tokens) c.at-back.ensures.is) c.follows-stand.result c.follows-stand.ensures.is

pub returns-in-Err-Stopped-clause-foresees : goal.returns-in-Err-Stopped-clause-foresees
returns-in-Err-Stopped-clause-foresees c =
    scan_stopped (limits_of c.args.limits) c.args.tokens.now
    (c.arguments_are_scanned.ensures c.args.tokens.now.tokens (freed (limits_of c.args.limits)) c.args.tokens.now.at c.args.tokens.now.seen refl (ready_length c.args.limits c.args.scans.now c.args.tokens.now.tokens c.requires))
    c.scan_known.new.tokens c.back_to-in-Err-Stopped.new.self (rw c.in-Err-Stopped.field-0-is at c.in-Err-Stopped.ensures.scans)
    (c.back_to-in-Err-Stopped.ensures ∙ ap (moved c.scan_known.new.tokens) c.at-back.ensures.is)
