use Rattle.std.proofs.Common.{refl, ◌∙◌, ap, subst, Err}
use Rattle.slang_reading.specs.declared.faults.Fault.{Fault}
use Rattle.slang_reading.specs.Cursor.{Runs, moved}
use Rattle.slang_grammar.specs.ExpressionsDescent.{freed}
use Rattle.type_reading.specs.Limited.{limits_of}
use Rattle.type_reading.specs.Scanning.{scanned, arguments_taken}
use Rattle.ahead_reading.specs.Knowing.{Ready}
use Rattle.ahead_reading.proofs.Foreseen.{foresees, foresees_not, never_past}
use Rattle.ahead_reading.proofs.ahead.arguments_follow.Goals as goal

pub scan_known-requires : goal.scan_known-requires
unfolding Ready
scan_known-requires c = c.requires.1

pub returns-in-Ok : goal.returns-in-Ok
unfolding Ready
returns-in-Ok c =
    let l = limits_of c.args.limits in
    foresees l c.args.tokens.now c.follows-answer.result c.scan_known.new.tokens c.follows-answer.new.tokens c.back_to.new.self (c.in-Ok.ensures.same (freed l) refl c.requires.0)
    c.follows-answer.ensures.is c.follows-answer.ensures.after (c.back_to.ensures ∙ ap (λ a. moved c.follows-answer.new.tokens a) c.at-begin.ensures.is)

pub returns-in-Err-Stopped : goal.returns-in-Err-Stopped
unfolding Ready
returns-in-Err-Stopped c =
    let l = limits_of c.args.limits in
    foresees_not l c.args.tokens.now c.scan_known.new.tokens c.back_to-in-Err-Stopped.new.self
    (subst (λ (e : Fault). Runs (arguments_taken (freed l)) c.args.tokens.now (Err e) c.scan_known.new.tokens) c.in-Err-Stopped.field-0-is (c.in-Err-Stopped.ensures.same (freed l) refl c.requires.0))
    (c.back_to-in-Err-Stopped.ensures ∙ ap (λ a. moved c.scan_known.new.tokens a) c.at-begin.ensures.is)

pub returns-in-Err-Past : goal.returns-in-Err-Past
returns-in-Err-Past c =
    let r = subst (λ (e : Fault). Runs scanned c.args.tokens.now (Err e) c.scan_known.new.tokens) c.in-Err-Past.field-0-is c.in-Err-Past.ensures.scans in
    absurd (never_past c.args.tokens.now.tokens c.args.tokens.now.at c.args.tokens.now.seen c.in-Err-Past.field-0-0 c.in-Err-Past.field-0-1 c.scan_known.new.tokens.seen r.0)
