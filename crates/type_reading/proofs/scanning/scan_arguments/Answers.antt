use Rattle.std.proofs.Common.{sym}
use Rattle.type_reading.specs.Scanning.{scanned, arguments_taken}
use Rattle.type_reading.proofs.Scanned.{arguments_scanned}
use Rattle.type_reading.proofs.Scans.{runs_alike}
use Rattle.type_reading.proofs.scanning.scan_arguments.Goals as goal

pub returns-clause-same : goal.returns-clause-same
returns-clause-same c = λ limits free long.
    runs_alike scanned (arguments_taken limits) c.args.tokens.now c.scan_from_here.new.tokens c.scan_from_here.result
    (sym (arguments_scanned c.args.tokens.now.tokens limits c.args.tokens.now.at c.args.tokens.now.seen free long)) c.scan_from_here.ensures
