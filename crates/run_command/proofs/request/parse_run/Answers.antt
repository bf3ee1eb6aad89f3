use Rattle.std.proofs.Common.{string_bytes, ◌∙◌}
use Rattle.run_command.proofs.Requested.{other_count, eight}
use Rattle.run_command.proofs.request.parse_run.Goals as goal

pub returns-then-words-ne8-clause-request : goal.returns-then-words-ne8-clause-request
returns-then-words-ne8-clause-request c = other_count string_bytes c.args.words.now c.if-words-ne8.true

pub returns-clause-request : goal.returns-clause-request
returns-clause-request c =
    let e = eight string_bytes c.args.words.now c.index-words-0.result c.index-words-1.result c.index-words-2.result c.index-words-3.result c.index-words-4.result c.index-words-5.result c.index-words-6.result c.index-words-7.result c.if-words-ne8.false
    (record { zeroth = c.index-words-0.is; first = c.index-words-1.is; second = c.index-words-2.is; third = c.index-words-3.is; fourth = c.index-words-4.is; fifth = c.index-words-5.is; sixth = c.index-words-6.is; seventh = c.index-words-7.is }) in
    c.request_of.ensures.request ∙ rw (c.as_bytes.ensures.value, c.as_bytes-2.ensures.value, c.as_bytes-3.ensures.value, c.as_bytes-4.ensures.value, c.as_str.ensures.value, c.as_str-2.ensures.value, c.as_str-3.ensures.value, c.as_str-4.ensures.value) e
