use Rattle.std.proofs.Common.{◌≡◌, ◌+◌, ◌-◌, ap, ◌∙◌, arith}
use Rattle.slang_reading.specs.Lexed.{lexed_all}
use Rattle.slang_reading.specs.Reading.{Stop}
use Rattle.type_reading.specs.Limited.{language}
use Rattle.slang_parse.proofs.Texts.{first_wrong}
use Rattle.slang_parse.proofs.laws.wrong_tokens_are_the_first.Goals as goal

pub returns : goal.returns
returns c = λ text tokens seen e.
    let some = c.files_go_on.ensures.looked (lexed_all text tokens) language 64 seen e in
    let same : seen ≡ seen - 1 + 1 = omega (arith, some) in
    let stop = e ∙ ap (λ n. Stop n) same in
    first_wrong (lexed_all text tokens) (seen - 1)
    (c.files_go_on.ensures.goes_on (lexed_all text tokens) language 64 (seen - 1) stop)
    (c.files_go_on.ensures.within (lexed_all text tokens) language 64 (seen - 1) stop)
    (λ more x h s. c.files_go_on.ensures.goes_no_further (lexed_all text tokens) language 64 (seen - 1) more x stop h s)
    (λ x s. c.files_are_read.ensures.not_stopped (lexed_all text tokens) language 64 0 _ x s stop)
