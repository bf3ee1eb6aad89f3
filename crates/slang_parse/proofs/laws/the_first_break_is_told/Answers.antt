use Rattle.std.proofs.Common.{◌≡◌, ℕ, ◌++◌, ◌+◌, ◌-◌, take, sym, ap, subst, ◌∙◌, arith}
use Rattle.slang_reading.specs.Lexed.{lexed_all}
use Rattle.slang_reading.specs.Reading.{Past}
use Rattle.type_reading.specs.Limited.{language}
use Rattle.declaration_grammar.specs.DeclarationsDescent.{files}
use Rattle.slang_parse.proofs.Texts.{unbroken, broken, of_files}
use Rattle.slang_parse.proofs.laws.the_first_break_is_told.Goals as goal

pub returns-clause-unbroken : goal.returns-clause-unbroken
returns-clause-unbroken c = unbroken
    (record {
      spelled = c.files_are_spelled.ensures.of_files;
      fits = c.what_is_read_fits.ensures.of_files;
      answered = c.files_are_answered.ensures;
      whole_text = c.cut_or_refused.ensures.one;
      not_both = c.cut_or_refused.ensures.not_both;
      one = c.one_cutting.ensures;
    })
    (record { answered = c.files_tell_the_limit.ensures.answered; told = c.files_tell_the_limit.ensures.told })

pub returns-clause-broken : goal.returns-clause-broken
returns-clause-broken c = broken (record { answered = c.files_tell_the_limit.ensures.answered; told = c.files_tell_the_limit.ensures.told })

pub returns-clause-first : goal.returns-clause-first
returns-clause-first c = λ ts file s b e. c.files_tell_the_limit.ensures.goes_first ts language 64 file s b (omega arith) e

pub returns-clause-goes_on : goal.returns-clause-goes_on
returns-clause-goes_on c = λ text tokens code place seen e.
    let some = c.limits_go_on.ensures.looked (lexed_all text tokens) language 64 seen code place e in
    let same : seen ≡ seen - 1 + 1 = omega (arith, some) in
    c.limits_go_on.ensures.goes_on (lexed_all text tokens) language 64 (seen - 1) code place (e ∙ ap (λ n. Past code place n) same)

pub returns-clause-of_files : goal.returns-clause-of_files
returns-clause-of_files c = λ text tokens code place seen more file e within s h.
    let some = c.limits_go_on.ensures.looked (lexed_all text tokens) language 64 seen code place e in
    let same : seen ≡ seen - 1 + 1 = omega (arith, some) in
    let decided = c.limits_go_on.ensures.decides (lexed_all text tokens) language 64 (seen - 1) code place more (e ∙ ap (λ n. Past code place n) same) (omega (arith, some, within)) in
    of_files (record { answered = c.files_tell_the_limit.ensures.answered; told = c.files_tell_the_limit.ensures.told })
    (lexed_all text tokens) (take seen (lexed_all text tokens) ++ more) file s code place (seen - 1 + 1)
    (subst (λ (n : ℕ). files language 64 (take n (lexed_all text tokens) ++ more) 0 0 ≡ Past code place (seen - 1 + 1)) (sym same) decided) h
