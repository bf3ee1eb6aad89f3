use Rattle.std.proofs.Common.{◌∙◌, ap, Err}
use Rattle.slang_names.specs.declared.faults.ModuleFault.{ModuleFault}
use Rattle.slang_cli.specs.Answers.{not_parsed}
use Rattle.slang_cli.specs.Views as view
use Rattle.slang_cli.proofs.Results.{if_ok_to}
use Rattle.slang_cli.proofs.Compiled.{answered}
use Rattle.slang_cli.proofs.Statements.{few}
use Rattle.slang_cli.proofs.Named.{short_name}
use Rattle.slang_cli.proofs.Told.{refused_puts, if_puts_to, told_by}
use Rattle.slang_cli.proofs.compile.compile_text.Goals as goal

pub compile_tree-requires-clause-few : goal.compile_tree-requires-clause-few
compile_tree-requires-clause-few c = λ shader e.
    let spelled = rw c.in-Ok.is at c.parse.ensures.spelled in
    few shader.statements _ (c.forms_are_short.ensures.short c.args.text.now spelled.tokens c.in-Ok.tree shader spelled.cut spelled.spelled e) spelled.short

pub returns-in-Ok-clause-answer : goal.returns-in-Ok-clause-answer
returns-in-Ok-clause-answer c = λ m held. c.compile_tree.ensures.answer m c.args.text.now held (rw c.in-Ok.is at c.parse.ensures.spelled)

pub returns-in-Err-Refused-clause-answer : goal.returns-in-Err-Refused-clause-answer
returns-in-Err-Refused-clause-answer c = λ m held.
    if_ok_to _ _ c.module_refused.result c.module_refused.ensures (λ a e.
    answered m _ _ _ (view.answer a) _ e.0 (not_parsed {text = c.args.text.now} held (c.parse.ensures.refused _ _ (c.in-Err-Refused.is ∙ ap (λ (f : ModuleFault). Err f) c.in-Err-Refused.field-0-is))))

pub returns-in-Ok-clause-told : goal.returns-in-Ok-clause-told
returns-in-Ok-clause-told c = λ m held.
    let spelled = rw c.in-Ok.is at c.parse.ensures.spelled in
    if_ok_to _ _ c.compile_tree.result c.compile_tree.ensures.narrow (λ a narrow. if_puts_to _ narrow (λ n.
    told_by (record { one_file = c.a_text_is_parsed_or_refused.ensures.one_file; is_shader = c.forms_are_shaders.ensures.is_shader; bytes = c.forms_are_short.ensures.short; short = c.image_is_short.ensures })
    m c.args.home.now c.args.text.now n.0 held (record { file = c.in-Ok.tree; spelled = spelled; is = n.1 }) (short_name c.args.home.now c.requires.home).1 n.2))

pub returns-in-Err-Refused-clause-told : goal.returns-in-Err-Refused-clause-told
returns-in-Err-Refused-clause-told c = λ m held. if_ok_to _ _ c.module_refused.result c.module_refused.ensures (λ a e. refused_puts _ (view.answer a) _ e.0)
