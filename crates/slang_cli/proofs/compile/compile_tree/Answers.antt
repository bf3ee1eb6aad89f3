use Rattle.std.proofs.Common.{◌≡◌, None, Some, sym, ap, ◌∙◌}
use Rattle.slang_tree.specs.declared.file.File.{File}
use Rattle.tree_form.specs.Forms.{form_of}
use Rattle.slang_cli.specs.Answers.{not_yet, HasNarrowForm}
use Rattle.slang_cli.specs.Views as view
use Rattle.slang_cli.proofs.Results.{if_ok_to}
use Rattle.slang_cli.proofs.Compiled.{answered, from_shader}
use Rattle.slang_cli.proofs.Told.{refused_puts, if_puts_to}
use Rattle.slang_cli.proofs.compile.compile_tree.Goals as goal

pub compile_shader-requires-clause-shader : goal.compile_shader-requires-clause-shader
compile_shader-requires-clause-shader c =
    let found = rw c.in-Some.is at c.in_ok-shader_of.ensures in
    let e : form_of c.args.tree.now ≡ Some c.in-Some.shader = sym (found ∙ ap (λ (f : File). form_of f) c.file.ensures.same) in
    c.forms_are_shaders.ensures.is_shader c.args.tree.now c.in-Some.shader e

pub compile_shader-requires-clause-few : goal.compile_shader-requires-clause-few
compile_shader-requires-clause-few c =
    let found = rw c.in-Some.is at c.in_ok-shader_of.ensures in
    let e : form_of c.args.tree.now ≡ Some c.in-Some.shader = sym (found ∙ ap (λ (f : File). form_of f) c.file.ensures.same) in
    c.requires.few c.in-Some.shader e

pub returns-in-None-clause-answer : goal.returns-in-None-clause-answer
returns-in-None-clause-answer c =
    let found = rw c.in-None.is at c.in_ok-shader_of.ensures in
    let e : form_of c.args.tree.now ≡ None = sym (found ∙ ap (λ (f : File). form_of f) c.file.ensures.same) in
    λ m text held spelled. if_ok_to _ _ c.module_refused.result c.module_refused.ensures (λ a is.
    answered m _ _ _ (view.answer a) _ is.0 (not_yet {text = text} {file = c.args.tree.now} held spelled e))

pub returns-in-Some-clause-answer : goal.returns-in-Some-clause-answer
returns-in-Some-clause-answer c =
    let found = rw c.in-Some.is at c.in_ok-shader_of.ensures in
    let e : form_of c.args.tree.now ≡ Some c.in-Some.shader = sym (found ∙ ap (λ (f : File). form_of f) c.file.ensures.same) in
    λ m text held spelled. if_ok_to _ _ c.compile_shader.result c.compile_shader.ensures.answer (λ a of.
    from_shader m _ _ _ text c.in-Some.shader (view.answer a) held (record { file = c.args.tree.now; spelled = spelled; is = e }) of)

pub returns-in-None-clause-narrow : goal.returns-in-None-clause-narrow
returns-in-None-clause-narrow c = if_ok_to _ _ c.module_refused.result c.module_refused.ensures (λ a e. refused_puts _ (view.answer a) _ e.0)

pub returns-in-Some-clause-narrow : goal.returns-in-Some-clause-narrow
returns-in-Some-clause-narrow c =
    let found = rw c.in-Some.is at c.in_ok-shader_of.ensures in
    let e : form_of c.args.tree.now ≡ Some c.in-Some.shader = sym (found ∙ ap (λ (f : File). form_of f) c.file.ensures.same) in
    if_ok_to _ _ c.compile_shader.result c.compile_shader.ensures.narrow (λ a narrow. if_puts_to _ narrow (λ n.
    let w : HasNarrowForm c.args.home.now c.args.tree.now = (c.in-Some.shader, e, n) in w))
