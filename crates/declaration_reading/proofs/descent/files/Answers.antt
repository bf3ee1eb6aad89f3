use Rattle.std.proofs.Common.{rules, [], ◌≡◌, refl, Ok, Err}
use Rattle.slang_tree.specs.declared.file.File.{File}
use Rattle.slang_tokens.specs.declared.tokens.Word.TheVariants as w
use Rattle.slang_reading.specs.Kinds.{sees_word}
use Rattle.slang_reading.specs.Reading.{turns, bind, pure}
use Rattle.slang_reading.specs.Cursor.{Runs}
use Rattle.slang_reading.proofs.Loops.{runs_bind}
use Rattle.declaration_grammar.specs.DeclarationsDescent.{module_line, import_more, is_token, item_more, files}
use Rattle.type_reading.specs.Limited.{limits_of}
use Rattle.declaration_reading.proofs.Bound.{runs_fail}
use Rattle.declaration_reading.proofs.descent.files.Goals as goal

pub returns-in_err-items : goal.returns-in_err-items
unfolding files
returns-in_err-items c =
    let limits = limits_of c.args.limits in
    let e : c.from_residual-in_err-items.result ≡ Err c.in_err-items.field-0.0 = search rules in
    rw e (runs_bind (module_line limits c.args.depth) _ c.in_ok-line.line c.args.tokens.now c.module_line.new.tokens c.items.new.tokens (Err c.in_err-items.field-0.0) c.in_ok-line.ensures
    (runs_bind (turns (sees_word w.Import) (import_more limits c.args.depth) limits.turns []) _ c.in_ok-imports.imports c.module_line.new.tokens c.imports.new.tokens c.items.new.tokens
    (Err c.in_err-items.field-0.0) c.in_ok-imports.ensures
    (runs_fail (turns (is_token limits c.args.depth) (item_more limits c.args.depth) limits.turns []) _ c.in_err-items.field-0.0 c.imports.new.tokens c.items.new.tokens c.in_err-items.ensures)))

pub returns : goal.returns
unfolding files
returns c =
    let limits = limits_of c.args.limits in
    let file : File = record { «module» = c.in_ok-line.line; imports = c.in_ok-imports.imports; items = c.in_ok-items.items } in
    let last : Runs (pure file) c.items.new.tokens (Ok file) c.items.new.tokens = (refl, refl) in
    runs_bind {B = File} (module_line limits c.args.depth) _ c.in_ok-line.line c.args.tokens.now c.module_line.new.tokens c.items.new.tokens (Ok file) c.in_ok-line.ensures
    (runs_bind {B = File} (turns (sees_word w.Import) (import_more limits c.args.depth) limits.turns []) _ c.in_ok-imports.imports c.module_line.new.tokens c.imports.new.tokens c.items.new.tokens
    (Ok file) c.in_ok-imports.ensures
    (runs_bind {B = File} (turns (is_token limits c.args.depth) (item_more limits c.args.depth) limits.turns []) _ c.in_ok-items.items c.imports.new.tokens c.items.new.tokens c.items.new.tokens
    (Ok file) c.in_ok-items.ensures last))
