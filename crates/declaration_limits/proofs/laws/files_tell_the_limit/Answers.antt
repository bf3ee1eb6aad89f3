use Rattle.std.proofs.Common.{◌≡◌, ℕ, zero, suc, ◌≤◌, List, length, Some, arith}
use Rattle.slang_tree.specs.declared.file.File.{File}
use Rattle.slang_reading.specs.Lexed.{Lexed}
use Rattle.slang_grammar.specs.Descent.{Limits}
use Rattle.declaration_grammar.specs.Declarations.{FileAt}
use Rattle.declaration_grammar.specs.DeclarationsDescent.{files}
use Rattle.expression_limits.specs.Breaks.{Break}
use Rattle.expression_limits.proofs.Telling.{tells_done, tells_past}
use Rattle.declaration_limits.specs.Declarations.{file_break, file_breaks}
use Rattle.statement_limits.specs.Order.{IsKnownFirst}
use Rattle.statement_limits.proofs.Order.{known_first}
use Rattle.declaration_limits.proofs.FilesOrder.{known_file}
use Rattle.declaration_limits.proofs.Files.{tells_files}
use Rattle.declaration_limits.proofs.laws.files_tell_the_limit.Goals as goal

pub returns-clause-answered : goal.returns-clause-answered
returns-clause-answered c = λ ts limits nodes seen x s free long e.
    let whole = tells_files ts limits free long nodes s in
    let done = tells_done (file_breaks ts limits s nodes) (files limits nodes) ts 0 seen x whole.to (whole.tells seen) e in
    (whole.to, done.0, done.1)

pub returns-clause-told : goal.returns-clause-told
returns-clause-told c = λ ts limits nodes seen x s b free long e.
    let whole = tells_files ts limits free long nodes s in
    tells_past (file_breaks ts limits s nodes) (files limits nodes) ts 0 seen x whole.to b (whole.tells seen) e

pub returns-clause-goes_first : goal.returns-clause-goes_first
returns-clause-goes_first c = go
  where
    go : (ts : List Lexed) (limits : Limits) (nodes : ℕ) (x : File) (s : FileAt ts x) (b : Break) → 1 ≤ nodes → file_break ts limits s nodes ≡ Some b → IsKnownFirst ts 0 (length ts) b (file_breaks ts limits s nodes)
    go ts limits zero x s b h e = absurd (omega (arith, h))
    go ts limits (suc d) x s b h e = known_first ts 0 (length ts) b (file_breaks ts limits s (suc d)) (known_file ts limits d s) e
