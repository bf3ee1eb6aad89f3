use Rattle.std.proofs.Common.{◌≡◌, ◌∙◌, ap, drop}
use Rattle.slang_reading.specs.Reading.{first}
use Rattle.slang_reading.proofs.Exact.{reads_not_stopped}
use Rattle.expression_grammar.proofs.Parts.{post_here, post_known}
use Rattle.declaration_grammar.specs.DeclarationsDescent.{files}
use Rattle.declaration_laws.proofs.Files.{reads_files}
use Rattle.declaration_laws.proofs.laws.files_are_read.Goals as goal

pub returns-clause-not_stopped : goal.returns-clause-not_stopped
returns-clause-not_stopped c = λ ts limits nodes seen seen1 x s e.
    let whole = reads_files (Unit {0}) tt ts limits nodes s in
    reads_not_stopped (Unit {0}) (files limits nodes) ts 0 seen x whole.to seen1 (whole.reads seen) e

pub returns-clause-answered : goal.returns-clause-answered
returns-clause-answered c = λ ts limits nodes seen end seen1 x y s e.
    let whole = reads_files (Unit {0}) tt ts limits nodes s in
    let same = post_here (λ b mid. (b ≡ x) × (mid ≡ whole.to)) (files limits nodes ts 0 seen) y end seen1 e (post_known (files limits nodes) ts 0 seen x whole.to (whole.reads seen)) in
    (same.0, ap (λ n. first (drop n ts)) same.1 ∙ whole.is)
