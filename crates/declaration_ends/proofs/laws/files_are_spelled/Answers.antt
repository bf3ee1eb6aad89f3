use Rattle.expression_grammar.proofs.Parts.{post_here}
use Rattle.declaration_grammar.specs.Declarations.{FileAt}
use Rattle.declaration_grammar.specs.DeclarationsDescent.{files}
use Rattle.declaration_ends.proofs.Wrong.{spelled_files}
use Rattle.declaration_ends.proofs.laws.files_are_spelled.Goals as goal

pub returns : goal.returns
returns c = record { of_files = λ ts limits nodes seen to seen1 x e. post_here (λ y end. FileAt ts y) (files limits nodes ts 0 seen) x to seen1 e (spelled_files ts limits nodes seen) }
