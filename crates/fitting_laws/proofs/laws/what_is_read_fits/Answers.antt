use Rattle.std.proofs.Common.{ℕ}
use Rattle.slang_tree.specs.declared.statements.StatTree.{StatTree}
use Rattle.slang_tree.specs.declared.statements.Block.{Block}
use Rattle.slang_tree.specs.declared.file.File.{File}
use Rattle.slang_grammar.specs.Sizes.{TypeFits}
use Rattle.slang_grammar.specs.TypesDescent.{Type_, types}
use Rattle.slang_grammar.specs.ExpressionsDescent.{Value, expressions}
use Rattle.expression_grammar.specs.Sizes.{Fits}
use Rattle.expression_grammar.proofs.Parts.{post_here}
use Rattle.statement_grammar.specs.StatementsDescent.{statements, blocks}
use Rattle.statement_fits.specs.Sizes.{StatFits, BlockFits}
use Rattle.declaration_grammar.specs.DeclarationsDescent.{files}
use Rattle.declaration_fits.specs.Sizes.{FileFits}
use Rattle.fitting_laws.proofs.Types.{fitting_types}
use Rattle.fitting_laws.proofs.Expressions.{fitting_expressions}
use Rattle.fitting_laws.proofs.Statements.{fit_statements, fit_blocks}
use Rattle.fitting_laws.proofs.Files.{fit_files}
use Rattle.fitting_laws.proofs.laws.what_is_read_fits.Goals as goal

pub returns-clause-of_types : goal.returns-clause-of_types
returns-clause-of_types c = λ ts limits d at seen to seen1 x free e.
    post_here (λ (y : Type_) (end : ℕ). TypeFits limits d y.0) (types limits d ts at seen) x to seen1 e (fitting_types ts limits free d at seen)

pub returns-clause-of_expressions : goal.returns-clause-of_expressions
returns-clause-of_expressions c = λ ts limits d at seen to seen1 x free e.
    post_here (λ (y : Value) (end : ℕ). Fits limits d y.0) (expressions limits d ts at seen) x to seen1 e (fitting_expressions ts limits free d at seen)

pub returns-clause-of_statements : goal.returns-clause-of_statements
returns-clause-of_statements c = λ ts limits d at seen to seen1 x free e.
    post_here (λ (y : StatTree) (end : ℕ). StatFits limits d y) (statements limits d ts at seen) x to seen1 e (fit_statements ts limits free d at seen)

pub returns-clause-of_blocks : goal.returns-clause-of_blocks
returns-clause-of_blocks c = λ ts limits d at seen to seen1 x free e.
    post_here (λ (y : Block) (end : ℕ). BlockFits limits d y) (blocks limits d ts at seen) x to seen1 e (fit_blocks ts limits free d at seen)

pub returns-clause-of_files : goal.returns-clause-of_files
returns-clause-of_files c = λ ts limits nodes at seen to seen1 x free e.
    post_here (λ (y : File) (end : ℕ). FileFits limits nodes y) (files limits nodes ts at seen) x to seen1 e (fit_files ts limits free nodes at seen)
