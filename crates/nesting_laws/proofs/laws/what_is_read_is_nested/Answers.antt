use Rattle.std.proofs.Common.{ℕ, arith}
use Rattle.slang_tree.specs.declared.statements.Block.{Block}
use Rattle.slang_tree.specs.declared.file.File.{File}
use Rattle.slang_tree.specs.Nesting.{deep_block, deep_item}
use Rattle.expression_grammar.proofs.Parts.{post_here}
use Rattle.statement_grammar.specs.StatementsDescent.{blocks}
use Rattle.declaration_grammar.specs.DeclarationsDescent.{files}
use Rattle.nesting_laws.proofs.Depths.{Clear}
use Rattle.nesting_laws.proofs.Reading.{All}
use Rattle.nesting_laws.proofs.Statements.{clear_blocks}
use Rattle.nesting_laws.proofs.Files.{clear_files}
use Rattle.nesting_laws.proofs.laws.what_is_read_is_nested.Goals as goal

pub returns-clause-of_blocks : goal.returns-clause-of_blocks
returns-clause-of_blocks c = λ ts limits d at seen end seen1 around x free e l.
    post_here (λ (y : Block) (to : ℕ). Clear d (deep_block y)) (blocks limits d ts at seen) x end seen1 e (clear_blocks ts limits free d at seen) around l

pub returns-clause-of_files : goal.returns-clause-of_files
returns-clause-of_files c = λ ts limits at seen end seen1 x free e.
    post_here (λ (y : File) (to : ℕ). All deep_item 64 y.items) (files limits 64 ts at seen) x end seen1 e (clear_files ts limits free 64 at seen) 0 (omega arith)
