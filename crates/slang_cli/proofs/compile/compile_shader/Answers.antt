use Rattle.slang_cli.specs.Views as view
use Rattle.slang_cli.proofs.Results.{if_ok_to}
use Rattle.slang_cli.proofs.Told.{refused_puts, all_put}
use Rattle.slang_cli.proofs.compile.compile_shader.Goals as goal

pub returns-then-is_entry-clause-narrow : goal.returns-then-is_entry-clause-narrow
returns-then-is_entry-clause-narrow c = all_put _ c.image_put.result c.image_put.ensures.narrow

pub returns-else-is_entry-clause-narrow : goal.returns-else-is_entry-clause-narrow
returns-else-is_entry-clause-narrow c = if_ok_to _ _ c.no_entry.result c.no_entry.ensures (λ a e. refused_puts _ (view.answer a) _ e.0)
