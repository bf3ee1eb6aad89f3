use Rattle.std.proofs.Common.{ℕ, List, Some, ap, sym, ◌∙◌}
use Rattle.slang_outcomes.specs.declared.outcome.Outcome.TheVariants.{Absent}
use Rattle.slang_cli.specs.Answers.{Refuses, absent, not_parsed}
use Rattle.slang_parse.specs.Parsing.{too_long}
use Rattle.slang_cli.specs.Views as view
use Rattle.slang_cli.proofs.Results.{if_ok_to}
use Rattle.slang_cli.proofs.Compiled.{answered}
use Rattle.slang_cli.proofs.Told.{refused_puts}
use Rattle.slang_cli.proofs.compile.compile_found.Goals as goal

pub returns-in_ok-name-in-Absent-clause-answer : goal.returns-in_ok-name-in-Absent-clause-answer
returns-in_ok-name-in-Absent-clause-answer c =
    λ m held. if_ok_to _ _ c.refuses.result c.refuses.ensures (λ a e.
    answered m _ _ _ (view.answer a) _ (e.0 ∙ ap (λ (name : List ℕ). Refuses (Absent name)) c.in_ok-name-in-Absent.ensures) (absent (rw c.in-Absent.is at held)))

pub returns-in-TooLong-clause-answer : goal.returns-in-TooLong-clause-answer
returns-in-TooLong-clause-answer c =
    λ m held. let longer = rw c.in-TooLong.is at held in
    if_ok_to _ _ c.module_refused.result c.module_refused.ensures (λ a e.
    answered m _ _ _ (view.answer a) _ e.0 (not_parsed {text = longer.0} longer.1 (too_long longer.2)))

pub returns-in-Bytes-clause-told : goal.returns-in-Bytes-clause-told
returns-in-Bytes-clause-told c = λ m held.
    c.compile_text.ensures.told m (let h = rw c.in-Bytes.is at held in h ∙ ap (λ (b : List ℕ). Some b) (sym c.as_slice.ensures.value))

pub returns-in_ok-name-in-Absent-clause-told : goal.returns-in_ok-name-in-Absent-clause-told
returns-in_ok-name-in-Absent-clause-told c = λ m held. if_ok_to _ _ c.refuses.result c.refuses.ensures (λ a e. refused_puts _ (view.answer a) _ e.0)

pub returns-in-TooLong-clause-told : goal.returns-in-TooLong-clause-told
returns-in-TooLong-clause-told c = λ m held. if_ok_to _ _ c.module_refused.result c.module_refused.ensures (λ a e. refused_puts _ (view.answer a) _ e.0)
