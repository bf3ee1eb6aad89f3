use Rattle.std.proofs.Common.{ℕ, List, [], ◌∷◌, length, ap, ◌∙◌}
use Rattle.std.specs.Fmt.{decimal}
use Rattle.spirv_words.specs.Bytes.{bytes_of_words}
use Rattle.slang_outcomes.specs.Lines.{line}
use Rattle.slang_cli.specs.Answers.{Puts, puts_image}
use Rattle.slang_cli.proofs.Results.{if_ok_to}
use Rattle.slang_cli.proofs.Told.{on_ok_of, narrow_of}
use Rattle.slang_cli.proofs.compile.image_put.Goals as goal

pub returns-clause-puts : goal.returns-clause-puts
returns-clause-puts c =
    let image = c.args.image.now in
    if_ok_to _ _ c.words_put.result c.words_put.ensures.puts (λ a e.
    e
    ∙ ap (λ (words : List ℕ). Puts image (bytes_of_words words) (line image (decimal (length words) ∷ []))) (c.as_slice.ensures.value ∙ c.in_ok-words.ensures)
    ∙ ap (λ (home : List ℕ). puts_image image home c.args.shader.now) c.in_ok-name.ensures)

pub returns-clause-narrow : goal.returns-clause-narrow
returns-clause-narrow c =
    on_ok_of c.words_put.result (narrow_of c.args.home.now c.args.shader.now _ _ c.in_ok-name.ensures (c.as_slice.ensures.value ∙ c.in_ok-words.ensures) c.words_put.ensures.narrow)
