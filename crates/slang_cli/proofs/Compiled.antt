-- From what was made to what `compile` answers.
use Rattle.std.proofs.Common.{◌≡◌, ⊎_elim, ℕ, List, Some, sym, subst}
use Rattle.slang_names.specs.declared.names.Ref.{Ref}
use Rattle.slang_store.specs.Contents.{Contents}
use Rattle.first_form.specs.declared.shader.Shader.{Shader}
use Rattle.slang_cli.specs.Texts.{FirstForm}
use Rattle.slang_cli.specs.Commands.{text_name}
use Rattle.slang_cli.specs.Answers.{Answer, Compiles, no_entry, puts, OfShader}

-- an equal answer
pub answered : (m : Contents) (entry : Ref) (image home : List ℕ) (a b : Answer) → a ≡ b → Compiles m entry image home b → Compiles m entry image home a
answered m entry image home a b e h = subst (λ (x : Answer). Compiles m entry image home x) (sym e) h

-- the answer to a text that says a shader
pub from_shader : (m : Contents) (entry : Ref) (image home text : List ℕ) (shader : Shader) (a : Answer) → m (text_name home) ≡ Some text → FirstForm text shader → OfShader entry image home shader a → Compiles m entry image home a
from_shader m entry image home text shader a held form of =
    ⊎_elim
    (λ is. answered m entry image home a _ is.1 (puts {text = text} {shader = shader} held form is.0))
    (λ other. answered m entry image home a _ other.1 (no_entry {text = text} {shader = shader} held form other.0))
    of
