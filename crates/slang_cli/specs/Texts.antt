-- Which shader a text says.
use Rattle.std.specs.Prelude.{◌≡◌, ℕ, List, Some}
use Rattle.slang_tree.specs.declared.file.File.{File}
use Rattle.slang_parse.specs.Parsing.{Spells}
use Rattle.first_form.specs.declared.shader.Shader.{Shader}
use Rattle.tree_form.specs.Forms.{form_of}

-- the text spells a file within the limits of the language, which is of the first form and is this shader
pub record FirstForm (text : List ℕ) (shader : Shader) : Type 0 where
  pub file : File
  pub spelled : Spells text file
  pub is : form_of file ≡ Some shader
