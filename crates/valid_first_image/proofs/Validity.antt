-- The image of a shader keeps each rule.
use Rattle.std.proofs.Common.{ℕ, List}
use Rattle.spirv_words.specs.declared.faults.ImageCode.{ImageCode}
use Rattle.spirv_words.specs.declared.faults.ImageCode.TheVariants.{Order, Ids, Types, Blocks, Calls}
use Rattle.spirv_words.specs.Words.{CanBeSpelled}
use Rattle.first_form.specs.declared.shader.Shader.{Shader}
use Rattle.first_form.specs.Shaders.{IsShader}
use Rattle.first_image.specs.Image.{image_of}
use Rattle.spirv_words.specs.Strings.{IsText}
use Rattle.spirv_check.specs.Valid.{Breaks, Valid}
use Rattle.valid_first_image.proofs.Ordered.{in_order, in_blocks, calls_nothing}
use Rattle.valid_first_image.proofs.Suited.{names_nothing_wrong}
use Rattle.valid_first_image.proofs.Typed.{types_fit}

keeps : (home : List ℕ) (p : Shader) → IsText home → IsShader p → (code : ImageCode) (place : ℕ) → Breaks (image_of home p) code place → ⊥
keeps home p text shader Order place h = in_order home p place h
keeps home p text shader Ids place h = names_nothing_wrong home p text shader place h
keeps home p text shader Types place h = types_fit home p place h
keeps home p text shader Blocks place h = in_blocks home p place h
keeps home p text shader Calls place h = calls_nothing home p place h
keeps home p text shader code place h = h

pub valid : (home : List ℕ) (p : Shader) → IsText home → IsShader p → CanBeSpelled (image_of home p) → Valid (image_of home p)
valid home p text shader spelled = record { spelled = spelled; keeps = keeps home p text shader }
