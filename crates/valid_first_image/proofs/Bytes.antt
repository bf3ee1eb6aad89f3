-- The words of a shader's image are words of 32 bits, so that they are read from their bytes.
use Rattle.std.proofs.Common.{ℕ, ◌+◌, ◌*◌, ◌^◌, ◌<◌, List, [], ◌∷◌, ◌++◌, length, arith, lit<}
use Rattle.std.specs.List.{AllByRecursion}
use Rattle.std.proofs.lemmas.List.Elements.{All-from_recursion}
use Rattle.spirv_words.specs.declared.images.Instruction.{Instruction}
use Rattle.spirv_words.specs.Opcodes.{op_number}
use Rattle.spirv_words.specs.Strings.{IsText}
use Rattle.spirv_words.specs.Words.{AreInstructions, body_words, image_words, CanBeSpelled, Spells}
use Rattle.spirv_words.specs.Bytes.{bytes_of_words, words_of_bytes}
use Rattle.spirv_words.proofs.Numbers.{op_number-small}
use Rattle.spirv_words.proofs.Spelled.{words_of_bytes-bytes_of_words}
use Rattle.first_form.specs.declared.shader.Shader.{Shader}
use Rattle.first_form.specs.Shaders.{IsShader}
use Rattle.first_image.specs.Image.{image_of}
use Rattle.first_image.proofs.Standing.{HasAt}
use Rattle.valid_first_image.proofs.Walks.{AllAt}
use Rattle.valid_first_image.proofs.Named.{operands_small}
use Rattle.valid_first_image.proofs.Sections.{code, code_numbered, has_code}
use Rattle.valid_first_image.proofs.Suited.{Suits, code_suits}
use Rattle.valid_first_image.proofs.Small.{bound_small}

abbrev AreSmall : List ℕ → Type 0
AreSmall ws = AllByRecursion (λ w. w < 2 ^ 32) ws

small_on : (a b : List ℕ) → AreSmall a → AreSmall b → AreSmall (a ++ b)
small_on [] b h g = g
small_on (w ∷ a) b h g = (h.0, small_on a b h.1 g)

module _ (home : List ℕ) (p : Shader) (low : (image_of home p).bound < 2 ^ 32) where
  body_small : (is : List Instruction) (k : ℕ) → HasAt (code home p) k is → AllAt (Suits home p) k is → AreInstructions is → AreSmall (body_words is)
  body_small [] k has suits are = tt
  body_small (i ∷ is) k has suits are =
      let first : (length i.operands + 1) * 65536 + op_number i.op < 2 ^ 32 = omega (arith, are.0.short, op_number-small i.op) in
      (first, small_on i.operands (body_words is) (operands_small (image_of home p) (code_numbered home p) k i i.operands 0 low has.0 suits.0) (body_small is (k + 1) has.1 suits.1 are.1))

  words_small : IsText home → IsShader p → CanBeSpelled (image_of home p) → AreSmall (image_words (image_of home p))
  words_small text shader spelled =
      (lit< tt, (lit< tt, (lit< tt, (low, (lit< tt, body_small (code home p) 0 (has_code home p) (code_suits home p text shader) spelled.instructions)))))

pub read_back : (home : List ℕ) (p : Shader) → IsText home → IsShader p → length p.statements < 2 ^ 20 → CanBeSpelled (image_of home p)
    → Spells (words_of_bytes (bytes_of_words (image_words (image_of home p)))) (image_of home p)
read_back home p text shader few spelled =
    let low = bound_small home p shader few in
    record { can_be = spelled; are = words_of_bytes-bytes_of_words (image_words (image_of home p)) (All-from_recursion (λ w. w < 2 ^ 32) (image_words (image_of home p)) (words_small home p low text shader spelled)) }
