-- Valid images, and the first fault of one that is not.
use Rattle.std.specs.Prelude.{ℕ, ◌<◌, Some}
use Rattle.spirv_words.specs.declared.images.Image.{Image}
use Rattle.spirv_words.specs.declared.faults.ImageCode.{ImageCode}
use Rattle.spirv_words.specs.declared.faults.ImageCode.TheVariants.{Order, Ids, Types, Blocks, Calls}
use Rattle.spirv_words.specs.Words.{CanBeSpelled}
use Rattle.spirv_words.specs.Codes.{code_number}
use Rattle.image_places.specs.Places.{IsFirst, FaultAt}
use Rattle.image_rules.specs.Order.{OutOfOrder}
use Rattle.image_rules.specs.Ids.{WrongId}
use Rattle.image_rules.specs.Blocks.{BadBlock}
use Rattle.image_types.specs.Checking.{has_wrong_types}
use Rattle.image_calls.specs.Calls.{BadCall}

-- the image breaks the rule of a code at a place. Codes of refused words are no rules of images
abbrev pub Breaks : Image → ImageCode → ℕ → Type 0
Breaks image Order place = OutOfOrder image place
Breaks image Ids place = WrongId image place
Breaks image Types place = FaultAt image.instructions (has_wrong_types image.instructions) place
Breaks image Blocks place = BadBlock image place
Breaks image Calls place = BadCall image.instructions place
Breaks image code place = ⊥

-- some words spell the image, and it breaks no rule
pub record Valid (image : Image) : Type 0 where
  pub spelled : CanBeSpelled image
  pub keeps : (code : ImageCode) (place : ℕ) → Breaks image code place → ⊥

-- the first fault of an image: the first place at which it breaks the first rule that it breaks anywhere
pub record FirstInvalid (image : Image) (place : ℕ) (code : ImageCode) : Type 0 where
  pub first : IsFirst (Breaks image code) (Some place)
  pub keeps_earlier : (earlier : ImageCode) → code_number earlier < code_number code → (anywhere : ℕ) → Breaks image earlier anywhere → ⊥
