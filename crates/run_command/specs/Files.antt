-- What the two files of a run hold: an image, and the text of buffers.
use Rattle.std.specs.Prelude.{◌≡◌, ◌≢◌, ℕ, ◌/◌, ◌%◌, ◌<◌, ◌≤◌, List, length}
use Rattle.spirv_words.specs.declared.images.Image.{Image}
use Rattle.spirv_words.specs.declared.faults.ImageCode.{ImageCode}
use Rattle.spirv_words.specs.declared.faults.ImageCode.TheVariants.{Short, FileLimit}
use Rattle.spirv_words.specs.Bytes.{words_of_bytes}
use Rattle.spirv_words.specs.Words.{Spells}
use Rattle.spirv_words.specs.Unread.{FirstUnread}
use Rattle.spirv_check.specs.Valid.{Valid, FirstInvalid}
use Rattle.run_buffers.specs.Texts.{RefusedAt}

-- how many bytes the file of an image, and that of buffers, may have
abbrev pub file_limit : ℕ
file_limit = 16777216

-- the bytes are whole words, no more than the file of an image may have, and spell the image
pub record HoldsWords (bytes : List ℕ) (image : Image) : Type 0 where
  pub short : length bytes ≤ file_limit
  pub whole : length bytes % 4 ≡ 0
  pub spelled : Spells (words_of_bytes bytes) image

-- the bytes hold the image, and it is valid
pub record HoldsImage (bytes : List ℕ) (image : Image) : Type 0 where
  pub words : HoldsWords bytes image
  pub valid : Valid image

-- the bytes hold no valid image, and this is the first reason: there are too many, they are no whole words, the words spell
-- no image, or the image breaks a rule. The place is that of a word, or the limit of bytes
pub data WrongImage (bytes : List ℕ) (place : ℕ) (code : ImageCode) : Type 0 where
  too_long : file_limit < length bytes → place ≡ file_limit → code ≡ FileLimit → WrongImage bytes place code
  no_whole_words : length bytes ≤ file_limit → length bytes % 4 ≢ 0 → place ≡ length bytes / 4 → code ≡ Short → WrongImage bytes place code
  unread : length bytes ≤ file_limit → length bytes % 4 ≡ 0 → FirstUnread (words_of_bytes bytes) place code → WrongImage bytes place code
  invalid : (image : Image) → length bytes ≤ file_limit → length bytes % 4 ≡ 0 → Spells (words_of_bytes bytes) image →
      FirstInvalid image place code → WrongImage bytes place code

-- the bytes are no text of buffers, and this is the place: there are too many, or no text goes on with the byte there
pub data WrongBuffers (bytes : List ℕ) (place : ℕ) : Type 0 where
  too_long : file_limit < length bytes → place ≡ file_limit → WrongBuffers bytes place
  refused : length bytes ≤ file_limit → RefusedAt bytes place → WrongBuffers bytes place
