-- From what the steps of reading an image say to what its bytes hold.
use Rattle.std.proofs.Common.{◌≡◌, ◌≢◌, ℕ, ◌/◌, ◌%◌, ◌≤◌, List, length, Result, Ok, Err, IfOk, sym, subst}
use Rattle.spirv_words.specs.declared.images.Image.{Image}
use Rattle.spirv_words.specs.declared.faults.ImageCode.{ImageCode}
use Rattle.spirv_words.specs.declared.faults.ImageCode.TheVariants.{Short}
use Rattle.spirv_words.specs.declared.faults.ImageFault.{ImageFault}
use Rattle.spirv_words.specs.declared.faults.ImageFault.TheVariants.{Refused, Memory}
use Rattle.spirv_words.specs.Bytes.{words_of_bytes}
use Rattle.spirv_words.specs.Words.{Spells}
use Rattle.spirv_words.specs.Unread.{FirstUnread}
use Rattle.spirv_words.specs.Refusals.{OfRefusal, IfRefused}
use Rattle.spirv_check.specs.Valid.{Valid, FirstInvalid}
use Rattle.run_command.specs.Files.{HoldsImage, WrongImage, unread, invalid, no_whole_words, file_limit}

module _ (bytes : List ℕ) (short : length bytes ≤ file_limit) where
  pub unread_wrong : (ws : List ℕ) (fault : ImageFault) → length bytes % 4 ≡ 0 → ws ≡ words_of_bytes bytes → OfRefusal fault (λ place code. FirstUnread ws place code) → OfRefusal fault (WrongImage bytes)
  unread_wrong ws (Refused place code) whole e h = unread short whole (subst (λ (x : List ℕ). FirstUnread x place code) e h)
  unread_wrong ws (Memory m) whole e h = tt

  pub invalid_wrong : (ws : List ℕ) (image : Image) (r : Result Image ImageFault) → length bytes % 4 ≡ 0 → ws ≡ words_of_bytes bytes → Spells ws image → IfRefused r (FirstInvalid image) → IfRefused r (WrongImage bytes)
  invalid_wrong ws image (Ok v) whole e s h = tt
  invalid_wrong ws image (Err (Refused place code)) whole e s h = invalid image short whole (subst (λ (x : List ℕ). Spells x image) e s) h
  invalid_wrong ws image (Err (Memory m)) whole e s h = tt

  pub valid_held : (ws : List ℕ) (image : Image) (r : Result Image ImageFault) → length bytes % 4 ≡ 0 → ws ≡ words_of_bytes bytes → Spells ws image → IfOk r (λ v. (v ≡ image) × Valid v) → IfOk r (λ v. HoldsImage bytes v)
  valid_held ws image (Ok v) whole e s h = record {
    words = record {
      short = short;
      whole = whole;
      spelled = subst (λ (x : List ℕ). Spells x v) e (subst (λ (x : Image). Spells ws x) (sym h.0) s);
    };
    valid = h.1;
  }
  valid_held ws image (Err fault) whole e s h = tt
