use Rattle.valid_first_image.proofs.Validity.{valid}
use Rattle.valid_first_image.proofs.Bytes.{read_back}
use Rattle.valid_first_image.proofs.laws.the_image_is_valid.Goals as goal

pub returns : goal.returns
returns c = record {
  valid = λ home p text short shader. valid home p text shader (c.image_is_spelled.ensures home p text short shader);
  it_is_read_back = λ home p text short shader few. read_back home p text shader few (c.image_is_spelled.ensures home p text short shader);
}
