use Rattle.image_facts.proofs.Likes.{part-found, part-outside, put-found, put-outside, zero-like, like-of}
use Rattle.image_facts.proofs.laws.values_have_the_parts_of_their_shapes.Goals as goal

pub returns : goal.returns
returns c = record {
  part = part-found;
  no_part = part-outside;
  replaced = put-found;
  not_replaced = put-outside;
  zero = zero-like;
  of_words = like-of;
}
