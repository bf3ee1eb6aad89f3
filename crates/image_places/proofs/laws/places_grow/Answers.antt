use Rattle.std.proofs.Common.{length, arith, ap}
use Rattle.spirv_words.specs.Words.{body_words}
use Rattle.image_places.proofs.Growing.{next, grow, end}
use Rattle.image_places.proofs.laws.places_grow.Goals as goal

pub returns-clause-next : goal.returns-clause-next
returns-clause-next c is k i e = omega (arith, next is k i e)

pub returns-clause-grow : goal.returns-clause-grow
returns-clause-grow c is j k e = omega (arith, grow is j k e)

pub returns-clause-end : goal.returns-clause-end
returns-clause-end c image = let whole = ap (λ is. length (body_words is)) (end image.instructions) in omega (arith, whole)
