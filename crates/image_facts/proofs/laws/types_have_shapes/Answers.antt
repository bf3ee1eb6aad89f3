use Rattle.image_facts.proofs.Shapes.{shape-void, shape-bool, shape-int, shape-vector, shape-pointer}
use Rattle.image_facts.proofs.Data.{shape-array, shape-runtime, shape-struct, data-shape}
use Rattle.image_facts.proofs.laws.types_have_shapes.Goals as goal

pub returns : goal.returns
returns c = record {
  void = λ image t v e. shape-void image v t e;
  bool = λ image t v e. shape-bool image v t e;
  int = λ image t v e. shape-int image v t e;
  vector = λ image t v e. shape-vector image v t e;
  array = λ image t v e. shape-array image v t e;
  unbounded = λ image t v e. shape-runtime image v t e;
  fields = λ image t v e. shape-struct image v t e;
  pointer = λ image t s v e h. shape-pointer image v t s e h;
  values = λ image t v h. data-shape image v t h;
}
