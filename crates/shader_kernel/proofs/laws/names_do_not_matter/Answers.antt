use Rattle.std.specs.Prelude.{IsTrue}
use Rattle.shader_kernel.proofs.Names.{means_alike}
use Rattle.shader_kernel.proofs.laws.names_do_not_matter.Goals as goal

pub returns : goal.returns
returns c = λ functions types p q h. means_alike (λ c d. IsTrue (functions c d)) (λ t u. IsTrue (types t u)) p q h
