use Rattle.slang_tokens.proofs.Cuts as cuts
use Rattle.slang_tokens.proofs.laws.one_cutting.Goals as goal

pub returns : goal.returns
returns c = λ text a b x y. cuts.one_cutting text 0 a b x y
