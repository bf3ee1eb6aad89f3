use Rattle.flat_values.proofs.Lanes.{one_operand, two_operands}
use Rattle.flat_values.proofs.laws.operators_go_word_by_word.Goals as goal

pub returns : goal.returns
returns c = record { one = one_operand; two = two_operands }
