use Rattle.std.proofs.Common.{arith, rules, append_assoc}
use Rattle.form_grammar.proofs.Digits.{digits_more}
use Rattle.form_grammar.proofs.numbers.+put_digits.Goals as goal

pub returns : goal.returns
returns t c = rw (digits_more c.args.most c.args.n (omega arith) (omega arith)) (search (rules, append_assoc))
