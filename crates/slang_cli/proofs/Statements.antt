-- How many statements a text can have.
use Rattle.std.proofs.Common.{ℕ, ◌*◌, ◌^◌, ◌<◌, ◌≤◌, List, [], ◌∷◌, length, arith}
use Rattle.std.specs.List.{sum_by}
use Rattle.std.proofs.lemmas.List.Sums.{sum_by-cons}
use Rattle.first_form.specs.declared.shader.Statement.{Statement}
use Rattle.first_form.specs.Sizes.{statement_bytes}
use Rattle.slang_parse.specs.Parsing.{text_limit}

-- each takes five bytes at least
least : (ss : List Statement) → 5 * length ss ≤ sum_by statement_bytes ss
least [] = omega arith
least (s ∷ ss) = omega (arith, least ss, sum_by-cons statement_bytes s ss)

pub few : (ss : List Statement) (n : ℕ) → sum_by statement_bytes ss ≤ n → n ≤ text_limit → length ss < 2 ^ 20
few ss n h l = omega (arith, least ss)
