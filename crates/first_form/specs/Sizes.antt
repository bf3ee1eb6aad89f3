-- How many bytes the statements of a shader take at least in a text.
use Rattle.std.specs.Prelude.{ℕ, ◌+◌, sum_by}
use Rattle.first_form.specs.declared.shader.Statement.{Statement}
use Rattle.first_form.specs.declared.shader.Sum.{Sum}
use Rattle.first_form.specs.declared.shader.Item.{Item}
use Rattle.first_form.specs.declared.shader.Item.TheVariants.{Number, X}

-- a digit with a suffix, or a name, a dot and a name
abbrev pub item_bytes : Item → ℕ
item_bytes (Number n) = 2
item_bytes X = 3

abbrev pub sum_bytes : Sum → ℕ
sum_bytes sum = item_bytes sum.first + sum_by (λ item. 1 + item_bytes item) sum.rest

-- the name, four marks and two sums
abbrev pub statement_bytes : Statement → ℕ
statement_bytes s = 5 + sum_bytes s.index + sum_bytes s.value
