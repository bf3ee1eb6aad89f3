use Rattle.std.proofs.Common.{◌≡◌}
use Rattle.constant_values.proofs.parts.+repeated.Given as goal

abbrev pub decreases-repeated : goal.decreases-repeated
decreases-repeated l = l.count
