-- Where the values of an image stand, and the buffers that it names.
use Rattle.std.specs.Prelude.{ℕ, map}
use Rattle.run_rooms.specs.Rooms.{Rooms}
use Rattle.run_rooms.specs.Layout.{rooms_in}
use Rattle.run_plans.specs.declared.base.Bound.{Bound}
use Rattle.run_plans.specs.declared.base.Ground.{Ground}

abbrev pub pair_of : Bound → ℕ × ℕ
pair_of b = (b.set, b.binding)

unfoldable pub rooms_of : Ground → Rooms
rooms_of g = rooms_in g.places (map pair_of g.buffers)
