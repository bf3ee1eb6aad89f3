-- What a `Places` shows.
use Rattle.image_facts.specs.Operands.{globals_of}
use Rattle.run_rooms.specs.declared.places.Places.TheInside.{Inside}
use Rattle.run_rooms.specs.Widths.{Tells}
use Rattle.run_rooms.specs.Layout.{Layout, IsLayout}
use Rattle.run_rooms.specs.Tables.{layout_of}

abbrev pub layout_in : Inside → Layout
layout_in p = layout_of p.declarations p.tables

pub record IsLaidOut (p : Inside) : Type 0 where
  pub widths : Tells p.widths (globals_of p.declarations)
  pub laid : IsLayout (layout_of p.declarations p.tables)
