use Rattle.std.proofs.Common.{Ok, Err, arith}
use Rattle.first_image.proofs.Positions.{place_found}
use Rattle.first_image.proofs.ids.Ids.constant.Goals as goal
use Rattle.first_image.proofs.ids.Ids.constant.Goals.{in-Ok, in-Err}

pub returns : goal.returns
returns c =
    let ids = c.args.self.now in
    elim c.match-binary_search.branch [
      | in-Ok w ↦
          let h = place_found c.args.number c.deref.result.now ids.numbers.items (Ok w.in-Ok.place) c.deref.ensures.value ids.ascending w.in-Ok.ensures.position in
          omega (arith, h, w.place-is)
      | in-Err w ↦
          let h = place_found c.args.number c.deref.result.now ids.numbers.items (Err w.in-Err.field-0) c.deref.ensures.value ids.ascending w.in-Err.ensures.position in
          omega (arith, h, w.place-is, w.len-place.ensures)
    ]
