use Rattle.std.proofs.Common.{◌≡◌, ◌+◌, ◌*◌, ◌≤◌, take}
use Rattle.first_image.specs.Templates.{item_code, more_code}
use Rattle.first_image.specs.Emitted.{tables_at, emitted}
use Rattle.first_image.proofs.body.emit_sum.Given as goal

-- the code of the items so far
abbrev pub invariant-loop-item : goal.invariant-loop-item
invariant-loop-item l =
    let t = tables_at l.ids.numbers.items in
    let c = more_code t (item_code t l.sum.first) (take l.item-index l.sum.rest) l.fn.out.next 0 in
    record {
      value : l.value ≡ c.value;
      out : l.out ≡ emitted l.fn.out c;
      few : l.out.next ≤ l.fn.out.next + (3 * l.item-index + 2);
    }
