use Rattle.std.proofs.Common.{◌≡◌, drop, fold}
use Rattle.declared_names.specs.Declarations.{list_item}
use Rattle.declared_names.specs.Inside.{listing_of}
use Rattle.declared_names.proofs.listing.list_items.Given as goal

abbrev pub invariant-loop-item : goal.invariant-loop-item
invariant-loop-item l = fold (list_item l.bare) (listing_of l.listing) (drop l.item-index l.items) ≡ fold (list_item l.bare) (listing_of l.initial.listing) l.items
