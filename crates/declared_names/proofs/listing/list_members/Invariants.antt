use Rattle.std.proofs.Common.{◌≡◌, [], drop, fold}
use Rattle.declared_names.specs.Declarations.{list_member, dotted}
use Rattle.declared_names.specs.Inside.{listing_of}
use Rattle.declared_names.proofs.listing.list_members.Given as goal

abbrev pub invariant-loop-member : goal.invariant-loop-member
invariant-loop-member l = fold (list_member l.bare l.owner (dotted [] l.outer.name)) (listing_of l.listing) (drop l.member-index l.members) ≡ fold (list_member l.bare l.owner (dotted [] l.outer.name)) (listing_of l.initial.listing) l.members
