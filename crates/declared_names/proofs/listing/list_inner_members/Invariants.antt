use Rattle.std.proofs.Common.{◌≡◌, drop, fold}
use Rattle.declared_names.specs.Declarations.{list_inner_member}
use Rattle.declared_names.specs.Views.{prefix_of}
use Rattle.declared_names.specs.Inside.{listing_of}
use Rattle.declared_names.proofs.listing.list_inner_members.Given as goal

abbrev pub invariant-loop-member : goal.invariant-loop-member
invariant-loop-member l = fold (list_inner_member l.bare l.owner (prefix_of l.prefix)) (listing_of l.listing) (drop l.member-index l.members) ≡ fold (list_inner_member l.bare l.owner (prefix_of l.prefix)) (listing_of l.initial.listing) l.members
