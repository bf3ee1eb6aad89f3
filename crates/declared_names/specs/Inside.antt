-- What the work on declarations and names has come to.
use Rattle.declared_names.specs.declared.listing.Listing.{Listing as Work}
use Rattle.declared_names.specs.declared.naming.Naming.{Naming}
use Rattle.declared_names.specs.declared.declared.Declared.{Declared}
use Rattle.declared_names.specs.Declarations.{Listing}
use Rattle.declared_names.specs.Views.{declarations_of}

-- the declarations so far
abbrev pub listing_of : Work → Listing
listing_of l = record { list = declarations_of l.list.items; structs = l.structs }

-- the names so far
abbrev pub naming_of : Naming → Declared
naming_of d = record { «module» = d.«module»; names = d.names; owns = d.owns; paths = d.paths; structs = d.structs.items }
