-- What a name means where it stands: the blocks from the inside out, the members of the struct around, the declarations of
-- the module.
use Rattle.std.specs.Prelude.{ℕ, Bool, true, ◌&&◌, cond, nat_le, nat_lt, List, [], ◌∷◌, slice_get, Option, Some, None, option_and_then, Result, Ok, Err}
use Rattle.slang_names.specs.declared.places.Place.{Place}
use Rattle.slang_names.specs.declared.places.Access.{Access}
use Rattle.slang_names.specs.declared.places.Access.TheVariants as a
use Rattle.slang_names.specs.declared.codes.ModuleCode.{ModuleCode}
use Rattle.slang_names.specs.declared.codes.ModuleCode.TheVariants as k
use Rattle.name_lists.specs.Names.{last_place}
use Rattle.declared_names.specs.declared.declared.Declared.{Declared}
use Rattle.declared_names.specs.declared.declared.Own.{Own}
use Rattle.declared_names.specs.declared.declared.OwnKind.{OwnKind}
use Rattle.declared_names.specs.declared.declared.StructNames.{StructNames}
use Rattle.declared_names.specs.declared.declared.MemberName.{MemberName}
use Rattle.declared_names.specs.declared.declared.MemberKind.{MemberKind}
use Rattle.module_scope.specs.declared.frames.InForce.{InForce}
use Rattle.module_scope.specs.declared.frames.Local.{Local}

-- the item that the last equal name has
abbrev pub item_named : {A : Type 0} → List ℕ → List (List ℕ) → List A → Option A
item_named name names items = option_and_then (slice_get items) (last_place name names 0)

-- private members are seen in the bytes of their struct's declaration
abbrev pub may_see : Place → Access → ℕ → Bool
may_see around a.Private at = nat_le around.start at && nat_lt at around.end
may_see around access at = true

-- what is not there yet is not there
abbrev pub seen_member : Place → ℕ → MemberName → Result MemberKind ModuleCode
seen_member around at m = cond (nat_le m.seen at) (cond (may_see around m.access at) (Ok m.kind) (Err k.NoAccess)) (Err k.NoMember)

abbrev pub from_member : Place → ℕ → Option MemberName → Result MemberKind ModuleCode
from_member around at (Some m) = seen_member around at m
from_member around at None = Err k.NoMember

abbrev pub member_in : StructNames → List ℕ → ℕ → Result MemberKind ModuleCode
member_in s name at = from_member s.around at (item_named name s.names s.members)

abbrev pub member_at : Option StructNames → List ℕ → ℕ → Result MemberKind ModuleCode
member_at (Some s) name at = member_in s name at
member_at None name at = Err k.NoMember

-- the member of that name of the struct of that number, for a name that stands at that byte
abbrev pub member_named : Declared → ℕ → List ℕ → ℕ → Result MemberKind ModuleCode
member_named d s name at = member_at (slice_get d.structs s) name at

abbrev pub seen_own : ℕ → Own → Option OwnKind
seen_own at x = cond (nat_le x.seen at) (Some x.kind) None

-- the module's declaration of that name
abbrev pub own_named : Declared → List ℕ → ℕ → Option OwnKind
own_named d name at = option_and_then (seen_own at) (item_named name d.names d.owns)

-- the local of that name: that of the innermost block that has one. The innermost block is the last
abbrev pub or_inner : Option Local → Option Local → Option Local
or_inner (Some x) y = Some x
or_inner None y = y

abbrev pub local_in : List ℕ → InForce → Option Local
local_in name block = item_named name block.names block.locals

abbrev pub local_named : List ℕ → List InForce → Option Local
local_named name [] = None
local_named name (b ∷ bs) = or_inner (local_named name bs) (local_in name b)

-- what a name means
pub data Found : Type 0 where
  a_local : Local → Found
  a_member : MemberKind → Found
  an_own : OwnKind → Found

abbrev pub own_or : Option OwnKind → ModuleCode → Result Found ModuleCode
own_or (Some x) code = Ok (an_own x)
own_or None code = Err code

-- behind the members: a private one that is not seen is told where nothing else has the name
abbrev pub member_or : Result MemberKind ModuleCode → Option OwnKind → Result Found ModuleCode
member_or (Ok m) own = Ok (a_member m)
member_or (Err k.NoAccess) own = own_or own k.NoAccess
member_or (Err code) own = own_or own k.Unknown

-- from the level of members on
abbrev pub outside : Declared → Option ℕ → List ℕ → ℕ → Result Found ModuleCode
outside d (Some s) name at = member_or (member_named d s name at) (own_named d name at)
outside d None name at = own_or (own_named d name at) k.Unknown

abbrev pub local_or : Option Local → Result Found ModuleCode → Result Found ModuleCode
local_or (Some x) other = Ok (a_local x)
local_or None other = other

abbrev pub look_up : Declared → Option ℕ → List InForce → List ℕ → ℕ → Result Found ModuleCode
look_up d subject blocks name at = local_or (local_named name blocks) (outside d subject name at)
