-- What a list of names shows, and what its map says.
use Rattle.std.specs.Prelude.{◌≡◌, ℕ, List, Vec}
use Rattle.std.specs.Global.{Global}
use Rattle.std.specs.Ordering.{nat_cmp}
use Rattle.std.specs.BTreeMap.{BTreeMap, get_by}
use Rattle.std.specs.Cmp.Lexicographic.{slice_cmp}
use Rattle.name_lists.specs.declared.lists.NameList.TheInside.{Inside}
use Rattle.name_lists.specs.Names.{last_place}

abbrev pub names_of : Inside → List (List ℕ)
names_of d = d.names

-- each name has its last place
abbrev pub Finds : BTreeMap (Vec ℕ Global) ℕ → List (List ℕ) → Type 0
Finds places names = (name : List ℕ) → get_by (λ key. slice_cmp nat_cmp name key.items) places ≡ last_place name names 0

pub record IsFound (d : Inside) : Type 0 where
  pub found : Finds d.places d.names
