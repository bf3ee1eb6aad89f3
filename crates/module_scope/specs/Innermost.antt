-- A local hides what has its name further out.
use Rattle.std.specs.Prelude.{◌≡◌, ℕ, List, [], ◌∷◌, ◌++◌, Option, Some, None, Ok}
use Rattle.declared_names.specs.declared.declared.Declared.{Declared}
use Rattle.module_scope.specs.declared.frames.InForce.{InForce}
use Rattle.module_scope.specs.declared.frames.Local.{Local}
use Rattle.module_scope.specs.Sees.{a_local, local_in, look_up}

-- none of these blocks has the name
abbrev pub NoneHas : List ℕ → List InForce → Type 0
NoneHas name [] = Unit {0}
NoneHas name (b ∷ bs) = (local_in name b ≡ None) × NoneHas name bs

-- what a block has of a name is found where no block further in has the name, whatever stands further out
abbrev pub InnermostFirst : Type 0
InnermostFirst = (d : Declared) (subject : Option ℕ) (outer inner : List InForce) (block : InForce) (name : List ℕ) (at : ℕ) (x : Local) →
    local_in name block ≡ Some x → NoneHas name inner → look_up d subject (outer ++ block ∷ inner) name at ≡ Ok (a_local x)
