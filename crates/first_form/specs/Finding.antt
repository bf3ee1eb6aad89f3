-- What functions find, or nothing.
use Rattle.std.specs.Prelude.{◌≡◌, Option, Some, None}

infixl 10 ◌>>=◌
abbrev pub ◌>>=◌ : {A B : Type 0} → Option A → (A → Option B) → Option B
(Some x) >>= f = f x
None >>= f = None

-- What a function returned, seen by view, is what is to be found.
abbrev pub Finds : {X Y : Type 0} → (X → Y) → Option X → Option Y → Type 0
Finds view (Some x) found = found ≡ Some (view x)
Finds view None found = found ≡ None

-- one way with what is there, the other where nothing is
abbrev pub if_there : {A B : Type 0} → Option A → (A → B) → B → B
if_there (Some x) f y = f x
if_there None f y = y
