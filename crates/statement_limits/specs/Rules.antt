-- Rules on attributes that are broken, each at the token at which it is known.
use Rattle.std.specs.Prelude.{ℕ, Bool, true, false, ◌&&◌, ◌||◌, ◌==◌, not, List, [], ◌∷◌, ◌++◌, Option, Some, None}
use Rattle.std.specs.List.{list_all}
use Rattle.slang_names.specs.declared.places.Place.{Place}
use Rattle.slang_names.specs.declared.codes.ModuleCode.TheVariants as code
use Rattle.statement_grammar.specs.declared.attributes.KnownAttribute.{KnownAttribute}
use Rattle.statement_grammar.specs.declared.attributes.Target.{Target}
use Rattle.statement_grammar.specs.AttributeTables.{may_stand, attribute_code}
use Rattle.expression_limits.specs.Breaks.{Break}

-- a rule on the attribute whose name lies at that place, which is broken at that token
abbrev pub disobeyed : Place → ℕ → Break
disobeyed place at = record { code = code.Unsupported; place = place; at = at }

-- no break where it is obeyed
abbrev pub unless_obeyed : Bool → Place → ℕ → List Break
unless_obeyed true place at = []
unless_obeyed false place at = disobeyed place at ∷ []

-- an attribute of that name stands among those
abbrev pub is_among : KnownAttribute → List KnownAttribute → Bool
is_among known [] = false
is_among known (x ∷ xs) = attribute_code known == attribute_code x || is_among known xs

-- all of them may stand before one of those things
abbrev pub may_all_stand : List Target → List KnownAttribute → Bool
may_all_stand [] list = false
may_all_stand (t ∷ ts) list = list_all (λ x. may_stand x t) list || may_all_stand ts list

-- the attribute is known and the first of its name, and may stand before one of those things with those before it
abbrev pub may_follow : List Target → List KnownAttribute → Option KnownAttribute → Bool
may_follow targets before (Some known) = not (is_among known before) && may_all_stand targets (before ++ known ∷ [])
may_follow targets before None = false

-- those that are known, with one more
abbrev pub with_known : List KnownAttribute → Option KnownAttribute → List KnownAttribute
with_known before (Some known) = before ++ known ∷ []
with_known before None = before

-- an attribute that is known may not stand before such a thing, which is known at that token
abbrev pub suits : Target → Option KnownAttribute → Place → ℕ → List Break
suits target (Some x) place at = unless_obeyed (may_stand x target) place at
suits target None place at = []
