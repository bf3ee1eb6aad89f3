-- The limits and rules that attributes break, in the order of the tokens at which that is known.
use Rattle.std.specs.Prelude.{ℕ, ◌+◌, not, List, [], ◌++◌, Some}
use Rattle.slang_names.specs.declared.places.Place.{Place}
use Rattle.slang_tree.specs.declared.statements.Attribute.{Attribute}
use Rattle.slang_tree.specs.declared.statements.Literal.{Literal}
use Rattle.slang_reading.specs.Lexed.{Lexed}
use Rattle.slang_reading.specs.Kinds.{span}
use Rattle.slang_grammar.specs.Descent.{Limits}
use Rattle.statement_grammar.specs.declared.attributes.KnownAttribute.{KnownAttribute}
use Rattle.statement_grammar.specs.declared.attributes.KnownAttribute.TheVariants as known
use Rattle.statement_grammar.specs.declared.attributes.Target.{Target}
use Rattle.statement_grammar.specs.AttributeTables.{attribute_of}
use Rattle.statement_grammar.specs.Attributes as a
use Rattle.statement_grammar.specs.Attributes.{LiteralAt, MoreLiteralsAt, AttributeRestAt, AttributeAt, AttributesAt}
use Rattle.statement_grammar.specs.AttributeRules.{Want, wants_of, known_of}
use Rattle.statement_grammar.specs.AttributesDescent.{wants_more, wanted, later}
use Rattle.expression_limits.specs.Breaks.{Break, name_there}
use Rattle.statement_limits.specs.Rules.{unless_obeyed, may_follow, with_known, suits}

module _ (ts : List Lexed) where
  -- ---- what stands between the parentheses of an attribute whose name lies at that place

  module _ (place : Place) where
    -- behind literals, where that is wanted
    abbrev pub more_literals_breaks : {xs ys : List Literal} {from to : ℕ} → MoreLiteralsAt ts xs ys from to → List Want → List Break
    more_literals_breaks a.end wants = []
    more_literals_breaks {from = from} (a.more {x = x} s l r) wants =
        (unless_obeyed (wants_more wants) place from ++ unless_obeyed (wanted wants x) place (from + 1)) ++ more_literals_breaks r (later wants)

    -- what is wanted behind them
    abbrev pub wanted_behind : {xs ys : List Literal} {from to : ℕ} → MoreLiteralsAt ts xs ys from to → List Want → List Want
    wanted_behind a.end wants = wants
    wanted_behind (a.more s l r) wants = wanted_behind r (later wants)

    -- behind the name, where that is wanted
    abbrev pub attribute_rest_breaks : {list : List Literal} {end : Place} {from to : ℕ} → AttributeRestAt ts list end from to → List Want → List Break
    attribute_rest_breaks {from = from} (a.no_literals s) wants = unless_obeyed (not (wants_more wants)) place from
    attribute_rest_breaks {from = from} (a.literals {at = at} {x = x} s l r c b) wants =
        unless_obeyed (wants_more wants) place from ++
        (unless_obeyed (wanted wants x) place (from + 1) ++
        (more_literals_breaks r (later wants) ++ unless_obeyed (not (wants_more (wanted_behind r (later wants)))) place at))

  -- ---- attributes

  -- where the name of an attribute lies
  abbrev pub attribute_place : {x : Attribute} {from to : ℕ} → AttributeAt ts x from to → Place
  attribute_place (a.named {id = id} o i r) = id.place
  attribute_place (a.binding o q b) = span b.places.0 b.places.2

  module _ (limits : Limits) (targets : List Target) where
    -- an attribute behind those, before one of those things; of `vk::binding` it is known at the second name
    abbrev pub attribute_breaks : {x : Attribute} {from to : ℕ} → AttributeAt ts x from to → List KnownAttribute → List Break
    attribute_breaks {from = from} (a.named {id = id} o i r) before =
        name_there ts limits id (from + 1) ++
        (unless_obeyed (may_follow targets before (attribute_of id.name)) id.place (from + 1) ++ attribute_rest_breaks id.place r (wants_of (attribute_of id.name)))
    attribute_breaks {from = from} (a.binding o q b) before =
        unless_obeyed (may_follow targets before (Some known.Binding)) (span b.places.0 b.places.2) (from + 1 + 1 + 1 + 1)

    -- attributes behind those, before one of those things
    abbrev pub attributes_breaks : {xs ys : List Attribute} {from to : ℕ} → AttributesAt ts xs ys from to → List KnownAttribute → List Break
    attributes_breaks (a.end q) before = []
    attributes_breaks (a.more {x = x} r s) before = attribute_breaks r before ++ attributes_breaks s (with_known before (known_of x.node))

  -- ---- once it is known what they stand before

  -- those of them that may not stand before such a thing, where that is known at that token
  abbrev pub misfit_breaks : {xs ys : List Attribute} {from to : ℕ} → AttributesAt ts xs ys from to → Target → (at : ℕ) → List Break
  misfit_breaks (a.end q) target at = []
  misfit_breaks (a.more {x = x} r s) target at = suits target (known_of x.node) (attribute_place r) at ++ misfit_breaks s target at
