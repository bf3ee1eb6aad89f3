-- Of what attributes break the first goes first.
use Rattle.std.proofs.Common.{not, ℕ, ◌+◌, List, length, Option, Some, None, arith}
use Rattle.std.specs.Prelude.{nat_le}
use Rattle.slang_names.specs.declared.places.Place.{Place}
use Rattle.slang_tree.specs.declared.statements.Attribute.{Attribute}
use Rattle.slang_tree.specs.declared.statements.Literal.{Literal}
use Rattle.slang_reading.specs.Lexed.{Lexed}
use Rattle.slang_reading.specs.Kinds.{span}
use Rattle.slang_grammar.specs.Descent.{Limits}
use Rattle.statement_grammar.specs.declared.attributes.KnownAttribute.{KnownAttribute}
use Rattle.statement_grammar.specs.declared.attributes.KnownAttribute.TheVariants as known
use Rattle.statement_grammar.specs.declared.attributes.Target.{Target}
use Rattle.statement_grammar.specs.AttributeTables.{attribute_of, may_stand}
use Rattle.statement_grammar.specs.Attributes as a
use Rattle.statement_grammar.specs.Attributes.{MoreLiteralsAt, AttributeRestAt, AttributeAt, AttributesAt}
use Rattle.statement_grammar.specs.AttributeRules.{Want, wants_of, known_of}
use Rattle.statement_grammar.specs.AttributesDescent.{wants_more, wanted, later}
use Rattle.statement_fits.proofs.Moves.{attribute_moves}
use Rattle.statement_limits.specs.Rules.{unless_obeyed, may_follow, with_known, suits}
use Rattle.statement_limits.specs.Attributes.{more_literals_breaks, wanted_behind, attribute_rest_breaks, attribute_place, attribute_breaks, attributes_breaks, misfit_breaks}
use Rattle.statement_limits.proofs.Order.{Rules, Late, late_none, rules_none, rules_append, rules_obeyed, late_append, late_rules, far, Known, known_none, known_wider, known_append, known_long, known_rules, known_rule}

module _ (ts : List Lexed) where
  module _ (place : Place) where
    known_literals : {xs ys : List Literal} {from to : ℕ} → (r : MoreLiteralsAt ts xs ys from to) → (wants : List Want) → Known ts from to (more_literals_breaks ts place r wants)
    known_literals {from = from} {to = to} a.end wants = known_none ts from to (omega arith)
    known_literals {from = from} {to = to} (a.more {x = x} s l r) wants =
        known_append ts from (from + 1 + 1) to
        (known_append ts from (from + 1) (from + 1 + 1) (known_rule ts from (wants_more wants) place) (known_rule ts (from + 1) (wanted wants x) place))
        (known_literals r (later wants))

    known_rest : {list : List Literal} {end : Place} {from to : ℕ} → (r : AttributeRestAt ts list end from to) → (wants : List Want) → Known ts from to (attribute_rest_breaks ts place r wants)
    known_rest {from = from} (a.no_literals s) wants = known_rule ts from (not (wants_more wants)) place
    known_rest {from = from} (a.literals {at = at} {x = x} s l r c b) wants =
        let end = at + 1 + 1 in
        known_append ts from (from + 1) end (known_rule ts from (wants_more wants) place)
        (known_append ts (from + 1) (from + 1 + 1) end (known_rule ts (from + 1) (wanted wants x) place)
        (known_append ts (from + 1 + 1) at end (known_literals r (later wants))
        (known_wider ts at (at + 1) at end (omega arith) (omega arith) (known_rule ts at (not (wants_more (wanted_behind ts place r (later wants)))) place))))

  module _ (limits : Limits) (targets : List Target) where
    -- behind its bracket
    known_inside : {x : Attribute} {from to : ℕ} → (r : AttributeAt ts x from to) → (before : List KnownAttribute) → Known ts (from + 1) to (attribute_breaks ts limits targets r before)
    known_inside {from = from} {to = to} (a.named {id = id} o i r) before =
        let what = attribute_of id.name in
        let rule = unless_obeyed (may_follow targets before what) id.place (from + 1) in
        let obeyed = rules_obeyed (from + 1) (may_follow targets before what) id.place in
        let rest = known_rest id.place r (wants_of what) in
        let u = rest.goes in
        known_long ts (from + 1) to (nat_le (length id.name) limits.names) (omega (arith, u))
        (known_rules ts (from + 1) to rule (omega (arith, u)) obeyed (known_wider ts (from + 1 + 1) to (from + 1) to (omega arith) (omega arith) rest))
        (late_append (from + 1) rule (attribute_rest_breaks ts id.place r (wants_of what)) (late_rules (from + 1) (from + 1) rule obeyed) (far ts (from + 1) (from + 1 + 1) to (omega arith) rest))
    known_inside {from = from} {to = to} (a.binding o q b) before =
        let at = from + 1 + 1 + 1 + 1 in
        known_wider ts at (at + 1) (from + 1) to (omega arith) (omega arith) (known_rule ts at (may_follow targets before (Some known.Binding)) (span b.places.0 b.places.2))

    pub known_attributes : {xs ys : List Attribute} {from to : ℕ} → (r : AttributesAt ts xs ys from to) → (before : List KnownAttribute) → Known ts from to (attributes_breaks ts limits targets r before)
    known_attributes {from = from} {to = to} (a.end q) before = known_none ts from to (omega arith)
    known_attributes {from = from} {to = to} (a.more {mid = mid} {x = x} r s) before =
        known_append ts from mid to (known_wider ts (from + 1) mid from mid (omega arith) (omega arith) (known_inside r before)) (known_attributes s (with_known before (known_of x.node)))

    -- of which nothing is known at the first bracket
    pub late_attributes : {xs ys : List Attribute} {from to : ℕ} → (r : AttributesAt ts xs ys from to) → (before : List KnownAttribute) → Late from (attributes_breaks ts limits targets r before)
    late_attributes {from = from} (a.end q) before = late_none from
    late_attributes {from = from} {to = to} (a.more {mid = mid} {x = x} r s) before =
        let more = with_known before (known_of x.node) in
        late_append from (attribute_breaks ts limits targets r before) (attributes_breaks ts limits targets s more) (far ts from (from + 1) mid (omega arith) (known_inside r before))
        (far ts from mid to (attribute_moves ts r) (known_attributes s more))

  suits_rules : (target : Target) (x : Option KnownAttribute) (place : Place) (at : ℕ) → Rules at (suits target x place at)
  suits_rules target (Some x) place at = rules_obeyed at (may_stand x target) place
  suits_rules target None place at = rules_none at

  -- those that may not stand before a thing are known at one token
  pub misfit_rules : {xs ys : List Attribute} {from to : ℕ} → (r : AttributesAt ts xs ys from to) → (target : Target) (at : ℕ) → Rules at (misfit_breaks ts r target at)
  misfit_rules (a.end q) target at = rules_none at
  misfit_rules (a.more {x = x} r s) target at =
      rules_append at (suits target (known_of x.node) (attribute_place ts r) at) (misfit_breaks ts s target at) (suits_rules target (known_of x.node) (attribute_place ts r) at) (misfit_rules s target at)
