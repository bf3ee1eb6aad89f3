-- What the program keeps of what an attribute wants.
use Rattle.std.specs.Prelude.{List, [], ◌∷◌, codes}
use Rattle.statement_grammar.specs.AttributeRules.{Want, WantsNumber, WantsText}
use Rattle.attribute_reading.specs.declared.wants.Left.{Left}
use Rattle.attribute_reading.specs.declared.wants.Left.TheVariants.{Nothing, Compute, OneNumber, TwoNumbers, ThreeNumbers}
use Rattle.attribute_reading.specs.declared.wants.Wants.TheInside.{Inside}

abbrev pub wants_left : Left → List Want
wants_left Nothing = []
wants_left Compute = WantsText (codes "compute") ∷ []
wants_left OneNumber = WantsNumber ∷ []
wants_left TwoNumbers = WantsNumber ∷ WantsNumber ∷ []
wants_left ThreeNumbers = WantsNumber ∷ WantsNumber ∷ WantsNumber ∷ []

abbrev pub wants_in : Inside → List Want
wants_in w = wants_left w.left
