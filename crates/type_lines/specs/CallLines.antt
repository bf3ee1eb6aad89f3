-- The line of calls, and what may be written.
use Rattle.std.specs.Prelude.{ℕ, Bool, true, false, ◌&&◌, ◌||◌, not, cond, nat_eq, List, [], ◌∷◌, ◌++◌, length, Option, Some, None}
use Rattle.slang_names.specs.declared.places.Place.{Place}
use Rattle.slang_names.specs.declared.places.Mode.{Mode}
use Rattle.slang_names.specs.declared.places.Mode.TheVariants as mode
use Rattle.slang_names.specs.declared.codes.ModuleCode.TheVariants as k
use Rattle.slang_core.specs.declared.declarations.Flags.{Flags}
use Rattle.slang_core.specs.declared.declarations.Par.{Par}
use Rattle.slang_core.specs.declared.bodies.Expr.{Expr}
use Rattle.slang_core.specs.declared.bodies.Expr.TheVariants as x
use Rattle.slang_core.specs.declared.bodies.PlaceTerm.{PlaceTerm}
use Rattle.slang_core.specs.declared.bodies.Call.{Call}
use Rattle.slang_core.specs.declared.bodies.Call.TheVariants as c
use Rattle.slang_core.specs.declared.bodies.Given.{Given}
use Rattle.slang_core.specs.declared.bodies.Given.TheVariants as g
use Rattle.type_terms.specs.declared.typings.Barred.TheVariants as b
use Rattle.type_terms.specs.declared.typings.Form.{Form}
use Rattle.type_terms.specs.declared.typings.Form.TheVariants as f
use Rattle.type_terms.specs.declared.typings.Typing.{Typing}
use Rattle.type_terms.specs.Types.{same}
use Rattle.type_terms.specs.Forms.{value, read_of}
use Rattle.plans.specs.Plans.{Verdict, Fine, Good, Held, Wrong}
use Rattle.plans.specs.Lines.{demand, found, known, and_then}
use Rattle.module_scope.specs.declared.heads.Outline.{Outline}
use Rattle.module_scope.specs.declared.heads.Signature.{Signature}
use Rattle.module_scope.specs.Known.{function_at}
use Rattle.type_lines.specs.declared.answers.Denoted.{Denoted}
use Rattle.type_lines.specs.declared.answers.Denoted.TheVariants as d
use Rattle.type_lines.specs.declared.answers.Callee.{Callee}
use Rattle.type_lines.specs.declared.answers.Reach.{Reach}
use Rattle.type_lines.specs.declared.answers.Reach.TheVariants as reach
use Rattle.type_lines.specs.ValueLines.{fitted}

-- the place that is written
abbrev pub written : Place → Form → Verdict PlaceTerm
written p (f.Place core b.Nothing) = Good core
written p (f.Place core b.NotAssignable) = Wrong p k.NotAssignable
written p (f.Place core b.ImmutableThis) = Wrong p k.ImmutableThis
written p (f.Value core) = Wrong p k.NotAssignable

-- a static method is called by a type, any other by a value
abbrev pub reaches : Flags → Reach → Bool
reaches flags reach.Free = true
reaches flags reach.Alone = false
reaches flags reach.ByType = flags.is_static
reaches flags (reach.ByValue a) = not flags.is_static

-- the receiver: a place that is written where the method is mutating
abbrev pub receiver_of : Place → Bool → Typing → Verdict (List Given)
receiver_of p true a = and_then (written p a.form) (λ core. Good (g.Place core ∷ []))
receiver_of p false a = Good (g.Expr (read_of a.form) ∷ [])

abbrev pub receiver_given : Place → Flags → Reach → Verdict (List Given)
receiver_given p flags (reach.ByValue a) = receiver_of p flags.is_mutating a
receiver_given p flags other = Good []

-- what an argument is for a parameter: a value that is converted, or a place of exactly its type
abbrev pub place_given : Place → Par → Typing → Verdict Given
place_given p x a = demand (same a.of x.of) p k.Mismatch (and_then (written p a.form) (λ core. Good (g.Place core)))

abbrev pub given_in : Mode → Place → Par → Typing → Verdict Given
given_in mode.In p x a = and_then (fitted p a x.of) (λ core. Good (g.Expr core))
given_in mode.Out p x a = place_given p x a
given_in mode.InOut p x a = place_given p x a

abbrev pub given : Place → Par → Typing → Verdict Given
given p x a = given_in x.mode p x a

abbrev pub given_all : Place → List Par → List Typing → Verdict (List Given)
given_all p [] args = Good []
given_all p (x ∷ xs) [] = Good []
given_all p (x ∷ xs) (a ∷ rest) = and_then (given p x a) (λ y. and_then (given_all p xs rest) (λ ys. Good (y ∷ ys)))

abbrev pub result_of : Signature → List Given → Typing
result_of h xs = value h.result (x.Call (c.Direct h.target [] [] xs))

abbrev pub called : Place → Signature → Reach → List Typing → Verdict Denoted
called p h how args =
    demand (not h.is_entry) p k.NotCallable
    (demand (reaches h.flags how) p k.NotCallable
    (demand (nat_eq (length args) (length h.parameters)) p k.ArgumentCount
    (and_then (receiver_given p h.flags how) (λ r. and_then (given_all p h.parameters args) (λ gs. Good (d.Value (result_of h (r ++ gs))))))))

abbrev pub call_line : Outline → Place → Denoted → List Typing → Verdict Denoted
call_line o p (d.Function f) args = known (function_at o f.function) (λ h. called p h f.reach args)
call_line o p other args = Wrong p k.NotCallable
