-- Values and places: what is read, what a part of them is, and what a conversion makes of a value.
use Rattle.std.specs.Prelude.{ℕ, Bool, true, false, ◌&&◌, ◌||◌, not, cond, nat_eq, List, [], ◌∷◌, Option, Some, None}
use Rattle.slang_core.specs.declared.types.TypeTerm.{TypeTerm}
use Rattle.slang_core.specs.declared.bodies.Expr.{Expr, out-Expr}
use Rattle.slang_core.specs.declared.bodies.Expr.TheVariants as x
use Rattle.slang_core.specs.declared.bodies.PlaceTerm.{PlaceTerm}
use Rattle.slang_core.specs.declared.bodies.PlaceTerm.TheVariants as p
use Rattle.slang_core.specs.declared.bodies.Call.{Call}
use Rattle.slang_core.specs.declared.bodies.Given.{Given}
use Rattle.slang_core.specs.declared.bodies.Call.TheOpen.{Expr-F}
use Rattle.slang_core.specs.declared.bodies.Call.TheOpen as e
use Rattle.type_terms.specs.declared.typings.Numeric.{Numeric}
use Rattle.type_terms.specs.declared.typings.Barred.{Barred}
use Rattle.type_terms.specs.declared.typings.Barred.TheVariants as b
use Rattle.type_terms.specs.declared.typings.Form.{Form}
use Rattle.type_terms.specs.declared.typings.Form.TheVariants as f
use Rattle.type_terms.specs.declared.typings.Typing.{Typing}
use Rattle.type_terms.specs.declared.typings.Fixed.{Fixed}
use Rattle.type_terms.specs.Types.{is_uint, number_type}

-- an expression with its type, as a value or as a place
abbrev pub value : TypeTerm → Expr → Typing
value ty core = record { of = ty; form = f.Value core; literal = None }

abbrev pub place : TypeTerm → PlaceTerm → Barred → Typing
place ty core bar = record { of = ty; form = f.Place core bar; literal = None }

abbrev pub typed : TypeTerm → Form → Typing
typed ty form = record { of = ty; form = form; literal = None }

-- the value of a form: a place is read
abbrev pub read_of : Form → Expr
read_of (f.Value core) = core
read_of (f.Place core bar) = x.Read core

-- a field, one component, an element: of a place it is a place, which can be written where that can
abbrev pub field_form : ℕ → Form → Form
field_form n (f.Value core) = f.Value (x.Field n core)
field_form n (f.Place core bar) = f.Place (p.FieldOf n core) bar

abbrev pub component_form : ℕ → Form → Form
component_form n (f.Value core) = f.Value (x.Swizzle (n ∷ []) core)
component_form n (f.Place core bar) = f.Place (p.Component n core) bar

abbrev pub element_form : Form → Expr → Form
element_form (f.Value core) i = f.Value (x.Element core i)
element_form (f.Place core bar) i = f.Place (p.ElementOf core i) bar

-- between int and uint, where the sign is another
abbrev pub same_sign : Bool → Bool → Bool
same_sign true u = u
same_sign false u = not u

abbrev pub with_sign : Bool → Numeric → Expr → Expr
with_sign u n core = cond (same_sign u n.is_unsigned) core (x.Convert core)

-- a single number beside a vector is repeated
abbrev pub with_size : ℕ → Numeric → Expr → Expr
with_size size n core = cond (nat_eq n.size size) core (x.Repeat size core)

abbrev pub number_expr : Bool → ℕ → Expr
number_expr true n = x.Uint n
number_expr false n = x.Int n

abbrev pub truth_expr : Bool → Expr
truth_expr true = x.True
truth_expr false = x.False

abbrev pub fixed_typing : Fixed → Typing
fixed_typing c = value (number_type (is_uint c.scalar)) (number_expr (is_uint c.scalar) c.bits)

abbrev pub call_layer : Expr-F Call Expr Given PlaceTerm → Option Call
call_layer (e.Call c) = Some c
call_layer other = None

-- the call that an expression is
abbrev pub call_of : Expr → Option Call
call_of core = call_layer (out-Expr core)
