-- The lines of statements, and what they leave in force.
use Rattle.std.specs.Prelude.{ℕ, ◌+◌, Bool, true, false, ◌&&◌, ◌||◌, not, cond, nat_eq, nat_lt, zero, suc, List, [], ◌∷◌, ◌++◌, length, take, slice_get, Option, Some, None}
use Rattle.slang_names.specs.declared.places.Place.{Place}
use Rattle.slang_names.specs.declared.codes.ModuleCode.TheVariants as k
use Rattle.slang_names.specs.declared.places.Value.TheVariants as v
use Rattle.slang_tree.specs.declared.expressions.BinaryOperator.{BinaryOperator}
use Rattle.slang_tree.specs.declared.statements.Step.{Step}
use Rattle.slang_tree.specs.declared.statements.Step.TheVariants as step
use Rattle.slang_core.specs.declared.types.TypeTerm.{TypeTerm, out-TypeTerm}
use Rattle.slang_core.specs.declared.types.TypeTerm.TheVariants as ty
use Rattle.slang_core.specs.declared.types.Arg.{Arg}
use Rattle.slang_core.specs.declared.types.Arg.TheOpen.{TypeTerm-F}
use Rattle.slang_core.specs.declared.types.Arg.TheOpen as l
use Rattle.slang_core.specs.declared.bodies.Expr.{Expr}
use Rattle.slang_core.specs.declared.bodies.Expr.TheVariants as ex
use Rattle.slang_core.specs.declared.bodies.Stat.{Stat}
use Rattle.slang_core.specs.declared.bodies.Stat.TheVariants as s
use Rattle.slang_core.specs.declared.bodies.BinaryOp.{BinaryOp}
use Rattle.slang_core.specs.declared.bodies.BinaryOp.TheVariants as b
use Rattle.slang_core.specs.declared.bodies.PlaceTerm.{PlaceTerm}
use Rattle.slang_core.specs.declared.bodies.Conversions.{Conversions}
use Rattle.type_terms.specs.declared.typings.Numeric.{Numeric}
use Rattle.type_terms.specs.declared.typings.Typing.{Typing}
use Rattle.type_terms.specs.Types.{is_void, is_bool, is_uint, number_type, numeric_of}
use Rattle.type_terms.specs.Forms.{value, read_of, number_expr, call_of, with_sign, with_size}
use Rattle.plans.specs.Plans.{Verdict, Good, Held, Wrong}
use Rattle.plans.specs.Lines.{demand, found, known, and_then}
use Rattle.module_scope.specs.declared.heads.Outline.{Outline}
use Rattle.module_scope.specs.declared.frames.InForce.{InForce}
use Rattle.module_scope.specs.declared.frames.Local.{Local}
use Rattle.module_scope.specs.declared.frames.Frame.{Frame}
use Rattle.module_scope.specs.Known.{field_type, fields_at, struct_number}
use Rattle.type_lines.specs.declared.answers.LocalGiven.{LocalGiven}
use Rattle.type_lines.specs.declared.answers.OperatorKind.{OperatorKind}
use Rattle.type_lines.specs.declared.answers.OperatorKind.TheVariants as kind
use Rattle.type_lines.specs.Asked.{operator_kind, is_there}
use Rattle.declared_names.specs.declared.declared.FieldAt.{FieldAt}
use Rattle.type_lines.specs.ValueLines.{fitted, core_of, joint_size}
use Rattle.type_lines.specs.CallLines.{written}

-- ---- changes

abbrev pub assign_line : Place → Typing → Typing → Verdict Stat
assign_line p a b = and_then (written p a.form) (λ core. and_then (fitted p b a.of) (λ e. Good (s.Assign core e)))

abbrev pub conversions : Bool → Conversions
conversions c = record { read = c; result = c }

-- the value of `op=`, which a single number may be where the place is a vector
abbrev pub fits_into : Numeric → Numeric → Bool
fits_into m n = nat_eq n.size 1 || nat_eq n.size m.size

-- where the place is of int and the value of uint, what is read is converted, and the result back
abbrev pub changed : BinaryOp → PlaceTerm → Typing → Numeric → Numeric → Stat
changed op core a m n = s.Change op (conversions (not m.is_unsigned && n.is_unsigned)) core (with_size m.size n (with_sign (m.is_unsigned || n.is_unsigned) n (core_of a)))

abbrev pub shifted : BinaryOp → PlaceTerm → Typing → Numeric → Numeric → Stat
shifted op core a m n = s.Change op (conversions false) core (with_size m.size n (core_of a))

abbrev pub of_fitting : Option Numeric → Option Numeric → (Numeric → Numeric → Stat) → Option Stat
of_fitting (Some m) (Some n) f = cond (fits_into m n) (Some (f m n)) None
of_fitting m n f = None

abbrev pub updated : OperatorKind → PlaceTerm → Typing → Typing → Option Stat
updated (kind.Arithmetic op) core a b = of_fitting (numeric_of a.of) (numeric_of b.of) (changed op core b)
updated (kind.Shift op) core a b = of_fitting (numeric_of a.of) (numeric_of b.of) (shifted op core b)
updated other core a b = None

abbrev pub update_line : Place → BinaryOperator → Typing → Typing → Verdict Stat
update_line p op a b = and_then (written p a.form) (λ core. found (updated (operator_kind op) core a b) p k.Mismatch (λ x. Good x))

abbrev pub step_op : Step → BinaryOp
step_op step.Increment = b.Add
step_op step.Decrement = b.Subtract

abbrev pub one_of : Numeric → Expr
one_of n = cond (nat_eq n.size 1) (number_expr n.is_unsigned 1) (ex.Repeat n.size (number_expr n.is_unsigned 1))

abbrev pub step_line : Place → Step → Typing → Verdict Stat
step_line p op a = and_then (written p a.form) (λ core. found (numeric_of a.of) p k.Mismatch (λ n. Good (s.Change (step_op op) (conversions false) core (one_of n))))

abbrev pub run_line : Place → Typing → Verdict Stat
run_line p a = found (call_of (core_of a)) p k.NotCallable (λ c. Good (s.Run c))

-- ---- lists in braces

abbrev pub type_of_field : Outline → Option FieldAt → Option TypeTerm
type_of_field o (Some f) = field_type o f
type_of_field o None = None

-- the type of a struct's field by its number
abbrev pub struct_element : Outline → ℕ → Option ℕ → Option TypeTerm
struct_element o i (Some n) = type_of_field o (slice_get (fields_at o.declared n) i)
struct_element o i None = None

-- the type of an element by its number: of an array and a vector all are of one type, a struct's are its fields, and all
-- else has none
abbrev pub element_layer : Outline → TypeTerm → ℕ → TypeTerm-F Arg TypeTerm → Option TypeTerm
element_layer o t i (l.Array e (v.Number n)) = cond (nat_lt i n) (Some e) None
element_layer o t i (l.Vector s n) = cond (nat_lt i n) (Some (number_type (is_uint s))) None
element_layer o t i (l.Struct r args) = struct_element o i (struct_number o.declared t)
element_layer o t i other = None

abbrev pub element_at : Outline → TypeTerm → ℕ → Option TypeTerm
element_at o t i = element_layer o t i (out-TypeTerm t)

-- so many items have an element each: the last one has
abbrev pub last_has : Outline → TypeTerm → ℕ → Bool
last_has o t zero = true
last_has o t (suc n) = is_there (element_at o t n)

-- each item as its element, from that number on
abbrev pub item_given : Place → Option TypeTerm → Typing → Verdict Expr
item_given p (Some t) a = fitted p a t
item_given p None a = Wrong p k.ArgumentCount

abbrev pub items_from : Outline → Place → TypeTerm → ℕ → List Typing → Verdict (List Expr)
items_from o p t i [] = Good []
items_from o p t i (a ∷ xs) = and_then (item_given p (element_at o t i) a) (λ e. and_then (items_from o p t (i + 1) xs) (λ es. Good (e ∷ es)))

abbrev pub with_item : Option Typing → Option (List Typing) → Option (List Typing)
with_item (Some a) (Some xs) = Some (a ∷ xs)
with_item a xs = None

abbrev pub all_there : List (Option Typing) → Option (List Typing)
all_there [] = Some []
all_there (x ∷ xs) = with_item x (all_there xs)

-- a list for something of that type
abbrev pub list_line : Outline → Place → TypeTerm → List (Option Typing) → Verdict Typing
list_line o p t items = demand (last_has o t (length items)) p k.ArgumentCount (known (all_there items) (λ xs. and_then (items_from o p t 0 xs) (λ es. Good (value t (ex.List t es)))))

-- ---- locals

abbrev pub local_stat : Place → LocalGiven → Option Typing → Verdict Stat
local_stat p x None = Good (s.Local x.number (ex.Zero x.of))
local_stat p x (Some a) = and_then (fitted p a x.of) (λ e. Good (s.Local x.number e))

abbrev pub locals_line : Place → List LocalGiven → Verdict (List Stat)
locals_line p [] = Good []
locals_line p (x ∷ xs) = and_then (demand (not (is_void x.of)) p k.Mismatch (local_stat p x x.value)) (λ y. and_then (locals_line p xs) (λ ys. Good (y ∷ ys)))

-- ---- what is in force

abbrev pub no_locals : InForce
no_locals = record { names = []; locals = [] }

-- one more block
abbrev pub entered : Frame → Frame
entered f = record { blocks = f.blocks ++ no_locals ∷ []; types = f.types; first = f.first }

-- the first blocks alone
abbrev pub left : ℕ → Frame → Frame
left n f = record { blocks = take n f.blocks; types = f.types; first = f.first }

abbrev pub next_number : Frame → ℕ
next_number f = f.first + length f.types

abbrev pub one_local : List ℕ → Local → InForce → InForce
one_local name x b = record { names = b.names ++ name ∷ []; locals = b.locals ++ x ∷ [] }

-- in the innermost block
abbrev pub in_last : List ℕ → Local → List InForce → List InForce
in_last name x [] = []
in_last name x (b ∷ []) = one_local name x b ∷ []
in_last name x (b ∷ bs) = b ∷ in_last name x bs

-- one more local, from here on in force
abbrev pub with_local : List ℕ → TypeTerm → Bool → Frame → Frame
with_local name t const f = record { blocks = in_last name (record { number = next_number f; of = t; is_const = const }) f.blocks; types = f.types ++ t ∷ []; first = f.first }

-- ---- the other statements

abbrev pub nothing_done : Stat
nothing_done = s.Block []

-- several statements where one is wanted stand in a block
abbrev pub single : List Stat → Stat
single (x ∷ []) = x
single xs = s.Block xs

abbrev pub condition_line : Place → Typing → Verdict Expr
condition_line p a = demand (is_bool a.of) p k.Mismatch (Good (core_of a))

abbrev pub return_line : Place → TypeTerm → Option Typing → Verdict Stat
return_line p t None = demand (is_void t) p k.Mismatch (Good s.Return)
return_line p t (Some a) = and_then (fitted p a t) (λ e. Good (s.ReturnValue e))

abbrev pub jump_line : Place → Bool → Stat → Verdict Stat
jump_line p in_loop x = demand in_loop p k.OutsideLoop (Good x)
