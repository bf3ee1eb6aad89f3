-- The lines of operators, casts, constructed values and choices.
use Rattle.std.specs.Prelude.{ℕ, ◌+◌, Bool, true, false, ◌&&◌, ◌||◌, not, cond, nat_eq, List, [], ◌∷◌, length, map, sum, Option, Some, None, option_and_then}
use Rattle.slang_names.specs.declared.places.Place.{Place}
use Rattle.slang_names.specs.declared.codes.ModuleCode.TheVariants as k
use Rattle.slang_tree.specs.declared.types.Builtin.{Builtin}
use Rattle.slang_tree.specs.declared.expressions.UnaryOperator.{UnaryOperator}
use Rattle.slang_tree.specs.declared.expressions.UnaryOperator.TheVariants as o
use Rattle.slang_core.specs.declared.types.TypeTerm.{TypeTerm}
use Rattle.slang_core.specs.declared.types.TypeTerm.TheVariants as ty
use Rattle.slang_core.specs.declared.bodies.Expr.{Expr}
use Rattle.slang_core.specs.declared.bodies.Expr.TheVariants as x
use Rattle.slang_core.specs.declared.bodies.BinaryOp.{BinaryOp}
use Rattle.slang_core.specs.declared.bodies.UnaryOp.TheVariants as u
use Rattle.type_terms.specs.declared.typings.Numeric.{Numeric}
use Rattle.type_terms.specs.declared.typings.Typing.{Typing}
use Rattle.type_terms.specs.Types.{is_void, is_bool, is_resource, numeric, numeric_of, type_of_numeric, same}
use Rattle.type_terms.specs.Forms.{value, read_of, same_sign, with_sign, with_size}
use Rattle.plans.specs.Plans.{Verdict, Good, Held, Wrong}
use Rattle.plans.specs.Lines.{demand, found, known}
use Rattle.type_lines.specs.declared.answers.Denoted.{Denoted}
use Rattle.type_lines.specs.declared.answers.Denoted.TheVariants as d
use Rattle.type_lines.specs.declared.answers.OperatorKind.{OperatorKind}
use Rattle.type_lines.specs.declared.answers.OperatorKind.TheVariants as kind
use Rattle.type_lines.specs.Asked.{builtin_type, operator_kind}

abbrev pub core_of : Typing → Expr
core_of a = read_of a.form

abbrev pub as_value : TypeTerm → Expr → Denoted
as_value t core = d.Value (value t core)

-- ---- conversions

-- between numbers of one size
abbrev pub converted_number : Option Numeric → Option Numeric → Expr → Option Expr
converted_number (Some m) (Some n) core = cond (nat_eq m.size n.size) (Some (with_sign n.is_unsigned m core)) None
converted_number m n core = None

-- the value as one of another type: of the same type, or between int and uint, and vectors of them
abbrev pub converted : Typing → TypeTerm → Option Expr
converted a t = cond (is_void t) None (cond (same a.of t) (Some (core_of a)) (converted_number (numeric_of a.of) (numeric_of t) (core_of a)))

-- the value for something of that type
abbrev pub fitted : Place → Typing → TypeTerm → Verdict Expr
fitted p a t = found (converted a t) p k.Mismatch (λ core. Good core)

-- ---- operators

abbrev pub unary_line : Place → UnaryOperator → Typing → Verdict Denoted
unary_line p o.Plus a = found (numeric_of a.of) p k.Mismatch (λ n. Good (as_value a.of (core_of a)))
unary_line p o.Minus a = found (numeric_of a.of) p k.Mismatch (λ n. Good (as_value a.of (x.Unary u.Negate (core_of a))))
unary_line p o.Complement a = found (numeric_of a.of) p k.Mismatch (λ n. Good (as_value a.of (x.Unary u.Complement (core_of a))))
unary_line p o.Not a = demand (is_bool a.of) p k.Mismatch (Good (as_value ty.Bool (x.Unary u.Not (core_of a))))

-- the size of both operands, where one may be a single number
abbrev pub joint_size : ℕ → ℕ → Option ℕ
joint_size m n = cond (nat_eq m n) (Some m) (cond (nat_eq m 1) (Some n) (cond (nat_eq n 1) (Some m) None))

-- an operand of that sign and size
abbrev pub operand : Bool → ℕ → Numeric → Typing → Expr
operand unsigned size n a = with_size size n (with_sign unsigned n (core_of a))

abbrev pub arithmetic : BinaryOp → Typing → Typing → Numeric → Numeric → ℕ → Typing
arithmetic op a b m n size = value (type_of_numeric (numeric (m.is_unsigned || n.is_unsigned) size))
    (x.Binary op (operand (m.is_unsigned || n.is_unsigned) size m a) (operand (m.is_unsigned || n.is_unsigned) size n b))

-- a shift converts neither operand
abbrev pub shift : BinaryOp → Typing → Typing → Numeric → Numeric → ℕ → Typing
shift op a b m n size = value (type_of_numeric (numeric m.is_unsigned size)) (x.Binary op (with_size size m (core_of a)) (with_size size n (core_of b)))

-- single numbers alone are compared
abbrev pub order : BinaryOp → Typing → Typing → Numeric → Numeric → Option Typing
order op a b m n = cond (nat_eq m.size 1 && nat_eq n.size 1)
    (Some (value ty.Bool (x.Binary op (operand (m.is_unsigned || n.is_unsigned) 1 m a) (operand (m.is_unsigned || n.is_unsigned) 1 n b)))) None

abbrev pub of_size : Option ℕ → (ℕ → Typing) → Option Typing
of_size (Some size) f = Some (f size)
of_size None f = None

abbrev pub of_numbers : Option Numeric → Option Numeric → (Numeric → Numeric → Option Typing) → Option Typing
of_numbers (Some m) (Some n) f = f m n
of_numbers m n f = None

abbrev pub of_truths : Typing → Typing → (Expr → Expr → Expr) → Option Typing
of_truths a b f = cond (is_bool a.of && is_bool b.of) (Some (value ty.Bool (f (core_of a) (core_of b)))) None

abbrev pub or_else : Option Typing → Option Typing → Option Typing
or_else (Some a) b = Some a
or_else None b = b

abbrev pub operated : OperatorKind → Typing → Typing → Option Typing
operated kind.And a b = of_truths a b x.And
operated kind.Or a b = of_truths a b x.Or
operated (kind.Arithmetic op) a b = of_numbers (numeric_of a.of) (numeric_of b.of) (λ m n. of_size (joint_size m.size n.size) (arithmetic op a b m n))
operated (kind.Shift op) a b = of_numbers (numeric_of a.of) (numeric_of b.of) (λ m n. of_size (joint_size m.size n.size) (shift op a b m n))
operated (kind.Order op) a b = of_numbers (numeric_of a.of) (numeric_of b.of) (order op a b)
operated (kind.Equality op) a b = or_else (of_truths a b (x.Binary op)) (of_numbers (numeric_of a.of) (numeric_of b.of) (order op a b))

abbrev pub binary_line : Place → OperatorKind → Typing → Typing → Verdict Denoted
binary_line p op a b = found (operated op a b) p k.Mismatch (λ t. Good (d.Value t))

abbrev pub cast_line : Place → Builtin → Typing → Verdict Denoted
cast_line p w a = found (converted a (builtin_type w)) p k.Mismatch (λ core. Good (as_value (builtin_type w) core))

-- ---- values by a word

abbrev pub with_number : Option Numeric → Option (List Numeric) → Option (List Numeric)
with_number (Some n) (Some ns) = Some (n ∷ ns)
with_number n ns = None

abbrev pub all_numeric : List Typing → Option (List Numeric)
all_numeric [] = Some []
all_numeric (a ∷ xs) = with_number (numeric_of a.of) (all_numeric xs)

abbrev pub components : List Numeric → ℕ
components ns = sum (map (λ n. n.size) ns)

abbrev pub all_signed : Bool → List Numeric → List Typing → List Expr
all_signed u (n ∷ ns) (a ∷ xs) = with_sign u n (core_of a) ∷ all_signed u ns xs
all_signed u ns xs = []

-- one part is converted, several make a vector, each converted as a whole
abbrev pub constructed : TypeTerm → Numeric → List Numeric → List Typing → Expr
constructed t n (m ∷ []) (a ∷ []) = with_sign n.is_unsigned m (core_of a)
constructed t n ms xs = x.Vector t (all_signed n.is_unsigned ms xs)

abbrev pub construct_line : Place → Builtin → List Typing → Verdict Denoted
construct_line p w xs = found (numeric_of (builtin_type w)) p k.Mismatch (λ n. found (all_numeric xs) p k.Mismatch (λ ns.
    demand (nat_eq (components ns) n.size) p k.ArgumentCount (Good (as_value (builtin_type w) (constructed (builtin_type w) n ns xs)))))

-- ---- choices

abbrev pub chosen_numbers : Typing → Typing → Typing → Option Numeric → Option Numeric → Option Typing
chosen_numbers c a b (Some m) (Some n) = cond (nat_eq m.size n.size)
    (Some (value (type_of_numeric (numeric true m.size)) (x.Choose (core_of c) (with_sign true m (core_of a)) (with_sign true n (core_of b))))) None
chosen_numbers c a b m n = None

-- both of one type that is not void, or numbers of one size, of which the one of int is converted
abbrev pub chosen : Typing → Typing → Typing → Option Typing
chosen c a b = cond (is_void a.of) None (cond (same a.of b.of) (Some (value a.of (x.Choose (core_of c) (core_of a) (core_of b))))
    (chosen_numbers c a b (numeric_of a.of) (numeric_of b.of)))

abbrev pub choice_line : Place → Typing → Typing → Typing → Verdict Denoted
choice_line p c a b = demand (is_bool c.of) p k.Mismatch (found (chosen c a b) p k.Mismatch (λ t. demand (not (is_resource t.of)) p k.ResourcePlace (Good (d.Value t))))
