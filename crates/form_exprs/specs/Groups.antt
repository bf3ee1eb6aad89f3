-- Expressions of one shape: those alternatives of the grammar's form of an expression.
use Rattle.form_grammar.specs.Grammar.{Form, Expr, Term, part, num, range, list, tag, alt, ◌▹◌, unary, binary}

-- one expression, behind an operator, numbers, or nothing
abbrev pub one_operand : Form
one_operand =
    alt 5 (unary ▹ part Expr) (alt 10 (part Expr) (alt 12 (range 0 255 ▹ part Expr) (alt 13 (list (range 0 255) ▹ part Expr) (tag 14 (num ▹ part Expr)))))

-- two expressions
abbrev pub two_operands : Form
two_operands =
    alt 6 (binary ▹ part Expr ▹ part Expr) (alt 7 (part Expr ▹ part Expr) (alt 8 (part Expr ▹ part Expr) (tag 15 (part Expr ▹ part Expr))))

-- a type, and a list of expressions
abbrev pub many_operands : Form
many_operands = alt 11 (part Term ▹ list (part Expr)) (tag 17 (part Term ▹ list (part Expr)))
