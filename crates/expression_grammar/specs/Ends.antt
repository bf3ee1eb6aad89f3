-- With what an expression goes on.
use Rattle.std.specs.Prelude.{Bool, true, false, Option, Some, None}
use Rattle.slang_tokens.specs.declared.tokens.Kind.{Kind}
use Rattle.slang_tokens.specs.declared.tokens.Kind.TheVariants as k
use Rattle.slang_tokens.specs.declared.tokens.Mark.TheVariants as m
use Rattle.slang_reading.specs.Lexed.{Lexed}
use Rattle.slang_grammar.specs.Tables.{binary_of}
use Rattle.slang_grammar.specs.ExpressionsDescent.{is_some}

-- a member, an index, a call, a choice or an operator
abbrev pub goes_on_by : Kind → Bool
goes_on_by (k.Mark m.Dot) = true
goes_on_by (k.Mark m.OpenBracket) = true
goes_on_by (k.Mark m.OpenParen) = true
goes_on_by (k.Mark m.Question) = true
goes_on_by (k.Mark mark) = is_some (binary_of mark)
goes_on_by _ = false

-- what an expression goes on with, where it stands behind one
abbrev pub goes_on : Option Lexed → Bool
goes_on (Some t) = goes_on_by t.kind
goes_on None = false
