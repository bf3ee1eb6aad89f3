-- What the operators make of words; a bool is the word 0 or 1.
use Rattle.std.specs.Prelude.{ℕ, Bool, not, cond, nat_eq, nat_lt, nat_le, Option, Some}
use Rattle.behavior.specs.Operations.{word_add, word_sub, word_mul, word_negate, word_not, word_udiv, word_umod, word_sdiv, word_srem, word_slt, word_sle, word_shl, word_shr, word_sar, word_and, word_or, word_xor}
use Rattle.flat_values.specs.declared.operators.Unary.{Unary}
use Rattle.flat_values.specs.declared.operators.Unary.TheVariants.{Negate, Not, Flip}
use Rattle.flat_values.specs.declared.operators.Binary.{Binary}
use Rattle.flat_values.specs.declared.operators.Binary.TheVariants.{Add, Sub, Mul, UDiv, SDiv, UMod, SRem, ShiftLeft, ShiftRight, ShiftRightSigned, And, Or, Xor, Equal, NotEqual, ULess, ULessEqual, SLess, SLessEqual}

-- the word of a bool
abbrev pub word_of : Bool → ℕ
word_of b = cond b 1 0

abbrev pub unary_of : Unary → ℕ → ℕ
unary_of Negate a = word_negate a
unary_of Not a = word_not a
unary_of Flip a = word_of (nat_eq a 0)

abbrev pub binary_of : Binary → ℕ → ℕ → Option ℕ
binary_of Add a b = Some (word_add a b)
binary_of Sub a b = Some (word_sub a b)
binary_of Mul a b = Some (word_mul a b)
binary_of UDiv a b = word_udiv a b
binary_of SDiv a b = word_sdiv a b
binary_of UMod a b = word_umod a b
binary_of SRem a b = word_srem a b
binary_of ShiftLeft a b = word_shl a b
binary_of ShiftRight a b = word_shr a b
binary_of ShiftRightSigned a b = word_sar a b
binary_of And a b = Some (word_and a b)
binary_of Or a b = Some (word_or a b)
binary_of Xor a b = Some (word_xor a b)
binary_of Equal a b = Some (word_of (nat_eq a b))
binary_of NotEqual a b = Some (word_of (not (nat_eq a b)))
binary_of ULess a b = Some (word_of (nat_lt a b))
binary_of ULessEqual a b = Some (word_of (nat_le a b))
binary_of SLess a b = Some (word_of (word_slt a b))
binary_of SLessEqual a b = Some (word_of (word_sle a b))
