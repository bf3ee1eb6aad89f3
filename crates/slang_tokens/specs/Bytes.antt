-- Sets of bytes, and runs of them.
use Rattle.std.specs.Prelude.{ℕ, ◌+◌, ◌-◌, ◌*◌, Bool, true, not, ◌&&◌, ◌||◌, if◌then◌else◌, ◌==◌, nat_le, List, [], ◌∷◌, Option, Some, None}
use Rattle.slang_tokens.specs.declared.bytes.Set.{Set}
use Rattle.slang_tokens.specs.declared.bytes.Set.TheVariants as set
use Rattle.slang_tokens.specs.declared.bytes.Radix.{Radix}
use Rattle.slang_tokens.specs.declared.bytes.Radix.TheVariants as radix

abbrev pub is_letter : ℕ → Bool
is_letter b = (nat_le 65 b && nat_le b 90) || (nat_le 97 b && nat_le b 122) || b == 95

abbrev pub is_digit : ℕ → Bool
is_digit b = nat_le 48 b && nat_le b 57

-- a digit of a hexadecimal number
abbrev pub is_hexadecimal : ℕ → Bool
is_hexadecimal b = is_digit b || (nat_le 65 b && nat_le b 70) || (nat_le 97 b && nat_le b 102)

-- a byte between the quotes of a string: visible ASCII and the space, without `"` and `\`
abbrev pub is_quotable : ℕ → Bool
is_quotable b = nat_le 32 b && nat_le b 126 && not (b == 34) && not (b == 92)

-- tab, line feed, carriage return, space
abbrev pub is_blank : ℕ → Bool
is_blank b = b == 9 || b == 10 || b == 13 || b == 32

abbrev pub is_in : Set → ℕ → Bool
is_in set.Word b = is_letter b || is_digit b
is_in set.Decimal b = is_digit b
is_in set.Hexadecimal b = is_hexadecimal b
is_in set.Quotable b = is_quotable b
is_in set.Line b = not (b == 10)

-- how many bytes from the front on pass
unfoldable pub run : (ℕ → Bool) → List ℕ → ℕ
run p [] = 0
run p (b ∷ bs) = if p b then 1 + run p bs else 0

-- whether all pass
unfoldable pub all : (ℕ → Bool) → List ℕ → Bool
all p [] = true
all p (b ∷ bs) = p b && all p bs

abbrev pub base : Radix → ℕ
base radix.Decimal = 10
base radix.Hexadecimal = 16

-- `a` and `A` are ten
abbrev pub digit_value : ℕ → ℕ
digit_value b = if is_digit b then b - 48 else (if nat_le 97 b then b - 87 else b - 55)

-- the value of the digits behind digits of that value, to the base
unfoldable pub value_from : ℕ → ℕ → List ℕ → ℕ
value_from n value [] = value
value_from n value (b ∷ bs) = value_from n (value * n + digit_value b) bs

-- a value that 32 bits hold
abbrev pub fits : ℕ → Option ℕ
fits value = if nat_le value 4294967295 then Some value else None

-- the value of the digits, where 32 bits hold it
unfoldable pub value : Radix → List ℕ → Option ℕ
value radix digits = fits (value_from (base radix) 0 digits)
