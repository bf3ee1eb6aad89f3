-- Which bytes are a lexeme, and what they are. A text is cut into the longest lexemes that begin at each place; what
-- is refused is a lexeme too, so that every text has one cutting.
use Rattle.std.specs.Prelude.{◌≡◌, ◌<◌, ◌≤◌, ℕ, ◌+◌, Bool, true, false, ◌&&◌, ◌||◌, if◌then◌else◌, ◌==◌, nat_le, List, [], ◌∷◌, take, drop, length, Option, Some, None}
use Rattle.slang_names.specs.declared.codes.ModuleCode.TheVariants as c
use Rattle.slang_names.specs.declared.numbers.NumberKind.{NumberKind}
use Rattle.slang_names.specs.declared.numbers.NumberKind.TheVariants as sign
use Rattle.slang_tokens.specs.declared.bytes.Set.TheVariants as set
use Rattle.slang_tokens.specs.declared.bytes.Radix.{Radix}
use Rattle.slang_tokens.specs.declared.bytes.Radix.TheVariants as radix
use Rattle.slang_tokens.specs.declared.tokens.Mark.{Mark}
use Rattle.slang_tokens.specs.declared.tokens.Kind.TheVariants as k
use Rattle.slang_tokens.specs.declared.lexemes.Lexeme.{Lexeme}
use Rattle.slang_tokens.specs.declared.lexemes.Lexeme.TheVariants as x
use Rattle.slang_tokens.specs.Bytes.{is_letter, is_digit, is_blank, is_in, run, all, value}
use Rattle.slang_tokens.specs.Tables.{mark_of}
use Rattle.slang_tokens.specs.Words.{word}

-- that lexeme, if nothing more stands there
abbrev pub ends : List ℕ → Lexeme → Option Lexeme
ends [] lexeme = Some lexeme
ends (b ∷ bs) lexeme = None

-- ---- names and words

abbrev pub name : List ℕ → Option Lexeme
name bytes = if all (is_in set.Word) bytes then Some (word bytes) else None

-- ---- numbers

abbrev pub number_token : NumberKind → ℕ → Lexeme
number_token kind v = x.Token (k.Number (record { value = v; kind = kind }))

abbrev pub is_hex : Radix → Bool
is_hex radix.Decimal = false
is_hex radix.Hexadecimal = true

-- A number with a suffix is a uint. Without one it is an int up to 2147483647; above that a hexadecimal one is a
-- uint, and a decimal one fits nothing.
abbrev pub number_of : Radix → Bool → Option ℕ → Lexeme
number_of radix suffixed None = x.Refused c.NumberRange
number_of radix suffixed (Some v) =
    if suffixed then number_token sign.Uint v
    else (if nat_le v 2147483647 then number_token sign.Int v
    else (if is_hex radix then number_token sign.Uint v else x.Refused c.NumberRange))

-- `u` and `U`
abbrev pub is_suffix : ℕ → Bool
is_suffix b = b == 117 || b == 85

-- `.`, `e`, `E`, `f` and `F` directly behind decimal digits make a floating-point number
abbrev pub is_float_mark : Radix → ℕ → Bool
is_float_mark radix.Decimal b = b == 46 || b == 101 || b == 69 || b == 102 || b == 70
is_float_mark radix.Hexadecimal b = false

-- a number, and the one byte behind its digits
abbrev pub one_more : Radix → List ℕ → ℕ → Option Lexeme
one_more radix digits b =
    if is_suffix b then Some (number_of radix true (value radix digits))
    else (if is_float_mark radix b then Some (x.Refused c.Float)
    else (if is_in set.Word b then Some (x.Refused c.BadToken) else None))

-- a number, and the two bytes behind its digits
abbrev pub two_more : ℕ → ℕ → Option Lexeme
two_more b d = if is_suffix b && is_in set.Word d then Some x.RunsOn else None

-- the digits of a number, and what stands behind them
abbrev pub suffix : Radix → List ℕ → List ℕ → Option Lexeme
suffix radix digits [] = Some (number_of radix false (value radix digits))
suffix radix digits (b ∷ []) = one_more radix digits b
suffix radix digits (b ∷ d ∷ []) = two_more b d
suffix radix digits (b ∷ d ∷ e ∷ bs) = None

abbrev pub decimal_by : ℕ → List ℕ → Option Lexeme
decimal_by n bytes = suffix radix.Decimal (take n bytes) (drop n bytes)

-- a decimal number that does not begin with 0
abbrev pub decimal : List ℕ → Option Lexeme
decimal bytes = decimal_by (run is_digit bytes) bytes

-- behind `0x`, of which so many are digits: without one it is the number 0, and a letter behind it
abbrev pub hexadecimal_by : ℕ → List ℕ → Option Lexeme
hexadecimal_by n bytes =
    if n == 0 then ends bytes (x.Refused c.BadToken) else suffix radix.Hexadecimal (take n bytes) (drop n bytes)

abbrev pub hexadecimal : List ℕ → Option Lexeme
hexadecimal bytes = hexadecimal_by (run (is_in set.Hexadecimal) bytes) bytes

-- `x` and `X`
abbrev pub is_radix : ℕ → Bool
is_radix b = b == 120 || b == 88

-- behind `0` and that byte; the byte with what follows it, and what follows it
abbrev pub zero_by : ℕ → List ℕ → List ℕ → Option Lexeme
zero_by b rest more = if is_radix b then hexadecimal more else suffix radix.Decimal [] rest

-- behind `0`
abbrev pub zero_number : List ℕ → Option Lexeme
zero_number [] = suffix radix.Decimal [] []
zero_number (b ∷ bs) = zero_by b (b ∷ bs) bs

-- that first digit, and the whole
abbrev pub number : ℕ → List ℕ → List ℕ → Option Lexeme
number b whole rest = if b == 48 then zero_number rest else decimal whole

-- ---- strings

-- behind the bytes of a string, at that byte
abbrev pub string_by : ℕ → List ℕ → Option Lexeme
string_by b rest = if b == 34 then ends rest (x.Token k.String) else Some (x.Refused c.BadToken)

-- behind the bytes of a string: its end, or no string
abbrev pub string_end : List ℕ → Option Lexeme
string_end [] = Some (x.Refused c.BadToken)
string_end (b ∷ bs) = string_by b bs

-- behind the first quote; a string that is not closed runs on to the end
abbrev pub string : List ℕ → Option Lexeme
string bytes = string_end (drop (run (is_in set.Quotable) bytes) bytes)

-- ---- comments

abbrev pub option_suc : Option ℕ → Option ℕ
option_suc None = None
option_suc (Some n) = Some (n + 1)

-- how many bytes it takes to be past the first `*/`; the flag says whether the byte before is a star
unfoldable pub close : Bool → List ℕ → Option ℕ
close star [] = None
close star (b ∷ bs) = if star && b == 47 then Some 1 else option_suc (close (b == 42) bs)

-- a comment of that length, of which so many bytes are there; one that is not closed runs on to the end
abbrev pub comment_by : Option ℕ → ℕ → Option Lexeme
comment_by None n = Some (x.Refused c.BadToken)
comment_by (Some m) n = if m == n then Some x.Blank else None

-- behind `/*`
abbrev pub comment : List ℕ → Option Lexeme
comment bytes = comment_by (close false bytes) (length bytes)

-- behind `//`
abbrev pub line : List ℕ → Option Lexeme
line bytes = if all (is_in set.Line) bytes then Some x.Blank else None

-- ---- marks

-- a byte that begins no token
abbrev pub bad_byte : ℕ → Lexeme
bad_byte b = if b == 35 then x.Refused c.Preprocessor else x.Refused c.BadByte

abbrev pub mark_or_byte : Option Mark → ℕ → List ℕ → Option Lexeme
mark_or_byte (Some m) b rest = Some (x.Token (k.Mark m))
mark_or_byte None b rest = ends rest (bad_byte b)

-- that first byte, the whole, and what stands behind the byte
abbrev pub mark : ℕ → List ℕ → List ℕ → Option Lexeme
mark b whole rest = mark_or_byte (mark_of whole) b rest

-- behind `/` and that byte; the whole, the byte with what follows it, and what follows it
abbrev pub slash_by : ℕ → List ℕ → List ℕ → List ℕ → Option Lexeme
slash_by b whole rest more = if b == 47 then line more else (if b == 42 then comment more else mark 47 whole rest)

-- behind `/`: a comment or a mark
abbrev pub slash : List ℕ → List ℕ → Option Lexeme
slash whole [] = mark 47 whole []
slash whole (b ∷ bs) = slash_by b whole (b ∷ bs) bs

-- ---- lexemes

-- by the first byte; the whole, and what stands behind that byte
abbrev pub by_first : ℕ → List ℕ → List ℕ → Option Lexeme
by_first b whole rest =
    if is_letter b then name whole
    else (if is_digit b then number b whole rest
    else (if b == 34 then string rest
    else (if b == 47 then slash whole rest
    else (if is_blank b then ends rest x.Blank else mark b whole rest))))

-- whether these bytes are a lexeme, and which
unfoldable pub lexeme : List ℕ → Option Lexeme
lexeme [] = None
lexeme (b ∷ bs) = by_first b (b ∷ bs) bs

-- the first so many bytes are that lexeme, and no longer front of the text is a lexeme
pub record IsLongest (text : List ℕ) (found : Lexeme) (len : ℕ) : Type 0 where
  pub some : 0 < len
  pub within : len ≤ length text
  pub is : lexeme (take len text) ≡ Some found
  pub longest : (n : ℕ) → len < n → n ≤ length text → lexeme (take n text) ≡ None

-- no front of the text that is longer than that is a lexeme
unfoldable pub Bounds : List ℕ → ℕ → Type 0
Bounds text most = (n : ℕ) → most < n → n ≤ length text → lexeme (take n text) ≡ None
