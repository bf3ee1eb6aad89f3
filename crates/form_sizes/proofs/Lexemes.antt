-- How many bytes a lexeme has at least: a uint has a suffix or begins with `0x`.
use Rattle.std.proofs.Common.{◌≡◌, ℕ, zero, suc, ◌+◌, ◌<◌, ◌≤◌, Bool, true, false, List, [], ◌∷◌, take, length, Option, Some, None, if◌then◌else◌, refl, sym, ◌∙◌, ap, arith}
use Rattle.std.specs.Prelude.{nat_le, ◌==◌}
use Rattle.slang_names.specs.declared.codes.ModuleCode.{ModuleCode}
use Rattle.slang_names.specs.declared.codes.ModuleCode.TheVariants as c
use Rattle.slang_names.specs.declared.numbers.NumberKind.{NumberKind}
use Rattle.slang_names.specs.declared.numbers.NumberKind.TheVariants as sign
use Rattle.slang_tokens.specs.declared.bytes.Radix.TheVariants as radix
use Rattle.slang_tokens.specs.declared.bytes.Set.TheVariants as set
use Rattle.slang_tokens.specs.declared.tokens.Mark.{Mark}
use Rattle.slang_tokens.specs.declared.tokens.Word.{Word}
use Rattle.slang_tokens.specs.declared.tokens.Kind.{Kind}
use Rattle.slang_tokens.specs.declared.tokens.Kind.TheVariants as k
use Rattle.slang_tokens.specs.declared.lexemes.Lexeme.{Lexeme}
use Rattle.slang_tokens.specs.declared.lexemes.Lexeme.TheVariants as x
use Rattle.slang_tokens.specs.Bytes.{is_letter, is_digit, is_blank, is_in, run, all, value}
use Rattle.slang_tokens.specs.Tables.{mark_of, word_of, refused_of}
use Rattle.slang_tokens.specs.Words.{word, is_float, is_whole_matrix, used, unless_refused}
use Rattle.slang_tokens.specs.Lexemes.{ends, name, number_of, suffix, decimal, decimal_by, number, string, slash, mark_or_byte, mark, lexeme, IsLongest}

-- ---- the least number of bytes

abbrev pub least_number : NumberKind → ℕ
least_number sign.Int = 1
least_number sign.Uint = 2

abbrev pub least : Kind → ℕ
least (k.Number v) = least_number v.kind
least _ = 1

-- ---- of one byte

abbrev least_lexeme : Lexeme → ℕ
least_lexeme (x.Token kind) = least kind
least_lexeme _ = 1

abbrev least_of : Option Lexeme → ℕ
least_of (Some l) = least_lexeme l
least_of None = 1

least_used : (w : Option Word) → least_lexeme (used w) ≡ 1
least_used (Some w) = refl
least_used None = refl

least_unless : (code : Option ModuleCode) (bytes : List ℕ) → least_lexeme (unless_refused code bytes) ≡ 1
least_unless (Some code) bytes = refl
least_unless None bytes = least_used (word_of bytes)

least_word : (bytes : List ℕ) → least_lexeme (word bytes) ≡ 1
unfolding word
least_word bytes = by (is_float bytes) (is_whole_matrix bytes)
  where
    by : (a b : Bool) → least_lexeme (if a then x.Refused c.Float else (if b then x.Refused c.Unsupported else unless_refused (refused_of bytes) bytes)) ≡ 1
    by true b = refl
    by false true = refl
    by false false = least_unless (refused_of bytes) bytes

least_name : (bytes : List ℕ) → least_of (name bytes) ≡ 1
least_name bytes = by (all (is_in set.Word) bytes)
  where
    by : (b : Bool) → least_of (if b then Some (word bytes) else None) ≡ 1
    by true = least_word bytes
    by false = refl

-- decimal digits alone
least_digits : (v : Option ℕ) → least_lexeme (number_of radix.Decimal false v) ≡ 1
least_digits None = refl
least_digits (Some v) = by (nat_le v 2147483647)
  where
    by : (b : Bool) → least_lexeme (if b then x.Token (k.Number (record { value = v; kind = sign.Int })) else x.Refused c.NumberRange) ≡ 1
    by true = refl
    by false = refl

least_decimal : (b : ℕ) → is_digit b ≡ true → least_of (decimal (b ∷ [])) ≡ 1
unfolding run
least_decimal b e = ap (λ (t : Bool). least_of (decimal_by (if t then 1 + 0 else 0) (b ∷ []))) e ∙ least_digits (value radix.Decimal (b ∷ []))

least_mark : (m : Option Mark) (b : ℕ) → least_of (mark_or_byte m b []) ≡ 1
least_mark (Some m) b = refl
least_mark None b = by (b == 35)
  where
    by : (t : Bool) → least_lexeme (if t then x.Refused c.Preprocessor else x.Refused c.BadByte) ≡ 1
    by true = refl
    by false = refl

-- by the tests of the first byte
least_first : (b : ℕ) (l d q s w : Bool) → is_digit b ≡ d →
    least_of (if l then name (b ∷ []) else (if d then number b (b ∷ []) [] else (if q then string [] else (if s then slash (b ∷ []) [] else (if w then ends [] x.Blank else mark b (b ∷ []) []))))) ≡ 1
unfolding run
least_first b true d q s w e = least_name (b ∷ [])
least_first b false true q s w e = by (b == 48)
  where
    by : (t : Bool) → least_of (if t then suffix radix.Decimal [] [] else decimal (b ∷ [])) ≡ 1
    by true = least_digits (value radix.Decimal [])
    by false = least_decimal b e
least_first b false false true s w e = refl
least_first b false false false true w e = least_mark (mark_of (b ∷ [])) 47
least_first b false false false false true e = refl
least_first b false false false false false e = least_mark (mark_of (b ∷ [])) b

least_byte : (b : ℕ) → least_of (lexeme (b ∷ [])) ≡ 1
unfolding lexeme
least_byte b = least_first b (is_letter b) (is_digit b) (b == 34) (b == 47) (is_blank b) refl

-- ---- of any length

least_small : (kind : Kind) → least kind ≤ 2
least_small (k.Number v) = by v.kind
  where
    by : (s : NumberKind) → least_number s ≤ 2
    by sign.Int = omega arith
    by sign.Uint = omega arith
least_small (k.Word w) = omega arith
least_small (k.Mark m) = omega arith
least_small k.Name = omega arith
least_small k.String = omega arith

least_one : (text : List ℕ) (kind : Kind) → 1 ≤ length text → lexeme (take 1 text) ≡ Some (x.Token kind) → least kind ≡ 1
least_one [] kind h e = absurd (omega arith)
least_one (b ∷ bs) kind h e = sym (ap least_of e) ∙ least_byte b

least_len : (text : List ℕ) (kind : Kind) (len : ℕ) → 0 < len → len ≤ length text → lexeme (take len text) ≡ Some (x.Token kind) → least kind ≤ len
least_len text kind zero s w e = absurd (omega arith)
least_len text kind (suc zero) s w e = let h = least_one text kind (omega arith) e in omega (arith, h)
least_len text kind (suc (suc n)) s w e = let h = least_small kind in omega (arith, h)

pub at_least : (text : List ℕ) (kind : Kind) (len : ℕ) → IsLongest text (x.Token kind) len → least kind ≤ len
at_least text kind len h = least_len text kind len h.some h.within h.is
