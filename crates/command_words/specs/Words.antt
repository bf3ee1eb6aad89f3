-- What a word of a command can be: a name, a file of the folder, a number.
use Rattle.std.specs.Prelude.{ℕ, Bool, ◌&&◌, ◌||◌, ◌==◌, not, nat_le, List, length, codes, Option, Some, None, if◌then◌else◌, bytes_eq, slice_index}
use Rattle.std.specs.List.{list_all}
use Rattle.std.specs.Str.Parse.{digits_value}
use Rattle.slang_names.specs.Letters.{is_digit, is_word_byte, is_name}

-- a name of at most 64 bytes
abbrev pub is_short_name : List ℕ → Bool
is_short_name word = is_name word && nat_le (length word) 64

-- letters, digits, `_`, `-` and `.`
abbrev pub is_file_byte : ℕ → Bool
is_file_byte b = is_word_byte b || b == 45 || b == 46

-- the folder itself, or the one around it
abbrev pub is_folder : List ℕ → Bool
is_folder word = bytes_eq word (codes ".") || bytes_eq word (codes "..")

-- a file of the folder: 1 to 255 such bytes
abbrev pub is_file_name : List ℕ → Bool
is_file_name word = list_all is_file_byte word && nat_le 1 (length word) && nat_le (length word) 255 && not (is_folder word)

-- digits, and no 0 before others
abbrev pub is_number : List ℕ → Bool
is_number word = list_all is_digit word && nat_le 1 (length word) && (nat_le (length word) 1 || not (slice_index word 0 == 48))

abbrev pub up_to : ℕ → ℕ → Option ℕ
up_to limit n = if nat_le n limit then Some n else None

-- the number that the word is, if it is one of at most the limit
abbrev pub number_within : ℕ → List ℕ → Option ℕ
number_within limit word = if is_number word then up_to limit (digits_value 10 word) else None
