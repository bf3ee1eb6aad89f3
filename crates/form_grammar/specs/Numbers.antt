-- Reading a number: from left to right, up to the first byte with which no number goes on.
use Rattle.std.specs.Prelude.{◌≡◌, ℕ, ◌+◌, ◌-◌, ◌*◌, ◌/◌, List, [], ◌∷◌, length, take, drop, Result, Ok, Err, nat_lt, nat_le, nat_eq, if◌then◌else◌, ◌⊎◌, ◌&&◌, not}
use Rattle.slang_names.specs.declared.form_codes.FormCode.{FormCode}
use Rattle.slang_names.specs.declared.form_codes.FormCode.TheVariants.{Short, NotCanonical, FormLimit}
use Rattle.form_grammar.specs.declared.codes.Stop.{Stop}

-- what stands at the front, and the bytes behind it
abbrev pub Found : Type 0 → Type 0
Found A = Result (A × List ℕ) Stop

unfoldable pub after : {A B : Type 0} → Found A → (A × List ℕ → Found B) → Found B
after (Ok x) f = f x
after (Err e) f = Err e

-- the bytes end too early
abbrev pub short : {A : Type 0} → Found A
short = Err (record { code = Short; left = 0 })

-- the first of these bytes is refused
abbrev pub refused : {A : Type 0} → FormCode → List ℕ → Found A
refused code bytes = Err (record { code = code; left = length bytes })

-- a number from 1 to the limit, whose digits by 128 are each the greatest
unfoldable pub digits_at : ℕ → List ℕ → Found ℕ
digits_at limit [] = short
digits_at limit (b ∷ bytes) =
    if nat_lt b 128 then (if nat_le b limit && not (nat_eq b 0) then Ok (b, bytes) else refused NotCanonical (b ∷ bytes))
    else (if nat_lt limit 128 then refused NotCanonical (b ∷ bytes) else after (digits_at (limit / 128) bytes) (λ high. Ok (b - 128 + 128 * high.0, high.1)))

-- the limits that occur: of a number, of a text's length, and what is left of them behind some digits
abbrev pub IsLimit : ℕ → Type 0
IsLimit n = (n ≡ 4294967295) ⊎ ((n ≡ 33554431) ⊎ ((n ≡ 262143) ⊎ ((n ≡ 2047) ⊎ ((n ≡ 15) ⊎ ((n ≡ 255) ⊎ (n ≡ 1))))))

-- a number from 0 to 4294967295
unfoldable pub number_at : List ℕ → Found ℕ
number_at [] = short
number_at (b ∷ bytes) = if nat_eq b 0 then Ok (0, bytes) else digits_at 4294967295 (b ∷ bytes)

-- a length from 1 to 255, and that many bytes
unfoldable pub text_at : List ℕ → Found (List ℕ)
text_at bytes = after (digits_at 255 bytes) (λ n. if nat_lt (length n.1) n.0 then short else Ok (take n.0 n.1, drop n.0 n.1))

-- a count of items: one over 65,536 is refused at its last byte
unfoldable pub count_at : List ℕ → Found ℕ
count_at bytes = after (number_at bytes) (λ n. if nat_lt 65536 n.0 then Err (record { code = FormLimit; left = length n.1 + 1 }) else Ok n)
