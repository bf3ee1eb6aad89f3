-- Operators on words give words.
use Rattle.std.proofs.Common.{◌≡◌, ℕ, zero, suc, ◌+◌, ◌-◌, ◌*◌, ◌/◌, ◌%◌, ◌^◌, ◌<◌, ◌≤◌, ◌⊎◌, inl, inr, Bool, true, false, not, ◌&&◌, cond, List, [], ◌∷◌, length, get_or, map, Option, Some, None, refl, sym, ap, subst, ◌∙◌, arith}
use Rattle.std.specs.Prelude.{int_div, int_rem, nat_eq, nat_lt, nat_le, bit_and, bit_or, bit_xor, ℤ, pos, negsuc}
use Rattle.std.specs.Int.{w32, cast_signed, cast_unsigned, bit_not}
use Rattle.std.specs.List.{All, AllByRecursion}
use Rattle.std.proofs.Math.Nat.{mod-lt, mod-le, div-le_self}
use Rattle.std.proofs.Math.Facts.{to_z_pos, to_z-neg}
use Rattle.std.proofs.Math.IntN.{neg_ℤ, nat_abs}
use Rattle.std.proofs.lemmas.Bool.{cases_lt}
use Rattle.std.proofs.lemmas.Nat.{and_le_l, or_lt, xor_lt}
use Rattle.spirv_words.specs.Machine.{if_some}
use Rattle.behavior.specs.Operations.{word_add, word_sub, word_mul, word_negate, word_not, word_udiv, word_umod, word_sdiv, word_srem, word_slt, word_sle, word_shl, word_shr, word_sar, word_and, word_or, word_xor, can_divide}
use Rattle.flat_values.specs.declared.operators.Unary.{Unary}
use Rattle.flat_values.specs.declared.operators.Unary.TheVariants.{Negate, Not, Flip}
use Rattle.flat_values.specs.declared.operators.Binary.{Binary}
use Rattle.flat_values.specs.declared.operators.Binary.TheVariants.{Add, Sub, Mul, UDiv, SDiv, UMod, SRem, ShiftLeft, ShiftRight, ShiftRightSigned, And, Or, Xor, Equal, NotEqual, ULess, ULessEqual, SLess, SLessEqual}
use Rattle.flat_values.specs.Operators.{word_of, unary_of, binary_of}
use Rattle.flat_values.specs.Lanes.{GivesWords, each_of, both_of}
use Rattle.flat_values.specs.Ranges.{Stands}
use Rattle.flat_values.proofs.Standing.{stands_at}
use Rattle.run_laws.specs.Together.{IsWord}

-- ---- words that stand among words

pub word_at : (ws : List ℕ) (k d : ℕ) → AllByRecursion IsWord ws → k < length ws → get_or ws k d < 2 ^ 32
word_at (w ∷ ws) zero d h l = h.0
word_at (w ∷ ws) (suc k) d h l = word_at ws k d h.1 (omega arith)
word_at [] k d h l = absurd (omega arith)

pub words_there : (xs ws : List ℕ) (place : ℕ) → Stands xs place ws → AllByRecursion IsWord ws → All (λ w. w < 2 ^ 32) xs
words_there xs ws place s h k d l =
    let i = s.inside in
    subst (λ (w : ℕ). w < 2 ^ 32) (stands_at xs place ws s k d l) (word_at ws (place + k) d h (omega arith))

-- ---- operators

flag_small : (b : Bool) → word_of b < 2 ^ 32
flag_small true = omega arith
flag_small false = omega arith

gives_if : (b : Bool) (w : ℕ) → w < 2 ^ 32 → GivesWords (cond b (Some w) None)
gives_if true w h = h
gives_if false w h = tt

gives_unless : (b : Bool) (w : ℕ) → w < 2 ^ 32 → GivesWords (cond b None (Some w))
gives_unless true w h = tt
gives_unless false w h = h

neg_small : (n : ℕ) → cast_unsigned w32 (neg_ℤ (pos n)) < 2 ^ 32
neg_small zero = omega arith
neg_small (suc n) = omega arith

-- the number without its sign is a word
abbrev IsNear : ℤ → Type 0
IsNear (pos n) = n < 2 ^ 32
IsNear (negsuc n) = suc n < 2 ^ 32

quot_small : (x y : ℤ) → IsNear x → cast_unsigned w32 (int_div x y) < 2 ^ 32
quot_small (pos a) (pos b) h = omega (arith, div-le_self a b)
quot_small (pos a) (negsuc b) h = neg_small (a / suc b)
quot_small (negsuc a) (pos b) h = neg_small (suc a / b)
quot_small (negsuc a) (negsuc b) h = omega (arith, div-le_self (suc a) (suc b))

rem_small : (x y : ℤ) → IsNear x → cast_unsigned w32 (int_rem x y) < 2 ^ 32
rem_small (pos a) y h = omega (arith, mod-le a (nat_abs y))
rem_small (negsuc a) y h = neg_small (suc a % nat_abs y)

near : (a : ℕ) → a < 2 ^ 32 → IsNear (cast_signed w32 a)
near a h = either (cases_lt a (2 ^ 31))
  where
    either : (a < 2 ^ 31) ⊎ (2 ^ 31 ≤ a) → IsNear (cast_signed w32 a)
    either (inl l) = subst IsNear (sym (to_z_pos w32 l)) h
    either (inr g) =
        let k : ℕ = 2 ^ 32 - 1 - a in
        let e : a ≡ 2 ^ 32 - suc k = omega arith in
        let l : k < 2 ^ 31 = omega arith in
        let n : suc k < 2 ^ 32 = omega arith in
        subst IsNear (sym (ap (cast_signed w32) e ∙ to_z-neg w32 k l)) n

sar_small : (b : Bool) (a k : ℕ) → a < 2 ^ 32 → cond b (a / 2 ^ k) (2 ^ 32 - 1 - (2 ^ 32 - 1 - a) / 2 ^ k) < 2 ^ 32
sar_small true a k h = omega (arith, div-le_self a (2 ^ k))
sar_small false a k h = omega arith

pub unary_small : (op : Unary) (a : ℕ) → a < 2 ^ 32 → unary_of op a < 2 ^ 32
unary_small Negate a h = mod-lt (2 ^ 32 - a) (omega arith)
unary_small Not a h = let n : 2 ^ 32 - 1 - a < 2 ^ 32 = omega arith in n
unary_small Flip a h = flag_small (nat_eq a 0)

pub binary_small : (op : Binary) (a b : ℕ) → a < 2 ^ 32 → b < 2 ^ 32 → GivesWords (binary_of op a b)
binary_small Add a b g h = mod-lt (a + b) (omega arith)
binary_small Sub a b g h = mod-lt (a + (2 ^ 32 - b)) (omega arith)
binary_small Mul a b g h = mod-lt (a * b) (omega arith)
binary_small UDiv a b g h = gives_unless (nat_eq b 0) (a / b) (omega (arith, div-le_self a b))
binary_small SDiv a b g h = gives_if (can_divide a b) _ (quot_small (cast_signed w32 a) (cast_signed w32 b) (near a g))
binary_small UMod a b g h = gives_unless (nat_eq b 0) (a % b) (omega (arith, mod-le a b))
binary_small SRem a b g h = gives_if (can_divide a b) _ (rem_small (cast_signed w32 a) (cast_signed w32 b) (near a g))
binary_small ShiftLeft a b g h = gives_if (nat_lt b 32) ((a * 2 ^ b) % 2 ^ 32) (mod-lt (a * 2 ^ b) (omega arith))
binary_small ShiftRight a b g h = gives_if (nat_lt b 32) (a / 2 ^ b) (omega (arith, div-le_self a (2 ^ b)))
binary_small ShiftRightSigned a b g h = gives_if (nat_lt b 32) _ (sar_small (nat_lt a (2 ^ 31)) a b g)
binary_small And a b g h = omega (arith, and_le_l a b)
binary_small Or a b g h = or_lt 32 a b g h
binary_small Xor a b g h = xor_lt 32 a b g h
binary_small Equal a b g h = flag_small (nat_eq a b)
binary_small NotEqual a b g h = flag_small (not (nat_eq a b))
binary_small ULess a b g h = flag_small (nat_lt a b)
binary_small ULessEqual a b g h = flag_small (nat_le a b)
binary_small SLess a b g h = flag_small (word_slt a b)
binary_small SLessEqual a b g h = flag_small (word_sle a b)

-- ---- operators without exception on words in a row

pub each_total : (f : ℕ → ℕ) (ws : List ℕ) → each_of (λ x. Some (f x)) ws ≡ Some (map f ws)
each_total f [] = refl
each_total f (w ∷ ws) = ap (λ o. if_some o None (λ xs. Some (f w ∷ xs))) (each_total f ws)
